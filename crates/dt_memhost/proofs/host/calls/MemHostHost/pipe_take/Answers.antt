use Rattle.std.proofs.Common.{◌≡◌, ℕ, List, ◌++◌, take, drop, Ok, arith, refl, sym, ap, subst, ◌∙◌}
use Rattle.dt_host.specs.World.{HostPids, IsPipe, pipe_bytes, with_pipe}
use Rattle.dt_host.specs.Legal.{TakesSome}
use Rattle.dt_host.proofs.Pipes.{with_pipe-held}
use Rattle.dt_memhost.specs.Script.{Script, is_next_listed, after_call, coming_word}
use Rattle.dt_memhost.specs.Host.{HostState, TakesCount, moved_count, after_transfer, most_taken}
use Rattle.dt_memhost.specs.inner.Forest.{OrderedForest, world_of}
use Rattle.dt_memhost.proofs.Worlds.{host_of, unlisted}
use Rattle.dt_memhost.proofs.host.calls.MemHostHost.pipe_take.Goals as goal

module _ (o : OrderedForest) (pids : HostPids) (n : ℕ) (buffer : List ℕ) (is : IsPipe (world_of o pids) n) (none : most_taken (pipe_bytes (world_of o pids) n) buffer ≡ 0) where
  -- where there is nothing to move, nothing is moved, without a word
  takes_none : (script begun : Script) → begun ≡ after_call script → TakesCount (host_of o pids script) n buffer buffer (Ok 0) (host_of o pids begun)
  takes_none script begun begins =
      let w = world_of o pids in
      let word = coming_word script in
      record {
        chosen = ap (λ most. Ok (moved_count word most)) (sym none);
        prefix = ap (λ most. take (moved_count word most) (pipe_bytes w n) ++ drop (moved_count word most) buffer) (sym none);
        left = sym (with_pipe-held w n is) ∙ ap (λ most. with_pipe w n (drop (moved_count word most) (pipe_bytes w n))) (sym none);
        orders = refl;
        script = begins ∙ ap (after_transfer script) (sym none);
      }

  takes_nothing : TakesSome (world_of o pids) n buffer buffer (world_of o pids) 0
  takes_nothing = record {
    moved = record { within = omega arith; some = λ more. absurd (omega arith) };
    prefix = refl;
    left = sym (with_pipe-held (world_of o pids) n is);
  }

pub returns-then-most-eq0-clause-exact : goal.returns-then-most-eq0-clause-exact
returns-then-most-eq0-clause-exact c =
    let o = c.self.inside.forest in
    let pids = c.self.inside.pids in
    let script = c.self.inside.script in
    let is = subst (λ (s : HostState). IsPipe s.view c.args.ino) (sym c.self.view_is) c.requires in
    let none : most_taken (pipe_bytes (world_of o pids) c.args.ino) c.args.buf.now ≡ 0 = omega arith in
    let said = takes_none o pids c.args.ino c.args.buf.now is none script c.begin.new.self c.in_ok-begin.ensures.ok in
    rw (← c.self.view_is) (unlisted _ _ (is_next_listed script) c.in_ok-begin.ensures.unlisted said)

pub returns-then-most-eq0-clause-legal : goal.returns-then-most-eq0-clause-legal
returns-then-most-eq0-clause-legal c =
    let o = c.self.inside.forest in
    let pids = c.self.inside.pids in
    let is = subst (λ (s : HostState). IsPipe s.view c.args.ino) (sym c.self.view_is) c.requires in
    let none : most_taken (pipe_bytes (world_of o pids) c.args.ino) c.args.buf.now ≡ 0 = omega arith in
    rw (← c.self.view_is) (takes_nothing o pids c.args.ino c.args.buf.now is none)
