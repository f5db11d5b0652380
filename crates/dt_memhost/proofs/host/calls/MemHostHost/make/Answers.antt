use Rattle.std.proofs.Common.{◌≡◌, ℕ, Bool, ap, subst, ◌∙◌}
use Rattle.dt_host.specs.Legal.{MadeAt}
use Rattle.dt_memhost.specs.declared.number.TheConstants.{INODE_NUMBERS}
use Rattle.dt_memhost.specs.Number.{IsChosenNumber, is_in_either}
use Rattle.dt_memhost.specs.Script.{Script, is_next_listed, after_call, after_draw, coming_word}
use Rattle.dt_memhost.specs.Host.{MakesNumber}
use Rattle.dt_memhost.specs.inner.Forest.{OrderedForest, world_of}
use Rattle.dt_memhost.proofs.Worlds.{host_of, unlisted, made_world, made_orders}
use Rattle.dt_memhost.proofs.host.calls.MemHostHost.make.Goals as goal

-- the number is the word's
by_word : (live : ℕ → Bool) (script begun : Script) (word n : ℕ) → begun ≡ after_call script → word ≡ coming_word begun → IsChosenNumber live INODE_NUMBERS word n → IsChosenNumber live INODE_NUMBERS (coming_word script) n
by_word live script begun word n begins is chosen = subst (λ word. IsChosenNumber live INODE_NUMBERS word n) (is ∙ ap coming_word begins) chosen

pub returns-clause-exact : goal.returns-clause-exact
returns-clause-exact c =
    let o = c.self.inside.forest in
    let pids = c.self.inside.pids in
    let script = c.self.inside.script in
    let kind = c.args.kind in
    let n = c.number_by-number.result in
    let number = c.number_by-number.ensures in
    let said : MakesNumber (host_of o pids script) kind (host_of c.make.new.self pids c.word.new.self) n = record {
      chosen = by_word (is_in_either o.forest.nodes o.pipes) script c.begin.new.self c.word.result n c.in_ok-begin.ensures.ok c.word.ensures.word number.chosen;
      view = ap (λ (o : OrderedForest). world_of o pids) c.in_ok-make.ensures.ok ∙ made_world o pids n kind number.free number.no_pipe;
      orders = ap (λ (o : OrderedForest). o.orders) c.in_ok-make.ensures.ok ∙ made_orders o pids n kind number.no_order;
      script = c.word.ensures.after ∙ ap after_draw c.in_ok-begin.ensures.ok;
    } in
    rw (← c.self.view_is) (unlisted _ _ (is_next_listed script) c.in_ok-begin.ensures.unlisted said)

pub returns-clause-legal : goal.returns-clause-legal
returns-clause-legal c =
    let o = c.self.inside.forest in
    let pids = c.self.inside.pids in
    let n = c.number_by-number.result in
    let number = c.number_by-number.ensures in
    let said : MadeAt (world_of o pids) c.args.kind (world_of c.make.new.self pids) n = record {
      positive = number.positive;
      free = number.free;
      no_pipe = number.no_pipe;
      made = ap (λ (o : OrderedForest). world_of o pids) c.in_ok-make.ensures.ok ∙ made_world o pids n c.args.kind number.free number.no_pipe;
    } in
    rw (← c.self.view_is) said
