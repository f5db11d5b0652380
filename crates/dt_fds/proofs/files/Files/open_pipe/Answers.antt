use Rattle.std.proofs.Common.{◌≡◌, true, None, sym, ap, subst, ◌∙◌, arith}
use Rattle.std.specs.Prelude.{IsSome}
use Rattle.std.specs.FinMap.{get, insert}
use Rattle.dt_base.specs.Abi.{has_flag}
use Rattle.dt_base.specs.declared.abi.TheConstants.{O_CLOEXEC}
use Rattle.dt_tree.specs.Table.{tree_of, Stands}
use Rattle.dt_pipes.specs.Table.{pipes_of}
use Rattle.dt_fds.specs.Descriptions.{slot_at, with_opened}
use Rattle.dt_fds.specs.Ends.{AreCounted}
use Rattle.dt_fds.specs.OpenFiles.{pipes_at}
use Rattle.dt_fds.specs.Pipes.{with_new_pipe}
use Rattle.dt_fds.specs.Holding.{Holding, holding_of, read_end, write_end}
use Rattle.dt_fds.specs.Backs.{Backs, KeepsOthers}
use Rattle.dt_fds.proofs.Slots.{slot-opened_other, table-opened}
use Rattle.dt_fds.proofs.Piping.{backs-pipe, others-pipe, counted-pipe, next-free}
use Rattle.dt_fds.proofs.files.Files.open_pipe.Given as given
use Rattle.dt_fds.proofs.files.Files.open_pipe.Goals as goal
use Rattle.dt_fds.proofs.files.Files.open_pipe.Goals.{In_ok-put}

pub enter-requires-2-clause-table : goal.enter-requires-2-clause-table
enter-requires-2-clause-table g c =
    subst (λ f. IsSome (get f.tables c.args.pid)) (sym c.in_ok-enter.ensures.ok) (table-opened c.args.self.now.descriptors c.args.pid c.args.read c.read_end.result c.has_flag-cloexec.result)

pub enter-requires-2-clause-free : goal.enter-requires-2-clause-free
enter-requires-2-clause-free g c =
    ap (λ f. slot_at f c.args.pid c.args.write) c.in_ok-enter.ensures.ok
    ∙ slot-opened_other c.args.self.now.descriptors c.args.pid c.args.read c.args.write c.read_end.result c.has_flag-cloexec.result (λ same. omega (arith, c.requires.apart))
    ∙ c.requires.free_too

-- the end that is read from is open, and then the other
first_open : (g : given.Over) (c : In_ok-put g) → c.enter.new.self ≡ with_opened c.args.self.now.descriptors c.args.pid c.args.read (read_end c.args.self.now.pipes.next c.args.flags) (has_flag c.args.flags O_CLOEXEC)
first_open g c =
    c.in_ok-enter.ensures.ok
    ∙ (λ i. with_opened c.args.self.now.descriptors c.args.pid c.args.read ((c.read_end.ensures ∙ ap (λ q. read_end q c.args.flags) c.in_ok-q.ensures.number) i) (c.has_flag-cloexec.ensures i))

both_open : (g : given.Over) (c : In_ok-put g)
    → c.enter-2.new.self ≡ with_opened (with_opened c.args.self.now.descriptors c.args.pid c.args.read (read_end c.args.self.now.pipes.next c.args.flags) (has_flag c.args.flags O_CLOEXEC)) c.args.pid c.args.write (write_end c.args.self.now.pipes.next c.args.flags) (has_flag c.args.flags O_CLOEXEC)
both_open g c =
    c.in_ok-enter-2.ensures.ok
    ∙ (λ i. with_opened (first_open g c i) c.args.pid c.args.write ((c.write_end.ensures ∙ ap (λ q. write_end q c.args.flags) c.in_ok-q.ensures.number) i) (c.has_flag-cloexec.ensures i))

pub returns-clause-opened : goal.returns-clause-opened
returns-clause-opened g c = λ t i. holding_of t (record { contents = c.in_ok-q.ensures.pipes i; next = c.in_ok-q.ensures.next i }) (both_open g (goal.at.returns-clause-opened g c).In_ok-put i)

pub returns-clause-leaves : goal.returns-clause-leaves
returns-clause-leaves g c = λ table backed.
    let p = c.args.pid in
    let flags = c.args.flags in
    let world = g.H.Host.view c.args.host.now in
    let old = c.args.self.now in
    let f = old.descriptors in
    let m = pipes_at old world.pipes in
    let t = tree_of table world.forest in
    let made = c.in_ok-q.ensures in
    let cloexec = has_flag flags O_CLOEXEC in
    let one = with_opened f p c.args.read (read_end m.next flags) cloexec in
    let two = with_opened one p c.args.write (write_end m.next flags) cloexec in
    let ended = (goal.at.returns-clause-leaves g c).In_ok-put in
    let first : c.enter.new.self ≡ one = first_open g ended in
    let second : c.enter-2.new.self ≡ two = both_open g ended in
    let fresh_too = subst (λ g. get g.descs g.next ≡ None) first c.in_ok-enter-2.ensures.fresh in
    let none = next-free old.pipes world.pipes c.requires.piped.stands in
    let ends = c.in_ok-put.ensures.ok ∙ ap (λ q. insert old.ends q (record { read = true; write = true })) (c.from.ensures ∙ made.number) in
    let whole : ◌≡◌ {A = Holding} (holding_of (tree_of table (g.H.Host.view c.make.new.host).forest) (record { contents = pipes_of c.make.new.self (g.H.Host.view c.make.new.host).pipes; next = c.make.new.self.next }) c.enter-2.new.self) (holding_of t (with_new_pipe m) two) =
    (λ i. holding_of (tree_of table (made.rest.forest i)) (record { contents = made.pipes i; next = made.next i }) (second i)) in
    record {
      made = whole;
      backed = record {
        stands = subst (Stands table) (sym made.rest.forest) backed.stands;
        pipes = made.stands;
        ends = subst (λ e. AreCounted c.enter-2.new.self e) (sym ends) (subst (λ g. AreCounted g (insert old.ends m.next (record { read = true; write = true }))) (sym second)
            (counted-pipe m f p c.args.read c.args.write flags cloexec none c.in_ok-enter.ensures.fresh fresh_too old.ends backed.backs.ends backed.ends));
        backs = subst Backs (sym whole) (backs-pipe m f p c.args.read c.args.write flags cloexec none c.in_ok-enter.ensures.fresh fresh_too t backed.stands.tree backed.backs);
      };
      others = subst (KeepsOthers p (holding_of t m f)) (sym whole) (others-pipe m f p c.args.read c.args.write flags cloexec none c.in_ok-enter.ensures.fresh fresh_too t backed.stands.tree);
      rest = made.rest.pids;
      cause = record { later = made.cause.later; rose = λ failed. cc };
    }
