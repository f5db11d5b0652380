use Rattle.std.proofs.Common.{arith, ◌≡◌, None, sym, ap, subst, ◌∙◌}
use Rattle.std.specs.Prelude.{Option, IsSome}
use Rattle.std.specs.Ordering.{nat_cmp}
use Rattle.std.specs.FinMap.{FinMap, empty, get, insert}
use Rattle.dt_host.specs.declared.error.HostErr.TheVariants.{Failed, NoMemory}
use Rattle.dt_host.proofs.Asking.{passed_on}
use Rattle.dt_base.specs.declared.limits.TheConstants.{FIRST_PID}
use Rattle.dt_rv64.specs.declared.machine.Machine.{Machine}
use Rattle.dt_calls.specs.Container.{first_shared}
use Rattle.dt_calls.specs.InCode.{machines_at_home}
use Rattle.dt_calls.proofs.Homes.{home-first}
use Rattle.dt_calls.proofs.Settled.{paired-insert, paired-empty, place-here}
use Rattle.dt_calls.proofs.container.Container.install.Goals as goal

pub counted-requires-clause-paired : goal.counted-requires-clause-paired
counted-requires-clause-paired g c = λ q some.
    let places = c.in_ok-put.ensures.ok ∙ (λ i. insert (c.new-places.ensures i) (c.from.ensures i) None) in
    paired-insert c.in_ok-shared.shared.tasks empty FIRST_PID None (paired-empty c.in_ok-shared.shared.tasks) c.in_ok-shared.ensures.task q
    (subst (λ (m : FinMap nat_cmp (Option Machine)). IsSome (get m q)) places some)

pub returns-clause-sound : goal.returns-clause-sound
returns-clause-sound g c = record { shared = c.in_ok-shared.ensures.sound; paired = counted-requires-clause-paired g c.before; few = c.counted.ensures }

pub returns-clause-ok : goal.returns-clause-ok
returns-clause-ok g c =
    let places = c.in_ok-put.ensures.ok ∙ (λ i. insert (c.new-places.ensures i) (c.from.ensures i) None) in
    let shared = c.in_ok-shared.ensures.ok ∙ ap (λ t. first_shared t c.args.seed) c.in_ok-install.ensures.tree in
    let machines = ap machines_at_home places ∙ home-first FIRST_PID in
    (λ i. record { shared = shared i; machines = machines i; next = c.in_ok-shared.ensures.next i; events = c.new-3.ensures.items i })

pub returns-clause-lives : goal.returns-clause-lives
returns-clause-lives g c =
    let places = c.in_ok-put.ensures.ok ∙ (λ i. insert (c.new-places.ensures i) (c.from.ensures i) None) in
    record {
      task = c.in_ok-shared.ensures.task;
      place = subst (λ (m : FinMap nat_cmp (Option Machine)). IsSome (get m FIRST_PID)) (sym places) (place-here empty FIRST_PID None);
    }

pub returns-in_err-put-clause-cause : goal.returns-in_err-put-clause-cause
returns-in_err-put-clause-cause g c =
    record {
      later = omega (arith, c.new.ensures.asks.cause.later, c.install.ensures.cause.later, c.new-2.ensures.cause.later);
      rose = λ failed. let memory : NoMemory ≡ Failed = passed_on _ _ _ c.from_residual-in_err-put.ensures.1 failed in cc;
    }

pub returns-clause-cause : goal.returns-clause-cause
returns-clause-cause g c =
    record { later = omega (arith, c.new.ensures.asks.cause.later, c.install.ensures.cause.later, c.new-2.ensures.cause.later); rose = λ failed. cc }
