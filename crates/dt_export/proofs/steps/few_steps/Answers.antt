use Rattle.std.proofs.Common.{◌≡◌, true, false, nat_le, ◌&&◌, length, sym, rules}
use Rattle.dt_export.specs.declared.steps.TheConstants.{STEP_LIMIT}
use Rattle.dt_export.proofs.Counted.{limited}
use Rattle.dt_export.proofs.steps.few_steps.Goals as goal

pub returns-then-not-are_few : goal.returns-then-not-are_few
returns-then-not-are_few c =
    let few : (nat_le 1 (length c.args.items.now) && nat_le (length c.args.items.now) STEP_LIMIT) ≡ false = search rules in
    sym (limited c.args.items.now false few)

pub returns : goal.returns
returns c =
    let few : (nat_le 1 (length c.args.items.now) && nat_le (length c.args.items.now) STEP_LIMIT) ≡ true = search rules in
    rw (limited c.args.items.now true few) c.steps_in.ensures
