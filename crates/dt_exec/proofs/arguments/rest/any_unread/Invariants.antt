use Rattle.std.proofs.Common.{◌≡◌, drop}
use Rattle.std.specs.List.{list_any}
use Rattle.dt_exec.specs.inner.Rest.{is_unread}
use Rattle.dt_exec.proofs.Ended.{Ended}
use Rattle.dt_exec.proofs.arguments.rest.any_unread.Given as goal

abbrev pub invariant-loop-at : goal.invariant-loop-at
invariant-loop-at l = record {
  ended : Ended l.space l.start l.count;
  rest : list_any (is_unread l.space) (drop l.at-index l.addresses) ≡ list_any (is_unread l.space) l.addresses;
}
