use Rattle.std.proofs.Common.{◌≡◌, Some, sym, ap, subst}
use Rattle.std.specs.Prelude.{option_map}
use Rattle.dt_procs.specs.declared.member.Member.{Member}
use Rattle.dt_procs.specs.Members.{parent_pid}
use Rattle.dt_procs.specs.Table.{Table, members_of}
use Rattle.dt_procs.proofs.Listed.{member_at-row, row_seen}
use Rattle.dt_procs.proofs.pids.Pids.parent.Goals as goal

pub returns : goal.returns
returns c =
    let rows = c.self.inside.rows.items in
    let row = c.in_ok-row_at.field-0 in
    let is = row_seen rows _ c.args.vpid _ (Some row) c.deref.ensures.value c.row_at.ensures c.in_ok-row_at.was in
    subst (λ (t : Table). Some row.member.parent ≡ parent_pid (members_of t) c.args.vpid) c.self.view_is
    (sym (ap (option_map (λ (m : Member). m.parent)) (member_at-row rows c.args.vpid row is)))
