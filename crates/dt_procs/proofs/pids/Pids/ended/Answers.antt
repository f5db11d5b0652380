use Rattle.std.proofs.Common.{List, ap, map, subst, sym, ◌∙◌}
use Rattle.dt_procs.specs.declared.row.MemberRow.{MemberRow}
use Rattle.dt_procs.specs.Members.{members_after_end}
use Rattle.dt_procs.specs.Table.{Table, IsTable, Stands, table_of, member_of, members_of}
use Rattle.dt_procs.proofs.Ending.{rows_ended, table-ended, stands-ended, ended-members}
use Rattle.dt_procs.proofs.pids.Pids.ended.Goals as goal

pub invariant_of-self : goal.invariant_of-self
invariant_of-self c =
    let rows = c.self.inside.rows.items in
    let now = rows_ended c.args.vpid c.args.end rows _ _ _ c.deref_mut.ensures.value c.end.ensures c.deref_mut.ensures.len in
    subst (λ (l : List MemberRow). IsTable (table_of l c.self.inside.next)) (sym now)
    (table-ended c.args.vpid c.args.end (table_of rows c.self.inside.next) c.self.invariant)

pub returns-clause-members : goal.returns-clause-members
returns-clause-members c =
    let rows = c.self.inside.rows.items in
    ap (map member_of) (rows_ended c.args.vpid c.args.end rows _ _ _ c.deref_mut.ensures.value c.end.ensures c.deref_mut.ensures.len)
    ∙ ended-members c.args.vpid c.args.end rows ∙ ap (λ (t : Table). members_after_end c.args.vpid c.args.end (members_of t)) c.self.view_is

pub returns-clause-stands : goal.returns-clause-stands
returns-clause-stands c = λ pids stands.
    let rows = c.self.inside.rows.items in
    let now = rows_ended c.args.vpid c.args.end rows _ _ _ c.deref_mut.ensures.value c.end.ensures c.deref_mut.ensures.len in
    subst (λ (l : List MemberRow). Stands (table_of l c.self.inside.next) pids) (sym now)
    (stands-ended c.args.vpid c.args.end (table_of rows c.self.inside.next) pids (subst (λ (t : Table). Stands t pids) (sym c.self.view_is) stands))
