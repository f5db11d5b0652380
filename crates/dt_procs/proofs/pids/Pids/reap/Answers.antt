use Rattle.std.proofs.Common.{Some, None, not, map, sym, ap, subst, ◌∙◌, rules}
use Rattle.std.specs.Prelude.{IsSome}
use Rattle.std.proofs.lemmas.Bool.{false≢true}
use Rattle.std.proofs.lemmas.Fn.{filter_same}
use Rattle.dt_host.specs.World.{World}
use Rattle.dt_procs.specs.declared.row.MemberRow.{MemberRow}
use Rattle.dt_procs.specs.declared.member.Member.{Member}
use Rattle.dt_procs.specs.Members.{has_pid, member_at, without_member}
use Rattle.dt_procs.specs.Table.{Table, Stands, member_of, members_of}
use Rattle.dt_procs.proofs.Listed.{row_seen, member_at-none, filter-rows}
use Rattle.dt_procs.proofs.Standing.{host_pid-there, stands-without, table-without}
use Rattle.dt_procs.proofs.pids.Pids.reap.Goals as goal

pub unreachable-requires : goal.unreachable-requires
unreachable-requires g c =
    let rows = c.self.inside.rows.items in
    let is = row_seen rows _ c.args.vpid _ None c.deref.ensures.value c.row_at.ensures c.in_default.is in
    let there : IsSome (member_at (map member_of rows) c.args.vpid) = subst (λ (t : Table). IsSome (member_at (members_of t) c.args.vpid)) (sym c.self.view_is) c.requires.there in
    false≢true (subst IsSome (member_at-none rows c.args.vpid is) there)

pub drop_pid-requires : goal.drop_pid-requires
drop_pid-requires g c =
    let rows = c.self.inside.rows.items in
    let row = c.in-Some.field-0 in
    let is = row_seen rows _ c.args.vpid _ (Some row) c.deref.ensures.value c.row_at.ensures c.in-Some.is in
    let stands = subst (λ (t : Table). Stands t (g.H.Host.view c.args.host.now).pids) (sym c.self.view_is) c.requires.stands in
    stands.exact row.host_pid ∙ host_pid-there rows c.args.vpid row is

pub invariant_of-self : goal.invariant_of-self
invariant_of-self g c =
    let kept = filter_same _ (λ (r : MemberRow). not (has_pid c.args.vpid r.member)) _ (λ x b f' k. search rules) _ _ c.retain.ensures.filtered in
    table-without c.self.inside.rows.items _ c.args.vpid c.self.inside.next kept c.self.invariant

pub returns-clause-members : goal.returns-clause-members
returns-clause-members g c =
    let kept = filter_same _ (λ (r : MemberRow). not (has_pid c.args.vpid r.member)) _ (λ x b f' k. search rules) _ _ c.retain.ensures.filtered in
    ap (map member_of) kept ∙ sym (filter-rows (λ (m : Member). not (has_pid c.args.vpid m)) c.self.inside.rows.items)
    ∙ ap (λ (t : Table). without_member (members_of t) c.args.vpid) c.self.view_is

pub returns-clause-stands : goal.returns-clause-stands
returns-clause-stands g c =
    let kept = filter_same _ (λ (r : MemberRow). not (has_pid c.args.vpid r.member)) _ (λ x b f' k. search rules) _ _ c.retain.ensures.filtered in
    let rows = c.self.inside.rows.items in
    let row = c.in-Some.field-0 in
    let there = row_seen rows _ c.args.vpid _ (Some row) c.deref.ensures.value c.row_at.ensures c.in-Some.is in
    stands-without c.args.self.now rows _ c.args.vpid c.self.inside.next row _ _ c.self.view_is kept c.self.invariant
    c.requires.stands there (ap (λ (w : World). w.pids) c.in_ok-drop_pid.ensures.legal)
