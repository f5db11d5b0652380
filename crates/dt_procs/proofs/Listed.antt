-- Lists of processes with their pids at the host, and the processes alone.
use Rattle.std.proofs.Common.{◌≡◌, ◌∙◌, ℕ, ◌<◌, ◌||◌, Bool, true, false, cond, List, [], ◌∷◌, map, length, Option, Some, None, refl, sym, ap, subst}
use Rattle.std.proofs.Math.ListN.{get_or}
use Rattle.std.proofs.lemmas.List.{length-map, get_or-map}
use Rattle.std.specs.Prelude.{option_map, slice_index}
use Rattle.std.specs.List.{find, filter, list_any}
use Rattle.dt_procs.specs.declared.member.Member.{Member}
use Rattle.dt_procs.specs.declared.row.MemberRow.{MemberRow}
use Rattle.dt_procs.specs.Members.{has_pid, member_at, vpids_of}
use Rattle.dt_procs.specs.Table.{member_of}
use Rattle.dt_procs.specs.inner.Rows.{row_at}

-- the first process that passes a test is that of the first row
pub find-rows : (p : Member → Bool) (rows : List MemberRow)
    → find p (map member_of rows) ≡ option_map member_of (find (λ row. p row.member) rows)
find-rows p [] = refl
find-rows p (row ∷ rows) =
    elim (p row.member) as (λ b. cond b (Some row.member) (find p (map member_of rows)) ≡ option_map member_of (cond b (Some row) (find (λ row. p row.member) rows))) [
      | true ↦ refl
      | false ↦ find-rows p rows
    ]

-- some process passes a test where some row's does
pub list_any-rows : (p : Member → Bool) (rows : List MemberRow)
    → list_any p (map member_of rows) ≡ list_any (λ row. p row.member) rows
list_any-rows p [] = refl
list_any-rows p (row ∷ rows) = ap (λ b. p row.member || b) (list_any-rows p rows)

-- the processes that pass a test are those of the rows whose process does
pub filter-rows : (p : Member → Bool) (rows : List MemberRow)
    → filter p (map member_of rows) ≡ map member_of (filter (λ row. p row.member) rows)
filter-rows p [] = refl
filter-rows p (row ∷ rows) =
    elim (p row.member) as (λ b. cond b (row.member ∷ filter p (map member_of rows)) (filter p (map member_of rows)) ≡ map member_of (cond b (row ∷ filter (λ row. p row.member) rows) (filter (λ row. p row.member) rows))) [
      | true ↦ ap (λ rest. row.member ∷ rest) (filter-rows p rows)
      | false ↦ filter-rows p rows
    ]

pub ruleset by_rows = (find-rows, list_any-rows, filter-rows)

-- the process of a pid is that of its row
pub member_at-row : (rows : List MemberRow) (vpid : ℕ) (row : MemberRow) → row_at rows vpid ≡ Some row
    → member_at (map member_of rows) vpid ≡ Some row.member
member_at-row rows vpid row is = find-rows (has_pid vpid) rows ∙ ap (option_map member_of) is

pub member_at-none : (rows : List MemberRow) (vpid : ℕ) → row_at rows vpid ≡ None → member_at (map member_of rows) vpid ≡ None
member_at-none rows vpid is = find-rows (has_pid vpid) rows ∙ ap (option_map member_of) is

-- what was found in a list that is seen again
pub row_seen : (rows seen : List MemberRow) (vpid : ℕ) (found what : Option MemberRow) → seen ≡ rows → found ≡ row_at seen vpid
    → found ≡ what → row_at rows vpid ≡ what
row_seen rows seen vpid found what same is there = ap (λ (l : List MemberRow). row_at l vpid) (sym same) ∙ sym is ∙ there

-- the pid of a process is that of its row
pub vpid-at : (rows : List MemberRow) (k : ℕ) (row : MemberRow) → k < length (vpids_of (map member_of rows)) → row ≡ get_or rows k row → slice_index (vpids_of (map member_of rows)) k ≡ row.member.vpid
vpid-at rows k row within is =
    let vpid = λ (m : Member). m.vpid in
    let members = length-map (map member_of rows) vpid in
    let count = length-map rows member_of in
    get_or-map vpid (map member_of rows) k row.member 0 (subst (λ n. k < n) members within)
    ∙ ap vpid (get_or-map member_of rows k row row.member (subst (λ n. k < n) (members ∙ count) within))
    ∙ ap (λ (r : MemberRow). r.member.vpid) (sym is)
