-- What a wait finds.
use Rattle.std.proofs.Common.{◌≡◌, ◌≢◌, ℕ, ◌<◌, ◌≤◌, suc, zero, Bool, true, false, cond, List, [], ◌∷◌, map, length, get_or, Option, Some, None, refl, sym, ap, subst, ◌∙◌, arith, IsTrue}
use Rattle.std.specs.Prelude.{option_map, IsSome, Contains}
use Rattle.std.specs.List.{find, list_any}
use Rattle.std.proofs.lemmas.Bool.Decides.{nat_tests}
use Rattle.dt_base.specs.declared.event.End.{End}
use Rattle.dt_procs.specs.declared.member.Member.{Member}
use Rattle.dt_procs.specs.declared.member.Reaped.{Reaped}
use Rattle.dt_procs.specs.declared.member.Reaped.TheVariants.{Got, NoneReady, NoChild}
use Rattle.dt_procs.specs.declared.row.MemberRow.{MemberRow}
use Rattle.dt_procs.specs.Members.{member_at, is_child, is_ready, no_zombie, got_or, ready_or, look_for}
use Rattle.dt_procs.specs.Table.{Table, table_of, member_of, members_of, IsRising}
use Rattle.dt_procs.specs.Laws.{WaitFindsTheLowest}
use Rattle.dt_procs.specs.inner.Rows.{ready_row}
use Rattle.dt_procs.proofs.Pairs.{AllPairs-head, AllPairs-tail}
use Rattle.dt_procs.proofs.Listed.{find-rows, list_any-rows}
use Rattle.dt_procs.proofs.Standing.{Rises}

-- a wait over rows
pub look_for-rows : (rows : List MemberRow) (parent : ℕ) (which : Option ℕ)
    → look_for (map member_of rows) parent which
    ≡ ready_or (no_zombie (list_any (λ row. is_child parent which row.member) rows)) (option_map member_of (ready_row rows parent which))
unfolding look_for
look_for-rows rows parent which =
    rw (find-rows (is_ready parent which) rows, list_any-rows (is_child parent which) rows) refl

-- a wait over the rows of a table, which it reads twice
pub looked : (t : Table) (rows seen again : List MemberRow) (next parent : ℕ) (which : Option ℕ) (rest : Reaped) (first : Option MemberRow)
    → table_of rows next ≡ t → seen ≡ rows → rest ≡ no_zombie (list_any (λ row. is_child parent which row.member) seen)
    → again ≡ rows → ready_row again parent which ≡ first
    → ready_or rest (option_map member_of first) ≡ look_for (members_of t) parent which
looked t rows seen again next parent which rest first view same other same_again is =
    let there : ready_row rows parent which ≡ first = subst (λ (l : List MemberRow). ready_row l parent which ≡ first) same_again is in
    let lacking : rest ≡ no_zombie (list_any (λ row. is_child parent which row.member) rows) =
    subst (λ (l : List MemberRow). rest ≡ no_zombie (list_any (λ row. is_child parent which row.member) l)) same other in
    subst (λ (t : Table). ready_or rest (option_map member_of first) ≡ look_for (members_of t) parent which) view
    (sym (look_for-rows rows parent which ∙ ap (λ r. ready_or r (option_map member_of (ready_row rows parent which))) (sym lacking)
    ∙ ap (λ (r : Option MemberRow). ready_or rest (option_map member_of r)) there))

-- a wait found this zombie
record Finds (members : List Member) (parent : ℕ) (which : Option ℕ) (vpid : ℕ) (end : End) : Type 0 where
  zombie : Member
  first : find (is_ready parent which) members ≡ Some zombie
  pid : zombie.vpid ≡ vpid
  ended : zombie.end ≡ Some end

not_got : (b : Bool) (vpid : ℕ) (end : End) → no_zombie b ≢ Got vpid end
not_got true vpid end is = let e : NoneReady ≡ Got vpid end = is in cc
not_got false vpid end is = let e : NoChild ≡ Got vpid end = is in cc

finds-end : (members : List Member) (parent : ℕ) (which : Option ℕ) (vpid : ℕ) (end : End) (b : Bool) (zombie : Member)
    → find (is_ready parent which) members ≡ Some zombie → (how : Option End) → zombie.end ≡ how
    → got_or (no_zombie b) zombie.vpid how ≡ Got vpid end → Finds members parent which vpid end
finds-end members parent which vpid end b zombie first None how is = absurd (not_got b vpid end is)
finds-end members parent which vpid end b zombie first (Some other) how is =
    let same : Got zombie.vpid other ≡ Got vpid end = is in
    record { zombie = zombie; first = first; pid = cc; ended = let e : other ≡ end = cc in how ∙ ap Some e }

finds-by : (members : List Member) (parent : ℕ) (which : Option ℕ) (vpid : ℕ) (end : End) (b : Bool) (first : Option Member)
    → find (is_ready parent which) members ≡ first → ready_or (no_zombie b) first ≡ Got vpid end → Finds members parent which vpid end
finds-by members parent which vpid end b None none is = absurd (not_got b vpid end is)
finds-by members parent which vpid end b (Some zombie) first is =
    finds-end members parent which vpid end b zombie first zombie.end refl is

finds : (members : List Member) (parent : ℕ) (which : Option ℕ) (vpid : ℕ) (end : End)
    → look_for members parent which ≡ Got vpid end → Finds members parent which vpid end
unfolding look_for
finds members parent which vpid end is =
    finds-by members parent which vpid end (list_any (is_child parent which) members) (find (is_ready parent which) members) refl is

find-there : (p : Member → Bool) (members : List Member) (m : Member) → find p members ≡ Some m → IsSome (member_at members m.vpid)
find-there p [] m is = absurd (let e : None ≡ Some m = is in cc)
find-there p (x ∷ members) m is =
    elim (p x) as (λ b. cond b (Some x) (find p members) ≡ Some m → IsSome (member_at (x ∷ members) m.vpid)) [
      | true ↦ λ e. let same : x ≡ m = cc in grind (arith, nat_tests)
      | false ↦ λ e. let there = find-there p members m e in grind (arith, nat_tests)
    ] is

-- what a wait found is there
pub found-there : (members : List Member) (parent : ℕ) (which : Option ℕ) (vpid : ℕ) (end : End)
    → look_for members parent which ≡ Got vpid end → IsSome (member_at members vpid)
found-there members parent which vpid end is =
    let f = finds members parent which vpid end is in
    subst (λ n. IsSome (member_at members n)) f.pid (find-there (is_ready parent which) members f.zombie f.first)

passes : (p : Member → Bool) (members : List Member) (m : Member) → find p members ≡ Some m → IsTrue (p m)
passes p [] m is = absurd (let e : None ≡ Some m = is in cc)
passes p (x ∷ members) m is =
    elim (p x) as (λ b. p x ≡ b → cond b (Some x) (find p members) ≡ Some m → IsTrue (p m)) [
      | true ↦ λ here e. let same : x ≡ m = cc in subst (λ m. p m ≡ true) same here
      | false ↦ λ here e. passes p members m e
    ] refl is

contained : (p : Member → Bool) (members : List Member) (m : Member) → find p members ≡ Some m → Contains members m
contained p [] m is = absurd (let e : None ≡ Some m = is in cc)
contained p (x ∷ members) m is =
    elim (p x) as (λ b. cond b (Some x) (find p members) ≡ Some m → Contains (x ∷ members) m) [
      | true ↦ λ e. let same : x ≡ m = cc in (0, omega arith, same)
      | false ↦ λ e. let there = contained p members m e in (suc there.0, omega arith, there.2)
    ] is

lowest-at : (p : Member → Bool) (members : List Member) (first m : Member) (k : ℕ) → IsRising members → find p members ≡ Some first
    → IsTrue (p m) → k < length members → get_or members k m ≡ m → first.vpid ≤ m.vpid
lowest-at p [] first m k rising is ready_or below at = absurd (omega arith)
lowest-at p (x ∷ members) first m zero rising is ready below at =
    let passed : p x ≡ true = subst (λ y. p y ≡ true) (sym at) ready in
    let head : cond (p x) (Some x) (find p members) ≡ Some first = is in
    let some : Some x ≡ Some first = subst (λ b. cond b (Some x) (find p members) ≡ Some first) passed head in
    let same : x ≡ first = cc in
    let last : x ≡ m = at in
    omega (arith, ap (λ (m : Member). m.vpid) (sym same ∙ last))
lowest-at p (x ∷ members) first m (suc k) rising is ready below at =
    elim (p x) as (λ b. cond b (Some x) (find p members) ≡ Some first → first.vpid ≤ m.vpid) [
      | true ↦ λ e.
          let same : x ≡ first = cc in
          let above : x.vpid < (get_or members k m).vpid = AllPairs-head Rises x members rising k m (omega arith) in
          omega (arith, ap (λ (m : Member). m.vpid) same, ap (λ (m : Member). m.vpid) at)
      | false ↦ λ e. lowest-at p members first m k (AllPairs-tail Rises x members rising) e ready (omega arith) at
    ] is

-- what a wait finds is the zombie of the lowest pid
pub lowest : WaitFindsTheLowest
lowest members parent which vpid end rising is =
    let f = finds members parent which vpid end is in
    record {
      zombie = f.zombie;
      there = contained (is_ready parent which) members f.zombie f.first;
      ready = passes (is_ready parent which) members f.zombie f.first;
      pid = f.pid;
      ended = f.ended;
      lowest = λ m there passed. subst (λ n. n ≤ m.vpid) f.pid
          (lowest-at (is_ready parent which) members f.zombie m there.0 rising f.first passed there.1 there.2);
    }
