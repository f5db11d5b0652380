-- The processes stay few, and in order.
use Rattle.std.proofs.Common.{arith, ◌≡◌, ◌≢◌, ℕ, zero, suc, ◌+◌, ◌<◌, ◌≤◌, ◌==◌, ◌&&◌, ◌||◌, not, cond, List, [], ◌∷◌, length, get_or, Bool, true, false, Option, Some, refl, sym, ap, subst, ◌∙◌, length-append}
use Rattle.std.proofs.lemmas.Bool.Decides.{nat_tests}
use Rattle.std.proofs.lemmas.List.{length-map}
use Rattle.std.proofs.lemmas.List.Elements.{All-tail, All-map, All-filter, All-append, All-cons, All-nil}
use Rattle.std.proofs.lemmas.List.Folds.{list_any-append}
use Rattle.std.proofs.lemmas.List.Kept.{AllPairs-filter}
use Rattle.std.proofs.lemmas.List.Quantifiers.{all_pairs_push}
use Rattle.std.specs.Prelude.{is_none}
use Rattle.std.specs.List.{All, filter}
use Rattle.dt_base.specs.declared.event.End.{End}
use Rattle.dt_procs.specs.declared.member.Member.{Member}
use Rattle.dt_procs.specs.declared.member.TheConstants.{PROCESS_LIMIT}
use Rattle.dt_procs.specs.declared.member.Reaped.TheVariants.{Got}
use Rattle.dt_procs.specs.Members.{has_pid, is_live, has_live, is_full, newborn, with_child, members_after_end, member_after_end, without_member, look_for}
use Rattle.dt_procs.specs.Table.{IsRising}
use Rattle.dt_procs.proofs.Lowest.{lowest}
use Rattle.dt_procs.proofs.Pairs.{AllPairs-head, AllPairs-tail, AllPairs-map}
use Rattle.dt_procs.proofs.Standing.{Rises}
use Rattle.dt_runlaws.specs.Few.{AreMembers}
use Rattle.dt_runlaws.proofs.FewTasks.{lives-later}

-- where one ends
pub few-ended : (members : List Member) (next p : ℕ) (end : End) → AreMembers members next → AreMembers (members_after_end p end members) next
unfolding members_after_end
few-ended members next p end few = record {
  rising = AllPairs-map Rises Rises (member_after_end p end) (λ a b less. less) members few.rising;
  given = All-map (λ (m : Member). m.vpid < next) (member_after_end p end) members (λ k d below. few.given k d below);
  few = omega (arith, length-map members (member_after_end p end), few.few);
}

-- where a child comes, and they were not as many as may be
pub few-child : (members : List Member) (next p : ℕ) → is_full members ≡ false → AreMembers members next → AreMembers (with_child members next p) (next + 1)
few-child members next p room few = record {
  rising = all_pairs_push Rises members (newborn next p) few.rising (λ k d below. few.given k d below);
  given = All-append (λ (m : Member). m.vpid < next + 1) members (newborn next p ∷ [])
      (λ k d below. let less = few.given k d below in omega arith)
      (All-cons (λ (m : Member). m.vpid < next + 1) (newborn next p) [] (omega arith) (All-nil (λ (m : Member). m.vpid < next + 1)));
  few = let left : length members < PROCESS_LIMIT = grind (arith, nat_tests, room) in omega (arith, length-append members (newborn next p ∷ []));
}

-- a process that lived lives beside a child
pub lives-beside : (members : List Member) (next p q : ℕ) → has_live members q ≡ true → has_live (with_child members next p) q ≡ true
lives-beside members next p q live = list_any-append (is_live q) members (newborn next p ∷ []) ∙ ap (λ b. b || has_live (newborn next p ∷ []) q) live

-- and the child lives
pub child-lives : (members : List Member) (next p : ℕ) → has_live (with_child members next p) next ≡ true
child-lives members next p = list_any-append (is_live next) members (newborn next p ∷ []) ∙ last (has_live members next)
  where
    last : (b : Bool) → (b || has_live (newborn next p ∷ []) next) ≡ true
    last true = refl
    last false = grind (arith, nat_tests)

few-left : (p : Member → Bool) (members : List Member) → length (filter p members) ≤ length members
few-left p [] = omega arith
few-left p (m ∷ members) = grind (arith, few-left p members)

-- where one is reaped
pub few-reaped : (members : List Member) (next p : ℕ) → AreMembers members next → AreMembers (without_member members p) next
few-reaped members next p few = record {
  rising = AllPairs-filter Rises (λ (m : Member). not (has_pid p m)) members few.rising;
  given = All-filter (λ (m : Member). not (has_pid p m)) (λ (m : Member). m.vpid < next) members few.given;
  few = omega (arith, few-left (λ (m : Member). not (has_pid p m)) members, few.few);
}

-- one that lives is among members whose pids are all above a bound
lives-above : (bound q : ℕ) (ms : List Member) → All (λ (m : Member). bound < m.vpid) ms → has_live ms q ≡ true → bound < q
lives-above bound q [] all live = cc
lives-above bound q (m ∷ ms) all live = by_head (m.vpid == q) refl (lives-above bound q ms)
  where
    by_head : (b : Bool) → (m.vpid == q) ≡ b → (All (λ (m : Member). bound < m.vpid) ms → has_live ms q ≡ true → bound < q) → bound < q
    by_head true is further = let above = all 0 m (omega arith) in let same : m.vpid ≡ q = grind (arith, nat_tests, is) in omega arith
    by_head false is further =
        let apart : q ≢ m.vpid = grind (arith, nat_tests, is) in
        further (All-tail (λ (m : Member). bound < m.vpid) m ms all) (lives-later q m ms apart live)

-- and below a bound that all are
pub lives-below : (bound q : ℕ) (ms : List Member) → All (λ (m : Member). m.vpid < bound) ms → has_live ms q ≡ true → q < bound
lives-below bound q [] all live = cc
lives-below bound q (m ∷ ms) all live = by_head (m.vpid == q) refl (lives-below bound q ms)
  where
    by_head : (b : Bool) → (m.vpid == q) ≡ b → (All (λ (m : Member). m.vpid < bound) ms → has_live ms q ≡ true → q < bound) → q < bound
    by_head true is further = let below = all 0 m (omega arith) in let same : m.vpid ≡ q = grind (arith, nat_tests, is) in omega arith
    by_head false is further =
        let apart : q ≢ m.vpid = grind (arith, nat_tests, is) in
        further (All-tail (λ (m : Member). m.vpid < bound) m ms all) (lives-later q m ms apart live)

-- one that lives has another pid than a zombie
lives-apart : (ms : List Member) (q k : ℕ) (z : Member) (end : End) → IsRising ms → k < length ms → get_or ms k z ≡ z → z.end ≡ Some end → has_live ms q ≡ true → q ≢ z.vpid
lives-apart [] q k z end rising within at ended live = absurd (omega arith)
lives-apart (m ∷ ms) q zero z end rising within at ended live = by_head (m.vpid == q) refl
  where
    same : m ≡ z
    same = at

    by_head : (b : Bool) → (m.vpid == q) ≡ b → q ≢ z.vpid
    by_head true is =
        let gone : is_none m.end ≡ false = ap (λ (m : Member). is_none m.end) same ∙ ap is_none ended in
        let later : has_live ms q ≡ true = sym (ap (λ b. ((m.vpid == q) && b) || has_live ms q) gone ∙ ap (λ b. (b && false) || has_live ms q) is) ∙ live in
        let above = lives-above m.vpid q ms (AllPairs-head Rises m ms rising) later in
        let pid : m.vpid ≡ z.vpid = ap (λ (m : Member). m.vpid) same in
        λ eq. absurd (omega arith)
    by_head false is = let pid : m.vpid ≡ z.vpid = ap (λ (m : Member). m.vpid) same in grind (arith, nat_tests, is)
lives-apart (m ∷ ms) q (suc k) z end rising within at ended live =
    by_head (m.vpid == q) refl (lives-apart ms q k z end (AllPairs-tail Rises m ms rising) (omega arith) at ended)
  where
    by_head : (b : Bool) → (m.vpid == q) ≡ b → (has_live ms q ≡ true → q ≢ z.vpid) → q ≢ z.vpid
    by_head true is further =
        let above : m.vpid < (get_or ms k z).vpid = AllPairs-head Rises m ms rising k z (omega arith) in
        let pid = ap (λ (m : Member). m.vpid) at in
        let same : m.vpid ≡ q = grind (arith, nat_tests, is) in
        λ eq. absurd (omega arith)
    by_head false is further =
        let apart : q ≢ m.vpid = grind (arith, nat_tests, is) in
        further (lives-later q m ms apart live)

-- it stays where one of another pid is taken away
stays-live : (ms : List Member) (v q : ℕ) → q ≢ v → has_live (without_member ms v) q ≡ has_live ms q
stays-live [] v q apart = refl
stays-live (m ∷ ms) v q apart = by_head (m.vpid == v) refl (stays-live ms v q apart)
  where
    by_head : (b : Bool) → (m.vpid == v) ≡ b → has_live (without_member ms v) q ≡ has_live ms q → has_live (cond (not b) (m ∷ without_member ms v) (without_member ms v)) q ≡ has_live (m ∷ ms) q
    by_head true is rest =
        let other : (m.vpid == q) ≡ false = grind (arith, nat_tests, is, apart) in
        rest ∙ sym (ap (λ b. (b && is_none m.end) || has_live ms q) other)
    by_head false is rest = ap (λ b. is_live q m || b) rest

-- a process that lives is not the one that a wait reaps
pub lives-on : (members : List Member) (parent vpid q : ℕ) (which : Option ℕ) (end : End) → IsRising members
    → look_for members parent which ≡ Got vpid end → has_live members q ≡ true → has_live (without_member members vpid) q ≡ true
lives-on members parent vpid q which end rising found live =
    let z = lowest members parent which vpid end rising found in
    let apart : q ≢ vpid = subst (λ n. q ≢ n) z.pid (lives-apart members q z.there.0 z.zombie end rising z.there.1 z.there.2 z.ended live) in
    stays-live members vpid q apart ∙ live
