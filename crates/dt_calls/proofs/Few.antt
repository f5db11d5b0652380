-- There are no more places for machines than processes, zombies included.
use Rattle.std.proofs.Common.{arith, ◌≡◌, ◌≢◌, ℕ, suc, ◌<◌, ◌≤◌, ◌==◌, ◌&&◌, ◌||◌, List, [], ◌∷◌, length, cond, Bool, true, false, Option, Some, refl, sym, ap, subst, ◌∙◌}
use Rattle.std.proofs.lemmas.Bool.Decides.{nat_tests}
use Rattle.std.proofs.lemmas.List.{length-map}
use Rattle.std.specs.Prelude.{T, IsSome, is_none}
use Rattle.std.specs.List.{All}
use Rattle.std.specs.Ordering.{is_eq, is_lt, nat_cmp}
use Rattle.std.specs.Cmp.{nat_cmp_total}
use Rattle.std.proofs.lemmas.Cmp.{tied_itself}
use Rattle.std.specs.FinMap.{FinMap, find, get, entries, entries_sorted, get-entries, keys}
use Rattle.std.specs.FinMap.Entries.{below_all, is_sorted}
use Rattle.std.proofs.lemmas.List.Elements.{All-tail}
use Rattle.dt_tables.proofs.Conjuncts.{first, second}
use Rattle.dt_procs.specs.declared.member.Member.{Member}
use Rattle.dt_procs.specs.declared.member.TheConstants.{PROCESS_LIMIT}
use Rattle.dt_procs.specs.Members.{is_live, has_live}
use Rattle.dt_procs.specs.Table.{Table, members_of, member_of, IsRising, IsTable}
use Rattle.dt_procs.proofs.Standing.{Rises}
use Rattle.dt_procs.proofs.Pairs.{AllPairs-head, AllPairs-tail}
use Rattle.dt_rv64.specs.declared.machine.Machine.{Machine}
use Rattle.dt_calls.specs.Container.{Tasks}

-- all members that follow have pids above a bound, and so has one that lives
above_all : (bound q : ℕ) (ms : List Member) → All (λ m. bound < m.vpid) ms → has_live ms q ≡ true → bound < q
above_all bound q [] all live = cc
above_all bound q (m ∷ ms) all live = by_head (is_live q m) refl (λ found. above_all bound q ms (All-tail (λ (m : Member). bound < m.vpid) m ms all) found)
  where
    by_head : (b : Bool) → is_live q m ≡ b → (has_live ms q ≡ true → bound < q) → bound < q
    by_head true e further =
        let above : bound < m.vpid = all 0 m (omega arith) in
        let same : m.vpid ≡ q = pid (m.vpid == q) refl e in
        omega arith
      where
        pid : (b : Bool) → (m.vpid == q) ≡ b → (b && is_none m.end) ≡ true → m.vpid ≡ q
        pid true is e = grind (arith, nat_tests, is)
        pid false is e = cc
    by_head false e further = further (sym (ap (λ b. b || has_live ms q) e) ∙ live)

-- a process that lives and isn't the first member is one of the others
later : (q : ℕ) (m : Member) (ms : List Member) → m.vpid ≢ q → has_live (m ∷ ms) q ≡ true → has_live ms q ≡ true
later q m ms apart live = sym (ap (λ b. (b && is_none m.end) || has_live ms q) (not_it (m.vpid == q) refl)) ∙ live
  where
    not_it : (b : Bool) → (m.vpid == q) ≡ b → (m.vpid == q) ≡ false
    not_it true is = absurd (apart (grind (arith, nat_tests, is)))
    not_it false is = is

module _ {X : Type 0} where
  -- a key that is found in sorted entries is above what is below all of them
  above_found : (x q : ℕ) (es : List (ℕ × X)) → T (below_all nat_cmp x es) → IsSome (find nat_cmp q es) → x < q
  above_found x q [] h some = cc
  above_found x q (e ∷ es) h some = by_key (is_eq (nat_cmp q e.0)) refl (λ later. above_found x q es (second (is_lt (nat_cmp x e.0)) _ h) later)
    where
      by_key : (b : Bool) → is_eq (nat_cmp q e.0) ≡ b → (IsSome (find nat_cmp q es) → x < q) → x < q
      by_key true is further =
          let less : T (is_lt (nat_cmp x e.0)) = first _ _ h in
          let same : q ≡ e.0 = tied q e.0 is in
          let under : x < e.0 = below x e.0 less in
          omega arith
        where
          tied : (a b : ℕ) → is_eq (nat_cmp a b) ≡ true → a ≡ b
          tied a b e = grind (arith, nat_tests)

          below : (a b : ℕ) → T (is_lt (nat_cmp a b)) → a < b
          below a b h = grind (arith, nat_tests)
      by_key false is further = further (subst (λ b. IsSome (cond b (Some e.1) (find nat_cmp q es))) is some)

module _ {X : Type 0} where
  -- sorted keys that are pids of live processes are no more than the members
  few-in : (es : List (ℕ × X)) (ms : List Member) → T (is_sorted nat_cmp es) → IsRising ms → ((q : ℕ) → IsSome (find nat_cmp q es) → has_live ms q ≡ true) → length es ≤ length ms
  few-in [] ms h rising live = omega arith
  few-in (e ∷ es) [] h rising live = let no : false ≡ true = live e.0 (there e.0 e.1) in cc
    where
      there : (k : ℕ) (x : X) → IsSome (cond (is_eq (nat_cmp k k)) (Some x) (find nat_cmp k es))
      there k x = subst (λ r. IsSome (cond (is_eq r) (Some x) (find nat_cmp k es))) (sym (tied_itself nat_cmp_total k)) refl
  few-in (e ∷ es) (m ∷ ms) h rising live = by_head (m.vpid == e.0) refl (few-in es ms) (few-in (e ∷ es) ms)
    where
      tail : T (is_sorted nat_cmp es)
      tail = second (below_all nat_cmp e.0 es) _ h

      rest : IsRising ms
      rest = AllPairs-tail Rises m ms rising

      here : IsSome (find nat_cmp e.0 (e ∷ es))
      here = subst (λ r. IsSome (cond (is_eq r) (Some e.1) (find nat_cmp e.0 es))) (sym (tied_itself nat_cmp_total e.0)) refl

      above : (q : ℕ) → IsSome (find nat_cmp q es) → e.0 < q
      above q some = above_found e.0 q es (first _ _ h) some

      in_tail : (q : ℕ) → IsSome (find nat_cmp q es) → IsSome (find nat_cmp q (e ∷ es))
      in_tail q some = either (is_eq (nat_cmp q e.0)) some
        where
          either : (b : Bool) → IsSome (find nat_cmp q es) → IsSome (cond b (Some e.1) (find nat_cmp q es))
          either true some = refl
          either false some = some

      by_head : (b : Bool) → (m.vpid == e.0) ≡ b
          → (T (is_sorted nat_cmp es) → IsRising ms → ((q : ℕ) → IsSome (find nat_cmp q es) → has_live ms q ≡ true) → length es ≤ length ms)
          → (T (is_sorted nat_cmp (e ∷ es)) → IsRising ms → ((q : ℕ) → IsSome (find nat_cmp q (e ∷ es)) → has_live ms q ≡ true) → length (e ∷ es) ≤ length ms)
          → suc (length es) ≤ suc (length ms)
      by_head true is both one =
          let same : m.vpid ≡ e.0 = grind (arith, nat_tests, is) in
          let less = both tail rest (λ q some. let over = above q some in later q m ms (λ eq. absurd (omega arith)) (live q (in_tail q some))) in
          omega arith
      by_head false is both one =
          let apart : m.vpid ≢ e.0 = grind (arith, nat_tests, is) in
          let under : m.vpid < e.0 = above_all m.vpid e.0 ms (AllPairs-head Rises m ms rising) (later e.0 m ms apart (live e.0 here)) in
          let less = one h rest (λ q some. later q m ms (λ eq. let over = at_least q some in absurd (omega arith)) (live q some)) in
          omega arith
        where
          at_least : (q : ℕ) → IsSome (find nat_cmp q (e ∷ es)) → e.0 ≤ q
          at_least q some = by_key (is_eq (nat_cmp q e.0)) refl
            where
              by_key : (c : Bool) → is_eq (nat_cmp q e.0) ≡ c → e.0 ≤ q
              by_key true tie = let same : q ≡ e.0 = grind (arith, nat_tests, tie) in omega arith
              by_key false apart = let over = above q (subst (λ c. IsSome (cond c (Some e.1) (find nat_cmp q es))) apart some) in omega arith

-- places for machines are places of live processes, so they are at most 64
pub few-places : (places : FinMap nat_cmp (Option Machine)) (tasks : Tasks) (t : Table) → IsTable t → ((p : ℕ) → IsSome (get places p) → IsSome (get tasks p)) → ((p : ℕ) → IsSome (get tasks p) → has_live (members_of t) p ≡ true) → length (keys places) ≤ PROCESS_LIMIT
few-places places tasks t table paired live =
    let less = few-in (entries places) (members_of t) (entries_sorted places) table.rising (λ q some.
    live q (paired q (subst (λ found. IsSome found) (sym (get-entries places q)) some))) in
    let keyed = length-map (entries places) (λ (e : ℕ × Option Machine). e.0) in
    let counted = length-map t.rows member_of in
    omega (arith, table.few)
