-- The inodes that are gathered path by path are those of a tree's nodes that are files and have a path.
use Rattle.std.proofs.Common.{◌≡◌, ℕ, ◌<◌, Bool, true, false, cond, nat_lt, ◌||◌, ◌&&◌, ◌==◌, List, [], ◌∷◌, map, fold, Option, Some, None, is_some, refl, sym, ap, subst, ◌∙◌, arith}
use Rattle.std.proofs.lemmas.Bool.{eqb-true, ltb-true, le-ltb, lt-ltb}
use Rattle.std.proofs.lemmas.Bool.Decides.{nat_tests}
use Rattle.std.proofs.lemmas.List.Elements.{All-nil, All-cons, All-head, All-tail, All-weaker, filter_agree}
use Rattle.std.specs.Prelude.{T, option_and_then}
use Rattle.std.specs.List.{All, filter, list_any}
use Rattle.std.specs.Ordering.{nat_cmp, match_ordering, eq_by_cmp, is_eq, is_lt}
use Rattle.std.specs.declared.cmp.Ordering.TheVariants.{Less, Equal, Greater}
use Rattle.std.specs.BTreeSet.{insert_key}
use Rattle.std.specs.FinMap.{entries, entries_sorted, get-entries}
use Rattle.std.specs.FinMap.Entries.{below_all, is_sorted, is_some-find}
use Rattle.dt_host.specs.World.{Forest, Node, node_at, file_bytes}
use Rattle.dt_tables.proofs.Conjuncts.{first, second, either-last}
use Rattle.dt_tree.specs.FileTree.{FileTree}
use Rattle.dt_image.specs.Paths.{paths_of}
use Rattle.dt_export.specs.ExportedFiles.{is_file, exported_inodes}
use Rattle.dt_export.specs.inner.Inodes.{inodes_of_files}

-- the number is one of these
abbrev pub is_among : ℕ → List ℕ → Bool
is_among n ns = list_any (λ m. n == m) ns

-- the numbers rise
abbrev Rises : List ℕ → Type 0
Rises [] = T true
Rises (k ∷ ks) = All (λ m. k < m) ks × Rises ks

less : (x y : ℕ) → x < y → nat_cmp x y ≡ Less
less x y below = ap (λ b. cond b Less (cond (x == y) Equal Greater)) (lt-ltb x y below)

tied : (x y : ℕ) → x ≡ y → nat_cmp x y ≡ Equal
tied x y same =
    let no : nat_lt x y ≡ false = le-ltb x y (omega (arith, same)) in
    let yes : (x == y) ≡ true = grind (arith, nat_tests, same) in
    ap (λ b. cond b Less (cond (x == y) Equal Greater)) no ∙ ap (λ b. cond b Equal Greater) yes

greater : (x y : ℕ) → y < x → nat_cmp x y ≡ Greater
greater x y below =
    let no : nat_lt x y ≡ false = le-ltb x y (omega (arith, below)) in
    let apart : (x == y) ≡ false = grind (arith, nat_tests, below) in
    ap (λ b. cond b Less (cond (x == y) Equal Greater)) no ∙ ap (λ b. cond b Equal Greater) apart

insert_below : (n : ℕ) (xs : List ℕ) → All (λ m. n < m) xs → insert_key nat_cmp xs n ≡ n ∷ xs
insert_below n [] below = refl
insert_below n (x ∷ xs) below =
    ap (λ r. match_ordering r (n ∷ x ∷ xs) (x ∷ xs) (x ∷ insert_key nat_cmp xs n)) (less n x (All-head (λ m. n < m) x xs below))

above_one : (n k : ℕ) (ks : List ℕ) → All (λ m. k < m) ks → is_among n ks ≡ true → k < n
above_one n k [] above there = absurd (cc)
above_one n k (m ∷ ks) above there = by_first (above_one n k ks (All-tail (λ m. k < m) m ks above)) (n == m) refl there
  where
    by_first : (is_among n ks ≡ true → k < n) → (b : Bool) → (n == m) ≡ b → (b || is_among n ks) ≡ true → k < n
    by_first later true is there = subst (λ n. k < n) (sym (eqb-true n m is)) (All-head (λ m. k < m) m ks above)
    by_first later false is there = later there

above_kept : (p : ℕ → Bool) (k : ℕ) (ks : List ℕ) → All (λ m. k < m) ks → All (λ m. k < m) (filter p ks)
above_kept p k [] above = above
above_kept p k (m ∷ ks) above = by_test (above_kept p k ks (All-tail (λ m. k < m) m ks above)) (p m)
  where
    by_test : All (λ m. k < m) (filter p ks) → (b : Bool) → All (λ m. k < m) (cond b (m ∷ filter p ks) (filter p ks))
    by_test rest true = All-cons (λ m. k < m) m (filter p ks) (All-head (λ m. k < m) m ks above) rest
    by_test rest false = rest

same_kept : (p q : ℕ → Bool) (ks : List ℕ) → All (λ m. q m ≡ p m) ks → filter p ks ≡ filter q ks
same_kept p q [] same = refl
same_kept p q (k ∷ ks) same =
    ap (λ rest. cond (p k) (k ∷ rest) rest) (same_kept p q ks (All-tail (λ m. q m ≡ p m) k ks same))
    ∙ ap (λ b. cond b (k ∷ filter q ks) (filter q ks)) (sym (All-head (λ m. q m ≡ p m) k ks same))

or_none : (b : Bool) → (b || false) ≡ b
or_none true = refl
or_none false = refl

-- one more number of those that rise is kept where it is inserted
module _ (p q : ℕ → Bool) (n : ℕ) (agree : (m : ℕ) → q m ≡ (p m || (n == m))) where
  insert_kept : (ks : List ℕ) → Rises ks → is_among n ks ≡ true → insert_key nat_cmp (filter p ks) n ≡ filter q ks
  insert_kept [] rises there = absurd (cc)
  insert_kept (k ∷ ks) rises there = by_first (insert_kept ks rises.1) (n == k) refl there
    where
      placed : n ≡ k → (b : Bool) → insert_key nat_cmp (cond b (k ∷ filter p ks) (filter p ks)) n ≡ k ∷ filter p ks
      placed same true = ap (λ r. match_ordering r (n ∷ k ∷ filter p ks) (k ∷ filter p ks) (k ∷ insert_key nat_cmp (filter p ks) n)) (tied n k same)
      placed same false =
          insert_below n (filter p ks) (above_kept p n ks (subst (λ k. All (λ m. k < m) ks) (sym same) rises.0)) ∙ ap (λ m. m ∷ filter p ks) same

      later : k < n → insert_key nat_cmp (filter p ks) n ≡ filter q ks → (b : Bool) → insert_key nat_cmp (cond b (k ∷ filter p ks) (filter p ks)) n ≡ cond b (k ∷ filter q ks) (filter q ks)
      later below rest true =
          ap (λ r. match_ordering r (n ∷ k ∷ filter p ks) (k ∷ filter p ks) (k ∷ insert_key nat_cmp (filter p ks) n)) (greater n k below) ∙ ap (λ ms. k ∷ ms) rest
      later below rest false = rest

      apart : (m : ℕ) → n ≡ k → k < m → q m ≡ p m
      apart m same below =
          let no : (n == m) ≡ false = grind (arith, nat_tests, same, below) in
          agree m ∙ ap (λ b. p m || b) no ∙ or_none (p m)

      by_first : (is_among n ks ≡ true → insert_key nat_cmp (filter p ks) n ≡ filter q ks) → (b : Bool) → (n == k) ≡ b → (b || is_among n ks) ≡ true → insert_key nat_cmp (filter p (k ∷ ks)) n ≡ filter q (k ∷ ks)
      by_first rest true is there =
          let same = eqb-true n k is in
          let here : q k ≡ true = agree k ∙ either-last (p k) (n == k) is in
          placed same (p k)
          ∙ ap (λ ms. k ∷ ms) (same_kept p q ks (All-weaker (λ m. k < m) (λ m. q m ≡ p m) (λ m below. apart m same below) ks rises.0))
          ∙ sym (ap (λ b. cond b (k ∷ filter q ks) (filter q ks)) here)
      by_first rest false is there =
          let here : q k ≡ p k = agree k ∙ ap (λ b. p k || b) is ∙ or_none (p k) in
          later (above_one n k ks rises.0 there) (rest there) (p k) ∙ sym (ap (λ b. cond b (k ∷ filter q ks) (filter q ks)) here)

taken : (p f b rest : Bool) → (b ≡ true → f ≡ true) → (p || (f && (b || rest))) ≡ ((p || b) || (f && rest))
taken true f b rest h = refl
taken false true true rest h = refl
taken false true false rest h = refl
taken false false true rest h = let no : false ≡ true = h refl in absurd (cc)
taken false false false rest h = refl

left : (p f b rest : Bool) → (b ≡ true → f ≡ false) → (p || (f && (b || rest))) ≡ (p || (f && rest))
left true f b rest h = refl
left false false b rest h = refl
left false true false rest h = refl
left false true true rest h = let no : true ≡ false = h refl in absurd (cc)

none_more : (p f : Bool) → (p || (f && false)) ≡ p
none_more true f = refl
none_more false true = refl
none_more false false = refl

-- numbers that pass a test and are gathered in their order are kept of those that rise
module _ (f : ℕ → Bool) (ks : List ℕ) (rises : Rises ks) (known : (m : ℕ) → f m ≡ true → is_among m ks ≡ true) where
  gathered : (ms : List ℕ) (p q : ℕ → Bool) → ((n : ℕ) → q n ≡ (p n || (f n && list_any (λ m. m == n) ms))) → fold (insert_key nat_cmp) (filter p ks) (filter f ms) ≡ filter q ks
  gathered [] p q agree = filter_agree p q (λ n. sym (agree n ∙ none_more (p n) (f n))) ks
  gathered (m ∷ ms) p q agree = by_test (λ p. gathered ms p q) (f m) refl
    where
      with_m : ℕ → Bool
      with_m n = p n || (m == n)

      Later : Type 0
      Later = (p : ℕ → Bool) → ((n : ℕ) → q n ≡ (p n || (f n && list_any (λ m. m == n) ms))) → fold (insert_key nat_cmp) (filter p ks) (filter f ms) ≡ filter q ks

      by_test : Later → (b : Bool) → f m ≡ b → fold (insert_key nat_cmp) (filter p ks) (cond b (m ∷ filter f ms) (filter f ms)) ≡ filter q ks
      by_test later true is =
          ap (λ start. fold (insert_key nat_cmp) start (filter f ms)) (insert_kept p with_m m (λ n. refl) ks rises (known m is))
          ∙ later with_m (λ n. agree n ∙ taken (p n) (f n) (m == n) (list_any (λ m. m == n) ms) (λ same. ap f (sym (eqb-true m n same)) ∙ is))
      by_test later false is =
          later p (λ n. agree n ∙ left (p n) (f n) (m == n) (list_any (λ m. m == n) ms) (λ same. ap f (sym (eqb-true m n same)) ∙ is))

is_less : (x y : ℕ) → T (is_lt (nat_cmp x y)) → x < y
is_less x y h = by_test (nat_lt x y) refl h
  where
    no_less : (b : Bool) → T (is_lt (cond b Equal Greater)) → x < y
    no_less true h = absurd h
    no_less false h = absurd h

    by_test : (b : Bool) → nat_lt x y ≡ b → T (is_lt (cond b Less (cond (x == y) Equal Greater))) → x < y
    by_test true is h = ltb-true x y is
    by_test false is h = no_less (x == y) h

above_all : (k : ℕ) (es : List (ℕ × Node)) → T (below_all nat_cmp k es) → All (λ m. k < m) (map (λ e. e.0) es)
above_all k [] h = All-nil (λ m. k < m)
above_all k (e ∷ es) h =
    All-cons (λ m. k < m) e.0 (map (λ e. e.0) es) (is_less k e.0 (first _ _ h)) (above_all k es (second _ _ h))

rising : (es : List (ℕ × Node)) → T (is_sorted nat_cmp es) → Rises (map (λ e. e.0) es)
rising [] h = tt
rising (e ∷ es) h = (above_all e.0 es (first _ _ h), rising es (second _ _ h))

tie_same : (a b : Bool) → is_eq (cond a Less (cond b Equal Greater)) ≡ true → b ≡ true
tie_same true b h = let no : false ≡ true = h in absurd (cc)
tie_same false true h = refl
tie_same false false h = h

tied_among : (m : ℕ) (ks : List ℕ) → list_any (eq_by_cmp nat_cmp m) ks ≡ true → is_among m ks ≡ true
tied_among m [] there = there
tied_among m (k ∷ ks) there = by_first (tied_among m ks) (eq_by_cmp nat_cmp m k) refl there
  where
    by_first : (list_any (eq_by_cmp nat_cmp m) ks ≡ true → is_among m ks ≡ true) → (b : Bool) → eq_by_cmp nat_cmp m k ≡ b → (b || list_any (eq_by_cmp nat_cmp m) ks) ≡ true → is_among m (k ∷ ks) ≡ true
    by_first later true is there = ap (λ b. b || is_among m ks) (tie_same (nat_lt m k) (m == k) is)
    by_first later false is there = either-last (m == k) (is_among m ks) (later there)

file_listed : (v : Forest) (m : ℕ) → is_file v m ≡ true → is_among m (map (λ e. e.0) (entries v.nodes)) ≡ true
file_listed v m is =
    tied_among m (map (λ e. e.0) (entries v.nodes))
    (sym (is_some-find nat_cmp m (entries v.nodes)) ∙ ap is_some (sym (get-entries v.nodes m)) ∙ by_node (node_at v m) is)
  where
    by_node : (found : Option Node) → is_some (option_and_then file_bytes found) ≡ true → is_some found ≡ true
    by_node None is = is
    by_node (Some node) is = refl

none_kept : (ks : List ℕ) → filter (λ n. false) ks ≡ []
none_kept [] = refl
none_kept (k ∷ ks) = none_kept ks

ends : (n : ℕ) (paths : List (List ℕ × ℕ)) → list_any (λ at. at.1 == n) paths ≡ list_any (λ m. m == n) (map (λ at. at.1) paths)
ends n [] = refl
ends n (at ∷ paths) = ap (λ b. (at.1 == n) || b) (ends n paths)

-- the inodes of the files among the ends of a tree's paths are those that an export puts
pub same_inodes : (t : FileTree) → inodes_of_files t.shape (paths_of t.shape) ≡ exported_inodes t
same_inodes t =
    let ks = map (λ e. e.0) (entries t.shape.nodes) in
    let ms = map (λ at. at.1) (paths_of t.shape) in
    ap (λ start. fold (insert_key nat_cmp) start (filter (is_file t.shape) ms)) (sym (none_kept ks))
    ∙ gathered (is_file t.shape) ks (rising (entries t.shape.nodes) (entries_sorted t.shape.nodes)) (file_listed t.shape) ms (λ n. false)
    (λ n. is_file t.shape n && list_any (λ at. at.1 == n) (paths_of t.shape)) (λ n. ap (λ b. is_file t.shape n && b) (ends n (paths_of t.shape)))
