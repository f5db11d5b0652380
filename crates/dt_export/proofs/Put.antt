-- What a store has after the files of an export were put into a folder.
use Rattle.std.proofs.Common.{◌≡◌, ◌≢◌, ◌⊎◌, inl, inr, ℕ, zero, suc, ◌<◌, ◌^◌, Bool, true, false, cond, ◌||◌, ◌==◌, List, [], ◌∷◌, map, fold, get_or, drop, Option, Some, None, is_some, refl, sym, ap, subst, ◌∙◌, arith}
use Rattle.std.proofs.lemmas.Bool.{eqb-true}
use Rattle.std.proofs.lemmas.Bool.Decides.{nat_tests}
use Rattle.std.proofs.lemmas.Fmt.{decimal_injective}
use Rattle.std.proofs.lemmas.List.Elements.{All-head, All-tail}
use Rattle.std.proofs.lemmas.List.Sums.{fold-append}
use Rattle.std.specs.Prelude.{codes, IfSome, unwrap_or}
use Rattle.std.specs.List.{All, Contains, filter}
use Rattle.std.specs.Ordering.{nat_cmp, match_ordering}
use Rattle.std.specs.declared.cmp.Ordering.{Ordering}
use Rattle.std.specs.declared.cmp.Ordering.TheVariants.{Less, Equal, Greater}
use Rattle.std.specs.Cmp.Lexicographic.{nat_list_cmp_total}
use Rattle.std.specs.BTreeSet.{insert_key}
use Rattle.std.specs.FinMap.{get, nat_cmp-IsAntisymmetric}
use Rattle.dt_host.specs.Store.{StoreFiles}
use Rattle.dt_host.specs.World.{Forest, file_at, content}
use Rattle.dt_tables.proofs.Conjuncts.{either-last}
use Rattle.dt_tables.proofs.Maps.{at_insert, get-insert_same, get-insert_other, names_tie}
use Rattle.dt_tree.specs.FileTree.{FileTree}
use Rattle.dt_image.specs.ImageOf.{name_below}
use Rattle.dt_image.specs.Paths.{paths_of, path_pair}
use Rattle.dt_export.specs.ExportedIndex.{blob_name}
use Rattle.dt_export.specs.ExportedFiles.{is_file, exported_inodes, blob_at, exported_files, with_file_in, with_files}
use Rattle.dt_export.specs.inner.Held.{HasExport}
use Rattle.dt_export.specs.inner.Inodes.{with_inode}
use Rattle.dt_image.specs.declared.paths.TreePath.{TreePath}
use Rattle.dt_export.proofs.Gathered.{is_among, same_inodes}

-- names in a folder are one only if the files' names are
below_same : (folder a b : List ℕ) → name_below folder a ≡ name_below folder b → a ≡ b
below_same [] a b e = ap (drop 1) e
below_same (c ∷ folder) a b e = below_same folder a b (ap (drop 1) e)

blob_same : (m n : ℕ) → m < 2 ^ 64 → n < 2 ^ 64 → blob_name m ≡ blob_name n → m ≡ n
blob_same m n small_m small_n e = decimal_injective m n small_m small_n (ap (drop 1) e)

-- the index is no blob
index_apart : (n : ℕ) → blob_name n ≢ codes "image.json"
index_apart n e = let first : ◌≡◌ {A = ℕ} 98 105 = ap (λ (name : List ℕ). get_or name 0 0) e in absurd (omega (arith, first))

itself : (n : ℕ) → (n == n) ≡ true
itself n = grind (arith, nat_tests)

-- an inode that is put among others is there, and the others stay
new_there : (n : ℕ) (ks : List ℕ) → is_among n (insert_key nat_cmp ks n) ≡ true
new_there n [] = ap (λ b. b || false) (itself n)
new_there n (k ∷ ks) = by_order (new_there n ks) (nat_cmp n k) refl
  where
    by_order : is_among n (insert_key nat_cmp ks n) ≡ true → (r : Ordering) → nat_cmp n k ≡ r → is_among n (match_ordering r (n ∷ k ∷ ks) (k ∷ ks) (k ∷ insert_key nat_cmp ks n)) ≡ true
    by_order later Less is = ap (λ b. b || is_among n (k ∷ ks)) (itself n)
    by_order later Equal is = ap (λ b. b || is_among n ks) (ap (λ m. n == m) (sym (nat_cmp-IsAntisymmetric n k is)) ∙ itself n)
    by_order later Greater is = either-last (n == k) (is_among n (insert_key nat_cmp ks n)) later

old_there : (n m : ℕ) (ks : List ℕ) → is_among n ks ≡ true → is_among n (insert_key nat_cmp ks m) ≡ true
old_there n m [] there = absurd (cc)
old_there n m (k ∷ ks) there = by_order (by_first (old_there n m ks) (n == k) there) (nat_cmp m k)
  where
    by_first : (is_among n ks ≡ true → is_among n (insert_key nat_cmp ks m) ≡ true) → (b : Bool) → (b || is_among n ks) ≡ true → (b || is_among n (insert_key nat_cmp ks m)) ≡ true
    by_first later true is = refl
    by_first later false is = later is

    by_order : is_among n (k ∷ insert_key nat_cmp ks m) ≡ true → (r : Ordering) → is_among n (match_ordering r (m ∷ k ∷ ks) (k ∷ ks) (k ∷ insert_key nat_cmp ks m)) ≡ true
    by_order later Less = either-last (n == m) (is_among n (k ∷ ks)) there
    by_order later Equal = there
    by_order later Greater = later

-- what is among some or others, and not the first of those, is among some or the rest
without_first : (some first rest : Bool) → (some || (first || rest)) ≡ true → first ≡ false → (some || rest) ≡ true
without_first true first rest is other = refl
without_first false true rest is other = absurd (cc)
without_first false false rest is other = is

without_none : (b : Bool) → (b || false) ≡ true → b ≡ true
without_none true is = refl
without_none false is = is

module _ (v : Forest) where
  -- a number that is no file's is none of a file
  other_number : (n m : ℕ) → is_file v n ≡ true → is_file v m ≡ false → (n == m) ≡ false
  other_number n m is other = by_test (n == m) refl
    where
      by_test : (b : Bool) → (n == m) ≡ b → (n == m) ≡ false
      by_test false apart = apart
      by_test true same = let both : true ≡ false = sym is ∙ ap (is_file v) (eqb-true n m same) ∙ other in absurd (cc)

  -- a file's inode is gathered, if it is among these or was gathered before
  gathered : (n : ℕ) → is_file v n ≡ true → (ms ks : List ℕ) → (is_among n ks || is_among n ms) ≡ true → is_among n (fold (insert_key nat_cmp) ks (filter (is_file v) ms)) ≡ true
  gathered n is [] ks there = without_none (is_among n ks) there
  gathered n is (m ∷ ms) ks there = by_file (gathered n is ms) (is_file v m) refl
    where
      more : (old same : Bool) → is_among n ks ≡ old → (n == m) ≡ same → (is_among n (insert_key nat_cmp ks m) || is_among n ms) ≡ true
      more old true was here =
          ap (λ b. b || is_among n ms) (ap (λ m. is_among n (insert_key nat_cmp ks m)) (sym (eqb-true n m here)) ∙ new_there n ks)
      more true false was here = ap (λ b. b || is_among n ms) (old_there n m ks was)
      more false false was here =
          either-last (is_among n (insert_key nat_cmp ks m)) (is_among n ms) (ap (λ b. b || is_among n ms) (sym was) ∙ without_first (is_among n ks) (n == m) (is_among n ms) there here)

      by_file : ((ks : List ℕ) → (is_among n ks || is_among n ms) ≡ true → is_among n (fold (insert_key nat_cmp) ks (filter (is_file v) ms)) ≡ true)
          → (b : Bool) → is_file v m ≡ b → is_among n (fold (insert_key nat_cmp) ks (cond b (m ∷ filter (is_file v) ms) (filter (is_file v) ms))) ≡ true
      by_file later true found = later (insert_key nat_cmp ks m) (more (is_among n ks) (n == m) refl refl)
      by_file later false found = later ks (without_first (is_among n ks) (n == m) (is_among n ms) there (other_number n m is found))

  among : (path : List ℕ) (n : ℕ) (paths : List (List ℕ × ℕ)) → Contains paths (path, n) → is_among n (map (λ at. at.1) paths) ≡ true
  among path n [] there = absurd (omega (arith, there.1))
  among path n (at ∷ paths) (zero, within, same) = ap (λ b. b || is_among n (map (λ at. at.1) paths)) (ap (λ (at : List ℕ × ℕ). n == at.1) same ∙ itself n)
  among path n (at ∷ paths) (suc k, within, same) = either-last (n == at.1) (is_among n (map (λ at. at.1) paths)) (among path n paths (k, omega (arith, within), same))

  -- the code gathers them path by path
  pub path_by_path : (paths : List TreePath) (ks : List ℕ) → fold (λ inodes (at : TreePath). with_inode v inodes at.inode) ks paths ≡ fold (insert_key nat_cmp) ks (filter (is_file v) (map (λ at. at.1) (map path_pair paths)))
  path_by_path [] ks = refl
  path_by_path (at ∷ paths) ks = by_file (path_by_path paths) (is_file v at.inode)
    where
      rest : List ℕ
      rest = filter (is_file v) (map (λ at. at.1) (map path_pair paths))

      by_file : ((ks : List ℕ) → fold (λ inodes (at : TreePath). with_inode v inodes at.inode) ks paths ≡ fold (insert_key nat_cmp) ks rest)
          → (b : Bool) → fold (λ inodes (at : TreePath). with_inode v inodes at.inode) (cond b (insert_key nat_cmp ks at.inode) ks) paths ≡ fold (insert_key nat_cmp) ks (cond b (at.inode ∷ rest) rest)
      by_file later true = later (insert_key nat_cmp ks at.inode)
      by_file later false = later ks

small_one : (n : ℕ) (ns : List ℕ) → is_among n ns ≡ true → All (λ m. m < 2 ^ 64) ns → n < 2 ^ 64
small_one n [] there small = absurd (cc)
small_one n (m ∷ ns) there small = by_first (λ is. small_one n ns is (All-tail (λ (m : ℕ). m < 2 ^ 64) m ns small)) (n == m) refl there
  where
    by_first : (is_among n ns ≡ true → n < 2 ^ 64) → (b : Bool) → (n == m) ≡ b → (b || is_among n ns) ≡ true → n < 2 ^ 64
    by_first later true is there = subst (λ n. n < 2 ^ 64) (sym (eqb-true n m is)) (All-head (λ (m : ℕ). m < 2 ^ 64) m ns small)
    by_first later false is there = later there

module _ (t : FileTree) (folder : List ℕ) where
  -- the blob of a file stands there
  abbrev Stood : StoreFiles → ℕ → Type 0
  Stood files n = get files (name_below folder (blob_name n)) ≡ Some (content t.shape n)

  still : (files : StoreFiles) (m n : ℕ) → m < 2 ^ 64 → n < 2 ^ 64 → Stood files n → Stood (with_file_in folder files (blob_at t m)) n
  still files m n small_m small_n h =
      at_insert nat_list_cmp_total names_tie (λ found. found ≡ Some (content t.shape n)) files (name_below folder (blob_name m)) (content t.shape m) (name_below folder (blob_name n))
      (λ same. ap (λ n. Some (content t.shape n)) (sym (blob_same n m small_n small_m (below_same folder (blob_name n) (blob_name m) same))))
      (λ _. h)

  stood : (n : ℕ) → n < 2 ^ 64 → (ns : List ℕ) → All (λ m. m < 2 ^ 64) ns → (files : StoreFiles) → (is_among n ns ≡ true) ⊎ Stood files n → Stood (with_files files folder (map (blob_at t) ns)) n
  stood n small [] all files (inl there) = absurd (cc)
  stood n small [] all files (inr h) = h
  stood n small (m ∷ ns) all files (inr h) =
      stood n small ns (All-tail (λ (m : ℕ). m < 2 ^ 64) m ns all) (with_file_in folder files (blob_at t m)) (inr (still files m n (All-head (λ (m : ℕ). m < 2 ^ 64) m ns all) small h))
  stood n small (m ∷ ns) all files (inl there) = stood n small ns (All-tail (λ (m : ℕ). m < 2 ^ 64) m ns all) (with_file_in folder files (blob_at t m)) (by_first (n == m) refl there)
    where
      by_first : (b : Bool) → (n == m) ≡ b → (b || is_among n ns) ≡ true → (is_among n ns ≡ true) ⊎ Stood (with_file_in folder files (blob_at t m)) n
      by_first true is there =
          let same = eqb-true n m is in
          inr (subst (λ n. Stood (with_file_in folder files (blob_at t m)) n) (sym same) (get-insert_same nat_list_cmp_total names_tie files (name_below folder (blob_name m)) (content t.shape m)))
      by_first false is there = inl there

  has_blob : (files : StoreFiles) (text : List ℕ) (n : ℕ) → Stood (with_files files folder (map (blob_at t) (exported_inodes t))) n → Stood (with_files files folder (exported_files t text)) n
  has_blob files text n h =
      let blobs = map (blob_at t) (exported_inodes t) in
      let apart = λ (same : name_below folder (blob_name n) ≡ name_below folder (codes "image.json")). index_apart n (below_same folder (blob_name n) (codes "image.json") same) in
      ap (λ files. get files (name_below folder (blob_name n))) (fold-append (with_file_in folder) files blobs ((codes "image.json", text) ∷ []))
      ∙ get-insert_other nat_list_cmp_total names_tie (with_files files folder blobs) (name_below folder (codes "image.json")) text (name_below folder (blob_name n)) apart
      ∙ h

  pub has_export : (files : StoreFiles) (text : List ℕ) → All (λ n. n < 2 ^ 64) (exported_inodes t) → HasExport (with_files files folder (exported_files t text)) folder text t
  unfolding content
  has_export files text small = record {
    index = ap (λ files. get files (name_below folder (codes "image.json"))) (fold-append (with_file_in folder) files (map (blob_at t) (exported_inodes t)) ((codes "image.json", text) ∷ []))
        ∙ get-insert_same nat_list_cmp_total names_tie (with_files files folder (map (blob_at t) (exported_inodes t))) (name_below folder (codes "image.json")) text;
    blobs = λ path n there. by_file path n there (file_at t.shape n) refl;
  }
    where
      by_file : (path : List ℕ) (n : ℕ) → Contains (paths_of t.shape) (path, n) → (found : Option (List ℕ)) → file_at t.shape n ≡ found → IfSome found (λ bytes. get (with_files files folder (exported_files t text)) (name_below folder (blob_name n)) ≡ Some bytes)
      by_file path n there None is = tt
      by_file path n there (Some bytes) is =
          let here = subst (λ ns. is_among n ns ≡ true) (same_inodes t) (gathered t.shape n (ap is_some is) (map (λ at. at.1) (paths_of t.shape)) [] (among t.shape path n (paths_of t.shape) there)) in
          has_blob files text n (stood n (small_one n (exported_inodes t) here small) (exported_inodes t) small files (inl here)) ∙ ap (λ found. Some (unwrap_or found [])) is
