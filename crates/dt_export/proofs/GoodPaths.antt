-- The paths of a tree are good if they are short, and each has its parent among them.
use Rattle.std.proofs.Common.{◌≡◌, ◌≢◌, ℕ, ◌≤◌, true, false, not, ◌&&◌, ◌==◌, nat_le, List, [], ◌∷◌, ◌++◌, length, take, drop, Some, is_some, refl, sym, ap, ◌∙◌, append_assoc, append-nil}
use Rattle.std.proofs.lemmas.Bool.{and_parts, and_from, not-true, le-leb}
use Rattle.std.proofs.lemmas.List.Folds.{list_all-append, list_any-append}
use Rattle.std.proofs.lemmas.Option.{option_and_then_some}
use Rattle.std.proofs.Math.Bool.{or-true}
use Rattle.std.specs.Prelude.{codes, option_and_then}
use Rattle.std.specs.List.{AllByRecursion, list_all, list_any}
use Rattle.std.specs.Str.{bytes_eq}
use Rattle.dt_base.specs.declared.limits.TheConstants.{PATH_LIMIT}
use Rattle.dt_base.specs.Path.{is_slash, has_no_nul, is_name, components_of, is_path, is_top, parent_of}
use Rattle.dt_host.specs.World.{Forest, entry}
use Rattle.dt_tree.specs.Above.{joined_names}
use Rattle.dt_tree.specs.FileTree.{FileTree, IsTree, is_entry_name}
use Rattle.dt_tree.specs.ImageTree.{last_name}
use Rattle.dt_tree.proofs.Paths.{components_of-append, one_component, split, last_good}
use Rattle.dt_image.specs.Paths.{node_from}
use Rattle.dt_image.proofs.Children.{names_good}

-- each of these may be the name of an entry
abbrev pub AreGood : List (List ℕ) → Type 0
AreGood names = AllByRecursion (λ name. is_entry_name name ≡ true) names

no_slash : (name : List ℕ) → is_entry_name name ≡ true → list_any is_slash name ≡ false
no_slash name good = not-true (list_any is_slash name) (and_parts (is_name name && has_no_nul name) (not (list_any is_slash name)) good).1

names_are : (names : List (List ℕ)) → AreGood names → list_all is_name names ≡ true
names_are [] good = refl
names_are (name ∷ names) good =
    and_from (is_name name) (list_all is_name names)
    (and_parts (is_name name) (has_no_nul name) (and_parts (is_name name && has_no_nul name) (not (list_any is_slash name)) good.0).0).0
    (names_are names good.1)

no_nuls : (names : List (List ℕ)) → AreGood names → has_no_nul (joined_names names) ≡ true
no_nuls [] good = refl
no_nuls (name ∷ names) good =
    let first = (and_parts (is_name name) (has_no_nul name) (and_parts (is_name name && has_no_nul name) (not (list_any is_slash name)) good.0).0).1 in
    list_all-append (λ b. not (b == 0)) name (joined_names names) ∙ and_from (has_no_nul name) (has_no_nul (joined_names names)) first (no_nuls names good.1)

components_joined : (name : List ℕ) (names : List (List ℕ)) → AreGood (name ∷ names) → components_of (name ++ joined_names names) ≡ name ∷ names
components_joined name [] good = ap components_of (append-nil name) ∙ one_component name (no_slash name good.0)
components_joined name (next ∷ names) good =
    components_of-append name (next ++ joined_names names)
    ∙ ap (λ first. first ++ components_of (next ++ joined_names names)) (one_component name (no_slash name good.0))
    ∙ ap (λ rest. name ∷ rest) (components_joined next names good.1)

-- good names make a good path, if it is short
pub path_good : (names : List (List ℕ)) → names ≢ [] → AreGood names → length (joined_names names) ≤ PATH_LIMIT → is_path (joined_names names) ≡ true
path_good [] some good short = absurd (some refl)
path_good (name ∷ names) some good short =
    let path = joined_names (name ∷ names) in
    and_from (nat_le (length path) PATH_LIMIT && bytes_eq (take 1 path) (codes "/") && has_no_nul path) (list_all is_name (components_of (drop 1 path)))
    (and_from (nat_le (length path) PATH_LIMIT && bytes_eq (take 1 path) (codes "/")) (has_no_nul path)
    (and_from (nat_le (length path) PATH_LIMIT) (bytes_eq (take 1 path) (codes "/")) (le-leb (length path) PATH_LIMIT short) refl)
    (no_nuls (name ∷ names) good))
    (ap (list_all is_name) (components_joined name names good) ∙ names_are (name ∷ names) good)

-- the path of one name stands in the root
pub top_good : (name : List ℕ) → is_entry_name name ≡ true → is_top (joined_names (name ∷ [])) ≡ true
top_good name good = ap (λ (cs : List (List ℕ)). length cs == 1) (components_joined name [] (good, tt))

joined-append : (names : List (List ℕ)) (name : List ℕ) → joined_names (names ++ name ∷ []) ≡ joined_names names ++ (codes "/" ++ name)
joined-append [] name = ap (λ rest. codes "/" ++ rest) (append-nil name)
joined-append (first ∷ names) name =
    ap (λ rest. codes "/" ++ (first ++ rest)) (joined-append names name)
    ∙ ap (λ rest. codes "/" ++ rest) (sym (append_assoc first (joined_names names) (codes "/" ++ name)))

has_slash : (a b : List ℕ) → list_any is_slash (a ++ 47 ∷ b) ≡ true
has_slash a b = list_any-append is_slash a (47 ∷ b) ∙ or-true (list_any is_slash a)

-- a text is cut in one way at its last `/`
cut_once : (a b x y : List ℕ) → list_any is_slash x ≡ false → list_any is_slash y ≡ false → a ++ 47 ∷ x ≡ b ++ 47 ∷ y → a ≡ b
cut_once [] [] x y none other same = refl
cut_once [] (c ∷ b) x y none other same =
    let rest : x ≡ b ++ 47 ∷ y = ap (drop 1) same in
    let no : false ≡ true = sym none ∙ ap (list_any is_slash) rest ∙ has_slash b y in
    absurd (cc)
cut_once (c ∷ a) [] x y none other same =
    let rest : y ≡ a ++ 47 ∷ x = ap (drop 1) (sym same) in
    let no : false ≡ true = sym other ∙ ap (list_any is_slash) rest ∙ has_slash a x in
    absurd (cc)
cut_once (c ∷ a) (d ∷ b) x y none other same =
    let first : c ≡ d = cc in
    let rest : a ≡ b = cut_once a b x y none other (ap (drop 1) same) in
    λ i. first i ∷ rest i

-- the parent of a path is that of the names before the last
pub parent_joined : (names : List (List ℕ)) (name : List ℕ) → is_path (joined_names (names ++ name ∷ [])) ≡ true → is_entry_name name ≡ true → parent_of (joined_names (names ++ name ∷ [])) ≡ joined_names names
parent_joined names name good last =
    let path = joined_names (names ++ name ∷ []) in
    cut_once (parent_of path) (joined_names names) (last_name path) name (no_slash (last_name path) (last_good path good)) (no_slash name last) (sym (split path good) ∙ joined-append names name)

-- names, of which there are some, are others and a last one
pub last_apart : (names : List (List ℕ)) → names ≢ [] → (before : List (List ℕ)) × (last : List ℕ) × (names ≡ before ++ last ∷ [])
last_apart [] some = absurd (some refl)
last_apart (name ∷ []) some = ([], name, refl)
last_apart (name ∷ next ∷ names) some =
    let rest = last_apart (next ∷ names) (λ none. cc) in
    (name ∷ rest.0, rest.1, ap (λ more. name ∷ more) rest.2)

module _ (v : Forest) where
  -- the last of them is an entry of the directory that the others lead to
  pub led_apart : (before : List (List ℕ)) (last : List ℕ) (d n : ℕ) → node_from v d (before ++ last ∷ []) ≡ Some n → (m : ℕ) × (node_from v d before ≡ Some m) × (entry v m last ≡ Some n)
  unfolding node_from
  led_apart [] last d n led = option_and_then_some (λ m. node_from v m []) (entry v d last) n led (λ m here rest. (d, refl, here ∙ rest))
  led_apart (name ∷ before) last d n led =
      option_and_then_some (λ m. node_from v m (before ++ last ∷ [])) (entry v d name) n led (λ m here rest.
      let more = led_apart before last m n rest in (more.0, ap (option_and_then (λ m. node_from v m before)) here ∙ more.1, more.2))

-- names that lead to a node are good
pub names_led : (t : FileTree) → IsTree t → (names : List (List ℕ)) (d n : ℕ) → node_from t.shape d names ≡ Some n → AreGood names
unfolding node_from entry
names_led t s [] d n led = tt
names_led t s (name ∷ names) d n led =
    option_and_then_some (λ d. node_from t.shape d names) (entry t.shape d name) n led
    (λ m here rest. (names_good t d s name (ap is_some here), names_led t s names m n rest))

-- and so is the name of an entry
pub entry_named : (t : FileTree) → IsTree t → (d : ℕ) (name : List ℕ) (n : ℕ) → entry t.shape d name ≡ Some n → is_entry_name name ≡ true
unfolding entry
entry_named t s d name n here = names_good t d s name (ap is_some here)
