-- Files put in the order of their paths, one after another.
use Rattle.std.proofs.Common.{◌≡◌, ℕ, ◌<◌, ◌+◌, Bool, true, false, cond, ◌&&◌, ◌||◌, List, [], ◌∷◌, ◌++◌, map, fold, length, get_or, take, drop, Option, Some, None, Bor, refl, sym, ap, ◌∙◌}
use Rattle.std.specs.Prelude.{is_some}
use Rattle.std.specs.List.{list_all, list_any}
use Rattle.std.specs.Str.{bytes_eq}
use Rattle.std.specs.declared.cmp.Ordering.{Ordering}
use Rattle.std.specs.declared.cmp.Ordering.TheVariants.{Less, Equal, Greater}
use Rattle.std.specs.Ordering.{nat_cmp, is_lt, is_eq, match_ordering}
use Rattle.std.specs.Cmp.Lexicographic.{slice_cmp}
use Rattle.std.specs.Map.{lookup, keys_of}
use Rattle.std.specs.List.{AllByRecursion}
use Rattle.std.specs.List.Sorted.{IsStrictlySortedBy}
use Rattle.std.specs.BTreeMap.{insert_entry, is_at}
use Rattle.std.proofs.lemmas.List.{map_more, map-append, take-append-drop}
use Rattle.std.proofs.lemmas.List.Folds.{list_any-append}
use Rattle.std.proofs.lemmas.List.Sums.{fold_push}
use Rattle.std.proofs.lemmas.Slice.Eq.{bytes_eq-Decides}
use Rattle.std.proofs.lemmas.Map.Text.{is_eq-slice_cmp}
use Rattle.dt_tables.proofs.Conjuncts.{either-last}
use Rattle.dt_image.specs.declared.index.EntryRef.{EntryRef}
use Rattle.dt_image.specs.declared.index.SourceRef.{SourceRef}
use Rattle.dt_image.specs.declared.index.SourceRef.TheVariants.{File}
use Rattle.dt_image.specs.Index.{IndexEntry}
use Rattle.dt_image.specs.inner.IndexView.{entry_in, entry_at, keyed_entry, path_cmp}
use Rattle.dt_image.specs.ImageOf.{has_path, has_twice, with_index_entry, sorted_entries}

-- how the code's map and set compare paths
abbrev pub by_text : Bor (List ℕ) → Bor (List ℕ) → Ordering
by_text x y = slice_cmp nat_cmp x.now y.now

or_swap : (a b c : Bool) → (a || (b || c)) ≡ (b || (a || c))
or_swap true true c = refl
or_swap true false c = refl
or_swap false b c = refl

and_swap : (a b c : Bool) → (a && (b && c)) ≡ (b && (a && c))
and_swap true b c = refl
and_swap false true c = refl
and_swap false false c = refl

list_any-placed : (p : IndexEntry → Bool) (files : List IndexEntry) (file : IndexEntry) → list_any p (with_index_entry files file) ≡ (p file || list_any p files)
list_any-placed p [] file = refl
list_any-placed p (next ∷ files) file =
    elim (is_lt (slice_cmp nat_cmp file.path next.path)) as (λ v. list_any p (cond v (file ∷ next ∷ files) (next ∷ with_index_entry files file)) ≡ (p file || list_any p (next ∷ files))) [
      | true ↦ refl
      | false ↦ ap (λ rest. p next || rest) (list_any-placed p files file) ∙ or_swap (p next) (p file) (list_any p files)
    ]

list_all-placed : (p : IndexEntry → Bool) (files : List IndexEntry) (file : IndexEntry) → list_all p (with_index_entry files file) ≡ (p file && list_all p files)
list_all-placed p [] file = refl
list_all-placed p (next ∷ files) file =
    elim (is_lt (slice_cmp nat_cmp file.path next.path)) as (λ v. list_all p (cond v (file ∷ next ∷ files) (next ∷ with_index_entry files file)) ≡ (p file && list_all p (next ∷ files))) [
      | true ↦ refl
      | false ↦ ap (λ rest. p next && rest) (list_all-placed p files file) ∙ and_swap (p next) (p file) (list_all p files)
    ]

or_moved : (a b c : Bool) → ((a || b) || c) ≡ (b || (a || c))
or_moved true true c = refl
or_moved true false c = refl
or_moved false b c = refl

and_moved : (a b c : Bool) → ((a && b) && c) ≡ (b && (a && c))
and_moved true b c = refl
and_moved false true c = refl
and_moved false false c = refl

list_any-fold : (p : IndexEntry → Bool) (done files : List IndexEntry) → list_any p (fold with_index_entry done files) ≡ (list_any p done || list_any p files)
list_any-fold p done [] = or_false (list_any p done)
  where
    or_false : (b : Bool) → b ≡ (b || false)
    or_false true = refl
    or_false false = refl
list_any-fold p done (file ∷ files) =
    list_any-fold p (with_index_entry done file) files
    ∙ ap (λ prefix. prefix || list_any p files) (list_any-placed p done file)
    ∙ or_moved (p file) (list_any p done) (list_any p files)

list_all-fold : (p : IndexEntry → Bool) (done files : List IndexEntry) → list_all p (fold with_index_entry done files) ≡ (list_all p done && list_all p files)
list_all-fold p done [] = and_true (list_all p done)
  where
    and_true : (b : Bool) → b ≡ (b && true)
    and_true true = refl
    and_true false = refl
list_all-fold p done (file ∷ files) =
    list_all-fold p (with_index_entry done file) files
    ∙ ap (λ prefix. prefix && list_all p files) (list_all-placed p done file)
    ∙ and_moved (p file) (list_all p done) (list_all p files)

-- the files in order are the same files
pub list_any-sorted : (p : IndexEntry → Bool) (files : List IndexEntry) → list_any p (sorted_entries files) ≡ list_any p files
unfolding sorted_entries
list_any-sorted p files = list_any-fold p [] files

pub list_all-sorted : (p : IndexEntry → Bool) (files : List IndexEntry) → list_all p (sorted_entries files) ≡ list_all p files
unfolding sorted_entries
list_all-sorted p files = list_all-fold p [] files

-- one file more at the end
pub sorted_push : (files : List IndexEntry) (file : IndexEntry) → sorted_entries (files ++ file ∷ []) ≡ with_index_entry (sorted_entries files) file
unfolding sorted_entries
sorted_push files file = fold_push with_index_entry [] files file

-- two texts are the same either way
pub bytes_eq-sym : (xs ys : List ℕ) → bytes_eq xs ys ≡ bytes_eq ys xs
bytes_eq-sym xs ys =
    elim (bytes_eq xs ys) as (λ v. bytes_eq xs ys ≡ v → v ≡ bytes_eq ys xs) [
      | true ↦ λ h. sym ((bytes_eq-Decides ys xs).1 (sym ((bytes_eq-Decides xs ys).0 h)))
      | false ↦ λ h. by_other (bytes_eq ys xs) (λ other. let same = (bytes_eq-Decides xs ys).1 (sym ((bytes_eq-Decides ys xs).0 other)) in cc)
    ] refl
  where
    by_other : (b : Bool) → (b ≡ true → ⊥) → false ≡ b
    by_other true never = absurd (never refl)
    by_other false never = refl

has_twice_push : (files : List IndexEntry) (file : IndexEntry) → has_twice (files ++ file ∷ []) ≡ (has_twice files || list_any (has_path file.path) files)
has_twice_push [] file = refl
has_twice_push (first ∷ files) file =
    ap (λ prefix. prefix || has_twice (files ++ file ∷ [])) (list_any-append (has_path first.path) files (file ∷ []))
    ∙ ap (λ rest. (list_any (has_path first.path) files || (has_path first.path file || false)) || rest) (has_twice_push files file)
    ∙ ap (λ same. (list_any (has_path first.path) files || (same || false)) || (has_twice files || list_any (has_path file.path) files)) (bytes_eq-sym first.path file.path)
    ∙ regrouped (list_any (has_path first.path) files) (bytes_eq file.path first.path) (has_twice files) (list_any (has_path file.path) files)
  where
    regrouped : (a b c d : Bool) → ((a || (b || false)) || (c || d)) ≡ ((a || c) || (b || d))
    regrouped true b c d = refl
    regrouped false true true d = refl
    regrouped false true false d = refl
    regrouped false false c d = refl

twice_either : (a b c d : Bool) → (c ≡ true → d ≡ true) → (a || c) ≡ true → ((a || b) || d) ≡ true
twice_either true b c d more h = refl
twice_either false true c d more h = refl
twice_either false false c d more h = more h

has_twice-append : (files others : List IndexEntry) → has_twice files ≡ true → has_twice (files ++ others) ≡ true
has_twice-append [] others h = absurd (cc)
has_twice-append (first ∷ files) others h =
    ap (λ prefix. prefix || has_twice (files ++ others)) (list_any-append (has_path first.path) files others)
    ∙ twice_either (list_any (has_path first.path) files) (list_any (has_path first.path) others) (has_twice files) (has_twice (files ++ others)) (λ more. has_twice-append files others more) h

-- the map of the files so far has a path exactly where one of them has it
some_either : (b : Bool) (v : SourceRef) (rest : Option SourceRef) → is_some (cond b (Some v) rest) ≡ (b || is_some rest)
some_either true v rest = refl
some_either false v rest = refl

found_any : (q : Bor (List ℕ)) (es : List (Bor (List ℕ) × SourceRef)) → is_some (lookup (is_at (by_text q)) es) ≡ list_any (has_path q.now) (map keyed_entry es)
found_any q [] = refl
found_any q (e ∷ es) =
    ap (λ same. is_some (cond same (Some e.1) (lookup (is_at (by_text q)) es))) (is_eq-slice_cmp q.now e.0.now)
    ∙ some_either (bytes_eq q.now e.0.now) e.1 (lookup (is_at (by_text q)) es)
    ∙ ap (λ rest. bytes_eq q.now e.0.now || rest) (found_any q es)

-- an insert of a new key puts the file where it belongs
keyed-insert_entry : (es : List (Bor (List ℕ) × SourceRef)) (k : Bor (List ℕ)) (v : SourceRef) → lookup (is_at (by_text k)) es ≡ None → map keyed_entry (insert_entry by_text es k v) ≡ with_index_entry (map keyed_entry es) (keyed_entry (k, v))
keyed-insert_entry [] k v none = refl
keyed-insert_entry (e ∷ es) k v none =
    elim (slice_cmp nat_cmp k.now e.0.now) as (λ r. cond (is_eq r) (Some e.1) (lookup (is_at (by_text k)) es) ≡ None → map keyed_entry (match_ordering r ((k, v) ∷ e ∷ es) ((e.0, v) ∷ es) (e ∷ insert_entry by_text es k v)) ≡ cond (is_lt r) (keyed_entry (k, v) ∷ keyed_entry e ∷ map keyed_entry es) (keyed_entry e ∷ with_index_entry (map keyed_entry es) (keyed_entry (k, v)))) [
      | Less ↦ λ h. refl
      | Equal ↦ λ h. absurd (cc)
      | Greater ↦ λ h. ap (λ rest. keyed_entry e ∷ rest) (keyed-insert_entry es k v h)
    ] none

-- what stands past the end
abbrev pub no_entry : EntryRef
no_entry = record { path = record { ref_ptr = (0, 0); now = [] }; source = File 0 (record { ref_ptr = (0, 0); now = [] }) }

-- the file at this index has the path of one before
pub seen_before : (files : List EntryRef) (i : ℕ) (d : EntryRef) (es : List (Bor (List ℕ) × SourceRef)) → map keyed_entry es ≡ sorted_entries (map entry_in (take i files))
    → is_some (lookup (is_at (by_text (get_or files i d).path)) es) ≡ list_any (has_path (get_or files i d).path.now) (map entry_in (take i files))
seen_before files i d es order =
    found_any (get_or files i d).path es ∙ ap (list_any (has_path (get_or files i d).path.now)) order ∙ list_any-sorted _ _

pub twice_more : (files : List EntryRef) (i : ℕ) (d : EntryRef) → i < length files
    → has_twice (map entry_in (take (i + 1) files)) ≡ (has_twice (map entry_in (take i files)) || list_any (has_path (get_or files i d).path.now) (map entry_in (take i files)))
twice_more files i d within =
    ap has_twice (map_more entry_in files i d within) ∙ has_twice_push (map entry_in (take i files)) (entry_in (get_or files i d))

-- a path that the map has already stands twice
pub twice_found : (files : List EntryRef) (i : ℕ) (d : EntryRef) (es : List (Bor (List ℕ) × SourceRef)) (v : SourceRef) → i < length files → map keyed_entry es ≡ sorted_entries (map entry_in (take i files))
    → Some v ≡ lookup (is_at (by_text (get_or files i d).path)) es → has_twice (map entry_in files) ≡ true
twice_found files i d es v within order found =
    let so_far = twice_more files i d within ∙ either-last (has_twice (map entry_in (take i files))) _ (sym (seen_before files i d es order) ∙ ap is_some (sym found)) in
    ap has_twice (ap (map entry_in) (sym (take-append-drop (i + 1) files)) ∙ map-append entry_in (take (i + 1) files) (drop (i + 1) files))
    ∙ has_twice-append (map entry_in (take (i + 1) files)) (map entry_in (drop (i + 1) files)) so_far

or_neither : (a b : Bool) → a ≡ false → b ≡ false → (a || b) ≡ false
or_neither true b e h = absurd (cc)
or_neither false b e h = h

-- a path that it does not have does not
pub once_more : (files : List EntryRef) (i : ℕ) (d : EntryRef) (es : List (Bor (List ℕ) × SourceRef)) → i < length files → map keyed_entry es ≡ sorted_entries (map entry_in (take i files))
    → None ≡ lookup (is_at (by_text (get_or files i d).path)) es → has_twice (map entry_in (take i files)) ≡ false → has_twice (map entry_in (take (i + 1) files)) ≡ false
once_more files i d es within order none once =
    twice_more files i d within ∙ or_neither _ _ once (sym (seen_before files i d es order) ∙ ap is_some (sym none))

-- and the files are in order with this one
pub order_more : (files : List EntryRef) (i : ℕ) (d : EntryRef) (es : List (Bor (List ℕ) × SourceRef)) → i < length files → map keyed_entry es ≡ sorted_entries (map entry_in (take i files))
    → None ≡ lookup (is_at (by_text (get_or files i d).path)) es → map keyed_entry (insert_entry by_text es (get_or files i d).path (get_or files i d).source) ≡ sorted_entries (map entry_in (take (i + 1) files))
order_more files i d es within order none =
    keyed-insert_entry es (get_or files i d).path (get_or files i d).source (sym none)
    ∙ ap (λ done. with_index_entry done (entry_in (get_or files i d))) order
    ∙ sym (sorted_push (map entry_in (take i files)) (entry_in (get_or files i d)))
    ∙ ap sorted_entries (sym (map_more entry_in files i d within))

below_all : (k : Bor (List ℕ)) (es : List (Bor (List ℕ) × SourceRef)) → AllByRecursion (λ y. by_text k y ≡ Less) (keys_of es) → AllByRecursion (λ file. slice_cmp nat_cmp k.now file.path.now ≡ Less) (map entry_at es)
below_all k [] all = all
below_all k (e ∷ es) all = (all.0, below_all k es all.1)

-- the files of a map's entries rise as its keys do
pub rising-entries : (es : List (Bor (List ℕ) × SourceRef)) → IsStrictlySortedBy by_text (keys_of es) → IsStrictlySortedBy path_cmp (map entry_at es)
unfolding IsStrictlySortedBy
rising-entries [] rising = rising
rising-entries (e ∷ es) rising = (below_all e.0 es rising.0, rising-entries es rising.1)

pub entries_shown : (es : List (Bor (List ℕ) × SourceRef)) → map entry_in (map entry_at es) ≡ map keyed_entry es
entries_shown [] = refl
entries_shown (e ∷ es) = ap (λ rest. keyed_entry e ∷ rest) (entries_shown es)
