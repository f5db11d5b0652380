-- The entries of a map in the code are those of the finite map that it shows.
use Rattle.std.proofs.Common.{◌≡◌, ℕ, List, sym, ap, ◌∙◌}
use Rattle.std.specs.declared.cmp.Ordering.{Ordering}
use Rattle.std.specs.Ordering.{nat_cmp}
use Rattle.std.specs.Cmp.Lexicographic.{slice_cmp, nat_list_cmp_total}
use Rattle.std.specs.List.Sorted.{IsStrictlySortedBy}
use Rattle.std.specs.Map.{keys_of}
use Rattle.std.specs.FinMap.{from_entries, from_sorted, entries, entries-from_sorted, get-from_entries, get-from_sorted, same_map}
use Rattle.dt_tables.proofs.Sorted.{sorted-keys, same_entries}
use Rattle.dt_tables.proofs.Maps.{names_tie}
use Rattle.dt_tables.specs.Entries.{map_of}

abbrev by_path : List ℕ → List ℕ → Ordering
by_path = slice_cmp nat_cmp

pub entries_in_order : (es : List (List ℕ × ℕ)) → IsStrictlySortedBy by_path (keys_of es) → entries (map_of {R = by_path} (λ path. path) (λ n. n) es) ≡ es
unfolding map_of
entries_in_order es h =
    let sorted = sorted-keys by_path es h in
    ap (λ xs. entries (from_entries {R = by_path} xs)) (same_entries es)
    ∙ ap entries (same_map nat_list_cmp_total names_tie (from_entries es) (from_sorted es) (λ q. get-from_entries nat_list_cmp_total es q ∙ sym (get-from_sorted by_path es q sorted)))
    ∙ entries-from_sorted by_path es sorted
