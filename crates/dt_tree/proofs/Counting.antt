-- What the host tells of a directory, in any order or in its own, counts and lists its entries.
use Rattle.std.proofs.Common.{arith, ◌≡◌, ℕ, ◌≤◌, List, map, length, cond, Some, sym, ap, ◌∙◌}
use Rattle.std.proofs.lemmas.List.{length-map}
use Rattle.std.proofs.lemmas.List.Sorted.{sum_by-IsPermutation, length_permutation}
use Rattle.std.proofs.lemmas.List.Sums.{sum-map}
use Rattle.std.proofs.lemmas.Simd.{map-map}
use Rattle.std.specs.Prelude.{sum}
use Rattle.std.specs.List.{count_by, sum_by}
use Rattle.std.specs.List.Sorted.{IsPermutation}
use Rattle.std.specs.Cmp.Lexicographic.{slice_cmp, nat_list_cmp_total}
use Rattle.std.specs.Ordering.{nat_cmp}
use Rattle.std.specs.FinMap.{get, entries, len, len-entries}
use Rattle.dt_host.specs.World.{Forest, names_at}
use Rattle.dt_host.specs.Legal.{pair_of}
use Rattle.dt_host.specs.declared.entry.HostEntry.{HostEntry}
use Rattle.dt_tables.proofs.Maps.{names_tie}
use Rattle.dt_tables.proofs.Valued.{entries-map_values}
use Rattle.dt_tree.specs.declared.inode.Inode.{Inode}
use Rattle.dt_tree.specs.Shape.{is_dir, name_count}
use Rattle.dt_tree.specs.Listing.{listed_entry}
use Rattle.dt_tree.specs.Meta.{subdirectory_count}
use Rattle.dt_tree.specs.Table.{Table, vino_of, shape_of, IsPairing}
use Rattle.dt_tree.specs.inner.Lists.{listed_host_entry}
use Rattle.dt_tree.proofs.Namings.{len-names_at}
use Rattle.dt_tree.proofs.Mirroring.{names_at-inode}

-- a sum over a list of images
sum_by-mapped : {X Y : Type 0} (g : Y → ℕ) (h : X → Y) (xs : List X) → sum_by g (map h xs) ≡ sum_by (λ x. g (h x)) xs
sum_by-mapped g h xs = sym (sum-map g (map h xs)) ∙ ap sum (map-map g h xs) ∙ sum-map (λ x. g (h x)) xs

module _ (t : Table) (v : Forest) (s : IsPairing t v) (d : ℕ) (inode : Inode) (at : get t.inodes d ≡ Some inode) where
  -- the entries of a directory are those at the host, under their inodes
  pub entries-inode : entries (names_at (shape_of t v) d) ≡ map (λ e. (e.0, vino_of t e.1)) (entries (names_at v inode.real))
  entries-inode = ap (λ names. entries names) (names_at-inode t v s d inode at) ∙ entries-map_values (slice_cmp nat_cmp) (vino_of t) nat_list_cmp_total names_tie (names_at v inode.real)

  module _ (found : List HostEntry) (told : IsPermutation (entries (names_at v inode.real)) (map pair_of found)) where
    pub counted : count_by (λ (e : HostEntry). is_dir (shape_of t v) (vino_of t e.ino)) found ≡ subdirectory_count (shape_of t v) d
    counted =
        let test = λ (e : List ℕ × ℕ). cond (is_dir (shape_of t v) e.1) 1 0 in
        let real_test = λ (e : List ℕ × ℕ). cond (is_dir (shape_of t v) (vino_of t e.1)) 1 0 in
        sym (sum_by-mapped real_test pair_of found)
        ∙ sum_by-IsPermutation real_test (entries (names_at v inode.real)) (map pair_of found) told
        ∙ sym (sum_by-mapped test (λ e. (e.0, vino_of t e.1)) (entries (names_at v inode.real)))
        ∙ ap (sum_by test) (sym entries-inode)

    -- as many as the directory has
    pub length_told : length found ≡ len (names_at (shape_of t v) d)
    length_told =
        let a = length-map found pair_of in
        let b = length_permutation (entries (names_at v inode.real)) (map pair_of found) told in
        let c = ap length entries-inode ∙ length-map (entries (names_at v inode.real)) (λ (e : List ℕ × ℕ). (e.0, vino_of t e.1)) in
        let size = len-entries (names_at (shape_of t v) d) in
        omega arith

    -- no more than there are names in all
    pub few_told : length found ≤ name_count (shape_of t v)
    few_told =
        let all = length_told in
        let most = len-names_at (shape_of t v) d in
        omega arith

  -- in the order of names they are the listing
  pub listed_all : (found : List HostEntry) → map pair_of found ≡ entries (names_at v inode.real) → map (listed_host_entry t v) found ≡ map (listed_entry (shape_of t v)) (entries (names_at (shape_of t v) d))
  listed_all found told =
      sym (ap (map (listed_entry (shape_of t v))) (entries-inode ∙ ap (map (λ e. (e.0, vino_of t e.1))) (sym told))
      ∙ map-map (listed_entry (shape_of t v)) (λ e. (e.0, vino_of t e.1)) (map pair_of found)
      ∙ map-map (λ e. listed_entry (shape_of t v) (e.0, vino_of t e.1)) pair_of found)
