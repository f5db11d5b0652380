-- A forest whose numbers have 64 bits, and what keeps it so.
use Rattle.std.proofs.Common.{arith, ℕ, ◌+◌, ◌^◌, ◌<◌, ◌≤◌, List, [], ◌++◌, length, take, drop, sym, subst, length-append, length-drop}
use Rattle.std.specs.Prelude.{IsSome, option_and_then, unwrap_or}
use Rattle.std.proofs.lemmas.List.{length-take, length-take-le}
use Rattle.std.specs.Cmp.{nat_cmp_total}
use Rattle.std.specs.FinMap.{empty, get-empty, nat_cmp-IsAntisymmetric}
use Rattle.std.specs.Ordering.{nat_cmp}
use Rattle.dt_host.specs.World.{Forest, Node, dir, file_bytes, content, with_node, without_node, with_entry, without_entry, with_bytes, empty_forest, IsDir, IsFile, IsSized}
use Rattle.dt_tables.proofs.Found.{none_there}
use Rattle.dt_tables.proofs.Maps.{at_insert, at_remove}
use Rattle.dt_host.proofs.Spots.{at_node, IsLive-IsDir, IsLive-IsFile}
use Rattle.dt_base.specs.Bytes.{with_bytes_at, with_trailing_zeros, with_length}

-- one node more, under a number of 64 bits
pub IsSized-with_node : (v : Forest) (n : ℕ) (node : Node) → IsSized v → n < 2 ^ 64 → length (unwrap_or (file_bytes node) []) < 2 ^ 64 → IsSized (with_node v n node)
unfolding content
IsSized-with_node v n node kept small short = record {
  numbers = λ q. at_node v n node (λ found. IsSome found → q < 2 ^ 64) q (λ is _. subst (λ x. x < 2 ^ 64) (sym is) small) (λ _. kept.numbers q);
  root = kept.root;
  files = λ q. at_node v n node (λ found. length (unwrap_or (option_and_then file_bytes found) []) < 2 ^ 64) q (λ _. short) (λ _. kept.files q);
}

-- one entry more in a directory
pub IsSized-with_entry : (v : Forest) (d : ℕ) (name : List ℕ) (n : ℕ) → IsSized v → IsDir v d → IsSized (with_entry v d name n)
unfolding with_entry
IsSized-with_entry v d name n kept is = IsSized-with_node v d _ kept (kept.numbers d (IsLive-IsDir v d is)) (omega arith)

-- one node fewer
pub IsSized-without_node : (v : Forest) (n : ℕ) → IsSized v → IsSized (without_node v n)
unfolding content
IsSized-without_node v n kept = record {
  numbers = λ q. at_remove nat_cmp_total nat_cmp-IsAntisymmetric (λ found. IsSome found → q < 2 ^ 64) v.nodes n q (λ _ live. cc) (λ _. kept.numbers q);
  root = kept.root;
  files = λ q. at_remove nat_cmp_total nat_cmp-IsAntisymmetric (λ found. length (unwrap_or (option_and_then file_bytes found) []) < 2 ^ 64) v.nodes n q (λ _. omega arith) (λ _. kept.files q);
}

-- one entry fewer in a directory
pub IsSized-without_entry : (v : Forest) (d : ℕ) (name : List ℕ) → IsSized v → IsDir v d → IsSized (without_entry v d name)
unfolding without_entry
IsSized-without_entry v d name kept is = IsSized-with_node v d _ kept (kept.numbers d (IsLive-IsDir v d is)) (omega arith)

-- other bytes as a file, of a size of 64 bits
pub IsSized-with_bytes : (v : Forest) (n : ℕ) (bytes : List ℕ) → IsSized v → IsFile v n → length bytes < 2 ^ 64 → IsSized (with_bytes v n bytes)
unfolding with_bytes
IsSized-with_bytes v n bytes kept is short = IsSized-with_node v n _ kept (kept.numbers n (IsLive-IsFile v n is)) short

-- bytes written over a file that end within 64 bits
pub short_overwritten : (old : List ℕ) (off : ℕ) (bytes : List ℕ) → off ≤ length old → length old < 2 ^ 64 → off + length bytes < 2 ^ 64 → length (with_bytes_at old off bytes) < 2 ^ 64
short_overwritten old off bytes joined short fits =
    omega (arith, length-take-le off old joined, length-append (take off old) bytes, length-append (take off old ++ bytes) (drop (off + length bytes) old), length-drop (off + length bytes) old)

-- bytes cut to a length of 64 bits, or with zeros up to it
pub short_resized : (old : List ℕ) (len : ℕ) → len < 2 ^ 64 → length (with_length old len) < 2 ^ 64
short_resized old len fits = omega (arith, length-take len (with_trailing_zeros old len))

-- nothing but a root without entries
pub IsSized-empty_forest : (root : ℕ) → root < 2 ^ 64 → IsSized (empty_forest root)
unfolding content
IsSized-empty_forest root small = record {
  numbers = λ q. at_insert nat_cmp_total nat_cmp-IsAntisymmetric (λ found. IsSome found → q < 2 ^ 64) empty root (dir empty) q (λ is _. subst (λ x. x < 2 ^ 64) (sym is) small) (λ _ live. absurd (none_there _ (get-empty nat_cmp q) live));
  root = small;
  files = λ q. at_insert nat_cmp_total nat_cmp-IsAntisymmetric (λ found. length (unwrap_or (option_and_then file_bytes found) []) < 2 ^ 64) empty root (dir empty) q (λ _. omega arith) (λ _. subst (λ found. length (unwrap_or (option_and_then file_bytes found) []) < 2 ^ 64) (sym (get-empty nat_cmp q)) (omega arith));
}
