-- What keeps the numbers of a forest and of its pipes within 64 bits.
use Rattle.std.proofs.Common.{arith, ℕ, ◌^◌, ◌<◌, List, [], length, sym, subst}
use Rattle.std.specs.Prelude.{IsSome}
use Rattle.std.specs.Ordering.{nat_cmp}
use Rattle.std.specs.Cmp.{nat_cmp_total}
use Rattle.std.specs.FinMap.{get, get-empty, nat_cmp-IsAntisymmetric}
use Rattle.dt_host.specs.declared.kind.NodeKind.{NodeKind}
use Rattle.dt_host.specs.declared.kind.NodeKind.TheVariants.{File, Dir, Pipe, Link, Device}
use Rattle.dt_host.specs.World.{IsDir, IsFile}
use Rattle.dt_tables.proofs.Found.{none_there}
use Rattle.dt_tables.proofs.Maps.{at_insert, at_remove}
use Rattle.dt_host.proofs.Sized.{IsSized-empty_forest, IsSized-with_node, IsSized-without_node, IsSized-with_entry, IsSized-without_entry, IsSized-with_bytes}
use Rattle.dt_memhost.specs.inner.Forest.{OrderedForest, HasSizes, empty_ordered, with_new_at, with_binding, without_binding, without_number, with_file_bytes, with_pipe_bytes}

-- nothing but a root
pub HasSizes-empty : (root : ℕ) → root < 2 ^ 64 → HasSizes (empty_ordered root)
HasSizes-empty root small = record { forest = IsSized-empty_forest root small; pipes = λ n some. absurd (none_there _ (get-empty nat_cmp n) some) }

module _ (o : OrderedForest) (n : ℕ) (kept : HasSizes o) where
  pub HasSizes-bound : (name : List ℕ) (to : ℕ) → IsDir o.forest n → HasSizes (with_binding o n name to)
  HasSizes-bound name to is = record { forest = IsSized-with_entry o.forest n name to kept.forest is; pipes = kept.pipes }

  pub HasSizes-unbound : (name : List ℕ) → IsDir o.forest n → HasSizes (without_binding o n name)
  HasSizes-unbound name is = record { forest = IsSized-without_entry o.forest n name kept.forest is; pipes = kept.pipes }

  pub HasSizes-rewritten : (bytes : List ℕ) → IsFile o.forest n → length bytes < 2 ^ 64 → HasSizes (with_file_bytes o n bytes)
  HasSizes-rewritten bytes is short = record { forest = IsSized-with_bytes o.forest n bytes kept.forest is short; pipes = kept.pipes }

  -- one pipe fewer
  fewer : (q : ℕ) → IsSome (get (without_number o n).pipes q) → q < 2 ^ 64
  fewer q = at_remove nat_cmp_total nat_cmp-IsAntisymmetric (λ found. IsSome found → q < 2 ^ 64) o.pipes n q (λ _ some. cc) (λ _. kept.pipes q)

  -- a pipe more, under a number of 64 bits
  more : (bytes : List ℕ) → n < 2 ^ 64 → (q : ℕ) → IsSome (get (with_pipe_bytes o n bytes).pipes q) → q < 2 ^ 64
  more bytes small q = at_insert nat_cmp_total nat_cmp-IsAntisymmetric (λ found. IsSome found → q < 2 ^ 64) o.pipes n bytes q (λ is _. subst (λ x. x < 2 ^ 64) (sym is) small) (λ _. kept.pipes q)

  pub HasSizes-refilled : (bytes : List ℕ) → IsSome (get o.pipes n) → HasSizes (with_pipe_bytes o n bytes)
  HasSizes-refilled bytes is = record { forest = kept.forest; pipes = more bytes (kept.pipes n is) }

  pub HasSizes-forgotten : HasSizes (without_number o n)
  HasSizes-forgotten = record { forest = IsSized-without_node o.forest n kept.forest; pipes = fewer }

  pub HasSizes-made : (kind : NodeKind) → n < 2 ^ 64 → HasSizes (with_new_at o n kind)
  HasSizes-made File small = record { forest = IsSized-with_node o.forest n _ kept.forest small (omega arith); pipes = fewer }
  HasSizes-made Dir small = record { forest = IsSized-with_node o.forest n _ kept.forest small (omega arith); pipes = fewer }
  HasSizes-made Pipe small = record { forest = IsSized-without_node o.forest n kept.forest; pipes = more [] small }
  HasSizes-made (Link target) small = record { forest = IsSized-with_node o.forest n _ kept.forest small (omega arith); pipes = fewer }
  HasSizes-made (Device which) small = record { forest = IsSized-with_node o.forest n _ kept.forest small (omega arith); pipes = fewer }
