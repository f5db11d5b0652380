-- A new pipe, and its two ends.
use Rattle.std.proofs.Common.{arith, ◌≡◌, ℕ, ◌+◌, ◌<◌, Bool, true, List, [], Option, None, Some, refl, sym, ap, subst, ◌∙◌}
use Rattle.std.proofs.lemmas.Bool.Decides.{nat_tests}
use Rattle.std.specs.Prelude.{IfSome, IsSome, is_some}
use Rattle.std.specs.Ordering.{nat_cmp}
use Rattle.std.specs.Cmp.{nat_cmp_total}
use Rattle.std.specs.FinMap.{FinMap, get, insert, nat_cmp-IsAntisymmetric}
use Rattle.dt_tables.proofs.Maps.{at_insert, get-insert_same}
use Rattle.dt_host.specs.World.{PipeContents}
use Rattle.dt_pipes.specs.Table as pipes
use Rattle.dt_pipes.specs.Table.{pipes_of}
use Rattle.dt_pipes.proofs.Held.{has-pipes_of}
use Rattle.dt_tree.specs.FileTree.{FileTree, IsTree}
use Rattle.dt_fds.specs.declared.desc.Desc.{Desc}
use Rattle.dt_fds.specs.declared.ends.Ends.{Ends}
use Rattle.dt_fds.specs.Ends.{AreCounted, is_read, is_written, one_if}
use Rattle.dt_fds.specs.Pipes.{PipesView, with_new_pipe}
use Rattle.dt_fds.specs.Descriptions.{Descriptions, pipe_of, one_if_named, readers, writers, with_opened}
use Rattle.dt_fds.specs.Holding.{holding_of, read_end, write_end}
use Rattle.dt_fds.specs.Backs.{AllEnds, Backs, KeepsOthers}
use Rattle.dt_fds.proofs.Backing.{backs-opened, others-opened, KeepsOthers-then}
use Rattle.dt_fds.proofs.Ending.{reading-opened, writing-opened}
use Rattle.dt_fds.proofs.Unnamed.{no-readers, no-writers}

-- the pipe of each end is there also with a new pipe
ends-more : (m : PipesView) (f : Descriptions) → AllEnds m f → AllEnds (with_new_pipe m) f
ends-more m f h = λ k. by_found (get f.descs k) (h k)
  where
    by_pipe : (named : Option ℕ) → IfSome named (λ q. IsSome (get m.contents q)) → IfSome named (λ q. IsSome (get (insert m.contents m.next []) q))
    by_pipe None h = tt
    by_pipe (Some q) h = at_insert nat_cmp_total nat_cmp-IsAntisymmetric (λ found. IsSome found) m.contents m.next [] q (λ is. refl) (λ apart. h)

    by_found : (found : Option Desc) → IfSome found (λ desc. IfSome (pipe_of desc.kind) (λ q. IsSome (get m.contents q))) → IfSome found (λ desc. IfSome (pipe_of desc.kind) (λ q. IsSome (get (insert m.contents m.next []) q)))
    by_found None h = tt
    by_found (Some desc) h = by_pipe (pipe_of desc.kind) h

module _ (m : PipesView) (f : Descriptions) (p read write flags : ℕ) (cloexec : Bool) (none : get m.contents m.next ≡ None) (fresh : get f.descs f.next ≡ None) where
  abbrev pub one : Descriptions
  one = with_opened f p read (read_end m.next flags) cloexec

  abbrev pub two : Descriptions
  two = with_opened one p write (write_end m.next flags) cloexec

  there : IsSome (get (insert m.contents m.next []) m.next)
  there = subst IsSome (sym (get-insert_same nat_cmp_total nat_cmp-IsAntisymmetric m.contents m.next [])) refl

  module _ (fresh_too : get one.descs one.next ≡ None) where
    pub backs-pipe : (t : FileTree) → IsTree t → Backs (holding_of t m f) → Backs (holding_of t (with_new_pipe m) two)
    backs-pipe t s h =
        let more : Backs (holding_of t (with_new_pipe m) f) = record { enough = h.enough; is_in = h.is_in; ends = ends-more m f h.ends } in
        backs-opened one t p write (write_end m.next flags) cloexec s (backs-opened f t p read (read_end m.next flags) cloexec s more fresh tt there) fresh_too tt there

    pub others-pipe : (t : FileTree) → IsTree t → KeepsOthers p (holding_of t m f) (holding_of t (with_new_pipe m) two)
    others-pipe t s =
        KeepsOthers-then p (holding_of t m f) (holding_of t m one) _ (others-opened f t p read (read_end m.next flags) cloexec s fresh tt) (others-opened one t p write (write_end m.next flags) cloexec s fresh_too tt)

    pub counted-pipe : (ends : FinMap nat_cmp Ends) → AllEnds m f → AreCounted f ends → AreCounted two (insert ends m.next (record { read = true; write = true }))
    counted-pipe ends all counted = record {
      reading = λ q.
          let first = reading-opened f p read (read_end m.next flags) cloexec q fresh in
          let second = reading-opened one p write (write_end m.next flags) cloexec q fresh_too in
          by_same (readers f q) (readers two q) q is_read (omega (arith, first, second)) (λ is. no-readers m f q all (ap (get m.contents) is ∙ none)) (λ found. refl) (counted.reading q);
      writing = λ q.
          let first = writing-opened f p read (read_end m.next flags) cloexec q fresh in
          let second = writing-opened one p write (write_end m.next flags) cloexec q fresh_too in
          by_same (writers f q) (writers two q) q is_written (omega (arith, first, second)) (λ is. no-writers m f q all (ap (get m.contents) is ∙ none)) (λ found. refl) (counted.writing q);
    }
      where
        both : Ends
        both = record { read = true; write = true }

        by_same : (before now q : ℕ) (open_end : Option Ends → Bool) → now ≡ before + one_if_named q (Some m.next) → (q ≡ m.next → before ≡ 0) → (Unit {0} → open_end (Some both) ≡ true) → before ≡ one_if (open_end (get ends q))
            → now ≡ one_if (open_end (get (insert ends m.next both) q))
        by_same before now q open_end sum zero said was = at_insert nat_cmp_total nat_cmp-IsAntisymmetric (λ found. now ≡ one_if (open_end found)) ends m.next both q
            (λ is.
            let one : one_if_named q (Some m.next) ≡ 1 = grind (arith, nat_tests) in
            let none = zero is in
            let test = ap one_if (said tt) in
            omega arith)
            (λ apart.
            let none : one_if_named q (Some m.next) ≡ 0 = grind (arith, nat_tests) in
            omega arith)

-- the next number is that of no pipe
pub next-free : (t : pipes.Table) (host : PipeContents) → pipes.Stands t host → get (pipes_of t host) t.next ≡ None
next-free t host stands = by_found (get (pipes_of t host) t.next) refl
  where
    by_found : (found : Option (List ℕ)) → get (pipes_of t host) t.next ≡ found → found ≡ None
    by_found None e = refl
    by_found (Some bytes) e = absurd (
        let given = stands.given t.next (sym (has-pipes_of t host t.next) ∙ ap is_some e) in
        let below : t.next < t.next = given.below in
        omega arith)
