-- Where no value of a map counts, the sum over it is 0.
use Rattle.std.proofs.Common.{arith, ◌≡◌, ℕ, ◌==◌, cond, true, false, Bool, List, [], ◌∷◌, Option, Some, None, refl, sym, ap, subst, ◌∙◌}
use Rattle.std.proofs.lemmas.Bool.Decides.{nat_tests}
use Rattle.std.specs.Prelude.{T, IfSome, IsSome, is_some}
use Rattle.std.specs.declared.cmp.Ordering.{Ordering}
use Rattle.std.specs.declared.cmp.Ordering.TheVariants.{Less, Equal, Greater}
use Rattle.std.specs.Ordering.{is_eq, ordering_reverse}
use Rattle.std.specs.Cmp.{IsTotalOrder, nat_cmp_total}
use Rattle.std.specs.FinMap.{FinMap, entries, entries_sorted, get, get-entries}
use Rattle.std.specs.FinMap.Entries.{find, below_all, is_sorted}
use Rattle.dt_tables.proofs.Conjuncts.{first, second}
use Rattle.dt_tables.proofs.Sorted.{below-tie, not_found}
use Rattle.dt_tables.specs.Total.{total_in, total}
use Rattle.dt_tables.specs.inner.Weight.{weight}
use Rattle.dt_fds.specs.declared.desc.Desc.{Desc}
use Rattle.dt_fds.specs.declared.desc.DescKind.{DescKind}
use Rattle.dt_fds.specs.declared.desc.DescKind.TheVariants.{File, Dir, Device, PipeRead, PipeWrite, Input, Stream}
use Rattle.dt_fds.specs.Pipes.{PipesView}
use Rattle.dt_fds.specs.Descriptions.{Descriptions, pipe_of, read_pipe, write_pipe, one_if_named, readers, writers}
use Rattle.dt_fds.specs.Backs.{AllEnds}

module _ {K X : Type 0} {R : K → K → Ordering} (o : IsTotalOrder R) (g : X → ℕ) where
  itself : (r : Ordering) → r ≡ ordering_reverse r → is_eq r ≡ true
  itself Less e = cc
  itself Equal e = refl
  itself Greater e = cc

  none_in : (es : List (K × X)) → T (is_sorted R es) → ((k : K) → weight g (find R k es) ≡ 0) → total_in g es ≡ 0
  none_in [] s h = refl
  none_in (e ∷ es) s h =
      let here : g e.1 ≡ 0 = sym (ap (λ b. weight g (cond b (Some e.1) (find R e.0 es))) (itself (R e.0 e.0) (o.antisymm e.0 e.0))) ∙ h e.0 in
      let rest : total_in g es ≡ 0 = none_in es (second (below_all R e.0 es) (is_sorted R es) s) (λ k. by_tie k (R k e.0) refl (h k)) in
      omega arith
    where
      by_tie : (k : K) (r : Ordering) → R k e.0 ≡ r → weight g (cond (is_eq r) (Some e.1) (find R k es)) ≡ 0 → weight g (find R k es) ≡ 0
      by_tie k Less p h = h
      by_tie k Greater p h = h
      by_tie k Equal p h = ap (weight g) (not_found R k es (below-tie o k e.0 es p (first (below_all R e.0 es) (is_sorted R es) s)))

  pub total-none : (m : FinMap R X) → ((k : K) → weight g (get m k) ≡ 0) → total g m ≡ 0
  unfolding total
  total-none m h = none_in (entries m) (entries_sorted m) (λ k. sym (ap (weight g) (get-entries m k)) ∙ h k)

-- where a pipe is not there, no open description is of an end of it
unnamed : (number : DescKind → Option ℕ) → ((kind : DescKind) (q : ℕ) → number kind ≡ Some q → pipe_of kind ≡ Some q) → (m : PipesView) (f : Descriptions) (q : ℕ) → AllEnds m f → get m.contents q ≡ None
    → total (λ (desc : Desc). one_if_named q (number desc.kind)) f.descs ≡ 0
unnamed number its m f q h none = total-none nat_cmp_total (λ (desc : Desc). one_if_named q (number desc.kind)) f.descs (λ k. by_found (get f.descs k) (h k))
  where
    by_test : (r : ℕ) (b : Bool) → (r == q) ≡ b → (b ≡ true → ⊥) → one_if_named q (Some r) ≡ 0
    by_test r true e h = absurd (h refl)
    by_test r false e h = ap (λ b. cond b 1 0) e

    by_number : (kind : DescKind) (found : Option ℕ) → number kind ≡ found → IfSome (pipe_of kind) (λ r. IsSome (get m.contents r)) → one_if_named q found ≡ 0
    by_number kind None e there = refl
    by_number kind (Some r) e there = by_test r (r == q) refl (λ is.
        let same : r ≡ q = grind (arith, nat_tests) in
        let some : IsSome (get m.contents r) = subst (λ found. IfSome found (λ r. IsSome (get m.contents r))) (its kind r e) there in
        let gone = ap is_some (ap (get m.contents) same ∙ none) in
        cc)

    by_found : (found : Option Desc) → IfSome found (λ desc. IfSome (pipe_of desc.kind) (λ r. IsSome (get m.contents r))) → weight (λ (desc : Desc). one_if_named q (number desc.kind)) found ≡ 0
    by_found None there = refl
    by_found (Some desc) there = by_number desc.kind (number desc.kind) refl there

read-its : (kind : DescKind) (q : ℕ) → read_pipe kind ≡ Some q → pipe_of kind ≡ Some q
read-its (PipeRead r) q e = e
read-its (PipeWrite r) q e = cc
read-its (File n) q e = cc
read-its (Dir n) q e = cc
read-its (Device n) q e = cc
read-its Input q e = cc
read-its (Stream stream) q e = cc

write-its : (kind : DescKind) (q : ℕ) → write_pipe kind ≡ Some q → pipe_of kind ≡ Some q
write-its (PipeWrite r) q e = e
write-its (PipeRead r) q e = cc
write-its (File n) q e = cc
write-its (Dir n) q e = cc
write-its (Device n) q e = cc
write-its Input q e = cc
write-its (Stream stream) q e = cc

pub no-readers : (m : PipesView) (f : Descriptions) (q : ℕ) → AllEnds m f → get m.contents q ≡ None → readers f q ≡ 0
unfolding readers
no-readers m f q h none = unnamed read_pipe read-its m f q h none

pub no-writers : (m : PipesView) (f : Descriptions) (q : ℕ) → AllEnds m f → get m.contents q ≡ None → writers f q ≡ 0
unfolding writers
no-writers m f q h none = unnamed write_pipe write-its m f q h none
