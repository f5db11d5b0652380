-- Which numbers are those of pipes after a change, and what is said of a table and a host that are seen in other words.
use Rattle.std.proofs.Common.{◌≡◌, ℕ, ◌==◌, ◌&&◌, ◌||◌, not, refl, sym, ap, subst, ◌∙◌, arith}
use Rattle.std.specs.Prelude.{is_some, IsSome, if◌then◌else◌}
use Rattle.std.specs.Cmp.{nat_cmp_total}
use Rattle.std.specs.Ordering.{nat_cmp}
use Rattle.std.specs.FinMap.{FinMap, get, insert, remove, nat_cmp-IsAntisymmetric}
use Rattle.std.proofs.lemmas.Bool.Decides.{nat_tests}
use Rattle.dt_tables.specs.Values.{map_values}
use Rattle.dt_host.specs.World.{World, PipeContents, IsPipe, without_pipe, without_node, with_forest}
use Rattle.dt_host.specs.Legal.{without}
use Rattle.dt_tables.proofs.Maps.{at_insert, at_remove}
use Rattle.dt_pipes.specs.declared.pipe.Pipe.{Pipe}
use Rattle.dt_pipes.specs.Table.{Table, table_of, held_in, pipes_of, Stands}

module _ (m : FinMap nat_cmp Pipe) (q : ℕ) where
  -- one number more
  pub some-insert : (pipe : Pipe) (r : ℕ) → is_some (get (insert m q pipe) r) ≡ (is_some (get m r) || (r == q))
  some-insert pipe r =
      at_insert nat_cmp_total nat_cmp-IsAntisymmetric (λ found. is_some found ≡ (is_some (get m r) || (r == q))) m q pipe r
      (λ is. grind (arith, nat_tests))
      (λ apart. grind (arith, nat_tests))

  -- the same numbers
  pub some-set : (pipe : Pipe) → IsSome (get m q) → (r : ℕ) → is_some (get (insert m q pipe) r) ≡ is_some (get m r)
  some-set pipe there r =
      at_insert nat_cmp_total nat_cmp-IsAntisymmetric (λ found. is_some found ≡ is_some (get m r)) m q pipe r
      (λ is. sym (subst (λ n. IsSome (get m n)) (sym is) there))
      (λ apart. refl)

  -- one number fewer
  pub some-remove : (r : ℕ) → is_some (get (remove m q) r) ≡ (is_some (get m r) && not (r == q))
  some-remove r =
      at_remove nat_cmp_total nat_cmp-IsAntisymmetric (λ found. is_some found ≡ (is_some (get m r) && not (r == q))) m q r
      (λ is. grind (arith, nat_tests))
      (λ apart. grind (arith, nat_tests))

-- the pipes of a table that is seen by its parts, with one under the next number
pub seen-with : (t : Table) (pipes now : FinMap nat_cmp Pipe) (n next : ℕ) (pipe : Pipe) → table_of pipes next ≡ t
    → now ≡ insert pipes n pipe → n ≡ next → now ≡ insert t.pipes t.next pipe
seen-with t pipes now n next pipe view is same =
    is ∙ ap (λ k. insert pipes k pipe) same ∙ ap (λ (t : Table). insert t.pipes t.next pipe) view

-- and without one
pub seen-without : (t : Table) (pipes now : FinMap nat_cmp Pipe) (n q next : ℕ) → table_of pipes next ≡ t
    → now ≡ remove pipes n → n ≡ q → now ≡ remove t.pipes q
seen-without t pipes now n q next view is same =
    is ∙ ap (remove pipes) same ∙ ap (λ (t : Table). remove t.pipes q) view

-- what pipes hold is a matter of the pipes alone
pub pipes_of-alike : (t s : Table) (host other : PipeContents) → t.pipes ≡ s.pipes → host ≡ other → pipes_of t host ≡ pipes_of s other
unfolding pipes_of
pipes_of-alike t s host other is same = (λ i. map_values (λ (pipe : Pipe). held_in (same i) pipe.real) (is i))

pub stands-alike : (t s : Table) (host other : PipeContents) → t ≡ s → host ≡ other → Stands s other → Stands t host
stands-alike t s host other is same stands = subst (λ t. Stands t host) (sym is) (subst (Stands s) (sym same) stands)

-- what is left of a host without one of its pipes
pub pipes-without : (w : World) (n : ℕ) → IsPipe w n → (without w n).pipes ≡ remove w.pipes n
pipes-without w n live = ap (λ b. (if b then without_pipe w n else with_forest w (without_node w.forest n)).pipes) live
