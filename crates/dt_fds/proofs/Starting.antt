-- The open files of a first process.
use Rattle.std.proofs.Common.{arith, ◌≡◌, ℕ, zero, suc, ◌<◌, length, Option, None, Some, refl, sym, ap, subst, ◌∙◌}
use Rattle.std.specs.Prelude.{unwrap_or, is_some, IfSome, IsSome, replicate}
use Rattle.std.specs.List.{sum_by}
use Rattle.std.specs.Ordering.{nat_cmp}
use Rattle.std.specs.Cmp.{nat_cmp_total}
use Rattle.std.specs.FinMap.{FinMap, empty, get, insert, get-empty, nat_cmp-IsAntisymmetric}
use Rattle.dt_tables.proofs.Maps.{at_insert}
use Rattle.dt_tables.proofs.Totals.{total-insert, total-empty}
use Rattle.dt_tables.specs.Total.{total}
use Rattle.dt_tables.specs.inner.Weight.{weight}
use Rattle.dt_host.specs.World.{Forest}
use Rattle.dt_fds.specs.declared.desc.TheConstants.{DESCRIPTOR_LIMIT}
use Rattle.dt_fds.specs.declared.desc.Desc.{Desc}
use Rattle.dt_fds.specs.declared.desc.Slot.{Slot}
use Rattle.dt_fds.specs.declared.desc.DescKind.{DescKind}
use Rattle.dt_fds.specs.declared.desc.DescKind.TheVariants.{Input, Stream}
use Rattle.dt_fds.specs.Descriptions.{Descriptions, IsDesc, Table, slot_references, inode_of, first_desc, table_at, lowest_free, with_slot, with_new_description, empty_descriptions, with_opened_at, with_opened_lowest, first_files}
use Rattle.dt_fds.specs.Descriptions.{pipe_of, read_pipe, write_pipe, one_if_named, readers, writers}
use Rattle.dt_fds.specs.Pipes.{PipesView}
use Rattle.dt_fds.specs.Backs.{descriptions_of, IsIn, AllIn, AllEnds}
use Rattle.dt_fds.specs.inner.Counts.{Counts}

refers-free : (n k : ℕ) → sum_by (slot_references k) (replicate n None) ≡ 0
refers-free zero k = refl
refers-free (suc n) k = let rest = refers-free n k in omega arith

-- a slot that is free
abbrev free_slot : Option Slot
free_slot = None

free-length : (n : ℕ) → length (replicate n free_slot) ≡ n
free-length zero = refl
free-length (suc n) = let rest = free-length n in omega arith

-- a process begins with nothing open
pub counts-none : (p : ℕ) → Counts empty empty (insert empty p (replicate DESCRIPTOR_LIMIT None)) 1
counts-none p = record {
  counted = λ k.
      let sum = total-insert nat_cmp_total (sum_by (slot_references k)) empty p (replicate DESCRIPTOR_LIMIT None) in
      let start = total-empty nat_cmp_total (sum_by (slot_references k)) in
      let none = refers-free DESCRIPTOR_LIMIT k in
      let here = ap (weight (sum_by (slot_references k))) (get-empty nat_cmp p) in
      let count = ap (λ (found : Option ℕ). unwrap_or found 0) (get-empty nat_cmp k) in
      omega arith;
  alive = λ k. subst (λ (found : Option ℕ). IfSome found (λ count. 0 < count)) (sym (get-empty nat_cmp k)) tt;
  same = λ k. ap is_some (get-empty {X = ℕ} nat_cmp k) ∙ sym (ap is_some (get-empty {X = Desc} nat_cmp k));
  good = λ k. subst (λ (found : Option Desc). IfSome found IsDesc) (sym (get-empty nat_cmp k)) tt;
  fresh = λ k is. let none = ap is_some (get-empty {X = Desc} nat_cmp k) in cc;
  sized = λ q. at_insert nat_cmp_total nat_cmp-IsAntisymmetric (λ found. IfSome found (λ table. length table ≡ DESCRIPTOR_LIMIT)) empty p _ q
      (λ is. free-length DESCRIPTOR_LIMIT)
      (λ apart. subst (λ (found : Option Table). IfSome found (λ table. length table ≡ DESCRIPTOR_LIMIT)) (sym (get-empty nat_cmp q)) tt);
}

-- a process more begins with nothing open
pub counts-begun : (descs : FinMap nat_cmp Desc) (counts : FinMap nat_cmp ℕ) (tables : FinMap nat_cmp Table) (next p : ℕ) → get tables p ≡ None → Counts descs counts tables next
    → Counts descs counts (insert tables p (replicate DESCRIPTOR_LIMIT None)) next
counts-begun descs counts tables next p none h = record {
  counted = λ k.
      let sum = total-insert nat_cmp_total (sum_by (slot_references k)) tables p (replicate DESCRIPTOR_LIMIT None) in
      let free = refers-free DESCRIPTOR_LIMIT k in
      let here = ap (weight (sum_by (slot_references k))) none in
      omega (arith, h.counted k);
  alive = h.alive;
  same = h.same;
  good = h.good;
  fresh = h.fresh;
  sized = λ q. at_insert nat_cmp_total nat_cmp-IsAntisymmetric (λ found. IfSome found (λ table. length table ≡ DESCRIPTOR_LIMIT)) tables p _ q
      (λ is. free-length DESCRIPTOR_LIMIT) (λ apart. h.sized q);
}

-- no description names a number in this way
abbrev NamesNone : (DescKind → Option ℕ) → Descriptions → Type 0
NamesNone number f = (n : ℕ) → total (λ (desc : Desc). one_if_named n (number desc.kind)) f.descs ≡ 0

names-none : (number : DescKind → Option ℕ) (p : ℕ) → NamesNone number (empty_descriptions p)
names-none number p = λ n. total-empty nat_cmp_total (λ (desc : Desc). one_if_named n (number desc.kind))

-- one that names none more
names-lowest : (number : DescKind → Option ℕ) (p : ℕ) (desc : Desc) (f : Descriptions) → number desc.kind ≡ None → NamesNone number f → NamesNone number (with_opened_lowest p desc f)
unfolding with_opened_lowest with_slot with_new_description
names-lowest number p desc f of_none h n = by_free (lowest_free (table_at f p) 0)
  where
    by_free : (free : Option ℕ) → (let g = with_opened_at f p desc free in total (λ (desc : Desc). one_if_named n (number desc.kind)) g.descs ≡ 0)
    by_free None = h n
    by_free (Some fd) =
        let sum = total-insert nat_cmp_total (λ (desc : Desc). one_if_named n (number desc.kind)) f.descs f.next desc in
        let none = ap (one_if_named n) of_none in
        omega (arith, h n)

names-first_files : (number : DescKind → Option ℕ) (p : ℕ) → number Input ≡ None → number (Stream 1) ≡ None → number (Stream 2) ≡ None → NamesNone number (first_files p)
unfolding first_files
names-first_files number p a b c = names-lowest number p _ _ c (names-lowest number p _ _ b (names-lowest number p _ _ a (names-none number p)))

-- no description is of a node, or of an end of a pipe
pub nodes-first_files : (p n : ℕ) → descriptions_of (first_files p) n ≡ 0
unfolding descriptions_of
nodes-first_files p n = names-first_files inode_of p refl refl refl n

pub reading-first_files : (p q : ℕ) → readers (first_files p) q ≡ 0
unfolding readers
reading-first_files p q = names-first_files read_pipe p refl refl refl q

pub writing-first_files : (p q : ℕ) → writers (first_files p) q ≡ 0
unfolding writers
writing-first_files p q = names-first_files write_pipe p refl refl refl q

ends-none : (pipes : PipesView) (p : ℕ) → AllEnds pipes (empty_descriptions p)
ends-none pipes p k = subst (λ (found : Option Desc). IfSome found (λ desc. IfSome (pipe_of desc.kind) (λ q. IsSome (get pipes.contents q)))) (sym (get-empty nat_cmp k)) tt

ends-lowest : (pipes : PipesView) (p : ℕ) (desc : Desc) (f : Descriptions) → IfSome (pipe_of desc.kind) (λ q. IsSome (get pipes.contents q)) → AllEnds pipes f → AllEnds pipes (with_opened_lowest p desc f)
unfolding with_opened_lowest with_slot with_new_description
ends-lowest pipes p desc f there h = by_free (lowest_free (table_at f p) 0)
  where
    by_free : (free : Option ℕ) → AllEnds pipes (with_opened_at f p desc free)
    by_free None = h
    by_free (Some fd) = λ k. at_insert nat_cmp_total nat_cmp-IsAntisymmetric (λ found. IfSome found (λ desc. IfSome (pipe_of desc.kind) (λ q. IsSome (get pipes.contents q)))) f.descs f.next desc k (λ _. there) (λ apart. h k)

pub ends-first_files : (pipes : PipesView) (p : ℕ) → AllEnds pipes (first_files p)
unfolding first_files
ends-first_files pipes p = ends-lowest pipes p _ _ tt (ends-lowest pipes p _ _ tt (ends-lowest pipes p _ _ tt (ends-none pipes p)))

in-none : (v : Forest) (p : ℕ) → AllIn v (empty_descriptions p)
in-none v p k = subst (λ (found : Option Desc). IfSome found (λ desc. IsIn v desc.kind)) (sym (get-empty nat_cmp k)) tt

in-lowest : (v : Forest) (p : ℕ) (desc : Desc) (f : Descriptions) → IsIn v desc.kind → AllIn v f → AllIn v (with_opened_lowest p desc f)
unfolding with_opened_lowest with_slot with_new_description
in-lowest v p desc f is h = by_free (lowest_free (table_at f p) 0)
  where
    by_free : (free : Option ℕ) → AllIn v (with_opened_at f p desc free)
    by_free None = h
    by_free (Some fd) = λ k. at_insert nat_cmp_total nat_cmp-IsAntisymmetric (λ found. IfSome found (λ desc. IsIn v desc.kind)) f.descs f.next desc k (λ _. is) (λ apart. h k)

pub in-first_files : (v : Forest) (p : ℕ) → AllIn v (first_files p)
unfolding first_files
in-first_files v p = in-lowest v p _ _ tt (in-lowest v p _ _ tt (in-lowest v p _ _ tt (in-none v p)))

-- the descriptors are opened one after the other
pub first_files-opened : (p : ℕ) (f0 f1 f2 f3 : Descriptions) (a b c : Desc) → f0 ≡ empty_descriptions p → a ≡ first_desc Input 0 → f1 ≡ with_opened_lowest p a f0 → b ≡ first_desc (Stream 1) 1 → f2 ≡ with_opened_lowest p b f1
    → c ≡ first_desc (Stream 2) 1 → f3 ≡ with_opened_lowest p c f2 → f3 ≡ first_files p
unfolding first_files
first_files-opened p f0 f1 f2 f3 a b c none is_a first is_b second is_c third = cc
