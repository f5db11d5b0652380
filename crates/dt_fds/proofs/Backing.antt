-- The tree backs the descriptions: what this gives, and how it lasts.
use Rattle.std.proofs.Common.{arith, ◌≡◌, ℕ, ◌+◌, ◌<◌, ◌≤◌, ◌==◌, Bool, true, false, cond, Option, None, Some, refl, sym, ap, subst, ◌∙◌}
use Rattle.std.proofs.lemmas.Bool.Decides.{nat_tests}
use Rattle.std.specs.Prelude.{IfSome, IsSome, option_map, slice_set}
use Rattle.std.specs.Cmp.{nat_cmp_total}
use Rattle.std.specs.FinMap.{get, remove, nat_cmp-IsAntisymmetric}
use Rattle.dt_host.specs.World.{Forest, IsFile, IsDir, IsDevice, IsLive}
use Rattle.dt_tables.proofs.Maps.{at_insert, at_remove, get-insert_other, get-remove_other}
use Rattle.dt_host.proofs.Spots.{IsLive-IsDir, IsLive-IsDevice, IsLive-IsFile}
use Rattle.dt_tables.proofs.Totals.{total-insert, total-remove}
use Rattle.dt_tables.specs.Total.{total}
use Rattle.dt_tables.specs.inner.Weight.{weight}
use Rattle.dt_tree.proofs.Namings.{one_for-same}
use Rattle.dt_tree.specs.FileTree.{FileTree, IsTree, holds_of}
use Rattle.dt_tree.specs.Shape.{one_for}
use Rattle.dt_tree.specs.Changes.{tree_after_hold, with_some}
use Rattle.dt_tree.specs.Calls.{KeepsHeld}
use Rattle.dt_tree.proofs.Holding.{holds-held, shape-held, holds-released, IsFile-released, IsDir-released, IsDevice-released}
use Rattle.dt_fds.specs.declared.desc.Desc.{Desc}
use Rattle.dt_fds.specs.declared.desc.DescKind.{DescKind}
use Rattle.dt_fds.specs.declared.desc.DescKind.TheVariants.{File, Dir, Device, PipeRead, PipeWrite, Input, Stream}
use Rattle.dt_fds.specs.declared.desc.Slot.{Slot}
use Rattle.dt_fds.specs.Pipes.{PipesView, without_pipe}
use Rattle.dt_fds.specs.Descriptions.{Descriptions, Table, inode_of, pipe_of, read_pipe, write_pipe, one_if_named, readers, writers, descriptors_of, table_at, with_slot, with_table, with_new_description, with_opened, without_unreferenced, without_slot, unreferenced, with_description, without_table}
use Rattle.dt_fds.specs.Holding.{Holding, holding_of, with_hold, without_hold, tree_without_description, without_end, pipes_after_end, pipes_without_description}
use Rattle.dt_fds.specs.Backs.{descriptions_of, IsIn, AllIn, AllEnds, Backs, KeepsNodes, KeepsOthers}

abbrev names_node : ℕ → Desc → ℕ
names_node n desc = one_if_named n (inode_of desc.kind)

abbrev pub names_read : ℕ → Desc → ℕ
names_read q desc = one_if_named q (read_pipe desc.kind)

abbrev pub names_written : ℕ → Desc → ℕ
names_written q desc = one_if_named q (write_pipe desc.kind)

-- a description that is open is counted at its node
pub named : (f : Descriptions) (k n : ℕ) → weight (names_node n) (get f.descs k) ≤ descriptions_of f n
unfolding descriptions_of
named f k n = let sum = total-remove nat_cmp_total (names_node n) nat_cmp-IsAntisymmetric f.descs k in omega arith

-- a description that goes is counted no more
pub nodes-swept : (f : Descriptions) (k n : ℕ) → descriptions_of (without_unreferenced f k) n + weight (names_node n) (unreferenced f k) ≡ descriptions_of f n
unfolding without_unreferenced unreferenced descriptions_of
nodes-swept f k n =
    elim (descriptors_of f k == 0) as (λ b. total (names_node n) (cond b (record f { descs = remove f.descs k }) f).descs + weight (names_node n) (cond b (get f.descs k) None) ≡ total (names_node n) f.descs) [
      | true ↦ total-remove nat_cmp_total (names_node n) nat_cmp-IsAntisymmetric f.descs k
      | false ↦ omega arith
    ]

-- what is open after a sweep was open before
pub open-swept : (f : Descriptions) (k q : ℕ) (P : Desc → Type 0) → IfSome (get f.descs q) P → IfSome (get (without_unreferenced f k).descs q) P
unfolding without_unreferenced
open-swept f k q P h =
    elim (descriptors_of f k == 0) as (λ b. IfSome (get (cond b (record f { descs = remove f.descs k }) f).descs q) P) [
      | true ↦ at_remove nat_cmp_total nat_cmp-IsAntisymmetric (λ found. IfSome found P) f.descs k q (λ is. tt) (λ apart. h)
      | false ↦ h
    ]

-- the node of a description that goes is held
pub gone-held : {m : PipesView} (f : Descriptions) (t : FileTree) (k : ℕ) → Backs (holding_of t m f) → IfSome (unreferenced f k) (λ desc. IfSome (inode_of desc.kind) (λ n. 0 < holds_of t n))
unfolding unreferenced
gone-held f t k h =
    elim (descriptors_of f k == 0) as (λ b. IfSome (cond b (get f.descs k) None) (λ desc. IfSome (inode_of desc.kind) (λ n. 0 < holds_of t n))) [
      | true ↦ by_found (get f.descs k) (λ n. named f k n)
      | false ↦ tt
    ]
  where
    by_node : (node : Option ℕ) → ((n : ℕ) → one_if_named n node ≤ descriptions_of f n) → IfSome node (λ n. 0 < holds_of t n)
    by_node None c = tt
    by_node (Some n) c = let one = one_for-same n in omega (arith, c n, h.enough n)

    by_found : (found : Option Desc) → ((n : ℕ) → weight (names_node n) found ≤ descriptions_of f n) → IfSome found (λ desc. IfSome (inode_of desc.kind) (λ n. 0 < holds_of t n))
    by_found None c = tt
    by_found (Some desc) c = by_node (inode_of desc.kind) c

-- the holds after that node was let go
pub holds-let_go : (t : FileTree) (gone : Option Desc) (m : ℕ) → IfSome gone (λ desc. IfSome (inode_of desc.kind) (λ n. 0 < holds_of t n)) → holds_of (tree_without_description t gone) m + weight (names_node m) gone ≡ holds_of t m
holds-let_go t None m h = omega arith
holds-let_go t (Some desc) m h = by_node (inode_of desc.kind) h
  where
    by_node : (node : Option ℕ) → IfSome node (λ n. 0 < holds_of t n) → holds_of (without_hold t node) m + one_if_named m node ≡ holds_of t m
    by_node None h = omega arith
    by_node (Some n) h = holds-released t n h m

-- what is still held is there as before
pub kept-let_go : (t : FileTree) (found : Option Desc) → IsTree t → (kind : DescKind) → IfSome (inode_of kind) (λ n. 1 ≤ holds_of (tree_without_description t found) n) → IsIn t.shape kind → (let new = tree_without_description t found in IsIn new.shape kind)
kept-let_go t None s kind some is = is
kept-let_go t (Some desc) s kind some is = by_node (inode_of desc.kind) kind some is
  where
    by_node : (node : Option ℕ) (kind : DescKind) → IfSome (inode_of kind) (λ n. 1 ≤ holds_of (without_hold t node) n) → IsIn t.shape kind → (let new = without_hold t node in IsIn new.shape kind)
    by_node None kind some is = is
    by_node (Some m) (File n) some is = IsFile-released t m s n (λ _. some) is
    by_node (Some m) (Dir n) some is = IsDir-released t m s n (λ _. some) is
    by_node (Some m) (Device n) some is = IsDevice-released t m s n (λ _. some) is
    by_node (Some m) (PipeRead q) some is = tt
    by_node (Some m) (PipeWrite q) some is = tt
    by_node (Some m) Input some is = tt
    by_node (Some m) (Stream stream) some is = tt

-- the nodes of descriptions are there in another tree that holds each as often as there are descriptions of it, and keeps what it holds
pub in-kept : (f : Descriptions) (t u : FileTree) → ((n : ℕ) → descriptions_of f n ≤ holds_of u n)
    → ((kind : DescKind) → IfSome (inode_of kind) (λ n. 1 ≤ holds_of u n) → IsIn t.shape kind → IsIn u.shape kind) → AllIn t.shape f → AllIn u.shape f
in-kept f t u enough kept h = λ k. by_found (get f.descs k) (named f k) (h k)
  where
    by_node : (node : Option ℕ) → ((n : ℕ) → one_if_named n node ≤ descriptions_of f n) → IfSome node (λ n. 1 ≤ holds_of u n)
    by_node None c = tt
    by_node (Some n) c = let one = one_for-same n in omega (arith, c n, enough n)

    by_found : (found : Option Desc) → ((n : ℕ) → weight (names_node n) found ≤ descriptions_of f n) → IfSome found (λ desc. IsIn t.shape desc.kind) → IfSome found (λ desc. IsIn u.shape desc.kind)
    by_found None c is = tt
    by_found (Some desc) c is = kept desc.kind (by_node (inode_of desc.kind) c) is

-- a tree that keeps what is held backs what it backed
pub backs-held : {m : PipesView} (f : Descriptions) (t u : FileTree) → KeepsHeld t u → Backs (holding_of t m f) → Backs (holding_of u m f)
backs-held f t u held h =
    let enough : (n : ℕ) → descriptions_of f n ≤ holds_of u n = λ n. omega (arith, h.enough n, held.holds n) in
    record { enough = enough; is_in = in-kept f t u enough kept h.is_in; ends = h.ends }
  where
    before : (n : ℕ) → 1 ≤ holds_of u n → 1 ≤ holds_of t n
    before n some = omega (arith, held.holds n)

    kept : (kind : DescKind) → IfSome (inode_of kind) (λ n. 1 ≤ holds_of u n) → IsIn t.shape kind → IsIn u.shape kind
    kept (File n) some is = held.files n (before n some) is
    kept (Dir n) some is = held.dirs n (before n some) is
    kept (Device n) some is = held.devices n (before n some) is
    kept (PipeRead q) some is = tt
    kept (PipeWrite q) some is = tt
    kept Input some is = tt
    kept (Stream stream) some is = tt

-- an end that is open is counted at its pipe
end-counted : (f : Descriptions) (k q : ℕ) → IfSome (get f.descs k) (λ desc. IfSome (pipe_of desc.kind) (λ r. r ≡ q → 0 < readers f q + writers f q))
unfolding readers writers
end-counted f k q = by_found (get f.descs k) refl
  where
    by_found : (found : Option Desc) → get f.descs k ≡ found → IfSome found (λ desc. IfSome (pipe_of desc.kind) (λ r. r ≡ q → 0 < total (names_read q) f.descs + total (names_written q) f.descs))
    by_found None e = tt
    by_found (Some desc) e =
        let reads = total-remove nat_cmp_total (names_read q) nat_cmp-IsAntisymmetric f.descs k in
        let writes = total-remove nat_cmp_total (names_written q) nat_cmp-IsAntisymmetric f.descs k in
        let read = ap (weight (names_read q)) e in
        let write = ap (weight (names_written q)) e in
        by_kind desc.kind (omega arith) (omega arith)
      where
        by_kind : (kind : DescKind) → one_if_named q (read_pipe kind) ≤ total (names_read q) f.descs → one_if_named q (write_pipe kind) ≤ total (names_written q) f.descs
            → IfSome (pipe_of kind) (λ r. r ≡ q → 0 < total (names_read q) f.descs + total (names_written q) f.descs)
        by_kind (File n) a b = tt
        by_kind (Dir n) a b = tt
        by_kind (Device n) a b = tt
        by_kind (PipeRead r) a b = λ is. let one : one_for r q ≡ 1 = subst (λ x. one_for r x ≡ 1) is (one_for-same r) in omega arith
        by_kind (PipeWrite r) a b = λ is. let one : one_for r q ≡ 1 = subst (λ x. one_for r x ≡ 1) is (one_for-same r) in omega arith
        by_kind Input a b = tt
        by_kind (Stream stream) a b = tt

-- the pipe of each end is there also after one that has no ends went
ends-without : (m : PipesView) (f : Descriptions) (q : ℕ) → AllEnds m f → AllEnds (without_end f m q) f
unfolding without_end
ends-without m f q h = by_test (readers f q + writers f q == 0) refl
  where
    still : readers f q + writers f q ≡ 0 → (kind : DescKind) → IfSome (pipe_of kind) (λ r. r ≡ q → 0 < readers f q + writers f q) → IfSome (pipe_of kind) (λ r. IsSome (get m.contents r)) → IfSome (pipe_of kind) (λ r. IsSome (get (remove m.contents q) r))
    still none kind counted there = by_pipe (pipe_of kind) counted there
      where
        by_pipe : (found : Option ℕ) → IfSome found (λ r. r ≡ q → 0 < readers f q + writers f q) → IfSome found (λ r. IsSome (get m.contents r)) → IfSome found (λ r. IsSome (get (remove m.contents q) r))
        by_pipe None counted there = tt
        by_pipe (Some r) counted there = at_remove nat_cmp_total nat_cmp-IsAntisymmetric (λ found. IsSome found) m.contents q r (λ is. absurd (let some = counted is in omega arith)) (λ apart. there)

    by_test : (b : Bool) → (readers f q + writers f q == 0) ≡ b → AllEnds (cond b (without_pipe m q) m) f
    by_test false e = h
    by_test true e = let none : readers f q + writers f q ≡ 0 = grind (arith, nat_tests) in λ k. by_found none k (get f.descs k) (end-counted f k q) (h k)
      where
        by_found : readers f q + writers f q ≡ 0 → (k : ℕ) (found : Option Desc) → IfSome found (λ desc. IfSome (pipe_of desc.kind) (λ r. r ≡ q → 0 < readers f q + writers f q)) → IfSome found (λ desc. IfSome (pipe_of desc.kind) (λ r. IsSome (get m.contents r)))
            → IfSome found (λ desc. IfSome (pipe_of desc.kind) (λ r. IsSome (get (remove m.contents q) r)))
        by_found none k None counted there = tt
        by_found none k (Some desc) counted there = still none desc.kind counted there

ends-left : (m : PipesView) (f : Descriptions) (lost : Option Desc) → AllEnds m f → AllEnds (pipes_without_description f m lost) f
ends-left m f None h = h
ends-left m f (Some desc) h = by_pipe (pipe_of desc.kind)
  where
    by_pipe : (found : Option ℕ) → AllEnds (pipes_after_end f m found) f
    by_pipe None = h
    by_pipe (Some q) = ends-without m f q h

-- the tree backs descriptions also after one went and let its node go
pub backs-swept : (m : PipesView) (f : Descriptions) (t : FileTree) (k : ℕ) → IsTree t → Backs (holding_of t m f) → Backs (holding_of (tree_without_description t (unreferenced f k)) (pipes_without_description (without_unreferenced f k) m (unreferenced f k)) (without_unreferenced f k))
backs-swept m f t k s h =
    let held = gone-held f t k h in
    let enough : (n : ℕ) → descriptions_of (without_unreferenced f k) n ≤ holds_of (tree_without_description t (unreferenced f k)) n = λ n. omega (arith, h.enough n, nodes-swept f k n, holds-let_go t (unreferenced f k) n held) in
    record {
      enough = enough;
      is_in = in-kept (without_unreferenced f k) t (tree_without_description t (unreferenced f k)) enough (kept-let_go t (unreferenced f k) s) (λ q. open-swept f k q (λ desc. IsIn t.shape desc.kind) (h.is_in q));
      ends = ends-left m (without_unreferenced f k) (unreferenced f k) (λ q. open-swept f k q (λ desc. IfSome (pipe_of desc.kind) (λ r. IsSome (get m.contents r))) (h.ends q));
    }

-- the tables stay
pub tables-swept : (f : Descriptions) (k : ℕ) → (without_unreferenced f k).tables ≡ f.tables
unfolding without_unreferenced
tables-swept f k = elim (descriptors_of f k == 0) as (λ b. (cond b (record f { descs = remove f.descs k }) f).tables ≡ f.tables) [
  | true ↦ refl
  | false ↦ refl
]

-- what others hold stays also then
pub others-swept : {m n : PipesView} (p : ℕ) (f : Descriptions) (t : FileTree) (k : ℕ) → IsTree t → Backs (holding_of t m f) → KeepsOthers p (holding_of t m f) (holding_of (tree_without_description t (unreferenced f k)) n (without_unreferenced f k))
others-swept p f t k s h =
    let held = gone-held f t k h in
    let holds : (n : ℕ) → holds_of (tree_without_description t (unreferenced f k)) n + descriptions_of f n ≡ holds_of t n + descriptions_of (without_unreferenced f k) n = λ n. omega (arith, nodes-swept f k n, holds-let_go t (unreferenced f k) n held) in
    record {
      tables = λ q apart. ap (λ tables. get tables q) (tables-swept f k);
      holds = holds;
      files = λ n less is. kept-let_go t (unreferenced f k) s (File n) (omega (arith, holds n)) is;
      dirs = λ n less is. kept-let_go t (unreferenced f k) s (Dir n) (omega (arith, holds n)) is;
      devices = λ n less is. kept-let_go t (unreferenced f k) s (Device n) (omega (arith, holds n)) is;
    }

-- what a change of descriptions alone leaves
pub KeepsNodes-same : (p : ℕ) (f : Descriptions) → KeepsNodes p f f
KeepsNodes-same p f = record { tables = λ q apart. refl; counts = λ n. refl; reading = λ q. refl; writing = λ q. refl; all_in = λ v h. h; all_ends = λ pipes h. h }

-- a slot is no description
pub KeepsNodes-with_slot : (f : Descriptions) (p fd : ℕ) (slot : Option Slot) → KeepsNodes p f (with_slot f p fd slot)
unfolding with_slot descriptions_of readers writers
KeepsNodes-with_slot f p fd slot = record {
  tables = λ q apart. get-insert_other nat_cmp_total nat_cmp-IsAntisymmetric f.tables p (slice_set (table_at f p) fd slot) q apart;
  counts = λ n. refl;
  reading = λ q. refl;
  writing = λ q. refl;
  all_in = λ v h. h;
  all_ends = λ pipes h. h;
}

-- a table is no description
pub KeepsNodes-forgotten : (f : Descriptions) (p : ℕ) → KeepsNodes p f (without_table f p)
unfolding descriptions_of readers writers
KeepsNodes-forgotten f p = record {
  tables = λ q apart. get-remove_other nat_cmp_total nat_cmp-IsAntisymmetric f.tables p q apart;
  counts = λ n. refl;
  reading = λ q. refl;
  writing = λ q. refl;
  all_in = λ v h. h;
  all_ends = λ pipes h. h;
}

pub KeepsNodes-with_table : (f : Descriptions) (p : ℕ) (table : Table) → KeepsNodes p f (with_table f p table)
unfolding descriptions_of readers writers
KeepsNodes-with_table f p table = record {
  tables = λ q apart. get-insert_other nat_cmp_total nat_cmp-IsAntisymmetric f.tables p table q apart;
  counts = λ n. refl;
  reading = λ q. refl;
  writing = λ q. refl;
  all_in = λ v h. h;
  all_ends = λ pipes h. h;
}

-- a description of the same kind in the place of one
pub KeepsNodes-described : (p : ℕ) (f : Descriptions) (change : Desc → Desc) (k : ℕ) → ((desc : Desc) → (let new = change desc in new.kind ≡ desc.kind)) → KeepsNodes p f (with_description f k change)
unfolding with_description descriptions_of readers writers
KeepsNodes-described p f change k same = by_found (get f.descs k) refl
  where
    by_found : (found : Option Desc) → get f.descs k ≡ found → KeepsNodes p f (record f { descs = with_some f.descs k (option_map change found) })
    by_found None e = KeepsNodes-same p f
    by_found (Some desc) e = record {
      tables = λ q apart. refl;
      counts = λ n.
          let sum = total-insert nat_cmp_total (names_node n) f.descs k (change desc) in
          let was = ap (weight (names_node n)) e in
          let as_before = ap (λ kind. one_if_named n (inode_of kind)) (same desc) in
          omega arith;
      reading = λ q.
          let sum = total-insert nat_cmp_total (names_read q) f.descs k (change desc) in
          let was = ap (weight (names_read q)) e in
          let as_before = ap (λ kind. one_if_named q (read_pipe kind)) (same desc) in
          omega arith;
      writing = λ q.
          let sum = total-insert nat_cmp_total (names_written q) f.descs k (change desc) in
          let was = ap (weight (names_written q)) e in
          let as_before = ap (λ kind. one_if_named q (write_pipe kind)) (same desc) in
          omega arith;
      all_ends = λ pipes h q. at_insert nat_cmp_total nat_cmp-IsAntisymmetric (λ found. IfSome found (λ desc. IfSome (pipe_of desc.kind) (λ r. IsSome (get pipes.contents r)))) f.descs k (change desc) q
          (λ is. subst (λ kind. IfSome (pipe_of kind) (λ r. IsSome (get pipes.contents r))) (sym (same desc)) (subst (λ found. IfSome found (λ desc. IfSome (pipe_of desc.kind) (λ r. IsSome (get pipes.contents r)))) e (h k))) (λ apart. h q);
      all_in = λ v h q. at_insert nat_cmp_total nat_cmp-IsAntisymmetric (λ found. IfSome found (λ desc. IsIn v desc.kind)) f.descs k (change desc) q
          (λ is. subst (IsIn v) (sym (same desc)) (subst (λ found. IfSome found (λ desc. IsIn v desc.kind)) e (h k))) (λ apart. h q);
    }

-- with it a tree that backs the descriptions still does
pub backs-kept : {m : PipesView} (p : ℕ) (f g : Descriptions) (t : FileTree) → KeepsNodes p f g → Backs (holding_of t m f) → Backs (holding_of t m g)
backs-kept {m = m} p f g t kept h = record { enough = λ n. omega (arith, h.enough n, kept.counts n); is_in = kept.all_in t.shape h.is_in; ends = kept.all_ends m h.ends }

-- and what others hold stays
pub others-kept : {m n : PipesView} (p : ℕ) (f g : Descriptions) (t : FileTree) → KeepsNodes p f g → KeepsOthers p (holding_of t m f) (holding_of t n g)
others-kept p f g t kept = record {
  tables = kept.tables;
  holds = λ n. omega (arith, kept.counts n);
  files = λ n less is. is;
  dirs = λ n less is. is;
  devices = λ n less is. is;
}

-- over two changes that leave what others hold it stays
pub KeepsOthers-then : (p : ℕ) (a b c : Holding) → KeepsOthers p a b → KeepsOthers p b c → KeepsOthers p a c
KeepsOthers-then p a b c first second = record {
  tables = λ q apart. second.tables q apart ∙ first.tables q apart;
  holds = λ n. omega (arith, first.holds n, second.holds n);
  files = λ n less is. second.files n (omega (arith, first.holds n)) (first.files n less is);
  dirs = λ n less is. second.dirs n (omega (arith, first.holds n)) (first.dirs n less is);
  devices = λ n less is. second.devices n (omega (arith, first.holds n)) (first.devices n less is);
}

-- so far some descriptors are closed, what others hold stays, nothing but the forest changed, and no fault was taken back
pub record Kept (defined good kept only : Type 0) (before now : ℕ) : Type 0 where
  pub made : defined
  pub backed : good
  pub others : kept
  pub rest : only
  pub later : before ≤ now

-- a descriptor is closed
pub backs-freed : (m : PipesView) (f : Descriptions) (t : FileTree) (p fd k : ℕ) → IsTree t → Backs (holding_of t m f)
    → (let lost = unreferenced (with_slot f p fd None) k in Backs (holding_of (tree_without_description t lost) (pipes_without_description (without_slot f p fd k) m lost) (without_slot f p fd k)))
unfolding without_slot
backs-freed m f t p fd k s h = backs-swept m (with_slot f p fd None) t k s (backs-kept p f (with_slot f p fd None) t (KeepsNodes-with_slot f p fd None) h)

pub others-freed : {m n : PipesView} (f : Descriptions) (t : FileTree) (p fd k : ℕ) → IsTree t → Backs (holding_of t m f) → KeepsOthers p (holding_of t m f) (holding_of (tree_without_description t (unreferenced (with_slot f p fd None) k)) n (without_slot f p fd k))
unfolding without_slot
others-freed {m = m} f t p fd k s h =
    let slot = KeepsNodes-with_slot f p fd None in
    KeepsOthers-then p (holding_of t m f) (holding_of t m (with_slot f p fd None)) _ (others-kept p f (with_slot f p fd None) t slot) (others-swept p (with_slot f p fd None) t k s (backs-kept p f (with_slot f p fd None) t slot h))

pub both : {m n : PipesView} (f g : Descriptions) (t u : FileTree) → f ≡ g → m ≡ n → t ≡ u → ◌≡◌ {A = Holding} (holding_of t m f) (holding_of u n g)
both f g t u p r q = λ i. record { files = p i; pipes = r i; tree = q i }

-- what is there is live
pub live-in : (v : Forest) (kind : DescKind) → IsIn v kind → IfSome (inode_of kind) (λ n. IsLive v n)
live-in v (File n) is = IsLive-IsFile v n is
live-in v (Dir n) is = IsLive-IsDir v n is
live-in v (Device n) is = IsLive-IsDevice v n is
live-in v (PipeRead q) is = tt
live-in v (PipeWrite q) is = tt
live-in v Input is = tt
live-in v (Stream stream) is = tt

-- one hold more, if there is a node
holds-with_hold : (t : FileTree) → IsTree t → (n : ℕ) (node : Option ℕ) → IfSome node (λ n. IsLive t.shape n) → holds_of (with_hold t node) n ≡ holds_of t n + one_if_named n node
holds-with_hold t s n None there = omega arith
holds-with_hold t s n (Some m) there = holds-held t s m there n

shape-with_hold : (t : FileTree) (node : Option ℕ) → (with_hold t node).shape ≡ t.shape
shape-with_hold t None = refl
shape-with_hold t (Some m) = shape-held t m

-- a new description is counted
nodes-new : (f : Descriptions) (desc : Desc) (n : ℕ) → get f.descs f.next ≡ None → descriptions_of (with_new_description f desc) n ≡ descriptions_of f n + one_if_named n (inode_of desc.kind)
unfolding with_new_description descriptions_of
nodes-new f desc n fresh =
    let sum = total-insert nat_cmp_total (names_node n) f.descs f.next desc in
    let none = ap (weight (names_node n)) fresh in
    omega arith

-- and its node is there if it is
all_in-new : (v : Forest) (f : Descriptions) (desc : Desc) → AllIn v f → IsIn v desc.kind → AllIn v (with_new_description f desc)
unfolding with_new_description
all_in-new v f desc h is = λ q. at_insert nat_cmp_total nat_cmp-IsAntisymmetric (λ found. IfSome found (λ d. IsIn v d.kind)) f.descs f.next desc q (λ _. is) (λ apart. h q)

-- and so is its pipe
pub all_ends-new : (m : PipesView) (f : Descriptions) (desc : Desc) → AllEnds m f → IfSome (pipe_of desc.kind) (λ q. IsSome (get m.contents q)) → AllEnds m (with_new_description f desc)
unfolding with_new_description
all_ends-new m f desc h there = λ q. at_insert nat_cmp_total nat_cmp-IsAntisymmetric (λ found. IfSome found (λ d. IfSome (pipe_of d.kind) (λ r. IsSome (get m.contents r)))) f.descs f.next desc q (λ _. there) (λ apart. h q)

-- a new description holds its node
pub backs-new : {m : PipesView} (f : Descriptions) (t : FileTree) (desc : Desc) → IsTree t → Backs (holding_of t m f) → get f.descs f.next ≡ None → IsIn t.shape desc.kind
    → IfSome (pipe_of desc.kind) (λ q. IsSome (get m.contents q)) → Backs (holding_of (with_hold t (inode_of desc.kind)) m (with_new_description f desc))
backs-new {m = m} f t desc s h fresh is there = record {
  enough = λ n. omega (arith, h.enough n, nodes-new f desc n fresh, holds-with_hold t s n (inode_of desc.kind) (live-in t.shape desc.kind is));
  is_in = subst (λ v. AllIn v (with_new_description f desc)) (sym (shape-with_hold t (inode_of desc.kind))) (all_in-new t.shape f desc h.is_in is);
  ends = all_ends-new m f desc h.ends there;
}

-- the tables stay
tables-new : (f : Descriptions) (desc : Desc) → (with_new_description f desc).tables ≡ f.tables
unfolding with_new_description
tables-new f desc = refl

-- and what others hold stays
pub others-new : {m n : PipesView} (p : ℕ) (f : Descriptions) (t : FileTree) (desc : Desc) → IsTree t → get f.descs f.next ≡ None → IsIn t.shape desc.kind
    → KeepsOthers p (holding_of t m f) (holding_of (with_hold t (inode_of desc.kind)) n (with_new_description f desc))
others-new p f t desc s fresh is = record {
  tables = λ q apart. ap (λ tables. get tables q) (tables-new f desc);
  holds = λ n. omega (arith, nodes-new f desc n fresh, holds-with_hold t s n (inode_of desc.kind) (live-in t.shape desc.kind is));
  files = λ n less there. subst (λ v. IsFile v n) (sym (shape-with_hold t (inode_of desc.kind))) there;
  dirs = λ n less there. subst (λ v. IsDir v n) (sym (shape-with_hold t (inode_of desc.kind))) there;
  devices = λ n less there. subst (λ v. IsDevice v n) (sym (shape-with_hold t (inode_of desc.kind))) there;
}

-- under a descriptor
pub backs-opened : {m : PipesView} (f : Descriptions) (t : FileTree) (p fd : ℕ) (desc : Desc) (cloexec : Bool) → IsTree t → Backs (holding_of t m f) → get f.descs f.next ≡ None → IsIn t.shape desc.kind
    → IfSome (pipe_of desc.kind) (λ q. IsSome (get m.contents q)) → Backs (holding_of (with_hold t (inode_of desc.kind)) m (with_opened f p fd desc cloexec))
backs-opened f t p fd desc cloexec s h fresh is there =
    backs-kept p (with_new_description f desc) _ (with_hold t (inode_of desc.kind)) (KeepsNodes-with_slot (with_new_description f desc) p fd (Some (record { number = f.next; cloexec = cloexec }))) (backs-new f t desc s h fresh is there)

pub others-opened : {m n : PipesView} (f : Descriptions) (t : FileTree) (p fd : ℕ) (desc : Desc) (cloexec : Bool) → IsTree t → get f.descs f.next ≡ None → IsIn t.shape desc.kind
    → KeepsOthers p (holding_of t m f) (holding_of (with_hold t (inode_of desc.kind)) n (with_opened f p fd desc cloexec))
others-opened {m = m} f t p fd desc cloexec s fresh is =
    let node = inode_of desc.kind in
    KeepsOthers-then p (holding_of t m f) (holding_of (with_hold t node) m (with_new_description f desc)) _ (others-new p f t desc s fresh is)
    (others-kept p (with_new_description f desc) _ (with_hold t node) (KeepsNodes-with_slot (with_new_description f desc) p fd (Some (record { number = f.next; cloexec = cloexec }))))
