-- What holds when a container begins.
use Rattle.std.proofs.Common.{arith, ◌≡◌, ◌≢◌, ℕ, ◌+◌, ◌<◌, Option, None, Some, true, false, refl, sym, ap, subst, ◌∙◌}
use Rattle.std.specs.Prelude.{IsSome, IfSome, is_some}
use Rattle.std.specs.Ordering.{nat_cmp}
use Rattle.std.specs.Cmp.{nat_cmp_total}
use Rattle.std.specs.FinMap.{get, insert, empty, get-empty, same_map, nat_cmp-IsAntisymmetric}
use Rattle.dt_base.specs.Image.{ImageParts}
use Rattle.dt_fds.specs.declared.desc.Desc.{Desc}
use Rattle.dt_fds.specs.declared.desc.DescKind.TheVariants.{Input, Stream}
use Rattle.dt_fds.specs.Descriptions.{Descriptions, empty_descriptions, with_opened_at, with_opened_lowest, first_desc, first_files, with_slot, with_new_description, lowest_free, table_at}
use Rattle.dt_fds.specs.Backs.{AllIn, IsPiped, descriptions_of}
use Rattle.dt_tables.specs.inner.Weight.{weight}
use Rattle.dt_host.specs.World.{World, Forest, PipeContents, IsDir}
use Rattle.dt_tables.proofs.Maps.{at_insert, get-insert_other}
use Rattle.dt_host.proofs.Spots.{IsLive-IsDir}
use Rattle.dt_tables.proofs.Totals.{total-insert, total-empty}
use Rattle.dt_pipes.specs.Table as pipes
use Rattle.dt_pipes.specs.Table.{pipes_of}
use Rattle.dt_pipes.proofs.Held.{has-pipes_of}
use Rattle.dt_base.specs.declared.limits.TheConstants.{FIRST_PID}
use Rattle.dt_procs.specs.Members.{first_members, has_live}
use Rattle.dt_procs.specs.Table as procs
use Rattle.dt_procs.specs.Table.{members_of}
use Rattle.dt_tree.specs.declared.limits.TheConstants.{ROOT}
use Rattle.dt_tree.specs.FileTree.{holds_of}
use Rattle.dt_tree.specs.ImageTree.{image_tree}
use Rattle.dt_tree.specs.Shape.{one_for}
use Rattle.dt_tree.specs.Changes.{tree_after_hold}
use Rattle.dt_tree.specs.Table.{Table as TreeTable, Stands, shape_of, tree_of}
use Rattle.dt_tree.proofs.Namings.{one_for-swap}
use Rattle.dt_tree.proofs.Holding.{holds-held, shape-held}
use Rattle.dt_tree.proofs.Images.{not_held}
use Rattle.dt_calls.specs.declared.task.Task.{Task}
use Rattle.dt_calls.specs.declared.shared.Shared.{Shared as SharedInCode}
use Rattle.dt_calls.specs.Container.{Tasks, blank_task}
use Rattle.dt_calls.specs.Sound.{IsSound, directories_of}

-- what one process opens is in no table of another
tables-opened : (p q : ℕ) (desc : Desc) (f : Descriptions) → q ≢ p → (let new = with_opened_lowest p desc f in get new.tables q ≡ get f.tables q)
unfolding with_opened_lowest with_slot with_new_description
tables-opened p q desc f apart = by_free (lowest_free (table_at f p) 0)
  where
    by_free : (free : Option ℕ) → (let new = with_opened_at f p desc free in get new.tables q ≡ get f.tables q)
    by_free None = refl
    by_free (Some fd) = get-insert_other nat_cmp_total nat_cmp-IsAntisymmetric f.tables p _ q apart

-- at first no other process has descriptors
tables-first : (p q : ℕ) → q ≢ p → (let new = first_files p in get new.tables q ≡ None)
unfolding first_files
tables-first p q apart =
    tables-opened p q (first_desc (Stream 2) 1) _ apart
    ∙ tables-opened p q (first_desc (Stream 1) 1) _ apart
    ∙ tables-opened p q (first_desc Input 0) (empty_descriptions p) apart
    ∙ get-insert_other nat_cmp_total nat_cmp-IsAntisymmetric empty p _ q apart
    ∙ get-empty nat_cmp q

abbrev pub first_task : Task
first_task = blank_task FIRST_PID

-- the first process alone
abbrev pub first_tasks : Tasks
first_tasks = insert empty FIRST_PID first_task

-- what holds of the first process's task holds of each task
of_first : (P : ℕ → Option Task → Type 0) → ((q : ℕ) → P q None) → P FIRST_PID (Some first_task) → (q : ℕ) → P q (get first_tasks q)
of_first P none first q =
    at_insert nat_cmp_total nat_cmp-IsAntisymmetric (λ found. P q found) empty FIRST_PID first_task q
    (λ is. subst (λ k. P k (Some first_task)) (sym is) first) (λ apart. subst (P q) (sym (get-empty nat_cmp q)) (none q))

directories-first : (n : ℕ) → directories_of first_tasks n ≡ one_for ROOT n
directories-first n =
    let g = λ (t : Task). one_for t.caller.cwd n in
    let sum = total-insert nat_cmp_total g empty FIRST_PID first_task in
    let none = total-empty nat_cmp_total g in
    let weighs = ap (weight g) (get-empty {X = Task} nat_cmp FIRST_PID) in
    omega arith

-- a container begins: its process holds the root, and nothing is open that names a node
pub sound-first : (c : SharedInCode) (old : TreeTable) (u w : World) (image : ImageParts) → Stands old u.forest → tree_of old u.forest ≡ image_tree image → Stands c.fs.tree w.forest → tree_of c.fs.tree w.forest ≡ tree_after_hold (tree_of old u.forest) ROOT → procs.Stands c.pids w.pids
    → ((n : ℕ) → descriptions_of c.fs.files.descriptors n ≡ 0) → ((v : Forest) → AllIn v c.fs.files.descriptors) → c.fs.files.descriptors ≡ first_files FIRST_PID → IsPiped c.fs.files w.pipes → c.tasks ≡ first_tasks → members_of c.pids ≡ first_members → c.pids.next ≡ FIRST_PID + 1 → IsSound c w
sound-first c old u w image was begun stands tree pids nodes all files piped tasks members next =
    let t = tree_of old u.forest in
    let top : IsDir t.shape ROOT = subst (IsDir t.shape) was.tree.root was.tree.shaped.root in
    let dir : IsDir (shape_of c.fs.tree w.forest) ROOT = subst (λ x. IsDir x.shape ROOT) (sym tree) (subst (λ s. IsDir s ROOT) (sym (shape-held t ROOT)) top) in
    let by = λ (P : ℕ → Option Task → Type 0) (none : (q : ℕ) → P q None) (first : P FIRST_PID (Some first_task)) (q : ℕ). subst (λ (m : Tasks). P q (get m q)) (sym tasks) (of_first P none first q) in
    record {
      stands = stands;
      pids = pids;
      all_in = all (shape_of c.fs.tree w.forest);
      directories = by (λ q found. IfSome found (λ t. IsDir (shape_of c.fs.tree w.forest) t.caller.cwd)) (λ q. tt) dir;
      holds = λ n.
          let more = holds-held t was.tree ROOT (IsLive-IsDir t.shape ROOT top) n in
          let now = ap (λ x. holds_of x n) tree in
          let start = ap (λ x. holds_of x n) begun ∙ not_held image.entries n in
          let dirs = ap (λ m. directories_of m n) tasks ∙ directories-first n in
          omega (arith, nodes n, one_for-swap ROOT n);
      piped = piped;
      named = by (λ q found. IfSome found (λ t. t.caller.vpid ≡ q)) (λ q. tt) refl;
      given = by (λ q found. IsSome found → q < c.pids.next) (λ q some. cc) (λ some. omega (arith, next));
      lives = by (λ q found. IsSome found → has_live (members_of c.pids) q ≡ true) (λ q some. cc) (λ some. ap (λ ms. has_live ms FIRST_PID) members);
      fresh = λ q late. ap (λ f. get f.tables q) files ∙ tables-first FIRST_PID q (λ is. absurd (omega (arith, next)));
    }

no-some : {A : Type 0} (found : Option A) → is_some found ≡ false → found ≡ None
no-some None is = refl
no-some (Some value) is = cc

-- a table of no pipes stands for none
pub none-held : (t : pipes.Table) (host : PipeContents) → t.pipes ≡ empty → pipes_of t host ≡ empty
none-held t host none = same_map nat_cmp_total nat_cmp-IsAntisymmetric (pipes_of t host) empty
    (λ q. no-some (get (pipes_of t host) q) (has-pipes_of t host q ∙ ap (λ m. is_some (get m q)) none ∙ ap is_some (get-empty nat_cmp q)) ∙ sym (get-empty nat_cmp q))
