-- The first step of an opening: a file that was made or cut is one.
use Rattle.std.proofs.Common.{◌≡◌, ◌≢◌, ℕ, ◌≤◌, Bool, true, false, List, [], Some, Result, Ok, Err, refl, sym, ap, ◌∙◌, subst, arith}
use Rattle.std.specs.Prelude.{nat_le, nat_lt, if◌then◌else◌}
use Rattle.std.specs.FinMap.{len, insert}
use Rattle.dt_base.specs.declared.caller.Caller.{Caller}
use Rattle.dt_base.specs.declared.errno.Errno.{Errno}
use Rattle.dt_base.specs.declared.errno.Errno.TheVariants.{NoEnt, NoSpc, FBig}
use Rattle.dt_base.specs.declared.image.What.TheVariants.{File}
use Rattle.dt_base.specs.Profile.{file_limit}
use Rattle.dt_base.specs.Bytes.{with_length}
use Rattle.dt_fds.specs.OpenFiles.{pipes_at}
use Rattle.dt_host.specs.World.{World, Forest, OnlyForest, file, dir, IsFile, IsDir, node_at, names_at, content, with_node, with_entry}
use Rattle.dt_host.proofs.Spots.{IsLive-IsDir}
use Rattle.dt_host.proofs.Worlds.{node_at-with_node, node_at-with_node_other, IsFile-with_bytes}
use Rattle.dt_space.specs.Space.{PageView}
use Rattle.dt_tree.specs.Calls.{TreeAnswer, KeepsHeld, tree_answer, tree_refusal, make_node_of, cut_of}
use Rattle.dt_tree.specs.Changes.{tree_with_new, tree_after_make, tree_after_truncate, with_attributes}
use Rattle.dt_tree.specs.FileTree.{FileTree, IsTree}
use Rattle.dt_tree.specs.Shape.{is_removed}
use Rattle.dt_tree.specs.Table.{Table, Stands, tree_of}
use Rattle.dt_tree.specs.declared.limits.TheConstants.{NODE_LIMIT}
use Rattle.dt_fcalls.specs.Open.{on_done}
use Rattle.dt_fcalls.specs.inner.Steps.{Steps}
use Rattle.dt_callbase.specs.declared.fs.Fs.{Fs}
use Rattle.dt_callbase.specs.Scene.{Scene, stamp}
use Rattle.dt_callbase.specs.Sound.{Sound, stage, scene}
use Rattle.dt_callbase.proofs.Kept.{sound_kept, others_kept}

-- a step that changed tree and time
pub steps_done : {A : Type 0} (d : Scene → TreeAnswer A) (old : Fs) (tree : Table) (clock : ℕ) (w v : World) (caller : Caller) (space : List PageView) (value : A) (before now : ℕ)
    → Sound (stage old w caller space) → Stands tree v.forest → KeepsHeld (tree_of old.tree w.forest) (tree_of tree v.forest) → OnlyForest w v → before ≤ now → clock ≡ stamp (scene (stage old w caller space))
    → d (scene (stage old w caller space)) ≡ tree_answer (tree_of tree v.forest) value
    → Steps d (stage old w caller space) (stage (record { tree = tree; files = old.files; clock = clock; rand = old.rand; input = old.input }) v caller space) (Ok (Ok value)) before now
steps_done d old tree clock w v caller space value before now sound stands kept rest later at is =
    let s = scene (stage old w caller space) in
    let new : Fs = record { tree = tree; files = old.files; clock = clock; rand = old.rand; input = old.input } in
    let after = scene (stage new v caller space) in
    record {
      next = λ row.
          ap (λ x. on_done s x row) is
          ∙ ap (λ ticks. row value (record s { tree = tree_of tree v.forest; clock = ticks })) (sym at)
          ∙ ap (λ host. row value (record after { pipes = pipes_at old.files host })) (sym rest.pipes);
      sound = sound_kept old new w v caller space space sound stands kept refl rest.pipes;
      others = others_kept s after refl refl kept;
      rest = rest;
      cause = record { later = later; rose = λ failed. cc };
    }

-- an answer is not also a refusal
not_both : {A : Type 0} {errno : Errno} {value : A} → ◌≡◌ {A = Result A Errno} (Err errno) (Ok value) → ⊥
not_both e = cc

-- a node with bytes is a file
is_file : (v : Forest) (n : ℕ) (bytes : List ℕ) → node_at v n ≡ Some (file bytes) → IsFile v n
is_file v n bytes is = cc

-- a new file is one
file-made : (t : FileTree) (d : ℕ) (name : List ℕ) (mode stamp : ℕ) → IsTree t → IsDir t.shape d → IsFile (tree_after_make t d name (File []) mode stamp).shape t.next
unfolding tree_after_make tree_with_new with_entry with_attributes
file-made t d name mode stamp tree is =
    let low = tree.fresh d (IsLive-IsDir t.shape d is) in
    let apart : t.next ≢ d = λ same. omega (arith, low) in
    let shape = with_node t.shape t.next (file []) in
    is_file (tree_after_make t d name (File []) mode stamp).shape t.next [] (node_at-with_node_other shape d (dir (insert (names_at shape d) name t.next)) t.next apart ∙ node_at-with_node t.shape t.next (file []))

pub file_made : (t u : FileTree) (d : ℕ) (name : List ℕ) (mode stamp n : ℕ) → IsTree t → IsDir t.shape d → make_node_of t d name (File []) mode stamp ≡ tree_answer u n → IsFile u.shape n
file_made t u d name mode stamp n tree is = by_tests (is_removed t.shape d) (nat_le NODE_LIMIT (len t.shape.nodes))
  where
    value_is : ◌≡◌ {A = Result ℕ Errno} (Ok t.next) (Ok n) → t.next ≡ n
    value_is e = cc

    by_tests : (removed full : Bool) → ◌≡◌ {A = TreeAnswer ℕ} (if removed then tree_refusal t NoEnt else if full then tree_refusal t NoSpc else tree_answer (tree_after_make t d name (File []) mode stamp) t.next) (tree_answer u n) → IsFile u.shape n
    by_tests true full e = absurd (not_both (ap (λ (x : TreeAnswer ℕ). x.answer) e))
    by_tests false true e = absurd (not_both (ap (λ (x : TreeAnswer ℕ). x.answer) e))
    by_tests false false e =
        subst (λ q. IsFile u.shape q) (value_is (ap (λ (x : TreeAnswer ℕ). x.answer) e))
        (subst (λ x. IsFile x.shape t.next) (ap (λ (x : TreeAnswer ℕ). x.tree) e) (file-made t d name mode stamp tree is))

-- a file that was cut is one
file-truncated : (t : FileTree) (n len stamp : ℕ) → IsFile (tree_after_truncate t n len stamp).shape n
unfolding tree_after_truncate with_attributes
file-truncated t n len stamp = IsFile-with_bytes t.shape n (with_length (content t.shape n) len)

pub file_cut : (t u : FileTree) (n len stamp : ℕ) → cut_of t n len stamp ≡ tree_answer u tt → IsFile u.shape n
file_cut t u n len stamp e = by_test (nat_lt (file_limit t.version) len) e
  where
    by_test : (over : Bool) → ◌≡◌ {A = TreeAnswer (Unit {0})} (if over then tree_refusal t FBig else tree_answer (tree_after_truncate t n len stamp) tt) (tree_answer u tt) → IsFile u.shape n
    by_test true e = absurd (not_both (ap (λ (x : TreeAnswer (Unit {0})). x.answer) e))
    by_test false e = subst (λ x. IsFile x.shape n) (ap (λ (x : TreeAnswer (Unit {0})). x.tree) e) (file-truncated t n len stamp)
