-- The calls of a tree that may be refused: what each answers, and the file tree after it; and what their callers see to.
use Rattle.std.specs.Prelude.{◌≡◌, ◌≢◌, ℕ, ◌+◌, ◌≤◌, true, false, List, length, None, IfSome, IsSome, IsTrue, Result, Ok, Err, nat_le, nat_lt, if◌then◌else◌}
use Rattle.std.specs.FinMap.{len}
use Rattle.dt_base.specs.declared.errno.Errno.{Errno}
use Rattle.dt_base.specs.declared.errno.Errno.TheVariants.{NoEnt, NoSpc, FBig}
use Rattle.dt_base.specs.declared.image.What.{What}
use Rattle.dt_base.specs.Profile.{file_limit}
use Rattle.dt_host.specs.declared.error.CallErr.{CallErr}
use Rattle.dt_host.specs.declared.error.CallErr.TheVariants.{Errno as is_refused, Host as has_failed}
use Rattle.dt_host.specs.World.{Forest, entry, IsDir, IsFile, IsLive, IsDevice}
use Rattle.dt_tree.specs.declared.limits.TheConstants.{NODE_LIMIT}
use Rattle.dt_tree.specs.Above.{is_below}
use Rattle.dt_tree.specs.Shape.{is_dir, is_bare, is_removed}
use Rattle.dt_tree.specs.FileTree.{FileTree, is_entry_name, holds_of}
use Rattle.dt_tree.specs.Changes.{tree_after_make, tree_after_link, tree_after_unlink, tree_after_rename, tree_after_write, tree_after_truncate}

-- what a call answers, and the file tree after it
pub record TreeAnswer (A : Type 0) : Type 0 where
  pub answer : Result A Errno
  pub tree : FileTree

-- the call is done
abbrev pub tree_answer : {A : Type 0} → FileTree → A → TreeAnswer A
tree_answer t value = record { answer = Ok value; tree = t }

-- the call is refused, and changes nothing
abbrev pub tree_refusal : {A : Type 0} → FileTree → Errno → TreeAnswer A
tree_refusal t errno = record { answer = Err errno; tree = t }

-- a call answered and left this, unless the host failed or memory was wanting
abbrev pub IsTreeAnswer : {A : Type 0} → Result A CallErr → FileTree → TreeAnswer A → Type 0
IsTreeAnswer (Ok value) new defined = defined ≡ tree_answer new value
IsTreeAnswer (Err (is_refused errno)) new defined = defined ≡ tree_refusal new errno
IsTreeAnswer (Err (has_failed error)) new defined = Unit {0}

-- this holds after a call, unless the host failed or memory was wanting
abbrev pub UnlessFailed : {A : Type 0} → Result A CallErr → Type 0 → Type 0
UnlessFailed (Ok value) P = P
UnlessFailed (Err (is_refused errno)) P = P
UnlessFailed (Err (has_failed error)) P = Unit {0}

-- a change leaves what is held: its holds, and that it is a file, a directory or a device
pub record KeepsHeld (old new : FileTree) : Type 0 where
  pub holds : (n : ℕ) → holds_of new n ≡ holds_of old n
  pub files : (n : ℕ) → 1 ≤ holds_of old n → IsFile old.shape n → IsFile new.shape n
  pub dirs : (n : ℕ) → 1 ≤ holds_of old n → IsDir old.shape n → IsDir new.shape n
  pub devices : (n : ℕ) → 1 ≤ holds_of old n → IsDevice old.shape n → IsDevice new.shape n

-- a new name: it is good, and the directory that is to have it has no such entry
pub record IsNewName (t : FileTree) (d : ℕ) (name : List ℕ) : Type 0 where
  pub is_dir : IsDir t.shape d
  pub free : entry t.shape d name ≡ None
  pub good : IsTrue (is_entry_name name)

-- a node is made: ENOENT where the directory is removed, then ENOSPC where the tree is full
abbrev pub make_node_of : FileTree → ℕ → List ℕ → What → ℕ → ℕ → TreeAnswer ℕ
make_node_of t d name what mode stamp =
    if is_removed t.shape d then tree_refusal t NoEnt
    else if nat_le NODE_LIMIT (len t.shape.nodes) then tree_refusal t NoSpc
    else tree_answer (tree_after_make t d name what mode stamp) t.next

-- a node that is no directory and is there gets a new name
pub record MayAdd (t : FileTree) (d : ℕ) (name : List ℕ) (n : ℕ) : Type 0 where
  pub new : IsNewName t d name
  pub live : IsLive t.shape n
  pub no_dir : is_dir t.shape n ≡ false

-- a name is added: ENOENT where the directory is removed
abbrev pub add_name_of : FileTree → ℕ → List ℕ → ℕ → ℕ → TreeAnswer (Unit {0})
add_name_of t d name n stamp =
    if is_removed t.shape d then tree_refusal t NoEnt else tree_answer (tree_after_link t d name n stamp) tt

-- the name is there, unless the directory is removed, and a directory of that name is empty
pub record MayDrop (v : Forest) (d : ℕ) (name : List ℕ) : Type 0 where
  pub is_dir : IsDir v d
  pub there : is_removed v d ≡ false → IsSome (entry v d name)
  pub bare : IfSome (entry v d name) (λ n. IsDir v n → is_bare v n ≡ true)

-- a name is taken away: ENOENT where the directory is removed
abbrev pub drop_name_of : FileTree → ℕ → List ℕ → ℕ → TreeAnswer (Unit {0})
drop_name_of t d name stamp =
    if is_removed t.shape d then tree_refusal t NoEnt else tree_answer (tree_after_unlink t d name stamp) tt

-- the old name is there, and the new one is good and not one of the same node; no directory goes below itself, and one that
-- is replaced is empty
pub record MayMove (v : Forest) (from : ℕ) (old : List ℕ) (to : ℕ) (new : List ℕ) : Type 0 where
  pub there : IsSome (entry v from old)
  pub is_dir : IsDir v to
  pub good : IsTrue (is_entry_name new)
  pub apart : entry v to new ≢ entry v from old
  pub outside : IfSome (entry v from old) (λ n. IsDir v n → is_below v to n ≡ false)
  pub replaced : IfSome (entry v to new) (λ r. IsDir v r → is_bare v r ≡ true)

-- a name moves: ENOENT where the directory of the new name is removed
abbrev pub move_name_of : FileTree → ℕ → List ℕ → ℕ → List ℕ → ℕ → TreeAnswer (Unit {0})
move_name_of t from old to new stamp =
    if is_removed t.shape to then tree_refusal t NoEnt else tree_answer (tree_after_rename t from old to new stamp) tt

-- a file is written: EFBIG where it would pass its limit
abbrev pub write_at_of : FileTree → ℕ → ℕ → List ℕ → ℕ → TreeAnswer (Unit {0})
write_at_of t n offset bytes stamp =
    if nat_lt (file_limit t.version) (offset + length bytes) then tree_refusal t FBig else tree_answer (tree_after_write t n offset bytes stamp) tt

-- a file is cut, or made longer: EFBIG where it would pass its limit
abbrev pub cut_of : FileTree → ℕ → ℕ → ℕ → TreeAnswer (Unit {0})
cut_of t n len stamp = if nat_lt (file_limit t.version) len then tree_refusal t FBig else tree_answer (tree_after_truncate t n len stamp) tt
