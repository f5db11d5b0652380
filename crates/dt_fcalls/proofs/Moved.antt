-- Another working directory: the new one is held, and then the old one is let go.
use Rattle.std.proofs.Common.{◌≡◌, ℕ, ◌+◌, ◌<◌, ◌≤◌, List, None, Ok, inl, inr, refl, sym, ap, ◌∙◌, subst, arith}
use Rattle.std.proofs.lemmas.Bool.{cases_eq}
use Rattle.dt_base.specs.declared.answer.Answer.TheVariants.{Value}
use Rattle.dt_base.specs.declared.caller.Caller.{Caller}
use Rattle.dt_host.specs.World.{World, Forest, OnlyForest, IsFile, IsDir, IsDevice, IsLive}
use Rattle.dt_host.proofs.Spots.{IsLive-IsDir}
use Rattle.dt_space.specs.Space.{PageView}
use Rattle.dt_tree.specs.Changes.{attributes_with_hold, tree_after_hold, tree_after_release}
use Rattle.dt_tree.specs.FileTree.{FileTree, holds_of, IsTree}
use Rattle.dt_tree.specs.Shape.{one_for}
use Rattle.dt_tree.specs.Table.{Table, Stands, shape_of, tree_of}
use Rattle.dt_tree.proofs.Changing.{IsTreeBut-with_attributes}
use Rattle.dt_tree.proofs.Holding.{holds-held, holds-released, shape-held, IsFile-released, IsDir-released, IsDevice-released}
use Rattle.dt_tree.proofs.Namings.{one_for-same, one_for-other}
use Rattle.dt_callbase.specs.declared.fs.Fs.{Fs}
use Rattle.dt_fcalls.specs.Nodes.{cwd_reply}
use Rattle.dt_fds.specs.Backs.{AllIn, IsPiped, descriptions_of}
use Rattle.dt_callbase.proofs.Kept.{all_in-through, cwd_held}
use Rattle.dt_callbase.specs.Sound.{Sound, HasReplyOf, stage}

one_for-flip : (n q : ℕ) → one_for n q ≡ one_for q n
one_for-flip n q = elim (cases_eq n q) [
  | inl same ↦ subst (λ x. one_for n x ≡ one_for x n) same refl
  | inr apart ↦ one_for-other n q apart ∙ sym (one_for-other q n (λ same. apart (sym same)))
]

module _ (t : FileTree) (n c : ℕ) (tree : IsTree t) (live : IsLive t.shape n) (some : 1 ≤ holds_of t c) where
  held_tree : IsTree (tree_after_hold t n)
  held_tree = IsTreeBut-with_attributes t n attributes_with_hold None tree (λ node a _ good. good) (λ _ a. omega arith)

  pub still : 1 ≤ holds_of (tree_after_hold t n) c
  still = let sum = holds-held t tree n live c in omega arith

  pub holds-moved : (q : ℕ) → holds_of (tree_after_release (tree_after_hold t n) c) q + one_for q c ≡ holds_of t q + one_for q n
  holds-moved q =
      let more = holds-held t tree n live q in
      let fewer = holds-released (tree_after_hold t n) c still q in
      let a = one_for-flip q c in
      let b = one_for-flip q n in
      omega arith

  held-moved : (q : ℕ) → 1 + one_for q c ≤ holds_of t q → 1 ≤ holds_of (tree_after_release (tree_after_hold t n) c) q
  held-moved q enough = let sum = holds-moved q in omega arith

  pub files-moved : (q : ℕ) → 1 + one_for q c ≤ holds_of t q → IsFile t.shape q → (let new = tree_after_release (tree_after_hold t n) c in IsFile new.shape q)
  files-moved q enough is = IsFile-released (tree_after_hold t n) c held_tree q (λ _. held-moved q enough) (subst (λ v. IsFile v q) (sym (shape-held t n)) is)

  pub dirs-moved : (q : ℕ) → 1 + one_for q c ≤ holds_of t q → IsDir t.shape q → (let new = tree_after_release (tree_after_hold t n) c in IsDir new.shape q)
  dirs-moved q enough is = IsDir-released (tree_after_hold t n) c held_tree q (λ _. held-moved q enough) (subst (λ v. IsDir v q) (sym (shape-held t n)) is)

  pub devices-moved : (q : ℕ) → 1 + one_for q c ≤ holds_of t q → IsDevice t.shape q → (let new = tree_after_release (tree_after_hold t n) c in IsDevice new.shape q)
  devices-moved q enough is = IsDevice-released (tree_after_hold t n) c held_tree q (λ _. held-moved q enough) (subst (λ v. IsDevice v q) (sym (shape-held t n)) is)

  -- the new working directory is held
  pub new-held : 1 ≤ holds_of (tree_after_release (tree_after_hold t n) c) n
  new-held =
      let sum = holds-moved n in
      let one = one_for-same n in
      elim (cases_eq n c) [
        | inl same ↦ let at = ap (holds_of t) same in let single = ap (one_for n) same in omega arith
        | inr apart ↦ let none = one_for-other n c apart in omega arith
      ]

  pub new-dir : IsDir t.shape n → (let new = tree_after_release (tree_after_hold t n) c in IsDir new.shape n)
  new-dir is = IsDir-released (tree_after_hold t n) c held_tree n (λ _. new-held) (subst (λ v. IsDir v n) (sym (shape-held t n)) is)

-- the old working directory is held still, once the new one is held
pub held_still : (old mid : Table) (v : Forest) (n c : ℕ) → Stands old v → IsDir (shape_of old v) n → tree_of mid v ≡ tree_after_hold (tree_of old v) n → 1 ≤ holds_of (tree_of old v) c → 0 < holds_of (tree_of mid v) c
held_still old mid v n c stands is grown some =
    subst (λ t. 1 ≤ holds_of t c) (sym grown) (still (tree_of old v) n c stands.tree (IsLive-IsDir (shape_of old v) n is) some)

-- the working directory is another
pub reaches_moved : (fs : Fs) (new : Table) (w v : World) (caller : Caller) (space : List PageView) (n before now : ℕ) → Sound (stage fs w caller space) → IsDir (shape_of fs.tree w.forest) n → Stands new v.forest → tree_of new v.forest ≡ tree_after_release (tree_after_hold (tree_of fs.tree w.forest) n) caller.cwd → OnlyForest w v → before ≤ now → HasReplyOf (cwd_reply n) (stage fs w caller space) (stage (record fs { tree = new }) v (record caller { cwd = n }) space) (Ok (Value 0)) before now
reaches_moved fs new w v caller space n before now sound is stands tree rest later = record {
  served = let same = rest.pipes in cc;
  sound = record {
    stands = stands;
    is_dir = subst (λ t. IsDir t.shape n) (sym tree) (new-dir t n caller.cwd sound.stands.tree live some is);
    all_in =
        let f = fs.files.descriptors in
        let new = tree_after_release (tree_after_hold t n) caller.cwd in
        subst (λ t. AllIn t.shape f) (sym tree)
        (all_in-through f t.shape new.shape open-file open-dir open-device sound.all_in);
    enough = λ q.
        let now = ap (λ t. holds_of t q) tree in
        omega (arith, sound.enough q, holds-moved t n caller.cwd sound.stands.tree live some q);
    piped = subst (IsPiped fs.files) (sym rest.pipes) sound.piped;
  };
  others = record {
    vpid = refl;
    tables = λ q apart. refl;
    holds = λ q.
        let now = ap (λ t. holds_of t q) tree in
        omega (arith, holds-moved t n caller.cwd sound.stands.tree live some q);
    files = λ q enough file. subst (λ t. IsFile t.shape q) (sym tree) (files-moved t n caller.cwd sound.stands.tree live some q (omega arith) file);
    dirs = λ q enough dir. subst (λ t. IsDir t.shape q) (sym tree) (dirs-moved t n caller.cwd sound.stands.tree live some q (omega arith) dir);
    devices = λ q enough device. subst (λ t. IsDevice t.shape q) (sym tree) (devices-moved t n caller.cwd sound.stands.tree live some q (omega arith) device);
  };
  rest = rest.pids;
  cause = record { later = later; rose = λ failed. cc };
}
  where
    t : FileTree
    t = tree_of fs.tree w.forest

    live : IsLive t.shape n
    live = IsLive-IsDir t.shape n is

    some : 1 ≤ holds_of t caller.cwd
    some = cwd_held fs w caller space sound

    open-file : (q : ℕ) → 1 ≤ descriptions_of fs.files.descriptors q → IsFile t.shape q
        → (let new = tree_after_release (tree_after_hold t n) caller.cwd in IsFile new.shape q)
    open-file q one file = files-moved t n caller.cwd sound.stands.tree live some q (omega (arith, sound.enough q)) file

    open-dir : (q : ℕ) → 1 ≤ descriptions_of fs.files.descriptors q → IsDir t.shape q
        → (let new = tree_after_release (tree_after_hold t n) caller.cwd in IsDir new.shape q)
    open-dir q one dir = dirs-moved t n caller.cwd sound.stands.tree live some q (omega (arith, sound.enough q)) dir

    open-device : (q : ℕ) → 1 ≤ descriptions_of fs.files.descriptors q → IsDevice t.shape q
        → (let new = tree_after_release (tree_after_hold t n) caller.cwd in IsDevice new.shape q)
    open-device q one device = devices-moved t n caller.cwd sound.stands.tree live some q (omega (arith, sound.enough q)) device
