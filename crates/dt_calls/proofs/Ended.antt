-- What holds after a process has ended.
use Rattle.std.proofs.Common.{arith, ◌≡◌, ◌≢◌, ℕ, ◌+◌, ◌<◌, ◌≤◌, ◌==◌, ◌&&◌, ◌||◌, List, [], ◌∷◌, length, drop, drop-cons, add-one, Bool, true, false, cond, Option, None, Some, refl, sym, ap, subst, ◌∙◌}
use Rattle.std.proofs.Math.ListN.{get_or}
use Rattle.std.proofs.lemmas.Bool.Decides.{nat_tests}
use Rattle.std.specs.Prelude.{IsSome, IfSome, is_some, is_none, unwrap_or}
use Rattle.std.specs.Cmp.{nat_cmp_total}
use Rattle.std.specs.FinMap.{get, remove, nat_cmp-IsAntisymmetric}
use Rattle.dt_base.specs.declared.event.End.{End}
use Rattle.dt_base.specs.declared.event.End.TheVariants.{Signal}
use Rattle.dt_fds.specs.declared.files.Files.{Files}
use Rattle.dt_fds.specs.Backs.{AllIn, IsBacked, IsPiped, KeepsOthers as KeepsHolds, at, holding_at, descriptions_of}
use Rattle.dt_tables.specs.inner.Weight.{weight}
use Rattle.dt_host.specs.World.{World, IsDir}
use Rattle.dt_tables.proofs.Maps.{get-remove_same, get-remove_other}
use Rattle.dt_tables.proofs.Totals.{total-remove}
use Rattle.dt_procs.specs.declared.member.Member.{Member}
use Rattle.dt_procs.specs.Members.{members_after_end, member_after_end, has_live, parent_pid}
use Rattle.dt_procs.specs.Table as procs
use Rattle.dt_procs.specs.Table.{members_of}
use Rattle.dt_callbase.proofs.Kept.{all_in-through}
use Rattle.dt_tree.proofs.Namings.{one_for-same, one_for-swap}
use Rattle.dt_tree.specs.FileTree.{FileTree, holds_of}
use Rattle.dt_tree.specs.Shape.{one_for}
use Rattle.dt_tree.specs.Changes.{tree_after_release}
use Rattle.dt_tree.specs.Table.{Stands, shape_of, tree_of}
use Rattle.dt_tree.proofs.Holding.{holds-released, IsFile-released, IsDir-released, IsDevice-released}
use Rattle.dt_calls.specs.declared.task.Task.{Task}
use Rattle.dt_calls.specs.declared.shared.Shared.{Shared as SharedInCode}
use Rattle.dt_base.specs.declared.abi.TheConstants.{SIGKILL, SIGCHLD}
use Rattle.dt_calls.specs.Container.{Shared, Tasks}
use Rattle.dt_calls.specs.Ends.{shared_after_one_end, shared_after_kills}
use Rattle.dt_calls.specs.Sound.{directories_of, IsSound}
use Rattle.dt_calls.proofs.Tasks.{by_task, still-raised}

-- of the processes without one
pub directories-without : (tasks : Tasks) (p : ℕ) (own : Task) → get tasks p ≡ Some own → (n : ℕ) → directories_of (remove tasks p) n + one_for own.caller.cwd n ≡ directories_of tasks n
directories-without tasks p own is n =
    let sum = total-remove nat_cmp_total (by_task n) nat_cmp-IsAntisymmetric tasks p in
    let weighs = ap (weight (by_task n)) is in
    omega arith

-- a process's working directory is held at least once
pub directories-least : (tasks : Tasks) (p : ℕ) (own : Task) → get tasks p ≡ Some own → 1 ≤ directories_of tasks own.caller.cwd
directories-least tasks p own is =
    let sum = directories-without tasks p own is own.caller.cwd in
    omega (arith, one_for-same own.caller.cwd)

-- whether a member is the live process that is asked for
abbrev is_live : ℕ → Member → Bool
is_live q m = (m.vpid == q) && is_none m.end

live-ended : (p : ℕ) (end : End) (q : ℕ) (m : Member) → q ≢ p → is_live q (member_after_end p end m) ≡ is_live q m
live-ended p end q m apart = by_pid (m.vpid == p) refl
  where
    by_pid : (b : Bool) → (m.vpid == p) ≡ b → ((m.vpid == q) && is_none (cond b (Some end) m.end)) ≡ ((m.vpid == q) && is_none m.end)
    by_pid false e = refl
    by_pid true e =
        let not : (m.vpid == q) ≡ false = grind (arith, nat_tests, e, apart) in
        ap (λ b. b && false) not ∙ sym (ap (λ b. b && is_none m.end) not)

-- the end of a process ends no other
pub lives-ended : (p : ℕ) (end : End) (q : ℕ) (members : List Member) → q ≢ p → has_live (members_after_end p end members) q ≡ has_live members q
unfolding members_after_end
lives-ended p end q [] apart = refl
lives-ended p end q (m ∷ ms) apart = (λ i. live-ended p end q m apart i || lives-ended p end q ms apart i)

module _ (c left new : SharedInCode) (w u v : World) (p : ℕ) (own : Task) (end : End) (sound : IsSound c w) (here : get c.tasks p ≡ Some own)
    (backed : IsBacked (at left.fs.files left.fs.tree u)) (others : KeepsHolds p (holding_at (at c.fs.files c.fs.tree w)) (holding_at (at left.fs.files left.fs.tree u))) where
  abbrev pub between : FileTree
  between = tree_of left.fs.tree u.forest

  -- what is left open is held, and each working directory once more
  holds-left : (n : ℕ) → holds_of between n ≡ descriptions_of left.fs.files.descriptors n + directories_of c.tasks n
  holds-left n = omega (arith, sound.holds n, others.holds n)

  -- so the working directory can be let go
  pub cwd-left : 0 < holds_of between own.caller.cwd
  cwd-left = omega (arith, holds-left own.caller.cwd, directories-least c.tasks p own here)

  abbrev after : FileTree
  after = tree_after_release between own.caller.cwd

  holds-after : (n : ℕ) → holds_of after n ≡ descriptions_of left.fs.files.descriptors n + directories_of (remove c.tasks p) n
  holds-after n =
      omega (arith, holds-left n, holds-released between own.caller.cwd cwd-left n, one_for-swap own.caller.cwd n, directories-without c.tasks p own here n)

  -- a working directory of another process is one still
  dir-after : (q : ℕ) (other : Task) → get (remove c.tasks p) q ≡ Some other → get c.tasks q ≡ Some other → IsDir after.shape other.caller.cwd
  dir-after q other is was =
      let n = other.caller.cwd in
      let most = directories-least (remove c.tasks p) q other is in
      let all = directories-least c.tasks q other was in
      let dir : IsDir (shape_of c.fs.tree w.forest) n = subst (λ found. IfSome found (λ x. IsDir (shape_of c.fs.tree w.forest) x.caller.cwd)) was (sound.directories q) in
      IsDir-released between own.caller.cwd backed.stands.tree n (λ _. omega (arith, holds-after n, most))
      (others.dirs n (omega (arith, sound.holds n, all)) dir)

  module _ (fs : new.fs.files ≡ left.fs.files) (tasks : new.tasks ≡ remove c.tasks p) (members : members_of new.pids ≡ members_after_end p end (members_of c.pids)) (next : new.pids.next ≡ c.pids.next)
      (stands : Stands new.fs.tree v.forest) (tree : tree_of new.fs.tree v.forest ≡ after) (pids : procs.Stands new.pids v.pids) (pipes : v.pipes ≡ u.pipes) where
    by_other : (q : ℕ) (P : Option Task → Type 0) → P None → ((other : Task) → q ≢ p → get (remove c.tasks p) q ≡ Some other → get c.tasks q ≡ Some other → P (Some other)) → P (get new.tasks q)
    by_other q P none some = subst P (sym (ap (λ m. get m q) tasks)) (by_found (get (remove c.tasks p) q) refl)
      where
        by_found : (found : Option Task) → get (remove c.tasks p) q ≡ found → P (get (remove c.tasks p) q)
        by_found None e = subst P (sym e) none
        by_found (Some other) e =
            let apart : q ≢ p = λ is. (let no : Some other ≡ None = sym e ∙ ap (get (remove c.tasks p)) is ∙ get-remove_same nat_cmp_total nat_cmp-IsAntisymmetric c.tasks p in cc) in
            subst P (sym e) (some other apart e (sym (get-remove_other nat_cmp_total nat_cmp-IsAntisymmetric c.tasks p q apart) ∙ e))

    -- a process whose descriptors were closed has ended
    pub sound-ended : IsSound new v
    sound-ended = record {
      stands = stands;
      pids = pids;
      all_in = subst (λ t. AllIn t.shape new.fs.files.descriptors) (sym tree) (subst (λ (f : Files). AllIn after.shape f.descriptors) (sym fs)
          (all_in-through left.fs.files.descriptors between.shape after.shape
          (λ n some is. IsFile-released between own.caller.cwd backed.stands.tree n (λ _. omega (arith, holds-after n)) is)
          (λ n some is. IsDir-released between own.caller.cwd backed.stands.tree n (λ _. omega (arith, holds-after n)) is)
          (λ n some is. IsDevice-released between own.caller.cwd backed.stands.tree n (λ _. omega (arith, holds-after n)) is)
          backed.backs.is_in));
      directories = λ q. by_other q (λ found. IfSome found (λ x. IsDir (shape_of new.fs.tree v.forest) x.caller.cwd)) tt
          (λ other apart is was. subst (λ t. IsDir t.shape other.caller.cwd) (sym tree) (dir-after q other is was));
      holds = λ n.
          let now = ap (λ t. holds_of t n) tree in
          let count = ap (λ (f : Files). descriptions_of f.descriptors n) fs in
          let dirs = ap (λ m. directories_of m n) tasks in
          omega (arith, holds-after n);
      piped = subst (λ f. IsPiped f v.pipes) (sym fs) (subst (IsPiped left.fs.files) (sym pipes) (record { stands = backed.pipes; counted = backed.ends; there = backed.backs.ends }));
      named = λ q. by_other q (λ found. IfSome found (λ x. x.caller.vpid ≡ q)) tt
          (λ other apart is was. subst (λ found. IfSome found (λ x. x.caller.vpid ≡ q)) was (sound.named q));
      given = λ q. by_other q (λ found. IsSome found → q < new.pids.next) (λ no. cc)
          (λ other apart is was _. subst (λ n. q < n) (sym next) (sound.given q (ap is_some was)));
      lives = λ q. by_other q (λ found. IsSome found → has_live (members_of new.pids) q ≡ true) (λ no. cc)
          (λ other apart is was _. ap (λ ms. has_live ms q) members ∙ lives-ended p end q (members_of c.pids) apart ∙ sound.lives q (ap is_some was));
      fresh = λ q late.
          let below = sound.given p (ap is_some here) in
          ap (λ (f : Files). get f.descriptors.tables q) fs ∙ others.tables q (λ is. absurd (omega arith)) ∙ sound.fresh q (subst (λ n. n ≤ q) next late);
    }

-- one of the processes that are to be killed is killed
pub kills-next : (vpids : List ℕ) (k p : ℕ) (c d whole : Shared) → k < length vpids → get_or vpids k 0 ≡ p → whole ≡ shared_after_kills (drop k vpids) c → d ≡ shared_after_one_end p (Signal SIGKILL) c → whole ≡ shared_after_kills (drop (k + 1) vpids) d
unfolding shared_after_kills
kills-next vpids k p c d whole within is so ends =
    so ∙ ap (λ ps. shared_after_kills ps c) (drop-cons vpids k 0 within)
    ∙ ap (λ n. shared_after_kills (drop n vpids) (shared_after_one_end (get_or vpids k 0) (Signal SIGKILL) c)) (sym (add-one k))
    ∙ ap (shared_after_kills (drop (k + 1) vpids)) (ap (λ q. shared_after_one_end q (Signal SIGKILL) c) is ∙ sym ends)

-- and the others live on
pub others-kept : (p q : ℕ) (end : End) (c d : Shared) → d ≡ shared_after_one_end p end c → q ≢ p → IsSome (get c.tasks q) → IsSome (get d.tasks q)
unfolding shared_after_one_end
others-kept p q end c d is apart lives =
    subst (λ (s : Shared). IsSome (get s.tasks q)) (sym is)
    (still-raised (unwrap_or (parent_pid c.members p) 0) SIGCHLD (remove c.tasks p) q
    (subst (λ found. IsSome found) (sym (get-remove_other nat_cmp_total nat_cmp-IsAntisymmetric c.tasks p q apart)) lives))
