-- How open files and working directories hold their nodes, through each change of what processes share.
use Rattle.std.proofs.Common.{arith, ◌≡◌, ◌≢◌, ℕ, ◌+◌, ◌<◌, ◌≤◌, ◌||◌, not, suc, zero, cond, Bool, true, false, List, [], ◌∷◌, length, get_or, Option, Some, None, refl, sym, ap, subst, ◌∙◌}
use Rattle.std.proofs.Math.Bool.{or-true}
use Rattle.std.specs.Prelude.{IsSome, IfSome, is_some, Result, Ok, Err}
use Rattle.std.specs.List.{list_any, All}
use Rattle.std.specs.Cmp.{nat_cmp_total}
use Rattle.std.specs.FinMap.{get, insert, remove, nat_cmp-IsAntisymmetric}
use Rattle.std.proofs.lemmas.Bool.Decides.{nat_tests}
use Rattle.std.proofs.lemmas.List.Folds.{list_any-append, list_any_none}
use Rattle.dt_base.specs.declared.caller.Caller.{Caller}
use Rattle.dt_base.specs.declared.event.End.{End}
use Rattle.dt_fds.specs.Backs.{AllIn, KeepsNodes, KeepsOthers as KeepsHolds, OnlyFiles, at, holding_at, IsBacked, IsPiped, descriptions_of}
use Rattle.dt_fds.specs.declared.files.Files.{Files}
use Rattle.dt_tables.specs.inner.Weight.{weight}
use Rattle.dt_host.specs.declared.error.HostErr.{HostErr}
use Rattle.dt_host.specs.World.{World, Forest, IsDir, OnlyPids}
use Rattle.dt_tables.proofs.Maps.{at_insert, get-remove_other}
use Rattle.dt_host.proofs.Spots.{IsLive-IsDir}
use Rattle.dt_tables.proofs.Totals.{total-insert, total-remove}
use Rattle.dt_procs.specs.declared.member.Member.{Member}
use Rattle.dt_procs.specs.declared.member.Reaped.TheVariants.{Got}
use Rattle.dt_procs.specs.Members.{has_live, is_live, has_pid, newborn, with_child, without_member, look_for}
use Rattle.dt_procs.proofs.Lowest.{lowest}
use Rattle.dt_procs.proofs.Pairs.{AllPairs-head, AllPairs-tail}
use Rattle.dt_procs.proofs.Standing.{Rises}
use Rattle.dt_procs.specs.Table as procs
use Rattle.dt_procs.specs.Table.{members_of}
use Rattle.dt_callbase.proofs.Kept.{sound_held, others_held, piped_nodes}
use Rattle.dt_callbase.specs.declared.fs.Fs.{Fs}
use Rattle.dt_callbase.specs.Sound.{Sound, KeepsOthers, stage, scene}
use Rattle.dt_space.specs.Space.{PageView}
use Rattle.dt_tree.proofs.Holding.{holds-held, shape-held}
use Rattle.dt_tree.proofs.Namings.{one_for-same, one_for-swap}
use Rattle.dt_tree.specs.Changes.{tree_after_hold}
use Rattle.dt_tree.specs.FileTree.{FileTree, holds_of}
use Rattle.dt_tree.specs.Shape.{one_for}
use Rattle.dt_tree.specs.Table.{Table, Stands, shape_of, tree_of}
use Rattle.dt_rv64.specs.declared.machine.Machine.{Machine}
use Rattle.dt_calls.specs.declared.container.Served.{Served}
use Rattle.dt_calls.specs.declared.task.Task.{Task}
use Rattle.dt_calls.specs.declared.shared.Shared.{Shared}
use Rattle.dt_calls.specs.Container.{Tasks, task_in}
use Rattle.dt_calls.specs.declared.call.effect.Effect.{Effect as EffectInCode}
use Rattle.dt_calls.specs.Effect.{Effect}
use Rattle.dt_calls.specs.InCode.{shared_of, effect_as}
use Rattle.dt_calls.specs.Settle.{next_after}
use Rattle.dt_calls.specs.Sound.{directories_of, IsSound, KeepsSound, LivesOn, LeavesSound, ChangesTasks, HasEffect, left}
use Rattle.dt_calls.proofs.Tasks.{by_task, some-task, task-here, still-insert, count-put}

-- a task counts among the others
count-at : (m : Tasks) (k : ℕ) (own : Task) → get m k ≡ Some own → (n : ℕ) → one_for own.caller.cwd n ≤ directories_of m n
count-at m k own is n =
    let gone = total-remove nat_cmp_total (by_task n) nat_cmp-IsAntisymmetric m k in
    let one = ap (weight (by_task n)) is in
    omega arith

-- and so do two
count-two : (m : Tasks) (k q : ℕ) (own other : Task) → q ≢ k → get m k ≡ Some own → get m q ≡ Some other → (n : ℕ) → one_for own.caller.cwd n + one_for other.caller.cwd n ≤ directories_of m n
count-two m k q own other apart is is_other n =
    let gone = total-remove nat_cmp_total (by_task n) nat_cmp-IsAntisymmetric m k in
    let one = ap (weight (by_task n)) is in
    let there = get-remove_other nat_cmp_total nat_cmp-IsAntisymmetric m k q apart ∙ is_other in
    let second = count-at (remove m k) q other there n in
    omega arith

module _ (c : Shared) (p : ℕ) (w : World) (sound : IsSound c w) (lives : IsSome (get c.tasks p)) where
  abbrev own : Task
  own = task_in c.tasks p

  here-own : get c.tasks p ≡ Some own
  here-own = some-task c.tasks p lives

  pub own-dir : IsDir (shape_of c.fs.tree w.forest) (task_in c.tasks p).caller.cwd
  own-dir = subst (λ (found : Option Task). IfSome found (λ t. IsDir (shape_of c.fs.tree w.forest) t.caller.cwd)) here-own (sound.directories p)

  -- a task stands under its process's pid
  own-vpid : own.caller.vpid ≡ p
  own-vpid = subst (λ (found : Option Task). IfSome found (λ t. t.caller.vpid ≡ p)) here-own (sound.named p)

  -- the scene of a call is sound
  pub sound-scene : (space : List PageView) → Sound (stage c.fs w (task_in c.tasks p).caller space)
  sound-scene space = record {
    stands = sound.stands;
    is_dir = own-dir;
    all_in = sound.all_in;
    enough = λ n.
        let count = count-at c.tasks p own here-own n in
        omega (arith, sound.holds n, one_for-swap own.caller.cwd n);
    piped = sound.piped;
  }

  module _ (fs : Fs) (new : Task) (v : World) (space pages : List PageView) (stays : Sound (stage fs v new.caller pages)) (others : KeepsOthers (scene (stage c.fs w own.caller space)) (scene (stage fs v new.caller pages))) (rest : OnlyFiles w v) where
    abbrev moved : Shared
    moved = record c { fs = fs; tasks = insert c.tasks p new }

    -- a fact of each task, where it holds of the process's own and of the others' as they were
    tasks-moved : (P : ℕ → Option Task → Type 0) → P p (Some new) → ((q : ℕ) → q ≢ p → P q (get c.tasks q)) → (q : ℕ) → P q (get (insert c.tasks p new) q)
    tasks-moved P mine theirs q =
        at_insert nat_cmp_total nat_cmp-IsAntisymmetric (P q) c.tasks p new q (λ is. subst (λ q. P q (Some new)) (sym is) mine) (theirs q)

    other-dir : (q : ℕ) → q ≢ p → (found : Option Task) → get c.tasks q ≡ found → IfSome found (λ other. IsDir (shape_of c.fs.tree w.forest) other.caller.cwd) → IfSome found (λ other. IsDir (shape_of fs.tree v.forest) other.caller.cwd)
    other-dir q apart None is dir = tt
    other-dir q apart (Some other) is dir =
        let n = other.caller.cwd in
        let two = count-two c.tasks p q own other apart here-own is n in
        others.dirs n (omega (arith, sound.holds n, one_for-swap own.caller.cwd n, one_for-same n)) dir

    -- a call leaves what is held as it has to be
    pub sound-called : IsSound (record c { fs = fs; tasks = insert c.tasks p new }) v
    sound-called = record {
      stands = stays.stands;
      pids = subst (procs.Stands c.pids) (sym rest) sound.pids;
      all_in = stays.all_in;
      directories = tasks-moved (λ q found. IfSome found (λ other. IsDir (shape_of fs.tree v.forest) other.caller.cwd)) stays.is_dir
          (λ q apart. other-dir q apart (get c.tasks q) refl (sound.directories q));
      holds = λ n.
          let count = count-put c.tasks p own new here-own n in
          omega (arith, sound.holds n, others.holds n, one_for-swap own.caller.cwd n, one_for-swap new.caller.cwd n);
      piped = stays.piped;
      named = tasks-moved (λ q found. IfSome found (λ other. other.caller.vpid ≡ q)) (others.vpid ∙ own-vpid) (λ q apart. sound.named q);
      given = tasks-moved (λ q found. IsSome found → q < c.pids.next) (λ some. sound.given p lives) (λ q apart. sound.given q);
      lives = tasks-moved (λ q found. IsSome found → has_live (members_of c.pids) q ≡ true) (λ some. sound.lives p lives) (λ q apart. sound.lives q);
      fresh = λ q past.
          let mine = sound.given p lives in
          others.tables q (λ is. absurd (omega (arith, own-vpid))) ∙ sound.fresh q past;
    }

    pub keeps-called : KeepsSound c (record c { fs = fs; tasks = insert c.tasks p new }) v
    keeps-called = record { sound = sound-called; tasks = still-insert c.tasks p new; next = refl }

  -- open files are closed, and the process's task changes
  pub keeps-closed : (files : Files) (tree : Table) (new : Task) (v : World) → new.caller ≡ (task_in c.tasks p).caller → IsBacked (at files tree v) → KeepsHolds p (holding_at (at c.fs.files c.fs.tree w)) (holding_at (at files tree v)) → OnlyFiles w v → KeepsSound c (record c { fs = record c.fs { tree = tree; files = files }; tasks = insert c.tasks p new }) v
  keeps-closed files tree new v same backed others rest =
      let fs : Fs = record c.fs { tree = tree; files = files } in
      let holds : KeepsHolds own.caller.vpid (holding_at (at c.fs.files c.fs.tree w)) (holding_at (at files tree v)) = subst (λ q. KeepsHolds q (holding_at (at c.fs.files c.fs.tree w)) (holding_at (at files tree v))) (sym own-vpid) others in
      keeps-called fs new v [] []
      (subst (λ (caller : Caller). Sound (stage fs v caller [])) (sym same) (sound_held c.fs fs w v own.caller [] [] (sound-scene []) backed holds))
      (others_held (scene (stage c.fs w own.caller [])) (scene (stage fs v new.caller [])) (sym same) holds)
      rest

-- the time alone changes
pub keeps-clock : (c : Shared) (w : World) → IsSound c w → (clock : ℕ) → KeepsSound c (record c { fs = record c.fs { clock = clock } }) w
keeps-clock c w sound clock = record {
  sound = record {
    stands = sound.stands;
    pids = sound.pids;
    all_in = sound.all_in;
    directories = sound.directories;
    holds = sound.holds;
    piped = sound.piped;
    named = sound.named;
    given = sound.given;
    lives = sound.lives;
    fresh = sound.fresh;
  };
  tasks = λ q there. there;
  next = refl;
}

-- a call that keeps what is sound leaves it so, whatever became of the process
pub leaves : (p : ℕ) (served : Served) (old new : Shared) (w : World) → KeepsSound old new w → LeavesSound p served None old new w
leaves p served old new w kept = record { sound = kept.sound; tasks = λ q lives there. kept.tasks q there; next = kept.next; child = tt }

-- one step that keeps what is sound, and then another
pub leaves-then : (p : ℕ) (served : Served) (made : Option Machine) (old mid new : Shared) (v w : World) → KeepsSound old mid v → LeavesSound p served made mid new w → LeavesSound p served made old new w
leaves-then p served made old mid new v w first then = record {
  sound = then.sound;
  tasks = λ q lives there. then.tasks q lives (first.tasks q there);
  next = then.next ∙ ap (λ next. next_after next made) first.next;
  child = subst (λ next. IfSome made (λ _. LivesOn p served next → IsSome (get new.tasks next))) first.next then.child;
}

lives-born : (members : List Member) (q parent : ℕ) → has_live (with_child members q parent) q ≡ true
lives-born [] q parent = grind (arith, nat_tests)
lives-born (m ∷ members) q parent = ap (λ b. is_live q m || b) (lives-born members q parent) ∙ or-true (is_live q m)

lives-still : (members : List Member) (q parent p : ℕ) → has_live members p ≡ true → has_live (with_child members q parent) p ≡ true
lives-still members q parent p is =
    list_any-append (is_live p) members (newborn q parent ∷ []) ∙ ap (λ b. b || list_any (is_live p) (newborn q parent ∷ [])) is

module _ (c : Shared) (p : ℕ) (w : World) (sound : IsSound c w) (lives : IsSome (get c.tasks p)) where
  abbrev parent : Task
  parent = task_in c.tasks p

  none-next : get c.tasks c.pids.next ≡ None
  none-next = by_found (get c.tasks c.pids.next) refl
    where
      by_found : (found : Option Task) → get c.tasks c.pids.next ≡ found → found ≡ None
      by_found None is = refl
      by_found (Some other) is = absurd (let below : c.pids.next < c.pids.next = sound.given c.pids.next (ap is_some is) in omega arith)

  module _ (new : Shared) (child : Task) (v : World) (only : OnlyPids w v) (stands : Stands new.fs.tree v.forest) (tree : tree_of new.fs.tree v.forest ≡ tree_after_hold (tree_of c.fs.tree v.forest) parent.caller.cwd) (nodes : KeepsNodes c.pids.next c.fs.files.descriptors new.fs.files.descriptors) (pipes : new.fs.files.pipes ≡ c.fs.files.pipes) (ends : new.fs.files.ends ≡ c.fs.files.ends) (pids : procs.Stands new.pids v.pids) (members : members_of new.pids ≡ with_child (members_of c.pids) c.pids.next p) (next : new.pids.next ≡ c.pids.next + 1) (tasks : new.tasks ≡ insert c.tasks c.pids.next child) (vpid : child.caller.vpid ≡ c.pids.next) (cwd : child.caller.cwd ≡ parent.caller.cwd) where
    tree-now : tree_of new.fs.tree v.forest ≡ tree_after_hold (tree_of c.fs.tree w.forest) parent.caller.cwd
    tree-now = tree ∙ ap (λ (f : Forest). tree_after_hold (tree_of c.fs.tree f) parent.caller.cwd) only.forest

    shape-now : shape_of new.fs.tree v.forest ≡ shape_of c.fs.tree w.forest
    shape-now = ap (λ (t : FileTree). t.shape) tree-now ∙ shape-held (tree_of c.fs.tree w.forest) parent.caller.cwd

    tasks-child : (P : ℕ → Option Task → Type 0) → P c.pids.next (Some child) → ((r : ℕ) → P r (get c.tasks r)) → (r : ℕ) → P r (get new.tasks r)
    tasks-child P mine theirs r = subst (λ (m : Tasks). P r (get m r)) (sym tasks)
        (at_insert nat_cmp_total nat_cmp-IsAntisymmetric (P r) c.tasks c.pids.next child r (λ is. subst (λ r. P r (Some child)) (sym is) mine) (λ apart. theirs r))

    dir-child : IsDir (shape_of c.fs.tree w.forest) child.caller.cwd
    dir-child = subst (IsDir (shape_of c.fs.tree w.forest)) (sym cwd) (own-dir c p w sound lives)

    holds-child : (n : ℕ) → holds_of (tree_of new.fs.tree v.forest) n ≡ descriptions_of new.fs.files.descriptors n + directories_of new.tasks n
    holds-child n =
        let now = ap (λ (t : FileTree). holds_of t n) tree-now in
        let more = holds-held (tree_of c.fs.tree w.forest) sound.stands.tree parent.caller.cwd (IsLive-IsDir (shape_of c.fs.tree w.forest) parent.caller.cwd (own-dir c p w sound lives)) n in
        let all = ap (λ (m : Tasks). directories_of m n) tasks in
        let put = total-insert nat_cmp_total (by_task n) c.tasks c.pids.next child in
        let none = ap (weight (by_task n)) none-next in
        let dir = ap (λ d. one_for d n) cwd in
        omega (arith, sound.holds n, nodes.counts n)

    -- a child is there, which holds its working directory
    pub sound-child : IsSound new v
    sound-child = record {
      stands = stands;
      pids = pids;
      all_in = subst (λ s. AllIn s new.fs.files.descriptors) (sym shape-now) (nodes.all_in (shape_of c.fs.tree w.forest) sound.all_in);
      directories = tasks-child (λ r found. IfSome found (λ other. IsDir (shape_of new.fs.tree v.forest) other.caller.cwd))
          (subst (λ s. IsDir s child.caller.cwd) (sym shape-now) dir-child)
          (λ r. subst (λ s. IfSome (get c.tasks r) (λ other. IsDir s other.caller.cwd)) (sym shape-now) (sound.directories r));
      holds = holds-child;
      piped = subst (IsPiped new.fs.files) (sym only.pipes) (piped_nodes c.pids.next c.fs.files new.fs.files w.pipes nodes pipes ends sound.piped);
      named = tasks-child (λ r found. IfSome found (λ other. other.caller.vpid ≡ r)) vpid (λ r. sound.named r);
      given = tasks-child (λ r found. IsSome found → r < new.pids.next) (λ some. omega arith) (λ r some. let below = sound.given r some in omega arith);
      lives = tasks-child (λ r found. IsSome found → has_live (members_of new.pids) r ≡ true)
          (λ some. subst (λ ms. has_live ms c.pids.next ≡ true) (sym members) (lives-born (members_of c.pids) c.pids.next p))
          (λ r some. subst (λ ms. has_live ms r ≡ true) (sym members) (lives-still (members_of c.pids) c.pids.next p r (sound.lives r some)));
      fresh = λ r past. nodes.tables r (omega arith) ∙ sound.fresh r (omega arith);
    }

-- a child is a process more
pub keeps-child : (p : ℕ) (served : Served) (c new : Shared) (child : Task) (v : World) (m : Machine) → IsSound new v → new.pids.next ≡ c.pids.next + 1 → new.tasks ≡ insert c.tasks c.pids.next child → LeavesSound p served (Some m) c new v
keeps-child p served c new child v m now next tasks = record {
  sound = now;
  tasks = λ r lives there. subst (λ (m : Tasks). IsSome (get m r)) (sym tasks) (still-insert c.tasks c.pids.next child r there);
  next = next;
  child = λ lives. subst (λ (m : Tasks). IsSome (get m c.pids.next)) (sym tasks) (task-here c.tasks c.pids.next child);
}

-- the members with pids above one's are not of its pid
none-above : (x : Member) (members : List Member) → All (λ y. x.vpid < y.vpid) members → list_any (is_live x.vpid) members ≡ false
none-above x members above = list_any_none (is_live x.vpid) members (λ k d below. let more = above k d below in grind (arith, nat_tests))

-- a zombie does not live
dead : (members : List Member) (z : Member) (end : End) → procs.IsRising members → z.end ≡ Some end → (k : ℕ) → k < length members → get_or members k z ≡ z → has_live members z.vpid ≡ false
dead [] z end rising is k below at = refl
dead (x ∷ members) z end rising is zero below at =
    let same : x ≡ z = at in
    let rest : list_any (is_live z.vpid) members ≡ false = subst (λ (y : Member). list_any (is_live y.vpid) members ≡ false) same (none-above x members (AllPairs-head Rises x members rising)) in
    let ended : x.end ≡ Some end = ap (λ (y : Member). y.end) same ∙ is in
    grind (arith, nat_tests)
dead (x ∷ members) z end rising is (suc k) below at =
    let less : x.vpid < (get_or members k z).vpid = AllPairs-head Rises x members rising k z (omega arith) in
    let pid = ap (λ (y : Member). y.vpid) at in
    let rest = dead members z end (AllPairs-tail Rises x members rising) is k (omega arith) at in
    grind (arith, nat_tests)

or-then : (b x y : Bool) → (x ≡ true → y ≡ true) → (b || x) ≡ true → (b || y) ≡ true
or-then true x y then is = refl
or-then false x y then is = then is

lives-without : (members : List Member) (vpid p : ℕ) → p ≢ vpid → has_live members p ≡ true → has_live (without_member members vpid) p ≡ true
lives-without [] vpid p apart is = is
lives-without (x ∷ members) vpid p apart is =
    let rest : has_live members p ≡ true → has_live (without_member members vpid) p ≡ true = lives-without members vpid p apart in
    elim (has_pid vpid x) as (λ b. has_pid vpid x ≡ b → has_live (cond (not b) (x ∷ without_member members vpid) (without_member members vpid)) p ≡ true) [
      | true ↦ λ here. rest (grind (arith, nat_tests))
      | false ↦ λ here. or-then (is_live p x) (has_live members p) (has_live (without_member members vpid) p) rest is
    ] refl

module _ (c : Shared) (w : World) (sound : IsSound c w) (pids : procs.Table) (v : World) (parent : ℕ) (which : Option ℕ) (vpid : ℕ) (end : End) (rising : procs.IsRising (members_of c.pids)) (found : look_for (members_of c.pids) parent which ≡ Got vpid end) (only : OnlyPids w v) (stands : procs.Stands pids v.pids) (members : members_of pids ≡ without_member (members_of c.pids) vpid) (next : pids.next ≡ c.pids.next) where
  zombie-dead : has_live (members_of c.pids) vpid ≡ false
  zombie-dead =
      let z = lowest (members_of c.pids) parent which vpid end rising found in
      subst (λ p. has_live (members_of c.pids) p ≡ false) z.pid (dead (members_of c.pids) z.zombie end rising z.ended z.there.0 z.there.1 z.there.2)

  lives-reaped : (p : ℕ) → has_live (members_of c.pids) p ≡ true → has_live (members_of pids) p ≡ true
  lives-reaped p is = subst (λ ms. has_live ms p ≡ true) (sym members)
      (lives-without (members_of c.pids) vpid p (λ same. let both : true ≡ false = sym is ∙ subst (λ p. has_live (members_of c.pids) p ≡ false) (sym same) zombie-dead in cc) is)

  -- a zombie is reaped
  sound-reaped : IsSound (record c { pids = pids }) v
  sound-reaped = record {
    stands = subst (Stands c.fs.tree) (sym only.forest) sound.stands;
    pids = stands;
    all_in = subst (λ f. AllIn (shape_of c.fs.tree f) c.fs.files.descriptors) (sym only.forest) sound.all_in;
    directories = λ p. subst (λ f. IfSome (get c.tasks p) (λ other. IsDir (shape_of c.fs.tree f) other.caller.cwd)) (sym only.forest) (sound.directories p);
    holds = λ n. subst (λ f. holds_of (tree_of c.fs.tree f) n ≡ descriptions_of c.fs.files.descriptors n + directories_of c.tasks n) (sym only.forest) (sound.holds n);
    piped = subst (IsPiped c.fs.files) (sym only.pipes) sound.piped;
    named = sound.named;
    given = λ p some. let below = sound.given p some in omega arith;
    lives = λ p some. lives-reaped p (sound.lives p some);
    fresh = λ p past. sound.fresh p (omega arith);
  }

  pub keeps-reaped : KeepsSound c (record c { pids = pids }) v
  keeps-reaped = record { sound = sound-reaped; tasks = λ q there. there; next = next }

-- what was kept before a stop was served, or a part of it
pub effect-then : (p : ℕ) (defined rest : Effect) (old mid new : Shared) (v w : World) (m : Machine) (result : Result EffectInCode HostErr) (before now : ℕ) → defined ≡ rest → KeepsSound old mid v → HasEffect p rest mid (left new w m) result before now → HasEffect p defined old (left new w m) result before now
effect-then p defined rest old mid new v w m (Ok e) before now is first then = record {
  served = is ∙ then.served;
  kept = leaves-then p e.served e.child old mid new v w first then.kept;
  cause = then.cause;
}
effect-then p defined rest old mid new v w m (Err x) before now is first then = record {
  served = then.served;
  kept = then.kept;
  cause = then.cause;
}

-- a call that changes tasks alone has its effect
pub serves-tasks : (p : ℕ) (defined : Effect) (c new : Shared) (w : World) (machine : Machine) (e : EffectInCode) (count : ℕ) → IsSound c w → e.child ≡ None → ChangesTasks c new → defined ≡ effect_as (shared_of new w) machine e → HasEffect p defined c (left new w machine) (Ok e) count count
serves-tasks p defined c new w machine e count sound none changes served = record {
  served = served;
  kept = subst (λ made. LeavesSound p e.served made c new w) (sym none) (leaves p e.served c new w (changes.kept w sound));
  cause = record { later = omega arith; rose = λ failed. cc };
}

-- and so has one that takes time alone
pub serves-time : (p : ℕ) (defined : Effect) (c new : Shared) (w : World) (machine : Machine) (e : EffectInCode) (count : ℕ) → IsSound c w → e.child ≡ None → new ≡ record c { fs = new.fs } → new.fs ≡ record c.fs { clock = new.fs.clock } → defined ≡ effect_as (shared_of new w) machine e → HasEffect p defined c (left new w machine) (Ok e) count count
serves-time p defined c new w machine e count sound none rest files served =
    let is : new ≡ record c { fs = record c.fs { clock = new.fs.clock } } = rest ∙ ap (λ (fs : Fs). record c { fs = fs }) files in
    let kept : KeepsSound c new w = subst (λ (s : Shared). KeepsSound c s w) (sym is) (keeps-clock c w sound new.fs.clock) in
    record {
      served = served;
      kept = subst (λ made. LeavesSound p e.served made c new w) (sym none) (leaves p e.served c new w kept);
      cause = record { later = omega arith; rose = λ failed. cc };
    }
