-- How soundness lasts, and that a call leaves what others hold.
use Rattle.std.proofs.Common.{◌≡◌, ◌≢◌, ℕ, ◌<◌, ◌≤◌, List, [], Option, None, Some, refl, sym, ap, ◌∙◌, subst, arith}
use Rattle.std.specs.Prelude.{Result, Ok, Err, IfOk, OnOk, IfSome}
use Rattle.std.specs.FinMap.{get}
use Rattle.dt_base.specs.declared.answer.Answer.{Answer}
use Rattle.dt_base.specs.declared.answer.Answer.TheVariants.{Value}
use Rattle.dt_base.specs.declared.caller.Caller.{Caller}
use Rattle.dt_fds.specs.declared.desc.Desc.{Desc}
use Rattle.dt_fds.specs.declared.desc.DescKind.{DescKind}
use Rattle.dt_fds.specs.declared.desc.DescKind.TheVariants.{File, Dir, Device, PipeRead, PipeWrite, Input, Stream}
use Rattle.dt_fds.specs.Descriptions.{Descriptions, inode_of, one_if_named}
use Rattle.dt_fds.specs.Backs.{IsIn, AllIn, IsBacked, KeepsNodes, KeepsOthers as KeepsHolds, OnlyFiles, IsPiped, at, descriptions_of}
use Rattle.dt_fds.specs.declared.files.Files.{Files}
use Rattle.dt_fds.specs.Ends.{AreCounted}
use Rattle.dt_fds.specs.OpenFiles.{pipes_at}
use Rattle.dt_fds.specs.Backs as holds
use Rattle.dt_fds.specs.Backs.{AllEnds}
use Rattle.dt_fds.proofs.Ending.{counted-kept}
use Rattle.dt_pipes.specs.Table as table
use Rattle.dt_host.specs.World.{PipeContents}
use Rattle.dt_fds.specs.Holding.{FilesAnswer}
use Rattle.dt_base.specs.declared.errno.Errno.{Errno}
use Rattle.dt_fds.proofs.Backing.{named}
use Rattle.dt_host.proofs.Asking.{cause-from}
use Rattle.dt_tables.specs.inner.Weight.{weight}
use Rattle.dt_host.specs.World.{World, Forest, IsFile, IsDir, IsDevice, OnlyForest}
use Rattle.dt_host.specs.declared.error.HostErr.{HostErr}
use Rattle.dt_space.specs.Space.{PageView}
use Rattle.dt_tree.specs.Calls.{TreeAnswer, KeepsHeld, tree_answer}
use Rattle.dt_tree.specs.FileTree.{holds_of}
use Rattle.dt_tree.specs.Shape.{one_for}
use Rattle.dt_tree.specs.Table.{Table, Stands, shape_of, tree_of}
use Rattle.dt_tree.proofs.Namings.{one_for-same}
use Rattle.dt_callbase.specs.declared.fs.Fs.{Fs}
use Rattle.dt_callbase.specs.Scene.{Scene, Reply, value_reply, stamp, tree_call_reply, holding, answer_of, files_call_reply}
use Rattle.dt_callbase.specs.Sound.{Stage, Sound, KeepsOthers, HasReply, HasRowReply, HasReplyOf, stage, scene}

-- the working directory is held
pub cwd_held : (fs : Fs) (w : World) (caller : Caller) (space : List PageView) → Sound (stage fs w caller space) → 1 ≤ holds_of (tree_of fs.tree w.forest) caller.cwd
cwd_held fs w caller space sound = omega (arith, sound.enough caller.cwd, one_for-same caller.cwd)

-- more than what descriptions hold
pub cwd_more : (fs : Fs) (w : World) (caller : Caller) (space : List PageView) → Sound (stage fs w caller space) → descriptions_of fs.files.descriptors caller.cwd < holds_of (tree_of fs.tree w.forest) caller.cwd
cwd_more fs w caller space sound = omega (arith, sound.enough caller.cwd, one_for-same caller.cwd)

-- the tree backs the descriptions
pub backed_sound : (fs : Fs) (w : World) (caller : Caller) (space : List PageView) → Sound (stage fs w caller space) → IsBacked (at fs.files fs.tree w)
backed_sound fs w caller space sound = record {
  stands = sound.stands;
  pipes = sound.piped.stands;
  ends = sound.piped.counted;
  backs = record { enough = λ n. omega (arith, sound.enough n); is_in = sound.all_in; ends = sound.piped.there };
}

-- what is open is in another tree too, where nodes that are open stay files, directories and devices
pub all_in-through : (f : Descriptions) (v w : Forest) → ((n : ℕ) → 1 ≤ descriptions_of f n → IsFile v n → IsFile w n) → ((n : ℕ) → 1 ≤ descriptions_of f n → IsDir v n → IsDir w n) → ((n : ℕ) → 1 ≤ descriptions_of f n → IsDevice v n → IsDevice w n) → AllIn v f → AllIn w f
all_in-through f v w files dirs devices all k = by_found (get f.descs k) (λ n. named f k n) (all k)
  where
    by_kind : (kind : DescKind) → ((n : ℕ) → one_if_named n (inode_of kind) ≤ descriptions_of f n) → IsIn v kind → IsIn w kind
    by_kind (File n) named is = files n (omega (arith, named n, one_for-same n)) is
    by_kind (Dir n) named is = dirs n (omega (arith, named n, one_for-same n)) is
    by_kind (Device n) named is = devices n (omega (arith, named n, one_for-same n)) is
    by_kind (PipeRead q) named is = tt
    by_kind (PipeWrite q) named is = tt
    by_kind Input named is = tt
    by_kind (Stream stream) named is = tt

    by_found : (found : Option Desc) → ((n : ℕ) → weight (λ desc. one_if_named n (inode_of desc.kind)) found ≤ descriptions_of f n) → IfSome found (λ desc. IsIn v desc.kind) → IfSome found (λ desc. IsIn w desc.kind)
    by_found None named is = tt
    by_found (Some desc) named is = by_kind desc.kind named is

-- a change of the tree that leaves what is held
pub sound_kept : (old new : Fs) (w v : World) (caller : Caller) (space pages : List PageView) → Sound (stage old w caller space) → Stands new.tree v.forest → KeepsHeld (tree_of old.tree w.forest) (tree_of new.tree v.forest) → new.files ≡ old.files → v.pipes ≡ w.pipes → Sound (stage new v caller pages)
sound_kept old new w v caller space pages sound stands kept same piped = record {
  stands = stands;
  is_dir = kept.dirs caller.cwd (cwd_held old w caller space sound) sound.is_dir;
  all_in = subst (λ (f : Files). AllIn (shape_of new.tree v.forest) f.descriptors) (sym same)
      (all_in-through old.files.descriptors (shape_of old.tree w.forest) (shape_of new.tree v.forest)
      (λ n named_one. kept.files n (omega (arith, sound.enough n))) (λ n named_one. kept.dirs n (omega (arith, sound.enough n))) (λ n named_one. kept.devices n (omega (arith, sound.enough n))) sound.all_in);
  enough = λ n. let files = ap (λ (f : Files). descriptions_of f.descriptors n) same in omega (arith, sound.enough n, kept.holds n);
  piped = subst (λ f. IsPiped f v.pipes) (sym same) (subst (IsPiped old.files) (sym piped) sound.piped);
}

pub others_kept : (old new : Scene) → old.caller ≡ new.caller → new.files ≡ old.files → KeepsHeld old.tree new.tree → KeepsOthers old new
others_kept old new same files kept = record {
  vpid = ap (λ c. c.vpid) (sym same);
  tables = λ q apart. ap (λ f. get f.tables q) files;
  holds = λ n.
      let count = ap (λ f. descriptions_of f n) files in
      let cwd = ap (λ c. one_for n c.cwd) same in
      omega (arith, kept.holds n);
  files = λ n held. kept.files n (omega arith);
  dirs = λ n held. kept.dirs n (omega arith);
  devices = λ n held. kept.devices n (omega arith);
}

-- the table of pipes stands for the host's also then
pub piped_nodes : (p : ℕ) (old new : Files) (host : PipeContents) → KeepsNodes p old.descriptors new.descriptors → new.pipes ≡ old.pipes → new.ends ≡ old.ends → IsPiped old host → IsPiped new host
piped_nodes p old new host nodes pipes ends piped = record {
  stands = subst (λ t. table.Stands t host) (sym pipes) piped.stands;
  counted = subst (λ e. AreCounted new.descriptors e) (sym ends) (counted-kept p old.descriptors new.descriptors old.ends nodes piped.counted);
  there = subst (λ (t : table.Table). AllEnds (record { contents = table.pipes_of t host; next = t.next }) new.descriptors) (sym pipes) (nodes.all_ends (pipes_at old host) piped.there);
}

-- a change of open files that leaves the nodes that they are of
pub sound_nodes : (old new : Fs) (w : World) (caller : Caller) (space pages : List PageView) → Sound (stage old w caller space) → KeepsNodes caller.vpid old.files.descriptors new.files.descriptors → new.files.pipes ≡ old.files.pipes → new.files.ends ≡ old.files.ends → new.tree ≡ old.tree → Sound (stage new w caller pages)
sound_nodes old new w caller space pages sound nodes pipes ends same = record {
  stands = subst (λ t. Stands t w.forest) (sym same) sound.stands;
  is_dir = subst (λ t. IsDir (shape_of t w.forest) caller.cwd) (sym same) sound.is_dir;
  all_in = subst (λ t. AllIn (shape_of t w.forest) new.files.descriptors) (sym same) (nodes.all_in (shape_of old.tree w.forest) sound.all_in);
  enough = λ n. let tree = ap (λ t. holds_of (tree_of t w.forest) n) same in omega (arith, sound.enough n, nodes.counts n);
  piped = piped_nodes caller.vpid old.files new.files w.pipes nodes pipes ends sound.piped;
}

pub others_nodes : (old new : Scene) → old.caller ≡ new.caller → old.tree ≡ new.tree → KeepsNodes old.caller.vpid old.files new.files → KeepsOthers old new
others_nodes old new same tree nodes = record {
  vpid = ap (λ c. c.vpid) (sym same);
  tables = nodes.tables;
  holds = λ n.
      let holds = ap (λ t. holds_of t n) tree in
      let cwd = ap (λ c. one_for n c.cwd) same in
      omega (arith, nodes.counts n);
  files = λ n held is. subst (λ t. IsFile t.shape n) tree is;
  dirs = λ n held is. subst (λ t. IsDir t.shape n) tree is;
  devices = λ n held is. subst (λ t. IsDevice t.shape n) tree is;
}

-- a change of open files and of what they hold
pub sound_held : (old new : Fs) (w v : World) (caller : Caller) (space pages : List PageView) → Sound (stage old w caller space) → IsBacked (at new.files new.tree v) → KeepsHolds caller.vpid (holding (scene (stage old w caller space))) (holding (scene (stage new v caller pages))) → Sound (stage new v caller pages)
sound_held old new w v caller space pages sound backed kept = record {
  stands = backed.stands;
  is_dir = kept.dirs caller.cwd (cwd_more old w caller space sound) sound.is_dir;
  all_in = backed.backs.is_in;
  enough = λ n. omega (arith, sound.enough n, kept.holds n);
  piped = record { stands = backed.pipes; counted = backed.ends; there = backed.backs.ends };
}

pub others_held : (old new : Scene) → old.caller ≡ new.caller → KeepsHolds old.caller.vpid (holding old) (holding new) → KeepsOthers old new
others_held old new same kept = record {
  vpid = ap (λ c. c.vpid) (sym same);
  tables = kept.tables;
  holds = λ n. let cwd = ap (λ c. one_for n c.cwd) same in omega (arith, kept.holds n);
  files = λ n held. kept.files n (omega arith);
  dirs = λ n held. kept.dirs n (omega arith);
  devices = λ n held. kept.devices n (omega arith);
}

-- what is reached after the host was only asked
pub reaches_after : (defined : Reply) (fs : Fs) (w v : World) (caller : Caller) (space : List PageView) (new : Stage) (result : Result Answer HostErr) (before mid now : ℕ) → v ≡ w → before ≤ mid → HasReply defined (stage fs v caller space) new result mid now → HasReply defined (stage fs w caller space) new result before now
reaches_after defined fs w v caller space new result before mid now stays later s = record {
  served = s.served;
  sound = s.sound;
  others = subst (λ x. OnOk result (KeepsOthers (scene (stage fs x caller space)) (scene new))) stays s.others;
  rest = s.rest ∙ ap (λ (x : World). x.pids) stays;
  cause = cause-from before mid now later s.cause;
}

-- a call changed tree and time, and left what is held
pub reaches_kept : (defined : Reply) (old : Fs) (tree : Table) (clock : ℕ) (w v : World) (caller : Caller) (space : List PageView) (answer : Answer) (before now : ℕ)
    → Sound (stage old w caller space) → Stands tree v.forest → KeepsHeld (tree_of old.tree w.forest) (tree_of tree v.forest) → OnlyForest w v → before ≤ now
    → defined ≡ record { next = record (scene (stage old w caller space)) { tree = tree_of tree v.forest; clock = clock }; answer = answer }
    → HasReply defined (stage old w caller space) (stage (record { tree = tree; files = old.files; clock = clock; rand = old.rand; input = old.input }) v caller space) (Ok answer) before now
reaches_kept defined old tree clock w v caller space answer before now sound stands kept rest later is =
    let new : Fs = record { tree = tree; files = old.files; clock = clock; rand = old.rand; input = old.input } in
    record {
      served = is ∙ ap (λ host. record { next = record (scene (stage new v caller space)) { pipes = pipes_at old.files host }; answer = answer }) (sym rest.pipes);
      sound = sound_kept old new w v caller space space sound stands kept refl rest.pipes;
      others = others_kept (scene (stage old w caller space)) (scene (stage new v caller space)) refl refl kept;
      rest = rest.pids;
      cause = record { later = later; rose = λ failed. cc };
    }

-- a call of the tree was done
pub reaches_done : {A : Type 0} (d : TreeAnswer A) (old : Fs) (tree : Table) (clock : ℕ) (w v : World) (caller : Caller) (space : List PageView) (value : A) (before now : ℕ)
    → Sound (stage old w caller space) → Stands tree v.forest → KeepsHeld (tree_of old.tree w.forest) (tree_of tree v.forest) → OnlyForest w v → before ≤ now
    → clock ≡ stamp (scene (stage old w caller space)) → d ≡ tree_answer (tree_of tree v.forest) value
    → HasReply (tree_call_reply (scene (stage old w caller space)) d) (stage old w caller space) (stage (record { tree = tree; files = old.files; clock = clock; rand = old.rand; input = old.input }) v caller space) (Ok (Value 0)) before now
reaches_done d old tree clock w v caller space value before now sound stands kept rest later at is =
    let s = scene (stage old w caller space) in
    reaches_kept (tree_call_reply s d) old tree clock w v caller space (Value 0) before now sound stands kept rest later
    (ap (tree_call_reply s) is ∙ ap (λ ticks. value_reply (record s { tree = tree_of tree v.forest; clock = ticks }) 0) (sym at))

-- a call on open files came to this
pub reaches_held : {A : Type 0} (number : A → ℕ) (o : FilesAnswer A) (old : Fs) (tree : Table) (files : Files) (w v : World) (caller : Caller) (space : List PageView) (found : Result A Errno) (before now : ℕ)
    → Sound (stage old w caller space) → IsBacked (at files tree v) → KeepsHolds caller.vpid (holds.holding_at (at old.files old.tree w)) (holds.holding_at (at files tree v)) → OnlyFiles w v → before ≤ now
    → o ≡ record { answer = found; next = holds.holding_at (at files tree v) }
    → HasReply (files_call_reply number (scene (stage old w caller space)) o) (stage old w caller space) (stage (record { tree = tree; files = files; clock = old.clock; rand = old.rand; input = old.input }) v caller space) (Ok (answer_of number found)) before now
reaches_held number o old tree files w v caller space found before now sound backed kept rest later is =
    let new : Fs = record { tree = tree; files = files; clock = old.clock; rand = old.rand; input = old.input } in
    record {
      served = ap (files_call_reply number (scene (stage old w caller space))) is;
      sound = sound_held old new w v caller space space sound backed kept;
      others = others_held (scene (stage old w caller space)) (scene (stage new v caller space)) refl kept;
      rest = rest;
      cause = record { later = later; rose = λ failed. cc };
    }

-- what others hold is left by two steps, where it is left by each
pub others_both : (old mid new : Scene) → KeepsOthers old mid → KeepsOthers mid new → KeepsOthers old new
others_both old mid new first second = record {
  vpid = second.vpid ∙ first.vpid;
  tables = λ q apart. second.tables q (subst (λ p. q ≢ p) (sym first.vpid) apart) ∙ first.tables q apart;
  holds = λ n. omega (arith, first.holds n, second.holds n);
  files = λ n held is. second.files n (omega (arith, first.holds n)) (first.files n held is);
  dirs = λ n held is. second.dirs n (omega (arith, first.holds n)) (first.dirs n held is);
  devices = λ n held is. second.devices n (omega (arith, first.holds n)) (first.devices n held is);
}

-- what is reached after a first step
pub reaches_next : (defined rest : Reply) (old mid new : Stage) (result : Result Answer HostErr) (before between now : ℕ) → KeepsOthers (scene old) (scene mid) → OnlyFiles old.world mid.world → before ≤ between → defined ≡ rest → HasReply rest mid new result between now → HasReply defined old new result before now
reaches_next defined rest old mid new result before between now first only later same s = record {
  served = by_result result s.served;
  sound = s.sound;
  others = both_of result s.others;
  rest = s.rest ∙ only;
  cause = cause-from before between now later s.cause;
}
  where
    by_result : (result : Result Answer HostErr) → IfOk result (λ answer. rest ≡ record { next = scene new; answer = answer }) → IfOk result (λ answer. defined ≡ record { next = scene new; answer = answer })
    by_result (Ok answer) is = same ∙ is
    by_result (Err error) is = is

    both_of : (result : Result Answer HostErr) → OnOk result (KeepsOthers (scene mid) (scene new)) → OnOk result (KeepsOthers (scene old) (scene new))
    both_of (Ok answer) second = others_both (scene old) (scene mid) (scene new) first second
    both_of (Err error) second = second

-- what is reached is defined in other words
pub reaches_same : (defined other : Reply) (old new : Stage) (result : Result Answer HostErr) (before now : ℕ) → defined ≡ other → HasReply other old new result before now → HasReply defined old new result before now
reaches_same defined other old new result before now same s =
    subst (λ row. HasReply row old new result before now) (sym same) s

-- a row that is served after the host was only asked
pub serves_after : (row : List ℕ → Scene → Reply) (args : List ℕ) (fs : Fs) (w v : World) (caller : Caller) (space : List PageView) (new : Stage) (result : Result Answer HostErr) (before mid now : ℕ) → v ≡ w → before ≤ mid → HasRowReply row args (stage fs v caller space) new result mid now → HasRowReply row args (stage fs w caller space) new result before now
serves_after row args fs w v caller space new result before mid now stays later s =
    reaches_after (row args (scene (stage fs w caller space))) fs w v caller space new result before mid now stays later
    (subst (λ x. HasReply (row args (scene (stage fs x caller space))) (stage fs v caller space) new result mid now) stays s)

-- what is left of a row and is served after the host was only asked
pub ends_after : (row : Scene → Reply) (fs : Fs) (w v : World) (caller : Caller) (space : List PageView) (new : Stage) (result : Result Answer HostErr) (before mid now : ℕ) → v ≡ w → before ≤ mid → HasReplyOf row (stage fs v caller space) new result mid now → HasReplyOf row (stage fs w caller space) new result before now
ends_after row fs w v caller space new result before mid now stays later s =
    serves_after (λ _. row) [] fs w v caller space new result before mid now stays later s

pub ruleset after_asking = (serves_after, ends_after)

-- what is reached by a change of the process alone, which leaves its pid and its working directory
pub reaches_caller : (defined : Reply) (fs : Fs) (w : World) (old new : Caller) (space : List PageView) (answer : Answer) (count : ℕ) → Sound (stage fs w old space) → new.cwd ≡ old.cwd → new.vpid ≡ old.vpid → defined ≡ record { next = record (scene (stage fs w old space)) { caller = new }; answer = answer } → HasReply defined (stage fs w old space) (stage fs w new space) (Ok answer) count count
reaches_caller defined fs w old new space answer count sound same vpid is = record {
  served = is;
  sound = record {
    stands = sound.stands;
    is_dir = subst (IsDir (shape_of fs.tree w.forest)) (sym same) sound.is_dir;
    all_in = sound.all_in;
    enough = λ n. let cwd = ap (one_for n) same in omega (arith, sound.enough n);
    piped = sound.piped;
  };
  others = record {
    vpid = vpid;
    tables = λ q apart. refl;
    holds = λ n. let cwd = ap (one_for n) same in omega arith;
    files = λ n held is. is;
    dirs = λ n held is. is;
    devices = λ n held is. is;
  };
  rest = refl;
  cause = record { later = omega arith; rose = λ failed. cc };
}

pub ruleset in_other_words = (reaches_same, reaches_caller)
