-- Reads and writes of pipes, as the calls serve them.
use Rattle.std.proofs.Common.{arith, ◌≡◌, ℕ, ◌≤◌, ◌==◌, ◌++◌, false, List, [], ◌∷◌, length, take, drop, Option, None, Some, Result, Ok, Err, refl, sym, ap, subst, ◌∙◌}
use Rattle.std.specs.Prelude.{Bool, IfOk, IfSome, IsOk, min, option_map, unwrap_or, if◌then◌else◌}
use Rattle.std.proofs.lemmas.List.{take_min, length-take, drop_all, append-nil}
use Rattle.dt_base.proofs.Lists.{none-taken}
use Rattle.dt_base.specs.declared.answer.Answer.{Answer}
use Rattle.dt_base.specs.declared.caller.Caller.{Caller}
use Rattle.dt_base.specs.declared.errno.Errno.{Errno}
use Rattle.dt_base.specs.declared.errno.Errno.TheVariants.{Fault as BadAddress}
use Rattle.dt_fds.specs.declared.desc.Desc.{Desc}
use Rattle.dt_fds.specs.declared.desc.DescKind.{DescKind}
use Rattle.dt_fds.specs.declared.desc.DescKind.TheVariants.{File, Dir, Device, PipeRead, PipeWrite, Input, Stream}
use Rattle.dt_fds.specs.declared.files.Files.{Files}
use Rattle.dt_fds.specs.declared.flow.Flow.{Flow}
use Rattle.dt_fds.specs.declared.flow.Flow.TheVariants.{Moved}
use Rattle.dt_fds.specs.Backs as holds
use Rattle.dt_fds.specs.Backs.{IsFilesAnswer, IsBacked, KeepsOthers as KeepsHolds, HasFilesAnswer, OnlyFiles, at}
use Rattle.dt_fds.specs.Descriptions.{description_at, pipe_of, read_pipe, table_at, two_free, write_pipe, writers}
use Rattle.dt_fds.specs.Holding.{Holding, FilesAnswer, files_answer, read_of_content, read_from_pipe, read_by_description, pipe_content_by, pipe_read_call, bytes_read, pipe_ends_reply, with_pipe_ends, pipe_call}
use Rattle.dt_fds.proofs.Piped.{no_zero}
use Rattle.dt_fds.specs.Pipes.{PipesView, pipe_content, pipe_content_at, with_pipe_content as now_holds, empty_read_flow}
use Rattle.dt_host.specs.World.{World}
use Rattle.dt_host.specs.declared.error.HostErr.{HostErr}
use Rattle.dt_host.specs.declared.error.HostErr.TheVariants.{Failed, NoMemory}
use Rattle.dt_host.specs.declared.error.CallErr.{CallErr}
use Rattle.dt_host.specs.declared.error.CallErr.TheVariants.{Errno as is_refused, Host as has_failed}
use Rattle.dt_space.specs.declared.access.Miss.{Miss}
use Rattle.dt_space.specs.Space.{PageView}
use Rattle.dt_tree.specs.Table.{Table}
use Rattle.dt_callbase.specs.declared.fs.Fs.{Fs}
use Rattle.dt_callbase.specs.Scene as scenes
use Rattle.dt_callbase.specs.Scene.{Scene, Reply, value_reply, refused_reply, with_holding}
use Rattle.dt_callbase.specs.Sound.{Stage, Sound, HasReply, stage, scene}
use Rattle.dt_callbase.proofs.Kept.{sound_held, others_held}
use Rattle.dt_iocalls.specs.declared.ranges.Range.{Range}
use Rattle.dt_iocalls.specs.Piping.{flow_answer, flow_reply}
use Rattle.dt_iocalls.specs.Ranges.{total_len, gathered_bytes, scattered_pages}
use Rattle.dt_iocalls.specs.Writing.{on_bytes}
use Rattle.dt_iocalls.specs.Reading.{pipe_fill_reply, pipe_read_reply}
use Rattle.dt_iocalls.specs.inner.Answered.{pipe_answer}

-- a call changed open files, pipes and pages, and left what others hold
pub reaches_backed : (defined : Reply) (old : Fs) (tree : Table) (files : Files) (w v : World) (caller : Caller) (space pages : List PageView) (answer : Answer) (before now : ℕ)
    → Sound (stage old w caller space) → IsBacked (at files tree v) → KeepsHolds caller.vpid (holds.holding_at (at old.files old.tree w)) (holds.holding_at (at files tree v)) → OnlyFiles w v → before ≤ now
    → defined ≡ record { next = with_holding (holds.holding_at (at files tree v)) (record (scene (stage old w caller space)) { space = pages }); answer = answer }
    → HasReply defined (stage old w caller space) (stage (record { tree = tree; files = files; clock = old.clock; rand = old.rand; input = old.input }) v caller pages) (Ok answer) before now
reaches_backed defined old tree files w v caller space pages answer before now sound backed kept rest later is =
    let new : Fs = record { tree = tree; files = files; clock = old.clock; rand = old.rand; input = old.input } in
    record {
      served = is;
      sound = sound_held old new w v caller space pages sound backed kept;
      others = others_held (scene (stage old w caller space)) (scene (stage new v caller pages)) refl kept;
      rest = rest;
      cause = record { later = later; rose = λ failed. cc };
    }

-- nothing changed
pub reaches_still : (defined : Reply) (g : Stage) (answer : Answer) (before now : ℕ) → Sound g → before ≤ now → defined ≡ record { next = scene g; answer = answer } → HasReply defined g g (Ok answer) before now
reaches_still defined g answer before now sound later is = record {
  served = is;
  sound = sound;
  others = record { vpid = refl; tables = λ q apart. refl; holds = λ n. refl; files = λ n held is. is; dirs = λ n held is. is; devices = λ n held is. is };
  rest = refl;
  cause = record { later = later; rose = λ failed. cc };
}

-- how much the pipe holds of which a description is an end that is read from
held-kind : (pipes : PipesView) (kind : DescKind) → write_pipe kind ≡ None → length (unwrap_or (option_map (pipe_content pipes) (pipe_of kind)) []) ≡ length (unwrap_or (option_map (pipe_content pipes) (read_pipe kind)) [])
held-kind pipes (File n) reads = refl
held-kind pipes (Dir n) reads = refl
held-kind pipes (Device n) reads = refl
held-kind pipes (PipeRead q) reads = refl
held-kind pipes (PipeWrite q) reads = absurd cc
held-kind pipes Input reads = refl
held-kind pipes (Stream stream) reads = refl

held-same : (h : Holding) (found : Option Desc) (held : ℕ) → IfSome found (λ desc. write_pipe desc.kind ≡ None) → held ≡ length (pipe_content_at h.pipes found) → held ≡ length (pipe_content_by h found)
held-same h None held reads count = count
held-same h (Some desc) held reads count = count ∙ held-kind h.pipes desc.kind reads

-- a read of no more than a pipe holds is one of all that
fewer : (most held : ℕ) (bytes : List ℕ) → held ≡ length bytes → min (min held most) (length bytes) ≡ min most (length bytes)
fewer most held bytes count = omega (arith, count)

read-fewer : (h : Holding) (nonblock : Bool) (most held : ℕ) (pipe : Option ℕ) → held ≡ length (unwrap_or (option_map (pipe_content h.pipes) pipe) []) → read_from_pipe h nonblock (min held most) pipe ≡ read_from_pipe h nonblock most pipe
read-fewer h nonblock most held None count = refl
read-fewer h nonblock most held (Some q) count =
    let bytes = pipe_content h.pipes q in
    ap (λ n. if length bytes == 0 then record { answer = empty_read_flow (writers h.files q) nonblock; next = h } else files_answer (record h { pipes = now_holds h.pipes q (drop n bytes) }) (Moved n)) (fewer most held bytes count)

by-fewer : (h : Holding) (most held : ℕ) (found : Option Desc) → held ≡ length (pipe_content_by h found) → read_by_description h (min held most) found ≡ read_by_description h most found
by-fewer h most held None count = refl
by-fewer h most held (Some desc) count = read-fewer h desc.nonblock most held (read_pipe desc.kind) count

module _ (h : Holding) (p fd most held : ℕ) (reads : IfSome (description_at h.files p fd) (λ desc. write_pipe desc.kind ≡ None)) (count : held ≡ length (pipe_content_at h.pipes (description_at h.files p fd))) where
  pub call-fewer : pipe_read_call p fd (min held most) h ≡ pipe_read_call p fd most h
  unfolding pipe_read_call
  call-fewer = by-fewer h most held (description_at h.files p fd) (held-same h (description_at h.files p fd) held reads count)

  pub bytes-fewer : bytes_read p fd (min held most) h ≡ bytes_read p fd most h
  unfolding bytes_read
  bytes-fewer =
      let bytes = pipe_content_by h (description_at h.files p fd) in
      ap (λ n. take n bytes) (least (held-same h (description_at h.files p fd) held reads count)) ∙ take_min most bytes
    where
      least : held ≡ length (pipe_content_by h (description_at h.files p fd)) → min held most ≡ min most (length (pipe_content_by h (description_at h.files p fd)))
      least is = omega (arith, is)

  pub length-fewer : length (bytes_read p fd most h) ≡ min held most
  unfolding bytes_read
  length-fewer =
      let bytes = pipe_content_by h (description_at h.files p fd) in
      length-take most bytes ∙ least (held-same h (description_at h.files p fd) held reads count)
    where
      least : held ≡ length (pipe_content_by h (description_at h.files p fd)) → min most (length (pipe_content_by h (description_at h.files p fd))) ≡ min held most
      least is = omega (arith, is)

-- a buffer that is filled has what came
pub whole-buffer : (came before after : List ℕ) → length before ≡ length came → after ≡ came ++ drop (length came) before → after ≡ came
whole-buffer came before after same is = is ∙ ap (λ rest. came ++ rest) (drop_all (length came) before (omega (arith, same))) ∙ append-nil came

-- where a read is refused nothing comes
refused-of : (h : Holding) (q : ℕ) (nonblock : Bool) (most n : ℕ) (bytes : List ℕ) (errno : Errno) (next : Holding) → read_of_content h q nonblock most bytes ≡ record { answer = Err errno; next = next } → take n bytes ≡ []
refused-of h q nonblock most n [] errno next is = none-taken n
refused-of h q nonblock most n (b ∷ bytes) errno next is =
    let count = length (b ∷ bytes) in
    let some : (count == 0) ≡ false = no_zero count (λ none. omega (arith, none)) in
    let answer = sym (ap (λ none. (if none then record { answer = empty_read_flow (writers h.files q) nonblock; next = h } else files_answer (record h { pipes = now_holds h.pipes q (drop (min most count) (b ∷ bytes)) }) (Moved (min most count))).answer) some) ∙ ap (λ (o : FilesAnswer Flow). o.answer) is in
    absurd cc

refused-from : (h : Holding) (nonblock : Bool) (most n : ℕ) (pipe : Option ℕ) (errno : Errno) (next : Holding) → read_from_pipe h nonblock most pipe ≡ record { answer = Err errno; next = next } → take n (unwrap_or (option_map (pipe_content h.pipes) pipe) []) ≡ []
refused-from h nonblock most n None errno next is = none-taken n
refused-from h nonblock most n (Some q) errno next is = refused-of h q nonblock most n (pipe_content h.pipes q) errno next is

refused-by : (h : Holding) (most n : ℕ) (found : Option Desc) (errno : Errno) (next : Holding) → read_by_description h most found ≡ record { answer = Err errno; next = next } → take n (pipe_content_by h found) ≡ []
refused-by h most n None errno next is = none-taken n
refused-by h most n (Some desc) errno next is = refused-from h desc.nonblock most n (read_pipe desc.kind) errno next is

pub refused-none : (p fd most n : ℕ) (h : Holding) (errno : Errno) (next : Holding) → pipe_read_call p fd most h ≡ record { answer = Err errno; next = next } → bytes_read p fd n h ≡ []
unfolding pipe_read_call bytes_read
refused-none p fd most n h errno next is = refused-by h most n (description_at h.files p fd) errno next is

-- a pipe is read that brings these bytes
pub read-done : (fd : ℕ) (ranges : List Range) (s : Scene) (o : FilesAnswer Flow) (bytes : List ℕ) (pages : List PageView) → (total_len ranges == 0) ≡ false → pipe_read_call s.caller.vpid fd (total_len ranges) (scenes.holding s) ≡ o → bytes_read s.caller.vpid fd (total_len ranges) (scenes.holding s) ≡ bytes → scattered_pages s.space ranges bytes ≡ Ok pages → pipe_read_reply fd ranges s ≡ flow_reply (record s { space = pages }) o
unfolding pipe_read_reply
read-done fd ranges s o bytes pages some call came put =
    let h = scenes.holding s in
    let p = s.caller.vpid in
    let most = total_len ranges in
    ap (λ none. if none then value_reply s 0 else pipe_fill_reply s (pipe_read_call p fd most h) (scattered_pages s.space ranges (bytes_read p fd most h))) some
    ∙ (λ i. pipe_fill_reply s (call i) (scattered_pages s.space ranges (came i)))
    ∙ ap (pipe_fill_reply s o) put

pub read-missed : (fd : ℕ) (ranges : List Range) (s : Scene) (miss : Miss) → (total_len ranges == 0) ≡ false → scattered_pages s.space ranges (bytes_read s.caller.vpid fd (total_len ranges) (scenes.holding s)) ≡ Err miss → pipe_read_reply fd ranges s ≡ refused_reply s BadAddress
unfolding pipe_read_reply
read-missed fd ranges s miss some put =
    let h = scenes.holding s in
    let p = s.caller.vpid in
    let most = total_len ranges in
    ap (λ none. if none then value_reply s 0 else pipe_fill_reply s (pipe_read_call p fd most h) (scattered_pages s.space ranges (bytes_read p fd most h))) some
    ∙ ap (pipe_fill_reply s (pipe_read_call p fd most h)) put

-- two descriptors are free, so that a pipe is made
no-refusal-by : (h : Holding) (p flags : ℕ) (ends : ℕ × ℕ) (found : Option (ℕ × ℕ)) (errno : Errno) (next : Holding) → found ≡ Some ends → pipe_ends_reply h p flags found ≡ record { answer = Err errno; next = next } → ⊥
no-refusal-by h p flags ends None errno next free is = cc
no-refusal-by h p flags ends (Some others) errno next free is = let answer = ap (λ o. o.answer) is in cc

pub no-refusal : (p flags : ℕ) (h : Holding) (ends : ℕ × ℕ) (new : Holding) (r : Result (ℕ × ℕ) CallErr) (errno : Errno) → two_free (table_at h.files p) ≡ Some ends → IsFilesAnswer r new (pipe_call p flags h) → r ≡ Err (is_refused errno) → ⊥
unfolding pipe_call
no-refusal p flags h ends new (Ok value) errno free does is = cc
no-refusal p flags h ends new (Err (is_refused other)) errno free does is = no-refusal-by h p flags ends (two_free (table_at h.files p)) other new free does
no-refusal p flags h ends new (Err (has_failed error)) errno free does is = cc

made-by : (h : Holding) (p flags : ℕ) (ends value : ℕ × ℕ) (found : Option (ℕ × ℕ)) (next : Holding) → found ≡ Some ends → pipe_ends_reply h p flags found ≡ record { answer = Ok value; next = next } → with_pipe_ends h p flags ends.0 ends.1 ≡ next
made-by h p flags ends value None next free is = absurd cc
made-by h p flags ends value (Some others) next free is =
    let same : others ≡ ends = cc in
    ap (λ (e : ℕ × ℕ). with_pipe_ends h p flags e.0 e.1) (sym same) ∙ ap (λ o. o.next) is

pub made-pipe : (p flags : ℕ) (h : Holding) (ends : ℕ × ℕ) (new : Holding) (r : Result (ℕ × ℕ) CallErr) (value : ℕ × ℕ) → two_free (table_at h.files p) ≡ Some ends → IsFilesAnswer r new (pipe_call p flags h) → r ≡ Ok value → with_pipe_ends h p flags ends.0 ends.1 ≡ new
unfolding pipe_call
made-pipe p flags h ends new (Ok other) value free does is = made-by h p flags ends other (two_free (table_at h.files p)) new free does
made-pipe p flags h ends new (Err error) value free does is = absurd cc

-- a read or a write of a pipe was made, and the process has these pages then
pub reaches_made : (old : Fs) (files : Files) (w v : World) (caller : Caller) (space pages : List PageView) (call : Holding → FilesAnswer Flow) (r : Result Flow CallErr) (answer : Answer) (before now : ℕ)
    → Sound (stage old w caller space) → HasFilesAnswer caller.vpid call (at old.files old.tree w) (at files old.tree v) r before now → pipe_answer r ≡ Ok answer
    → HasReply (flow_reply (record (scene (stage old w caller space)) { space = pages }) (call (holds.holding_at (at old.files old.tree w)))) (stage old w caller space) (stage (record { tree = old.tree; files = files; clock = old.clock; rand = old.rand; input = old.input }) v caller pages) (Ok answer) before now
reaches_made old files w v caller space pages call (Ok flow) answer before now sound makes is =
    let s = record (scene (stage old w caller space)) { space = pages } in
    let h = holds.holding_at (at old.files old.tree w) in
    let new = holds.holding_at (at files old.tree v) in
    let same : flow_answer (Ok flow) ≡ answer = cc in
    reaches_backed (flow_reply s (call h)) old old.tree files w v caller space pages answer before now sound makes.backed makes.others makes.rest makes.cause.later
    (ap (flow_reply s) makes.made ∙ ap (λ a. record { next = with_holding new s; answer = a }) same)
reaches_made old files w v caller space pages call (Err (is_refused errno)) answer before now sound makes is =
    let s = record (scene (stage old w caller space)) { space = pages } in
    let h = holds.holding_at (at old.files old.tree w) in
    let new = holds.holding_at (at files old.tree v) in
    let same : flow_answer (Err errno) ≡ answer = cc in
    reaches_backed (flow_reply s (call h)) old old.tree files w v caller space pages answer before now sound makes.backed makes.others makes.rest makes.cause.later
    (ap (flow_reply s) makes.made ∙ ap (λ a. record { next = with_holding new s; answer = a }) same)
reaches_made old files w v caller space pages call (Err (has_failed error)) answer before now sound makes is = absurd cc

-- the same, also where the host failed
module _ (old : Fs) (files : Files) (w v : World) (caller : Caller) (space : List PageView) (call : Holding → FilesAnswer Flow) (before now : ℕ) (sound : Sound (stage old w caller space)) where
  abbrev FlowsTo : Result Answer HostErr → Type 0
  FlowsTo result = HasReply (flow_reply (scene (stage old w caller space)) (call (holds.holding_at (at old.files old.tree w)))) (stage old w caller space) (stage (record { tree = old.tree; files = files; clock = old.clock; rand = old.rand; input = old.input }) v caller space) result before now

  by-result : (r : Result Flow CallErr) → HasFilesAnswer caller.vpid call (at old.files old.tree w) (at files old.tree v) r before now → FlowsTo (pipe_answer r)
  by-result (Ok flow) makes = reaches_made old files w v caller space space call (Ok flow) (flow_answer (Ok flow)) before now sound makes refl
  by-result (Err (is_refused errno)) makes = reaches_made old files w v caller space space call (Err (is_refused errno)) (flow_answer (Err errno)) before now sound makes refl
  by-result (Err (has_failed Failed)) makes = record { served = tt; sound = tt; others = tt; rest = makes.rest; cause = record { later = makes.cause.later; rose = λ failed. makes.cause.rose tt } }
  by-result (Err (has_failed NoMemory)) makes = record { served = tt; sound = tt; others = tt; rest = makes.rest; cause = record { later = makes.cause.later; rose = λ failed. absurd cc } }

  pub reaches_flow : (r : Result Flow CallErr) (result : Result Answer HostErr) → HasFilesAnswer caller.vpid call (at old.files old.tree w) (at files old.tree v) r before now → result ≡ pipe_answer r → FlowsTo result
  reaches_flow r result makes is = subst FlowsTo (sym is) (by-result r makes)

-- a row for the bytes of ranges that may be read
pub reaches_gathered : (row : List ℕ → Reply) (s : Scene) (ranges : List Range) (old new : Stage) (result : Result Answer HostErr) (before now : ℕ) → IsOk (gathered_bytes s.space ranges) → ((bytes : List ℕ) → gathered_bytes s.space ranges ≡ Ok bytes → HasReply (row bytes) old new result before now) → HasReply (on_bytes s (gathered_bytes s.space ranges) row) old new result before now
reaches_gathered row s ranges old new result before now ok reaches = by-found (gathered_bytes s.space ranges) refl ok
  where
    by-found : (found : Result (List ℕ) Miss) → gathered_bytes s.space ranges ≡ found → IsOk found → HasReply (on_bytes s found row) old new result before now
    by-found (Ok bytes) is ok = reaches bytes is
    by-found (Err miss) is ok = absurd cc

-- a buffer that takes as much as comes from a pipe has just that then
pub came-whole : (p fd most held : ℕ) (h new : Holding) (before after : List ℕ) (r : Result Flow CallErr) (answer : Answer) → IfSome (description_at h.files p fd) (λ desc. write_pipe desc.kind ≡ None) → held ≡ length (pipe_content_at h.pipes (description_at h.files p fd)) → length before ≡ min held most → pipe_answer r ≡ Ok answer → IsFilesAnswer r new (pipe_read_call p fd (length before) h) → IfOk r (λ _. after ≡ bytes_read p fd (length before) h ++ drop (length (bytes_read p fd (length before) h)) before) → ((errno : Errno) → r ≡ Err (is_refused errno) → after ≡ before) → after ≡ bytes_read p fd most h
came-whole p fd most held h new before after (Ok flow) answer reads count size is does came kept =
    let same : bytes_read p fd (length before) h ≡ bytes_read p fd most h = ap (λ n. bytes_read p fd n h) size ∙ bytes-fewer h p fd most held reads count in
    whole-buffer (bytes_read p fd most h) before after (size ∙ sym (length-fewer h p fd most held reads count))
    (came ∙ ap (λ (bytes : List ℕ). bytes ++ drop (length bytes) before) same)
came-whole p fd most held h new before after (Err (is_refused errno)) answer reads count size is does came kept =
    let none : bytes_read p fd most h ≡ [] = refused-none p fd (length before) most h errno new does in
    kept errno refl ∙ empty-list before (size ∙ sym (length-fewer h p fd most held reads count) ∙ ap length none) ∙ sym none
  where
    empty-list : (xs : List ℕ) → length xs ≡ 0 → xs ≡ []
    empty-list [] e = refl
    empty-list (x ∷ xs) e = absurd (omega (arith, e))
came-whole p fd most held h new before after (Err (has_failed error)) answer reads count size is does came kept = absurd cc
