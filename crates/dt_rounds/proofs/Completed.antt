-- The run of an image from its beginning to its report.
use Rattle.std.proofs.Common.{◌≡◌, ℕ, List, ◌++◌, Option, Some, Result, Ok, Err, sym, ap, subst, ◌∙◌, append_assoc}
use Rattle.std.specs.Prelude.{IfOk, IfSome, OnOk}
use Rattle.dt_base.specs.Image.{ImageParts}
use Rattle.dt_base.specs.declared.event.Verdict.{Verdict}
use Rattle.dt_base.specs.declared.limits.TheConstants.{FIRST_PID}
use Rattle.dt_base.specs.Command.{Words}
use Rattle.dt_host.specs.Sink.{added, AddsPart}
use Rattle.dt_host.specs.World.{World}
use Rattle.dt_host.proofs.Growth.{added-added}
use Rattle.dt_image.specs.Report.{header, events_text}
use Rattle.dt_procs.specs.Members.{end_of}
use Rattle.dt_procs.specs.Table.{members_of}
use Rattle.dt_tree.specs.FileTree.{FileTree}
use Rattle.dt_tree.specs.Table.{Table, Stands, tree_of}
use Rattle.dt_calls.specs.Container.{Shared}
use Rattle.dt_calls.specs.InCode.{shared_of}
use Rattle.dt_calls.specs.Sound.{IsSoundContainer}
use Rattle.dt_engine.specs.HoldsTree.{HoldsTree}
use Rattle.dt_engine.specs.Run.{Run, run_of, status_by, report_of}
use Rattle.dt_engine.specs.Completed.{Completes}
use Rattle.dt_engine.specs.Playing.{Playing, first_playing, last_text}
use Rattle.dt_engine.specs.InPlay.{EngineView}
use Rattle.dt_engine.specs.Onward.{left_of, IsDone}
use Rattle.dt_engine.proofs.Happened.{adds_within, adds_after}
use Rattle.dt_engine.proofs.Holding.{holds_tree}
use Rattle.dt_engine.proofs.Returns.{rest-at-first}

-- what is left at first is the run of the image
pub run-is : (image : ImageParts) (words : Words) (seed budget : ℕ) (e : Playing) → first_playing image words seed budget ≡ e
    → left_of e ≡ run_of image words seed budget
run-is image words seed budget e is = ap left_of (sym is) ∙ rest-at-first image words seed budget

-- the host holds the last tree of a run, as its nodes stand for it
pub holds_last : (t : Table) (w now : World) (last : FileTree) → now ≡ w → last ≡ tree_of t w.forest → Stands t w.forest → HoldsTree now last
holds_last t w now last same is stands =
    subst (λ u. HoldsTree u last) (sym same) (subst (HoldsTree w) (sym is) (holds_tree t w stands))

-- what was written of a report whose first line was
module _ (version : ℕ) (r : Run) (start first : Option (List ℕ)) (begun : first ≡ added start (header version)) where
  pub part-going : (told : Option (List ℕ)) → AddsPart first told (events_text r.events) → AddsPart start told (report_of version r)
  part-going told part =
      adds_after start first told (header version) _ begun (adds_within first told (events_text r.events) (last_text r.verdict r.last) part)

  pub part-last : (told new : Option (List ℕ)) → told ≡ added first (events_text r.events)
      → AddsPart told new (last_text r.verdict r.last) → AddsPart start new (report_of version r)
  part-last told new wrote part =
      adds_after start first new (header version) _ begun (adds_after first told new (events_text r.events) (last_text r.verdict r.last) wrote part)

  wrote-all : (told new : Option (List ℕ)) → told ≡ added first (events_text r.events) → new ≡ added told (last_text r.verdict r.last)
      → new ≡ added start (report_of version r)
  wrote-all told new wrote last =
      last
      ∙ ap (λ told. added told (last_text r.verdict r.last)) (wrote ∙ ap (λ told. added told (events_text r.events)) begun)
      ∙ ap (λ told. added told (last_text r.verdict r.last)) (added-added start (header version) (events_text r.events))
      ∙ added-added start (header version ++ events_text r.events) (last_text r.verdict r.last)
      ∙ ap (added start) (append_assoc (header version) (events_text r.events) (last_text r.verdict r.last))

-- a part of the first line is a part of the report
pub part-begun : (version : ℕ) (r : Run) (start told : Option (List ℕ)) → AddsPart start told (header version) → AddsPart start told (report_of version r)
part-begun version r start told part = adds_within start told (header version) _ part

-- what is said of a verdict that stands
at-verdict : (P : Verdict → Type 0) (v : Option Verdict) (verdict : Verdict) → v ≡ Some verdict → IfSome v P → P verdict
at-verdict P v verdict is h = subst (λ v. IfSome v P) is h

-- a run that is over
module _ (version : ℕ) (r : Run) (start first told : Option (List ℕ)) (e : EngineView) (w : World) (begun : first ≡ added start (header version))
    (done : IsDone r first e w told) where
  last-so : (P : Verdict → Shared → Type 0) → IfSome e.verdict (λ v. P v (shared_of e.state.container.shared w)) → P r.verdict r.last
  last-so P h =
      subst (P r.verdict) (sym done.last) (at-verdict (λ v. P v (shared_of e.state.container.shared w)) e.verdict r.verdict done.verdict h)

  pub part-finished : (new : Option (List ℕ))
      → IfSome e.verdict (λ v. AddsPart told new (last_text v (shared_of e.state.container.shared w)))
      → AddsPart start new (report_of version r)
  part-finished new part = part-last version r start first begun told new done.wrote (last-so (λ v c. AddsPart told new (last_text v c)) part)

  pub finished : (now : World) (new : Option (List ℕ)) (status : ℕ) → now ≡ w → IsSoundContainer e.state.container w
      → status ≡ status_by (end_of (members_of e.state.container.shared.pids) FIRST_PID)
      → IfSome e.verdict (λ v. new ≡ added told (last_text v (shared_of e.state.container.shared w)))
      → Completes version r status start new now
  finished now new status same sound ends wrote = record {
    status = ends ∙ sym (ap (λ (c : Shared). status_by (end_of c.members FIRST_PID)) done.last);
    report = wrote-all version r start first begun told new done.wrote (last-so (λ v c. new ≡ added told (last_text v c)) wrote);
    tree = holds_last _ w now _ same (ap (λ (c : Shared). c.tree) done.last) sound.shared.stands;
  }

  pub completed : {E : Type 0} → (answer : Result ℕ E) (now : World) (new : Option (List ℕ)) → now ≡ w → IsSoundContainer e.state.container w
      → IfOk answer (λ status. status ≡ status_by (end_of (members_of e.state.container.shared.pids) FIRST_PID))
      → OnOk answer (IfSome e.verdict (λ v. new ≡ added told (last_text v (shared_of e.state.container.shared w))))
      → IfOk answer (λ status. Completes version r status start new now)
  completed (Ok status) now new same sound ends wrote = finished now new status same sound ends wrote
  completed (Err e) now new same sound ends wrote = tt
