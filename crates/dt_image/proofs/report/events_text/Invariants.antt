use Rattle.std.proofs.Common.{◌≡◌, ◌++◌, drop}
use Rattle.dt_image.specs.Report.{events_text}
use Rattle.dt_image.proofs.report.events_text.Given as goal

abbrev pub invariant-loop-event : goal.invariant-loop-event
invariant-loop-event l = l.text.items ++ events_text (drop l.event-index l.events) ≡ events_text l.events
