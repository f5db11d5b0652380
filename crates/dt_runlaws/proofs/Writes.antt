-- What was written of a report, at a fault too, is a prefix of it.
use Rattle.std.proofs.Common.{◌≡◌, ℕ, List, [], ◌++◌, take, drop, Option, sym, ap, subst, ◌∙◌, append-nil, append_assoc}
use Rattle.std.proofs.lemmas.List.{take-append-drop}
use Rattle.dt_base.specs.declared.event.Event.{Event}
use Rattle.dt_host.specs.Sink.{added, AddsPart}
use Rattle.dt_host.proofs.Growth.{added-added, adds_all}
use Rattle.dt_image.specs.Report.{header, events_text}
use Rattle.dt_engine.specs.Run.{Run, report_of}
use Rattle.dt_engine.specs.Playing.{Playing, last_text}
use Rattle.dt_engine.specs.Admission.{admission}
use Rattle.dt_engine.specs.Played.{played}
use Rattle.dt_engine.proofs.Going.{texts-append}
use Rattle.dt_engine.proofs.Happened.{adds_within}
use Rattle.dt_runlaws.specs.Shown.{Lent, left_with_lent, Shows, HasWritten, WritesPrefix}
use Rattle.dt_runlaws.specs.Carried.{VerdictReports, BeginWrites, ShownIsPrefix, AdmissionWrites, HappeningsWrite, EndWrites, PrefixIsPart}
use Rattle.dt_runlaws.proofs.Carries.{admission-shows, happenings-show, verdict-shows}

-- the text of what is left
abbrev text_left : Run → List ℕ
text_left r = events_text r.events ++ last_text r.verdict r.last

-- a report is what was shown, and what is left
report-shown : (version : ℕ) (all : Run) (shown : List Event) (e : Playing) (lent : Lent) → Shows all shown e lent
    → report_of version all ≡ header version ++ (events_text shown ++ text_left (left_with_lent e lent))
report-shown version all shown e lent h =
    let r = left_with_lent e lent in
    ap (report_of version) h.whole
    ∙ ap (λ text. header version ++ (text ++ last_text r.verdict r.last)) (texts-append shown r.events)
    ∙ ap (λ text. header version ++ text) (append_assoc (events_text shown) (events_text r.events) (last_text r.verdict r.last))

report-more : (version : ℕ) (all : Run) (shown more : List Event) (next : Playing) (lent : Lent) → Shows all (shown ++ more) next lent
    → report_of version all ≡ header version ++ (events_text shown ++ (events_text more ++ text_left (left_with_lent next lent)))
report-more version all shown more next lent h =
    let left = text_left (left_with_lent next lent) in
    report-shown version all (shown ++ more) next lent h
    ∙ ap (λ text. header version ++ (text ++ left)) (texts-append shown more)
    ∙ ap (λ text. header version ++ text) (append_assoc (events_text shown) (events_text more) left)

-- a part of the text that comes next
writes-part : (version : ℕ) (all : Run) (shown : List Event) (text rest : List ℕ) (start told new : Option (List ℕ))
    → report_of version all ≡ header version ++ (events_text shown ++ (text ++ rest)) → HasWritten version shown start told → AddsPart told new text
    → WritesPrefix version all shown start new
writes-part version all shown text rest start told new report written part = record {
  more = take part.count text;
  rest = drop part.count text ++ rest;
  wrote = part.prefix
      ∙ ap (λ told. added told (take part.count text)) written
      ∙ added-added start (header version ++ events_text shown) (take part.count text)
      ∙ ap (added start) (append_assoc (header version) (events_text shown) (take part.count text));
  whole = report
      ∙ ap (λ text. header version ++ (events_text shown ++ text))
      (ap (λ text. text ++ rest) (sym (take-append-drop part.count text))
      ∙ append_assoc (take part.count text) (drop part.count text) rest);
}

pub verdict-reports : VerdictReports
verdict-reports version all shown e lent v h stands = ap (report_of version) (verdict-shows all shown e lent v h stands)

pub begin-writes : BeginWrites
begin-writes version all start told part = adds_within start told (header version) _ part

pub nothing-writes : ShownIsPrefix
nothing-writes version all shown e lent start told h written = record {
  more = [];
  rest = text_left (left_with_lent e lent);
  wrote = written ∙ ap (λ text. added start (header version ++ text)) (sym (append-nil (events_text shown)));
  whole = report-shown version all shown e lent h;
}

pub admission-writes : AdmissionWrites
admission-writes version all shown e lent start told new h written part =
    let a = admission e in
    writes-part version all shown (events_text a.events) (text_left (left_with_lent a.next lent)) start told new
    (report-more version all shown a.events a.next lent (admission-shows all shown e lent h)) written part

pub happenings-write : HappeningsWrite
happenings-write version all shown e hs start told new h written part =
    let d = played e hs in
    writes-part version all shown (events_text d.step.events) (text_left (left_with_lent d.step.next [])) start told new
    (report-more version all shown d.step.events d.step.next [] (happenings-show all shown e hs h)) written part

pub end-writes : EndWrites
end-writes version all shown e lent v start told new h written stands part =
    writes-part version all shown (last_text v e.state.shared) [] start told new
    (verdict-reports version all shown e lent v h stands
    ∙ ap (λ text. header version ++ (events_text shown ++ text)) (sym (append-nil (last_text v e.state.shared))))
    written part

-- all bytes that were added are a part of the whole
pub prefix-is-part : PrefixIsPart
prefix-is-part version all shown start told h =
    let front = header version ++ (events_text shown ++ h.more) in
    subst (AddsPart start told)
    (append_assoc (header version) (events_text shown ++ h.more) h.rest
    ∙ ap (λ text. header version ++ text) (append_assoc (events_text shown) h.more h.rest)
    ∙ sym h.whole)
    (adds_within start told front h.rest (adds_all start told front h.wrote))
