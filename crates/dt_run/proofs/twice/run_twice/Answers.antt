use Rattle.std.proofs.Common.{sym, ◌∙◌}
use Rattle.std.specs.Prelude.{map, string_bytes}
use Rattle.dt_run.proofs.Answered.{bytes_of, line_of, known-wanted, same-wanted, the, the-is, by_run, answered, adds, agree-status, agree-tree, agree-files, tells, adds-part}
use Rattle.dt_run.proofs.twice.run_twice.Goals as goal

pub returns-clause-status : goal.returns-clause-status
returns-clause-status g c = λ one other.
    let words = map string_bytes c.args.words.now in
    let is = the-is _ (known-wanted (g.S.Store.told c.args.first.now.store) words c.requires.known) in
    let again = same-wanted _ _ _ _ c.requires.same c.requires.request ∙ is in
    let a = c.dettrace-one.ensures in
    let b = c.dettrace-other.ensures in
    agree-status _ _ _ _ _ _ _ _ _ _ _ _ _
    (answered _ _ words _ is _ _ _ _ _ _ _ _ a.some_image a.usage a.image_line a.export_line a.nothing one)
    (answered _ _ _ _ again _ _ _ _ _ _ _ _ b.some_image b.usage b.image_line b.export_line b.nothing other)

pub returns-clause-refused : goal.returns-clause-refused
returns-clause-refused g c =
    let again = same-wanted _ _ _ _ c.requires.same c.requires.request in
    let a = c.dettrace-one.ensures in
    let b = c.dettrace-other.ensures in
    (λ two. b.refused_words (again ∙ a.usage two), λ two. a.refused_words (sym again ∙ b.usage two))

pub returns-clause-report : goal.returns-clause-report
returns-clause-report g c =
    let words = map string_bytes c.args.words.now in
    let known = known-wanted (g.S.Store.told c.args.first.now.store) words c.requires.known in
    let is = the-is _ known in
    let again = same-wanted _ _ _ _ c.requires.same c.requires.request ∙ is in
    let a = c.dettrace-one.ensures in
    let b = c.dettrace-other.ensures in
    let one = answered _ _ words _ is _ _ _ _ _ _ _ _ a.some_image a.usage a.image_line a.export_line a.nothing in
    let other = answered _ _ _ _ again _ _ _ _ _ _ _ _ b.some_image b.usage b.image_line b.export_line b.nothing in
    record {
      bytes = bytes_of (the _ known);
      part = adds-part _ _ words _ is _ _ _ _ a.statuses one a.part a.memory a.stored;
      other_part = adds-part _ _ _ _ again _ _ _ _ b.statuses other b.part b.memory b.stored;
      whole = λ decided. adds _ _ _ _ _ _ _ (one decided);
      other_whole = λ decided. adds _ _ _ _ _ _ _ (other decided);
    }

pub returns-clause-nothing : goal.returns-clause-nothing
returns-clause-nothing g c = (c.dettrace-one.ensures.nothing, c.dettrace-other.ensures.nothing)

pub returns-clause-line : goal.returns-clause-line
returns-clause-line g c = λ one other.
    let words = map string_bytes c.args.words.now in
    let known = known-wanted (g.S.Store.told c.args.first.now.store) words c.requires.known in
    let is = the-is _ known in
    let again = same-wanted _ _ _ _ c.requires.same c.requires.request ∙ is in
    let a = c.dettrace-one.ensures in
    let b = c.dettrace-other.ensures in
    record {
      line = line_of (the _ known);
      one = tells _ _ words _ _ _ _ _ _ _ _ one a.line a.image_line a.export_line _ is (answered _ _ words _ is _ _ _ _ _ _ _ _ a.some_image a.usage a.image_line a.export_line a.nothing one);
      other = tells _ _ _ _ _ _ _ _ _ _ _ other b.line b.image_line b.export_line _ again (answered _ _ _ _ again _ _ _ _ _ _ _ _ b.some_image b.usage b.image_line b.export_line b.nothing other);
    }

pub returns-clause-tree : goal.returns-clause-tree
returns-clause-tree g c = λ one other.
    let words = map string_bytes c.args.words.now in
    let is = the-is _ (known-wanted (g.S.Store.told c.args.first.now.store) words c.requires.known) in
    let again = same-wanted _ _ _ _ c.requires.same c.requires.request ∙ is in
    let a = c.dettrace-one.ensures in
    let b = c.dettrace-other.ensures in
    agree-tree _ _ _ _ _ _ _ _ _ _ _ _ _ one other
    (by_run _ _ words _ is _ _ _ _ _ _ _ _ a.some_image a.usage a.image_line a.export_line a.nothing one)
    (by_run _ _ _ _ again _ _ _ _ _ _ _ _ b.some_image b.usage b.image_line b.export_line b.nothing other)

pub returns-clause-files : goal.returns-clause-files
returns-clause-files g c = λ one other.
    let words = map string_bytes c.args.words.now in
    let is = the-is _ (known-wanted (g.S.Store.told c.args.first.now.store) words c.requires.known) in
    let again = same-wanted _ _ _ _ c.requires.same c.requires.request ∙ is in
    let a = c.dettrace-one.ensures in
    let b = c.dettrace-other.ensures in
    agree-files _ _ _ _ _ _ _ _ _ _ _ _ _ one other
    (by_run _ _ words _ is _ _ _ _ _ _ _ _ a.some_image a.usage a.image_line a.export_line a.nothing one)
    (by_run _ _ _ _ again _ _ _ _ _ _ _ _ b.some_image b.usage b.image_line b.export_line b.nothing other) c.requires.same

pub returns-clause-caused : goal.returns-clause-caused
returns-clause-caused g c =
    let a = c.dettrace-one.ensures in
    record { known = a.statuses; store = a.store; host = a.host; output = a.output }

pub returns-clause-other_caused : goal.returns-clause-other_caused
returns-clause-other_caused g c =
    let b = c.dettrace-other.ensures in
    record { known = b.statuses; store = b.store; host = b.host; output = b.output }
