use Rattle.std.proofs.Common.{◌≡◌, sym}
use Rattle.std.proofs.lemmas.Str.{is_utf8-from_IsUtf8}
use Rattle.dt_export.specs.declared.refusal.ExportErr.TheVariants.{Refused}
use Rattle.dt_export.specs.declared.refusal.ExportRefusal.TheVariants.{NotText}
use Rattle.dt_export.proofs.Objects.{no_text}
use Rattle.dt_export.proofs.index.text_of.Goals as goal

pub returns-in-Ok-clause-text : goal.returns-in-Ok-clause-text
returns-in-Ok-clause-text c = is_utf8-from_IsUtf8 c.args.bytes.now c.in-Ok.ensures.cases.1

pub returns-in-Err-clause-err : goal.returns-in-Err-clause-err
returns-in-Err-clause-err c = λ e is. let same : Refused NotText ≡ e = cc in (sym same, no_text c.args.bytes.now c.in-Err.ensures.cases.0)
