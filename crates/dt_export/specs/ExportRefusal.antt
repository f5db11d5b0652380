-- The numbers and names of an export's refusals.
use Rattle.std.specs.Prelude.{ℕ, List, codes}
use Rattle.dt_export.specs.declared.refusal.ExportRefusal.{ExportRefusal}
use Rattle.dt_export.specs.declared.refusal.ExportRefusal.TheVariants.{Exists, LongPath, TooMany, NotText, BigIndex}

-- its number in the order
abbrev pub export_refusal_number : ExportRefusal → ℕ
export_refusal_number Exists = 1
export_refusal_number LongPath = 2
export_refusal_number TooMany = 3
export_refusal_number NotText = 4
export_refusal_number BigIndex = 5

-- the name that the error stream shows
abbrev pub export_refusal_name : ExportRefusal → List ℕ
export_refusal_name Exists = codes "Exists"
export_refusal_name LongPath = codes "LongPath"
export_refusal_name TooMany = codes "TooMany"
export_refusal_name NotText = codes "NotText"
export_refusal_name BigIndex = codes "BigIndex"
