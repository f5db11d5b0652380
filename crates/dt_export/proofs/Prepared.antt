-- The text that an export of a tree puts, by what is said of the tree's paths.
use Rattle.std.proofs.Common.{◌≡◌, ℕ, List, Some, None, Err, sym, ap, ◌∙◌}
use Rattle.dt_tree.specs.FileTree.{FileTree}
use Rattle.dt_image.specs.Paths.{paths_of}
use Rattle.dt_export.specs.declared.refusal.ExportRefusal.{ExportRefusal}
use Rattle.dt_export.specs.ExportedImage.{path_refusal, unless_refused}
use Rattle.dt_export.specs.ExportedIndex.{index_text}
use Rattle.dt_export.specs.ExportedFiles.{exported_text}

module _ (version : ℕ) (t : FileTree) (paths : List (List ℕ × ℕ)) (same : paths ≡ paths_of t.shape) where
  pub some_text : path_refusal paths ≡ None → exported_text version t ≡ index_text version t
  unfolding exported_text
  some_text none = ap (λ refusal. unless_refused refusal (index_text version t)) (ap path_refusal (sym same) ∙ none)

  pub refused_text : (r : ExportRefusal) → path_refusal paths ≡ Some r → exported_text version t ≡ Err r
  unfolding exported_text
  refused_text r is = ap (λ refusal. unless_refused refusal (index_text version t)) (ap path_refusal (sym same) ∙ is)
