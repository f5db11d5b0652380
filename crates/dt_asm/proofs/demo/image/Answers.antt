use Rattle.std.proofs.Common.{ap, ◌∙◌}
use Rattle.dt_base.specs.declared.image.What.TheVariants.{File}
use Rattle.dt_asm.proofs.Demonstration.{image_with, two_entries, entry_is}
use Rattle.dt_asm.proofs.demo.image.Goals as goal

pub returns : goal.returns
returns c =
    c.new.ensures
    ∙ ap image_with (two_entries _ _ _ _ _ c.new-entries.ensures.items c.in_ok-push.ensures.items c.in_ok-push-2.ensures.items
    (entry_is c.entry.result _ _ _ _ c.entry.ensures.path c.in_ok-blob.ensures c.entry.ensures.mode c.entry.ensures.what)
    (entry_is c.entry-2.result _ _ _ _ c.entry-2.ensures.path c.in_ok-blob-2.ensures c.entry-2.ensures.mode (c.entry-2.ensures.what ∙ ap File (c.new-file.ensures ∙ c.in_ok-file.ensures))))
