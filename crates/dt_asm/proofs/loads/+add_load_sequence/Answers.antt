use Rattle.std.proofs.Common.{◌∙◌, sym, ap, w64}
use Rattle.std.proofs.lemmas.Int.{to_z-of_z}
use Rattle.dt_asm.specs.Load.{high_52}
use Rattle.dt_asm.proofs.Loading.{adds_short, adds_word, adds_wide}
use Rattle.dt_asm.proofs.loads.+add_load_sequence.Goals as goal

pub returns-then-fits_12 : goal.returns-then-fits_12
returns-then-fits_12 t c =
    adds_short c.add.result _ _ _ (to_z-of_z w64 c.args.number c.ranges.number) _ _ _ (sym c.fits_12.ensures ∙ c.if-fits_12.true) c.addi_from_zero.ensures c.add.ensures

pub returns-in_ok-add : goal.returns-in_ok-add
returns-in_ok-add t c =
    adds_word c.add-then-fits_32-2.result _ _ _ (to_z-of_z w64 c.args.number c.ranges.number) _ _ _ _ _
    (sym c.fits_12.ensures ∙ c.if-fits_12.false) (sym c.fits_32.ensures ∙ c.if-fits_32.true)
    c.lui.ensures c.addiw.ensures c.in_ok-add.ensures c.add-then-fits_32-2.ensures

pub returns-in_ok-add-2 : goal.returns-in_ok-add-2
returns-in_ok-add-2 t c =
    let same = to_z-of_z w64 c.args.number c.ranges.number in
    adds_wide c.add-else-fits_32-2.result _ _ _ same _ _ _ _ _ _ _ c.ranges.number
    (sym c.fits_12.ensures ∙ c.if-fits_12.false) (sym c.fits_32.ensures ∙ c.if-fits_32.false)
    (to_z-of_z w64 c.high_52.result (record { sfits = c.high_52.type_inv }) ∙ c.high_52.ensures ∙ ap high_52 same)
    c.slli_12.ensures c.addi_low.ensures c.in_ok-add_load_sequence.ensures c.in_ok-add-2.ensures c.add-else-fits_32-2.ensures
