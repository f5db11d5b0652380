use Rattle.std.proofs.Common.{◌≡◌, ◌||◌, Bool, true, false, refl, sym, ap, ◌∙◌}
use Rattle.std.specs.Cmp.{nat_cmp_total}
use Rattle.std.specs.FinMap.{get, nat_cmp-IsAntisymmetric}
use Rattle.dt_tables.proofs.Maps.{get-insert_same, get-insert_other, get-remove_same, get-remove_other}
use Rattle.dt_fds.specs.Ends.{is_read, is_written}
use Rattle.dt_fds.proofs.ends.note.Goals as goal

pub returns-then-any-clause-others : goal.returns-then-any-clause-others
returns-then-any-clause-others c = λ r apart.
    ap (λ m. get m r) c.set.ensures ∙ get-insert_other nat_cmp_total nat_cmp-IsAntisymmetric c.args.ends.now c.args.q c.args.noted r apart

pub returns-then-any-clause-read : goal.returns-then-any-clause-read
returns-then-any-clause-read c =
    ap (λ m. is_read (get m c.args.q)) c.set.ensures ∙ ap is_read (get-insert_same nat_cmp_total nat_cmp-IsAntisymmetric c.args.ends.now c.args.q c.args.noted)

pub returns-then-any-clause-write : goal.returns-then-any-clause-write
returns-then-any-clause-write c =
    ap (λ m. is_written (get m c.args.q)) c.set.ensures ∙ ap is_written (get-insert_same nat_cmp_total nat_cmp-IsAntisymmetric c.args.ends.now c.args.q c.args.noted)

pub returns-else-any-clause-others : goal.returns-else-any-clause-others
returns-else-any-clause-others c = λ r apart.
    ap (λ m. get m r) c.take.ensures.map ∙ get-remove_other nat_cmp_total nat_cmp-IsAntisymmetric c.args.ends.now c.args.q r apart

-- neither is open
neither : (a b : Bool) → (a || b) ≡ false → (false ≡ a) × (false ≡ b)
neither true b e = cc
neither false true e = cc
neither false false e = (refl, refl)

pub returns-else-any-clause-read : goal.returns-else-any-clause-read
returns-else-any-clause-read c =
    let none = neither c.args.noted.read c.args.noted.write (sym c.any.ensures ∙ c.if-any.false) in
    ap (λ m. is_read (get m c.args.q)) c.take.ensures.map ∙ ap is_read (get-remove_same nat_cmp_total nat_cmp-IsAntisymmetric c.args.ends.now c.args.q) ∙ none.0

pub returns-else-any-clause-write : goal.returns-else-any-clause-write
returns-else-any-clause-write c =
    let none = neither c.args.noted.read c.args.noted.write (sym c.any.ensures ∙ c.if-any.false) in
    ap (λ m. is_written (get m c.args.q)) c.take.ensures.map ∙ ap is_written (get-remove_same nat_cmp_total nat_cmp-IsAntisymmetric c.args.ends.now c.args.q) ∙ none.1
