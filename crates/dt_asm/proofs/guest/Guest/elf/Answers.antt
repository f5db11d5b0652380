use Rattle.std.proofs.Common.{◌≡◌, ◌≤◌, ◌<◌, ◌^◌, IfSome, arith, ◌∙◌, sym, subst, false, rules}
use Rattle.std.specs.List.{list_any}
use Rattle.std.proofs.lemmas.Result.{err_from_is_err_and}
use Rattle.dt_base.specs.declared.limits.TheConstants.{FILE_LIMIT}
use Rattle.dt_asm.specs.Item.{pieces_of}
use Rattle.dt_asm.specs.Refusal.{is_lost, is_set_twice, any_out_of_reach, is_bad}
use Rattle.dt_asm.specs.inner.Adding.{IsFieldRefusal}
use Rattle.dt_asm.specs.File.{file_size, IsRefusal, IsFileOf}
use Rattle.dt_asm.proofs.Codes.{refuses_field}
use Rattle.dt_asm.proofs.Accepting.{accepted}
use Rattle.dt_asm.proofs.guest.Guest.elf.Goals as goal

pub returns-in_err-code-clause-refused : goal.returns-in_err-code-clause-refused
returns-in_err-code-clause-refused c =
    let p = err_from_is_err_and c.from_residual.result c.from_residual.ensures.1 in
    rw (p.1, p.2)
    (subst (λ g. IsRefusal g.items c.in_err-code.field-0.0) c.self.view_is
    (refuses_field c.self.inside.items.items c.in_err-code.field-0.0
    (subst (λ xs. list_any (is_lost xs) xs ≡ false) c.deref.ensures.value (sym c.any_lost.ensures ∙ c.if-any_lost.false))
    (subst (λ xs. is_set_twice xs ≡ false) c.deref-2.ensures.value (sym c.is_set_twice.ensures ∙ c.if-is_set_twice.false))
    (subst (λ xs. any_out_of_reach xs 0 xs ≡ false) c.deref-3.ensures.value (sym c.any_out_of_reach.ensures ∙ c.if-any_out_of_reach.false))
    (subst (λ xs. IsFieldRefusal (list_any is_bad (pieces_of xs)) c.in_err-code.field-0.0) c.deref-4.ensures.value c.in_err-code.ensures.refused)))

pub returns-clause-accepted : goal.returns-clause-accepted
returns-clause-accepted c =
    let file : IsFileOf c.args.self.now c.append.new.self.items = search rules in
    let high : file_size c.self.inside.items.items ≤ FILE_LIMIT = omega arith in
    accepted c.args.self.now _ file
    (subst (λ g. IfSome g.memory (λ m. m < 2 ^ 32)) c.self.view_is c.in_ok-file.ensures.few)
    (subst (λ g. file_size g.items ≤ FILE_LIMIT) c.self.view_is high)
