use Rattle.std.proofs.Common.{◌<◌, ◌≤◌, ◌∙◌, sym, ap}
use Rattle.std.specs.List.{list_any}
use Rattle.dt_elf.specs.Header.{e_phnum, is_interp}
use Rattle.dt_elf.proofs.Headers.{headers_after-start, headers_after-end, interps-skip, interps-found}
use Rattle.dt_elf.proofs.elf.has_interpreter.Goals as goal

pub loop-index-init : goal.loop-index-init
loop-index-init c = ap (list_any is_interp) (headers_after-start _ _ _)

pub returns-then-is_interpreter : goal.returns-then-is_interpreter
returns-then-is_interpreter c =
    let lt : c.loop-index.index < e_phnum c.args.bytes.now = rw (← c.phnum-index-end.ensures) c.loop-index-test.true in
    sym (interps-found _ _ _ _ lt (ap is_interp (sym c.read_header-header.ensures) ∙ sym c.if-is_interpreter.ensures)) ∙ c.loop-index.invariant

pub loop-index-preserved : goal.loop-index-preserved
loop-index-preserved c =
    let lt : c.loop-index.index < e_phnum c.args.bytes.now = rw (← c.phnum-index-end.ensures) c.loop-index-test.true in
    sym (interps-skip _ _ _ _ lt (ap is_interp (sym c.read_header-header.ensures) ∙ sym c.if-is_interpreter.ensures)) ∙ c.loop-index.invariant

pub returns : goal.returns
returns c =
    let all : e_phnum c.args.bytes.now ≤ c.loop-index.index = rw (← c.phnum-index-end.ensures) c.loop-index-test.false in
    sym (ap (list_any is_interp) (headers_after-end _ _ _ _ all)) ∙ c.loop-index.invariant
