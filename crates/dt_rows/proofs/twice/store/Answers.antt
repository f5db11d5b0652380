use Rattle.std.proofs.Common.{◌≡◌, Result, Ok, codes, ap, ◌∙◌}
use Rattle.std.specs.FinMap.{insert}
use Rattle.dt_memhost.specs.Store.{StoreState}
use Rattle.dt_rows.proofs.twice.store.Goals as goal

made : {A E : Type 0} (x y : A) → ◌≡◌ {A = Result A E} (Ok x) (Ok y) → x ≡ y
made x y is = cc

pub returns : goal.returns
returns c =
    ap (λ (s : StoreState). s.files) c.in_ok-insert-2.ensures.ok
    ∙ ap (λ (s : StoreState). insert s.files (codes "img/hello") c.args.program.now) c.in_ok-insert.ensures.ok
    ∙ ap (λ (s : StoreState). insert (insert s.files (codes "img/image.json") c.args.index.now) (codes "img/hello") c.args.program.now) (made _ _ c.in_ok-store.ensures)
