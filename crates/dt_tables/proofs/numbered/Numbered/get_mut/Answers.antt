use Rattle.std.proofs.Common.{sym, ap, ◌∙◌}
use Rattle.std.specs.Prelude.{is_some}
use Rattle.std.specs.Option.{option_copied_mut}
use Rattle.std.specs.FinMap.{get, insert}
use Rattle.dt_tables.specs.Entries.{map_of}
use Rattle.dt_tables.proofs.Kept.{get-kept, put-kept, unequal}
use Rattle.dt_tables.proofs.Lent.{lent_alike}
use Rattle.dt_tables.proofs.numbered.Numbered.get_mut.Goals as goal

pub returns : goal.returns
returns g c = (
  lent_alike c.get_mut.result _ _ _ _
      (λ y is w.
      let kept = (c.get_mut.follows.holds w).3 (ap is_some (sym c.get_mut.ensures.value ∙ ap option_copied_mut is)) in
      put-kept c.self.inside.map (c.get_mut.follows.lender w) c.args.n w kept.1 (λ q apart. kept.2 q (unequal c.args.n q apart))
      ∙ ap (λ m. insert m c.args.n w) c.self.view_is)
      (λ is. ap (λ m. map_of (λ n. n) (λ x. x) m.entries) c.get_mut.follows.holds-at-none ∙ c.self.view_is),
  record {
    writes_back = tt;
    value = c.get_mut.ensures.value ∙ sym (get-kept c.self.inside.map c.args.n) ∙ ap (λ t. get t c.args.n) c.self.view_is;
  },
)
