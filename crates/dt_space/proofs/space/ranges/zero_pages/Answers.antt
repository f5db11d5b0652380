use Rattle.std.proofs.Common.{◌≡◌, suc, [], sym, ap, ◌∙◌, ◌+◌, ◌-◌, arith}
use Rattle.dt_space.specs.Space.{PageView}
use Rattle.dt_space.specs.Pages.{zero_padded}
use Rattle.dt_space.proofs.Following.{pages-end, pages-more}
use Rattle.dt_space.proofs.space.ranges.zero_pages.Goals as goal

pub loop-number-preserved : goal.loop-number-preserved
loop-number-preserved c =
    let number = c.loop-number.number in
    let end = c.args.first + c.args.count in
    let left : end - number ≡ suc (end - (number + 1)) = omega arith in
    let page : c.in_ok-share_as.field-0 ≡ record { number = number; rights = c.args.rights; bytes = zero_padded [] } =
    c.in_ok-share_as.ensures.same ∙ ap (λ (p : PageView). record p { number = number }) c.loop-number.invariant.zeros in
    record {
      made = rw c.in_ok-push.ensures.items (pages-more c.loop-number.pages.items number c.args.rights [] (end - number) (end - (number + 1)) c.in_ok-share_as.field-0 left page ∙ c.loop-number.invariant.made);
      zeros = c.in_ok-share_as.ensures.kept ∙ c.loop-number.invariant.zeros;
    }

pub returns : goal.returns
returns c = sym (pages-end _ _ _ _ _ (omega arith)) ∙ c.loop-number.invariant.made
