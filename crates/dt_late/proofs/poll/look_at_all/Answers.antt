use Rattle.std.proofs.Common.{◌≡◌, ◌+◌, ◌*◌, length, refl, sym, ap, ◌∙◌, arith}
use Rattle.dt_late.specs.declared.numbers.TheConstants.{POLLFD_SIZE, POLLFD_REVENTS}
use Rattle.dt_late.specs.Poll.{events_found, revents_at}
use Rattle.dt_late.proofs.Polls.{length-with_field, polled-none, ready-none, polled-more, ready-more}
use Rattle.dt_late.proofs.poll.look_at_all.Goals as goal

pub loop-index-init : goal.loop-index-init
loop-index-init c =
    let entries = c.args.entries.now in (
      ap length c.requires.same,
      (
        omega arith,
        λ pipes piped.
            let found = events_found c.args.vpid c.args.files.now pipes in
            (c.requires.same ∙ sym (polled-none found entries), sym (ready-none found entries)),
      ),
    )

pub loop-index-preserved : goal.loop-index-preserved
loop-index-preserved c =
    let entries = c.args.entries.now in
    let index = c.loop-index.index in
    let same = c.loop-index.invariant.0 in
    let few = c.loop-index.invariant.1.0 in
    let one = c.one_if_any-ready.ensures.most in
    let whole = c.requires.whole in (
      ap length c.put16.ensures
          ∙ length-with_field 2 (POLLFD_SIZE * index + POLLFD_REVENTS) c.ready-revents.result c.loop-index.polled (omega (arith, same, whole, c.loop-index-test.true))
          ∙ same,
      (
        omega (arith, few, one),
        λ pipes piped.
            let found = events_found c.args.vpid c.args.files.now pipes in
            let this : c.ready-revents.result ≡ revents_at found entries index =
            c.ready-revents.ensures pipes piped ∙ (λ i. found (c.fd_at.ensures i) (c.events_at.ensures i)) in
            let before = c.loop-index.invariant.1.1 pipes piped in (
              polled-more found entries index c.ready-revents.result c.loop-index.polled c.put16.new.buf before.0 this c.put16.ensures,
              ready-more found entries index c.ready-revents.result c.loop-index.ready c.one_if_any-ready.result _ before.1 this c.one_if_any-ready.ensures.value refl,
            ),
      ),
    )
