use Rattle.std.proofs.Common.{length, arith, refl}
use Rattle.dt_virt.proofs.Drawing.{draws}
use Rattle.dt_virt.proofs.random.Rand.fill.Goals as goal

pub invariant_of-self : goal.invariant_of-self
invariant_of-self c =
    let filled = c.fill_bytes_via_u32 in
    let all = draws c.self.inside.key (length c.args.buf.now) c.self.inside.words filled.new.rng filled.new.dst c.self.invariant filled.ensures in
    (all.key_kept, all.stream_kept, omega (arith, all.moved))

pub returns-clause-bytes : goal.returns-clause-bytes
returns-clause-bytes c =
    let filled = c.fill_bytes_via_u32 in
    let all = draws c.self.inside.key (length c.args.buf.now) c.self.inside.words filled.new.rng filled.new.dst c.self.invariant filled.ensures in
    rw (← c.self.view_is) all.prefix

pub returns-clause-rest : goal.returns-clause-rest
returns-clause-rest c =
    let filled = c.fill_bytes_via_u32 in
    let all = draws c.self.inside.key (length c.args.buf.now) c.self.inside.words filled.new.rng filled.new.dst c.self.invariant filled.ensures in
    rw (← c.self.view_is, all.moved) refl
