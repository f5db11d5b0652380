use Rattle.std.proofs.Common.{◌≤◌, length, arith, ap, ◌∙◌}
use Rattle.std.proofs.lemmas.List.{take_all}
use Rattle.dt_virt.specs.Words.{bytes_from}
use Rattle.dt_virt.proofs.Drawing.{filled, length-bytes_from}
use Rattle.dt_virt.proofs.random.Rand.start16.Goals as goal

pub returns : goal.returns
returns c =
    let key = c.self.inside.key in
    let made = c.start_words-words.ensures in
    let all = filled key 1 0 16 c.start_words-words.result c.fill_bytes_via_u32.new.rng c.fill_bytes_via_u32.new.dst
    (ap (λ g. g.key) made) (ap (λ g. g.stream) made) (ap (λ g. g.word_pos) made) (omega arith) c.fill_bytes_via_u32.ensures in
    let short : length (bytes_from key 1 0 4) ≤ 16 = omega (arith, length-bytes_from key 1 0 4) in
    rw (← c.self.view_is) (all.prefix ∙ take_all 16 (bytes_from key 1 0 4) short)
