use Rattle.dt_asm.proofs.Loading.{hi52_then, hi52_else}
use Rattle.dt_asm.proofs.loads.high_52.Goals as goal

pub returns-then-rem_euclid-lt2048 : goal.returns-then-rem_euclid-lt2048
returns-then-rem_euclid-lt2048 c =
    hi52_then _ _ _ c.ranges.number (record { sfits = c.div_euclid-high.type_inv }) (record { sfits = c.rem_euclid.type_inv })
    c.div_euclid-high.ensures c.rem_euclid.ensures.value c.if-rem_euclid-lt2048.true

pub returns-else-rem_euclid-lt2048 : goal.returns-else-rem_euclid-lt2048
returns-else-rem_euclid-lt2048 c =
    hi52_else _ _ _ c.ranges.number (record { sfits = c.div_euclid-high.type_inv }) (record { sfits = c.rem_euclid.type_inv })
    c.div_euclid-high.ensures c.rem_euclid.ensures.value c.if-rem_euclid-lt2048.false
