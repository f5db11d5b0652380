use Rattle.std.proofs.Common.{rules, arith}
use Rattle.dt_workers.proofs.Chunks.{all_zip_append}
use Rattle.dt_workers.proofs.workers.+chunks.Goals as goal

pub run_chunks-run_beside-requires : goal.run_chunks-run_beside-requires
run_chunks-run_beside-requires g t c κs within =
    let cut = c.split_at_mut-chunk.ensures in
    (search rules, (within.0, (within.1, (search rules, (search rules, (c.requires.some, (omega arith, omega arith)))))))

pub run_chunks-returns : goal.run_chunks-returns
run_chunks-returns g t c =
    let cut = c.split_at_mut-chunk in
    all_zip_append _ _ _ _ _ cut.ensures.value c.run_beside.ensures.chunk c.run_beside.ensures.others
