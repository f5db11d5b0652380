use Rattle.dt_tests_parts.proofs.Belows.{below-settled, room-below}
use Rattle.dt_tests_parts.proofs.driver.settle.Goals as goal

pub settle-requires-clause-room : goal.settle-requires-clause-room
settle-requires-clause-room c = room-below _ _ _ c.requires.below c.settled-turn.ensures

pub returns : goal.returns
returns c =
    below-settled _ c.args.core.now _ _ _ c.requires.below c.settled-turn.ensures c.settle.ensures.core c.next_after.ensures
