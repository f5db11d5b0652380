use Rattle.dt_tests_machine.proofs.machines.go_on.Goals as goal

pub returns : goal.returns
returns c = λ is. c.step.ensures.sound (c.answer.ensures.sound (c.read_counter.ensures.sound is))
