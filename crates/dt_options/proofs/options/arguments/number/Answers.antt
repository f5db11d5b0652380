use Rattle.std.specs.Str.Parse.{ParsesUnsigned, ExplainsUnsignedError, HasUnsignedDigitsIfOk}
use Rattle.clap.specs.Words.{found_of}
use Rattle.dt_options.proofs.Matches.{one_number}
use Rattle.dt_options.proofs.options.arguments.number.Goals as goal

pub returns : goal.returns
returns c = one_number (λ u x. ParsesUnsigned 64 10 u x × ExplainsUnsignedError 10 u x × HasUnsignedDigitsIfOk u x) (found_of c.args.found.now) _ _ (λ u x g. g.0) c.get_one.ensures.none c.get_one.ensures.value
