use Rattle.clap.specs.Words.{found_of}
use Rattle.dt_options.proofs.Matches.{one_string}
use Rattle.dt_options.proofs.options.arguments.text.Goals as goal

pub returns : goal.returns
returns c = one_string (found_of c.args.found.now) c.args.name.now c.get_str.result c.get_str.ensures
