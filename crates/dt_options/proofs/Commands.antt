-- A command that is given its arguments one after the other.
use Rattle.std.proofs.Common.{◌≡◌, ◌||◌, Result, Ok, Err, false, ◌∙◌}
use Rattle.std.specs.Prelude.{IfOk}
use Rattle.clap.specs.Words.{AddsArg, App, Rule, app_of, rule_of, with_rule}
use Rattle.clap.specs.declared.builder.arg.Arg.{Arg}
use Rattle.clap.specs.declared.builder.command.Command.{Command}
use Rattle.clap.specs.declared.builder.command.Command.TheViews.{out-Command as fields_of}

-- one more of a command's arguments, whose rule is known, and which is its own
pub added : {old new : Command} {arg : Arg} {app : App} {rule : Rule} → AddsArg old arg new → arg.global ≡ false → rule_of arg ≡ rule → app_of old ≡ app → app_of new ≡ with_rule app rule
added adds local ruled before = adds.shape local ∙ (λ i. with_rule (before i) (ruled i))

-- a command whose arguments are all its own
pub stays_local : {old new : Command} {arg : Arg} → AddsArg old arg new → arg.global ≡ false → (fields_of old).has_globals ≡ false → (fields_of new).has_globals ≡ false
stays_local adds local before = adds.globals ∙ (λ i. before i || local i)

pub if_ok : {T E : Type 0} {P Q : T → Type 0} (r : Result T E) → ((x : T) → P x → Q x) → IfOk r P → IfOk r Q
if_ok (Ok x) all holds = all x holds
if_ok (Err e) all holds = tt
