use Rattle.dt_elf.specs.Executable.{executable}
use Rattle.std.proofs.Common.{◌≡◌, ◌+◌, ◌∙◌, ◌++◌, [], ◌∷◌, refl, ap, length, List, ℕ, arith}
use Rattle.dt_elf.specs.Stack.{args_start, terminated_words, word_addresses, auxiliary_vector}
use Rattle.dt_elf.proofs.Strings.{length-terminated, listed-whole}
use Rattle.dt_elf.proofs.stack.words.Goals as goal

pub push_addresses-requires : goal.push_addresses-requires
push_addresses-requires c =
    let args = ap (λ (ws : List (List ℕ)). length (terminated_words ws)) c.args-3.ensures.args in
    let count = length-terminated c.args.command.now.args in
    omega (arith, args, count)

pub push_addresses-requires-2 : goal.push_addresses-requires-2
push_addresses-requires-2 c =
    let args = ap (λ (ws : List (List ℕ)). length (terminated_words ws)) c.args-3.ensures.args in
    let env = ap (λ (ws : List (List ℕ)). length (terminated_words ws)) c.env.ensures.env in
    let end = c.in_ok-env_at.ensures.end in
    let count = length-terminated c.args.command.now.args in
    let more = length-terminated c.args.command.now.env in
    omega (arith, args, env, end, count, more)

pub returns : goal.returns
returns c =
    let command = c.args.command.now in
    let args_at = args_start c.args.start c.args.execfn.now in
    let e1 : c.push.new.self.items ≡ [] ++ length command.args ∷ [] = c.in_ok-push.ensures.items ∙ rw (c.new-words.ensures.items, c.args-2.ensures.args) refl in
    let e2 : c.push_addresses.new.list.items ≡ c.push.new.self.items ++ word_addresses args_at command.args = c.in_ok-env_at.ensures.listed ∙ rw (c.args-3.ensures.args, c.args_start-args_at.ensures) refl in
    let e4 : c.push_addresses-2.new.list.items ≡ c.push-2.new.self.items ++ word_addresses (args_at + length (terminated_words command.args)) command.env = c.in_ok-push_addresses.ensures.listed ∙ rw (c.env.ensures.env, c.in_ok-env_at.ensures.end, c.args-3.ensures.args, c.args_start-args_at.ensures) refl in
    let e6 : c.extend_from_slice.new.self.items ≡ c.push-3.new.self.items ++ auxiliary_vector (executable c.args.elf.now) c.args.headers c.args.start = c.in_ok-extend_from_slice.ensures.items ∙ rw c.auxiliary_vector.ensures refl in
    listed-whole _ _ _ _ _ _ _ _ _ _ e1 e2 c.in_ok-push-2.ensures.items e4 c.in_ok-push-3.ensures.items e6
