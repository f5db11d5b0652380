-- What clap's matches say of the words before `--`.
use Rattle.std.proofs.Common.{◌≡◌, ◌<◌, ◌^◌, ℕ, Bool, true, false, cond, List, [], ◌∷◌, Option, Some, None, Result, Ok, Err, refl, sym, ap, ◌∙◌, arith, ⊎_elim}
use Rattle.std.specs.Prelude.{option_map, option_and_then, unwrap_or}
use Rattle.std.specs.Borrow.{Bor}
use Rattle.std.proofs.lemmas.Bool.{ne_eqb}
use Rattle.std.specs.Str.Parse.{ParsesUnsigned, digits_value, without_leading_plus}
use Rattle.clap.specs.Words.{App, HasKind, IsAmong, Kinds, kind_of, fault_of, subcommand_of, subcommand_rows_of, ReadsOne, first_value, one_text, Row, rows_of}
use Rattle.clap.specs.ValueTests.{is_unsigned_in}
use Rattle.clap.specs.declared.parser.matches.Found.{Found}
use Rattle.clap.specs.declared.builder.value_parser.ValueParser.TheVariants as parser
use Rattle.clap.proofs.ValueTestLemmas.{accepts-Accepts, Accepts-accepts}
use Rattle.clap.proofs.WalkLemmas.{first_value-rows, one_text-rows}
use Rattle.dt_options.specs.Arguments.{number_of, number_in, operand_in, matched_rows, text_in}
use Rattle.dt_options.specs.UsageErr.{usage_err_of_kind}
use Rattle.dt_options.specs.declared.options.UsageErr.TheVariants.{Refused, NoMemory}
use Rattle.clap.specs.declared.error.Error.{Error}
use Rattle.clap.specs.declared.error.kind.ErrorKind.{ErrorKind}
use Rattle.clap.specs.declared.error.kind.ErrorKind.TheVariants.{OutOfMemory}
use Rattle.clap.specs.declared.parser.matches.ArgMatches.{ArgMatches}
use Rattle.clap.specs.Walk.{is_empty}

-- a text that reads as a number of 64 bits is that number, and another is none
reads_number : {E : Type 0} (G : List ℕ → Result ℕ E → Type 0) (t : List ℕ) (r : Option ℕ) → ((u : List ℕ) (x : Result ℕ E) → G u x → ParsesUnsigned 64 10 u x) → ReadsOne G t r → r ≡ number_of t
reads_number G t (Some v) only read =
    let p = only t (Ok v) read in
    let small : digits_value 10 (without_leading_plus t) < 2 ^ 64 = p.0.1 in
    let takes = Accepts-accepts false (parser.Unsigned 0 18446744073709551615) t (p.0.0, p.0.1, omega arith, omega arith) in
    ap Some p.1 ∙ sym (ap (λ b. cond b (Some (digits_value 10 (without_leading_plus t))) None) takes)
reads_number G t None only read = go (is_unsigned_in 0 18446744073709551615 t) refl
  where
    go : (b : Bool) → is_unsigned_in 0 18446744073709551615 t ≡ b → None ≡ number_of t
    go true is =
        let p = accepts-Accepts false (parser.Unsigned 0 18446744073709551615) t is in
        absurd (only t (Err read.0) read.1 (p.0, p.1))
    go false is = sym (ap (λ b. cond b (Some (digits_value 10 (without_leading_plus t))) None) is)

reads_option : {E : Type 0} (G : List ℕ → Result ℕ E → Type 0) (o : Option (List ℕ)) (r : Option ℕ) → ((u : List ℕ) (x : Result ℕ E) → G u x → ParsesUnsigned 64 10 u x) → (o ≡ None → r ≡ None) → ((t : List ℕ) → o ≡ Some t → ReadsOne G t r) → r ≡ option_and_then number_of o
reads_option G None r only none read = none refl
reads_option G (Some t) r only none read = reads_number G t r only (read t refl)

-- what `get_one` gives is the number of the option
pub one_number : {E : Type 0} (G : List ℕ → Result ℕ E → Type 0) (f : Found) (name : List ℕ) (r : Option ℕ) → ((u : List ℕ) (x : Result ℕ E) → G u x → ParsesUnsigned 64 10 u x) → (one_text f name ≡ None → r ≡ None) → ((t : List ℕ) → one_text f name ≡ Some t → ReadsOne G t r) → r ≡ number_in name (rows_of f)
unfolding number_in
one_number G f name r only none read = reads_option G (one_text f name) r only none read ∙ ap (option_and_then number_of) (one_text-rows f name)

unwrap_now : (o : Option (Bor (List ℕ))) (d : Bor (List ℕ)) → (unwrap_or o d).now ≡ unwrap_or (option_map (λ s. s.now) o) d.now
unwrap_now None d = refl
unwrap_now (Some s) d = refl

-- what `get_str` gives is the operand
pub one_operand : (f : Found) (name : List ℕ) (o : Option (Bor (List ℕ))) (d : Bor (List ℕ)) → d.now ≡ [] → option_map (λ s. s.now) o ≡ first_value f name → (unwrap_or o d).now ≡ operand_in name (rows_of f)
unfolding operand_in
one_operand f name o d empty got = unwrap_now o d ∙ (λ i. unwrap_or (got i) (empty i)) ∙ ap (λ w. unwrap_or w []) (first_value-rows f name)

-- and the text of an option
pub one_string : (f : Found) (name : List ℕ) (o : Option (Bor (List ℕ))) → option_map (λ s. s.now) o ≡ first_value f name → option_map (λ s. s.now) o ≡ text_in name (rows_of f)
unfolding text_in
one_string f name o got = got ∙ first_value-rows f name

not_empty : (k : ErrorKind) (kinds : Kinds) → IsAmong k kinds → is_empty kinds ≡ false
not_empty k [] among = absurd among
not_empty k (x ∷ xs) among = ne_eqb _ _ (λ e. omega arith)

is_refusal : (k : ErrorKind) → usage_err_of_kind k ≡ Refused → (k ≡ OutOfMemory) → ⊥
is_refusal k is memory = let bad : NoMemory ≡ Refused = ap usage_err_of_kind (sym memory) ∙ is in cc

-- words that clap refuses for another cause than memory match nothing
pub matched-refused : (app : App) (words : List (List ℕ)) (e : Error) → HasKind (fault_of app words) e → usage_err_of_kind (kind_of e) ≡ Refused → matched_rows app words ≡ None
unfolding matched_rows
matched-refused app words e kind is =
    ap (λ b. cond b (option_map (λ sub. sub.1) (subcommand_of app words)) None)
    (not_empty (kind_of e) (fault_of app words) (⊎_elim (λ memory. absurd (is_refusal (kind_of e) is memory)) (λ among. among) kind))

-- words that clap takes match what it says of the subcommand
pub matched-taken : (app : App) (words : List (List ℕ)) (m : ArgMatches) (found : Option (List Row)) → fault_of app words ≡ [] → subcommand_rows_of m ≡ subcommand_of app words → found ≡ option_map (λ sub. sub.1) (subcommand_rows_of m) → matched_rows app words ≡ found
unfolding matched_rows
matched-taken app words m found none same is =
    ap (λ kinds. cond (is_empty kinds) (option_map (λ sub. sub.1) (subcommand_of app words)) None) none
    ∙ sym (is ∙ ap (option_map (λ sub. sub.1)) same)
