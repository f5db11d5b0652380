-- Where clap takes the words, the numbers of `--budget` and `--workers` are in their ranges.
use Rattle.std.proofs.Common.{◌≡◌, ◌≤◌, ℕ, Bool, true, false, cond, List, [], ◌∷◌, codes, Option, Some, None, option_map, refl, sym, ap, ◌∙◌, subst, arith, true≢false}
use Rattle.std.specs.Prelude.{IfSome, find, slice_get, unwrap_or, option_and_then}
use Rattle.std.specs.List.{AllByRecursion}
use Rattle.std.specs.Str.{bytes_eq}
use Rattle.std.specs.Str.Parse.{digits_value, without_leading_plus}
use Rattle.std.proofs.lemmas.Bool.{eqb-true}
use Rattle.clap.specs.Words.{App, Kinds, Row, Text, fault_of, one_of, read_as, subcommand_of}
use Rattle.clap.specs.Simple.{built}
use Rattle.clap.specs.ValueTests.{is_unsigned_in}
use Rattle.clap.specs.Walk.{is_empty, row_text}
use Rattle.clap.specs.declared.builder.value_parser.Reading.{Reading}
use Rattle.clap.specs.declared.builder.value_parser.Reading.TheVariants.{AsWritten}
use Rattle.clap.specs.declared.builder.value_parser.ValueParser.TheVariants as parser
use Rattle.clap.proofs.ValueTestLemmas.{accepts-Accepts}
use Rattle.dt_base.specs.declared.limits.TheConstants.{BUDGET_LIMIT}
use Rattle.dt_options.specs.declared.options.TheConstants.{WORKERS_LIMIT}
use Rattle.dt_options.specs.Arguments.{default_budget, default_workers, matched_rows, number_in, number_of, run_app, export_app, demo_app, steps_app}
use Rattle.dt_options.proofs.Passed.{AreGood, IsSound, subcommand_good}

-- a value of this option is a number from 1 to a limit, and is read as it is written
abbrev Value : Text → ℕ → Text → Text → Type 0
Value name limit id v = bytes_eq id name ≡ true → is_unsigned_in 1 limit v ≡ true

abbrev Read : Text → Text → Reading → Type 0
Read name id how = bytes_eq id name ≡ true → how ≡ AsWritten

-- so it is with all arguments of a program's subcommands
abbrev AreSound : App → Text → ℕ → Type 0
AreSound app name limit = AllByRecursion (λ s. AllByRecursion (IsSound (Value name limit) (Read name)) s.rules) (built app).subs

never : {A : Type 0} → false ≡ true → A
never e = absurd (true≢false (sym e))

-- IMAGE, the options and `--help` of `run`, and the one argument of `help`
run_budget_sound : AreSound run_app (codes "budget") BUDGET_LIMIT
run_budget_sound = (
  (
    (λ same. never same, λ v passes same. never same),
    (
      (λ same. never same, λ v passes same. never same),
      (
        (λ same. refl, λ v passes same. passes),
        (
          (λ same. never same, λ v passes same. never same),
          (
            (λ same. never same, λ v passes same. never same),
            (
              (λ same. never same, λ v passes same. never same),
              ((λ same. never same, λ v passes same. never same), tt),
            ),
          ),
        ),
      ),
    ),
  ),
  (((λ same. never same, λ v passes same. never same), tt), tt),
)

run_workers_sound : AreSound run_app (codes "workers") WORKERS_LIMIT
run_workers_sound = (
  (
    (λ same. never same, λ v passes same. never same),
    (
      (λ same. never same, λ v passes same. never same),
      (
        (λ same. never same, λ v passes same. never same),
        (
          (λ same. refl, λ v passes same. passes),
          (
            (λ same. never same, λ v passes same. never same),
            (
              (λ same. never same, λ v passes same. never same),
              ((λ same. never same, λ v passes same. never same), tt),
            ),
          ),
        ),
      ),
    ),
  ),
  (((λ same. never same, λ v passes same. never same), tt), tt),
)

-- IMAGE, TO, the options and `--help` of `export`, and the one argument of `help`
export_budget_sound : AreSound export_app (codes "budget") BUDGET_LIMIT
export_budget_sound = (
  (
    (λ same. never same, λ v passes same. never same),
    (
      (λ same. never same, λ v passes same. never same),
      (
        (λ same. never same, λ v passes same. never same),
        (
          (λ same. refl, λ v passes same. passes),
          (
            (λ same. never same, λ v passes same. never same),
            (
              (λ same. never same, λ v passes same. never same),
              (
                (λ same. never same, λ v passes same. never same),
                ((λ same. never same, λ v passes same. never same), tt),
              ),
            ),
          ),
        ),
      ),
    ),
  ),
  (((λ same. never same, λ v passes same. never same), tt), tt),
)

export_workers_sound : AreSound export_app (codes "workers") WORKERS_LIMIT
export_workers_sound = (
  (
    (λ same. never same, λ v passes same. never same),
    (
      (λ same. never same, λ v passes same. never same),
      (
        (λ same. never same, λ v passes same. never same),
        (
          (λ same. never same, λ v passes same. never same),
          (
            (λ same. refl, λ v passes same. passes),
            (
              (λ same. never same, λ v passes same. never same),
              (
                (λ same. never same, λ v passes same. never same),
                ((λ same. never same, λ v passes same. never same), tt),
              ),
            ),
          ),
        ),
      ),
    ),
  ),
  (((λ same. never same, λ v passes same. never same), tt), tt),
)

-- the number, `--workers`, `--host` and `--help` of `demo`, and the one argument of `help`
demo_workers_sound : AreSound demo_app (codes "workers") WORKERS_LIMIT
demo_workers_sound = (
  (
    (λ same. never same, λ v passes same. never same),
    (
      (λ same. refl, λ v passes same. passes),
      (
        (λ same. never same, λ v passes same. never same),
        ((λ same. never same, λ v passes same. never same), tt),
      ),
    ),
  ),
  (((λ same. never same, λ v passes same. never same), tt), tt),
)

-- IMAGE, FILE, the options and `--help` of `steps`, and the one argument of `help`
steps_budget_sound : AreSound steps_app (codes "budget") BUDGET_LIMIT
steps_budget_sound = (
  (
    (λ same. never same, λ v passes same. never same),
    (
      (λ same. never same, λ v passes same. never same),
      (
        (λ same. never same, λ v passes same. never same),
        (
          (λ same. refl, λ v passes same. passes),
          (
            (λ same. never same, λ v passes same. never same),
            (
              (λ same. never same, λ v passes same. never same),
              ((λ same. never same, λ v passes same. never same), tt),
            ),
          ),
        ),
      ),
    ),
  ),
  (((λ same. never same, λ v passes same. never same), tt), tt),
)

steps_workers_sound : AreSound steps_app (codes "workers") WORKERS_LIMIT
steps_workers_sound = (
  (
    (λ same. never same, λ v passes same. never same),
    (
      (λ same. never same, λ v passes same. never same),
      (
        (λ same. never same, λ v passes same. never same),
        (
          (λ same. never same, λ v passes same. never same),
          (
            (λ same. refl, λ v passes same. passes),
            (
              (λ same. never same, λ v passes same. never same),
              ((λ same. never same, λ v passes same. never same), tt),
            ),
          ),
        ),
      ),
    ),
  ),
  (((λ same. never same, λ v passes same. never same), tt), tt),
)

none_of : (kinds : Kinds) → is_empty kinds ≡ true → kinds ≡ []
none_of [] empty = refl
none_of (k ∷ ks) empty = let short = eqb-true _ _ empty in absurd (omega arith)

taken_rows : (sub : Option (Text × List Row)) (kinds : Kinds) (rows : List Row) → cond (is_empty kinds) (option_map (λ sub. sub.1) sub) None ≡ Some rows → (kinds ≡ []) × (option_map (λ sub. sub.1) sub ≡ Some rows)
taken_rows sub kinds rows is = go (is_empty kinds) refl is
  where
    go : (b : Bool) → is_empty kinds ≡ b → cond b (option_map (λ sub. sub.1) sub) None ≡ Some rows → (kinds ≡ []) × (option_map (λ sub. sub.1) sub ≡ Some rows)
    go true empty is = (none_of kinds empty, is)
    go false empty is = absurd (cc)

module _ (name : Text) (limit default : ℕ) where
  first_text : (how : Reading) (values : List Text) → how ≡ AsWritten → AllByRecursion (λ v. is_unsigned_in 1 limit v ≡ true) values
      → IfSome (option_map (read_as how) (slice_get values 0)) (λ t. is_unsigned_in 1 limit t ≡ true)
  first_text how [] is all = tt
  first_text how (v ∷ vs) is all = ap (λ h. is_unsigned_in 1 limit (read_as h v)) is ∙ all.0

  in_all : (id : Text) (values : List Text) → bytes_eq id name ≡ true → AllByRecursion (Value name limit id) values → AllByRecursion (λ v. is_unsigned_in 1 limit v ≡ true) values
  in_all id [] same all = tt
  in_all id (v ∷ vs) same all = (all.0 same, in_all id vs same all.1)

  text_in : (rows : List Row) → AreGood (Value name limit) (Read name) rows → IfSome (one_of name rows) (λ t. is_unsigned_in 1 limit t ≡ true)
  text_in [] good = tt
  text_in (r ∷ rs) good = go (bytes_eq r.id name) refl (text_in rs good.1)
    where
      go : (b : Bool) → bytes_eq r.id name ≡ b → IfSome (one_of name rs) (λ t. is_unsigned_in 1 limit t ≡ true)
          → IfSome (option_and_then row_text (cond b (Some r) (find (λ r. bytes_eq r.id name) rs))) (λ t. is_unsigned_in 1 limit t ≡ true)
      go true same rest = first_text r.reading r.values (good.0.0 same) (in_all r.id r.values same good.0.1)
      go false same rest = rest

  number_within : (1 ≤ default) × (default ≤ limit) → (o : Option Text) → IfSome o (λ t. is_unsigned_in 1 limit t ≡ true)
      → (1 ≤ unwrap_or (option_and_then number_of o) default) × (unwrap_or (option_and_then number_of o) default ≤ limit)
  number_within small None good = small
  number_within small (Some t) good = go (is_unsigned_in 0 18446744073709551615 t)
    where
      go : (b : Bool) → (1 ≤ unwrap_or (cond b (Some (digits_value 10 (without_leading_plus t))) None) default) × (unwrap_or (cond b (Some (digits_value 10 (without_leading_plus t))) None) default ≤ limit)
      go true = let p = accepts-Accepts false (parser.Unsigned 1 limit) t good in (p.2, p.3)
      go false = small

  good_rows : (sub : Option (Text × List Row)) (rows : List Row) → option_map (λ sub. sub.1) sub ≡ Some rows → IfSome sub (λ sub. AreGood (Value name limit) (Read name) sub.1) → AreGood (Value name limit) (Read name) rows
  good_rows None rows is good = absurd (cc)
  good_rows (Some sub) rows is good = let same : sub.1 ≡ rows = cc in subst (AreGood (Value name limit) (Read name)) same good

  -- the number of the option, in words that clap takes
  within : (app : App) → AreSound app name limit → (1 ≤ default) × (default ≤ limit) → (words : List (List ℕ)) (rows : List Row) (n : ℕ) → matched_rows app words ≡ Some rows → n ≡ unwrap_or (number_in name rows) default → (1 ≤ n) × (n ≤ limit)
  unfolding matched_rows number_in
  within app sound small words rows n is number =
      let taken = taken_rows (subcommand_of app words) (fault_of app words) rows is in
      let good = good_rows (subcommand_of app words) rows taken.1 (subcommand_good (Value name limit) (Read name) app words sound taken.0) in
      let found = number_within small (one_of name rows) (text_in rows good) in
      subst (λ m. (1 ≤ m) × (m ≤ limit)) (sym number) found

-- the budget of a run
pub run_budget_within : (words : List (List ℕ)) (rows : List Row) (n : ℕ) → matched_rows run_app words ≡ Some rows → n ≡ unwrap_or (number_in (codes "budget") rows) default_budget → (1 ≤ n) × (n ≤ BUDGET_LIMIT)
run_budget_within = within (codes "budget") BUDGET_LIMIT default_budget run_app run_budget_sound (omega arith, omega arith)

-- the workers of a run
pub run_workers_within : (words : List (List ℕ)) (rows : List Row) (n : ℕ) → matched_rows run_app words ≡ Some rows → n ≡ unwrap_or (number_in (codes "workers") rows) default_workers → (1 ≤ n) × (n ≤ WORKERS_LIMIT)
run_workers_within = within (codes "workers") WORKERS_LIMIT default_workers run_app run_workers_sound (omega arith, omega arith)

-- the budget of an export
pub export_budget_within : (words : List (List ℕ)) (rows : List Row) (n : ℕ) → matched_rows export_app words ≡ Some rows → n ≡ unwrap_or (number_in (codes "budget") rows) default_budget → (1 ≤ n) × (n ≤ BUDGET_LIMIT)
export_budget_within = within (codes "budget") BUDGET_LIMIT default_budget export_app export_budget_sound (omega arith, omega arith)

-- the workers of an export
pub export_workers_within : (words : List (List ℕ)) (rows : List Row) (n : ℕ) → matched_rows export_app words ≡ Some rows → n ≡ unwrap_or (number_in (codes "workers") rows) default_workers → (1 ≤ n) × (n ≤ WORKERS_LIMIT)
export_workers_within = within (codes "workers") WORKERS_LIMIT default_workers export_app export_workers_sound (omega arith, omega arith)

-- the workers of a demonstration
pub demo_workers_within : (words : List (List ℕ)) (rows : List Row) (n : ℕ) → matched_rows demo_app words ≡ Some rows → n ≡ unwrap_or (number_in (codes "workers") rows) default_workers → (1 ≤ n) × (n ≤ WORKERS_LIMIT)
demo_workers_within = within (codes "workers") WORKERS_LIMIT default_workers demo_app demo_workers_sound (omega arith, omega arith)

-- the budget of steps
pub steps_budget_within : (words : List (List ℕ)) (rows : List Row) (n : ℕ) → matched_rows steps_app words ≡ Some rows → n ≡ unwrap_or (number_in (codes "budget") rows) default_budget → (1 ≤ n) × (n ≤ BUDGET_LIMIT)
steps_budget_within = within (codes "budget") BUDGET_LIMIT default_budget steps_app steps_budget_sound (omega arith, omega arith)

-- the workers of steps
pub steps_workers_within : (words : List (List ℕ)) (rows : List Row) (n : ℕ) → matched_rows steps_app words ≡ Some rows → n ≡ unwrap_or (number_in (codes "workers") rows) default_workers → (1 ≤ n) × (n ≤ WORKERS_LIMIT)
steps_workers_within = within (codes "workers") WORKERS_LIMIT default_workers steps_app steps_workers_sound (omega arith, omega arith)
