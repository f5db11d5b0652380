-- What the parts of the words make together.
use Rattle.std.proofs.Common.{◌≡◌, ◌<◌, ◌+◌, ◌-◌, ℕ, Bool, true, false, not, cond, List, [], ◌∷◌, map, length, take, drop, codes, Option, Some, None, refl, sym, ap, ◌∙◌, arith}
use Rattle.std.specs.Prelude.{nat_lt, unwrap_or, option_map, option_and_then}
use Rattle.std.specs.List.{list_all, position, prefix_len}
use Rattle.std.specs.Str.{bytes_eq}
use Rattle.std.proofs.lemmas.List.{drop-map, take-map, length-map, length-drop, take-append-drop}
use Rattle.std.proofs.lemmas.List.Folds.{list_all-map, list_all-append}
use Rattle.clap.proofs.WalkLemmas.{both}
use Rattle.clap.specs.Words.{Row}
use Rattle.dt_base.specs.Command.{Words, IsCommand}
use Rattle.dt_base.specs.Path.{has_no_nul}
use Rattle.dt_options.specs.Arguments.{run_app, export_app, demo_app, steps_app, matched_rows, operand_in, number_in, default_workers}
use Rattle.dt_options.specs.Options.{Request, ExportRequest, DemoRequest, StepsRequest, request, export_request, demo_request, steps_request, form_of, form_at, form_with_command, form_without_command, run_form, export_form, demo_form, steps_form, begins_with, request_in, export_in, demo_in, steps_in, command_in, command_at}
use Rattle.dt_base.specs.Assignment.{is_assignment}

prefix_len-map : {A B : Type 0} (p : B → Bool) (f : A → B) (xs : List A) → prefix_len p (map f xs) ≡ prefix_len (λ x. p (f x)) xs
prefix_len-map p f [] = refl
prefix_len-map p f (x ∷ xs) = ap (λ n. cond (p (f x)) (1 + n) 0) (prefix_len-map p f xs)

position-map : {A B : Type 0} (p : B → Bool) (f : A → B) (xs : List A) → position p (map f xs) ≡ position (λ x. p (f x)) xs
position-map p f xs =
    let same = prefix_len-map (λ x. not (p x)) f xs in
    (λ i. cond (nat_lt (same i) (length-map xs f i)) (Some (same i)) None)

-- ---- after `--`, where the words are seen by f

module _ {A : Type 0} (f : A → List ℕ) (words : List A) where
  -- a word that holds a NUL
  pub command-nul : list_all (λ word. has_no_nul (f word)) words ≡ false → command_in (map f words) ≡ None
  unfolding command_in
  command-nul is = ap (λ b. cond b (command_at (map f words) (position (λ word. not (is_assignment word)) (map f words))) None) (list_all-map has_no_nul f words ∙ is)

  -- no word but settings of variables
  pub command-none : position (λ word. not (is_assignment (f word))) words ≡ None → command_in (map f words) ≡ None
  unfolding command_in
  command-none is = ap (λ index. cond (list_all has_no_nul (map f words)) (command_at (map f words) index) None) (position-map (λ word. not (is_assignment word)) f words ∙ is) ∙ go (list_all has_no_nul (map f words)) None
    where
      go : (b : Bool) (o : Option Words) → cond b o o ≡ o
      go true o = refl
      go false o = refl

  -- a program, and the words on both sides
  pub command-some : (n : ℕ) (command : Words) → list_all (λ word. has_no_nul (f word)) words ≡ true → position (λ word. not (is_assignment (f word))) words ≡ Some n → command.args ≡ map f (drop n words) → command.env ≡ map f (take n words) → command.input ≡ [] → command_in (map f words) ≡ Some command
  unfolding command_in
  command-some n command good is args env none =
      ap (λ b. cond b (command_at (map f words) (position (λ word. not (is_assignment word)) (map f words))) None) (list_all-map has_no_nul f words ∙ good)
      ∙ ap (command_at (map f words)) (position-map (λ word. not (is_assignment word)) f words ∙ is)
      ∙ (λ i. Some (record { args = (drop-map f n words ∙ sym args) i; env = (take-map f n words ∙ sym env) i; input = sym none i }))

  parts_good : (n : ℕ) → list_all (λ word. has_no_nul (f word)) words ≡ true → (list_all has_no_nul (map f (take n words)) ≡ true) × (list_all has_no_nul (map f (drop n words)) ≡ true)
  parts_good n good =
      let whole = ap (list_all (λ word. has_no_nul (f word))) (take-append-drop n words) ∙ good in
      let parts = both _ _ (sym (list_all-append (λ word. has_no_nul (f word)) (take n words) (drop n words)) ∙ whole) in
      (list_all-map has_no_nul f (take n words) ∙ parts.0, list_all-map has_no_nul f (drop n words) ∙ parts.1)

  -- such words are a command
  pub command-good : (n : ℕ) (args env : List (List ℕ)) → list_all (λ word. has_no_nul (f word)) words ≡ true → n < length words → args ≡ map f (drop n words) → env ≡ map f (take n words) → IsCommand (record { args = args; env = env; input = [] })
  command-good n args env good within is_args is_env =
      let parts = parts_good n good in
      let long : length args ≡ length words - n = ap length is_args ∙ length-map (drop n words) f ∙ length-drop n words in
      record {
        some = omega arith;
        args = ap (list_all has_no_nul) is_args ∙ parts.1;
        env = ap (list_all has_no_nul) is_env ∙ parts.0;
      }

-- ---- the words before and after `--`

pub request_in-none : (before after : List (List ℕ)) → matched_rows run_app before ≡ None → request_in before after ≡ None
request_in-none before after none = ap (λ found. option_and_then (λ rows. option_map (request rows) (command_in after)) found) none

pub request_in-some : (before after : List (List ℕ)) (rows : List Row) (command : Words) (r : Request) → matched_rows run_app before ≡ Some rows → command_in after ≡ Some command → r ≡ request rows command → request_in before after ≡ Some r
request_in-some before after rows command r found named is =
    ap (option_and_then (λ rows. option_map (request rows) (command_in after))) found
    ∙ ap (option_map (request rows)) named
    ∙ ap Some (sym is)

pub export_in-none : (before after : List (List ℕ)) → matched_rows export_app before ≡ None → export_in before after ≡ None
export_in-none before after none = ap (λ found. option_and_then (λ rows. option_map (export_request rows) (command_in after)) found) none

pub export_in-some : (before after : List (List ℕ)) (rows : List Row) (command : Words) (r : ExportRequest) → matched_rows export_app before ≡ Some rows → command_in after ≡ Some command → r.run ≡ request rows command → r.to ≡ operand_in (codes "to") rows → export_in before after ≡ Some r
export_in-some before after rows command r found named is to =
    ap (option_and_then (λ rows. option_map (export_request rows) (command_in after))) found
    ∙ ap (option_map (export_request rows)) named
    ∙ (λ i. Some (record { run = sym is i; to = sym to i }))

-- ---- the words of a demonstration

pub demo_in-none : (words : List (List ℕ)) → matched_rows demo_app words ≡ None → demo_in words ≡ None
unfolding demo_in
demo_in-none words none = ap (option_and_then (λ rows. option_map (demo_request rows) (number_in (codes "number") rows))) none

pub demo_in-no_number : (words : List (List ℕ)) (rows : List Row) → matched_rows demo_app words ≡ Some rows → number_in (codes "number") rows ≡ None → demo_in words ≡ None
unfolding demo_in
demo_in-no_number words rows found none =
    ap (option_and_then (λ rows. option_map (demo_request rows) (number_in (codes "number") rows))) found
    ∙ ap (option_map (demo_request rows)) none

pub demo_in-some : (words : List (List ℕ)) (rows : List Row) (r : DemoRequest) → matched_rows demo_app words ≡ Some rows → number_in (codes "number") rows ≡ Some r.number
    → r.workers ≡ unwrap_or (number_in (codes "workers") rows) default_workers → r.host ≡ number_in (codes "host") rows → demo_in words ≡ Some r
unfolding demo_in
demo_in-some words rows r found number workers host =
    ap (option_and_then (λ rows. option_map (demo_request rows) (number_in (codes "number") rows))) found
    ∙ ap (option_map (demo_request rows)) number
    ∙ (λ i. Some (record { number = r.number; workers = sym workers i; host = sym host i }))

-- ---- the words of steps

pub steps_in-none : (words : List (List ℕ)) → matched_rows steps_app words ≡ None → steps_in words ≡ None
unfolding steps_in
steps_in-none words none = ap (option_map steps_request) none

pub steps_in-some : (words : List (List ℕ)) (rows : List Row) (r : StepsRequest) → matched_rows steps_app words ≡ Some rows → r ≡ steps_request rows → steps_in words ≡ Some r
unfolding steps_in
steps_in-some words rows r found is = ap (option_map steps_request) found ∙ ap Some (sym is)

-- ---- all words

module _ (before after : List (List ℕ)) where
  pub with_command-run : (r : Option Request) → begins_with (codes "run") before ≡ true → request_in before after ≡ r → form_with_command before after ≡ option_map run_form r
  unfolding form_with_command
  with_command-run r first is =
      ap (λ b. cond b (option_map run_form (request_in before after)) (cond (begins_with (codes "export") before) (option_map export_form (export_in before after)) None)) first
      ∙ ap (option_map run_form) is

  pub with_command-export : (r : Option ExportRequest) → begins_with (codes "run") before ≡ false → begins_with (codes "export") before ≡ true → export_in before after ≡ r → form_with_command before after ≡ option_map export_form r
  unfolding form_with_command
  with_command-export r other first is =
      ap (λ b. cond b (option_map run_form (request_in before after)) (cond (begins_with (codes "export") before) (option_map export_form (export_in before after)) None)) other
      ∙ ap (λ b. cond b (option_map export_form (export_in before after)) None) first
      ∙ ap (option_map export_form) is

  pub with_command-none : begins_with (codes "run") before ≡ false → begins_with (codes "export") before ≡ false → form_with_command before after ≡ None
  unfolding form_with_command
  with_command-none other last =
      ap (λ b. cond b (option_map run_form (request_in before after)) (cond (begins_with (codes "export") before) (option_map export_form (export_in before after)) None)) other
      ∙ ap (λ b. cond b (option_map export_form (export_in before after)) None) last

module _ (words : List (List ℕ)) where
  pub without_command-demo : (r : Option DemoRequest) → begins_with (codes "demo") words ≡ true → demo_in words ≡ r → form_without_command words ≡ option_map demo_form r
  unfolding form_without_command
  without_command-demo r first is =
      ap (λ b. cond b (option_map demo_form (demo_in words)) (cond (begins_with (codes "steps") words) (option_map steps_form (steps_in words)) None)) first
      ∙ ap (option_map demo_form) is

  pub without_command-steps : (r : Option StepsRequest) → begins_with (codes "demo") words ≡ false → begins_with (codes "steps") words ≡ true → steps_in words ≡ r → form_without_command words ≡ option_map steps_form r
  unfolding form_without_command
  without_command-steps r other first is =
      ap (λ b. cond b (option_map demo_form (demo_in words)) (cond (begins_with (codes "steps") words) (option_map steps_form (steps_in words)) None)) other
      ∙ ap (λ b. cond b (option_map steps_form (steps_in words)) None) first
      ∙ ap (option_map steps_form) is

  pub without_command-none : begins_with (codes "demo") words ≡ false → begins_with (codes "steps") words ≡ false → form_without_command words ≡ None
  unfolding form_without_command
  without_command-none other last =
      ap (λ b. cond b (option_map demo_form (demo_in words)) (cond (begins_with (codes "steps") words) (option_map steps_form (steps_in words)) None)) other
      ∙ ap (λ b. cond b (option_map steps_form (steps_in words)) None) last

-- where words have a `--`, by those on both sides
pub form_of-with_command : {A : Type 0} (f : A → List ℕ) (words before after : List A) (index : ℕ) → position (λ word. bytes_eq (f word) (codes "--")) words ≡ Some index
    → before ≡ take index words → after ≡ drop (index + 1) words → form_of (map f words) ≡ form_with_command (map f before) (map f after)
unfolding form_of
form_of-with_command f words before after index is is_before is_after =
    ap (form_at (map f words)) (position-map (λ word. bytes_eq word (codes "--")) f words ∙ is)
    ∙ (λ i. form_with_command ((take-map f index words ∙ ap (map f) (sym is_before)) i) ((drop-map f (index + 1) words ∙ ap (map f) (sym is_after)) i))

-- where they have none
pub form_of-without_command : {A : Type 0} (f : A → List ℕ) (words : List A) → position (λ word. bytes_eq (f word) (codes "--")) words ≡ None → form_of (map f words) ≡ form_without_command (map f words)
unfolding form_of
form_of-without_command f words is = ap (form_at (map f words)) (position-map (λ word. bytes_eq word (codes "--")) f words ∙ is)

-- the first word
pub begins_with-first : {A : Type 0} (f : A → List ℕ) (name : List ℕ) (words : List A) (word : A) (rest : List A) → words ≡ word ∷ rest → bytes_eq (f word) name ≡ begins_with name (map f words)
begins_with-first f name words word rest is = sym (ap (λ ws. begins_with name (map f ws)) is)

pub begins_with-nothing : {A : Type 0} (f : A → List ℕ) (name : List ℕ) (words : List A) → words ≡ [] → false ≡ begins_with name (map f words)
begins_with-nothing f name words is = sym (ap (λ ws. begins_with name (map f ws)) is)
