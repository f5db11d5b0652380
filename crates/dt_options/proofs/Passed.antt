-- Where clap finds no fault in the words, each value that it keeps passed the test of its argument.
use Rattle.std.proofs.Common.{◌≡◌, ◌+◌, ◌&&◌, ℕ, zero, suc, Bool, true, false, cond, ◌||◌, List, [], ◌∷◌, ◌++◌, fold, drop, length, min, Option, Some, None, option_map, refl, sym, ap, ◌∙◌, subst, arith}
use Rattle.std.specs.Prelude.{IfSome, is_some, find, encode_utf8, slice_get}
use Rattle.std.specs.List.{AllByRecursion}
use Rattle.std.specs.Option.{option_map_or}
use Rattle.std.specs.Str.{bytes_eq, chars}
use Rattle.std.proofs.lemmas.Bool.{ne_eqb}
use Rattle.std.proofs.lemmas.Slice.Eq.{bytes_eq-Decides}
use Rattle.clap.specs.Lexer.{long_of, short_of}
use Rattle.clap.specs.Facts.{parser_of_value, unwrap_or_range}
use Rattle.clap.specs.Matches.{count_text}
use Rattle.clap.specs.Walk.{Held, Names, Outcome, Row, Rule, Step, Text, Waiting, Walk, action_of, after_flag, after_step, answers_to, arg_by_id, arg_by_index, arg_by_long, arg_by_short, at_row, attached_value, bundle_met, bundle_step, count_of, default_rows, done, finished, flag_met, has_row, idle, is_empty, is_pending, long_met, long_or_other, more_values, most_values, new_count, next, nothing_held, option, option_met, option_word, plain, plain_word, positional, reacted, reading_by, refused, settled, settled_rows, short_met, short_or_plain, subcommand, subcommand_met, subcommand_or_other, takes_several, takes_values, to_positional, trailing, used, used_as, used_by_id, value, values_or_missing, waits, walk, walk_from, walked, walked_from, with_count, with_default, with_values, without, word_met}
use Rattle.clap.specs.Simple.{App, Shape, argument_words, built, entered, label_of, names_of, rows_at, subcommand_of}
use Rattle.clap.specs.Takes.{value_passes}
use Rattle.clap.specs.Kinds.{Kinds, or_else, range_kinds, request_kinds, value_kinds}
use Rattle.clap.specs.Faults.{action_fault, bundle_fault, bundle_step_fault, default_fault, defaults_fault, entered_fault, fault_of, flag_word_fault, flags_fault, given_default_fault, level_fault, long_fault, option_fault, other_fault, react_fault, repeat_fault, settle_fault, short_fault, step_fault, stray_fault, turn_fault, use_fault, values_fault, walk_fault, word_fault}
use Rattle.clap.specs.declared.builder.action.ArgAction.{ArgAction}
use Rattle.clap.specs.declared.builder.action.ArgAction.TheVariants as action
use Rattle.clap.specs.declared.builder.value_parser.Reading.{Reading}
use Rattle.clap.specs.declared.error.kind.ErrorKind.{ErrorKind}
use Rattle.clap.specs.declared.error.kind.ErrorKind.TheVariants as kind
use Rattle.clap.specs.declared.parser.matches.ValueSource.{ValueSource}
use Rattle.clap.specs.declared.parser.matches.ValueSource.TheVariants.{CommandLine, DefaultValue}

or_none : (a b : Kinds) → or_else a b ≡ [] → (a ≡ []) × (b ≡ [])
or_none [] b none = (refl, none)
or_none (k ∷ ks) b none = absurd (cc)

passes : (b : Bool) (k : ErrorKind) → cond b [] (k ∷ []) ≡ [] → b ≡ true
passes true k none = refl
passes false k none = absurd (cc)

all_append : {X : Type 0} (P : X → Type 0) (xs ys : List X) → AllByRecursion P xs → AllByRecursion P ys → AllByRecursion P (xs ++ ys)
all_append P [] ys all more = more
all_append P (x ∷ xs) ys all more = (all.0, all_append P xs ys all.1 more)

all_found : {X : Type 0} (P : X → Type 0) (p : X → Bool) (xs : List X) → AllByRecursion P xs → IfSome (find p xs) P
all_found P p [] all = tt
all_found P p (x ∷ xs) all = go (p x) (all_found P p xs all.1)
  where
    go : (b : Bool) → IfSome (find p xs) P → IfSome (cond b (Some x) (find p xs)) P
    go true rest = all.0
    go false rest = rest

-- a value may be kept for an argument with this id, and its values may be read so
module _ (Value : Text → Text → Type 0) (Read : Text → Reading → Type 0) where
  abbrev pub IsGoodRow : Row → Type 0
  IsGoodRow r = Read r.id r.reading × AllByRecursion (Value r.id) r.values

  abbrev pub AreGood : List Row → Type 0
  AreGood rows = AllByRecursion IsGoodRow rows

  -- what passes the test of this argument may be kept for it
  abbrev pub IsSound : Rule → Type 0
  IsSound a = Read a.id (reading_by a) × ((v : Text) → value_passes a v ≡ true → Value a.id v)

  values_good : (a : Rule) (values : List Text) → IsSound a → values_fault a values ≡ [] → AllByRecursion (Value a.id) values
  values_good a [] sound none = tt
  values_good a (v ∷ vs) sound none =
      let parts = or_none (value_kinds a.ignore_case (parser_of_value a.parser) v) (values_fault a vs) none in
      (sound.1 v (passes (value_passes a v) _ parts.0), values_good a vs sound parts.1)

  at_row_good : (id : Text) (change : Row → List Row) (missing rows : List Row) → ((r : Row) → bytes_eq r.id id ≡ true → IsGoodRow r → AreGood (change r)) → AreGood missing → AreGood rows → AreGood (at_row id change missing rows)
  at_row_good id change missing [] changes none good = none
  at_row_good id change missing (r ∷ rs) changes none good = go (bytes_eq r.id id) refl (at_row_good id change missing rs changes none good.1)
    where
      go : (b : Bool) → bytes_eq r.id id ≡ b → AreGood (at_row id change missing rs) → AreGood (cond b (change r ++ rs) (r ∷ at_row id change missing rs))
      go true same rest = all_append IsGoodRow (change r) rs (changes r same good.0) good.1
      go false same rest = (good.0, rest)

  without_good : (id : Text) (rows : List Row) → AreGood rows → AreGood (without id rows)
  without_good id rows good = at_row_good id (λ _. []) [] rows (λ r same here. tt) tt good

  moved : (r : Row) (id : Text) (values : List Text) → bytes_eq r.id id ≡ true → AllByRecursion (Value id) values → AllByRecursion (Value r.id) values
  moved r id values same all = subst (λ i. AllByRecursion (Value i) values) (sym ((bytes_eq-Decides r.id id).0 same)) all

  with_values_good : (a : Rule) (s : ValueSource) (values : List Text) (rows : List Row) → IsSound a → AllByRecursion (Value a.id) values → AreGood rows → AreGood (with_values a.id (reading_by a) s values rows)
  with_values_good a s values rows sound all good =
      at_row_good a.id (more_values s values) _ rows (λ r same here. ((here.0, all_append (Value r.id) r.values values here.1 (moved r a.id values same all)), tt)) ((sound.0, all), tt) good

  with_count_good : (a : Rule) (s : ValueSource) (n : ℕ) (rows : List Row) → IsSound a → Value a.id (count_text n) → AreGood rows → AreGood (with_count a.id (reading_by a) s n rows)
  with_count_good a s n rows sound here good =
      at_row_good a.id (new_count s n) _ rows (λ r same old. ((old.0, all_append (Value r.id) r.values (count_text n ∷ []) old.1 (moved r a.id (count_text n ∷ []) same (here, tt))), tt)) ((sound.0, (here, tt)), tt) good

  -- ---- one use of an argument

  set_good : (again : Bool) (a : Rule) (values : List Text) (rows : List Row) → IsSound a → or_else (repeat_fault again a.id rows) (values_fault a values) ≡ [] → AreGood rows
      → AreGood (with_values a.id (reading_by a) CommandLine values (without a.id rows))
  set_good again a values rows sound none good =
      with_values_good a CommandLine values (without a.id rows) sound (values_good a values sound (or_none (repeat_fault again a.id rows) (values_fault a values) none).1) (without_good a.id rows good)

  act_good : (x : ArgAction) (again : Bool) (a : Rule) (values : List Text) (rows : List Row) → IsSound a → action_fault x again a values rows ≡ [] → AreGood rows → AreGood (used_as x a.id (reading_by a) values rows)
  act_good action.Set again a values rows sound none good = set_good again a values rows sound none good
  act_good action.SetTrue again a values rows sound none good = set_good again a values rows sound none good
  act_good action.SetFalse again a values rows sound none good = set_good again a values rows sound none good
  act_good action.Append again a values rows sound none good = with_values_good a CommandLine values rows sound (values_good a values sound none) good
  act_good action.Count again a [] rows sound none good = with_count_good a CommandLine (min (count_of a.id rows + 1) 255) (without a.id rows) sound (sound.1 _ (passes _ _ none)) (without_good a.id rows good)
  act_good action.Count again a (v ∷ vs) rows sound none good = with_values_good a CommandLine (v ∷ vs) (without a.id rows) sound (values_good a (v ∷ vs) sound none) (without_good a.id rows good)
  act_good action.Help again a values rows sound none good = good
  act_good action.HelpShort again a values rows sound none good = good
  act_good action.HelpLong again a values rows sound none good = good
  act_good action.Version again a values rows sound none good = good

  use_good : (again : Bool) (a : Rule) (values : List Text) (rows : List Row) → IsSound a → use_fault again a values rows ≡ [] → AreGood rows → AreGood (used a values rows)
  use_good again a values rows sound none good =
      act_good (action_of a) again a (values_or_missing a values) rows sound
      (or_none (range_kinds (unwrap_or_range a.range).start_inclusive (most_values a) (length values)) (action_fault (action_of a) again a (values_or_missing a values) rows) none).1 good

  -- ---- one word

  settle_good : (c : List Rule) (again : Bool) (h : Held) → AllByRecursion IsSound c → settle_fault c again h ≡ [] → AreGood h.rows → AreGood (settled c h).rows
  settle_good c again h sound none good = go h.pending none
    where
      by_id : (o : Option Rule) (values : List Text) → IfSome o IsSound → option_map_or (λ a. use_fault again a values h.rows) o [] ≡ [] → AreGood (used_by_id o values h.rows)
      by_id None values sound none = good
      by_id (Some a) values sound none = use_good again a values h.rows sound none good

      go : (o : Option (Text × List Text)) → option_map_or (λ p. option_map_or (λ a. use_fault again a p.1 h.rows) (arg_by_id c p.0) []) o [] ≡ [] → AreGood (settled_rows c o h.rows)
      go None none = good
      go (Some p) none = by_id (arg_by_id c p.0) p.1 (all_found IsSound _ c sound) none

  react_good : (c : List Rule) (again : Bool) (a : Rule) (values : List Text) (h : Held) → AllByRecursion IsSound c → IsSound a → react_fault c again a values h ≡ [] → AreGood h.rows → AreGood (reacted c a values h).rows
  react_good c again a values h all sound none good =
      let parts = or_none (settle_fault c again h) (use_fault again a values (settled c h).rows) none in
      use_good again a values (settled c h).rows sound parts.1 (settle_good c again h all parts.0 good)

  option_good : (c : List Rule) (again : Bool) (a : Rule) (v : Option Text) (h : Held) → AllByRecursion IsSound c → IsSound a → option_fault c again a v h ≡ [] → AreGood h.rows → AreGood (option_met c a v h).0.rows
  option_good c again a None h all sound none good = settle_good c again h all none good
  option_good c again a (Some v) h all sound none good = react_good c again a (v ∷ []) h all sound none good

  long_good : (c : List Rule) (again : Bool) (o : Option Rule) (v : Option Text) (h : Held) → AllByRecursion IsSound c → IfSome o IsSound → long_fault c again o v h ≡ [] → AreGood h.rows → AreGood (long_met c o v h).0.rows
  long_good c again None v h all sound none good = good
  long_good c again (Some a) v h all sound none good = go (takes_values a) none
    where
      flag : (v : Option Text) → cond (is_some v) (kind.TooManyValues ∷ []) (react_fault c again a [] h) ≡ [] → AreGood (flag_met c a v h).0.rows
      flag None none = react_good c again a [] h all sound none good
      flag (Some v) none = good

      go : (b : Bool) → cond b (option_fault c again a v h) (cond (is_some v) (kind.TooManyValues ∷ []) (react_fault c again a [] h)) ≡ [] → AreGood (cond b (option_met c a v h) (flag_met c a v h)).0.rows
      go true none = option_good c again a v h all sound none good
      go false none = flag v none

  short_good : (c : List Rule) (again : Bool) (o : Option Rule) (rest : Text) (h : Held) (fault : Held → Kinds) (after : Held → Held × Outcome) → AllByRecursion IsSound c → IfSome o IsSound
      → ((k : Held) → fault k ≡ [] → AreGood k.rows → AreGood (after k).0.rows) → short_fault c again o rest h fault ≡ [] → AreGood h.rows → AreGood (short_met c o rest h after).0.rows
  short_good c again None rest h fault after all sound more none good = good
  short_good c again (Some a) rest h fault after all sound more none good = go (takes_values a) none
    where
      go : (b : Bool) → cond b (option_fault c again a (attached_value rest) h) (or_else (react_fault c again a [] h) (fault (reacted c a [] h))) ≡ []
          → AreGood (cond b (option_met c a (attached_value rest) h) (after (reacted c a [] h))).0.rows
      go true none = option_good c again a (attached_value rest) h all sound none good
      go false none =
          let parts = or_none (react_fault c again a [] h) (fault (reacted c a [] h)) none in
          more (reacted c a [] h) parts.1 (react_good c again a [] h all sound parts.0 good)

  bundle_step_good : (c : List Rule) (again : Bool) (o : Option ℕ) (flags : Text) (skip : ℕ) (so_far : Outcome) (h : Held) (fault : Text → ℕ → Held → Kinds) (after : Text → ℕ → Outcome → Held → Held × Outcome) → AllByRecursion IsSound c
      → ((t : Text) (n : ℕ) (so : Outcome) (k : Held) → fault t n k ≡ [] → AreGood k.rows → AreGood (after t n so k).0.rows)
      → bundle_step_fault c again o flags skip h fault ≡ [] → AreGood h.rows → AreGood (bundle_step c o flags skip so_far h after).0.rows
  bundle_step_good c again None flags skip so_far h fault after all more none good = good
  bundle_step_good c again (Some x) flags zero so_far h fault after all more none good =
      let rest = drop (length (encode_utf8 x)) flags in
      short_good c again (arg_by_short c x) rest h (fault rest 0) (after rest 0 done) all (all_found IsSound _ c all) (λ k. more rest 0 done k) none good
  bundle_step_good c again (Some x) flags (suc skip) so_far h fault after all more none good = more (drop (length (encode_utf8 x)) flags) skip so_far h none good

  bundle_good : (c : List Rule) (again : Bool) (k : ℕ) (flags : Text) (skip : ℕ) (so_far : Outcome) (h : Held) → AllByRecursion IsSound c → flags_fault c again k flags skip h ≡ [] → AreGood h.rows → AreGood (bundle_met c k flags skip so_far h).0.rows
  unfolding bundle_met flags_fault
  bundle_good c again zero flags skip so_far h all none good = good
  bundle_good c again (suc k) flags skip so_far h all none good =
      bundle_step_good c again (slice_get (chars flags) 0) flags skip so_far h (flags_fault c again k) (bundle_met c k) all
      (λ t n so held fine rows. bundle_good c again k t n so held all fine rows) none good

  plain_good : (c : List Rule) (waiting : Waiting) (word : Text) (h : Held) → AreGood h.rows → AreGood (plain_word c waiting word h).0.rows
  plain_good c idle word h good = good
  plain_good c positional word h good = good
  plain_good c (option id) word h good = go (arg_by_id c id)
    where
      go : (o : Option Rule) → AreGood (option_word o id word h).0.rows
      go None = good
      go (Some a) = good

  after_good : (c : List Rule) (waiting : Waiting) (word : Text) (h : Held) (o : Outcome) → AreGood h.rows → AreGood (after_flag c waiting word h o).0.rows
  after_good c waiting word h done good = good
  after_good c waiting word h (waits id) good = good
  after_good c waiting word h plain good = plain_good c waiting word h good
  after_good c waiting word h refused good = plain_good c waiting word h good

  flag_word_good : (c : List Rule) (again : Bool) (waiting : Waiting) (o : Option (Text × Option Text)) (word : Text) (h : Held) → AllByRecursion IsSound c → flag_word_fault c again o word h ≡ [] → AreGood h.rows → AreGood (long_or_other c waiting word o h).0.rows
  flag_word_good c again waiting (Some p) word h all none good =
      after_good c waiting word _ _ (long_good c again (arg_by_long c p.0) p.1 h all (all_found IsSound _ c all) none good)
  flag_word_good c again waiting None word h all none good = go (short_of word) none
    where
      go : (o : Option Text) → option_map_or (λ flags. bundle_fault c again flags h) o [] ≡ [] → AreGood (short_or_plain c waiting word o h).0.rows
      go None none = plain_good c waiting word h good
      go (Some flags) none = after_good c waiting word _ _ (bundle_good c again (length flags) flags h.skip plain (record h { skip = 0 }) all none good)

  word_good : (s : Shape) (o : Option Text) (waiting : Waiting) (position : ℕ) (word : Text) (h : Held) → AllByRecursion IsSound s.rules → other_fault s o word h ≡ [] → AreGood h.rows → AreGood (subcommand_or_other s.rules o waiting position word h).0.rows
  word_good s (Some name) waiting position word h all none good = good
  word_good s None waiting position word h all none good = go (bytes_eq word (45 ∷ 45 ∷ [])) none
    where
      go : (b : Bool) → cond b [] (flag_word_fault s.rules s.args_override_self (long_of word) word h) ≡ [] → AreGood (cond b (h, trailing position) (long_or_other s.rules waiting word (long_of word) h)).0.rows
      go true none = good
      go false none = flag_word_good s.rules s.args_override_self waiting (long_of word) word h all none good

  met_good : (s : Shape) (names : Names) (is_trailing : Bool) (waiting : Waiting) (position : ℕ) (word : Text) (h : Held) → AllByRecursion IsSound s.rules → word_fault s names is_trailing waiting word h ≡ [] → AreGood h.rows
      → AreGood (word_met s.rules names is_trailing waiting position word h).0.rows
  met_good s names true waiting position word h all none good = good
  met_good s names false waiting position word h all none good = word_good s (subcommand_met names waiting word) waiting position word h all none good

  step_good : (s : Shape) (word : Text) (w : Walk) (h : Held) (step : Step) → AllByRecursion IsSound s.rules → step_fault s w.position h step ≡ [] → AreGood h.rows → AreGood (after_step s.rules word w h step).held.rows
  step_good s word w h (next waiting) all none good = good
  step_good s word w h (trailing position) all none good = good
  step_good s word w h (subcommand name) all none good = good
  step_good s word w h value all none good = go (arg_by_index s.rules w.position) none
    where
      held : (a : Rule) (b : Bool) → cond b [] (settle_fault s.rules s.args_override_self h) ≡ [] → AreGood (cond b h (settled s.rules h)).rows
      held a true none = good
      held a false none = settle_good s.rules s.args_override_self h all none good

      go : (o : Option Rule) → option_map_or (λ a. cond (is_pending a h.pending && takes_several a) [] (settle_fault s.rules s.args_override_self h)) o (stray_fault s) ≡ [] → AreGood (to_positional s.rules o word w h).held.rows
      go None none = good
      go (Some a) none = held a (is_pending a h.pending && takes_several a) none

  -- ---- all words

  turn_good : (s : Shape) (names : Names) (w : Walk) (word : Text) → AllByRecursion IsSound s.rules → turn_fault s names w word ≡ [] → AreGood w.held.rows → AreGood (walked s.rules names w word).held.rows
  unfolding walked
  turn_good s names w word all none good = go w.stopped none
    where
      go : (o : Option (Text × List Text))
          → cond (is_some o) [] (or_else (word_fault s names w.is_trailing w.waiting word w.held) (step_fault s w.position (word_met s.rules names w.is_trailing w.waiting w.position word w.held).0 (word_met s.rules names w.is_trailing w.waiting w.position word w.held).1)) ≡ []
          → AreGood (walked_from s.rules names o w word).held.rows
      go (Some p) none = good
      go None none =
          let met = word_met s.rules names w.is_trailing w.waiting w.position word w.held in
          let parts = or_none (word_fault s names w.is_trailing w.waiting word w.held) (step_fault s w.position met.0 met.1) none in
          step_good s word w met.0 met.1 all parts.1 (met_good s names w.is_trailing w.waiting w.position word w.held all parts.0 good)

  walk_good : (s : Shape) (names : Names) (w : Walk) (words : List Text) → AllByRecursion IsSound s.rules → walk_fault s names w words ≡ [] → AreGood w.held.rows → AreGood (fold (walked s.rules names) w words).held.rows
  unfolding walk_fault
  walk_good s names w [] all none good = good
  walk_good s names w (word ∷ words) all none good =
      let parts = or_none (turn_fault s names w word) (walk_fault s names (walked s.rules names w word) words) none in
      walk_good s names (walked s.rules names w word) words all parts.1 (turn_good s names w word all parts.0 good)

  -- ---- defaults, and whole commands

  default_good : (rows : List Row) (a : Rule) → IsSound a → default_fault rows a ≡ [] → AreGood rows → AreGood (with_default rows a)
  default_good rows a sound none good = go (has_row a.id rows) none
    where
      given : (values : List Text) → cond (is_empty values) [] (given_default_fault a values) ≡ [] → AreGood (default_rows a.id (reading_by a) values rows)
      given [] none = good
      given (v ∷ vs) none =
          let some : is_empty (v ∷ vs) ≡ false = ne_eqb _ _ (λ e. omega arith) in
          let fine = sym (ap (λ b. cond b [] (given_default_fault a (v ∷ vs))) some) ∙ none in
          with_values_good a DefaultValue (v ∷ vs) rows sound (values_good a (v ∷ vs) sound (or_none (request_kinds (action_of a)) (values_fault a (v ∷ vs)) fine).1) good

      go : (b : Bool) → cond (b || is_empty a.defaults) [] (given_default_fault a a.defaults) ≡ [] → AreGood (cond b rows (default_rows a.id (reading_by a) a.defaults rows))
      go true none = good
      go false none = given a.defaults none

  defaults_good : (rows : List Row) (c : List Rule) → AllByRecursion IsSound c → defaults_fault rows c ≡ [] → AreGood rows → AreGood (fold with_default rows c)
  unfolding defaults_fault
  defaults_good rows [] all none good = good
  defaults_good rows (a ∷ rest) all none good =
      let parts = or_none (default_fault rows a) (defaults_fault (with_default rows a) rest) none in
      defaults_good (with_default rows a) rest all.1 parts.1 (default_good rows a all.0 parts.0 good)

  level_good : (s : Shape) (names : Names) (h : Held) (words : List Text) (has : Bool) (below : Kinds) → AllByRecursion IsSound s.rules → level_fault s names h words has below ≡ [] → AreGood h.rows → AreGood (finished s.rules (walk s.rules names h words).held)
  level_good s names h words has below all none good =
      let end = (walk s.rules names h words).held in
      let first = or_none (walk_fault s names (walk_from h) words) _ none in
      let second = or_none below _ first.1 in
      let third = or_none (settle_fault s.rules s.args_override_self end) _ second.1 in
      let fourth = or_none (defaults_fault (settled s.rules end).rows s.rules) _ third.1 in
      defaults_good (settled s.rules end).rows s.rules all fourth.0
      (settle_good s.rules s.args_override_self end all third.0 (walk_good s names (walk_from h) words all first.0 good))

  entered_good : (a : App) (stop : Option (Text × List Text)) → AllByRecursion (λ s. AllByRecursion IsSound s.rules) a.subs → entered_fault a stop ≡ [] → IfSome (entered a stop) (λ run. AreGood run.1)
  entered_good a None all none = tt
  entered_good a (Some p) all none = go (find (λ s. answers_to p.0 (label_of s)) a.subs) (all_found (λ s. AllByRecursion IsSound s.rules) _ a.subs all) none
    where
      go : (o : Option Shape) → IfSome o (λ s. AllByRecursion IsSound s.rules) → option_map_or (λ s. level_fault s [] nothing_held p.1 false []) o [] ≡ [] → IfSome (option_map (λ s. rows_at s p.1) o) (λ run. AreGood run.1)
      go None sound none = tt
      go (Some s) sound none = level_good s [] nothing_held p.1 false [] sound none tt

  -- the rows of the subcommand that the words name are good, where its arguments are sound and nothing fails
  pub subcommand_good : (a : App) (words : List Text) → AllByRecursion (λ s. AllByRecursion IsSound s.rules) (built a).subs → fault_of a words ≡ [] → IfSome (subcommand_of a words) (λ run. AreGood run.1)
  subcommand_good a words all none =
      let b = built a in
      let stop = (walk b.top.rules (names_of b) nothing_held (argument_words a words)).stopped in
      let first = or_none (walk_fault b.top (names_of b) (walk_from nothing_held) (argument_words a words)) _ none in
      entered_good b stop all (or_none (entered_fault b stop) _ first.1).0
