-- The steps of a run of several commands: what a file in an image's folder lists. It holds a JSON array (RFC 8259) of
-- objects. `args` has a step's argument words, and `env` its environment, if it is there; other members are not looked at.
use Rattle.std.specs.Prelude.{◌≡◌, ℕ, Bool, ◌&&◌, List, [], ◌∷◌, length, codes, nat_le, Option, Some, None, option_and_then, if◌then◌else◌}
use Rattle.std.specs.List.{list_all}
use Rattle.std.specs.FinMap.{get}
use Rattle.serde_json.specs.Data.{Data, Items, no_items, item}
use Rattle.serde_json.specs.Find.{get as member, as_str, as_array}
use Rattle.dt_base.specs.Assignment.{is_assignment}
use Rattle.dt_base.specs.Command.{Words}
use Rattle.dt_base.specs.Path.{has_no_nul}
use Rattle.dt_host.specs.Store.{StoreFiles}
use Rattle.dt_image.specs.Index.{◌>>=◌, is_blob_name}
use Rattle.dt_image.specs.ImageOf.{name_below, value_of}
use Rattle.dt_export.specs.declared.steps.TheConstants.{STEP_LIMIT}

-- the texts that these values are, if each is one
abbrev pub texts_in : Items → Option (List (List ℕ))
texts_in no_items = Some []
texts_in (item value values) = do
  text ← as_str value
  texts ← texts_in values
  Some (text ∷ texts)

-- the texts of an array, if the value is one of texts alone
abbrev pub texts_of : Data → Option (List (List ℕ))
texts_of value = option_and_then texts_in (as_array value)

-- the environment by that member; it is empty where there is none
abbrev pub env_by : Option Data → Option (List (List ℕ))
env_by None = Some []
env_by (Some value) = texts_of value

-- there is a first argument, the environment sets variables, and no word holds a NUL
abbrev pub is_step : Words → Bool
is_step words = nat_le 1 (length words.args) && list_all has_no_nul words.args && list_all has_no_nul words.env && list_all is_assignment words.env

-- the words, if a step may have them
abbrev pub if_step : Words → Option Words
if_step words = if is_step words then Some words else None

-- the step that a value is, if it is one
unfoldable pub step_words : Data → Option Words
step_words value = do
  args ← option_and_then texts_of (member (codes "args") value)
  env ← env_by (member (codes "env") value)
  if_step (record { args = args; env = env; input = [] })

-- the steps that these values are, if each is one
abbrev pub steps_in : Items → Option (List Words)
steps_in no_items = Some []
steps_in (item value values) = do
  step ← step_words value
  steps ← steps_in values
  Some (step ∷ steps)

-- the steps, if a file may list so many
abbrev pub if_steps : List Words → Option (List Words)
if_steps steps = if nat_le 1 (length steps) && nat_le (length steps) STEP_LIMIT then Some steps else None

-- the steps of the bytes of a file, if they list some; a file has the same limit as an index
unfoldable pub steps_of : List ℕ → Option (List Words)
steps_of bytes = do
  value ← value_of bytes
  items ← as_array value
  steps ← steps_in items
  if_steps steps

-- the steps that a file of a folder lists, if a blob may have its name, it is there, and it lists some
abbrev pub steps_at : StoreFiles → List ℕ → List ℕ → Option (List Words)
steps_at files folder file = if is_blob_name file then option_and_then steps_of (get files (name_below folder file)) else None

-- there is a file that lists these commands
pub record IsListed (commands : List Words) : Type 0 where
  pub bytes : List ℕ
  pub lists : steps_of bytes ≡ Some commands
