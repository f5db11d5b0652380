-- Rows that leave the version that the file tree keeps, and the standard input, by the words that rows are made of.
use Rattle.std.proofs.Common.{◌≡◌, ℕ, List, length, Bool, true, false, cond, refl}
use Rattle.std.specs.Prelude.{Option, None, Some, Result, Ok, Err}
use Rattle.dt_base.specs.declared.errno.Errno.{Errno}
use Rattle.dt_base.specs.declared.errno.Errno.TheVariants.{NoEnt, BadF, Fault as BadAddress}
use Rattle.dt_fds.specs.declared.desc.Desc.{Desc}
use Rattle.dt_fds.specs.Holding.{FilesAnswer}
use Rattle.dt_space.specs.declared.access.Miss.{Miss}
use Rattle.dt_space.specs.Space.{PageView}
use Rattle.dt_space.specs.Write.{pages_after_store}
use Rattle.dt_tree.specs.Calls.{TreeAnswer}
use Rattle.dt_walk.specs.declared.place.Place.{Place}
use Rattle.dt_callbase.specs.declared.places.LastLink.{LastLink}
use Rattle.dt_callbase.specs.Filling.{filled_reply, fill_reply, whole_fill_reply}
use Rattle.dt_callbase.specs.Places.{place_at, on_place, on_node, on_path}
use Rattle.dt_callbase.specs.Scene.{Scene, Reply, value_reply, refused_reply, unless_refused, on_text, unsupported_reply, tree_call_reply, tree_answer_reply, files_call_reply, on_description}

-- a row leaves the version of the scene's tree, and the input
pub record Kept (s : Scene) (r : Reply) : Type 0 where
  pub version : r.next.tree.version ≡ s.tree.version
  pub input : r.next.input ≡ s.input

pub either : (s : Scene) (b : Bool) (x y : Reply) → Kept s x → Kept s y → Kept s (cond b x y)
either s true x y first second = first
either s false x y first second = second

pub value-kept : (s : Scene) (value : ℕ) → Kept s (value_reply s value)
value-kept s value = record { version = refl; input = refl }

pub refused-kept : (s : Scene) (errno : Errno) → Kept s (refused_reply s errno)
refused-kept s errno = record { version = refl; input = refl }

pub unsupported-kept : (s : Scene) → Kept s (unsupported_reply s)
unsupported-kept s = record { version = refl; input = refl }

pub unless-kept : (s : Scene) (reason : Option Errno) (row : Reply) → Kept s row → Kept s (unless_refused s reason row)
unless-kept s None row kept = kept
unless-kept s (Some errno) row kept = refused-kept s errno

pub text-kept : (s : Scene) (text : Result (List ℕ) Errno) (row : List ℕ → Reply) → ((bytes : List ℕ) → Kept s (row bytes)) → Kept s (on_text s text row)
text-kept s (Err errno) row kept = refused-kept s errno
text-kept s (Ok bytes) row kept = kept bytes

pub description-kept : (s : Scene) (found : Option Desc) (row : Desc → Reply) → ((desc : Desc) → Kept s (row desc)) → Kept s (on_description s found row)
description-kept s None row kept = refused-kept s BadF
description-kept s (Some desc) row kept = kept desc

pub place-kept : (s : Scene) (found : Result Place Errno) (row : Place → Reply) → ((place : Place) → Kept s (row place)) → Kept s (on_place s found row)
place-kept s (Err errno) row kept = refused-kept s errno
place-kept s (Ok place) row kept = kept place

pub node-kept : (s : Scene) (found : Option ℕ) (row : ℕ → Reply) → ((n : ℕ) → Kept s (row n)) → Kept s (on_node s found row)
node-kept s None row kept = refused-kept s NoEnt
node-kept s (Some n) row kept = kept n

pub path-kept : (s : Scene) (dirfd address : ℕ) (rule : LastLink) (row : ℕ → Reply) → ((n : ℕ) → Kept s (row n)) → Kept s (on_path s dirfd address rule row)
path-kept s dirfd address rule row kept = place-kept s (place_at s dirfd address rule) (λ place. on_node s place.node row) (λ place. node-kept s place.node row kept)

pub filled-kept : (s : Scene) (value : ℕ) (pages : Result (List PageView) Miss) → Kept s (filled_reply s value pages)
filled-kept s value (Err miss) = refused-kept s BadAddress
filled-kept s value (Ok pages) = record { version = refl; input = refl }

pub fill-kept : (s : Scene) (buffer : ℕ) (bytes : List ℕ) (value : ℕ) → Kept s (fill_reply s buffer bytes value)
fill-kept s buffer bytes value = filled-kept s value (pages_after_store s.space buffer bytes)

pub whole-kept : (s : Scene) (buffer : ℕ) (bytes : List ℕ) → Kept s (whole_fill_reply s buffer bytes)
whole-kept s buffer bytes = fill-kept s buffer bytes (length bytes)

module _ {A : Type 0} where
  pub tree-kept : (s : Scene) (d : TreeAnswer A) → d.tree.version ≡ s.tree.version → Kept s (tree_call_reply s d)
  tree-kept s d same = by_answer d.answer
    where
      by_answer : (answer : Result A Errno) → Kept s (tree_answer_reply s answer d)
      by_answer (Ok value) = record { version = same; input = refl }
      by_answer (Err errno) = refused-kept s errno

  pub files-kept : (number : A → ℕ) (s : Scene) (o : FilesAnswer A) → o.next.tree.version ≡ s.tree.version → Kept s (files_call_reply number s o)
  files-kept number s o same = record { version = same; input = refl }

-- rows that are chosen by tests, and made of these words
pub ruleset kept_rows = (either, value-kept, refused-kept, unsupported-kept, unless-kept, text-kept, description-kept, place-kept, node-kept, path-kept, filled-kept, fill-kept, whole-kept)
