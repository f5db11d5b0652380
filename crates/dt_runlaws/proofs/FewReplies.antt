-- Answers of calls that are no longer than one call moves, by the words that rows are made of.
use Rattle.std.proofs.Common.{ℕ, ◌≤◌, List, length, Bool, true, false, cond}
use Rattle.std.specs.Prelude.{Option, None, Some, Result, Ok, Err}
use Rattle.dt_base.specs.declared.abi.TheConstants.{TRANSFER_LIMIT}
use Rattle.dt_base.specs.declared.answer.Answer.{Answer}
use Rattle.dt_base.specs.declared.answer.Answer.TheVariants.{Value, Refused, Output, Waits, Part, Pipe, Unsupported}
use Rattle.dt_base.specs.declared.errno.Errno.{Errno}
use Rattle.dt_base.specs.declared.errno.Errno.TheVariants.{NoEnt, BadF, Fault as BadAddress}
use Rattle.dt_fds.specs.declared.desc.Desc.{Desc}
use Rattle.dt_fds.specs.Holding.{FilesAnswer}
use Rattle.dt_space.specs.declared.access.Miss.{Miss}
use Rattle.dt_space.specs.Space.{PageView}
use Rattle.dt_space.specs.Write.{pages_after_store}
use Rattle.dt_tree.specs.Calls.{TreeAnswer}
use Rattle.dt_walk.specs.declared.place.Place.{Place}
use Rattle.dt_callbase.specs.declared.places.LastLink.{LastLink}
use Rattle.dt_callbase.specs.Filling.{filled_reply, fill_reply, whole_fill_reply}
use Rattle.dt_callbase.specs.Places.{place_at, on_place, on_node, on_path}
use Rattle.dt_callbase.specs.Scene.{Scene, Reply, value_reply, refused_reply, unless_refused, on_text, unsupported_reply, tree_call_reply, with_holding, answer_of, files_call_reply, on_description}

-- bytes that go out are no more than one call moves
abbrev pub IsShort : Answer → Type 0
IsShort (Value value) = Unit {0}
IsShort (Refused errno) = Unit {0}
IsShort (Output stream bytes) = length bytes ≤ TRANSFER_LIMIT
IsShort Waits = Unit {0}
IsShort (Part moved) = Unit {0}
IsShort (Pipe value) = Unit {0}
IsShort Unsupported = Unit {0}

-- a row's answer is short
pub record Short (r : Reply) : Type 0 where
  pub short : IsShort r.answer

pub either : (b : Bool) (x y : Reply) → Short x → Short y → Short (cond b x y)
either true x y first second = first
either false x y first second = second

pub value-short : (s : Scene) (value : ℕ) → Short (value_reply s value)
value-short s value = record { short = tt }

pub refused-short : (s : Scene) (errno : Errno) → Short (refused_reply s errno)
refused-short s errno = record { short = tt }

pub unsupported-short : (s : Scene) → Short (unsupported_reply s)
unsupported-short s = record { short = tt }

pub unless-short : (s : Scene) (reason : Option Errno) (row : Reply) → Short row → Short (unless_refused s reason row)
unless-short s None row short = short
unless-short s (Some errno) row short = refused-short s errno

pub text-short : (s : Scene) (text : Result (List ℕ) Errno) (row : List ℕ → Reply) → ((bytes : List ℕ) → Short (row bytes)) → Short (on_text s text row)
text-short s (Err errno) row short = refused-short s errno
text-short s (Ok bytes) row short = short bytes

pub description-short : (s : Scene) (found : Option Desc) (row : Desc → Reply) → ((desc : Desc) → Short (row desc)) → Short (on_description s found row)
description-short s None row short = refused-short s BadF
description-short s (Some desc) row short = short desc

pub place-short : (s : Scene) (found : Result Place Errno) (row : Place → Reply) → ((place : Place) → Short (row place)) → Short (on_place s found row)
place-short s (Err errno) row short = refused-short s errno
place-short s (Ok place) row short = short place

pub node-short : (s : Scene) (found : Option ℕ) (row : ℕ → Reply) → ((n : ℕ) → Short (row n)) → Short (on_node s found row)
node-short s None row short = refused-short s NoEnt
node-short s (Some n) row short = short n

pub path-short : (s : Scene) (dirfd address : ℕ) (rule : LastLink) (row : ℕ → Reply) → ((n : ℕ) → Short (row n)) → Short (on_path s dirfd address rule row)
path-short s dirfd address rule row short = place-short s (place_at s dirfd address rule) (λ place. on_node s place.node row) (λ place. node-short s place.node row short)

pub filled-short : (s : Scene) (value : ℕ) (pages : Result (List PageView) Miss) → Short (filled_reply s value pages)
filled-short s value (Err miss) = refused-short s BadAddress
filled-short s value (Ok pages) = value-short (record s { space = pages }) value

pub fill-short : (s : Scene) (buffer : ℕ) (bytes : List ℕ) (value : ℕ) → Short (fill_reply s buffer bytes value)
fill-short s buffer bytes value = filled-short s value (pages_after_store s.space buffer bytes)

pub whole-short : (s : Scene) (buffer : ℕ) (bytes : List ℕ) → Short (whole_fill_reply s buffer bytes)
whole-short s buffer bytes = fill-short s buffer bytes (length bytes)

module _ {A : Type 0} where
  pub tree-short : (s : Scene) (d : TreeAnswer A) → Short (tree_call_reply s d)
  tree-short s d = by_answer d.answer
    where
      by_answer : (answer : Result A Errno) → Short (tree_call_reply s (record d { answer = answer }))
      by_answer (Ok value) = record { short = tt }
      by_answer (Err errno) = refused-short s errno

  pub files-short : (number : A → ℕ) (s : Scene) (o : FilesAnswer A) → Short (files_call_reply number s o)
  files-short number s o = by_answer o.answer
    where
      by_answer : (answer : Result A Errno) → Short (record { next = with_holding o.next s; answer = answer_of number answer })
      by_answer (Ok value) = record { short = tt }
      by_answer (Err errno) = record { short = tt }

-- rows that are chosen by tests, and made of these words
pub ruleset short_rows = (either, value-short, refused-short, unsupported-short, unless-short, text-short, description-short, place-short, node-short, path-short, filled-short, fill-short, whole-short, tree-short, files-short)
