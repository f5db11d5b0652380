-- What a call on files sees and may change, and what it leaves.
use Rattle.std.specs.Prelude.{ℕ, List, Option, None, Some, Result, Ok, Err}
use Rattle.dt_base.specs.declared.answer.Answer.{Answer}
use Rattle.dt_base.specs.declared.answer.Answer.TheVariants.{Value, Refused, Unsupported}
use Rattle.dt_base.specs.declared.caller.Caller.{Caller}
use Rattle.dt_base.specs.declared.errno.Errno.{Errno}
use Rattle.dt_base.specs.declared.errno.Errno.TheVariants.{BadF}
use Rattle.dt_fds.specs.declared.desc.Desc.{Desc}
use Rattle.dt_fds.specs.Descriptions.{Descriptions, description_at}
use Rattle.dt_fds.specs.Pipes.{PipesView}
use Rattle.dt_fds.specs.Holding.{Holding, FilesAnswer, holding_of}
use Rattle.dt_space.specs.Space.{PageView}
use Rattle.dt_tree.specs.Calls.{TreeAnswer}
use Rattle.dt_tree.specs.FileTree.{FileTree}
use Rattle.dt_virt.specs.declared.clock.TheConstants.{READING_TICKS}
use Rattle.dt_virt.specs.Clock.{ticks_after}
use Rattle.dt_virt.specs.Words.{SeededWords}

-- the file tree, the open files and their pipes, the logical time, the seed's words, the bytes of standard input, the process
-- that calls, and its pages
pub record Scene : Type 0 where
  pub tree : FileTree
  pub files : Descriptions
  pub pipes : PipesView
  pub clock : ℕ
  pub rand : SeededWords
  pub input : List ℕ
  pub caller : Caller
  pub space : List PageView

-- what a call leaves, and what it answers
pub record Reply : Type 0 where
  pub next : Scene
  pub answer : Answer

-- the call is done, and changes nothing
abbrev pub value_reply : Scene → ℕ → Reply
value_reply s value = record { next = s; answer = Value value }

-- the call is refused, and changes nothing
abbrev pub refused_reply : Scene → Errno → Reply
refused_reply s errno = record { next = s; answer = Refused errno }

-- a row, unless there is a reason to refuse it
abbrev pub unless_refused : Scene → Option Errno → Reply → Reply
unless_refused s None row = row
unless_refused s (Some errno) row = refused_reply s errno

-- a row for a text that was read, or the reason why there is none
abbrev pub on_text : Scene → Result (List ℕ) Errno → (List ℕ → Reply) → Reply
on_text s (Err errno) row = refused_reply s errno
on_text s (Ok text) row = row text

-- the call is not supported, and changes nothing
abbrev pub unsupported_reply : Scene → Reply
unsupported_reply s = record { next = s; answer = Unsupported }

-- the stamp of a call that changes names or a file: the time after the time that the call takes
abbrev pub stamp : Scene → ℕ
stamp s = ticks_after s.clock READING_TICKS

-- such a call has come so far: the tree is this, and the time is the stamp
abbrev pub with_changed_tree : FileTree → Scene → Scene
with_changed_tree t s = record s { tree = t; clock = stamp s }

-- such a call is done, and the answer is 0
abbrev pub change_reply : Scene → FileTree → Reply
change_reply s t = value_reply (with_changed_tree t s) 0

-- a row by the answer of a call of the tree
abbrev pub tree_answer_reply : {A : Type 0} → Scene → Result A Errno → TreeAnswer A → Reply
tree_answer_reply s (Ok value) d = change_reply s d.tree
tree_answer_reply s (Err errno) d = refused_reply s errno

-- a call of the tree, with its answer: where it is done its time has passed and the answer is 0
abbrev pub tree_call_reply : {A : Type 0} → Scene → TreeAnswer A → Reply
tree_call_reply s d = tree_answer_reply s d.answer d

-- the open files, their pipes and the tree
abbrev pub holding : Scene → Holding
holding s = holding_of s.tree s.pipes s.files

-- the same scene with other open files, other pipes, or another tree
abbrev pub with_holding : Holding → Scene → Scene
with_holding h s = record s { tree = h.tree; files = h.files; pipes = h.pipes }

-- the answer of a call on open files, where a value answers a number
abbrev pub answer_of : {A : Type 0} → (A → ℕ) → Result A Errno → Answer
answer_of number (Ok value) = Value (number value)
answer_of number (Err errno) = Refused errno

-- what a call on open files leaves and answers
abbrev pub files_call_reply : {A : Type 0} → (A → ℕ) → Scene → FilesAnswer A → Reply
files_call_reply number s o = record { next = with_holding o.next s; answer = answer_of number o.answer }

-- what a descriptor of the process refers to, if it is open
abbrev pub description_of : Scene → ℕ → Option Desc
description_of s fd = description_at s.files s.caller.vpid fd

-- a row for what an open descriptor refers to: EBADF where it is not open
abbrev pub on_description : Scene → Option Desc → (Desc → Reply) → Reply
on_description s None row = refused_reply s BadF
on_description s (Some desc) row = row desc
