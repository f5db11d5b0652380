-- What a run keeps of its image and its command, and what the first version of images has.
use Rattle.std.specs.Prelude.{◌≡◌, ℕ, Bool, true, false, List, [], codes, None, IfSome, Ok}
use Rattle.std.specs.FinMap.{get}
use Rattle.dt_base.specs.declared.abi.TheConstants.{SIGILL}
use Rattle.dt_base.specs.declared.profile.TheConstants.{FIRST_VERSION}
use Rattle.dt_base.specs.Command.{Words}
use Rattle.dt_base.specs.Image.{ImageParts}
use Rattle.dt_base.specs.Profile.{file_limit, has_atomics, has_devices}
use Rattle.dt_host.specs.Store.{StoreFiles}
use Rattle.dt_image.specs.ImageOf.{named_input}
use Rattle.dt_image.specs.Index.{Source, file, dir, link, dev, source_of}
use Rattle.dt_image.specs.Report.{header}
use Rattle.serde_json.specs.Data.{Data}
use Rattle.dt_rv64.specs.declared.machine.Machine.{Machine}
use Rattle.dt_rv64.specs.declared.machine.Step.TheVariants.{Fault}
use Rattle.dt_rv64.specs.Formats.{opcode}
use Rattle.dt_rv64.specs.Instruction.{instr}
use Rattle.dt_rv64.specs.Machine.{instr_result, exec}
use Rattle.dt_fds.specs.declared.desc.Spot.TheVariants.{At}
use Rattle.dt_callbase.specs.Scene.{Scene, value_reply}
use Rattle.dt_iocalls.specs.declared.ranges.Range.{Range}
use Rattle.dt_iocalls.specs.Offsets.{with_spot}
use Rattle.dt_iocalls.specs.Reading.{input_read_reply}
use Rattle.dt_calls.specs.Container.{Shared}
use Rattle.dt_engine.specs.Turn.{State}
use Rattle.dt_engine.specs.Run.{run_of}
use Rattle.dt_engine.specs.Playing.{first_playing}
use Rattle.dt_engine.specs.Played.{turns}

-- the file tree keeps this version, and this is the standard input
pub record IsShared (v : ℕ) (bytes : List ℕ) (c : Shared) : Type 0 where
  pub version : c.tree.version ≡ v
  pub input : c.input ≡ bytes

-- a state of a run on an image of that version, with that input: each machine at home has atomics just where the
-- version has them
pub record IsStateOf (version : ℕ) (input : List ℕ) (s : State) : Type 0 where
  pub shared : IsShared version input s.shared
  pub atomics : (p : ℕ) → IfSome (get s.works p) (λ w. w.machine.atomics ≡ has_atomics version)

-- a run keeps its image's version
abbrev pub RunsKeepVersion : Type 0
RunsKeepVersion =
    (image : ImageParts) (words : Words) (seed budget : ℕ)
    → let run = run_of image words seed budget in run.last.tree.version ≡ image.version

-- so it is in each state of a run, also where the program could not be started
abbrev pub StatesKeepVersion : Type 0
StatesKeepVersion =
    (image : ImageParts) (words : Words) (seed budget count : ℕ)
    → let t = turns count (first_playing image words seed budget) in IsStateOf image.version words.input t.next.state

-- in a run on an image of the first version no machine at home has atomics
abbrev pub FirstVersionHasNoAtomics : Type 0
FirstVersionHasNoAtomics =
    (image : ImageParts) (words : Words) (seed budget count p : ℕ) → image.version ≡ FIRST_VERSION
    → let t = turns count (first_playing image words seed budget) in
    IfSome (get t.next.state.works p) (λ w. w.machine.atomics ≡ false)

-- the opcode of the atomics (AMO)
abbrev pub AMO : ℕ
AMO = 0x2F

-- to a machine without atomics each word of their opcode is one that is unknown: a fault of SIGILL that leaves the machine
abbrev pub AtomicsAreUnknown : Type 0
AtomicsAreUnknown =
    (m : Machine) (word : ℕ) → m.atomics ≡ false → opcode word ≡ AMO
    → instr_result m (instr word) ≡ record { step = Fault SIGILL; machine = m }

-- a machine has atomics after a step just where it had them before, and one without them has reserved what it had
pub record StepKeeps (m next : Machine) : Type 0 where
  pub atomics : next.atomics ≡ m.atomics
  pub reserved : m.atomics ≡ false → next.reserved ≡ m.reserved

-- so does each step
abbrev pub StepsKeepAtomics : Type 0
StepsKeepAtomics = (m : Machine) → let next = exec m in StepKeeps m next.machine

-- a device is made from this source
abbrev pub makes_device : Source → Bool
makes_device (file mode blob) = false
makes_device (dir mode) = false
makes_device (link target) = false
makes_device (dev mode device) = true

-- what images of the first version have: files of at most 16 MiB, no devices and no atomics; their reports begin with a
-- line of 1, no entry of an index of theirs is a device, and the input of words that name none is empty, as it is on any
-- image
pub record FirstVersionIs : Type 0 where
  pub files : file_limit FIRST_VERSION ≡ 16777216
  pub devices : has_devices FIRST_VERSION ≡ false
  pub atomics : has_atomics FIRST_VERSION ≡ false
  pub header : header FIRST_VERSION ≡ codes "dettrace 1\n"
  pub entries : (kind : List ℕ) (value : Data) → IfSome (source_of FIRST_VERSION kind value) (λ s. makes_device s ≡ false)
  pub input : (files : StoreFiles) (folder : List ℕ) → named_input files folder None ≡ Ok []

-- where the standard input is empty, each read of it answers 0, and its description stands where it stood. So it is in
-- each run of a command that names no input
abbrev pub EmptyInputIsAtItsEnd : Type 0
EmptyInputIsAtItsEnd =
    (fd offset : ℕ) (ranges : List Range) (s : Scene) → s.input ≡ []
    → input_read_reply fd offset ranges s ≡ value_reply (with_spot s fd (At offset)) 0
