-- The machine of a program that is started has atomics just where it is said to.
use Rattle.std.proofs.Common.{◌≡◌, ℕ, ◌+◌, ◌==◌, List, length, Bool, true, false, cond, Option, None, Some, refl}
use Rattle.std.specs.Prelude.{IfOk, Result, Ok, Err, nat_lt}
use Rattle.dt_base.specs.Command.{Words}
use Rattle.dt_base.specs.declared.errno.Errno.{Errno}
use Rattle.dt_base.specs.declared.limits.TheConstants.{PATH_LIMIT, ARGUMENT_LIMIT}
use Rattle.dt_elf.specs.declared.elf.ElfErr.{ElfErr}
use Rattle.dt_elf.specs.Executable.{Executable, exe}
use Rattle.dt_elf.specs.FirstMachine.{first_machine, is_too_big, first}
use Rattle.dt_elf.specs.Stack.{Invocation, invocation, words_size}
use Rattle.dt_exec.specs.declared.program.Program.{Program}
use Rattle.dt_exec.specs.declared.script.Script.{Script}
use Rattle.dt_exec.specs.Arguments.{command_argument}
use Rattle.dt_exec.specs.Program.{within_limits, program_of_elf, program_of, file_by_path, program_of_interpreter, script_invocation, program_of_script, program_of_file, program_at, argv0, start_program, program_with, execve_program}
use Rattle.dt_exec.specs.Script.{is_script, script_of}
use Rattle.dt_host.specs.World.{Forest}
use Rattle.dt_space.specs.Argument.{path_argument}
use Rattle.dt_space.specs.Space.{PageView}
use Rattle.dt_tree.specs.declared.limits.TheConstants.{ROOT}

-- a program that can be started has such a machine
pub record Has (atomics : Bool) (r : Result Program Errno) : Type 0 where
  pub machine : IfOk r (λ program. program.machine.atomics ≡ atomics)

refused : (atomics : Bool) (errno : Errno) → Has atomics (Err errno)
refused atomics errno = record { machine = tt }

either : (atomics b : Bool) (x y : Result Program Errno) → Has atomics x → Has atomics y → Has atomics (cond b x y)
either atomics true x y first second = first
either atomics false x y first second = second

limited : (program : Executable) (bytes : List ℕ) (given : Invocation) (atomics b : Bool) → Has atomics (within_limits program (cond b None (Some (first_machine program bytes given atomics))))
limited program bytes given atomics true = record { machine = tt }
limited program bytes given atomics false = record { machine = refl }

read : (given : Invocation) (bytes : List ℕ) (found : Result Executable ElfErr) (atomics : Bool) → Has atomics (program_of_elf given bytes found atomics)
read given bytes (Err e) atomics = record { machine = tt }
read given bytes (Ok program) atomics = limited program bytes given atomics (is_too_big program given.words)

made : (given : Invocation) (bytes : List ℕ) (atomics : Bool) → Has atomics (program_of given bytes atomics)
unfolding program_of
made given bytes atomics = read given bytes (exe bytes) atomics

interpreted : (given : Invocation) (found : Result (List ℕ) Errno) (atomics : Bool) → Has atomics (program_of_interpreter given found atomics)
interpreted given (Err errno) atomics = refused atomics errno
interpreted given (Ok bytes) atomics = either atomics (is_script bytes) _ _ (refused atomics _) (made given bytes atomics)

scripted : (v : Forest) (cwd : ℕ) (given : Invocation) (found : Option Script) (atomics : Bool) → Has atomics (program_of_script v cwd given found atomics)
scripted v cwd given None atomics = refused atomics _
scripted v cwd given (Some script) atomics = interpreted (script_invocation given script) (file_by_path v cwd script.interpreter) atomics

filed : (v : Forest) (cwd : ℕ) (given : Invocation) (found : Result (List ℕ) Errno) (atomics : Bool) → Has atomics (program_of_file v cwd given found atomics)
filed v cwd given (Err errno) atomics = refused atomics errno
filed v cwd given (Ok bytes) atomics =
    either atomics (is_script bytes) _ _ (scripted v cwd given (script_of bytes) atomics) (made given bytes atomics)

found : (v : Forest) (cwd : ℕ) (given : Invocation) (atomics : Bool) → Has atomics (program_at v cwd given atomics)
unfolding program_at
found v cwd given atomics = filed v cwd given (file_by_path v cwd given.execfn) atomics

pub started-has : (v : Forest) (words : Words) (random : List ℕ) (atomics : Bool) → IfOk (start_program v words random atomics) (λ program. program.machine.atomics ≡ atomics)
unfolding start_program
started-has v words random atomics =
    let has = either atomics (length (argv0 words.args) == 0) _ _ (refused atomics _)
    (either atomics (nat_lt PATH_LIMIT (length (argv0 words.args))) _ _ (refused atomics _)
    (either atomics (nat_lt ARGUMENT_LIMIT (words_size words.args + words_size words.env)) _ _ (refused atomics _)
    (found v ROOT (invocation words (argv0 words.args) random) atomics))) in
    has.machine

with_words : (v : Forest) (cwd : ℕ) (random : List ℕ) (path : Result (List ℕ) Errno) (words : Result Words Errno) (atomics : Bool) → Has atomics (program_with v cwd random path words atomics)
with_words v cwd random (Err errno) words atomics = refused atomics errno
with_words v cwd random (Ok path) (Err errno) atomics = refused atomics errno
with_words v cwd random (Ok path) (Ok words) atomics = found v cwd (invocation words path random) atomics

pub executed-has : (v : Forest) (cwd : ℕ) (pages : List PageView) (path argv envp : ℕ) (random : List ℕ) (atomics : Bool) → IfOk (execve_program v cwd pages path argv envp random atomics) (λ program. program.machine.atomics ≡ atomics)
unfolding execve_program
executed-has v cwd pages path argv envp random atomics =
    let has = with_words v cwd random (path_argument pages path) (command_argument pages argv envp) atomics in has.machine
