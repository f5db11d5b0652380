-- The program that an execution starts (execve(2)).
use Rattle.std.specs.Prelude.{ℕ, ◌+◌, ◌==◌, List, [], ◌∷◌, length, nat_lt, Bool, Option, Some, None, Result, Ok, Err, if◌then◌else◌}
use Rattle.dt_base.specs.declared.errno.Errno.{Errno}
use Rattle.dt_base.specs.declared.errno.Errno.TheVariants.{NoEnt, TooBig, NoExec, Acces, NameTooLong}
use Rattle.dt_base.specs.declared.limits.TheConstants.{PATH_LIMIT, ARGUMENT_LIMIT}
use Rattle.dt_base.specs.Command.{Words}
use Rattle.dt_host.specs.World.{Forest, file_at}
use Rattle.dt_tree.specs.declared.limits.TheConstants.{ROOT}
use Rattle.dt_rv64.specs.declared.machine.Machine.{Machine}
use Rattle.dt_space.specs.Space.{PageView}
use Rattle.dt_elf.specs.declared.elf.ElfErr.{ElfErr}
use Rattle.dt_elf.specs.Executable.{Executable, exe}
use Rattle.dt_elf.specs.Stack.{Invocation, invocation, words_size}
use Rattle.dt_elf.specs.FirstMachine.{first}
use Rattle.dt_elf.specs.ProgramBreak.{program_break}
use Rattle.dt_exec.specs.declared.program.Program.{Program}
use Rattle.dt_exec.specs.declared.script.Script.{Script}
use Rattle.dt_exec.specs.Arguments.{command_argument}
use Rattle.dt_space.specs.Argument.{path_argument}
use Rattle.dt_exec.specs.Lookup.{lookup}
use Rattle.dt_exec.specs.Script.{is_script, script_of, script_args}

-- an executable with its first machine, where that is within the limits
abbrev pub within_limits : Executable → Option Machine → Result Program Errno
within_limits program None = Err TooBig
within_limits program (Some m) = Ok (record { machine = m; break_start = program_break program })

-- the program of a file that was read as an executable, on a machine with atomics or without (as the last argument of
-- each definition here says)
abbrev pub program_of_elf : Invocation → List ℕ → Result Executable ElfErr → Bool → Result Program Errno
program_of_elf given bytes (Err e) atomics = Err NoExec
program_of_elf given bytes (Ok program) atomics = within_limits program (first program bytes given atomics)

-- the program of an executable's bytes: its first machine, and where its break starts
unfoldable pub program_of : Invocation → List ℕ → Bool → Result Program Errno
program_of given bytes atomics = program_of_elf given bytes (exe bytes) atomics

-- the bytes of a file, and of nothing else
abbrev pub file_or_errno : Option (List ℕ) → Result (List ℕ) Errno
file_or_errno None = Err Acces
file_or_errno (Some bytes) = Ok bytes

-- the bytes of the file that a path led to
abbrev pub file_reached : Forest → Result (Option ℕ) Errno → Result (List ℕ) Errno
file_reached v (Err errno) = Err errno
file_reached v (Ok None) = Err NoEnt
file_reached v (Ok (Some n)) = file_or_errno (file_at v n)

-- the bytes of the file that a path leads to from a directory
unfoldable pub file_by_path : Forest → ℕ → List ℕ → Result (List ℕ) Errno
file_by_path v cwd path = file_reached v (lookup v cwd path)

-- an interpreter's program: it is no script itself
abbrev pub program_of_interpreter : Invocation → Result (List ℕ) Errno → Bool → Result Program Errno
program_of_interpreter given (Err errno) atomics = Err errno
program_of_interpreter given (Ok bytes) atomics = if is_script bytes then Err NoExec else program_of given bytes atomics

-- what a script's interpreter is executed with: other arguments, the same environment and EXECFN, and no input, which no
-- machine shows
abbrev pub script_invocation : Invocation → Script → Invocation
script_invocation given script =
    record given { words = record given.words { args = script_args script given.execfn given.words.args; input = [] } }

-- a script's program, which is its interpreter's
abbrev pub program_of_script : Forest → ℕ → Invocation → Option Script → Bool → Result Program Errno
program_of_script v cwd given None atomics = Err NoExec
program_of_script v cwd given (Some script) atomics =
    program_of_interpreter (script_invocation given script) (file_by_path v cwd script.interpreter) atomics

-- the program of a file's bytes, which are a script or an executable
abbrev pub program_of_file : Forest → ℕ → Invocation → Result (List ℕ) Errno → Bool → Result Program Errno
program_of_file v cwd given (Err errno) atomics = Err errno
program_of_file v cwd given (Ok bytes) atomics =
    if is_script bytes then program_of_script v cwd given (script_of bytes) atomics else program_of given bytes atomics

-- the program at a path, looked up from a directory
unfoldable pub program_at : Forest → ℕ → Invocation → Bool → Result Program Errno
program_at v cwd given atomics = program_of_file v cwd given (file_by_path v cwd given.execfn) atomics

-- argv[0], which is the path of the first program
abbrev pub argv0 : List (List ℕ) → List ℕ
argv0 [] = []
argv0 (path ∷ rest) = path

-- the program of a command, whose path of 1 to 4,095 bytes is looked up from the root
unfoldable pub start_program : Forest → Words → List ℕ → Bool → Result Program Errno
start_program v words random atomics =
    if length (argv0 words.args) == 0 then Err NoEnt
    else if nat_lt PATH_LIMIT (length (argv0 words.args)) then Err NameTooLong
    else if nat_lt ARGUMENT_LIMIT (words_size words.args + words_size words.env) then Err TooBig
    else program_at v ROOT (invocation words (argv0 words.args) random) atomics

-- the program of a path and words that were read
abbrev pub program_with : Forest → ℕ → List ℕ → Result (List ℕ) Errno → Result Words Errno → Bool → Result Program Errno
program_with v cwd random (Err errno) words atomics = Err errno
program_with v cwd random (Ok path) (Err errno) atomics = Err errno
program_with v cwd random (Ok path) (Ok words) atomics = program_at v cwd (invocation words path random) atomics

-- the program that a process executes: path, argv and envp are addresses of its memory
unfoldable pub execve_program : Forest → ℕ → List PageView → ℕ → ℕ → ℕ → List ℕ → Bool → Result Program Errno
execve_program v cwd pages path argv envp random atomics =
    program_with v cwd random (path_argument pages path) (command_argument pages argv envp) atomics
