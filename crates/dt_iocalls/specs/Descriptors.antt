-- The calls on descriptors themselves: close(2), dup(2), dup3(2), fcntl(2), ioctl(2).
use Rattle.std.specs.Prelude.{ℕ, ◌+◌, ◌==◌, ◌||◌, Bool, true, false, not, List, unwrap_or, nat_lt, if◌then◌else◌}
use Rattle.dt_base.specs.Abi.{low_word}
use Rattle.dt_base.specs.declared.abi.TheConstants.{O_CLOEXEC, O_APPEND, O_NONBLOCK, F_DUPFD, F_GETFD, F_SETFD, F_GETFL, F_SETFL, F_DUPFD_CLOEXEC, FD_CLOEXEC}
use Rattle.dt_base.specs.declared.errno.Errno.TheVariants.{Inval, NoTty}
use Rattle.dt_fds.specs.declared.desc.TheConstants.{DESCRIPTOR_LIMIT}
use Rattle.dt_fds.specs.declared.desc.Desc.{Desc}
use Rattle.dt_fds.specs.Descriptions.{Descriptions, slot_at, cloexec_at, with_cloexec, with_slot_description, with_flags}
use Rattle.dt_fds.specs.Holding.{close_call, dup_call, dup_at_call}
use Rattle.dt_callbase.specs.Arguments.{argument, has_only}
use Rattle.dt_base.specs.Abi.{has_flag}
use Rattle.dt_callbase.specs.Scene.{Scene, Reply, value_reply, refused_reply, unsupported_reply, holding, files_call_reply, description_of, on_description}

-- takes a descriptor away from the process, and answers 0 (close(2))
unfoldable pub close_row : List ℕ → Scene → Reply
close_row args s = files_call_reply (λ done. 0) s (close_call s.caller.vpid (low_word (argument args 0)) (holding s))

-- dup(2): the lowest free descriptor, which is not closed at execve(2)
unfoldable pub dup_row : List ℕ → Scene → Reply
dup_row args s = files_call_reply (λ new. new) s (dup_call s.caller.vpid (low_word (argument args 0)) 0 false (holding s))

-- a duplicate under that very descriptor
abbrev pub dup_at_reply : ℕ → ℕ → ℕ → Scene → Reply
dup_at_reply old new flags s =
    files_call_reply (λ done. new) s (dup_at_call s.caller.vpid old new (has_flag flags O_CLOEXEC) (holding s))

-- makes a given descriptor a duplicate of another one; EINVAL where they are the same (dup3(2))
unfoldable pub dup3_row : List ℕ → Scene → Reply
dup3_row args s =
    let old = low_word (argument args 0) in
    let new = low_word (argument args 1) in
    let flags = low_word (argument args 2) in
    if not (has_only flags O_CLOEXEC) || (old == new) then refused_reply s Inval else dup_at_reply old new flags s

-- these commands of fcntl(2) are supported
abbrev pub is_command : ℕ → Bool
is_command command =
    (command == F_DUPFD) || (command == F_GETFD) || (command == F_SETFD) || (command == F_GETFL) || (command == F_SETFL)
    || (command == F_DUPFD_CLOEXEC)

-- the lowest free descriptor from a given one on is a duplicate: EINVAL where a process has none so high
abbrev pub dup_from_reply : ℕ → ℕ → Bool → Scene → Reply
dup_from_reply fd from cloexec s =
    if nat_lt from DESCRIPTOR_LIMIT then files_call_reply (λ new. new) s (dup_call s.caller.vpid fd from cloexec (holding s))
    else refused_reply s Inval

-- the open files are these, and the answer is 0
abbrev pub with_files_reply : Scene → Descriptions → Reply
with_files_reply s f = value_reply (record s { files = f }) 0

-- a descriptor is closed at execve(2)
abbrev pub is_cloexec : Scene → ℕ → Bool
is_cloexec s fd = unwrap_or (cloexec_at s.files s.caller.vpid fd) false

-- the access mode and the file status flags of a description
abbrev pub flags_of : Desc → ℕ
flags_of desc = desc.access + (if desc.append then O_APPEND else 0) + (if desc.nonblock then O_NONBLOCK else 0)

-- a descriptor is closed at execve(2) exactly if the argument has FD_CLOEXEC
abbrev pub set_cloexec_reply : ℕ → ℕ → Scene → Reply
set_cloexec_reply fd arg s =
    with_files_reply s (with_cloexec s.files s.caller.vpid fd (has_flag arg FD_CLOEXEC) (slot_at s.files s.caller.vpid fd))

-- what a descriptor refers to has the flags of the argument, as far as they can be set
abbrev pub set_flags_reply : ℕ → ℕ → Scene → Reply
set_flags_reply fd arg s =
    with_files_reply s
    (with_slot_description s.files (with_flags (has_flag arg O_APPEND) (has_flag arg O_NONBLOCK)) (slot_at s.files s.caller.vpid fd))

-- a command for an open descriptor, where the access mode and the flags of its description are these
unfoldable pub command_reply : ℕ → ℕ → ℕ → ℕ → Scene → Reply
command_reply command fd arg flags s =
    if command == F_DUPFD then dup_from_reply fd arg false s
    else if command == F_DUPFD_CLOEXEC then dup_from_reply fd arg true s
    else if command == F_GETFD then value_reply s (if is_cloexec s fd then FD_CLOEXEC else 0)
    else if command == F_SETFD then set_cloexec_reply fd arg s
    else if command == F_GETFL then value_reply s flags
    else set_flags_reply fd arg s

-- fcntl(2): the command and its argument are looked at with all 64 bits
unfoldable pub fcntl_row : List ℕ → Scene → Reply
fcntl_row args s =
    let fd = low_word (argument args 0) in
    if not (is_command (argument args 1)) then unsupported_reply s
    else on_description s (description_of s fd) (λ desc. command_reply (argument args 1) fd (argument args 2) (flags_of desc) s)

-- ioctl(2): no request is known
unfoldable pub ioctl_row : List ℕ → Scene → Reply
ioctl_row args s = on_description s (description_of s (low_word (argument args 0))) (λ desc. refused_reply s NoTty)
