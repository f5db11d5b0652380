-- The calls on open files, by their numbers (syscall(2), riscv64).
use Rattle.std.specs.Prelude.{ℕ, ◌==◌, List, [], ◌∷◌, Bool, if◌then◌else◌}
use Rattle.std.specs.List.{list_any}
use Rattle.dt_base.specs.declared.abi.TheConstants.{DUP, DUP3, FCNTL, IOCTL, FTRUNCATE, CLOSE, PIPE2, GETDENTS64, LSEEK, READ, WRITE, READV, WRITEV, PREAD64, PWRITE64}
use Rattle.dt_iocalls.specs.Descriptors.{close_row, dup_row, dup3_row, fcntl_row, ioctl_row}
use Rattle.dt_iocalls.specs.Entries.{getdents64_row}
use Rattle.dt_iocalls.specs.Piping.{pipe2_row}
use Rattle.dt_iocalls.specs.Reading.{read_row, readv_row, pread64_row}
use Rattle.dt_iocalls.specs.Seeking.{lseek_row}
use Rattle.dt_iocalls.specs.Writing.{write_row, writev_row, pwrite64_row, ftruncate_row}
use Rattle.dt_callbase.specs.Scene.{Scene, Reply, unsupported_reply}

-- the number is that of a call on open files
abbrev pub is_io : ℕ → Bool
is_io number = list_any (λ call. call == number)
    (DUP ∷ DUP3 ∷ FCNTL ∷ IOCTL ∷ FTRUNCATE ∷ CLOSE ∷ PIPE2 ∷ GETDENTS64 ∷ LSEEK ∷ READ ∷ WRITE ∷ READV ∷ WRITEV ∷ PREAD64 ∷ PWRITE64 ∷ [])

-- the row of the call of a number; any other number is not supported
unfoldable pub io_row : ℕ → List ℕ → Scene → Reply
io_row number args s =
    if number == DUP then dup_row args s
    else if number == DUP3 then dup3_row args s
    else if number == FCNTL then fcntl_row args s
    else if number == IOCTL then ioctl_row args s
    else if number == FTRUNCATE then ftruncate_row args s
    else if number == CLOSE then close_row args s
    else if number == PIPE2 then pipe2_row args s
    else if number == GETDENTS64 then getdents64_row args s
    else if number == LSEEK then lseek_row args s
    else if number == READ then read_row args s
    else if number == WRITE then write_row args s
    else if number == READV then readv_row args s
    else if number == WRITEV then writev_row args s
    else if number == PREAD64 then pread64_row args s
    else if number == PWRITE64 then pwrite64_row args s
    else unsupported_reply s
