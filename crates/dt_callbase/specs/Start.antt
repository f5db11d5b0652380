-- Where a path that a call is handed begins (path_resolution(7), openat(2)).
use Rattle.std.specs.Prelude.{ℕ, List, Option, None, Some, Result, Ok, Err, if◌then◌else◌}
use Rattle.std.specs.Ordering.{int_eq}
use Rattle.dt_base.specs.Abi.{low_word, signed_word}
use Rattle.dt_base.specs.declared.abi.TheConstants.{AT_FDCWD}
use Rattle.dt_base.specs.declared.errno.Errno.{Errno}
use Rattle.dt_base.specs.declared.errno.Errno.TheVariants.{BadF, NotDir}
use Rattle.dt_base.specs.Path.{begins_with_slash}
use Rattle.dt_fds.specs.declared.desc.Desc.{Desc}
use Rattle.dt_fds.specs.declared.desc.DescKind.{DescKind}
use Rattle.dt_fds.specs.declared.desc.DescKind.TheVariants.{File, Dir, Device, PipeRead, PipeWrite, Input, Stream}
use Rattle.dt_callbase.specs.Scene.{Scene, description_of}
use Rattle.dt_tree.specs.declared.limits.TheConstants.{ROOT}

-- the directory that a description is of: ENOTDIR where it is of something else
abbrev pub dir_of_kind : DescKind → Result ℕ Errno
dir_of_kind (File n) = Err NotDir
dir_of_kind (Dir n) = Ok n
dir_of_kind (Device n) = Err NotDir
dir_of_kind (PipeRead q) = Err NotDir
dir_of_kind (PipeWrite q) = Err NotDir
dir_of_kind Input = Err NotDir
dir_of_kind (Stream stream) = Err NotDir

-- the directory that a descriptor refers to: EBADF where it is not open
abbrev pub dir_of_description : Option Desc → Result ℕ Errno
dir_of_description None = Err BadF
dir_of_description (Some desc) = dir_of_kind desc.kind

-- where a path is looked up first: from the root if it begins with `/`, and else in the directory of the dirfd, which is
-- the working directory or an open one
abbrev pub start_of : Scene → ℕ → List ℕ → Result ℕ Errno
start_of s dirfd path =
    if begins_with_slash path then Ok ROOT
    else if int_eq (signed_word dirfd) AT_FDCWD then Ok s.caller.cwd
    else dir_of_description (description_of s (low_word dirfd))
