-- The demonstration: a program with a number, the image that holds it, and the command that runs it.
use Rattle.std.specs.Prelude.{ℕ, ◌+◌, ◌*◌, List, [], ◌∷◌, ◌++◌, length, codes, None}
use Rattle.std.specs.List.{flat_map}
use Rattle.dt_base.specs.declared.profile.TheConstants.{FIRST_VERSION}
use Rattle.dt_base.specs.Image.{ImageParts}
use Rattle.dt_base.specs.declared.image.Entry.{Entry}
use Rattle.dt_base.specs.declared.image.What.TheVariants.{File, Dir}
use Rattle.dt_base.specs.Command.{Words}
use Rattle.dt_base.specs.Fields.{low_bytes}
use Rattle.dt_asm.specs.declared.headers.TheConstants.{HEADERS_SIZE}
use Rattle.dt_asm.specs.Header.{file_header}
use Rattle.dt_asm.specs.File.{segment_header}

-- ---- the instructions, which are the same for each number, as words (their names are those of the RISC-V ELF psABI)

-- s0 is the number n, which stands behind the instructions; s1 is 2 + n mod 15, the number of children; from sp on there is
-- room for a path, and from sp + 16 on for 4,096 bytes
abbrev pub start_words : List ℕ
start_words =
    0x00010437 ∷ 0x22843403 ∷ 0x00F00293 ∷ 0x025474B3 ∷ 0x00248493 ∷ 0x000012B7 ∷ 0x40510133 ∷ 0xFF010113 ∷ []

-- pipe2(sp, 0), whose descriptors go to s3 and s4; s2 counts the children
abbrev pub pipe_words : List ℕ
pipe_words = 0x00010513 ∷ 0x00000593 ∷ 0x03B00893 ∷ 0x00000073 ∷ 0x00012983 ∷ 0x00412A03 ∷ 0x00000913 ∷ []

-- clone(SIGCHLD, 0), once for each child, which goes to `child_words`
abbrev pub clone_words : List ℕ
clone_words =
    0x02990063 ∷ 0x00190913 ∷ 0x01100513 ∷ 0x00000593 ∷ 0x0DC00893 ∷ 0x00000073 ∷ 0x06050863 ∷ 0xFE5FF06F ∷ []

-- close(s4), the end that the children write to
abbrev pub close_words : List ℕ
close_words = 0x000A0513 ∷ 0x03900893 ∷ 0x00000073 ∷ []

-- read(s3, sp + 16, 4096) and write(1, sp + 16, count), until there is nothing to read
abbrev pub pass_words : List ℕ
pass_words =
    0x00098513 ∷ 0x01010593 ∷ 0x00001637 ∷ 0x03F00893 ∷ 0x00000073 ∷ 0x00050C63 ∷ 0x00050613 ∷ 0x00100513 ∷
    0x04000893 ∷ 0x00000073 ∷ 0xFD9FF06F ∷ []

-- wait4(-1, 0, 0, 0), once for each child
abbrev pub wait_words : List ℕ
wait_words =
    0x02048263 ∷ 0xFFF48493 ∷ 0xFFF00513 ∷ 0x00000593 ∷ 0x00000613 ∷ 0x00000693 ∷ 0x10400893 ∷ 0x00000073 ∷
    0xFE1FF06F ∷ []

-- exit(0)
abbrev pub end_words : List ℕ
end_words = 0x00000513 ∷ 0x05D00893 ∷ 0x00000073 ∷ []

-- in the child s2 is its number i: s5 is n + i, and t1 is 1,000 i + n mod 1,000, the number of steps
abbrev pub child_words : List ℕ
child_words = 0x01240AB3 ∷ 0x3E800293 ∷ 0x02590333 ∷ 0x025473B3 ∷ 0x00730333 ∷ []

-- t3 is 6364136223846793005
abbrev pub factor_words : List ℕ
factor_words =
    0x05852E37 ∷ 0xF43E0E1B ∷ 0x00CE1E13 ∷ 0xD4DE0E13 ∷ 0x00CE1E13 ∷ 0x958E0E13 ∷ 0x00CE1E13 ∷ 0xF2DE0E13 ∷ []

-- t4 is 1442695040888963407
abbrev pub summand_words : List ℕ
summand_words =
    0x01405EB7 ∷ 0x7B8E8E9B ∷ 0x00CE9E93 ∷ 0xEF7E8E93 ∷ 0x00CE9E93 ∷ 0x678E8E93 ∷ 0x00CE9E93 ∷ 0x14FE8E93 ∷ []

-- s5 is s5 t3 + t4, modulo 2^64, t1 times
abbrev pub step_words : List ℕ
step_words = 0x03CA8AB3 ∷ 0x01DA8AB3 ∷ 0xFFF30313 ∷ 0xFE031AE3 ∷ []

-- at sp stands `/d/`, the i-th letter and a NUL
abbrev pub path_words : List ℕ
path_words = 0x602F62B7 ∷ 0x42F2829B ∷ 0x01891313 ∷ 0x006282B3 ∷ 0x00513023 ∷ []

-- openat(AT_FDCWD, sp, O_WRONLY and O_CREAT, 0644), whose descriptor goes to s6
abbrev pub open_words : List ℕ
open_words = 0xF9C00513 ∷ 0x00010593 ∷ 0x04100613 ∷ 0x1A400693 ∷ 0x03800893 ∷ 0x00000073 ∷ 0x00050B13 ∷ []

-- from sp + 16 on stands s5, 512 times
abbrev pub fill_words : List ℕ
fill_words = 0x01010293 ∷ 0x00001337 ∷ 0x00628333 ∷ 0x0152B023 ∷ 0x00828293 ∷ 0xFE629CE3 ∷ []

-- write(s6, sp + 16, 4096)
abbrev pub write_words : List ℕ
write_words = 0x000B0513 ∷ 0x01010593 ∷ 0x00001637 ∷ 0x04000893 ∷ 0x00000073 ∷ []

-- close(s6)
abbrev pub close_file_words : List ℕ
close_file_words = 0x000B0513 ∷ 0x03900893 ∷ 0x00000073 ∷ []

-- write(s4, sp + 16, 8)
abbrev pub tell_words : List ℕ
tell_words = 0x000A0513 ∷ 0x01010593 ∷ 0x00800613 ∷ 0x04000893 ∷ 0x00000073 ∷ []

-- exit(i)
abbrev pub exit_words : List ℕ
exit_words = 0x00090513 ∷ 0x05D00893 ∷ 0x00000073 ∷ []

-- the first process: a pipe, the children, what they tell, and their ends
abbrev pub parent_words : List ℕ
parent_words = start_words ++ pipe_words ++ clone_words ++ close_words ++ pass_words ++ wait_words ++ end_words

-- a child: its number, its file of it, and what it tells
abbrev pub child_code : List ℕ
child_code =
    child_words ++ factor_words ++ summand_words ++ step_words ++ path_words ++ open_words
    ++ fill_words ++ write_words ++ close_file_words ++ tell_words ++ exit_words

-- all instructions
abbrev pub demo_words : List ℕ
demo_words = parent_words ++ child_code

-- ---- its file, image and command

-- how many bytes the file has
abbrev pub demo_size : ℕ
demo_size = HEADERS_SIZE + 4 * length demo_words + 8

-- the headers, the instructions, and the number
abbrev pub demo_file : ℕ → List ℕ
demo_file n = (file_header ++ segment_header None demo_size) ++ (flat_map (low_bytes 4) demo_words ++ low_bytes 8 n)

-- a directory for the children's files, and the program
abbrev pub demo_entries : ℕ → List Entry
demo_entries n =
    record { path = codes "/d"; mode = 493; what = Dir } ∷ record { path = codes "/work"; mode = 493; what = File (demo_file n) } ∷ []

-- its image, of version 1
abbrev pub demo_image : ℕ → ImageParts
demo_image n = record { version = FIRST_VERSION; entries = demo_entries n }

-- the program alone, with no environment
abbrev pub demo_command : Words
demo_command = record { args = codes "/work" ∷ []; env = []; input = [] }
