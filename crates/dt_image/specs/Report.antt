-- The report of a run, as text.
use Rattle.std.specs.Prelude.{ℕ, ◌+◌, ◌-◌, ◌^◌, Bool, false, ◌||◌, ◌==◌, nat_lt, List, [], ◌++◌, length, codes, replicate, Option, None, Some}
use Rattle.std.specs.List.{flat_map}
use Rattle.std.specs.Fmt.{decimal, digits}
use Rattle.std.specs.FinMap.{get}
use Rattle.dt_base.specs.declared.image.Device.{Device}
use Rattle.dt_base.specs.declared.image.Device.TheVariants.{Null, Zero, Random}
use Rattle.dt_base.specs.declared.event.Event.{Event}
use Rattle.dt_base.specs.declared.event.Event.TheVariants.{Out, Exit}
use Rattle.dt_base.specs.declared.event.End.{End}
use Rattle.dt_base.specs.declared.event.End.TheVariants.{Code, Signal}
use Rattle.dt_base.specs.declared.event.Verdict.{Verdict}
use Rattle.dt_base.specs.declared.event.Verdict.TheVariants.{Ended, Deadlock, Budget, Unsupported, NoStart}
use Rattle.dt_base.specs.Errno.{errno_number}
use Rattle.dt_host.specs.World.{Node, file, dir, link, device, node_at}
use Rattle.dt_tree.specs.FileTree.{Attributes, FileTree}
use Rattle.hex.specs.Hex.{encode_lower}
use Rattle.sha2.specs.Sha256.{sha256}
use Rattle.percent_encoding.specs.declared.ascii_set.AsciiSet.{AsciiSet}
use Rattle.percent_encoding.specs.Percent.{percent_encode}
use Rattle.dt_image.specs.Paths.{paths_of}

-- the first line, which says the version of the image
abbrev pub header : ℕ → List ℕ
header version = codes "dettrace " ++ (decimal version ++ codes "\n")

-- how a process ended
abbrev pub end_text : End → List ℕ
end_text (Code code) = codes "code " ++ decimal code
end_text (Signal signal) = codes "signal " ++ decimal signal

-- an event: the bytes that were put out, between a line with their stream and count and a line's end; or the end of a
-- process
abbrev pub event_text : Event → List ℕ
event_text (Out stream bytes) =
    codes "out " ++ (decimal stream ++ (codes " " ++ (decimal (length bytes) ++ (codes "\n" ++ (bytes ++ codes "\n")))))
event_text (Exit pid end) = codes "exit " ++ (decimal pid ++ (codes " " ++ (end_text end ++ codes "\n")))

-- the events in their order
abbrev pub events_text : List Event → List ℕ
events_text events = flat_map event_text events

-- why the run is over
abbrev pub verdict_text : Verdict → List ℕ
verdict_text Ended = codes "verdict ended\n"
verdict_text Deadlock = codes "verdict deadlock\n"
verdict_text Budget = codes "verdict budget\n"
verdict_text (Unsupported pid call) =
    codes "verdict unsupported " ++ (decimal pid ++ (codes " " ++ (decimal call ++ codes "\n")))
verdict_text (NoStart errno) = codes "verdict nostart " ++ (decimal (errno_number errno) ++ codes "\n")

-- a mode in octal, with leading zeros up to four digits
abbrev pub mode_text : ℕ → List ℕ
mode_text mode = replicate (4 - length (digits 8 false mode)) 48 ++ digits 8 false mode

-- a byte of ASCII that a path is shown without: a control, space or `%`
abbrev pub is_escaped : ℕ → Bool
is_escaped byte = nat_lt byte 33 || (byte == 37) || (byte == 127)

-- a set with a bit for each such byte: the controls (0 to 31, and 127), space (32) and `%` (37)
abbrev pub escaped_set : AsciiSet
escaped_set = record { mask = 2 ^ 33 - 1 + 2 ^ 37 + 2 ^ 127 }

-- a path or a target, each of those bytes and each byte past ASCII escaped by `%`
abbrev pub escaped_text : List ℕ → List ℕ
escaped_text bytes = percent_encode escaped_set bytes

-- a file: inode, mode, stamp, size, digest, path
unfoldable pub file_line : ℕ → ℕ → ℕ → List ℕ → List ℕ → List ℕ
file_line inode mode stamp path bytes =
    codes "file " ++ (decimal inode ++ (codes " " ++ (mode_text mode ++ (codes " " ++ (decimal stamp ++ (codes " "
    ++ (decimal (length bytes) ++ (codes " " ++ (encode_lower (sha256 bytes) ++ (codes " " ++ (escaped_text path ++ codes "\n")))))))))))

-- a directory: inode, mode, stamp, path
unfoldable pub dir_line : ℕ → ℕ → ℕ → List ℕ → List ℕ
dir_line inode mode stamp path =
    codes "dir " ++ (decimal inode ++ (codes " " ++ (mode_text mode ++ (codes " " ++ (decimal stamp ++ (codes " " ++ (escaped_text path ++ codes "\n")))))))

-- a symbolic link: inode, stamp, path, target
unfoldable pub link_line : ℕ → ℕ → List ℕ → List ℕ → List ℕ
link_line inode stamp path target =
    codes "link " ++ (decimal inode ++ (codes " " ++ (decimal stamp ++ (codes " " ++ (escaped_text path ++ (codes " " ++ (escaped_text target ++ codes "\n")))))))

-- the name of a device
abbrev pub device_name : Device → List ℕ
device_name Null = codes "null"
device_name Zero = codes "zero"
device_name Random = codes "random"

-- a device: inode, mode, stamp, which it is, path
unfoldable pub dev_line : ℕ → ℕ → ℕ → Device → List ℕ → List ℕ
dev_line inode mode stamp which path =
    codes "dev " ++ (decimal inode ++ (codes " " ++ (mode_text mode ++ (codes " " ++ (decimal stamp ++ (codes " "
    ++ (device_name which ++ (codes " " ++ (escaped_text path ++ codes "\n")))))))))

-- the line of a node with these attributes, at a path and under an inode
abbrev pub node_line : List ℕ × ℕ → Node → Attributes → List ℕ
node_line at (file bytes) a = file_line at.1 a.mode a.stamp at.0 bytes
node_line at (dir names) a = dir_line at.1 a.mode a.stamp at.0
node_line at (link target) a = link_line at.1 a.stamp at.0 target
node_line at (device which) a = dev_line at.1 a.mode a.stamp which at.0

-- the line of what may be there
abbrev pub line_of : List ℕ × ℕ → Option Node → Option Attributes → List ℕ
line_of at None a = []
line_of at (Some node) None = []
line_of at (Some node) (Some a) = node_line at node a

-- the line of one path of a tree
abbrev pub path_line : FileTree → List ℕ × ℕ → List ℕ
path_line t at = line_of at (node_at t.shape at.1) (get t.attributes at.1)

-- the line that says how many lines follow
abbrev pub tree_header : ℕ → List ℕ
tree_header count = codes "tree " ++ (decimal count ++ codes "\n")

-- a line for each path below the root, in byte order
abbrev pub path_lines : FileTree → List ℕ
path_lines t = flat_map (path_line t) (paths_of t.shape)

-- the tree: how many paths there are, and their lines
abbrev pub tree_text : FileTree → List ℕ
tree_text t = tree_header (length (paths_of t.shape)) ++ path_lines t

-- the whole report on an image of that version: the header, the events, the verdict and the tree
abbrev pub report : ℕ → List Event → Verdict → FileTree → List ℕ
report version events verdict t = header version ++ (events_text events ++ (verdict_text verdict ++ tree_text t))
