-- How the pids of a container stand for those of its host.
use Rattle.std.specs.Prelude.{◌≡◌, ◌≢◌, ℕ, ◌<◌, ◌≤◌, ◌==◌, Bool, List, map, length}
use Rattle.std.specs.List.{list_any, All, AllPairs}
use Rattle.std.specs.FinSet.{contains}
use Rattle.dt_host.specs.World.{HostPids}
use Rattle.dt_procs.specs.declared.member.Member.{Member}
use Rattle.dt_base.specs.declared.limits.TheConstants.{FIRST_PID}
use Rattle.dt_procs.specs.declared.member.TheConstants.{PID_LIMIT, PROCESS_LIMIT}
use Rattle.dt_procs.specs.declared.row.MemberRow.{MemberRow}

-- the processes, each with its pid at the host, and the pid that the next child gets
pub record Table : Type 0 where
  pub rows : List MemberRow
  pub next : ℕ

-- a table with these parts
abbrev pub table_of : List MemberRow → ℕ → Table
table_of rows next = record { rows = rows; next = next }

-- the process of a row
abbrev pub member_of : MemberRow → Member
member_of row = row.member

-- the processes as their kin see them
abbrev pub members_of : Table → List Member
members_of t = map member_of t.rows

-- the pids of processes rise from each to all that follow
abbrev pub IsRising : List Member → Type 0
IsRising = AllPairs (λ before after. before.vpid < after.vpid)

-- the pid of a process was given: it is at least that of the first and below the next
pub record IsGiven (next : ℕ) (m : Member) : Type 0 where
  pub least : FIRST_PID ≤ m.vpid
  pub below : m.vpid < next

-- pids rise, each was given, the next is a pid too or one more than the greatest, and there are not too many
pub record IsTable (t : Table) : Type 0 where
  pub rising : IsRising (members_of t)
  pub given : All (IsGiven t.next) (members_of t)
  pub least : FIRST_PID ≤ t.next
  pub most : t.next ≤ PID_LIMIT
  pub few : length t.rows ≤ PROCESS_LIMIT

-- a process has this pid at the host
abbrev pub has_host_pid : List MemberRow → ℕ → Bool
has_host_pid rows pid = list_any (λ row. row.host_pid == pid) rows

-- the live pids of the host are exactly those of the processes, zombies included, and no two processes share one there
pub record Stands (t : Table) (pids : HostPids) : Type 0 where
  pub exact : (pid : ℕ) → contains pids pid ≡ has_host_pid t.rows pid
  pub apart : AllPairs (λ a b. a.host_pid ≢ b.host_pid) t.rows
