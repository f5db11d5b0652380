-- Lists of processes with their pids at the host.
use Rattle.std.specs.Prelude.{ℕ, List, Option}
use Rattle.std.specs.List.{find}
use Rattle.dt_base.specs.declared.event.End.{End}
use Rattle.dt_procs.specs.declared.row.MemberRow.{MemberRow}
use Rattle.dt_procs.specs.Members.{has_pid, is_ready, member_after_end}

-- the row of a pid
abbrev pub row_at : List MemberRow → ℕ → Option MemberRow
row_at rows vpid = find (λ row. has_pid vpid row.member) rows

-- the first row of a zombie that is asked for
abbrev pub ready_row : List MemberRow → ℕ → Option ℕ → Option MemberRow
ready_row rows parent which = find (λ row. is_ready parent which row.member) rows

-- what the end of a process makes of a row
abbrev pub row_after_end : ℕ → End → MemberRow → MemberRow
row_after_end vpid end row = record { host_pid = row.host_pid; member = member_after_end vpid end row.member }
