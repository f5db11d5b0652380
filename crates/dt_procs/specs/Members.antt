-- The processes of a container as their kin see them: who is whose parent, and who has ended and waits to be reaped
-- (fork(2), wait(2), getppid(2)).
use Rattle.std.specs.Prelude.{ℕ, ◌==◌, Bool, true, false, not, ◌&&◌, List, [], ◌∷◌, ◌++◌, map, filter, length, nat_le, Option, None, Some, option_map, is_some, if◌then◌else◌}
use Rattle.std.specs.Option.{is_none, option_and_then}
use Rattle.std.specs.List.{list_any, find}
use Rattle.dt_base.specs.declared.event.End.{End}
use Rattle.dt_base.specs.declared.limits.TheConstants.{FIRST_PID}
use Rattle.dt_procs.specs.declared.member.TheConstants.{PROCESS_LIMIT}
use Rattle.dt_procs.specs.declared.member.Member.{Member}
use Rattle.dt_procs.specs.declared.member.Reaped.{Reaped}
use Rattle.dt_procs.specs.declared.member.Reaped.TheVariants.{Got, NoneReady, NoChild}

-- a process that lives, with its parent
abbrev pub newborn : ℕ → ℕ → Member
newborn vpid parent = record { vpid = vpid; parent = parent; end = None }

-- at first there is one process, which has no parent
abbrev pub first_members : List Member
first_members = newborn FIRST_PID 0 ∷ []

-- a process has this pid
abbrev pub has_pid : ℕ → Member → Bool
has_pid vpid m = m.vpid == vpid

-- the pids of processes, those of zombies too
abbrev pub vpids_of : List Member → List ℕ
vpids_of members = map (λ m. m.vpid) members

-- the process of a pid, a zombie too
abbrev pub member_at : List Member → ℕ → Option Member
member_at members vpid = find (has_pid vpid) members

-- a process has this pid and has not ended
abbrev pub is_live : ℕ → Member → Bool
is_live vpid m = has_pid vpid m && is_none m.end

-- whether a process is there and has not ended
abbrev pub has_live : List Member → ℕ → Bool
has_live members vpid = list_any (is_live vpid) members

-- the parent of a process, a zombie's too; that of the first is 0
abbrev pub parent_pid : List Member → ℕ → Option ℕ
parent_pid members vpid = option_map (λ m. m.parent) (member_at members vpid)

-- how a process ended, if it is there and has
abbrev pub end_of : List Member → ℕ → Option End
end_of members vpid = option_and_then (λ m. m.end) (member_at members vpid)

-- no more processes may be there, zombies included
abbrev pub is_full : List Member → Bool
is_full members = nat_le PROCESS_LIMIT (length members)

-- with a child, whose pid is greater than all before it
abbrev pub with_child : List Member → ℕ → ℕ → List Member
with_child members vpid parent = members ++ newborn vpid parent ∷ []

-- the parent of a process after the end of one: the children of that one go to the first process
abbrev pub parent_after : ℕ → Member → ℕ
parent_after vpid m = if m.parent == vpid then FIRST_PID else m.parent

-- how a process ended, after the end of one: that one is a zombie
abbrev pub end_after : ℕ → End → Member → Option End
end_after vpid end m = if m.vpid == vpid then Some end else m.end

-- what the end of a process makes of one
abbrev pub member_after_end : ℕ → End → Member → Member
member_after_end vpid end m = record { vpid = m.vpid; parent = parent_after vpid m; end = end_after vpid end m }

-- a process ends: it is a zombie, and its children go to the first process
unfoldable pub members_after_end : ℕ → End → List Member → List Member
members_after_end vpid end members = map (member_after_end vpid end) members

-- whether a process is the one that is asked for, if one is
abbrev pub is_asked : Option ℕ → ℕ → Bool
is_asked None vpid = true
is_asked (Some pid) vpid = vpid == pid

-- whether a process is a child that is asked for
abbrev pub is_child : ℕ → Option ℕ → Member → Bool
is_child parent which m = (m.parent == parent) && is_asked which m.vpid

-- a child that is asked for and has ended
abbrev pub is_ready : ℕ → Option ℕ → Member → Bool
is_ready parent which m = is_child parent which m && is_some m.end

-- what there is where no child has ended: one that lives, or none
abbrev pub no_zombie : Bool → Reaped
no_zombie true = NoneReady
no_zombie false = NoChild

-- a zombie that was found
abbrev pub got_or : Reaped → ℕ → Option End → Reaped
got_or rest vpid None = rest
got_or rest vpid (Some end) = Got vpid end

-- the first zombie, or else what there is
abbrev pub ready_or : Reaped → Option Member → Reaped
ready_or rest None = rest
ready_or rest (Some m) = got_or rest m.vpid m.end

-- what wait(2) finds: of the children that are asked for the zombie of the lowest pid, since the members stand in the order
-- of their pids
unfoldable pub look_for : List Member → ℕ → Option ℕ → Reaped
look_for members parent which =
    ready_or (no_zombie (list_any (is_child parent which) members)) (find (is_ready parent which) members)

-- a zombie was found
abbrev pub is_got : Reaped → Bool
is_got (Got vpid end) = true
is_got NoneReady = false
is_got NoChild = false

-- without the process of a pid
abbrev pub without_member : List Member → ℕ → List Member
without_member members vpid = filter (λ m. not (has_pid vpid m)) members

-- a zombie that was found is reaped
abbrev pub members_after_reap : List Member → Reaped → List Member
members_after_reap members (Got vpid end) = without_member members vpid
members_after_reap members NoneReady = members
members_after_reap members NoChild = members
