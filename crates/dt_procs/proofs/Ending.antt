-- What the end of a process leaves as it was.
use Rattle.std.proofs.Common.{◌≡◌, ℕ, ◌==◌, ◌||◌, List, [], ◌∷◌, ◌++◌, map, length, take, drop, refl, sym, ap, subst, ◌∙◌, arith}
use Rattle.std.specs.List.{All}
use Rattle.std.proofs.lemmas.Grind.{common_steps}
use Rattle.std.proofs.lemmas.List.{length-map}
use Rattle.std.proofs.lemmas.List.Elements.{All-map}
use Rattle.dt_base.specs.declared.event.End.{End}
use Rattle.dt_host.specs.World.{HostPids}
use Rattle.dt_procs.specs.declared.row.MemberRow.{MemberRow}
use Rattle.dt_procs.specs.Members.{members_after_end, member_after_end}
use Rattle.dt_procs.specs.Table.{Table, table_of, member_of, members_of, has_host_pid, Stands, IsRising, IsGiven, IsTable}
use Rattle.dt_procs.specs.inner.Rows.{row_after_end}
use Rattle.dt_procs.proofs.Pairs.{AllPairs-map}
use Rattle.dt_procs.proofs.Standing.{Apart, Rises}

-- the slice of a whole vector written back
pub rows_ended : (vpid : ℕ) (end : End) (rows seen now : List MemberRow) (n : ℕ) → seen ≡ rows → now ≡ map (row_after_end vpid end) seen
    → length seen ≡ n → take n (now ++ drop (length now) rows) ≡ map (row_after_end vpid end) rows
rows_ended vpid end rows seen now n same is whole =
    let new : now ≡ map (row_after_end vpid end) rows = is ∙ ap (map (row_after_end vpid end)) same in
    let size : length now ≡ length rows = rw (new, length-map) in
    let all : n ≡ length rows = sym whole ∙ ap length same in
    let back : take n (now ++ drop (length now) rows) ≡ now = grind (arith, common_steps) in
    back ∙ new

-- the processes after an end are those of the rows
pub ended-rows : (vpid : ℕ) (end : End) (rows : List MemberRow)
    → map member_of (map (row_after_end vpid end) rows) ≡ map (member_after_end vpid end) (map member_of rows)
ended-rows vpid end [] = refl
ended-rows vpid end (row ∷ rows) = ap (λ rest. member_after_end vpid end row.member ∷ rest) (ended-rows vpid end rows)

host_pid-ended : (vpid : ℕ) (end : End) (rows : List MemberRow) (pid : ℕ)
    → has_host_pid (map (row_after_end vpid end) rows) pid ≡ has_host_pid rows pid
host_pid-ended vpid end [] pid = refl
host_pid-ended vpid end (row ∷ rows) pid = ap (λ b. (row.host_pid == pid) || b) (host_pid-ended vpid end rows pid)

-- a table after an end
pub table-ended : (vpid : ℕ) (end : End) (t : Table) → IsTable t → IsTable (table_of (map (row_after_end vpid end) t.rows) t.next)
table-ended vpid end t table =
    let same = sym (ended-rows vpid end t.rows) in
    record {
      rising = subst IsRising same (AllPairs-map Rises Rises (member_after_end vpid end) (λ a b less. less) (members_of t) table.rising);
      given = subst (All (IsGiven t.next)) same
          (All-map (IsGiven t.next) (member_after_end vpid end) (members_of t)
          (λ k d below. record { least = (table.given k d below).least; below = (table.given k d below).below }));
      least = table.least;
      most = table.most;
      few = rw length-map table.few;
    }

-- it stands for the same pids
pub stands-ended : (vpid : ℕ) (end : End) (t : Table) (pids : HostPids) → Stands t pids
    → Stands (table_of (map (row_after_end vpid end) t.rows) t.next) pids
stands-ended vpid end t pids stands = record {
  exact = λ pid. stands.exact pid ∙ sym (host_pid-ended vpid end t.rows pid);
  apart = AllPairs-map Apart Apart (row_after_end vpid end) (λ a b other. other) t.rows stands.apart;
}

-- the processes after an end
pub ended-members : (vpid : ℕ) (end : End) (rows : List MemberRow)
    → map member_of (map (row_after_end vpid end) rows) ≡ members_after_end vpid end (map member_of rows)
unfolding members_after_end
ended-members vpid end rows = ended-rows vpid end rows
