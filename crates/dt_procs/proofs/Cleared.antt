-- Processes that go one after the other, with their pids at the host.
use Rattle.std.proofs.Common.{◌≡◌, ℕ, ◌+◌, ◌<◌, ◌≤◌, ◌==◌, not, ◌&&◌, ◌||◌, false, List, ◌∷◌, length, drop, get_or, refl, sym, ap, subst, ◌∙◌, arith}
use Rattle.std.specs.Cmp.{nat_cmp_total, unsigned_tied}
use Rattle.std.specs.Ordering.{nat_cmp}
use Rattle.std.specs.FinSet.{contains, remove, empty, contains-empty, contains-remove, same_set, nat_cmp-IsAntisymmetric}
use Rattle.std.proofs.lemmas.Bool.Decides.{nat_tests}
use Rattle.std.proofs.lemmas.List.{drop_all}
use Rattle.dt_base.proofs.Lists.{drop-at}
use Rattle.dt_host.specs.World.{HostPids}
use Rattle.dt_procs.specs.declared.row.MemberRow.{MemberRow}
use Rattle.dt_procs.specs.Table.{table_of, has_host_pid, Stands}
use Rattle.dt_procs.proofs.Pairs.{AllPairs-head, AllPairs-tail}
use Rattle.dt_procs.proofs.Standing.{Apart, none-host_pid}

-- without the first process, and its pid at the host
stands-tail : (row : MemberRow) (rows : List MemberRow) (next : ℕ) (old : HostPids) → Stands (table_of (row ∷ rows) next) old
    → Stands (table_of rows next) (remove old row.host_pid)
stands-tail row rows next old stands = record { exact = left; apart = AllPairs-tail Apart row rows stands.apart }
  where
    gone : has_host_pid rows row.host_pid ≡ false
    gone = none-host_pid rows row.host_pid (AllPairs-head Apart row rows stands.apart)

    left : (pid : ℕ) → contains (remove old row.host_pid) pid ≡ has_host_pid rows pid
    left pid =
        let removed = contains-remove nat_cmp_total old row.host_pid pid in
        let tied = unsigned_tied pid row.host_pid in
        let before = stands.exact pid in
        let none = gone in
        grind (arith, nat_tests)

-- one more of the first processes is gone
pub stands-rest : (rows : List MemberRow) (i next : ℕ) (d : MemberRow) (old new : HostPids) → i < length rows
    → Stands (table_of (drop i rows) next) old → new ≡ remove old (get_or rows i d).host_pid
    → Stands (table_of (drop (i + 1) rows) next) new
stands-rest rows i next d old new within stands made =
    subst (Stands (table_of (drop (i + 1) rows) next)) (sym made)
    (stands-tail (get_or rows i d) (drop (i + 1) rows) next old
    (subst (λ (l : List MemberRow). Stands (table_of l next) old) (drop-at rows i (get_or rows i d) d within refl) stands))

-- where no process is left, no pid is live
pub stands-end : (rows : List MemberRow) (i next : ℕ) (pids : HostPids) → length rows ≤ i → Stands (table_of (drop i rows) next) pids → pids ≡ empty
stands-end rows i next pids past stands =
    let none = subst (λ (l : List MemberRow). Stands (table_of l next) pids) (drop_all i rows past) stands in
    same_set nat_cmp_total nat_cmp-IsAntisymmetric _ _ (λ pid. none.exact pid ∙ sym (contains-empty nat_cmp pid))
