-- How tables stand for the pids of a host after a change.
use Rattle.std.proofs.Common.{◌≡◌, ◌≢◌, ℕ, ◌<◌, ◌≤◌, suc, zero, not, ◌&&◌, ◌||◌, ◌==◌, Bool, true, false, cond, List, [], ◌∷◌, ◌++◌, map, length, get_or, Some, None, refl, sym, ap, subst, ◌∙◌, arith}
use Rattle.std.specs.List.{All, AllPairs, filter}
use Rattle.std.specs.FinSet.{contains, insert, remove, empty, contains-empty, contains-insert, contains-remove}
use Rattle.std.specs.Cmp.{nat_cmp_total, unsigned_tied}
use Rattle.std.specs.Ordering.{nat_cmp}
use Rattle.std.proofs.lemmas.Bool.Decides.{nat_tests}
use Rattle.std.proofs.lemmas.List.Elements.{All-tail, All-filter}
use Rattle.std.proofs.lemmas.List.Folds.{list_any-append}
use Rattle.std.proofs.lemmas.List.Kept.{AllPairs-filter}
use Rattle.std.proofs.lemmas.List.Quantifiers.{all_pairs_push}
use Rattle.dt_host.specs.World.{HostPids}
use Rattle.dt_procs.specs.declared.member.Member.{Member}
use Rattle.dt_procs.specs.declared.row.MemberRow.{MemberRow}
use Rattle.dt_procs.specs.Members.{has_pid}
use Rattle.dt_procs.specs.Table.{Table, table_of, member_of, has_host_pid, Stands, IsRising, IsGiven, IsTable}
use Rattle.dt_procs.specs.inner.Rows.{row_at}
use Rattle.dt_procs.proofs.Pairs.{AllPairs-head, AllPairs-tail, All-find}
use Rattle.dt_procs.proofs.Listed.{filter-rows}

-- two processes have other pids at the host
abbrev pub Apart : MemberRow → MemberRow → Type 0
Apart a b = a.host_pid ≢ b.host_pid

-- the first has the lower pid
abbrev pub Rises : Member → Member → Type 0
Rises before after = before.vpid < after.vpid

-- no process has a pid at the host
unreal : (rows : List MemberRow) (pid k : ℕ) (d : MemberRow) → has_host_pid rows pid ≡ false → k < length rows
    → (get_or rows k d).host_pid ≢ pid
unreal [] pid k d none below = absurd (omega arith)
unreal (row ∷ rows) pid zero d none below = grind (arith, nat_tests)
unreal (row ∷ rows) pid (suc k) d none below =
    unreal rows pid k d (grind (arith, nat_tests)) (omega arith)

-- nobody has a pid at the host that all have others than
pub none-host_pid : (rows : List MemberRow) (pid : ℕ) → All (λ row. pid ≢ row.host_pid) rows → has_host_pid rows pid ≡ false
none-host_pid [] pid all = refl
none-host_pid (row ∷ rows) pid all =
    let here : pid ≢ row.host_pid = all 0 row (omega arith) in
    let rest = none-host_pid rows pid (All-tail (λ (r : MemberRow). pid ≢ r.host_pid) row rows all) in
    grind (arith, nat_tests)

-- a process that is found has its pid at the host
pub host_pid-there : (rows : List MemberRow) (vpid : ℕ) (row : MemberRow) → row_at rows vpid ≡ Some row → has_host_pid rows row.host_pid ≡ true
host_pid-there [] vpid row is = absurd (let e : None ≡ Some row = is in cc)
host_pid-there (x ∷ rows) vpid row is =
    elim (has_pid vpid x.member) as (λ b. cond b (Some x) (row_at rows vpid) ≡ Some row → has_host_pid (x ∷ rows) row.host_pid ≡ true) [
      | true ↦ λ e. let same : x ≡ row = cc in grind (arith, nat_tests)
      | false ↦ λ e. let there = host_pid-there rows vpid row e in grind (arith, nat_tests)
    ] is

-- a table without a process stands for no pids
stands-none : (next : ℕ) → Stands (table_of [] next) empty
stands-none next = record {
  exact = λ pid. contains-empty nat_cmp pid;
  apart = λ i j d before below. absurd (omega arith);
}

-- one more process, of a new pid at the host
pub stands-push : (t : Table) (row : MemberRow) (next : ℕ) (pids : HostPids) → Stands t pids → contains pids row.host_pid ≡ false
    → Stands (table_of (t.rows ++ row ∷ []) next) (insert pids row.host_pid)
stands-push t row next pids stands free = record {
  exact = λ pid.
      let inserted = contains-insert nat_cmp_total pids row.host_pid pid in
      let tied = unsigned_tied pid row.host_pid in
      let before = stands.exact pid in
      let joined = list_any-append (λ (r : MemberRow). r.host_pid == pid) t.rows (row ∷ []) in
      grind (arith, nat_tests);
  apart = all_pairs_push Apart t.rows row stands.apart
      (λ k d below. unreal t.rows row.host_pid k d (sym (stands.exact row.host_pid) ∙ free) below);
}

-- likewise, for a table that is seen by its parts
pub stands-added : (t : Table) (rows now : List MemberRow) (row : MemberRow) (next more : ℕ) (old new : HostPids) → table_of rows next ≡ t
    → now ≡ rows ++ row ∷ [] → Stands t old → contains old row.host_pid ≡ false → new ≡ insert old row.host_pid
    → Stands (table_of now more) new
stands-added t rows now row next more old new view is stands free made =
    let whole : t.rows ++ row ∷ [] ≡ now = ap (λ (t : Table). t.rows ++ row ∷ []) (sym view) ∙ sym is in
    subst (Stands (table_of now more)) (sym made)
    (subst (λ (l : List MemberRow). Stands (table_of l more) (insert old row.host_pid)) whole (stands-push t row more old stands free))

-- the first process alone
pub stands-first : (none now : List MemberRow) (row : MemberRow) (next : ℕ) (old new : HostPids) → none ≡ [] → now ≡ none ++ row ∷ []
    → old ≡ empty → new ≡ insert old row.host_pid → Stands (table_of now next) new
stands-first none now row next old new none_is is empty_is made =
    let alone : now ≡ [] ++ row ∷ [] = is ∙ ap (λ (l : List MemberRow). l ++ row ∷ []) none_is in
    stands-added (table_of [] next) [] now row next next empty new refl alone (stands-none next)
    (contains-empty nat_cmp row.host_pid) (made ∙ ap (λ (p : HostPids). insert p row.host_pid) empty_is)

-- processes of greater pids stay
stays : (rows : List MemberRow) (vpid : ℕ) → All (λ m. vpid < m.vpid) (map member_of rows)
    → filter (λ row. not (has_pid vpid row.member)) rows ≡ rows
stays [] vpid above = refl
stays (row ∷ rows) vpid above =
    let here : vpid < row.member.vpid = above 0 row.member (omega arith) in
    let rest = stays rows vpid (All-tail (λ (m : Member). vpid < m.vpid) row.member (map member_of rows) above) in
    grind (arith, nat_tests)

-- the pid of no process is none of these
alone : (rows : List MemberRow) (host_pid pid : ℕ) → has_host_pid rows host_pid ≡ false
    → has_host_pid rows pid ≡ (not (pid == host_pid) && ((host_pid == pid) || has_host_pid rows pid))
alone rows host_pid pid gone = grind (arith, nat_tests)

-- another process stands beside
beside : (x host_pid pid : ℕ) (left all : Bool) → x ≢ host_pid → left ≡ (not (pid == host_pid) && all)
    → ((x == pid) || left) ≡ (not (pid == host_pid) && ((x == pid) || all))
beside x host_pid pid left all other rest = grind (arith, nat_tests)

-- without a process its pid at the host is the one that no process has any more
host_pid-without : (rows : List MemberRow) (vpid : ℕ) (row : MemberRow) (pid : ℕ) → IsRising (map member_of rows) → AllPairs Apart rows
    → row_at rows vpid ≡ Some row
    → has_host_pid (filter (λ row. not (has_pid vpid row.member)) rows) pid ≡ (not (pid == row.host_pid) && has_host_pid rows pid)
host_pid-without [] vpid row pid rising apart is = absurd (let e : None ≡ Some row = is in cc)
host_pid-without (x ∷ rows) vpid row pid rising apart is =
    elim (has_pid vpid x.member) as (λ b. has_pid vpid x.member ≡ b → cond b (Some x) (row_at rows vpid) ≡ Some row
    → has_host_pid (cond (not b) (x ∷ filter (λ row. not (has_pid vpid row.member)) rows) (filter (λ row. not (has_pid vpid row.member)) rows)) pid
    ≡ (not (pid == row.host_pid) && ((x.host_pid == pid) || has_host_pid rows pid))) [
      | true ↦ λ here e.
          let same : x ≡ row = cc in
          let pid_is : x.member.vpid ≡ vpid = grind (arith, nat_tests) in
          let above = AllPairs-head Rises x.member (map member_of rows) rising in
          let rest = stays rows vpid (subst (λ (n : ℕ). All (λ (m : Member). n < m.vpid) (map member_of rows)) pid_is above) in
          let gone = none-host_pid rows x.host_pid (AllPairs-head Apart x rows apart) in
          subst (λ l. has_host_pid l pid ≡ (not (pid == row.host_pid) && ((x.host_pid == pid) || has_host_pid rows pid))) (sym rest)
          (subst (λ (r : MemberRow). has_host_pid rows pid ≡ (not (pid == r.host_pid) && ((x.host_pid == pid) || has_host_pid rows pid))) same
          (alone rows x.host_pid pid gone))
      | false ↦ λ here e.
          let other = All-find (Apart x) (λ (r : MemberRow). has_pid vpid r.member) rows row (AllPairs-head Apart x rows apart) e in
          let rest = host_pid-without rows vpid row pid (AllPairs-tail Rises x.member (map member_of rows) rising) (AllPairs-tail Apart x rows apart) e in
          beside x.host_pid row.host_pid pid _ _ other rest
    ] refl is

-- without a process that had this pid at the host, which is let go
pub stands-without : (t : Table) (rows now : List MemberRow) (vpid next : ℕ) (row : MemberRow) (old new : HostPids) → table_of rows next ≡ t
    → now ≡ filter (λ row. not (has_pid vpid row.member)) rows → IsTable (table_of rows next) → Stands t old
    → row_at rows vpid ≡ Some row → new ≡ remove old row.host_pid → Stands (table_of now next) new
stands-without t rows now vpid next row old new view is table stands_before there made =
    let stands = subst (λ (t : Table). Stands t old) (sym view) stands_before in
    let less : Stands (table_of (filter (λ row. not (has_pid vpid row.member)) rows) next) (remove old row.host_pid) = record {
      exact = λ pid.
          let removed = contains-remove nat_cmp_total old row.host_pid pid in
          let tied = unsigned_tied pid row.host_pid in
          let before = stands.exact pid in
          let left = host_pid-without rows vpid row pid table.rising stands.apart there in
          grind (arith, nat_tests);
      apart = AllPairs-filter Apart (λ (r : MemberRow). not (has_pid vpid r.member)) rows stands.apart;
    } in
    subst (Stands (table_of now next)) (sym made) (subst (λ (l : List MemberRow). Stands (table_of l next) (remove old row.host_pid)) (sym is) less)

length-without : (p : MemberRow → Bool) (rows : List MemberRow) → length (filter p rows) ≤ length rows
length-without p [] = omega arith
length-without p (row ∷ rows) = grind (arith, length-without p rows)

-- a table without a process
pub table-without : (rows now : List MemberRow) (vpid next : ℕ) → now ≡ filter (λ row. not (has_pid vpid row.member)) rows
    → IsTable (table_of rows next) → IsTable (table_of now next)
table-without rows now vpid next is table =
    let same = filter-rows (λ (m : Member). not (has_pid vpid m)) rows in
    let less : IsTable (table_of (filter (λ row. not (has_pid vpid row.member)) rows) next) = record {
      rising = subst IsRising same (AllPairs-filter Rises (λ (m : Member). not (has_pid vpid m)) (map member_of rows) table.rising);
      given = subst (All (IsGiven next)) same (All-filter (λ (m : Member). not (has_pid vpid m)) (IsGiven next) (map member_of rows) table.given);
      least = table.least;
      most = table.most;
      few = omega (arith, length-without (λ (r : MemberRow). not (has_pid vpid r.member)) rows, table.few);
    } in
    subst (λ (l : List MemberRow). IsTable (table_of l next)) (sym is) less
