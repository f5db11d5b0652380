-- The works at home, after a change of the machines or of how processes stand.
use Rattle.std.proofs.Common.{◌≡◌, ◌≢◌, ℕ, List, [], ◌∷◌, map, cond, Some, refl, sym, ap, ◌∙◌}
use Rattle.std.specs.Prelude.{option_map}
use Rattle.std.specs.declared.cmp.Ordering.TheVariants.{Less, Equal, Greater}
use Rattle.std.specs.Ordering.{is_eq, nat_cmp}
use Rattle.std.specs.Cmp.{nat_cmp_total}
use Rattle.std.specs.FinMap.{find, empty, get, insert, remove, entries, get-empty, get-entries, get-from_entries, same_map, nat_cmp-IsAntisymmetric}
use Rattle.dt_tables.specs.Values.{map_values}
use Rattle.dt_tables.proofs.Maps.{at_insert, at_remove, get-insert_same, get-insert_other, get-remove_same, get-remove_other}
use Rattle.dt_tables.proofs.Valued.{get-map_values}
use Rattle.dt_rv64.specs.declared.machine.Machine.{Machine}
use Rattle.dt_calls.specs.Container.{Machines}
use Rattle.dt_rv64.specs.declared.segments.Seg.{Seg}
use Rattle.dt_sched.specs.declared.process.Phase.{Phase}
use Rattle.dt_sched.specs.declared.process.Phase.TheVariants.{Owes}
use Rattle.dt_engine.specs.Work.{owing_work}
use Rattle.dt_engine.specs.inner.InCode.{work_in, works_in}

find-with : {X Y : Type 0} (f : ℕ → X → Y) (q : ℕ) (es : List (ℕ × X))
    → find nat_cmp q (map (λ e. (e.0, f e.0 e.1)) es) ≡ option_map (f q) (find nat_cmp q es)
find-with f q [] = refl
find-with f q (e ∷ es) =
    elim (nat_cmp q e.0) as (λ r. nat_cmp q e.0 ≡ r
    → cond (is_eq r) (Some (f e.0 e.1)) (find nat_cmp q (map (λ e. (e.0, f e.0 e.1)) es))
    ≡ option_map (f q) (cond (is_eq r) (Some e.1) (find nat_cmp q es))) [
      | Less ↦ λ h. find-with f q es
      | Equal ↦ λ h. ap (λ k. Some (f k e.1)) (sym (nat_cmp-IsAntisymmetric q e.0 h))
      | Greater ↦ λ h. find-with f q es
    ] refl

-- the work of a process, by its machine and by how it stands
pub get-works_in : (machines : Machines) (phases : ℕ → Phase Seg) (q : ℕ)
    → get (works_in machines phases) q ≡ option_map (work_in (phases q)) (get machines q)
unfolding works_in
get-works_in machines phases q =
    get-from_entries nat_cmp_total _ q
    ∙ find-with (λ p. work_in (phases p)) q (entries machines)
    ∙ ap (option_map (work_in (phases q))) (sym (get-entries machines q))

-- any other process stands as it did
abbrev pub Only : ℕ → (ℕ → Phase Seg) → (ℕ → Phase Seg) → Type 0
Only p old new = (q : ℕ) → q ≢ p → new q ≡ old q

other : (machines : Machines) (old new : ℕ → Phase Seg) (q : ℕ) → new q ≡ old q
    → option_map (work_in (new q)) (get machines q) ≡ get (works_in machines old) q
other machines old new q same =
    ap (λ phase. option_map (work_in phase) (get machines q)) same
    ∙ sym (get-works_in machines old q)

-- a machine that comes home puts its process's work in
pub works_in-insert : (machines : Machines) (old new : ℕ → Phase Seg) (p : ℕ) (m : Machine) → Only p old new
    → works_in (insert machines p m) new ≡ insert (works_in machines old) p (work_in (new p) m)
works_in-insert machines old new p m only = same_map nat_cmp_total nat_cmp-IsAntisymmetric _ _ (λ q.
    get-works_in (insert machines p m) new q
    ∙ at_insert nat_cmp_total nat_cmp-IsAntisymmetric
    (λ found. option_map (work_in (new q)) (get (insert machines p m) q) ≡ found) (works_in machines old) p (work_in (new p) m) q
    (λ e. ap (λ q. option_map (work_in (new q)) (get (insert machines p m) q)) e
    ∙ ap (option_map (work_in (new p))) (get-insert_same nat_cmp_total nat_cmp-IsAntisymmetric machines p m))
    (λ e. ap (option_map (work_in (new q))) (get-insert_other nat_cmp_total nat_cmp-IsAntisymmetric machines p m q e)
    ∙ other machines old new q (only q e)))

-- a machine that goes takes its process's work away, however that stands
pub works_in-remove : (machines : Machines) (old new : ℕ → Phase Seg) (p : ℕ) → Only p old new
    → works_in (remove machines p) new ≡ remove (works_in machines old) p
works_in-remove machines old new p only = same_map nat_cmp_total nat_cmp-IsAntisymmetric _ _ (λ q.
    get-works_in (remove machines p) new q
    ∙ at_remove nat_cmp_total nat_cmp-IsAntisymmetric
    (λ found. option_map (work_in (new q)) (get (remove machines p) q) ≡ found) (works_in machines old) p q
    (λ e. ap (λ q. option_map (work_in (new q)) (get (remove machines p) q)) e
    ∙ ap (option_map (work_in (new p))) (get-remove_same nat_cmp_total nat_cmp-IsAntisymmetric machines p))
    (λ e. ap (option_map (work_in (new q))) (get-remove_other nat_cmp_total nat_cmp-IsAntisymmetric machines p q e)
    ∙ other machines old new q (only q e)))

-- where each process stands as it did all works are as they were
pub works_in-same : (machines : Machines) (old new : ℕ → Phase Seg) → ((q : ℕ) → new q ≡ old q)
    → works_in machines new ≡ works_in machines old
works_in-same machines old new same = same_map nat_cmp_total nat_cmp-IsAntisymmetric _ _ (λ q.
    get-works_in machines new q ∙ other machines old new q (same q))

-- without machines there are no works
pub works_in-empty : (phases : ℕ → Phase Seg) → works_in empty phases ≡ empty
works_in-empty phases = same_map nat_cmp_total nat_cmp-IsAntisymmetric _ _ (λ q.
    get-works_in empty phases q
    ∙ ap (option_map (work_in (phases q))) (get-empty nat_cmp q)
    ∙ sym (get-empty nat_cmp q))

-- where each process owes
pub works_in-owing : (machines : Machines) (phases : ℕ → Phase Seg) → ((q : ℕ) → phases q ≡ Owes)
    → works_in machines phases ≡ map_values owing_work machines
works_in-owing machines phases owing = same_map nat_cmp_total nat_cmp-IsAntisymmetric _ _ (λ q.
    get-works_in machines phases q
    ∙ ap (λ phase. option_map (work_in phase) (get machines q)) (owing q)
    ∙ sym (get-map_values nat_cmp_total owing_work machines q))
