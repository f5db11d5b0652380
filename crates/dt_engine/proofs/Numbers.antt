-- What isn't at home before a turn isn't after it, and numbers that were given stay given.
use Rattle.std.proofs.Common.{◌≡◌, ℕ, ◌<◌, ◌≤◌, Bool, true, false, cond, Option, Some, None, refl, sym, ap, subst, arith}
use Rattle.std.specs.Ordering.{nat_cmp}
use Rattle.std.specs.Cmp.{nat_cmp_total}
use Rattle.std.specs.FinMap.{empty, get, get-empty, nat_cmp-IsAntisymmetric}
use Rattle.dt_tables.proofs.Maps.{at_insert, at_remove}
use Rattle.dt_rv64.specs.declared.machine.Machine.{Machine}
use Rattle.dt_calls.specs.Settle.{with_own, next_after}
use Rattle.dt_engine.specs.Work.{Work, Works, owing_work, prepared_of}
use Rattle.dt_engine.specs.Turn.{State, Act, act, works_after_act, is_ended_verdict, with_child_work, turn_of_work, turn_of_head, head_pid, turn}

-- a fact of what may stand at q, which holds of nothing, of what stood there, and, where q is one of two keys, of what is put there
module _ (P : Option Work → Type 0) (none : P None) (q : ℕ) where
  at_own : (works : Works) (p : ℕ) (own : Option Work) → (q ≡ p → (w : Work) → P (Some w)) → P (get works q) → P (get (with_own works p own) q)
  at_own works p None here was = at_remove nat_cmp_total nat_cmp-IsAntisymmetric P works p q (λ _. none) (λ _. was)
  at_own works p (Some w) here was = at_insert nat_cmp_total nat_cmp-IsAntisymmetric P works p w q (λ is. here is w) (λ _. was)

  at_child : (works : Works) (next : ℕ) (child : Option Machine) → (q ≡ next → (m : Machine) → child ≡ Some m → P (Some (owing_work m)))
      → P (get works q) → P (get (with_child_work works next child) q)
  at_child works next None here was = was
  at_child works next (Some m) here was =
      at_insert nat_cmp_total nat_cmp-IsAntisymmetric P works next (owing_work m) q (λ is. here is m refl) (λ _. was)

  at_left : (b : Bool) (works : Works) → P (get works q) → P (get (cond b empty works) q)
  at_left true works was = subst P (sym (get-empty nat_cmp q)) none
  at_left false works was = was

  at_changed : (works : Works) (p next : ℕ) (a : Act) → (q ≡ p → (w : Work) → P (Some w))
      → (q ≡ next → (m : Machine) → a.child ≡ Some m → P (Some (owing_work m))) → P (get works q) → P (get (works_after_act works p next a) q)
  unfolding works_after_act
  at_changed works p next a own child was =
      at_left (is_ended_verdict a.verdict) _ (at_child _ next a.child child (at_own works p a.own own was))

taken-apart : (s : State) (p q : ℕ) (found : Option Work) → get s.works p ≡ found → get s.works q ≡ None → q < s.next
    → let t = turn_of_work s p found in let n = t.next in get n.works q ≡ None
taken-apart s p q None is none given = none
taken-apart s p q (Some w) is none given =
    let a = act s.shared s.schedule s.next p (prepared_of w) in
    at_changed (λ found. found ≡ None) refl q s.works p s.next a
    (λ e x. let z = ap (get s.works) e in cc)
    (λ e m child. absurd (omega arith))
    none

headed-apart : (s : State) (head : Option ℕ) (q : ℕ) → get s.works q ≡ None → q < s.next
    → let t = turn_of_head s head in let n = t.next in get n.works q ≡ None
headed-apart s None q none given = none
headed-apart s (Some p) q none given = taken-apart s p q (get s.works p) refl none given

-- what isn't at home before a turn isn't after it
pub turn-apart : (s : State) (q : ℕ) → get s.works q ≡ None → q < s.next → let t = turn s in let n = t.next in get n.works q ≡ None
unfolding turn
turn-apart s q none given = headed-apart s (head_pid s.schedule.order) q none given

next-later : (next : ℕ) (child : Option Machine) → next ≤ next_after next child
next-later next None = omega arith
next-later next (Some m) = omega arith

taken-later : (s : State) (p : ℕ) (found : Option Work) → let t = turn_of_work s p found in let n = t.next in s.next ≤ n.next
taken-later s p None = omega arith
taken-later s p (Some w) = let a = act s.shared s.schedule s.next p (prepared_of w) in next-later s.next a.child

headed-later : (s : State) (head : Option ℕ) → let t = turn_of_head s head in let n = t.next in s.next ≤ n.next
headed-later s None = omega arith
headed-later s (Some p) = taken-later s p (get s.works p)

-- the pid that is given next doesn't fall
pub turn-later : (s : State) → let t = turn s in let n = t.next in s.next ≤ n.next
unfolding turn
turn-later s = headed-later s (head_pid s.schedule.order)
