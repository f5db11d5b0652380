-- A turn sees no work that is away.
use Rattle.std.proofs.Common.{◌≡◌, ℕ, arith, [], ◌∷◌, Bool, true, false, cond, Option, Some, None, refl, sym, ap, subst, ◌∙◌}
use Rattle.std.specs.Prelude.{IsSome}
use Rattle.std.specs.Ordering.{is_eq, nat_cmp}
use Rattle.std.specs.Cmp.{nat_cmp_total}
use Rattle.std.specs.FinMap.{find, get, insert, empty, remove, get-insert, same_map, nat_cmp-IsAntisymmetric}
use Rattle.dt_tables.proofs.Maps.{at_insert, at_remove, get-remove_same, get-remove_other, get-insert_same, get-insert_other}
use Rattle.dt_rv64.specs.declared.machine.Machine.{Machine}
use Rattle.dt_calls.specs.Settle.{next_after, with_own}
use Rattle.dt_engine.specs.Work.{Work, Works, owing_work, prepared_of}
use Rattle.dt_engine.specs.Turn.{State, Act, act, works_after_act, is_ended_verdict, with_child_work, turn_of_work, turn_of_head, head_pid, turn}
use Rattle.dt_engine.specs.Ahead.{Away, with_works, state_with_works, turn_with_works, IsAway, HasHead, TurnAway}

-- the first of two that is there
abbrev pub over : Option Work → Option Work → Option Work
over None y = y
over (Some x) y = Some x

over-choice : (b : Bool) (x : Work) (y z : Option Work) → cond b (Some x) (over y z) ≡ over (cond b (Some x) y) z
over-choice true x y z = refl
over-choice false x y z = refl

over-none : (x y : Option Work) → x ≡ None → over x y ≡ y
over-none x y is = ap (λ x. over x y) is

pub get-put_all : (ws : Away) (works : Works) (q : ℕ) → get (with_works ws works) q ≡ over (find nat_cmp q ws) (get works q)
get-put_all [] works q = refl
get-put_all (w ∷ ws) works q =
    get-insert nat_cmp_total (with_works ws works) w.0 w.1 q
    ∙ ap (cond (is_eq (nat_cmp q w.0)) (Some w.1)) (get-put_all ws works q)
    ∙ over-choice (is_eq (nat_cmp q w.0)) w.1 (find nat_cmp q ws) (get works q)

unless_some : {X : Type 0} (found : Option X) → (IsSome found → ⊥) → found ≡ None
unless_some None h = refl
unless_some (Some x) h = absurd (h refl)

module _ (ws : Away) where
  -- what is at home isn't away
  home-apart : (s : State) (p : ℕ) → IsSome (get s.works p) → IsAway s ws → find nat_cmp p ws ≡ None
  home-apart s p some away = unless_some (find nat_cmp p ws) (λ h. let none = away.apart p h in cc)

  -- two maps that differ by the works that come home still do after an insert at another key
  pub over-insert : (m n : Works) (k : ℕ) (w : Work) (q : ℕ) → find nat_cmp k ws ≡ None
      → get m q ≡ over (find nat_cmp q ws) (get n q)
      → get (insert m k w) q ≡ over (find nat_cmp q ws) (get (insert n k w) q)
  over-insert m n k w q apart is =
      at_insert nat_cmp_total nat_cmp-IsAntisymmetric (λ found. get (insert m k w) q ≡ over (find nat_cmp q ws) found) n k w q
      (λ e. ap (get (insert m k w)) e ∙ get-insert_same nat_cmp_total nat_cmp-IsAntisymmetric m k w
      ∙ sym (over-none (find nat_cmp q ws) (Some w) (ap (λ q. find nat_cmp q ws) e ∙ apart)))
      (λ e. get-insert_other nat_cmp_total nat_cmp-IsAntisymmetric m k w q e ∙ is)

  over-own : (m n : Works) (k : ℕ) (own : Option Work) (q : ℕ) → find nat_cmp k ws ≡ None
      → get m q ≡ over (find nat_cmp q ws) (get n q)
      → get (with_own m k own) q ≡ over (find nat_cmp q ws) (get (with_own n k own) q)
  over-own m n k (Some w) q apart is = over-insert m n k w q apart is
  over-own m n k None q apart is =
      at_remove nat_cmp_total nat_cmp-IsAntisymmetric (λ found. get (remove m k) q ≡ over (find nat_cmp q ws) found) n k q
      (λ e. ap (get (remove m k)) e ∙ get-remove_same nat_cmp_total nat_cmp-IsAntisymmetric m k
      ∙ sym (over-none (find nat_cmp q ws) None (ap (λ q. find nat_cmp q ws) e ∙ apart)))
      (λ e. get-remove_other nat_cmp_total nat_cmp-IsAntisymmetric m k q e ∙ is)

  over-child : (m n : Works) (next : ℕ) (child : Option Machine) (q : ℕ) → find nat_cmp next ws ≡ None
      → get m q ≡ over (find nat_cmp q ws) (get n q)
      → get (with_child_work m next child) q ≡ over (find nat_cmp q ws) (get (with_child_work n next child) q)
  over-child m n next None q apart is = is
  over-child m n next (Some x) q apart is = over-insert m n next (owing_work x) q apart is

  left-away : (b : Bool) (x y : Works) → x ≡ with_works ws y → cond b empty x ≡ with_works (cond b [] ws) (cond b empty y)
  left-away true x y is = refl
  left-away false x y is = is

  changed-away : (works : Works) (p next : ℕ) (a : Act) → find nat_cmp p ws ≡ None → find nat_cmp next ws ≡ None
      → works_after_act (with_works ws works) p next a ≡ with_works (cond (is_ended_verdict a.verdict) [] ws) (works_after_act works p next a)
  unfolding works_after_act
  changed-away works p next a own child = left-away (is_ended_verdict a.verdict) _ _
      (same_map nat_cmp_total nat_cmp-IsAntisymmetric _ _ (λ q.
      over-child _ _ next a.child q child (over-own (with_works ws works) works p a.own q own (get-put_all ws works q))
      ∙ sym (get-put_all ws _ q)))

  next-fresh : (s : State) → IsAway s ws → find nat_cmp s.next ws ≡ None
  next-fresh s away = unless_some (find nat_cmp s.next ws) (λ h. let less = away.given s.next h in omega arith)

  taken-away : (s : State) (p : ℕ) (found : Option Work) → get s.works p ≡ found → IsSome found → IsAway s ws
      → turn_of_work (state_with_works ws s) p found ≡ turn_with_works ws (turn_of_work s p found)
  unfolding state_with_works
  taken-away s p None is some away = cc
  taken-away s p (Some w) is some away =
      let a = act s.shared s.schedule s.next p (prepared_of w) in
      ap (λ works. record {
        next
            = record { shared = a.shared; works = works; schedule = a.schedule; next = next_after s.next a.child };
        events
            = a.events;
        verdict = a.verdict;
      })
      (changed-away s.works p s.next a (home-apart s p (subst IsSome (sym is) some) away) (next-fresh s away))

  headed-away : (s : State) (head : Option ℕ) → head_pid s.schedule.order ≡ head → HasHead s → IsAway s ws
      → turn_of_head (state_with_works ws s) head ≡ turn_with_works ws (turn_of_head s head)
  unfolding state_with_works
  headed-away s None is has away = refl
  headed-away s (Some p) is has away =
      ap (turn_of_work (state_with_works ws s) p)
      (get-put_all ws s.works p ∙ over-none (find nat_cmp p ws) (get s.works p) (home-apart s p (has p is) away))
      ∙ taken-away s p (get s.works p) refl (has p is) away

pub turn-away : TurnAway
unfolding turn state_with_works
turn-away ws s has away = headed-away ws s (head_pid s.schedule.order) refl has away
