-- What a table holds, and how it stands for the pipes of a host, after a change of one pipe.
use Rattle.std.proofs.Common.{◌≡◌, ◌≢◌, ℕ, ◌<◌, ◌≤◌, List, [], length, Option, None, Some, refl, sym, ap, subst, ◌∙◌, arith}
use Rattle.std.specs.Prelude.{option_map, unwrap_or, IfSome, IsSome}
use Rattle.std.specs.Cmp.{nat_cmp_total}
use Rattle.std.specs.FinMap.{get, insert, remove, empty, get-empty, same_map, nat_cmp-IsAntisymmetric}
use Rattle.std.specs.Ordering.{nat_cmp}
use Rattle.dt_base.specs.declared.limits.TheConstants.{PIPE_LIMIT}
use Rattle.dt_host.specs.World.{PipeContents}
use Rattle.dt_tables.proofs.Found.{none_there}
use Rattle.dt_tables.proofs.Maps.{at_insert, at_remove, get-insert_same, get-insert_other, get-remove_other}
use Rattle.dt_pipes.specs.declared.pipe.Pipe.{Pipe}
use Rattle.dt_pipes.specs.declared.pipe.TheConstants.{FIRST_PIPE}
use Rattle.dt_pipes.specs.Table.{Table, table_of, held_in, pipes_of, IsBackedPipe, IsKnown, IsGiven, Stands}
use Rattle.dt_pipes.proofs.Held.{get-pipes_of, backed}

-- no pipe but that of this number, if there is one, has such a number at the host
pub record IsSole (t : Table) (q real : ℕ) : Type 0 where
  pub only : (p : ℕ) (a : Pipe) → get t.pipes p ≡ Some a → a.real ≡ real → p ≡ q
  pub here : (a : Pipe) → get t.pipes q ≡ Some a → a.real ≡ real

real_of : (a b : Pipe) → Some a ≡ Some b → a.real ≡ b.real
real_of a b e = let same : a ≡ b = cc in ap (λ (p : Pipe). p.real) same

none_some : (a : Pipe) → None ≡ Some a → ⊥
none_some a e = cc

-- so it is for a pipe that is there
pub sole-there : (t : Table) (host : PipeContents) (q : ℕ) (pipe : Pipe) → Stands t host → get t.pipes q ≡ Some pipe → IsSole t q pipe.real
sole-there t host q pipe stands here = record {
  only = λ p a at same. stands.once p q a pipe at here same;
  here = λ a at. real_of a pipe (sym at ∙ here);
}

-- and for the next number and one that is free at the host
pub sole-new : (t : Table) (host : PipeContents) (real : ℕ) → Stands t host → get host real ≡ None → IsSole t t.next real
sole-new t host real stands free = record {
  only = λ p a at same. absurd (none_there (get host real) free (subst (λ n. IsSome (get host n)) same (backed t host p a stands at).live));
  here = λ a at. absurd (let given = stands.given t.next (subst (λ found. IsSome found) (sym at) refl) in let below : t.next < t.next = given.below in omega arith);
}

given-later : (next later q : ℕ) → next ≤ later → IsGiven next q → IsGiven later q
given-later next later q more given = record { least = given.least; below = let below : q < next = given.below in omega arith }

-- a change after which the host has what it had at all pipes but one
module _ (t : Table) (old new : PipeContents) (q : ℕ) (same : (p : ℕ) (a : Pipe) → p ≢ q → get t.pipes p ≡ Some a → get new a.real ≡ get old a.real) where
  bytes-other : (p : ℕ) → p ≢ q → option_map (λ a. held_in new a.real) (get t.pipes p) ≡ get (pipes_of t old) p
  bytes-other p apart = by_found (get t.pipes p) refl ∙ sym (get-pipes_of t old p)
    where
      by_found : (found : Option Pipe) → get t.pipes p ≡ found → option_map (λ a. held_in new a.real) found ≡ option_map (λ a. held_in old a.real) found
      by_found None e = refl
      by_found (Some a) e = ap (λ found. Some (unwrap_or found [])) (same p a apart e)

  backed-other : (p : ℕ) → p ≢ q → IfSome (get t.pipes p) (IsBackedPipe old) → IfSome (get t.pipes p) (IsBackedPipe new)
  backed-other p apart = by_found (get t.pipes p) refl
    where
      by_found : (found : Option Pipe) → get t.pipes p ≡ found → IfSome found (IsBackedPipe old) → IfSome found (IsBackedPipe new)
      by_found None e h = tt
      by_found (Some a) e h = record {
        live = subst (λ found. IsSome found) (sym (same p a apart e)) h.live;
        count = h.count ∙ ap (λ found. length (unwrap_or found [])) (sym (same p a apart e));
        within = h.within;
      }

-- one pipe is put, in the place of one or as a new one, and holds these bytes
module _ (t : Table) (host : PipeContents) (q : ℕ) (pipe : Pipe) (bytes : List ℕ) (next : ℕ) (sole : IsSole t q pipe.real) where
  abbrev after : PipeContents
  after = insert host pipe.real bytes

  abbrev put : Table
  put = table_of (insert t.pipes q pipe) next

  real-here : get after pipe.real ≡ Some bytes
  real-here = get-insert_same nat_cmp_total nat_cmp-IsAntisymmetric host pipe.real bytes

  real-other : (p : ℕ) (a : Pipe) → p ≢ q → get t.pipes p ≡ Some a → get after a.real ≡ get host a.real
  real-other p a apart at =
      get-insert_other nat_cmp_total nat_cmp-IsAntisymmetric host pipe.real bytes a.real (λ same. apart (sole.only p a at same))

  -- it holds them then, and the others hold what they held
  pub pipes_of-insert : pipes_of put after ≡ insert (pipes_of t host) q bytes
  pipes_of-insert = same_map nat_cmp_total nat_cmp-IsAntisymmetric _ _ (λ p.
      get-pipes_of put after p
      ∙ at_insert nat_cmp_total nat_cmp-IsAntisymmetric (λ found. option_map (λ a. held_in after a.real) found ≡ get (insert (pipes_of t host) q bytes) p) t.pipes q pipe p
      (λ is. ap (λ found. Some (unwrap_or found [])) real-here
      ∙ sym (ap (get (insert (pipes_of t host) q bytes)) is ∙ get-insert_same nat_cmp_total nat_cmp-IsAntisymmetric (pipes_of t host) q bytes))
      (λ apart. bytes-other t host after q real-other p apart
      ∙ sym (get-insert_other nat_cmp_total nat_cmp-IsAntisymmetric (pipes_of t host) q bytes p apart)))

  -- of the pipes then only that one has its number at the host
  only-here : (p : ℕ) (a : Pipe) → get put.pipes p ≡ Some a → a.real ≡ pipe.real → p ≡ q
  only-here p a = at_insert nat_cmp_total nat_cmp-IsAntisymmetric (λ found. found ≡ Some a → a.real ≡ pipe.real → p ≡ q) t.pipes q pipe p
      (λ is at same. is)
      (λ apart at same. sole.only p a at same)

  once-put : Stands t host → (p r : ℕ) (a b : Pipe) → get put.pipes p ≡ Some a → get put.pipes r ≡ Some b → a.real ≡ b.real → p ≡ r
  once-put stands p r a b at_p at_r same =
      at_insert nat_cmp_total nat_cmp-IsAntisymmetric (λ found. found ≡ Some a → p ≡ r) t.pipes q pipe p
      (λ is at. is ∙ sym (only-here r b at_r (sym same ∙ sym (real_of pipe a at))))
      (λ apart at. at_insert nat_cmp_total nat_cmp-IsAntisymmetric (λ found. found ≡ Some b → p ≡ r) t.pipes q pipe r
      (λ is there. sole.only p a at (same ∙ sym (real_of pipe b there)) ∙ sym is)
      (λ other there. stands.once p r a b at there same) at_r)
      at_p

  known-put : Stands t host → (real : ℕ) → IsSome (get after real) → IsKnown put real
  known-put stands real = at_insert nat_cmp_total nat_cmp-IsAntisymmetric (λ found. IsSome found → IsKnown put real) host pipe.real bytes real
      (λ is live. record {
        number = q;
        pipe = pipe;
        there = get-insert_same nat_cmp_total nat_cmp-IsAntisymmetric t.pipes q pipe;
        same = sym is;
      })
      (λ apart live.
      let known = stands.all real live in
      let other : known.number ≢ q = λ is. apart (sym known.same ∙ sole.here known.pipe (ap (get t.pipes) (sym is) ∙ known.there)) in
      record {
        number = known.number;
        pipe = known.pipe;
        there = get-insert_other nat_cmp_total nat_cmp-IsAntisymmetric t.pipes q pipe known.number other ∙ known.there;
        same = known.same;
      })

  -- the table stands for the pipes of the host then
  pub stands-insert : Stands t host → pipe.held ≡ length bytes → pipe.held ≤ PIPE_LIMIT → IsGiven next q → t.next ≤ next → Stands put after
  stands-insert stands count within given more = record {
    each = λ p. at_insert nat_cmp_total nat_cmp-IsAntisymmetric (λ found. IfSome found (IsBackedPipe after)) t.pipes q pipe p
        (λ is. record {
          live = subst (λ found. IsSome found) (sym real-here) refl;
          count = count ∙ ap (λ found. length (unwrap_or found [])) (sym real-here);
          within = within;
        })
        (λ apart. backed-other t host after q real-other p apart (stands.each p));
    once = once-put stands;
    all = known-put stands;
    given = λ p. at_insert nat_cmp_total nat_cmp-IsAntisymmetric (λ found. IsSome found → IsGiven next p) t.pipes q pipe p
        (λ is there. subst (IsGiven next) (sym is) given)
        (λ apart there. given-later t.next next p more (stands.given p there));
    least = let before = stands.least in omega arith;
  }

-- one pipe is taken away, at the host too
module _ (t : Table) (host : PipeContents) (q : ℕ) (pipe : Pipe) (next : ℕ) (stands : Stands t host) (here : get t.pipes q ≡ Some pipe) where
  abbrev less : PipeContents
  less = remove host pipe.real

  abbrev rest : Table
  rest = table_of (remove t.pipes q) next

  real-left : (p : ℕ) (a : Pipe) → p ≢ q → get t.pipes p ≡ Some a → get less a.real ≡ get host a.real
  real-left p a apart at =
      get-remove_other nat_cmp_total nat_cmp-IsAntisymmetric host pipe.real a.real (λ same. apart (stands.once p q a pipe at here same))

  -- the others hold what they held
  pub pipes_of-remove : pipes_of rest less ≡ remove (pipes_of t host) q
  pipes_of-remove = same_map nat_cmp_total nat_cmp-IsAntisymmetric _ _ (λ p.
      get-pipes_of rest less p
      ∙ at_remove nat_cmp_total nat_cmp-IsAntisymmetric (λ found. option_map (λ a. held_in less a.real) (get rest.pipes p) ≡ found) (pipes_of t host) q p
      (λ is. ap (λ n. option_map (λ (a : Pipe). held_in less a.real) (get rest.pipes n)) is
      ∙ ap (option_map (λ (a : Pipe). held_in less a.real)) (at_remove nat_cmp_total nat_cmp-IsAntisymmetric (λ found. found ≡ None) t.pipes q q (λ same. refl) (λ apart. absurd (apart refl))))
      (λ apart. ap (option_map (λ (a : Pipe). held_in less a.real)) (get-remove_other nat_cmp_total nat_cmp-IsAntisymmetric t.pipes q p apart)
      ∙ bytes-other t host less q real-left p apart))

  was-there : (p : ℕ) (a : Pipe) → get rest.pipes p ≡ Some a → get t.pipes p ≡ Some a
  was-there p a = at_remove nat_cmp_total nat_cmp-IsAntisymmetric (λ found. found ≡ Some a → get t.pipes p ≡ Some a) t.pipes q p
      (λ is at. absurd (none_some a at))
      (λ apart at. at)

  known-left : (real : ℕ) → IsSome (get less real) → IsKnown rest real
  known-left real = at_remove nat_cmp_total nat_cmp-IsAntisymmetric (λ found. IsSome found → IsKnown rest real) host pipe.real real
      (λ is live. absurd (none_there {X = List ℕ} None refl live))
      (λ apart live.
      let known = stands.all real live in
      let other : known.number ≢ q = λ is. apart (sym known.same ∙ real_of known.pipe pipe (sym known.there ∙ ap (get t.pipes) is ∙ here)) in
      record {
        number = known.number;
        pipe = known.pipe;
        there = get-remove_other nat_cmp_total nat_cmp-IsAntisymmetric t.pipes q known.number other ∙ known.there;
        same = known.same;
      })

  -- the table stands for the pipes that are left
  pub stands-remove : t.next ≤ next → Stands rest less
  stands-remove more = record {
    each = λ p. at_remove nat_cmp_total nat_cmp-IsAntisymmetric (λ found. IfSome found (IsBackedPipe less)) t.pipes q p
        (λ is. tt)
        (λ apart. backed-other t host less q real-left p apart (stands.each p));
    once = λ p r a b at_p at_r same. stands.once p r a b (was-there p a at_p) (was-there r b at_r) same;
    all = known-left;
    given = λ p. at_remove nat_cmp_total nat_cmp-IsAntisymmetric (λ found. IsSome found → IsGiven next p) t.pipes q p
        (λ is there. absurd (none_there {X = Pipe} None refl there))
        (λ apart there. given-later t.next next p more (stands.given p there));
    least = let before = stands.least in omega arith;
  }

-- no pipes stand for none
pub stands-empty : Stands (table_of empty FIRST_PIPE) empty
stands-empty = record {
  each = λ q. subst (λ found. IfSome found (IsBackedPipe empty)) (sym (get-empty nat_cmp q)) tt;
  once = λ p q a b at_p at_q same. absurd (none_some a (sym (get-empty nat_cmp p) ∙ at_p));
  all = λ real live. absurd (none_there (get empty real) (get-empty nat_cmp real) live);
  given = λ q there. absurd (none_there (get empty q) (get-empty nat_cmp q) there);
  least = omega arith;
}
