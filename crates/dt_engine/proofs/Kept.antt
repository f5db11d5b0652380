-- Where machines may be away: what holds of the queue's processes before a turn and after it.
use Rattle.std.proofs.Common.{◌≡◌, ◌≢◌, ℕ, ◌≤◌, ◌==◌, ◌&&◌, not, Bool, true, false, cond, List, [], ◌∷◌, ◌++◌, length, Option, refl, sym, subst, ◌∙◌, arith, nat_lt}
use Rattle.std.specs.Prelude.{IsSome, IsTrue}
use Rattle.std.proofs.lemmas.Bool.Decides.{nat_tests}
use Rattle.std.specs.List.{AllByRecursion}
use Rattle.std.specs.FinMap.{empty, get, keys}
use Rattle.dt_rv64.specs.declared.machine.Machine.{Machine}
use Rattle.dt_sched.specs.declared.process.Process.{Process}
use Rattle.dt_sched.specs.declared.process.Phase.{Phase}
use Rattle.dt_sched.specs.Core.{is_distinct, is_queued, owing_process, has_room, process_after_turn, processes_after_turn}
use Rattle.dt_calls.specs.declared.container.Served.{Served}
use Rattle.dt_calls.specs.declared.container.Served.TheVariants.{Done, Child, LastChild, Blocked, Progress, Ended, Unsupported}
use Rattle.dt_calls.specs.AtHome.{Places, KeepPlaces}
use Rattle.dt_calls.specs.InCode.{machines_at_home}
use Rattle.dt_calls.specs.Settle.{is_end_of_all, with_own, with_child_machine, next_after}
use Rattle.dt_calls.specs.Sound.{LivesOn}
use Rattle.dt_calls.proofs.Homes.{home-place}
use Rattle.dt_calls.proofs.Fits.{FitsOwn, FitsChild}
use Rattle.dt_engine.specs.declared.state.State.{State}
use Rattle.dt_engine.specs.Turn.{settled_of}
use Rattle.dt_engine.specs.inner.InCode.{Stops, stops_after}
use Rattle.dt_engine.specs.inner.Good.{IsPlacedIn, IsGood}
use Rattle.dt_engine.specs.InPlay.{IsKeptProcess, IsKeptIn, IsKept}
use Rattle.dt_engine.proofs.Noted.{fits-next}
use Rattle.dt_engine.proofs.Placed.{own-there, own-home, child-there, child-home, next-later, next-child, held-other, born-child, none-left, no_more, keys-total, room-tests}
use Rattle.dt_engine.proofs.Standings.{GoesOn, IsNext, makes_child, noted-stays, own-noted, child-noted}

pub all-weaker : {X : Type 0} (P Q : X → Type 0) → ((x : X) → P x → Q x) → (xs : List X) → AllByRecursion P xs → AllByRecursion Q xs
all-weaker P Q weaker [] all = tt
all-weaker P Q weaker (x ∷ xs) all = (weaker x all.0, all-weaker P Q weaker xs all.1)

-- where all machines are at home
pub kept-good : (s : State) → IsGood s → IsKept s
kept-good s good = record {
  kept = all-weaker (IsPlacedIn s) (IsKeptIn s)
      (λ p h. record {
        place = home-place s.container.places p.vpid h.home;
        home = λ _. h.home;
        noted = h.noted;
        given = h.given;
      })
      s.core.queue good.placed;
}

pub good-kept : (s : State) → AllByRecursion (λ (p : Process). IsSome (get (machines_at_home s.container.places) p.vpid)) s.core.queue
    → IsKept s → IsGood s
good-kept s home kept = record { placed = placed s.core.queue home kept.kept }
  where
    placed : (ps : List Process) → AllByRecursion (λ (p : Process). IsSome (get (machines_at_home s.container.places) p.vpid)) ps
        → AllByRecursion (IsKeptIn s) ps → AllByRecursion (IsPlacedIn s) ps
    placed [] home kept = tt
    placed (p ∷ ps) home kept = (record { home = home.0; noted = kept.0.noted; given = kept.0.given }, placed ps home.1 kept.1)

-- a pid that is still to be given is none of the queue's
pub unqueued : (places : Places) (stops : Stops) (next : ℕ) (ps : List Process)
    → AllByRecursion (IsKeptProcess places stops next) ps → is_queued next ps ≡ false
unqueued places stops next [] kept = refl
unqueued places stops next (p ∷ ps) kept =
    let less = kept.0.given in
    let rest = unqueued places stops next ps kept.1 in
    grind (arith, nat_tests)

all-append : {X : Type 0} (P : X → Type 0) (xs ys : List X) → AllByRecursion P xs → AllByRecursion P ys
    → AllByRecursion P (xs ++ ys)
all-append P [] ys h k = k
all-append P (x ∷ xs) ys h k = (h.0, all-append P xs ys h.1 k)

unless-all : (P : Process → Type 0) (all : Bool) (ps : List Process) → all ≡ false → AllByRecursion P ps → AllByRecursion P (cond all [] ps)
unless-all P true ps on h = cc
unless-all P false ps on h = h

-- after a turn of x each process has a property: one that it doesn't concern if it had another, x if it goes on, and a child
module _ (P Q : Process → Type 0) (x : Process) (served : Served) (others : (y : Process) → y.vpid ≢ x.vpid → P y → Q y)
    (own : GoesOn served → Q (process_after_turn x (settled_of served)))
    (child : IsTrue (makes_child served) → (q : ℕ) → IsNext q served → Q (owing_process q)) where
  rest-after : (rest : List Process) → is_queued x.vpid rest ≡ false → AllByRecursion P rest → AllByRecursion Q rest
  rest-after [] apart all = tt
  rest-after (y ∷ ys) apart all =
      let tests = held-other x.vpid y ys apart in (others y tests.0 all.0, rest-after ys tests.1 all.1)

  behind-after : (rest more : List Process) → is_queued x.vpid rest ≡ false → AllByRecursion P rest → AllByRecursion Q more
      → AllByRecursion Q (rest ++ more)
  behind-after rest more apart all new = all-append Q rest more (rest-after rest apart all) new

-- likewise of the queue after it, unless all have ended
pub queue-after : (P Q : Process → Type 0) (x : Process) (rest : List Process) (served : Served)
    → ((y : Process) → y.vpid ≢ x.vpid → P y → Q y)
    → (GoesOn served → Q (process_after_turn x (settled_of served)))
    → (IsTrue (makes_child served) → (q : ℕ) → IsNext q served → Q (owing_process q))
    → is_queued x.vpid rest ≡ false → is_end_of_all x.vpid served ≡ false → AllByRecursion P rest
    → AllByRecursion Q (processes_after_turn x rest (settled_of served))
queue-after P Q x rest Done others own child apart on all =
    behind-after P Q x Done others own child rest _ apart all (own tt, tt)
queue-after P Q x rest (Child vpid) others own child apart on all =
    behind-after P Q x (Child vpid) others own child rest _ apart all (own tt, (child refl vpid refl, tt))
queue-after P Q x rest (LastChild vpid) others own child apart on all =
    unless-all Q (x.vpid == 1) _ on
    (behind-after P Q x (LastChild vpid) others own child rest (owing_process vpid ∷ []) apart all (child refl vpid refl, tt))
queue-after P Q x rest Blocked others own child apart on all =
    behind-after P Q x Blocked others own child rest _ apart all (own tt, tt)
queue-after P Q x rest Progress others own child apart on all =
    behind-after P Q x Progress others own child rest _ apart all (own tt, tt)
queue-after P Q x rest Ended others own child apart on all =
    unless-all Q (x.vpid == 1) rest on (rest-after P Q x Ended others own child rest apart all)
queue-after P Q x rest (Unsupported number) others own child apart on all =
    (own tt, rest-after P Q x (Unsupported number) others own child rest apart all)

-- who isn't the process of the turn lives on, unless all have ended
lives-still : (p : ℕ) (served : Served) (q : ℕ) → is_end_of_all p served ≡ false → q ≢ p → LivesOn p served q
lives-still p Done q on apart = tt
lives-still p (Child v) q on apart = tt
lives-still p (LastChild v) q on apart = record { first = grind (arith, nat_tests, on); apart = apart }
lives-still p Blocked q on apart = tt
lives-still p Progress q on apart = tt
lives-still p Ended q on apart = record { first = grind (arith, nat_tests, on); apart = apart }
lives-still p (Unsupported number) q on apart = tt

-- a process that goes on has a machine
pub own-lives : (served : Served) (own : Option Machine) → FitsOwn served own → GoesOn served → IsSome own
own-lives Done own fits on = fits
own-lives (Child vpid) own fits on = fits
own-lives (LastChild vpid) own fits on = absurd on
own-lives Blocked own fits on = fits
own-lives Progress own fits on = fits
own-lives Ended own fits on = absurd on
own-lives (Unsupported number) own fits on = fits

-- a child has the pid that was next
pub child-is : (next q : ℕ) (served : Served) → IsTrue (makes_child served) → IsNext q served → IsNext next served → q ≡ next
child-is next q Done made is was = cc
child-is next q (Child vpid) made is was = sym is ∙ was
child-is next q (LastChild vpid) made is was = sym is ∙ was
child-is next q Blocked made is was = cc
child-is next q Progress made is was = cc
child-is next q Ended made is was = cc
child-is next q (Unsupported number) made is was = cc

module _ (old new : Places) (stops : Stops) (next : ℕ) (x : Process) (served : Served) (own child : Option Machine)
    (fits_own : FitsOwn served own) (fits_child : FitsChild next served child) (keeps : KeepPlaces x.vpid served old new)
    (before : IsKeptProcess old stops next x) (on : is_end_of_all x.vpid served ≡ false)
    (homes : machines_at_home new ≡ with_child_machine (with_own (machines_at_home old) x.vpid own) next child) where
  abbrev Stays : Process → Type 0
  Stays y = IsKeptProcess new (stops_after stops x.vpid served) (next_after next child) y

  there : (q : ℕ) → IsSome (get (with_child_machine (with_own (machines_at_home old) x.vpid own) next child) q)
      → IsSome (get (machines_at_home new) q)
  there q some = subst (λ machines. IsSome (get machines q)) (sym homes) some

  other-stays : (y : Process) → y.vpid ≢ x.vpid → IsKeptProcess old stops next y → Stays y
  other-stays y apart h = record {
    place = keeps y.vpid (lives-still x.vpid served y.vpid on apart) h.place;
    home = λ arrived. there y.vpid (child-there (with_own (machines_at_home old) x.vpid own) next child y.vpid
        (own-there (machines_at_home old) x.vpid own y.vpid (λ e. absurd (apart e)) (h.home arrived)));
    noted = noted-stays stops x.vpid served y.vpid apart h.noted;
    given = let later = next-later next child in omega (arith, h.given, later);
  }

  own-stays : (phase : Phase ℕ) → GoesOn served → Stays (record x { phase = phase })
  own-stays phase goes =
      let lives = own-lives served own fits_own goes in
      let home = there x.vpid (child-there (with_own (machines_at_home old) x.vpid own) next child x.vpid
      (own-home (machines_at_home old) x.vpid own lives)) in
      record {
        place = home-place new x.vpid home;
        home = λ _. home;
        noted = own-noted stops x.vpid served goes before.noted;
        given = let later = next-later next child in omega (arith, before.given, later);
      }

  child-stays : IsTrue (makes_child served) → (q : ℕ) → IsNext q served → Stays (owing_process q)
  child-stays made q is =
      let next_is = child-is next q served made is (fits-next next served child fits_child) in
      let born = born-child next served child fits_child made in
      let home = there next (child-home (with_own (machines_at_home old) x.vpid own) next child born) in
      subst (λ n. Stays (owing_process n)) (sym next_is) (record {
        place = home-place new next home;
        home = λ _. home;
        noted = child-noted stops x.vpid next served (fits-next next served child fits_child) made;
        given = next-child next child born;
      })

-- the processes of the queue after a turn
pub queue-kept : (old new : Places) (stops : Stops) (next : ℕ) (x : Process) (rest : List Process)
    (served : Served) (own child : Option Machine) (all : Bool) → is_end_of_all x.vpid served ≡ all
    → FitsOwn served own → FitsChild next served child → KeepPlaces x.vpid served old new
    → machines_at_home new ≡ cond all empty (with_child_machine (with_own (machines_at_home old) x.vpid own) next child)
    → is_queued x.vpid rest ≡ false → AllByRecursion (IsKeptProcess old stops next) (x ∷ rest)
    → AllByRecursion (IsKeptProcess new (stops_after stops x.vpid served) (next_after next child))
    (processes_after_turn x rest (settled_of served))
queue-kept old new stops next x rest served own child true over fits_own fits_child keeps homes apart kept =
    none-left _ x rest served over
queue-kept old new stops next x rest served own child false on fits_own fits_child keeps homes apart kept =
    queue-after (IsKeptProcess old stops next) _ x rest served
    (other-stays old new stops next x served own child fits_own fits_child keeps kept.0 on homes)
    (λ goes. own-stays old new stops next x served own child fits_own fits_child keeps kept.0 on homes _ goes)
    (child-stays old new stops next x served own child fits_own fits_child keeps kept.0 on homes)
    apart on kept.1

-- each has a place still, where none has ended
all-there : (old new : Places) (stops : Stops) (next p : ℕ) (served : Served) → ((q : ℕ) → LivesOn p served q)
    → KeepPlaces p served old new → (ps : List Process) → AllByRecursion (IsKeptProcess old stops next) ps
    → AllByRecursion (λ (x : Process). IsSome (get new x.vpid)) ps
all-there old new stops next p served live keeps [] kept = tt
all-there old new stops next p served live keeps (x ∷ xs) kept =
    (keeps x.vpid (live x.vpid) kept.0.place, all-there old new stops next p served live keeps xs kept.1)

-- a pid that is still to be given is new
is-new : (b : Bool) → b ≡ false → IsTrue (not b)
is-new true new = cc
is-new false new = refl

-- a child finds room
pub finds-room : (old new : Places) (stops : Stops) (next p : ℕ) (own child : Option Machine) (ps : List Process) (served : Served)
    → IsTrue (is_distinct ps) → AllByRecursion (IsKeptProcess old stops next) ps → FitsChild next served child
    → KeepPlaces p served old new → length (keys new) ≤ 64
    → (is_end_of_all p served ≡ false
    → machines_at_home new ≡ with_child_machine (with_own (machines_at_home old) p own) next child)
    → IsTrue (has_room ps (settled_of served))
finds-room old new stops next p own child ps Done once kept fits keeps few homes = refl
finds-room old new stops next p own child ps (Child vpid) once kept fits keeps few homes =
    let fresh = unqueued old stops next ps kept in
    let home : IsSome (get (machines_at_home new) next) = subst (λ machines. IsSome (get machines next)) (sym (homes refl))
    (child-home (with_own (machines_at_home old) p own) next child fits.machine) in
    let both : AllByRecursion (λ (x : Process). IsSome (get new x.vpid)) (owing_process next ∷ ps) =
    (home-place new next home, all-there old new stops next p (Child vpid) (λ _. tt) keeps ps kept) in
    let more = no_more (owing_process next ∷ ps) new (subst (λ b. IsTrue (not b && is_distinct ps)) (sym fresh) once) both in
    let same = keys-total new in
    subst (λ n. IsTrue (not (is_queued n ps) && nat_lt (length ps) 64)) (sym fits.is_next)
    (room-tests (is_queued next ps) (length ps) fresh (omega arith))
finds-room old new stops next p own child ps (LastChild vpid) once kept fits keeps few homes =
    subst (λ n. IsTrue (not (is_queued n ps))) (sym fits.is_next) (is-new (is_queued next ps) (unqueued old stops next ps kept))
finds-room old new stops next p own child ps Blocked once kept fits keeps few homes = refl
finds-room old new stops next p own child ps Progress once kept fits keeps few homes = refl
finds-room old new stops next p own child ps Ended once kept fits keeps few homes = refl
finds-room old new stops next p own child ps (Unsupported number) once kept fits keeps few homes = refl
