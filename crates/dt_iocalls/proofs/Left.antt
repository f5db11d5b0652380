-- What is left of a listing, and how much of it is asked for.
use Rattle.std.proofs.Common.{arith, ◌≡◌, ℕ, zero, suc, ◌-◌, ◌*◌, ◌≤◌, ◌<◌, cond, true, false, Bool, List, [], ◌∷◌, ◌++◌, length, take, Some, refl, sym, ap, ◌∙◌, length-append}
use Rattle.std.proofs.lemmas.Bool.Decides.{nat_tests}
use Rattle.std.specs.Prelude.{nat_le, slice_get, option_map}
use Rattle.dt_tree.specs.declared.list.Listed.{Listed}
use Rattle.dt_iocalls.specs.Entries.{record_len, dirents, fitting_entries, last_listed, entries_fill_reply, fitting_entries_reply, left_entries_reply}
use Rattle.dt_callbase.specs.Scene.{Scene}
use Rattle.dt_space.specs.Write.{pages_after_store}

-- a record has 24 bytes at least
least_record : (name : List ℕ) → 24 ≤ record_len name
least_record name = omega arith

-- so many of a listing are as many as fit
fitting-take : (most room : ℕ) (entries : List Listed) → room < 24 * most → fitting_entries room (take most entries) ≡ fitting_entries room entries
unfolding fitting_entries
fitting-take zero room entries few = absurd (omega arith)
fitting-take (suc most) room [] few = refl
fitting-take (suc most) room (entry ∷ entries) few =
    by_test (nat_le (record_len entry.name) room) refl (λ lower. fitting-take most (room - record_len entry.name) entries lower)
  where
    by_test : (b : Bool) → nat_le (record_len entry.name) room ≡ b → (room - record_len entry.name < 24 * most → fitting_entries (room - record_len entry.name) (take most entries) ≡ fitting_entries (room - record_len entry.name) entries) → cond b (entry ∷ fitting_entries (room - record_len entry.name) (take most entries)) [] ≡ cond b (entry ∷ fitting_entries (room - record_len entry.name) entries) []
    by_test false e rest = refl
    by_test true e rest =
        let fits : record_len entry.name ≤ room = grind (arith, nat_tests) in
        let least = least_record entry.name in
        ap (λ more. entry ∷ more) (rest (omega arith))

-- the listing goes on after the last name
last_name-end : (entries : List Listed) (last : Listed) → last_listed (entries ++ (last ∷ [])) ≡ Some last.name
last_name-end entries last =
    let all : length (entries ++ (last ∷ [])) - 1 ≡ length entries = omega (arith, length-append entries (last ∷ [])) in
    ap (λ i. option_map (λ entry. entry.name) (slice_get (entries ++ (last ∷ [])) i)) all ∙ at_end entries
  where
    at_end : (entries : List Listed) → option_map (λ entry. entry.name) (slice_get (entries ++ (last ∷ [])) (length entries)) ≡ Some last.name
    at_end [] = refl
    at_end (entry ∷ entries) = at_end entries

pub tells_last : (fd buffer : ℕ) (s : Scene) (entries rest : List Listed) (last : Listed) → entries ≡ rest ++ (last ∷ []) → fitting_entries_reply fd buffer s entries ≡ entries_fill_reply s fd (Some last.name) (length (dirents entries)) (pages_after_store s.space buffer (dirents entries))
tells_last fd buffer s [] rest last is = absurd (by_length (ap length is))
  where
    by_length : 0 ≡ length (rest ++ (last ∷ [])) → ⊥
    by_length e = omega (arith, length-append rest (last ∷ []))
tells_last fd buffer s (entry ∷ entries) rest last is =
    ap (λ name. entries_fill_reply s fd name (length (dirents (entry ∷ entries))) (pages_after_store s.space buffer (dirents (entry ∷ entries))))
    (ap last_listed is ∙ last_name-end rest last)

pub tells_take : (fd buffer count most : ℕ) (s : Scene) (left : List Listed) → count < 24 * most → left_entries_reply fd buffer count s left ≡ left_entries_reply fd buffer count s (take most left)
tells_take fd buffer count zero s left few = absurd (omega arith)
tells_take fd buffer count (suc most) s [] few = refl
tells_take fd buffer count (suc most) s (entry ∷ left) few =
    ap (fitting_entries_reply fd buffer s) (sym (fitting-take (suc most) count (entry ∷ left) few))

pub ruleset tells_first = (tells_take)
