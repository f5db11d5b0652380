-- Chunks of slots, in the midst of a run and after it.
use Rattle.std.proofs.Common.{◌≡◌, ℕ, ◌+◌, List, [], ◌∷◌, ◌++◌, take, drop, set, length, get_or, ◌<◌, ◌≤◌, ◌∙◌, refl, sym, ap, subst, arith}
use Rattle.std.specs.List.{AllZip}
use Rattle.std.proofs.lemmas.List.{length-take, get_or_at, set_at, append_assoc, append-nil, drop_more, drop_all, take_all, get_or_default}
use Rattle.std.proofs.lemmas.List.Elements.{all_zip_more, length_all_zip}
use Rattle.dt_workers.specs.declared.slot.Slot.{Slot}
use Rattle.dt_workers.specs.Slots.{IsSlotAfter}

-- so many of a chunk's slots stand after their segments, and the others as they stood
pub record HasRun (old now : List Slot) (count : ℕ) : Type 0 where
  pub done : List Slot
  pub ran : AllZip IsSlotAfter (take count old) done
  pub rest : now ≡ done ++ drop count old

pub none_yet : (old : List Slot) → HasRun old old 0
none_yet old = record { done = []; ran = tt; rest = refl }

-- one slot more
pub one_more : (old now : List Slot) (index : ℕ) (slot after : Slot) → index < length old → HasRun old now index → IsSlotAfter (get_or now index slot) after → HasRun old (set now index after) (index + 1)
one_more old now index slot after within run ran =
    let long : length run.done ≡ index = sym (length_all_zip IsSlotAfter _ _ run.ran) ∙ omega (arith, length-take index old) in
    let parts : now ≡ run.done ++ get_or old index slot ∷ drop (index + 1) old = run.rest ∙ ap (λ l. run.done ++ l) (drop_more old index slot within) in
    let read : get_or now index slot ≡ get_or old index slot = ap (λ l. get_or l index slot) parts ∙ get_or_at run.done _ _ slot index long in
    let first : IsSlotAfter (get_or old index slot) after = subst (λ s. IsSlotAfter s after) read ran in
    record {
      done = run.done ++ after ∷ [];
      ran = all_zip_more IsSlotAfter old run.done index (get_or old index slot) after within (get_or_default old index slot (get_or old index slot) within) run.ran first;
      rest = ap (λ l. set l index after) parts ∙ set_at run.done _ _ after index long ∙ sym (append_assoc run.done (after ∷ []) _);
    }

-- all of them
pub all_done : (old now : List Slot) (count : ℕ) → length old ≤ count → HasRun old now count → AllZip IsSlotAfter old now
all_done old now count most run =
    let rest : now ≡ run.done = run.rest ∙ ap (λ l. run.done ++ l) (drop_all count old most) ∙ append-nil run.done in
    subst (AllZip IsSlotAfter old) (sym rest) (subst (λ l. AllZip IsSlotAfter l run.done) (take_all count old most) run.ran)

-- a chunk and the slots that follow it
pub all_zip_append : (old front back front' back' : List Slot) → old ≡ front ++ back → AllZip IsSlotAfter front front' → AllZip IsSlotAfter back back' → AllZip IsSlotAfter old (front' ++ back')
all_zip_append old front back front' back' parts done rest = subst (λ l. AllZip IsSlotAfter l (front' ++ back')) (sym parts) (joined front front' done)
  where
    joined : (xs ys : List Slot) → AllZip IsSlotAfter xs ys → AllZip IsSlotAfter (xs ++ back) (ys ++ back')
    joined [] [] done = rest
    joined [] (y ∷ ys) done = absurd done
    joined (x ∷ xs) [] done = absurd done
    joined (x ∷ xs) (y ∷ ys) done = (done.0, joined xs ys done.1)

-- for the loop over a chunk
pub ruleset chunks = (none_yet, one_more, all_done)
