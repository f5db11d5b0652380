-- How code that grows piece by piece spells all pieces.
use Rattle.std.proofs.Common.{◌≡◌, ◌≤◌, ◌<◌, ◌^◌, ℕ, ◌+◌, ◌*◌, ◌/◌, ◌%◌, false, Some, Result, OnOk, List, [], ◌∷◌, ◌++◌, length, drop, refl, sym, subst, ap, ◌∙◌, arith}
use Rattle.std.proofs.Math.Seq.{drop-append_seam}
use Rattle.std.proofs.lemmas.Result.{on_ok_weaker}
use Rattle.std.proofs.lemmas.List.{append-nil, append_assoc, drop_all}
use Rattle.std.specs.List.{list_any}
use Rattle.dt_base.specs.Fields.{little_endian}
use Rattle.dt_rv64.specs.declared.instruction.Instr.{Instr}
use Rattle.dt_rv64.specs.declared.instruction.Instr.TheVariants.{Fence}
use Rattle.dt_rv64.specs.Instruction.{instr}
use Rattle.dt_asm.specs.declared.item.Item.{Item}
use Rattle.dt_asm.specs.declared.error.AsmErr.{AsmErr}
use Rattle.dt_asm.specs.declared.error.AsmErr.TheVariants.{NoLabel, TwoLabels, Far, BadField, NoMemory, TooLong}
use Rattle.dt_asm.specs.inner.Sized.{IsSized, IsGrown}
use Rattle.dt_asm.specs.Refusal.{is_lost, is_set_twice, any_out_of_reach, is_bad}
use Rattle.dt_asm.specs.File.{IsRefusal}
use Rattle.dt_asm.specs.Item.{total_size, Piece, pieces_from, pieces_of}
use Rattle.dt_asm.specs.Code.{IsWordOf, IsSpelled, AreSpelled}
use Rattle.dt_asm.specs.inner.Adding.{IsAdded, IsFieldRefusal}

-- bytes behind others are added
pub is_added : (piece : Piece) (before bytes after : List ℕ) → after ≡ before ++ bytes → IsSpelled piece bytes → IsAdded piece before after
is_added piece before bytes after e h =
    let back : drop (length before) after ≡ bytes = ap (drop (length before)) e ∙ drop-append_seam before bytes in
    record {
      prefix = e ∙ ap (λ x. before ++ x) (sym back);
      spelled = subst (IsSpelled piece) (sym back) h;
    }

-- what spells what is left, spells all where nothing is left
pub spells_all : (items : List Item) (at i : ℕ) (code : List ℕ) → length items ≤ i
    → ((rest : List ℕ) → AreSpelled (pieces_from items at (drop i items)) rest → AreSpelled (pieces_of items) (code ++ rest))
    → AreSpelled (pieces_of items) code
spells_all items at i code h spelled =
    subst (AreSpelled (pieces_of items)) (append-nil code)
    (spelled [] (subst (λ left. AreSpelled (pieces_from items at left) []) (sym (drop_all i items h)) refl))

number_of : (w : ℕ) → w < 2 ^ 32 → w % 256 + 256 * (w / 256 % 256 + 256 * (w / 65536 % 256 + 256 * (w / 16777216 % 256 + 256 * 0))) ≡ w
number_of w h = omega arith

-- the four bytes of a word that decodes to it are an instruction's
pub is_word_of : (i : Instr) (w : ℕ) (bytes : List ℕ) → bytes ≡ w % 256 ∷ w / 256 % 256 ∷ w / 65536 % 256 ∷ w / 16777216 % 256 ∷ [] → w < 2 ^ 32 → instr w ≡ i → (i ≡ Fence → Some w ≡ Some 0x0000000F) → IsWordOf i bytes
is_word_of i w bytes e h decoded bare =
    let number : little_endian bytes ≡ w = ap little_endian e ∙ number_of w h in
    record {
      four = ap length e;
      decoded = ap instr number ∙ decoded;
      bare = λ f. let same : Some w ≡ Some 0x0000000F = bare f in let w_is : w ≡ 0x0000000F = cc in number ∙ w_is;
    }

total-append : (items more : List Item) → total_size (items ++ more) ≡ total_size items + total_size more
total-append [] more = grind arith
total-append (item ∷ items) more = let rest = total-append items more in omega arith

-- a size that has grown by items is theirs
pub sized_more : (items more : List Item) (all : List Item) (size grown : ℕ) → all ≡ items ++ more → IsSized items size → IsGrown size more grown → IsSized all grown
sized_more items more all size grown e sized grew =
    record {
      size_is = let sum = total-append items more in let same = ap total_size e in omega arith;
      few = grew.few;
    }

-- the first refusal, where no label is refused
pub refuses_field : (items : List Item) (error : AsmErr) → list_any (is_lost items) items ≡ false → is_set_twice items ≡ false → any_out_of_reach items 0 items ≡ false
    → IsFieldRefusal (list_any is_bad (pieces_of items)) error → IsRefusal items error
refuses_field items NoLabel lost twice far h = absurd h
refuses_field items TwoLabels lost twice far h = absurd h
refuses_field items Far lost twice far h = absurd h
refuses_field items BadField lost twice far h = rw (lost, twice, far, h)
refuses_field items NoMemory lost twice far h = tt
refuses_field items TooLong lost twice far h = absurd h

-- three lists added one after the other
pub headed : {E : Type 0} (r : Result (Unit {0}) E) (b0 b1 b2 b3 x y z : List ℕ) → b1 ≡ b0 ++ x → b2 ≡ b1 ++ y → OnOk r (b3 ≡ b2 ++ z) → OnOk r (b3 ≡ b0 ++ (x ++ (y ++ z)))
headed r b0 b1 b2 b3 x y z e f = on_ok_weaker r (λ g. g ∙ rw (f, e) (simp append_assoc))
