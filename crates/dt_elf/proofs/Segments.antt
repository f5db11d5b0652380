-- Lists of segments, walked from their ends.
use Rattle.std.proofs.Common.{◌≡◌, ℕ, suc, ◌+◌, ◌≤◌, List, ◌∷◌, length, get_or, drop, max, Bool, false, ◌||◌, refl, sym, ap, ◌∙◌, arith}
use Rattle.std.specs.List.{list_any}
use Rattle.std.proofs.Math.Seq.{drop-cons}
use Rattle.std.proofs.lemmas.List.{drop_all}
use Rattle.dt_elf.specs.declared.elf.Segment.{Segment}
use Rattle.dt_elf.specs.ProgramBreak.{segments_end}
use Rattle.dt_elf.specs.Executable.{share_byte, has_overlap, table_address_or, table_address}

pub drop-last : {X : Type 0} (xs : List X) (i j : ℕ) (d : X) → j + 1 ≡ i → i ≤ length xs → drop j xs ≡ get_or xs j d ∷ drop i xs
drop-last xs i j d next within = let same : suc j ≡ i = omega arith in rw (drop-cons xs j d (omega arith), same) refl

pub overlap-end : (xs : List Segment) → false ≡ has_overlap (drop (length xs) xs)
unfolding has_overlap
overlap-end xs = rw (drop_all (length xs) xs (omega arith)) refl

overlap-cons : (segment : Segment) (rest : List Segment) → has_overlap (segment ∷ rest) ≡ (list_any (share_byte segment) rest || has_overlap rest)
unfolding has_overlap
overlap-cons segment rest = refl

pub overlap-next : (xs rest : List Segment) (i j : ℕ) (d : Segment) (any found : Bool) → j + 1 ≡ i → i ≤ length xs → found ≡ has_overlap (drop i xs) → rest ≡ drop i xs → any ≡ list_any (share_byte (get_or xs j d)) rest → (any || found) ≡ has_overlap (drop j xs)
overlap-next xs rest i j d any found next within sofar is shares =
    let whole : has_overlap (drop j xs) ≡ (list_any (share_byte (get_or xs j d)) (drop i xs) || has_overlap (drop i xs)) = ap has_overlap (drop-last xs i j d next within) ∙ overlap-cons (get_or xs j d) (drop i xs) in
    rw (shares, is, sofar) (sym whole)

pub table-end : (bytes : List ℕ) (xs : List Segment) → 0 ≡ table_address bytes (drop (length xs) xs)
unfolding table_address
table-end bytes xs = rw (drop_all (length xs) xs (omega arith)) refl

table-cons : (bytes : List ℕ) (segment : Segment) (rest : List Segment) → table_address bytes (segment ∷ rest) ≡ table_address_or bytes segment (table_address bytes rest)
unfolding table_address
table-cons bytes segment rest = refl

pub table-next : (bytes : List ℕ) (xs : List Segment) (i j address new : ℕ) (d : Segment) → j + 1 ≡ i → i ≤ length xs → address ≡ table_address bytes (drop i xs) → new ≡ table_address_or bytes (get_or xs j d) address → new ≡ table_address bytes (drop j xs)
table-next bytes xs i j address new d next within sofar is =
    is ∙ rw sofar (sym (ap (table_address bytes) (drop-last xs i j d next within) ∙ table-cons bytes (get_or xs j d) (drop i xs)))

pub end-none : (xs : List Segment) → 0 ≡ segments_end (drop (length xs) xs)
unfolding segments_end
end-none xs = rw (drop_all (length xs) xs (omega arith)) refl

end-cons : (segment : Segment) (rest : List Segment) → segments_end (segment ∷ rest) ≡ max (segments_end rest) (segment.vaddr + segment.memsz)
unfolding segments_end
end-cons segment rest = refl

pub end-more : (xs : List Segment) (i j end new : ℕ) (d : Segment) → j + 1 ≡ i → i ≤ length xs → end ≡ segments_end (drop i xs) → new ≡ max end ((get_or xs j d).vaddr + (get_or xs j d).memsz) → new ≡ segments_end (drop j xs)
end-more xs i j end new d next within sofar is = is ∙ rw sofar (sym (ap segments_end (drop-last xs i j d next within) ∙ end-cons (get_or xs j d) (drop i xs)))
