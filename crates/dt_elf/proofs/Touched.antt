-- The pages of segments, one after another.
use Rattle.std.proofs.Common.{◌≡◌, ℕ, ◌+◌, ◌-◌, ◌*◌, ◌<◌, ◌≤◌, List, [], ◌∷◌, ◌++◌, length, get_or, map, drop, take, replicate, max, min, length-drop, true, inl, inr, refl, sym, ap, ◌∙◌, append-nil, append_assoc, arith}
use Rattle.std.proofs.lemmas.List.{length-map, map-append, drop_all, take_all, get_or-take, get_or-drop, get_or-append_right, get_or_append_left, length-take-le, ext_get_or, length-replicate, get_or-replicate}
use Rattle.std.proofs.lemmas.List.Elements.{All-map}
use Rattle.std.proofs.lemmas.Bool.{cases_lt}
use Rattle.std.proofs.lemmas.Bool.Decides.{nat_tests}
use Rattle.dt_base.specs.Bytes.{with_bytes_at}
use Rattle.std.proofs.lemmas.List.FromFn.{length-map-range_with_len, get_or-map-range_with_len}
use Rattle.dt_base.specs.declared.limits.TheConstants.{PAGE_SIZE}
use Rattle.dt_elf.specs.declared.elf.Segment.{Segment}
use Rattle.dt_elf.specs.SegmentPages.{is_segment_page, rights_with, numbers_below, page_rights, segment_byte, loaded_byte, loaded_bytes, loaded_page}
use Rattle.dt_elf.specs.inner.Next.{IsNext}
use Rattle.dt_elf.proofs.Segments.{drop-last}
use Rattle.dt_elf.proofs.Numbers.{numbers-on, numbers-low}
use Rattle.dt_space.specs.Space.{PageView, granted_rights}
use Rattle.dt_space.specs.Pages.{zero_padded, pages_from, EndsBelow}

-- rights

pub rights-end : (segments : List Segment) (number : ℕ) → 0 ≡ page_rights (drop (length segments) segments) number
unfolding page_rights
rights-end segments number = rw (drop_all (length segments) segments (omega arith)) refl

rights-cons : (segment : Segment) (rest : List Segment) (number : ℕ) → page_rights (segment ∷ rest) number ≡ rights_with number segment (page_rights rest number)
unfolding page_rights
rights-cons segment rest number = refl

pub rights-more : (segments : List Segment) (number i j rights new : ℕ) (d : Segment) → j + 1 ≡ i → i ≤ length segments → rights ≡ page_rights (drop i segments) number → new ≡ rights_with number (get_or segments j d) rights → new ≡ page_rights (drop j segments) number
rights-more segments number i j rights new d next within sofar is =
    is ∙ rw sofar (sym (ap (λ (xs : List Segment). page_rights xs number) (drop-last segments i j d next within) ∙ rights-cons (get_or segments j d) (drop i segments) number))

-- bytes

pub length-loaded_bytes : (segments : List Segment) (bytes : List ℕ) (start count : ℕ) → length (loaded_bytes segments bytes start count) ≡ count
unfolding loaded_bytes
length-loaded_bytes segments bytes start count = length-map-range_with_len (loaded_byte segments bytes) start count

get-loaded_bytes : (segments : List Segment) (bytes : List ℕ) (start count i d : ℕ) → i < count → get_or (loaded_bytes segments bytes start count) i d ≡ loaded_byte segments bytes (start + i)
unfolding loaded_bytes
get-loaded_bytes segments bytes start count i d lt = get_or-map-range_with_len (loaded_byte segments bytes) start count i (start + i) d lt refl

within-take : (bytes : List ℕ) (from count k : ℕ) → k < count → get_or (take count (drop from bytes)) k 0 ≡ get_or bytes (from + k) 0
within-take bytes from count k lt = get_or-take count (drop from bytes) k 0 lt ∙ get_or-drop from bytes k 0

get-inside : (old bytes : List ℕ) (offset i : ℕ) → offset + length bytes ≤ length old → offset ≤ i → i < offset + length bytes → get_or (with_bytes_at old offset bytes) i 0 ≡ get_or bytes (i - offset) 0
get-inside old bytes offset i fits low high =
    let prefix_length : length (take offset old) ≡ offset = length-take-le offset old (omega arith) in
    rw append_assoc (get_or-append_right (take offset old) (bytes ++ drop (offset + length bytes) old) offset i 0 prefix_length low ∙ get_or_append_left bytes (drop (offset + length bytes) old) 0 (i - offset) (omega arith))

get-under : (old bytes : List ℕ) (offset i : ℕ) → offset + length bytes ≤ length old → i < offset → get_or (with_bytes_at old offset bytes) i 0 ≡ get_or old i 0
get-under old bytes offset i fits under =
    let prefix_length : length (take offset old) ≡ offset = length-take-le offset old (omega arith) in
    rw append_assoc (get_or_append_left (take offset old) (bytes ++ drop (offset + length bytes) old) 0 i (omega arith) ∙ get_or-take offset old i 0 under)

get-over : (old bytes : List ℕ) (offset i : ℕ) → offset + length bytes ≤ length old → offset + length bytes ≤ i → get_or (with_bytes_at old offset bytes) i 0 ≡ get_or old i 0
get-over old bytes offset i fits over =
    let prefix_length : length (take offset old) ≡ offset = length-take-le offset old (omega arith) in
    let position : offset + length bytes + (i - offset - length bytes) ≡ i = omega arith in
    rw append_assoc (get_or-append_right (take offset old) (bytes ++ drop (offset + length bytes) old) offset i 0 prefix_length (omega arith)
    ∙ get_or-append_right bytes (drop (offset + length bytes) old) (length bytes) (i - offset) 0 refl (omega arith)
    ∙ get_or-drop (offset + length bytes) old (i - offset - length bytes) 0
    ∙ rw position refl)

byte-in : (segment : Segment) (bytes : List ℕ) (address other : ℕ) → segment.vaddr ≤ address → address < segment.vaddr + segment.filesz → segment_byte segment bytes address other ≡ get_or bytes (segment.offset + (address - segment.vaddr)) 0
byte-in segment bytes address other low high = grind (arith, nat_tests)

byte-under : (segment : Segment) (bytes : List ℕ) (address other : ℕ) → address < segment.vaddr → segment_byte segment bytes address other ≡ other
byte-under segment bytes address other under = grind (arith, nat_tests)

byte-over : (segment : Segment) (bytes : List ℕ) (address other : ℕ) → segment.vaddr + segment.filesz ≤ address → segment_byte segment bytes address other ≡ other
byte-over segment bytes address other over = grind (arith, nat_tests)

-- where the file part meets the page, its bytes are put there
pub put-part : (segment : Segment) (bytes old : List ℕ) (start low high from count : ℕ) → length old ≡ PAGE_SIZE → segment.offset + segment.filesz ≤ length bytes → low ≡ max segment.vaddr start → high ≡ min (segment.vaddr + segment.filesz) (start + PAGE_SIZE) → low < high → from ≡ segment.offset + (low - segment.vaddr) → count ≡ high - low → (i : ℕ) → i < PAGE_SIZE → get_or (with_bytes_at old (low - start) (take count (drop from bytes))) i 0 ≡ segment_byte segment bytes (start + i) (get_or old i 0)
put-part segment bytes old start low high from count whole in_file low_is high_is some from_is count_is i within =
    let part = take count (drop from bytes) in
    let long : length part ≡ count = length-take-le count (drop from bytes) (omega (arith, length-drop from bytes)) in
    let fits : low - start + length part ≤ length old = omega arith in
    elim (cases_lt i (low - start)) [
      | inl under ↦ get-under old part (low - start) i fits under ∙ sym (byte-under segment bytes (start + i) (get_or old i 0) (omega (arith, under)))
      | inr up ↦ elim (cases_lt i (low - start + length part)) [
        | inl inside ↦
            let position : from + (i - (low - start)) ≡ segment.offset + (start + i - segment.vaddr) = omega (arith, inside, up) in
            get-inside old part (low - start) i fits up inside ∙ within-take bytes from count (i - (low - start)) (omega (arith, inside, up)) ∙ rw position (sym (byte-in segment bytes (start + i) (get_or old i 0) (omega (arith, up)) (omega (arith, inside, up))))
        | inr over ↦ get-over old part (low - start) i fits over ∙ sym (byte-over segment bytes (start + i) (get_or old i 0) (omega (arith, over)))
      ]
    ]

byte-cons : (segment : Segment) (rest : List Segment) (bytes : List ℕ) (address : ℕ) → loaded_byte (segment ∷ rest) bytes address ≡ segment_byte segment bytes address (loaded_byte rest bytes address)
unfolding loaded_byte
byte-cons segment rest bytes address = refl

byte-none : (bytes : List ℕ) (address : ℕ) → loaded_byte [] bytes address ≡ 0
unfolding loaded_byte
byte-none bytes address = refl

-- with no segment, zeros
pub bytes-end : (segments : List Segment) (bytes : List ℕ) (start count : ℕ) → replicate count 0 ≡ loaded_bytes (drop (length segments) segments) bytes start count
bytes-end segments bytes start count =
    let none : drop (length segments) segments ≡ [] = drop_all (length segments) segments (omega arith) in
    rw none (ext_get_or 0 (replicate count 0) (loaded_bytes [] bytes start count) (length-replicate count 0 ∙ sym (length-loaded_bytes [] bytes start count)) (λ i lt.
    let low : i < count = omega (arith, lt, length-replicate {A = ℕ} count 0) in
    get_or-replicate count i 0 0 low ∙ sym (get-loaded_bytes [] bytes start count i 0 low ∙ byte-none bytes (start + i))))

-- one segment more, put over the others
pub bytes-more : (segments : List Segment) (bytes old new : List ℕ) (start count i j : ℕ) (d : Segment) → j + 1 ≡ i → i ≤ length segments → length new ≡ count → old ≡ loaded_bytes (drop i segments) bytes start count → ((k : ℕ) → k < count → get_or new k 0 ≡ segment_byte (get_or segments j d) bytes (start + k) (get_or old k 0)) → new ≡ loaded_bytes (drop j segments) bytes start count
bytes-more segments bytes old new start count i j d next within whole sofar put =
    let segment = get_or segments j d in
    let rest = drop i segments in
    let parts : drop j segments ≡ segment ∷ rest = drop-last segments i j d next within in
    rw parts (ext_get_or 0 new (loaded_bytes (segment ∷ rest) bytes start count) (whole ∙ sym (length-loaded_bytes (segment ∷ rest) bytes start count)) (λ k lt.
    let low : k < count = omega (arith, lt, whole) in
    let under : get_or old k 0 ≡ loaded_byte rest bytes (start + k) = ap (λ (xs : List ℕ). get_or xs k 0) sofar ∙ get-loaded_bytes rest bytes start count k 0 low in
    put k low ∙ ap (segment_byte segment bytes (start + k)) under ∙ sym (get-loaded_bytes (segment ∷ rest) bytes start count k 0 low ∙ byte-cons segment rest bytes (start + k))))

-- a page whose contents fill it
pub pages-one : (number rights : ℕ) (contents : List ℕ) → length contents ≡ PAGE_SIZE → pages_from number rights contents 1 ≡ record { number = number; rights = rights; bytes = contents } ∷ []
unfolding pages_from zero_padded
pages-one number rights contents whole =
    let all : take PAGE_SIZE contents ≡ contents = take_all PAGE_SIZE contents (omega arith) in
    let none : PAGE_SIZE - length contents ≡ 0 = omega arith in
    rw (all, none, append-nil) refl

-- the pages up to the next one that is touched
pub pages-on : (segments : List Segment) (bytes contents : List ℕ) (space new : List PageView) (number next rights : ℕ) → is_segment_page segments number ≡ true → IsNext (is_segment_page segments) (number + 1) next → space ≡ map (loaded_page segments bytes) (numbers_below number (is_segment_page segments)) → rights ≡ page_rights segments number → contents ≡ loaded_bytes segments bytes (PAGE_SIZE * number) PAGE_SIZE → new ≡ space ++ pages_from number (granted_rights rights) contents 1 → new ≡ map (loaded_page segments bytes) (numbers_below next (is_segment_page segments))
pages-on segments bytes contents space new number next rights hit is sofar rights_is contents_is new_is =
    let long : length contents ≡ PAGE_SIZE = ap length contents_is ∙ length-loaded_bytes segments bytes (PAGE_SIZE * number) PAGE_SIZE in
    let page : pages_from number (granted_rights rights) contents 1 ≡ map (loaded_page segments bytes) (number ∷ []) = pages-one number (granted_rights rights) contents long ∙ rw (rights_is, contents_is) refl in
    new_is ∙ rw (sofar, page) (sym (ap (map (loaded_page segments bytes)) (numbers-on (is_segment_page segments) number next hit is) ∙ map-append (loaded_page segments bytes) (numbers_below number (is_segment_page segments)) (number ∷ [])))

pub pages-length : (segments : List Segment) (bytes : List ℕ) (space : List PageView) (number : ℕ) → space ≡ map (loaded_page segments bytes) (numbers_below number (is_segment_page segments)) → length space ≡ length (numbers_below number (is_segment_page segments))
pages-length segments bytes space number is = ap length is ∙ length-map _ _

-- each of the pages so far is below the next
pub pages-ends : (segments : List Segment) (bytes : List ℕ) (space : List PageView) (number : ℕ) → space ≡ map (loaded_page segments bytes) (numbers_below number (is_segment_page segments)) → EndsBelow space number
pages-ends segments bytes space number is = rw is (All-map (λ (page : PageView). page.number < number) (loaded_page segments bytes) (numbers_below number (is_segment_page segments)) (numbers-low (is_segment_page segments) number))
