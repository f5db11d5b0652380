-- Records, one behind the other, and how many fit.
use Rattle.std.proofs.Common.{arith, ◌≡◌, ℕ, ◌+◌, ◌-◌, ◌<◌, ◌≤◌, cond, true, false, List, [], ◌∷◌, ◌++◌, length, take, drop, get_or, replicate, refl, sym, ap, ◌∙◌, append-nil, append_assoc}
use Rattle.std.proofs.lemmas.Bool.Decides.{nat_tests}
use Rattle.std.proofs.lemmas.List.{drop_all, take_all, take_more, take-replicate}
use Rattle.std.specs.Prelude.{nat_le}
use Rattle.dt_base.proofs.Lists.{drop-at}
use Rattle.dt_base.specs.Fields.{low_bytes}
use Rattle.dt_tree.specs.declared.list.Listed.{Listed}
use Rattle.dt_iocalls.specs.Entries.{record_len, dirent, dirents, fitting_entries}

dirents-cons : (entry : Listed) (rest : List Listed) → dirents (entry ∷ rest) ≡ dirent entry ++ dirents rest
unfolding dirents
dirents-cons entry rest = refl

pub dirents-on : (entries : List Listed) (i : ℕ) (entry : Listed) (bytes : List ℕ) → i < length entries → entry ≡ get_or entries i entry → (bytes ++ dirent entry) ++ dirents (drop (i + 1) entries) ≡ bytes ++ dirents (drop i entries)
dirents-on entries i entry bytes lt is =
    let parts : dirents (drop i entries) ≡ dirent entry ++ dirents (drop (i + 1) entries) = ap dirents (drop-at entries i entry entry lt is) ∙ dirents-cons entry (drop (i + 1) entries) in
    rw parts (simp append_assoc)

pub dirents-end : (entries : List Listed) (i : ℕ) (bytes : List ℕ) → length entries ≤ i → bytes ++ dirents (drop i entries) ≡ bytes
unfolding dirents
dirents-end entries i bytes all = ap (λ rest. bytes ++ dirents rest) (drop_all i entries all) ∙ append-nil bytes

-- one record, part by part
parts : (bytes inode offset len kind name pad : List ℕ) → (((((bytes ++ inode) ++ offset) ++ len) ++ kind) ++ name) ++ pad ≡ bytes ++ (inode ++ (offset ++ (len ++ (kind ++ (name ++ pad)))))
parts bytes inode offset len kind name pad = simp append_assoc

header : Listed → List ℕ
header entry = low_bytes 8 entry.vino ++ (low_bytes 8 0 ++ (low_bytes 2 (record_len entry.name) ++ (entry.kind ∷ entry.name)))

pub record-parts : (bytes name : List ℕ) (entry : Listed) (len : ℕ) → name ≡ entry.name → len ≡ record_len name → (((((bytes ++ low_bytes 8 entry.vino) ++ low_bytes 8 0) ++ low_bytes 2 len) ++ (entry.kind ∷ [])) ++ name) ++ take (len - 19 - length name) (replicate 8 0) ≡ bytes ++ dirent entry
unfolding dirent header
record-parts bytes name entry len same is =
    let few : len - 19 - length name ≤ 8 = omega arith in
    let long : length (header entry) ≡ 19 + length entry.name = omega arith in
    let less : len - 19 - length name ≡ record_len entry.name - length (header entry) = omega (arith, ap length same, ap record_len same) in
    let whole = ap record_len same in
    parts bytes (low_bytes 8 entry.vino) (low_bytes 8 0) (low_bytes 2 len) (entry.kind ∷ []) name (take (len - 19 - length name) (replicate 8 0))
    ∙ ap (λ pad. bytes ++ (low_bytes 8 entry.vino ++ (low_bytes 8 0 ++ (low_bytes 2 len ++ (entry.kind ∷ (name ++ pad))))))
    (take-replicate (len - 19 - length name) 8 0 few ∙ ap (λ count. replicate count 0) less)
    ∙ ap (λ len. bytes ++ (low_bytes 8 entry.vino ++ (low_bytes 8 0 ++ (low_bytes 2 len ++ (entry.kind ∷ (name ++ replicate (record_len entry.name - length (header entry)) 0)))))) (is ∙ whole)
    ∙ ap (λ name. bytes ++ (low_bytes 8 entry.vino ++ (low_bytes 8 0 ++ (low_bytes 2 (record_len entry.name) ++ (entry.kind ∷ (name ++ replicate (record_len entry.name - length (header entry)) 0)))))) same

-- one entry more fits
fits : (room : ℕ) (entry : Listed) (rest : List Listed) → record_len entry.name ≤ room → fitting_entries room (entry ∷ rest) ≡ entry ∷ fitting_entries (room - record_len entry.name) rest
unfolding fitting_entries
fits room entry rest may =
    let yes : nat_le (record_len entry.name) room ≡ true = grind (arith, nat_tests) in
    ap (λ b. cond b (entry ∷ fitting_entries (room - record_len entry.name) rest) []) yes

pub fitting-on : (all entries : List Listed) (i left : ℕ) (entry : Listed) → i < length entries → entry ≡ get_or entries i entry → record_len entry.name ≤ left → take i entries ++ fitting_entries left (drop i entries) ≡ all → take (i + 1) entries ++ fitting_entries (left - record_len entry.name) (drop (i + 1) entries) ≡ all
fitting-on all entries i left entry lt is may so_far =
    let here : drop i entries ≡ entry ∷ drop (i + 1) entries = drop-at entries i entry entry lt is in
    ap (λ part. part ++ fitting_entries (left - record_len entry.name) (drop (i + 1) entries)) (take_more entries i entry lt ∙ ap (λ x. take i entries ++ (x ∷ [])) (sym is))
    ∙ append_assoc (take i entries) (entry ∷ []) (fitting_entries (left - record_len entry.name) (drop (i + 1) entries))
    ∙ sym (ap (λ rest. take i entries ++ rest) (ap (fitting_entries left) here ∙ fits left entry (drop (i + 1) entries) may)) ∙ so_far

pub fitting-stop : (all entries : List Listed) (i left : ℕ) (entry : Listed) → i < length entries → entry ≡ get_or entries i entry → left < record_len entry.name → take i entries ++ fitting_entries left (drop i entries) ≡ all → take i entries ≡ all
unfolding fitting_entries
fitting-stop all entries i left entry lt is over so_far =
    let here : drop i entries ≡ entry ∷ drop (i + 1) entries = drop-at entries i entry entry lt is in
    let no : nat_le (record_len entry.name) left ≡ false = grind (arith, nat_tests) in
    sym (append-nil (take i entries))
    ∙ sym (ap (λ b. take i entries ++ cond b (entry ∷ fitting_entries (left - record_len entry.name) (drop (i + 1) entries)) []) no)
    ∙ sym (ap (λ rest. take i entries ++ fitting_entries left rest) here) ∙ so_far

pub fitting-end : (all entries : List Listed) (i left : ℕ) → length entries ≤ i → take i entries ++ fitting_entries left (drop i entries) ≡ all → take (length entries) entries ≡ all
unfolding fitting_entries
fitting-end all entries i left none so_far =
    take_all (length entries) entries (omega arith) ∙ sym (take_all i entries none) ∙ sym (append-nil (take i entries))
    ∙ sym (ap (λ rest. take i entries ++ fitting_entries left rest) (drop_all i entries none)) ∙ so_far
