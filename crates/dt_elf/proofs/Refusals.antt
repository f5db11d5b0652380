-- What a file that is not refused has, and that want of memory is no refusal.
use Rattle.std.proofs.Common.{◌≡◌, ◌≢◌, ◌≤◌, ◌<◌, ℕ, List, length, Bool, true, false, cond, not, ◌&&◌, Option, Some, None, Result, Ok, Err, refl, sym, ap, subst, ◌∙◌, arith, get_or}
use Rattle.std.specs.List.{list_all}
use Rattle.std.specs.Prelude.{◌==◌}
use Rattle.std.proofs.lemmas.Bool.Decides.{nat_tests}
use Rattle.std.proofs.lemmas.List.Sums.{AllPass-from_list_all}
use Rattle.dt_elf.specs.declared.elf.Segment.{Segment}
use Rattle.dt_elf.specs.declared.elf.ElfErr.{ElfErr}
use Rattle.dt_elf.specs.declared.elf.ElfErr.TheVariants.{Short, Magic, Class, Kind, Machine, Header, Segment as BadSegment, Overlap, Interp, NoMemory}
use Rattle.dt_base.specs.declared.limits.TheConstants.{ADDRESS_LIMIT}
use Rattle.dt_elf.specs.Header.{table_end, e_phnum, e_entry, load_segments}
use Rattle.dt_elf.specs.Executable.{Executable, refusal, exe, exe_of, IsElfErr, table_address, are_placed, is_placed}
use Rattle.dt_elf.specs.inner.Refused.{is_short, is_bad_header}
use Rattle.dt_elf.specs.Placed.{IsPlaced, ArePlaced, EndBelowMappings}

other : (test : Bool) (e : ElfErr) (rest : Option ElfErr) → e ≢ NoMemory → rest ≢ Some NoMemory → cond test (Some e) rest ≢ Some NoMemory
other true e rest apart clean is = apart cc
other false e rest apart clean is = clean is

none-real : Path (Option ElfErr) None (Some NoMemory) → ⊥
none-real is = cc

pub refusal-real : (bytes : List ℕ) → refusal bytes ≢ Some NoMemory
refusal-real bytes =
    other _ Short _ (λ is. cc) (other _ Magic _ (λ is. cc) (other _ Class _ (λ is. cc) (other _ Kind _ (λ is. cc) (other _ Machine _ (λ is. cc) (other _ Header _ (λ is. cc) (other _ BadSegment _ (λ is. cc) (other _ Overlap _ (λ is. cc) (other _ Interp _ (λ is. cc) none-real))))))))

is_refusal : (read : Result Executable ElfErr) (e : ElfErr) → e ≢ NoMemory → read ≡ Err e → IsElfErr read e
is_refusal read Short apart is = is
is_refusal read Magic apart is = is
is_refusal read Class apart is = is
is_refusal read Kind apart is = is
is_refusal read Machine apart is = is
is_refusal read Header apart is = is
is_refusal read BadSegment apart is = is
is_refusal read Overlap apart is = is
is_refusal read Interp apart is = is
is_refusal read NoMemory apart is = absurd (apart refl)

pub refusal-is : (bytes : List ℕ) (e : ElfErr) → refusal bytes ≡ Some e → IsElfErr (exe bytes) e
refusal-is bytes e is = is_refusal (exe bytes) e (λ memory. refusal-real bytes (is ∙ ap Some memory)) (ap (exe_of bytes) is)

passed : (test : Bool) (e : ElfErr) (rest : Option ElfErr) → cond test (Some e) rest ≡ None → (test ≡ false) × (rest ≡ None)
passed true e rest is = let clash : Some e ≡ None = is in absurd cc
passed false e rest is = (refl, is)

-- a file that is not refused
pub record IsFit (bytes : List ℕ) : Type 0 where
  pub table : table_end bytes ≤ length bytes
  pub few : e_phnum bytes ≤ 64
  pub entry : e_entry bytes < ADDRESS_LIMIT
  pub placed : are_placed bytes (load_segments bytes) ≡ true

short-not : (bytes : List ℕ) → is_short bytes ≡ false → table_end bytes ≤ length bytes
short-not bytes is = grind (arith, nat_tests)

header-good : (bytes : List ℕ) → is_bad_header bytes ≡ false → e_phnum bytes ≤ 64
header-good bytes is = grind (arith, nat_tests)

entry-low : (bytes : List ℕ) → is_bad_header bytes ≡ false → e_entry bytes < ADDRESS_LIMIT
entry-low bytes is = grind (arith, nat_tests)

not-not : (test : Bool) → not test ≡ false → test ≡ true
not-not true is = refl
not-not false is = absurd cc

pub fit : (bytes : List ℕ) → refusal bytes ≡ None → IsFit bytes
fit bytes none =
    let p1 = passed _ Short _ none in
    let p2 = passed _ Magic _ p1.1 in
    let p3 = passed _ Class _ p2.1 in
    let p4 = passed _ Kind _ p3.1 in
    let p5 = passed _ Machine _ p4.1 in
    let p6 = passed _ Header _ p5.1 in
    let p7 = passed _ BadSegment _ p6.1 in
    record { table = short-not bytes p1.0; few = header-good bytes p6.0; entry = entry-low bytes p6.0; placed = not-not (are_placed bytes (load_segments bytes)) p7.0 }

placed-from : (bytes : List ℕ) (segment : Segment) → is_placed bytes segment ≡ true → IsPlaced bytes segment
placed-from bytes segment placed = record { part = grind (arith, nat_tests, placed); in_file = grind (arith, nat_tests, placed); above = grind (arith, nat_tests, placed); below = grind (arith, nat_tests, placed) }

and-right : (one other : Bool) → (one && other) ≡ true → other ≡ true
and-right true other is = is
and-right false other is = absurd cc

pub are-placed : (bytes : List ℕ) (segments : List Segment) → are_placed bytes segments ≡ true → ArePlaced bytes segments
unfolding are_placed
are-placed bytes segments is k d within = placed-from bytes (get_or segments k d) (AllPass-from_list_all (is_placed bytes) segments (and-right (not (length segments == 0)) (list_all (is_placed bytes) segments) is) k d within)

pub ends-low : (bytes : List ℕ) (segments : List Segment) → are_placed bytes segments ≡ true → EndBelowMappings segments
ends-low bytes segments is k d within = let placed : IsPlaced bytes (get_or segments k d) = are-placed bytes segments is k d within in placed.below

-- what a file that was read has
pub record IsRead (bytes : List ℕ) (program : Executable) : Type 0 where
  pub fit : IsFit bytes
  pub entry : program.entry ≡ e_entry bytes
  pub segments : program.segments ≡ load_segments bytes

pub read-parts : (bytes : List ℕ) (program : Executable) → exe bytes ≡ Ok program → IsRead bytes program
read-parts bytes program is = by-refusal (refusal bytes) refl is
  where
    by-refusal : (r : Option ElfErr) → refusal bytes ≡ r → exe_of bytes r ≡ Ok program → IsRead bytes program
    by-refusal (Some e) none is = let refused : Result Executable ElfErr = Err e in let clash : refused ≡ Ok program = is in absurd cc
    by-refusal None none is =
        let read : Executable = record { entry = e_entry bytes; phdr = table_address bytes (load_segments bytes); segments = load_segments bytes } in
        let told : Path (Result Executable ElfErr) (Ok read) (Ok program) = is in
        let same : read ≡ program = cc in
        record { fit = fit bytes none; entry = sym (ap (λ (p : Executable). p.entry) same); segments = sym (ap (λ (p : Executable). p.segments) same) }

pub read-placed : (bytes : List ℕ) (program : Executable) → exe bytes ≡ Ok program → ArePlaced bytes program.segments
read-placed bytes program is =
    let read : IsRead bytes program = read-parts bytes program is in
    let good : IsFit bytes = read.fit in
    subst (λ (segments : List Segment). ArePlaced bytes segments) (sym read.segments) (are-placed bytes (load_segments bytes) good.placed)

pub read-entry : (bytes : List ℕ) (program : Executable) → exe bytes ≡ Ok program → program.entry < ADDRESS_LIMIT
read-entry bytes program is =
    let read : IsRead bytes program = read-parts bytes program is in
    let good : IsFit bytes = read.fit in
    rw read.entry good.entry

pub read-low : (bytes : List ℕ) (program : Executable) → exe bytes ≡ Ok program → EndBelowMappings program.segments
read-low bytes program is k d within = let placed : IsPlaced bytes (get_or program.segments k d) = read-placed bytes program is k d within in placed.below
