-- The ends of pipes when a description goes.
use Rattle.std.proofs.Common.{arith, ◌≡◌, ℕ, ◌+◌, ◌≤◌, ◌==◌, ◌||◌, Bool, true, false, cond, List, Option, None, Some, refl, sym, ap, subst, ◌∙◌}
use Rattle.std.proofs.lemmas.Bool.Decides.{nat_tests}
use Rattle.std.specs.Prelude.{IfSome, IsSome, option_map, unwrap_or, not, [], if◌then◌else◌}
use Rattle.std.specs.Option.{option_and_then}
use Rattle.std.specs.Ordering.{nat_cmp}
use Rattle.std.specs.Cmp.{nat_cmp_total}
use Rattle.std.specs.FinMap.{FinMap, get, remove, nat_cmp-IsAntisymmetric}
use Rattle.dt_tables.specs.Total.{total}
use Rattle.dt_tables.specs.inner.Weight.{weight}
use Rattle.dt_tables.proofs.Totals.{total-insert, total-remove}
use Rattle.dt_fds.specs.declared.desc.Desc.{Desc}
use Rattle.dt_fds.specs.declared.desc.DescKind.{DescKind}
use Rattle.dt_fds.specs.declared.ends.Ends.{Ends}
use Rattle.dt_host.specs.World.{PipeContents}
use Rattle.dt_pipes.specs.Table as pipes
use Rattle.dt_pipes.specs.Table.{pipes_of, has_pipe}
use Rattle.dt_pipes.proofs.Held.{has-pipes_of}
use Rattle.dt_fds.specs.Pipes.{PipesView, pipe_content, without_pipe, pipe_at}
use Rattle.dt_fds.specs.Descriptions.{Descriptions, pipe_of, read_pipe, write_pipe, one_if_named, readers, writers, descriptors_of, with_slot, without_unreferenced, without_slot, unreferenced}
use Rattle.dt_fds.specs.declared.desc.Slot.{Slot}
use Rattle.dt_fds.specs.Descriptions.{description_at, slot_description, slot_at}
use Rattle.dt_fds.specs.Holding.{Holding, without_end, pipes_after_end, pipes_without_description, read_of_content, read_from_pipe, read_by_description, pipe_content_by, write_to_pipe, write_by_description}
use Rattle.dt_fds.specs.Ends.{AreCounted, is_read, is_written, one_if}
use Rattle.dt_fds.specs.inner.Ends.{one_if_end, without_ends, last_end, without_last, pipe_end_by}
use Rattle.dt_fds.specs.declared.desc.DescKind.TheVariants.{File, Dir, Device, PipeRead, PipeWrite, Input, Stream}
use Rattle.dt_fds.specs.Descriptions.{with_new_description, with_opened}
use Rattle.dt_fds.specs.Backs.{AllEnds, KeepsNodes}
use Rattle.dt_fds.proofs.Backing.{names_read, names_written, KeepsNodes-with_slot}

-- a description that goes is counted no more
swept-total : (g : Desc → ℕ) (f : Descriptions) (k : ℕ) → (let new = without_unreferenced f k in total g new.descs + weight g (unreferenced f k) ≡ total g f.descs)
unfolding without_unreferenced unreferenced
swept-total g f k =
    elim (descriptors_of f k == 0) as (λ b. total g (cond b (record f { descs = remove f.descs k }) f).descs + weight g (cond b (get f.descs k) None) ≡ total g f.descs) [
      | true ↦ total-remove nat_cmp_total g nat_cmp-IsAntisymmetric f.descs k
      | false ↦ omega arith
    ]

reading-freed : (f : Descriptions) (p fd k q : ℕ) → readers (without_slot f p fd k) q + weight (names_read q) (unreferenced (with_slot f p fd None) k) ≡ readers f q
unfolding readers without_slot with_slot
reading-freed f p fd k q = swept-total (names_read q) (with_slot f p fd None) k

writing-freed : (f : Descriptions) (p fd k q : ℕ) → writers (without_slot f p fd k) q + weight (names_written q) (unreferenced (with_slot f p fd None) k) ≡ writers f q
unfolding writers without_slot with_slot
writing-freed f p fd k q = swept-total (names_written q) (with_slot f p fd None) k

-- what went, as its kind counts
kind-weight : (number : DescKind → Option ℕ) (q : ℕ) (lost : Option Desc) → weight (λ (desc : Desc). one_if_named q (number desc.kind)) lost ≡ one_if_end q number (option_map (λ (desc : Desc). desc.kind) lost)
kind-weight number q None = refl
kind-weight number q (Some desc) = refl

-- an end that goes was noted as open
noted : (b : Bool) → 1 ≤ one_if b → b ≡ true
noted true h = refl
noted false h = absurd (let never : 1 ≤ 0 = h in omega arith)

one_here : (n : ℕ) → one_if_named n (Some n) ≡ 1
one_here n = grind (arith, nat_tests)

open-end : (number : DescKind → Option ℕ) (open_at : ℕ → Bool) (lost : Option Desc) → ((q : ℕ) → weight (λ (desc : Desc). one_if_named q (number desc.kind)) lost ≤ one_if (open_at q))
    → IfSome (option_map (λ (desc : Desc). desc.kind) lost) (λ kind. IfSome (number kind) (λ q. open_at q ≡ true))
open-end number open_at None h = tt
open-end number open_at (Some desc) h = by_number (number desc.kind) h
  where
    by_number : (found : Option ℕ) → ((q : ℕ) → one_if_named q found ≤ one_if (open_at q)) → IfSome found (λ q. open_at q ≡ true)
    by_number None h = tt
    by_number (Some q) h = noted (open_at q) (let one = one_here q in omega (arith, h q))

module _ (f : Descriptions) (ends : FinMap nat_cmp Ends) (p fd k : ℕ) (counted : AreCounted f ends) where
  abbrev pub lost : Option Desc
  lost = unreferenced (with_slot f p fd None) k

  pub gone-read : IfSome (option_map (λ (desc : Desc). desc.kind) lost) (λ kind. IfSome (read_pipe kind) (λ q. is_read (get ends q) ≡ true))
  gone-read = open-end read_pipe (λ q. is_read (get ends q)) lost (λ q. omega (arith, counted.reading q, reading-freed f p fd k q))

  pub gone-written : IfSome (option_map (λ (desc : Desc). desc.kind) lost) (λ kind. IfSome (write_pipe kind) (λ q. is_written (get ends q) ≡ true))
  gone-written = open-end write_pipe (λ q. is_written (get ends q)) lost (λ q. omega (arith, counted.writing q, writing-freed f p fd k q))

  -- the ends are counted also then
  pub counted-freed : (now : FinMap nat_cmp Ends) (kind : Option DescKind) → kind ≡ option_map (λ (desc : Desc). desc.kind) lost
      → ((q : ℕ) → one_if (is_read (get now q)) + one_if_end q read_pipe kind ≡ one_if (is_read (get ends q)))
      → ((q : ℕ) → one_if (is_written (get now q)) + one_if_end q write_pipe kind ≡ one_if (is_written (get ends q)))
      → AreCounted (without_slot f p fd k) now
  counted-freed now kind is reading writing = record {
    reading = λ q. let same = kind-weight read_pipe q lost ∙ ap (one_if_end q read_pipe) (sym is) in omega (arith, counted.reading q, reading-freed f p fd k q, reading q);
    writing = λ q. let same = kind-weight write_pipe q lost ∙ ap (one_if_end q write_pipe) (sym is) in omega (arith, counted.writing q, writing-freed f p fd k q, writing q);
  }

-- the pipes without the one that goes, if one does
abbrev pub without_gone : PipesView → Option ℕ → PipesView
without_gone pipes None = pipes
without_gone pipes (Some q) = without_pipe pipes q

-- what a description that went leaves of the pipes
pub left-last : (f : Descriptions) (ends : FinMap nat_cmp Ends) (m : PipesView) (lost : Option Desc) → AreCounted f ends → pipes_without_description f m lost ≡ without_gone m (last_end ends (option_map (λ (desc : Desc). desc.kind) lost))
unfolding without_end
left-last f ends m None counted = refl
left-last f ends m (Some desc) counted = by_pipe (pipe_of desc.kind)
  where
    by_test : (q : ℕ) (a b : Bool) → readers f q ≡ one_if a → writers f q ≡ one_if b → (if readers f q + writers f q == 0 then without_pipe m q else m) ≡ without_gone m (if a || b then None else Some q)
    by_test q true b r w = let test : (readers f q + writers f q == 0) ≡ false = grind (arith, nat_tests) in ap (λ t. if t then without_pipe m q else m) test
    by_test q false true r w = let test : (readers f q + writers f q == 0) ≡ false = grind (arith, nat_tests) in ap (λ t. if t then without_pipe m q else m) test
    by_test q false false r w = let test : (readers f q + writers f q == 0) ≡ true = grind (arith, nat_tests) in ap (λ t. if t then without_pipe m q else m) test

    by_pipe : (found : Option ℕ) → pipes_after_end f m found ≡ without_gone m (without_ends ends found)
    by_pipe None = refl
    by_pipe (Some q) = by_test q (is_read (get ends q)) (is_written (get ends q)) (counted.reading q) (counted.writing q)

-- what is no end of a pipe is neither end
no-end : (kind : DescKind) (q : ℕ) → pipe_of kind ≡ None → (one_if_named q (read_pipe kind) ≡ 0) × (one_if_named q (write_pipe kind) ≡ 0)
no-end (File n) q e = (refl, refl)
no-end (Dir n) q e = (refl, refl)
no-end (Device n) q e = (refl, refl)
no-end (PipeRead r) q e = cc
no-end (PipeWrite r) q e = cc
no-end Input q e = (refl, refl)
no-end (Stream stream) q e = (refl, refl)

-- a new description is counted
reading-new : (f : Descriptions) (desc : Desc) (q : ℕ) → get f.descs f.next ≡ None → readers (with_new_description f desc) q ≡ readers f q + one_if_named q (read_pipe desc.kind)
unfolding with_new_description readers
reading-new f desc q fresh =
    let sum = total-insert nat_cmp_total (names_read q) f.descs f.next desc in
    let none = ap (weight (names_read q)) fresh in
    omega arith

writing-new : (f : Descriptions) (desc : Desc) (q : ℕ) → get f.descs f.next ≡ None → writers (with_new_description f desc) q ≡ writers f q + one_if_named q (write_pipe desc.kind)
unfolding with_new_description writers
writing-new f desc q fresh =
    let sum = total-insert nat_cmp_total (names_written q) f.descs f.next desc in
    let none = ap (weight (names_written q)) fresh in
    omega arith

pub reading-opened : (f : Descriptions) (p fd : ℕ) (desc : Desc) (cloexec : Bool) (q : ℕ) → get f.descs f.next ≡ None → readers (with_opened f p fd desc cloexec) q ≡ readers f q + one_if_named q (read_pipe desc.kind)
reading-opened f p fd desc cloexec q fresh =
    let kept = KeepsNodes-with_slot (with_new_description f desc) p fd (Some (record { number = f.next; cloexec = cloexec })) in
    kept.reading q ∙ reading-new f desc q fresh

pub writing-opened : (f : Descriptions) (p fd : ℕ) (desc : Desc) (cloexec : Bool) (q : ℕ) → get f.descs f.next ≡ None → writers (with_opened f p fd desc cloexec) q ≡ writers f q + one_if_named q (write_pipe desc.kind)
writing-opened f p fd desc cloexec q fresh =
    let kept = KeepsNodes-with_slot (with_new_description f desc) p fd (Some (record { number = f.next; cloexec = cloexec })) in
    kept.writing q ∙ writing-new f desc q fresh

-- the ends are counted also with a new description that is none
pub counted-opened : (f : Descriptions) (ends : FinMap nat_cmp Ends) (p fd : ℕ) (desc : Desc) (cloexec : Bool) → get f.descs f.next ≡ None → pipe_of desc.kind ≡ None → AreCounted f ends → AreCounted (with_opened f p fd desc cloexec) ends
counted-opened f ends p fd desc cloexec fresh none counted = record {
  reading = λ q. let zero = no-end desc.kind q none in omega (arith, counted.reading q, reading-opened f p fd desc cloexec q fresh, zero.0);
  writing = λ q. let zero = no-end desc.kind q none in omega (arith, counted.writing q, writing-opened f p fd desc cloexec q fresh, zero.1);
}

-- they are also where as many descriptions are of each end
pub counted-kept : (p : ℕ) (f g : Descriptions) (ends : FinMap nat_cmp Ends) → KeepsNodes p f g → AreCounted f ends → AreCounted g ends
counted-kept p f g ends kept counted = record {
  reading = λ q. kept.reading q ∙ counted.reading q;
  writing = λ q. kept.writing q ∙ counted.writing q;
}

-- the pipe of a description that goes is there
pub gone-ends : (m : PipesView) (f : Descriptions) (k : ℕ) → AllEnds m f → IfSome (unreferenced f k) (λ desc. IfSome (pipe_of desc.kind) (λ q. IsSome (get m.contents q)))
unfolding unreferenced
gone-ends m f k h =
    elim (descriptors_of f k == 0) as (λ b. IfSome (cond b (get f.descs k) None) (λ desc. IfSome (pipe_of desc.kind) (λ q. IsSome (get m.contents q)))) [
      | true ↦ h k
      | false ↦ tt
    ]

-- the pipe that goes, if one does, is its
pub last-there : (ends : FinMap nat_cmp Ends) (lost : Option Desc) (P : ℕ → Type 0) → IfSome lost (λ desc. IfSome (pipe_of desc.kind) P) → IfSome (last_end ends (option_map (λ (desc : Desc). desc.kind) lost)) P
last-there ends None P h = tt
last-there ends (Some desc) P h = by_pipe (pipe_of desc.kind) h
  where
    by_test : (q : ℕ) (b : Bool) → P q → IfSome (if b then None else Some q) P
    by_test q true h = tt
    by_test q false h = h

    by_pipe : (found : Option ℕ) → IfSome found P → IfSome (without_ends ends found) P
    by_pipe None h = tt
    by_pipe (Some q) h = by_test q (is_read (get ends q) || is_written (get ends q)) h

-- the pipes without it
pub gone-pipes : (m : PipesView) (contents : FinMap nat_cmp (List ℕ)) (next : ℕ) (last : Option ℕ) → contents ≡ without_last m.contents last → next ≡ m.next → ◌≡◌ {A = PipesView} (record { contents = contents; next = next }) (without_gone m last)
gone-pipes m contents next None is same = λ i. record { contents = is i; next = same i }
gone-pipes m contents next (Some q) is same = λ i. record { contents = is i; next = same i }

-- a pipe that holds something known is one of the table
pub in-table : (t : pipes.Table) (host : PipeContents) (lost : Option Desc) → IfSome lost (λ desc. IfSome (pipe_of desc.kind) (λ q. IsSome (get (pipes_of t host) q))) → IfSome lost (λ desc. IfSome (pipe_of desc.kind) (λ q. IsSome (get t.pipes q)))
in-table t host None h = tt
in-table t host (Some desc) h = by_pipe (pipe_of desc.kind) h
  where
    by_pipe : (found : Option ℕ) → IfSome found (λ q. IsSome (get (pipes_of t host) q)) → IfSome found (λ q. IsSome (get t.pipes q))
    by_pipe None h = tt
    by_pipe (Some q) h = sym (has-pipes_of t host q) ∙ h

-- what holds of the pipe of each open description holds of that of a descriptor's
pub of-described : (f : Descriptions) (p fd : ℕ) (P : ℕ → Type 0) → ((k : ℕ) → IfSome (get f.descs k) (λ desc. IfSome (pipe_of desc.kind) P)) → IfSome (description_at f p fd) (λ desc. IfSome (pipe_of desc.kind) P)
unfolding description_at
of-described f p fd P h = by_slot (slot_at f p fd)
  where
    by_slot : (found : Option Slot) → IfSome (option_and_then (slot_description f) found) (λ desc. IfSome (pipe_of desc.kind) P)
    by_slot None = tt
    by_slot (Some slot) = h slot.number

-- what a descriptor reads from, or writes to, is its pipe
read-named : (kind : DescKind) (q : ℕ) (P : ℕ → Type 0) → IfSome (pipe_of kind) P → read_pipe kind ≡ Some q → P q
read-named (PipeRead r) q P h e = let same : r ≡ q = cc in subst P same h
read-named (PipeWrite r) q P h e = cc
read-named (File n) q P h e = cc
read-named (Dir n) q P h e = cc
read-named (Device n) q P h e = cc
read-named Input q P h e = cc
read-named (Stream stream) q P h e = cc

write-named : (kind : DescKind) (q : ℕ) (P : ℕ → Type 0) → IfSome (pipe_of kind) P → write_pipe kind ≡ Some q → P q
write-named (PipeWrite r) q P h e = let same : r ≡ q = cc in subst P same h
write-named (PipeRead r) q P h e = cc
write-named (File n) q P h e = cc
write-named (Dir n) q P h e = cc
write-named (Device n) q P h e = cc
write-named Input q P h e = cc
write-named (Stream stream) q P h e = cc

-- the end that was looked up: its description names the pipe, and its calls wait or don't
pub record IsEnd (number : DescKind → Option ℕ) (found : Option Desc) (q : ℕ) (nonblock : Bool) : Type 0 where
  pub desc : Desc
  pub is : found ≡ Some desc
  pub pipe : number desc.kind ≡ Some q
  pub waits : desc.nonblock ≡ nonblock

pub end-found : (number : DescKind → Option ℕ) (found : Option Desc) (q : ℕ) (nonblock : Bool) → pipe_end_by number found ≡ Some (q, nonblock) → IsEnd number found q nonblock
end-found number None q nonblock e = cc
end-found number (Some desc) q nonblock e = by_number (number desc.kind) refl e
  where
    by_number : (named : Option ℕ) → number desc.kind ≡ named → option_map {U = ℕ × Bool} (λ r. (r, desc.nonblock)) named ≡ Some (q, nonblock) → IsEnd number (Some desc) q nonblock
    by_number None is e = cc
    by_number (Some r) is e =
        let none : ℕ × Bool = (0, false) in
        let same : r ≡ q = ap (λ found. (unwrap_or found none).0) e in
        let waits : desc.nonblock ≡ nonblock = ap (λ found. (unwrap_or found none).1) e in
        record { desc = desc; is = refl; pipe = is ∙ ap Some same; waits = waits }

pub read-there : (found : Option Desc) (q : ℕ) (nonblock : Bool) (P : ℕ → Type 0) → IfSome found (λ desc. IfSome (pipe_of desc.kind) P) → pipe_end_by read_pipe found ≡ Some (q, nonblock) → P q
read-there found q nonblock P h e =
    let end = end-found read_pipe found q nonblock e in
    read-named end.desc.kind q P (subst (λ found. IfSome found (λ desc. IfSome (pipe_of desc.kind) P)) end.is h) end.pipe

pub write-there : (found : Option Desc) (q : ℕ) (nonblock : Bool) (P : ℕ → Type 0) → IfSome found (λ desc. IfSome (pipe_of desc.kind) P) → pipe_end_by write_pipe found ≡ Some (q, nonblock) → P q
write-there found q nonblock P h e =
    let end = end-found write_pipe found q nonblock e in
    write-named end.desc.kind q P (subst (λ found. IfSome found (λ desc. IfSome (pipe_of desc.kind) P)) end.is h) end.pipe

-- the calls by what was looked up
pub read-by : (h : Holding) (most : ℕ) (found : Option Desc) (q : ℕ) (nonblock : Bool) → pipe_end_by read_pipe found ≡ Some (q, nonblock) → read_by_description h most found ≡ read_of_content h q nonblock most (pipe_content h.pipes q)
read-by h most found q nonblock e =
    let end = end-found read_pipe found q nonblock e in
    ap (read_by_description h most) end.is
    ∙ ap (read_from_pipe h end.desc.nonblock most) end.pipe
    ∙ ap (λ b. read_of_content h q b most (pipe_content h.pipes q)) end.waits

pub held-by : (h : Holding) (found : Option Desc) (q : ℕ) (nonblock : Bool) → pipe_end_by read_pipe found ≡ Some (q, nonblock) → pipe_content_by h found ≡ pipe_content h.pipes q
held-by h found q nonblock e =
    let end = end-found read_pipe found q nonblock e in
    ap (pipe_content_by h) end.is ∙ ap (λ named. unwrap_or (option_map (pipe_content h.pipes) named) []) end.pipe

pub write-by : (h : Holding) (bytes : List ℕ) (count : ℕ) (found : Option Desc) (q : ℕ) (nonblock : Bool) → pipe_end_by write_pipe found ≡ Some (q, nonblock)
    → write_by_description h bytes count found ≡ write_to_pipe h nonblock bytes count (Some q)
write-by h bytes count found q nonblock e =
    let end = end-found write_pipe found q nonblock e in
    ap (write_by_description h bytes count) end.is
    ∙ ap (write_to_pipe h end.desc.nonblock bytes count) end.pipe
    ∙ ap (λ b. write_to_pipe h b bytes count (Some q)) end.waits

-- nobody reads a pipe, or writes to it, exactly where that is noted
pub none-if : (count : ℕ) (noted : Bool) → count ≡ one_if noted → (count == 0) ≡ not noted
none-if count true e = grind (arith, nat_tests)
none-if count false e = grind (arith, nat_tests)

-- what holds of the pipe of an open description
pub pipe-there : (found : Option Desc) (q : ℕ) (P : ℕ → Type 0) → IfSome found (λ desc. IfSome (pipe_of desc.kind) P) → pipe_at found ≡ Some q → P q
pipe-there None q P h e = cc
pipe-there (Some desc) q P h e = by_pipe (pipe_of desc.kind) h e
  where
    by_pipe : (named : Option ℕ) → IfSome named P → named ≡ Some q → P q
    by_pipe None h e = cc
    by_pipe (Some r) h e = let same : r ≡ q = cc in subst P same h

-- what is there after a transfer at a pipe: the same pipes
pub ends-same : (t u : pipes.Table) (host now : PipeContents) (f : Descriptions) → ((r : ℕ) → has_pipe u r ≡ has_pipe t r)
    → AllEnds (record { contents = pipes_of t host; next = t.next }) f → AllEnds (record { contents = pipes_of u now; next = u.next }) f
ends-same t u host now f same h = λ k. by_found (get f.descs k) (h k)
  where
    by_pipe : (named : Option ℕ) → IfSome named (λ q. IsSome (get (pipes_of t host) q)) → IfSome named (λ q. IsSome (get (pipes_of u now) q))
    by_pipe None h = tt
    by_pipe (Some q) h = has-pipes_of u now q ∙ same q ∙ sym (has-pipes_of t host q) ∙ h

    by_found : (found : Option Desc) → IfSome found (λ desc. IfSome (pipe_of desc.kind) (λ q. IsSome (get (pipes_of t host) q))) → IfSome found (λ desc. IfSome (pipe_of desc.kind) (λ q. IsSome (get (pipes_of u now) q)))
    by_found None h = tt
    by_found (Some desc) h = by_pipe (pipe_of desc.kind) h
