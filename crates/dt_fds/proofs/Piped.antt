-- A transfer at a pipe leaves the descriptions and the tree.
use Rattle.std.proofs.Common.{arith, ◌≡◌, ℕ, zero, suc, ◌≤◌, ◌==◌, false, ◌++◌, ◌∷◌, List, [], length, take, drop, refl, sym, ap, subst, ◌∙◌}
use Rattle.std.specs.Prelude.{IfOk, Result, Ok, Err, min}
use Rattle.std.proofs.lemmas.Bool.Decides.{nat_tests}
use Rattle.std.proofs.lemmas.List.{take_min, length-take}
use Rattle.dt_host.specs.World.{World}
use Rattle.dt_tree.specs.FileTree.{FileTree, holds_of}
use Rattle.dt_tree.specs.Table.{Table, Stands, tree_of}
use Rattle.dt_pipes.specs.Table as pipes
use Rattle.dt_pipes.specs.Table.{has_pipe}
use Rattle.dt_pipes.specs.Changes.{OnlyPipes}
use Rattle.dt_fds.specs.declared.files.Files.{Files}
use Rattle.dt_fds.specs.OpenFiles.{pipes_at}
use Rattle.dt_base.proofs.Lists.{none-taken}
use Rattle.dt_base.specs.declared.errno.Errno.{Errno}
use Rattle.dt_host.specs.declared.error.CallErr.{CallErr}
use Rattle.dt_tree.specs.Calls.{UnlessFailed}
use Rattle.dt_fds.specs.inner.Ends.{as_call}
use Rattle.dt_fds.specs.Holding.{Holding, FilesAnswer, holding_of}
use Rattle.dt_fds.specs.Backs.{IsBacked, AllIn, KeepsOthers, IsFilesAnswer, HasFailed, descriptions_of, at, holding_at}
use Rattle.dt_fds.proofs.Backing.{KeepsNodes-same, others-kept}
use Rattle.dt_fds.proofs.Ending.{ends-same}

-- with another table of the same pipes
abbrev pub with_pipes : Files → pipes.Table → Files
with_pipes f t = record f { pipes = t }

module _ (f : Files) (t : pipes.Table) (w v : World) (table : Table) (backed : IsBacked (at f table w)) (stands : pipes.Stands t v.pipes) (same : (r : ℕ) → has_pipe t r ≡ has_pipe f.pipes r) (rest : OnlyPipes w v) where
  pub backed-piped : IsBacked (at (with_pipes f t) table v)
  backed-piped = record {
    stands = subst (Stands table) (sym rest.forest) backed.stands;
    pipes = stands;
    ends = backed.ends;
    backs = record {
      enough = λ n. subst (λ (u : FileTree). descriptions_of f.descriptors n ≤ holds_of u n) (ap (tree_of table) (sym rest.forest)) (backed.backs.enough n);
      is_in = subst (λ (u : FileTree). AllIn u.shape f.descriptors) (ap (tree_of table) (sym rest.forest)) backed.backs.is_in;
      ends = ends-same f.pipes t w.pipes v.pipes f.descriptors same backed.backs.ends;
    };
  }

  pub others-piped : (p : ℕ) → KeepsOthers p (holding_at (at f table w)) (holding_at (at (with_pipes f t) table v))
  others-piped p =
      subst (λ (u : FileTree). KeepsOthers p (holding_at (at f table w)) (holding_of u (pipes_at (with_pipes f t) v.pipes) f.descriptors)) (ap (tree_of table) (sym rest.forest))
      (others-kept p f.descriptors f.descriptors (tree_of table w.forest) (KeepsNodes-same p f.descriptors))

  pub does-piped : {A : Type 0} (result : Result A CallErr) (defined : FilesAnswer A) → IsFilesAnswer result (holding_of (tree_of table w.forest) (pipes_at (with_pipes f t) v.pipes) f.descriptors) defined
      → IsFilesAnswer result (holding_at (at (with_pipes f t) table v)) defined
  does-piped result defined = subst (λ forest. IsFilesAnswer result (holding_of (tree_of table forest) (pipes_at (with_pipes f t) v.pipes) f.descriptors) defined) (sym rest.forest)

-- what is said of no answer in particular
pub if_ok : {A E P : Type 0} (r : Result A E) → P → IfOk r (λ _. P)
if_ok (Ok value) p = p
if_ok (Err error) p = tt

-- where nothing came the buffer stays
pub nothing-came : (most : ℕ) (bytes buffer : List ℕ) → length bytes ≡ 0 → buffer ≡ take most bytes ++ drop (length (take most bytes)) buffer
nothing-came most [] buffer none = ap (λ (xs : List ℕ). xs ++ drop (length xs) buffer) (sym (none-taken most))
nothing-came most (b ∷ bytes) buffer none = absurd (omega (arith, none))

-- what came of a pipe
pub came : (most count : ℕ) (bytes before after : List ℕ) → count ≡ min most (length bytes) → after ≡ take count bytes ++ drop count before → after ≡ take most bytes ++ drop (length (take most bytes)) before
came most count bytes before after is read =
    let cut : take count bytes ≡ take most bytes = ap (λ n. take n bytes) is ∙ take_min most bytes in
    let size : count ≡ length (take most bytes) = is ∙ sym (length-take most bytes) in
    read ∙ ap (λ xs. xs ++ drop count before) cut ∙ ap (λ n. take most bytes ++ drop n before) size

-- a number that is not 0
pub no_zero : (n : ℕ) → (n ≡ 0 → ⊥) → (n == 0) ≡ false
no_zero zero h = absurd (h refl)
no_zero (suc n) h = grind (arith, nat_tests)

-- a call that answers as it is defined, by an answer that came from that
pub does-as : {A : Type 0} (answer : Result A Errno) (result : Result A CallErr) (new : Holding) (defined : FilesAnswer A) → result ≡ as_call answer → defined ≡ record { answer = answer; next = new } → IsFilesAnswer result new defined
does-as (Ok value) result new defined e is = subst (λ r. IsFilesAnswer r new defined) (sym e) is
does-as (Err errno) result new defined e is = subst (λ r. IsFilesAnswer r new defined) (sym e) is

pub unless-as : {A : Type 0} (answer : Result A Errno) (result : Result A CallErr) (P : Type 0) → result ≡ as_call answer → P → UnlessFailed result P
unless-as (Ok value) result P e p = subst (λ r. UnlessFailed r P) (sym e) p
unless-as (Err errno) result P e p = subst (λ r. UnlessFailed r P) (sym e) p

pub never-as : {A : Type 0} (answer : Result A Errno) (result : Result A CallErr) → result ≡ as_call answer → HasFailed result → ⊥
never-as (Ok value) result e failed = subst HasFailed e failed
never-as (Err errno) result e failed = subst HasFailed e failed
