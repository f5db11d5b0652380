-- What is live at the start of a host, and after its first calls.
use Rattle.std.proofs.Common.{◌≡◌, ◌≢◌, ℕ, ◌||◌, true, List, [], Option, None, sym, ap, subst, ◌∙◌}
use Rattle.std.specs.Prelude.{MatchOption, Result, Ok, Err, option_and_then, unwrap_or}
use Rattle.std.proofs.lemmas.Cmp.{tied_itself}
use Rattle.std.specs.Ordering.{nat_cmp, is_eq}
use Rattle.std.specs.Cmp.{nat_cmp_total}
use Rattle.std.specs.Cmp.Lexicographic.{slice_cmp}
use Rattle.std.specs.FinMap.{get, empty, get-empty, nat_cmp-IsAntisymmetric}
use Rattle.std.specs.FinSet.{contains, contains-insert}
use Rattle.dt_host.specs.declared.kind.NodeKind.TheVariants.{File}
use Rattle.dt_host.specs.World.{World, Node, file, dir, IsFile, IsDir, IsNameless, IsBare, IsEmptyStart, node_at, entry, names_at, dir_names}
use Rattle.dt_host.specs.Legal.{Binds, Unbinds, Cuts, WritesAll, MadeAt, MadePid, MayGo, NodeMayGo}
use Rattle.dt_host.proofs.Changes.{IsDir-start, IsDir-bound, IsLive-made, node_at-start, root-made}
use Rattle.dt_tables.proofs.Maps.{at_insert}
use Rattle.dt_host.proofs.Worlds.{IsFile-with_bytes, IsFile-with_write}
use Rattle.dt_host.proofs.Gone.{IsDir-without_entry}

-- the root is a directory at the start
pub IsDir-root : (start now : World) (root : ℕ) → IsEmptyStart start → now ≡ start → root ≡ start.forest.root → IsDir now.forest root
IsDir-root start now root empty stays is =
    let still = subst (λ w. IsEmptyStart w) (sym stays) empty in
    let same = is ∙ ap (λ (w : World). w.forest.root) (sym stays) in
    subst (λ d. IsDir now.forest d) (sym same) (IsDir-start now still)

-- a directory stays one when an entry was added to it
pub IsDir-binds : {A E : Type 0} (result : Result A E) (old new : World) (d : ℕ) (name : List ℕ) (n : ℕ) → Binds old d name n result new → IsDir old.forest d → IsDir new.forest d
IsDir-binds (Ok a) old new d name n bound is = subst (λ (w : World). IsDir w.forest d) (sym bound) (IsDir-bound old.forest d name n)
IsDir-binds (Err e) old new d name n stays is = subst (λ (w : World). IsDir w.forest d) (sym stays) is

-- and when one was taken away
pub IsDir-unbinds : {A E : Type 0} (result : Result A E) (old new : World) (d : ℕ) (name : List ℕ) → Unbinds old d name result new → IsDir old.forest d → IsDir new.forest d
IsDir-unbinds (Ok a) old new d name gone is = subst (λ (w : World). IsDir w.forest d) (sym gone) (IsDir-without_entry old.forest d name d is)
IsDir-unbinds (Err e) old new d name stays is = subst (λ (w : World). IsDir w.forest d) (sym stays) is

-- a file stays one when its size changed
pub IsFile-cuts : {A E : Type 0} (result : Result A E) (old new : World) (n len : ℕ) → Cuts old n len result new → IsFile old.forest n → IsFile new.forest n
IsFile-cuts (Ok a) old new n len cut is = subst (λ (w : World). IsFile w.forest n) (sym cut) (IsFile-with_bytes old.forest n _)
IsFile-cuts (Err e) old new n len stays is = subst (λ (w : World). IsFile w.forest n) (sym stays) is

-- and when something was written to it
pub IsFile-writes : {A E : Type 0} (result : Result A E) (old new : World) (n off : ℕ) (bytes : List ℕ) → WritesAll old n off bytes result new → IsFile new.forest n
IsFile-writes (Ok a) old new n off bytes wrote = subst (λ (w : World). IsFile w.forest n) (sym wrote) (IsFile-with_write old n off bytes)
IsFile-writes (Err e) old new n off bytes part = subst (λ (w : World). IsFile w.forest n) (sym part.prefix) (IsFile-with_write old n off _)

-- a file that was made beside nothing but a root
module _ (old new : World) (n : ℕ) (start : IsEmptyStart old) (made : MadeAt old File new n) where
  -- no directory has an entry
  entry-none : (d : ℕ) (name : List ℕ) → entry new.forest d name ≡ None
  unfolding entry names_at
  entry-none d name =
      let Empty = λ (found : Option Node). get (unwrap_or (option_and_then dir_names found) empty) name ≡ None in
      let none = get-empty {X = ℕ} (slice_cmp nat_cmp) name in
      subst (λ (w : World). entry w.forest d name ≡ None) (sym made.made)
      (at_insert nat_cmp_total nat_cmp-IsAntisymmetric Empty old.forest.nodes n (file []) d (λ _. none)
      (λ _. subst (λ (w : World). entry w.forest d name ≡ None) (sym start)
      (at_insert nat_cmp_total nat_cmp-IsAntisymmetric Empty empty old.forest.root (dir empty) d (λ _. none)
      (λ _. subst Empty (sym (get-empty nat_cmp d)) none))))

  IsNameless-made : IsNameless new.forest n
  IsNameless-made d name is = let none = entry-none d name in cc

  IsBare-made : IsBare new.forest n
  IsBare-made = entry-none n

  not_root-made : n ≢ new.forest.root
  not_root-made is =
      let there = ap (node_at old.forest) (is ∙ root-made (file []) old new n made.free made.made) ∙ node_at-start old start in
      let free = made.free in cc

  -- and so it may go
  pub MayGo-file : MayGo new n
  MayGo-file =
      let none = ap (λ (w : World). get w.pipes n) made.made ∙ made.no_pipe in
      subst (λ found. MatchOption found (NodeMayGo new.forest n) (λ _. Unit {0})) (sym none)
      (record { live = IsLive-made (file []) old new n made.free made.made; nameless = IsNameless-made; not_root = not_root-made; bare = IsBare-made })

-- a pid that was made is live
pub live-pid : (old new : World) (p : ℕ) → MadePid old new p → contains new.pids p ≡ true
live-pid old new p made =
    ap (λ (w : World). contains w.pids p) made.made
    ∙ contains-insert nat_cmp_total old.pids p p
    ∙ ap (λ same. is_eq same || contains old.pids p) (tied_itself nat_cmp_total p)
