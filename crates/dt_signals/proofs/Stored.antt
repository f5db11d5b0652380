-- A store leaves a space a space.
use Rattle.std.proofs.Common.{◌≡◌, ℕ, List, Result, Ok, Err, subst, sym}
use Rattle.std.specs.Result.{OnErr}
use Rattle.dt_space.specs.declared.access.Miss.{Miss}
use Rattle.dt_space.specs.declared.access.WriteErr.{WriteErr}
use Rattle.dt_space.specs.Space.{PageView, IsBytes, IsSpace}
use Rattle.dt_space.specs.Write.{pages_after_write, pages_if_allowed, pages_after_store, IsStoreResult}
use Rattle.dt_space.proofs.Spaces.{IsSpace-write}

where_allowed-space : (r : Result (List ℕ) Miss) (pages new : List PageView) → pages_if_allowed r pages ≡ Ok new → IsSpace pages → IsSpace new
where_allowed-space (Ok bytes) pages new is sound = let same : pages ≡ new = cc in subst IsSpace same sound
where_allowed-space (Err miss) pages new is sound = absurd cc

pub stored-space : (pages new : List PageView) (address : ℕ) (bytes : List ℕ) → IsBytes bytes → IsSpace pages → pages_after_store pages address bytes ≡ Ok new → IsSpace new
stored-space pages new address bytes fit sound is = where_allowed-space _ (pages_after_write pages address bytes) new is (IsSpace-write bytes pages address fit sound)

pub Stores-space : {X : Type 0} (pages new : List PageView) (address : ℕ) (bytes : List ℕ) (result : Result X WriteErr) → IsBytes bytes → IsSpace pages → IsStoreResult pages address bytes new result → OnErr result (new ≡ pages) → IsSpace new
Stores-space pages new address bytes (Ok x) fit sound is kept = stored-space pages new address bytes fit sound is
Stores-space pages new address bytes (Err error) fit sound is kept = subst IsSpace (sym kept) sound
