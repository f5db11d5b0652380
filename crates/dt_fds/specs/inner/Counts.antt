-- What is kept of descriptions beside them, for speed.
use Rattle.std.specs.Prelude.{◌≡◌, ℕ, ◌<◌, length, is_some, IfSome, IsSome, unwrap_or}
use Rattle.std.specs.List.{sum_by}
use Rattle.std.specs.Ordering.{nat_cmp}
use Rattle.std.specs.FinMap.{FinMap, get}
use Rattle.dt_tables.specs.Total.{total}
use Rattle.dt_fds.specs.declared.desc.TheConstants.{DESCRIPTOR_LIMIT}
use Rattle.dt_fds.specs.declared.desc.Desc.{Desc}
use Rattle.dt_fds.specs.Descriptions.{Table, slot_references, IsDesc}

-- a description is open exactly while a descriptor refers to it, and its count is how many do; each is a good one; the numbers
-- from the next one on are free; and each table is full length
pub record Counts (descs : FinMap nat_cmp Desc) (counts : FinMap nat_cmp ℕ) (tables : FinMap nat_cmp Table) (next : ℕ) : Type 0 where
  pub counted : (k : ℕ) → unwrap_or (get counts k) 0 ≡ total (sum_by (slot_references k)) tables
  pub alive : (k : ℕ) → IfSome (get counts k) (λ count. 0 < count)
  pub same : (k : ℕ) → is_some (get counts k) ≡ is_some (get descs k)
  pub good : (k : ℕ) → IfSome (get descs k) IsDesc
  pub fresh : (k : ℕ) → IsSome (get descs k) → k < next
  pub sized : (p : ℕ) → IfSome (get tables p) (λ table. length table ≡ DESCRIPTOR_LIMIT)
