-- A process that is gone has no table.
use Rattle.std.proofs.Common.{◌≡◌, ℕ, None}
use Rattle.std.specs.Cmp.{nat_cmp_total}
use Rattle.std.specs.FinMap.{get, nat_cmp-IsAntisymmetric}
use Rattle.dt_tables.proofs.Maps.{get-remove_same}
use Rattle.dt_fds.specs.declared.desc.TheConstants.{DESCRIPTOR_LIMIT}
use Rattle.dt_fds.specs.Holding.{Holding, without_descriptors_below, without_process}

-- a process that is gone has none
pub none-dropped : (p : ℕ) (h : Holding) → (let left = without_process p h in get left.files.tables p ≡ None)
unfolding without_process
none-dropped p h = let left = without_descriptors_below p DESCRIPTOR_LIMIT h in get-remove_same nat_cmp_total nat_cmp-IsAntisymmetric left.files.tables p
