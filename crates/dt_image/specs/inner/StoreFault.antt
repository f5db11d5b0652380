-- Inner words: no public clause cites these. How a store's failure shows in reading an image.
use Rattle.dt_base.specs.declared.refusal.ImageErr.{ImageErr}
use Rattle.dt_base.specs.declared.refusal.ImageErr.TheVariants.{Store, NoMemory}
use Rattle.dt_host.specs.declared.error.StoreErr.{StoreErr}
use Rattle.dt_host.specs.declared.error.StoreErr.TheVariants as store

-- the error that a store's error shows as
abbrev pub image_err : StoreErr → ImageErr
image_err store.Failed = Store
image_err store.NoMemory = NoMemory
