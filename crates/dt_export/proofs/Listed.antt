-- The steps of a file, by its name and its size.
use Rattle.std.proofs.Common.{◌≡◌, ℕ, ◌<◌, true, List, length, Option, Some, None, subst, arith}
use Rattle.std.specs.Prelude.{option_and_then, option_map, IfSome}
use Rattle.std.specs.FinMap.{get}
use Rattle.dt_base.specs.Command.{Words}
use Rattle.dt_base.specs.declared.limits.TheConstants.{INDEX_LIMIT}
use Rattle.dt_host.specs.Store.{StoreFiles, size_of}
use Rattle.dt_image.specs.Index.{is_blob_name}
use Rattle.dt_image.specs.ImageOf.{name_below}
use Rattle.dt_image.proofs.Images.{value_of_long}
use Rattle.dt_export.specs.Steps.{steps_of, steps_at}

pub at_name : (told : Option StoreFiles) (name folder file : List ℕ) (R : Option (List Words) → Type 0) → is_blob_name file ≡ true → name ≡ name_below folder file
    → IfSome told (λ files. R (option_and_then steps_of (get files name))) → IfSome told (λ files. R (steps_at files folder file))
at_name None name folder file R good is h = tt
at_name (Some files) name folder file R good is h = rw good (subst (λ n. R (option_and_then steps_of (get files n))) is h)

long_file : (found : Option (List ℕ)) (size : ℕ) → Some size ≡ option_map length found → INDEX_LIMIT < size → None ≡ option_and_then steps_of found
unfolding steps_of
long_file None size e long = absurd (cc)
long_file (Some bytes) size e long = let same : size ≡ length bytes = cc in rw (value_of_long bytes (omega arith))

pub too_long : (told : Option StoreFiles) (name : List ℕ) (size : ℕ) → IfSome told (λ files. Some size ≡ size_of files name) → INDEX_LIMIT < size
    → IfSome told (λ files. None ≡ option_and_then steps_of (get files name))
too_long None name size h long = tt
too_long (Some files) name size h long = long_file (get files name) size h long
