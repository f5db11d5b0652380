-- What images of the first version have.
use Rattle.std.proofs.Common.{◌≡◌, ℕ, List, Bool, true, false, cond, Option, None, Some, refl, ◌&&◌}
use Rattle.std.specs.Prelude.{IfSome, codes, option_and_then}
use Rattle.std.specs.Fmt.{digits}
use Rattle.std.specs.Str.{bytes_eq}
use Rattle.serde_json.specs.Data.{Data}
use Rattle.dt_base.specs.declared.profile.TheConstants.{FIRST_VERSION}
use Rattle.dt_base.specs.Profile.{has_devices}
use Rattle.dt_image.specs.Index.{Source, mode_of, text_at, file_of, dir_of, link_of, dev_of, source_of}
use Rattle.dt_image.specs.Report.{header}
use Rattle.dt_runlaws.specs.Version.{makes_device, FirstVersionIs}

-- nothing that may be there is made from a device
pub record NoDevice (found : Option Source) : Type 0 where
  pub no : IfSome found (λ s. makes_device s ≡ false)

either : (b : Bool) (x y : Option Source) → NoDevice x → NoDevice y → NoDevice (cond b x y)
either true x y first second = first
either false x y first second = second

then-no : {A : Type 0} (found : Option A) (next : A → Option Source) → ((a : A) → NoDevice (next a)) → NoDevice (option_and_then next found)
then-no None next none = record { no = tt }
then-no (Some a) next none = none a

file-no : (value : Data) → NoDevice (file_of value)
unfolding file_of
file-no value = then-no (mode_of value) _ (λ mode. then-no (text_at (codes "blob") value) _ (λ blob. record { no = refl }))

dir-no : (value : Data) → NoDevice (dir_of value)
unfolding dir_of
dir-no value = then-no (mode_of value) _ (λ mode. record { no = refl })

link-no : (value : Data) → NoDevice (link_of value)
unfolding link_of
link-no value = then-no (text_at (codes "target") value) _ (λ target. record { no = refl })

dev-no : (b : Bool) (value : Data) → NoDevice (cond (b && has_devices FIRST_VERSION) (dev_of value) None)
dev-no true value = record { no = tt }
dev-no false value = record { no = tt }

entries-no : (kind : List ℕ) (value : Data) → NoDevice (source_of FIRST_VERSION kind value)
entries-no kind value =
    either (bytes_eq kind (codes "file")) _ _ (file-no value) (either (bytes_eq kind (codes "dir")) _ _ (dir-no value)
    (either (bytes_eq kind (codes "link")) _ _ (link-no value) (dev-no (bytes_eq kind (codes "dev")) value)))

first-line : header FIRST_VERSION ≡ codes "dettrace 1\n"
unfolding digits
first-line = refl

pub first-version : FirstVersionIs
first-version = record {
  files = refl;
  devices = refl;
  atomics = refl;
  header = first-line;
  entries = λ kind value. let none = entries-no kind value in none.no;
  input = λ files folder. refl;
}
