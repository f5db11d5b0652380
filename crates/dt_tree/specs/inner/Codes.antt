-- Inner words: no public clause cites these. The codes by which a table may stand in a model.
use Rattle.std.specs.Prelude.{◌≡◌, ◌==◌, ◌+◌, ◌-◌, cond, ℕ, Option, refl}
use Rattle.std.specs.Coded.{Coded, code_by, coded×, coded_ℕ, coded_option}
use Rattle.std.specs.Ordering.{nat_cmp}
use Rattle.std.specs.FinMap.{FinMap, code}
use Rattle.dt_base.specs.declared.image.Device.TheVariants.{Null, Zero, Random}
use Rattle.dt_host.specs.inner.Codes.{device_number, device_of}
use Rattle.dt_tree.specs.declared.inode.Kind.{Kind}
use Rattle.dt_tree.specs.declared.inode.Kind.TheVariants.{File, Dir, Link, Device}
use Rattle.dt_tree.specs.declared.inode.Inode.{Inode}
use Rattle.dt_tree.specs.Table.{Table}

abbrev pub kind_number : Kind → ℕ
kind_number File = 0
kind_number Dir = 1
kind_number Link = 2
kind_number (Device which) = 3 + device_number which

abbrev pub kind_of_number : ℕ → Kind
kind_of_number n = cond (n == 0) File (cond (n == 1) Dir (cond (n == 2) Link (Device (device_of (n - 3)))))

-- the kind of a kind's number
pub kind_of_number-kind_number : (kind : Kind) → kind_of_number (kind_number kind) ≡ kind
kind_of_number-kind_number File = refl
kind_of_number-kind_number Dir = refl
kind_of_number-kind_number Link = refl
kind_of_number-kind_number (Device Null) = refl
kind_of_number-kind_number (Device Zero) = refl
kind_of_number-kind_number (Device Random) = refl

abbrev pub kind_code : Coded Kind
kind_code = code_by ℕ coded_ℕ kind_number kind_of_number kind_of_number-kind_number

-- what is kept of a node
abbrev pub inode_code : Coded Inode
inode_code =
    code_by (ℕ × (ℕ × (ℕ × (ℕ × (Kind × (ℕ × Option ℕ)))))) (coded× coded_ℕ (coded× coded_ℕ (coded× coded_ℕ (coded× coded_ℕ (coded× kind_code (coded× coded_ℕ (coded_option coded_ℕ)))))))
    (λ l. (l.real, (l.mode, (l.stamp, (l.holds, (l.kind, (l.names, l.up)))))))
    (λ p. record { real = p.0; mode = p.1.0; stamp = p.1.1.0; holds = p.1.1.1.0; kind = p.1.1.1.1.0; names = p.1.1.1.1.1.0; up = p.1.1.1.1.1.1 })
    (λ _. refl)

abbrev pub table_code : Coded Table
table_code =
    code_by (FinMap nat_cmp Inode × (FinMap nat_cmp ℕ × (ℕ × (ℕ × ℕ)))) (coded× (code coded_ℕ inode_code) (coded× (code coded_ℕ coded_ℕ) (coded× coded_ℕ (coded× coded_ℕ coded_ℕ))))
    (λ t. (t.inodes, (t.by_real, (t.next, (t.names, t.version))))) (λ p. record { inodes = p.0; by_real = p.1.0; next = p.1.1.0; names = p.1.1.1.0; version = p.1.1.1.1 }) (λ _. refl)
