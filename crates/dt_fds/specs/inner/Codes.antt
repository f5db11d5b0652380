-- The codes by which descriptions may stand in a model.
use Rattle.std.specs.Prelude.{◌≡◌, ℕ, ◌==◌, cond, Bool, List, Option, refl}
use Rattle.std.proofs.Common.{◌⊎◌, inl, inr}
use Rattle.std.specs.Coded.{Coded, code_by, coded×, coded⊎, coded_ℕ, coded_bool, coded_list, coded_option}
use Rattle.std.specs.Ordering.{nat_cmp}
use Rattle.std.specs.FinMap.{FinMap, code}
use Rattle.dt_fds.specs.declared.desc.Desc.{Desc}
use Rattle.dt_fds.specs.declared.desc.DescKind.{DescKind}
use Rattle.dt_fds.specs.declared.desc.DescKind.TheVariants.{File, Dir, Device, PipeRead, PipeWrite, Input, Stream}
use Rattle.dt_fds.specs.declared.desc.Spot.{Spot}
use Rattle.dt_fds.specs.declared.desc.Spot.TheVariants.{At, After}
use Rattle.dt_fds.specs.declared.desc.Slot.{Slot}
use Rattle.dt_fds.specs.Descriptions.{Table, Descriptions}
use Rattle.dt_fds.specs.declared.ends.Ends.{Ends}

abbrev pub kind_pair : DescKind → ℕ × ℕ
kind_pair (File n) = (0, n)
kind_pair (Dir n) = (1, n)
kind_pair (Device n) = (6, n)
kind_pair Input = (2, 0)
kind_pair (Stream s) = (3, s)
kind_pair (PipeRead q) = (4, q)
kind_pair (PipeWrite q) = (5, q)

abbrev pub pair_kind : ℕ × ℕ → DescKind
pair_kind p = cond (p.0 == 0) (File p.1) (cond (p.0 == 1) (Dir p.1) (cond (p.0 == 2) Input (cond (p.0 == 3) (Stream p.1) (cond (p.0 == 4) (PipeRead p.1) (cond (p.0 == 5) (PipeWrite p.1) (Device p.1))))))

pub pair_kind-pair : (k : DescKind) → pair_kind (kind_pair k) ≡ k
pair_kind-pair (File n) = refl
pair_kind-pair (Dir n) = refl
pair_kind-pair (Device n) = refl
pair_kind-pair Input = refl
pair_kind-pair (Stream s) = refl
pair_kind-pair (PipeRead q) = refl
pair_kind-pair (PipeWrite q) = refl

abbrev pub kind_code : Coded DescKind
kind_code = code_by (ℕ × ℕ) (coded× coded_ℕ coded_ℕ) kind_pair pair_kind pair_kind-pair

abbrev pub spot_sum : Spot → ℕ ⊎ Option (List ℕ)
spot_sum (At n) = inl n
spot_sum (After name) = inr name

abbrev pub sum_spot : ℕ ⊎ Option (List ℕ) → Spot
sum_spot (inl n) = At n
sum_spot (inr name) = After name

pub sum_spot-sum : (s : Spot) → sum_spot (spot_sum s) ≡ s
sum_spot-sum (At n) = refl
sum_spot-sum (After name) = refl

abbrev pub spot_code : Coded Spot
spot_code = code_by (ℕ ⊎ Option (List ℕ)) (coded⊎ coded_ℕ (coded_option (coded_list coded_ℕ))) spot_sum sum_spot sum_spot-sum

abbrev pub desc_code : Coded Desc
desc_code =
    code_by (DescKind × (Spot × (ℕ × (Bool × Bool)))) (coded× kind_code (coded× spot_code (coded× coded_ℕ (coded× coded_bool coded_bool))))
    (λ d. (d.kind, (d.spot, (d.access, (d.append, d.nonblock)))))
    (λ p. record { kind = p.0; spot = p.1.0; access = p.1.1.0; append = p.1.1.1.0; nonblock = p.1.1.1.1 }) (λ _. refl)

abbrev pub slot_code : Coded Slot
slot_code = code_by (ℕ × Bool) (coded× coded_ℕ coded_bool) (λ s. (s.number, s.cloexec)) (λ p. record { number = p.0; cloexec = p.1 }) (λ _. refl)

abbrev pub descriptions_code : Coded Descriptions
descriptions_code =
    code_by (FinMap nat_cmp Desc × (FinMap nat_cmp Table × ℕ)) (coded× (code coded_ℕ desc_code) (coded× (code coded_ℕ (coded_list (coded_option slot_code))) coded_ℕ))
    (λ f. (f.descs, (f.tables, f.next))) (λ p. record { descs = p.0; tables = p.1.0; next = p.1.1 }) (λ _. refl)

abbrev pub ends_code : Coded Ends
ends_code = code_by (Bool × Bool) (coded× coded_bool coded_bool) (λ e. (e.read, e.write)) (λ p. record { read = p.0; write = p.1 }) (λ _. refl)
