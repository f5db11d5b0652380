-- What an open descriptor refers to is in the tree, by the words that functions name.
use Rattle.std.proofs.Common.{◌≡◌, ℕ, Some, subst}
use Rattle.dt_host.specs.World.{Forest, IsLive}
use Rattle.dt_fds.specs.declared.desc.Desc.{Desc}
use Rattle.dt_fds.specs.declared.desc.DescKind.TheVariants.{Device}
use Rattle.dt_fds.specs.Descriptions.{Descriptions, description_at}
use Rattle.dt_fds.specs.Backs.{IsIn, AllIn}
use Rattle.dt_fds.proofs.Backing.{live-in}
use Rattle.dt_callbase.proofs.Described.{described_in, described_file, described_dir, file_live, dir_live}

pub device_live : (v : Forest) (f : Descriptions) (p fd : ℕ) (desc : Desc) (n : ℕ) → AllIn v f → Some desc ≡ description_at f p fd → desc.kind ≡ Device n → IsLive v n
device_live v f p fd desc n all is kind = live-in v (Device n) (subst (IsIn v) kind (described_in v f p fd desc all is))

pub ruleset is_there = (described_file, described_dir, file_live, dir_live, device_live)
