-- A run in play before its first turn.
use Rattle.std.proofs.Common.{◌≡◌, ℕ, ◌<◌, [], Result, Ok, Err, refl, sym, ap, subst, ◌∙◌, arith}
use Rattle.std.specs.Prelude.{IsSome, option_map}
use Rattle.std.specs.Cmp.{nat_cmp_total}
use Rattle.std.specs.FinMap.{get, insert, nat_cmp-IsAntisymmetric}
use Rattle.dt_base.specs.Profile.{has_atomics}
use Rattle.dt_base.specs.declared.errno.Errno.{Errno}
use Rattle.dt_base.specs.Image.{ImageParts}
use Rattle.dt_base.specs.declared.limits.TheConstants.{FIRST_PID}
use Rattle.dt_base.specs.Command.{Words}
use Rattle.dt_tables.proofs.Maps.{get-insert_same}
use Rattle.dt_tables.proofs.Valued.{get-map_values}
use Rattle.dt_tree.specs.ImageTree.{image_tree}
use Rattle.dt_exec.specs.declared.program.Program.{Program}
use Rattle.dt_exec.specs.Program.{start_program}
use Rattle.dt_virt.specs.Words.{start_bytes}
use Rattle.dt_calls.specs.Container.{Container, first_container}
use Rattle.dt_calls.specs.Launch.{launch_of_program, launch, with_input}
use Rattle.dt_engine.specs.Work.{owing_work}
use Rattle.dt_engine.specs.Ahead.{state_with_works}
use Rattle.dt_engine.specs.Playing.{Playing, playing_from, first_playing, rest_of}
use Rattle.dt_engine.specs.Run.{after_events}
use Rattle.dt_engine.proofs.Returns.{rest-at-first}
use Rattle.dt_runlaws.specs.Shown.{AreLent}
use Rattle.dt_runlaws.specs.Carried.{BeginShows}

-- a process has its work where its machine is at home
first-there : (c : Container) (program : Program) → (let l = launch_of_program c (Ok program) in
    let e = playing_from 0 l.container l.launch in IsSome (get e.state.works FIRST_PID))
first-there c program =
    subst IsSome
    (sym (get-map_values nat_cmp_total owing_work (insert c.machines FIRST_PID program.machine) FIRST_PID
    ∙ ap (option_map owing_work) (get-insert_same nat_cmp_total nat_cmp-IsAntisymmetric c.machines FIRST_PID program.machine)))
    refl

begun-lent : (budget : ℕ) (c : Container) (program : Result Program Errno) → FIRST_PID < c.next
    → (let l = launch_of_program c program in AreLent (playing_from budget l.container l.launch) [])
unfolding state_with_works
begun-lent budget c (Ok program) less = record {
  once = tt;
  away = record { given = λ q some. cc; apart = λ q some. cc };
  live = λ none q some. cc;
  full = (first-there c program, tt);
  ordered = record { once = (tt, tt); given = (less, tt) };
}
begun-lent budget c (Err errno) less = record {
  once = tt;
  away = record { given = λ q some. cc; apart = λ q some. cc };
  live = λ none q some. cc;
  full = tt;
  ordered = record { once = tt; given = tt };
}

first-lent : (image : ImageParts) (words : Words) (seed budget : ℕ) → AreLent (first_playing image words seed budget) []
unfolding first_playing launch
first-lent image words seed budget =
    let c = first_container (image_tree image) seed in
    begun-lent budget (record c { shared = with_input words.input c.shared })
    (start_program c.shared.tree.shape words (start_bytes c.shared.rand) (has_atomics c.shared.tree.version)) (omega arith)

-- with no work away as much is left
none-left : (e : Playing) → rest_of (state_with_works [] e.state) e.verdict ≡ rest_of e.state e.verdict
unfolding state_with_works
none-left e = refl

pub begin-shows : BeginShows
begin-shows image words seed budget =
    let e = first_playing image words seed budget in
    record {
      whole = sym (rest-at-first image words seed budget) ∙ ap (after_events []) (sym (none-left e));
      machines = first-lent image words seed budget;
    }
