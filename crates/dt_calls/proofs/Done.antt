-- What a call that is done leaves, by its parts.
use Rattle.std.proofs.Common.{◌≡◌, ◌&&◌, ℕ, not, cond, Bool, true, false, List, [], Option, refl, sym, ap, ◌∙◌}
use Rattle.dt_base.specs.declared.abi.TheConstants.{A0}
use Rattle.dt_base.specs.declared.errno.Errno.TheVariants.{Fault as BadAddress}
use Rattle.dt_base.specs.declared.event.End.{End}
use Rattle.dt_base.specs.declared.event.Event.{Event}
use Rattle.dt_procs.specs.Members.{is_full, without_member}
use Rattle.dt_rv64.specs.declared.machine.Machine.{Machine}
use Rattle.dt_rv64.specs.Effects.{register}
use Rattle.dt_space.specs.Argument.{is_writable_or_null, with_bytes_unless_null}
use Rattle.dt_calls.specs.declared.call.effect.Effect.{Effect as EffectInCode}
use Rattle.dt_calls.specs.declared.container.Served.{Served}
use Rattle.dt_calls.specs.declared.numbers.TheConstants.{RUSAGE_SIZE}
use Rattle.dt_calls.specs.Container.{Shared}
use Rattle.dt_calls.specs.Effect.{Effect, quiet_effect, done_effect, refused_effect}
use Rattle.dt_calls.specs.InCode.{effect_as}
use Rattle.dt_calls.specs.Clone.{is_supported, clone_effect, clone_call}
use Rattle.dt_calls.specs.Wait.{status_bytes, usage_bytes, reap_effect}

-- what serving a stop did, by its parts
pub effect-is : (c d : Shared) (m n : Machine) (child : Option Machine) (served : Served) (e : EffectInCode) → c ≡ d → m ≡ n → e.child ≡ child → e.events.items ≡ [] → e.served ≡ served → record (quiet_effect c m served) { child = child } ≡ effect_as d n e
effect-is c d m n child served e shared machine made shown is =
    ap (λ (c : Shared). record (quiet_effect c m served) { child = child }) shared
    ∙ (ap (λ (m : Machine). record (quiet_effect d m served) { child = child }) machine
    ∙ (ap (λ (child : Option Machine). record (quiet_effect d n served) { child = child }) (sym made)
    ∙ (ap (λ (events : List Event). record (quiet_effect d n served) { child = e.child; events = events }) (sym shown)
    ∙ ap (λ (served : Served). record (quiet_effect d n served) { child = e.child; events = e.events.items }) (sym is))))

pick : (a b : Bool) (x y z : Effect) → a ≡ true → b ≡ false → cond (not a) x (cond b y z) ≡ z
pick true false x y z p q = refl
pick true true x y z p q = absurd (let e : true ≡ false = q in cc)
pick false b x y z p q = absurd (let e : false ≡ true = p in cc)

-- a child is made where its flags are supported and there is room
pub clone_call-made : (c : Shared) (next p : ℕ) (m : Machine) → is_supported (register m A0) ≡ true → is_full c.members ≡ false → clone_call c next p m ≡ clone_effect c next p m
unfolding clone_call
clone_call-made c next p m supported room = pick (is_supported (register m A0)) (is_full c.members) _ _ (clone_effect c next p m) supported room

-- a zombie is reaped where its status and the use of resources can be written
pub reaps-done : (c : Shared) (m : Machine) (status usage vpid : ℕ) (end : End) → (is_writable_or_null m.space status 4 && is_writable_or_null m.space usage RUSAGE_SIZE) ≡ true → reap_effect c m status usage vpid end ≡ done_effect (record c { members = without_member c.members vpid }) (record m { space = with_bytes_unless_null (with_bytes_unless_null m.space status (status_bytes end)) usage usage_bytes }) vpid
reaps-done c m status usage vpid end is =
    ap (λ b. cond b (done_effect (record c { members = without_member c.members vpid }) (record m { space = with_bytes_unless_null (with_bytes_unless_null m.space status (status_bytes end)) usage usage_bytes }) vpid) (refused_effect c m BadAddress)) is
