use Rattle.std.proofs.Common.{◌≡◌, ℕ, List, Bor, Vec, Global, map, rules, sym, ap, subst, ◌∙◌}
use Rattle.std.specs.List.Sorted.{IsPermutation}
use Rattle.std.specs.FinMap.{entries}
use Rattle.std.specs.Map.Iter.{deref_pair}
use Rattle.std.proofs.lemmas.Map.Iter.{iter_end}
use Rattle.std.proofs.lemmas.Simd.{map-map}
use Rattle.dt_host.specs.declared.entry.HostEntry.{HostEntry}
use Rattle.dt_host.specs.Legal.{pair_of}
use Rattle.dt_memhost.specs.inner.Dir.{order_of, names_of}
use Rattle.dt_memhost.proofs.Named.{alike_pushed, each_entry}
use Rattle.dt_memhost.proofs.dir.Entries.list.Goals as goal

-- what was found is what the map showed
in_order : (found : List HostEntry) (shown : List (Bor (Vec ℕ Global) × Bor ℕ)) (es : List (Vec ℕ Global × ℕ)) → map pair_of found ≡ map (λ p. (p.0.now.items, p.1.now)) shown → map deref_pair shown ≡ es → map pair_of found ≡ order_of es
in_order found shown es alike whole =
    alike
    ∙ sym (map-map (λ (e : Vec ℕ Global × ℕ). (e.0.items, e.1)) deref_pair shown)
    ∙ ap order_of whole

pub loop-name-init : goal.loop-name-init
loop-name-init c = ap (map pair_of) c.in_ok-found.ensures.items

pub loop-name-preserved : goal.loop-name-preserved
loop-name-preserved c =
    ap (map pair_of) c.in_ok-push.ensures.items
    ∙ alike_pushed pair_of (λ (p : Bor (Vec ℕ Global) × Bor ℕ). (p.0.now.items, p.1.now)) c.loop-name.found.items c.loop-name.yielded _ (c.in-Some.name, c.in-Some.number) c.loop-name.invariant
    (ap (λ name. (name, c.in-Some.number.now)) (c.new-name.ensures ∙ c.in_ok-from_slice.ensures.items ∙ c.deref.ensures.value))

pub returns-clause-order : goal.returns-clause-order
returns-clause-order c =
    let whole : map deref_pair c.loop-name.yielded ≡ c.self.inside.names.entries = search (rules, iter_end) in
    rw (← c.self.view_is) (in_order c.loop-name.found.items c.loop-name.yielded c.self.inside.names.entries c.loop-name.invariant whole)

pub returns-clause-each : goal.returns-clause-each
returns-clause-each c =
    let es = c.self.inside.names.entries in
    let whole : map deref_pair c.loop-name.yielded ≡ es = search (rules, iter_end) in
    let same = in_order c.loop-name.found.items c.loop-name.yielded es c.loop-name.invariant whole in
    rw (← c.self.view_is) (subst (λ order. IsPermutation (entries (names_of (order_of es))) order) (sym same) (each_entry es c.len.ensures.unique))
