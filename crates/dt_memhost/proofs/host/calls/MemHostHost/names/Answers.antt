use Rattle.std.proofs.Common.{◌≡◌, ℕ, List, map, length, sym, ap, subst, ◌∙◌}
use Rattle.std.specs.List.Sorted.{IsPermutation}
use Rattle.std.specs.FinMap.{entries}
use Rattle.std.proofs.lemmas.List.{length-map}
use Rattle.std.proofs.lemmas.List.Sorted.{IsPermutation-trans}
use Rattle.dt_host.specs.declared.entry.HostEntry.{HostEntry}
use Rattle.dt_host.specs.World.{names_at}
use Rattle.dt_host.specs.Legal.{pair_of}
use Rattle.dt_memhost.specs.Script.{Script, is_next_listed, after_call, after_draws, words_of}
use Rattle.dt_memhost.specs.Order.{order_at, drawn_order}
use Rattle.dt_memhost.specs.Host.{HostState, ListsBy}
use Rattle.dt_memhost.proofs.Arranged.{map-picked_order, IsPermutation-picked_order}
use Rattle.dt_memhost.proofs.Worlds.{host_of, unlisted}
use Rattle.dt_memhost.proofs.host.calls.MemHostHost.names.Goals as goal

-- the entries in the order of the words, where they were found in that of their binding
lists : (old : HostState) (d : ℕ) (found arranged : List HostEntry) (before after : Script) → map pair_of found ≡ order_at old.orders d → before ≡ after_call old.script → arranged ≡ drawn_order (words_of (length found) before) found → after ≡ after_draws (length found) before → ListsBy old d (record old { script = after }) arranged
lists old d found arranged before after bound calls turned left =
    let order = order_at old.orders d in
    let many : length found ≡ length order = sym (length-map found pair_of) ∙ ap length bound in
    record {
      chosen =
          ap (map pair_of) turned
          ∙ map-picked_order pair_of (words_of (length found) before) found
          ∙ ap (drawn_order (words_of (length found) before)) bound
          ∙ ap (λ s. drawn_order (words_of (length found) s) order) calls
          ∙ ap (λ n. drawn_order (words_of n old.script) order) many;
      kept = ap (λ s. record old { script = s }) (left ∙ ap (after_draws (length found)) calls ∙ ap (λ n. after_draws n (after_call old.script)) many);
    }

pub returns-clause-exact : goal.returns-clause-exact
returns-clause-exact c =
    let inside = c.self.inside in
    let old = host_of inside.forest inside.pids inside.script in
    let new = host_of inside.forest inside.pids c.arrange.new.script in
    let arranged = c.in_ok-arrange.ensures in
    let said : ListsBy old c.args.dir new c.in_ok-arrange.field-0.items =
    lists old c.args.dir c.in_ok-found.found.items c.in_ok-arrange.field-0.items c.begin.new.self c.arrange.new.script c.in_ok-found.ensures.order c.in_ok-begin.ensures.ok arranged.order arranged.after in
    rw (← c.self.view_is) (unlisted _ _ (is_next_listed inside.script) c.in_ok-begin.ensures.unlisted said)

pub returns-clause-ok : goal.returns-clause-ok
returns-clause-ok c =
    let found = c.in_ok-found.found in
    let words = words_of (length found.items) c.begin.new.self in
    let turned : map pair_of c.in_ok-arrange.field-0.items ≡ drawn_order words (map pair_of found.items) =
    ap (map pair_of) c.in_ok-arrange.ensures.order ∙ map-picked_order pair_of words found.items in
    rw (← c.self.view_is) (subst (IsPermutation (entries (names_at c.self.inside.forest.forest c.args.dir))) (sym turned)
    (IsPermutation-trans _ _ _ c.in_ok-found.ensures.each (IsPermutation-picked_order words (map pair_of found.items))))
