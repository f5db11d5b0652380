use Rattle.std.proofs.Common.{◌≡◌, ◌∷◌, [], ◌++◌, Option, None, Some, sym, ◌∙◌, subst}
use Rattle.std.proofs.lemmas.Result.{on_ok_weaker, on_err_weaker}
use Rattle.std.specs.Prelude.{IsSome, IfSome, OnOk, OnErr, Result, Ok, Err, option_map, option_and_then}
use Rattle.std.specs.FinMap.{get, insert}
use Rattle.dt_host.proofs.Outcomes.{on_both}
use Rattle.dt_host.specs.World.{dir, dir_names, IsDir, entry}
use Rattle.dt_memhost.specs.inner.Node.{node_in, order_in}
use Rattle.dt_memhost.specs.inner.Forest.{OrderedForest, HasSizes, with_binding}
use Rattle.dt_memhost.proofs.Forests.{ordered_of, by_outcome, entry-forest_of, dir_at-forest_of, entry_put, nothing_changed}
use Rattle.dt_memhost.proofs.Sizes.{HasSizes-bound}
use Rattle.dt_memhost.proofs.forest.MemForest.bind.Goals as goal

-- what holds for what is there holds
of_some : {X : Type 0} (found : Option X) (P : Type 0) → IsSome found → IfSome found (λ _. P) → P
of_some None P some h = cc
of_some (Some x) P some h = h

-- of two facts on one error
on_err_both : {A E : Type 0} {P Q R : Type 0} (r : Result A E) → (P → Q → R) → OnErr r P → OnErr r Q → OnErr r R
on_err_both (Ok a) f p q = tt
on_err_both (Err e) f p q = f p q

pub bind-requires : goal.bind-requires
bind-requires c =
    let nodes = c.self.inside.nodes in
    let none = subst (λ (o : OrderedForest). entry o.forest c.args.dir c.args.name.now ≡ None) (sym c.self.view_is) c.requires.unnamed in
    let unnamed : option_and_then (λ names. get names c.in_ok-name.name.items) (option_and_then dir_names (node_in nodes c.args.dir)) ≡ None =
    rw c.in_ok-name.ensures.items (sym (entry-forest_of nodes c.self.inside.root c.args.dir c.args.name.now) ∙ none) in
    unnamed

is_dir : (c : goal.After-bind) → IsDir (ordered_of c.self.inside.nodes c.self.inside.root).forest c.args.dir
is_dir c = subst (λ (o : OrderedForest). IsDir o.forest c.args.dir) (sym c.self.view_is) c.requires.directory

-- the entry was added
added : (c : goal.After-bind) → OnOk c.bind.result (ordered_of c.bind.new.nodes c.self.inside.root ≡ with_binding (ordered_of c.self.inside.nodes c.self.inside.root) c.args.dir c.args.name.now c.args.number)
added c =
    let old = c.self.inside.nodes in
    let root = c.self.inside.root in
    let d = c.args.dir in
    let there = subst (λ found. IsSome found) (dir_at-forest_of old root d) (is_dir c) in
    let put = subst (λ name. IfSome (option_and_then dir_names (node_in old d)) (λ names. node_in c.bind.new.nodes d ≡ Some (dir (insert names name c.args.number)))) c.in_ok-name.ensures.items in
    let last = λ (h : IfSome (option_and_then dir_names (node_in old d)) (λ _. order_in c.bind.new.nodes d ≡ option_map (λ order. order ++ (c.in_ok-name.name.items, c.args.number) ∷ []) (order_in old d))).
    subst (λ name. order_in c.bind.new.nodes d ≡ option_map (λ order. order ++ (name, c.args.number) ∷ []) (order_in old d)) c.in_ok-name.ensures.items (of_some _ _ there h) in
    on_both c.bind.result (λ h k. entry_put old c.bind.new.nodes root d c.bind.ensures.others c.args.name.now c.args.number (is_dir c) (put h) (last k) c.bind.ensures.held) c.bind.ensures.ok c.bind.ensures.last

-- nothing changed
stays : (c : goal.After-bind) → OnErr c.bind.result (ordered_of c.bind.new.nodes c.self.inside.root ≡ ordered_of c.self.inside.nodes c.self.inside.root)
stays c = on_err_both c.bind.result (λ h k. nothing_changed c.self.inside.nodes c.bind.new.nodes c.self.inside.root c.args.dir c.bind.ensures.others h k c.bind.ensures.held) c.bind.ensures.err c.bind.ensures.order

pub invariant_of-self : goal.invariant_of-self
invariant_of-self c =
    by_outcome c.bind.result
    (on_ok_weaker c.bind.result (λ h. subst HasSizes (sym h) (HasSizes-bound (ordered_of c.self.inside.nodes c.self.inside.root) c.args.dir c.self.invariant c.args.name.now c.args.number (is_dir c))) (added c))
    (on_err_weaker c.bind.result (λ h. subst HasSizes (sym h) c.self.invariant) (stays c))

pub returns-clause-ok : goal.returns-clause-ok
returns-clause-ok c = rw (← c.self.view_is) (added c)

pub returns-clause-err : goal.returns-clause-err
returns-clause-err c = rw (← c.self.view_is) (stays c)
