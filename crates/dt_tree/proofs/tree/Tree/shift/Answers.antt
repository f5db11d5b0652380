use Rattle.std.proofs.Common.{◌≡◌, ℕ, ◌≤◌, List, None, sym, ap, subst, ◌∙◌}
use Rattle.std.specs.Prelude.{IfSome}
use Rattle.dt_host.specs.World.{World, entry, without_entry, IsDir, IsLive}
use Rattle.dt_tree.specs.Shape.{name_count_of}
use Rattle.dt_tree.specs.FileTree.{FileTree, IsTree}
use Rattle.dt_tree.specs.Changes.{with_shape}
use Rattle.dt_tree.specs.Calls.{KeepsHeld}
use Rattle.dt_tree.specs.Table.{Table, shape_of, tree_of}
use Rattle.dt_tree.proofs.Mirroring.{has_inode-dir}
use Rattle.dt_tree.proofs.Moving.{if_found, is_from, is_first, found_first, once_first, is_second, free_second, live_second, is_third, shape_first, shape_second, shape_third, shape_fourth, sweeps, live_replaced, tree_last, IsTree-renamed, KeepsHeld-renamed}
use Rattle.dt_host.proofs.Outcomes.{on_ok, on_both}
use Rattle.dt_tree.proofs.tree.Tree.shift.Goals as goal

-- a host that only told something is as before
as_before : (t : Table) (now was : World) (d : ℕ) (name : List ℕ) (new : FileTree) → now ≡ was → new ≡ with_shape (tree_of t now.forest) (without_entry (shape_of t now.forest) d name) → new ≡ with_shape (tree_of t was.forest) (without_entry (shape_of t was.forest) d name)
as_before t now was d name new stays e = subst (λ (w : World). new ≡ with_shape (tree_of t w.forest) (without_entry (shape_of t w.forest) d name)) stays e

pub unbind_found-requires-clause-directory : goal.unbind_found-requires-clause-directory
unbind_found-requires-clause-directory g c =
    let e1 = as_before _ _ _ _ _ _ c.find.ensures.asks.stays c.in_ok-unbind.ensures.tree in
    subst (λ s. IsDir s c.args.to) (sym (shape_first _ _ _ _ e1)) (is_first _ c.requires.stands.tree.shaped _ _ _ _ _ c.requires.may)

pub unbind_found-requires-clause-found : goal.unbind_found-requires-clause-found
unbind_found-requires-clause-found g c =
    let e1 = as_before _ _ _ _ _ _ c.find.ensures.asks.stays c.in_ok-unbind.ensures.tree in
    c.in_ok-replaced.ensures.ok ∙ sym (found_first _ c.requires.stands.tree.shaped _ _ _ _ _ c.requires.may) ∙ ap (λ s. entry s c.args.to c.args.new.now) (sym (shape_first _ _ _ _ e1))

pub unbind_found-requires-clause-once : goal.unbind_found-requires-clause-once
unbind_found-requires-clause-once g c =
    let e1 = as_before _ _ _ _ _ _ c.find.ensures.asks.stays c.in_ok-unbind.ensures.tree in
    subst (λ s. IfSome c.in_ok-replaced.replaced (λ n. IsDir s n → name_count_of s n ≤ 1)) (sym (shape_first _ _ _ _ e1))
    (if_found _ c.in_ok-replaced.replaced (λ n _. once_first _ c.requires.stands.tree.shaped _ _ _ _ _ c.requires.may n))

pub bind-requires-clause-directory : goal.bind-requires-clause-directory
bind-requires-clause-directory g c =
    let e1 = as_before _ _ _ _ _ _ c.find.ensures.asks.stays c.in_ok-unbind.ensures.tree in
    subst (λ s. IsDir s c.args.to) (sym (shape_second _ _ _ _ e1 _ _ _ c.in_ok-unbind_found.ensures.tree)) (is_second _ c.requires.stands.tree.shaped _ _ _ _ _ c.requires.may)

pub bind-requires-clause-free : goal.bind-requires-clause-free
bind-requires-clause-free g c =
    let e1 = as_before _ _ _ _ _ _ c.find.ensures.asks.stays c.in_ok-unbind.ensures.tree in
    subst (λ s. entry s c.args.to c.args.new.now ≡ None) (sym (shape_second _ _ _ _ e1 _ _ _ c.in_ok-unbind_found.ensures.tree)) (free_second _ c.requires.stands.tree.shaped _ _ _ _ _ c.requires.may)

pub bind-requires-clause-live : goal.bind-requires-clause-live
bind-requires-clause-live g c =
    let e1 = as_before _ _ _ _ _ _ c.find.ensures.asks.stays c.in_ok-unbind.ensures.tree in
    subst (λ s. IsLive s c.args.n) (sym (shape_second _ _ _ _ e1 _ _ _ c.in_ok-unbind_found.ensures.tree)) (live_second _ c.requires.stands.tree.shaped _ _ _ _ _ c.requires.may)

pub stamp-requires : goal.stamp-requires
stamp-requires g c =
    let s = c.requires.stands.tree.shaped in
    let e1 = as_before _ _ _ _ _ _ c.find.ensures.asks.stays c.in_ok-unbind.ensures.tree in
    let third = shape_third _ _ _ _ e1 _ _ _ c.in_ok-unbind_found.ensures.tree _ _ c.in_ok-bind.ensures.tree in
    has_inode-dir _ (g.H.Host.view c.bind.new.host).forest _ (subst (λ s. IsDir s c.args.from) (sym third) (is_third _ s _ _ _ _ _ c.requires.may c.args.from (is_from _ s _ _ _ _ _ c.requires.may)))

pub stamp-requires-2 : goal.stamp-requires-2
stamp-requires-2 g c =
    let v = (g.H.Host.view c.bind.new.host).forest in
    let e1 = as_before _ _ _ _ _ _ c.find.ensures.asks.stays c.in_ok-unbind.ensures.tree in
    let fourth = shape_fourth _ _ _ _ e1 _ _ _ c.in_ok-unbind_found.ensures.tree _ _ c.in_ok-bind.ensures.tree _ _ (c.stamp.ensures.tree v c.in_ok-bind.ensures.mirrors) in
    has_inode-dir _ v _ (subst (λ s. IsDir s c.args.to) (sym fourth) (is_third _ c.requires.stands.tree.shaped _ _ _ _ _ c.requires.may c.args.to c.requires.may.is_dir))

pub sweep_found-requires-clause-tree : goal.sweep_found-requires-clause-tree
sweep_found-requires-clause-tree g c =
    let v = (g.H.Host.view c.bind.new.host).forest in
    let e1 = as_before _ _ _ _ _ _ c.find.ensures.asks.stays c.in_ok-unbind.ensures.tree in
    let fourth = c.stamp.ensures.tree v c.in_ok-bind.ensures.mirrors in
    let fifth = c.stamp-2.ensures.tree v (c.stamp.ensures.mirrors v c.in_ok-bind.ensures.mirrors) in
    sweeps _ _ _ _ e1 _ _ _ c.in_ok-unbind_found.ensures.tree _ _ c.in_ok-bind.ensures.tree _ _ fourth _ fifth c.requires.stands.tree c.requires.may c.in_ok-replaced.replaced c.in_ok-replaced.ensures.ok

pub sweep_found-requires-clause-live : goal.sweep_found-requires-clause-live
sweep_found-requires-clause-live g c =
    let v = (g.H.Host.view c.bind.new.host).forest in
    let e1 = as_before _ _ _ _ _ _ c.find.ensures.asks.stays c.in_ok-unbind.ensures.tree in
    let fourth = c.stamp.ensures.tree v c.in_ok-bind.ensures.mirrors in
    let fifth = c.stamp-2.ensures.tree v (c.stamp.ensures.mirrors v c.in_ok-bind.ensures.mirrors) in
    live_replaced _ _ _ _ e1 _ _ _ c.in_ok-unbind_found.ensures.tree _ _ c.in_ok-bind.ensures.tree _ _ fourth _ fifth c.requires.stands.tree c.requires.may c.in_ok-replaced.replaced c.in_ok-replaced.ensures.ok

pub returns-clause-tree : goal.returns-clause-tree
returns-clause-tree g c =
    let v = (g.H.Host.view c.bind.new.host).forest in
    let e1 = as_before _ _ _ _ _ _ c.find.ensures.asks.stays c.in_ok-unbind.ensures.tree in
    let fourth = c.stamp.ensures.tree v c.in_ok-bind.ensures.mirrors in
    let fifth = c.stamp-2.ensures.tree v (c.stamp.ensures.mirrors v c.in_ok-bind.ensures.mirrors) in
    on_ok c.sweep_found.result (tree_last _ _ _ _ e1 _ _ _ c.in_ok-unbind_found.ensures.tree _ _ c.in_ok-bind.ensures.tree _ _ fourth _ fifth c.requires.stands.tree c.requires.may c.in_ok-replaced.replaced c.in_ok-replaced.ensures.ok _) c.sweep_found.ensures.tree

pub returns-clause-stands : goal.returns-clause-stands
returns-clause-stands g c =
    let v = (g.H.Host.view c.bind.new.host).forest in
    let e1 = as_before _ _ _ _ _ _ c.find.ensures.asks.stays c.in_ok-unbind.ensures.tree in
    let fourth = c.stamp.ensures.tree v c.in_ok-bind.ensures.mirrors in
    let fifth = c.stamp-2.ensures.tree v (c.stamp.ensures.mirrors v c.in_ok-bind.ensures.mirrors) in
    on_both c.sweep_found.result (λ m e. record {
      mirrors = m;
      tree = subst IsTree (sym (tree_last _ _ _ _ e1 _ _ _ c.in_ok-unbind_found.ensures.tree _ _ c.in_ok-bind.ensures.tree _ _ fourth _ fifth c.requires.stands.tree c.requires.may c.in_ok-replaced.replaced c.in_ok-replaced.ensures.ok _ e))
          (IsTree-renamed _ c.requires.stands.tree c.args.from c.args.old.now c.args.to c.args.new.now c.args.n c.requires.may c.args.stamp);
    }) c.sweep_found.ensures.mirrors c.sweep_found.ensures.tree

pub returns-clause-held : goal.returns-clause-held
returns-clause-held g c =
    let v = (g.H.Host.view c.bind.new.host).forest in
    let e1 = as_before _ _ _ _ _ _ c.find.ensures.asks.stays c.in_ok-unbind.ensures.tree in
    let fourth = c.stamp.ensures.tree v c.in_ok-bind.ensures.mirrors in
    let fifth = c.stamp-2.ensures.tree v (c.stamp.ensures.mirrors v c.in_ok-bind.ensures.mirrors) in
    on_ok c.sweep_found.result (λ e. subst (KeepsHeld _)
    (sym (tree_last _ _ _ _ e1 _ _ _ c.in_ok-unbind_found.ensures.tree _ _ c.in_ok-bind.ensures.tree _ _ fourth _ fifth c.requires.stands.tree c.requires.may c.in_ok-replaced.replaced c.in_ok-replaced.ensures.ok _ e))
    (KeepsHeld-renamed _ c.requires.stands.tree c.args.from c.args.old.now c.args.to c.args.new.now c.args.n c.requires.may c.args.stamp)) c.sweep_found.ensures.tree
