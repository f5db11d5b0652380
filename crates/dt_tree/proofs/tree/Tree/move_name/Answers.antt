use Rattle.std.proofs.Common.{◌≡◌, Option, Some, None, refl, sym, subst, ◌∙◌}
use Rattle.std.specs.Prelude.{IsSome}
use Rattle.dt_host.specs.World.{World, entry}
use Rattle.dt_host.proofs.Spots.{IsDir-entry}
use Rattle.dt_tree.specs.Table.{shape_of}
use Rattle.dt_tree.specs.inner.Moves.{IsMove}
use Rattle.dt_tree.proofs.Mirroring.{has_inode-dir}
use Rattle.dt_tree.proofs.Moving.{is_move}
use Rattle.dt_tree.proofs.tree.Tree.move_name.Goals as goal

some_there : {X : Type 0} (found : Option X) → IsSome found → (x : X) × (found ≡ Some x)
some_there None h = cc
some_there (Some x) h = (x, refl)

pub is_removed-requires : goal.is_removed-requires
is_removed-requires g c = has_inode-dir _ (g.H.Host.view c.args.host.now).forest _ c.requires.may.is_dir

pub find-requires-clause-directory : goal.find-requires-clause-directory
find-requires-clause-directory g c = let some = some_there _ c.requires.may.there in IsDir-entry _ _ _ some.0 some.1

pub shift-requires-clause-may : goal.shift-requires-clause-may
shift-requires-clause-may g c =
    let v = (g.H.Host.view c.args.host.now).forest in
    let s = c.requires.stands.tree in
    let here : entry (shape_of c.args.self.now v) c.args.from c.args.old.now ≡ Some c.in-Some.n = sym c.in_ok-n.ensures.ok ∙ c.in-Some.is in
    subst (λ (w : World). IsMove (shape_of c.args.self.now w.forest) c.args.from c.args.old.now c.args.to c.args.new.now c.in-Some.n) (sym c.find.ensures.asks.stays)
    (is_move (shape_of c.args.self.now v) s.shaped s.few c.args.from c.args.old.now c.args.to c.args.new.now c.in-Some.n c.requires.may (sym (c.is_removed.ensures v c.requires.stands) ∙ c.if-is_removed.false) here)
