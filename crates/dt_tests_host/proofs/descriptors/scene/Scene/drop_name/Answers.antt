use Rattle.std.proofs.Common.{arith, sym, subst}
use Rattle.std.proofs.lemmas.Grind.{common_steps}
use Rattle.std.specs.Prelude.{Result, Ok, Err}
use Rattle.dt_host.specs.World.{PipeContents}
use Rattle.dt_host.specs.declared.error.CallErr.{CallErr}
use Rattle.dt_host.specs.declared.error.CallErr.TheVariants.{Errno as is_refused, Host as has_failed}
use Rattle.dt_tree.specs.Calls.{KeepsHeld, UnlessFailed}
use Rattle.dt_tree.specs.Table.{Stands, tree_of}
use Rattle.dt_pipes.specs.Table as pipes
use Rattle.dt_fds.specs.Holding.{holding_of}
use Rattle.dt_fds.specs.OpenFiles.{pipes_at}
use Rattle.dt_fds.specs.Backs.{Backs, IsBacked, at}
use Rattle.dt_fds.proofs.Backing.{backs-held}
use Rattle.dt_tests_host.proofs.descriptors.scene.Scene.drop_name.Goals as goal

-- what follows from two facts holds where they do
both : {A : Type 0} {P Q R : Type 0} (result : Result A CallErr) → UnlessFailed result P → UnlessFailed result Q → (P → Q → R) → UnlessFailed result R
both (Ok value) p q r = r p q
both (Err (is_refused errno)) p q r = r p q
both (Err (has_failed error)) p q r = tt

pub returns : goal.returns
returns c =
    let files = c.args.self.now.files in
    let old = tree_of c.args.self.now.tree c.args.self.now.host.view.forest in
    let table = c.drop_name-dropped.new.self in
    let world = c.drop_name-dropped.new.host.view in
    let new = tree_of table world.forest in
    let same = sym c.drop_name-dropped.ensures.rest.pipes in
    let kept : UnlessFailed c.drop_name-dropped.result (IsBacked (at files table world)) =
    both {P = Stands table world.forest} {Q = KeepsHeld old new} {R = IsBacked (at files table world)} c.drop_name-dropped.result c.drop_name-dropped.ensures.stands c.drop_name-dropped.ensures.held (λ (stands : Stands table world.forest) (held : KeepsHeld old new). record {
      stands = stands;
      pipes = subst (pipes.Stands files.pipes) same c.requires.backed.pipes;
      ends = c.requires.backed.ends;
      backs = subst (λ (now : PipeContents). Backs (holding_of new (pipes_at files now) files.descriptors)) same (backs-held files.descriptors old new held c.requires.backed.backs);
    }) in
    grind (arith, common_steps, kept)
