use Rattle.std.proofs.Common.{arith, ◌≡◌, ◌<◌, true, None, sym, ap, subst, ◌∙◌}
use Rattle.std.specs.Prelude.{IfSome, IsSome, option_map}
use Rattle.std.specs.FinMap.{get}
use Rattle.dt_pipes.specs.Table as pipes
use Rattle.dt_pipes.specs.Table.{pipes_of}
use Rattle.dt_fds.specs.declared.desc.Desc.{Desc}
use Rattle.dt_fds.specs.Ends.{AreCounted, is_read, is_written}
use Rattle.dt_fds.specs.inner.Ends.{last_end, without_last}
use Rattle.dt_tree.specs.FileTree.{holds_of}
use Rattle.dt_tree.specs.Table.{tree_of}
use Rattle.dt_fds.specs.Descriptions.{inode_of, read_pipe, write_pipe, with_slot, without_slot, unreferenced}
use Rattle.dt_fds.specs.Holding.{holding_of, tree_without_description}
use Rattle.dt_fds.specs.OpenFiles.{pipes_at}
use Rattle.dt_fds.specs.Backs.{Backs, KeepsOthers}
use Rattle.dt_fds.proofs.Backing.{gone-held, KeepsNodes-with_slot, backs-kept, backs-freed, others-freed, both}
use Rattle.dt_fds.proofs.Ending.{gone-read, gone-written, counted-freed, gone-ends, in-table, last-there, left-last, gone-pipes}
use Rattle.dt_fds.proofs.files.Files.drop_slot.Goals as goal

pub close_end-last-requires-clause-reading : goal.close_end-last-requires-clause-reading
close_end-last-requires-clause-reading g c =
    let f = c.args.self.now.descriptors in
    let ends = c.args.self.now.ends in
    subst (λ kind. IfSome kind (λ k. IfSome (read_pipe k) (λ q. is_read (get ends q) ≡ true))) (sym (c.kind_of.ensures ∙ ap (option_map (λ (desc : Desc). desc.kind)) c.clear-gone.ensures.gone))
    (gone-read f ends c.args.pid c.args.fd c.args.slot.number c.requires.backed.ends)

pub close_end-last-requires-clause-writing : goal.close_end-last-requires-clause-writing
close_end-last-requires-clause-writing g c =
    let f = c.args.self.now.descriptors in
    let ends = c.args.self.now.ends in
    subst (λ kind. IfSome kind (λ k. IfSome (write_pipe k) (λ q. is_written (get ends q) ≡ true))) (sym (c.kind_of.ensures ∙ ap (option_map (λ (desc : Desc). desc.kind)) c.clear-gone.ensures.gone))
    (gone-written f ends c.args.pid c.args.fd c.args.slot.number c.requires.backed.ends)

pub remove_pipe-requires-clause-there : goal.remove_pipe-requires-clause-there
remove_pipe-requires-clause-there g c =
    let f = c.args.self.now.descriptors in
    let world = g.H.Host.view c.args.host.now in
    let m = pipes_at c.args.self.now world.pipes in
    let slot = with_slot f c.args.pid c.args.fd None in
    let t = c.args.self.now.pipes in
    let kept = KeepsNodes-with_slot f c.args.pid c.args.fd None in
    subst (λ last. IfSome last (λ q. IsSome (get t.pipes q)))
    (sym (c.close_end-last.ensures.last ∙ ap (last_end c.close_end-last.new.ends) (c.kind_of.ensures ∙ ap (option_map (λ (desc : Desc). desc.kind)) c.clear-gone.ensures.gone)))
    (last-there c.close_end-last.new.ends (unreferenced slot c.args.slot.number) (λ q. IsSome (get t.pipes q))
    (in-table t world.pipes (unreferenced slot c.args.slot.number) (gone-ends m slot c.args.slot.number (kept.all_ends m c.requires.backed.backs.ends))))

pub release_node-requires-clause-held : goal.release_node-requires-clause-held
release_node-requires-clause-held g c =
    let t = tree_of c.args.tree.now (g.H.Host.view c.args.host.now).forest in
    let f = c.args.self.now.descriptors in
    let m = pipes_at c.args.self.now (g.H.Host.view c.args.host.now).pipes in
    let same = ap (tree_of c.args.tree.now) c.in_ok-remove_pipe.ensures.rest.forest in
    subst (λ gone. IfSome gone (λ desc. IfSome (inode_of desc.kind) (λ n. 0 < holds_of (tree_of c.args.tree.now (g.H.Host.view c.remove_pipe.new.host).forest) n))) (sym c.clear-gone.ensures.gone)
    (subst (λ u. IfSome (unreferenced (with_slot f c.args.pid c.args.fd None) c.args.slot.number) (λ desc. IfSome (inode_of desc.kind) (λ n. 0 < holds_of u n))) (sym same)
    (gone-held {m = m} (with_slot f c.args.pid c.args.fd None) t c.args.slot.number (backs-kept c.args.pid f _ t (KeepsNodes-with_slot f c.args.pid c.args.fd None) c.requires.backed.backs)))

pub returns : goal.returns
returns g c =
    let p = c.args.pid in
    let fd = c.args.fd in
    let k = c.args.slot.number in
    let world = g.H.Host.view c.args.host.now in
    let t = tree_of c.args.tree.now world.forest in
    let f = c.args.self.now.descriptors in
    let m = pipes_at c.args.self.now world.pipes in
    let lost = unreferenced (with_slot f p fd None) k in
    let kind = c.kind_of.ensures ∙ ap (option_map (λ (desc : Desc). desc.kind)) c.clear-gone.ensures.gone in
    let counted = counted-freed f c.args.self.now.ends p fd k c.requires.backed.ends c.close_end-last.new.ends c.kind_of.result kind c.close_end-last.ensures.reading c.close_end-last.ensures.writing in
    let went = c.in_ok-remove_pipe.ensures in
    let let_gone = c.in_ok-release_node.ensures in
    let same = ap (tree_of c.args.tree.now) went.rest.forest in
    let tree = let_gone.tree ∙ ap (λ u. tree_without_description u c.clear-gone.result) same ∙ ap (tree_without_description t) c.clear-gone.ensures.gone in
    let last = c.close_end-last.ensures.last ∙ ap (last_end c.close_end-last.new.ends) kind in
    let contents = ap (pipes_of c.remove_pipe.new.pipes) let_gone.rest.pipes ∙ went.pipes ∙ ap (without_last m.contents) last in
    let piped = gone-pipes m _ _ (last_end c.close_end-last.new.ends (option_map (λ (desc : Desc). desc.kind) lost)) contents went.next ∙ sym (left-last (without_slot f p fd k) c.close_end-last.new.ends m lost counted) in
    let made = both c.clear-gone.new.self (without_slot f p fd k) (tree_of c.release_node.new.tree (g.H.Host.view c.release_node.new.host).forest) (tree_without_description t lost) c.clear-gone.ensures.files piped tree in
    record {
      made = made;
      backed = record {
        stands = let_gone.stands;
        pipes = subst (λ host. pipes.Stands c.remove_pipe.new.pipes host) (sym let_gone.rest.pipes) went.stands;
        ends = subst (λ g. AreCounted g c.close_end-last.new.ends) (sym c.clear-gone.ensures.files) counted;
        backs = subst Backs (sym made) (backs-freed m f t p fd k c.requires.backed.stands.tree c.requires.backed.backs);
      };
      others = subst (KeepsOthers p (holding_of t m f)) (sym made) (others-freed {m = m} f t p fd k c.requires.backed.stands.tree c.requires.backed.backs);
      rest = let_gone.rest.pids ∙ went.rest.pids;
      cause = record { later = omega (arith, let_gone.cause.later, went.cause.later); rose = λ failed. cc };
    }
