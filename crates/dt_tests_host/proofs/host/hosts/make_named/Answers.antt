use Rattle.dt_host.specs.declared.kind.NodeKind.TheVariants.{File}
use Rattle.dt_host.specs.Legal.{MadeAt}
use Rattle.std.proofs.Common.{◌≡◌, ℕ, [], None, sym, ap, subst, ◌∙◌}
use Rattle.dt_host.specs.World.{World, file, IsDir, IsEmptyStart, entry}
use Rattle.dt_host.proofs.Changes.{IsDir-start, entry-start, IsDir-made, entry-made, IsFile-made, IsLive-made, IsDir-bound, IsFile-bound}
use Rattle.dt_tests_host.proofs.host.hosts.make_named.Goals as goal

-- the root is a directory when a file was made
root_made : (start before made : World) (root n : ℕ) → IsEmptyStart start → before ≡ start → root ≡ start.forest.root → MadeAt before File made n → IsDir made.forest root
root_made start before made root n empty stays is at =
    let still = subst (λ w. IsEmptyStart w) (sym stays) empty in
    let same = is ∙ ap (λ (w : World). w.forest.root) (sym stays) in
    subst (λ d. IsDir made.forest d) (sym same) (IsDir-made (file []) before made n at.free at.made before.forest.root (IsDir-start before still))

pub bind-requires-clause-directory : goal.bind-requires-clause-directory
bind-requires-clause-directory c =
    root_made _ _ _ _ _ c.requires c.in_ok-root.ensures.stays c.in_ok-root.ensures.ok c.in_ok-file.ensures.legal

pub bind-requires-clause-unnamed : goal.bind-requires-clause-unnamed
bind-requires-clause-unnamed c =
    let before = c.root.new.self.view in
    let start = subst (λ w. IsEmptyStart w) (sym c.in_ok-root.ensures.stays) c.requires in
    let root = c.in_ok-root.ensures.ok ∙ ap (λ (w : World). w.forest.root) (sym c.in_ok-root.ensures.stays) in
    subst (λ n. entry c.make.new.self.view.forest n c.args.name.now ≡ None) (sym root) (entry-made (file []) before _ _ c.in_ok-file.ensures.legal.free c.in_ok-file.ensures.legal.made before.forest.root c.args.name.now (IsDir-start before start) ∙ entry-start before start c.args.name.now)

pub bind-requires-clause-live : goal.bind-requires-clause-live
bind-requires-clause-live c = IsLive-made (file []) _ _ _ c.in_ok-file.ensures.legal.free c.in_ok-file.ensures.legal.made

pub find-requires : goal.find-requires
find-requires c = rw c.in_ok-bind.ensures.legal (IsDir-bound c.make.new.self.view.forest c.in_ok-root.root c.args.name.now c.in_ok-file.file)

pub returns : goal.returns
returns c =
    let made = c.make.new.self.view in
    let is = root_made c.args.host.now.view c.root.new.self.view made c.in_ok-root.root c.in_ok-file.file c.requires c.in_ok-root.ensures.stays c.in_ok-root.ensures.ok c.in_ok-file.ensures.legal in
    let bound = IsFile-bound made.forest c.in_ok-root.root c.args.name.now c.in_ok-file.file c.in_ok-file.file is (IsFile-made _ _ _ c.in_ok-file.ensures.legal) in
    rw (c.in_ok-found.ensures.stays, c.in_ok-bind.ensures.legal) bound
