use Rattle.std.proofs.Common.{◌≡◌, ℕ, List, [], Option, Some, None, Bor, Vec, sym, ap, subst, ◌∙◌}
use Rattle.std.specs.Prelude.{IfSome, option_map, option_copied, option_and_then, unwrap_or, vec_items}
use Rattle.dt_host.specs.World.{file_bytes}
use Rattle.dt_memhost.specs.inner.Node.{node_in}
use Rattle.dt_memhost.proofs.Forests.{file_at-forest_of, content-forest_of}
use Rattle.dt_memhost.proofs.forest.MemForest.bytes_at.Goals as goal

-- the bytes found are those that stand there
found_bytes : {Z : Type 0} (result : Option (Bor (Vec ℕ Z))) (there : Option (List ℕ)) → option_map vec_items (option_copied result) ≡ there → IfSome result (λ bytes. unwrap_or there [] ≡ bytes.now.items)
found_bytes None there e = tt
found_bytes (Some bytes) there e = ap (λ found. unwrap_or found []) (sym e)

pub returns-clause-file : goal.returns-clause-file
returns-clause-file c = rw (← c.self.view_is) (c.bytes_at.ensures ∙ sym (file_at-forest_of c.self.inside.nodes c.self.inside.root c.args.number))

pub returns-clause-bytes : goal.returns-clause-bytes
returns-clause-bytes c =
    let nodes = c.self.inside.nodes in
    let found = found_bytes c.bytes_at.result (option_and_then file_bytes (node_in nodes c.args.number)) c.bytes_at.ensures in
    let there = content-forest_of nodes c.self.inside.root c.args.number in
    rw (← c.self.view_is) (subst (λ bytes. IfSome c.bytes_at.result (λ found. bytes ≡ found.now.items)) (sym there) found)
