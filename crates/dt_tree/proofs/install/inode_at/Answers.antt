use Rattle.std.proofs.Common.{arith, rules, ◌≡◌, ◌<◌, length}
use Rattle.std.proofs.lemmas.Bool.Decides.{nat_tests}
use Rattle.std.proofs.lemmas.Fn.{always_returns_same}
use Rattle.std.specs.Ordering.{nat_cmp}
use Rattle.std.specs.Cmp.Lexicographic.{slice_cmp}
use Rattle.dt_base.specs.declared.image.Entry.{Entry}
use Rattle.dt_tree.proofs.Installing.{leads_root, leads_found, leads_none}
use Rattle.dt_tree.proofs.install.inode_at.Goals as goal

pub returns-then-is_empty : goal.returns-then-is_empty
returns-then-is_empty c =
    let none : length c.args.path.now ≡ 0 = grind (arith, nat_tests, c.if-is_empty.ensures) in
    leads_root c.requires.0 c.args.entries.now c.requires.1 c.args.path.now none

pub returns-in-Ok : goal.returns-in-Ok
returns-in-Ok c =
    let some : 0 < length c.args.path.now = grind (arith, nat_tests, c.if-is_empty.ensures) in
    let facts = c.in-Ok.ensures in
    let found = facts.position (λ (e : Entry). slice_cmp nat_cmp e.path c.args.path.now) (always_returns_same _ _ _ (λ a r f called. search rules)) in
    leads_found c.requires.0 c.args.entries.now c.requires.1 c.args.path.now some c.in-Ok.i facts.bound found

pub returns-in-Err : goal.returns-in-Err
returns-in-Err c =
    let some : 0 < length c.args.path.now = grind (arith, nat_tests, c.if-is_empty.ensures) in
    let facts = c.in-Err.ensures in
    let found = facts.position (λ (e : Entry). slice_cmp nat_cmp e.path c.args.path.now) (always_returns_same _ _ _ (λ a r f called. search rules)) in
    leads_none c.requires.0 c.args.entries.now c.requires.1 c.args.path.now some c.in-Err.field-0 found
