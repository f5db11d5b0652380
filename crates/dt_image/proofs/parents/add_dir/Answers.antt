use Rattle.std.proofs.Common.{◌&&◌, ◌||◌, sym, ap, ◌∙◌}
use Rattle.std.specs.Str.{bytes_eq}
use Rattle.dt_image.specs.inner.IndexView.{has_dir}
use Rattle.dt_image.proofs.Dirs.{has_dir-added}
use Rattle.dt_image.proofs.parents.add_dir.Goals as goal

pub returns-in_ok-insert : goal.returns-in_ok-insert
returns-in_ok-insert c = λ path.
    let added = has_dir-added c.args.dirs.now c.insert.new.self c.as_bytes.result c.in_ok-insert.ensures.updates path in
    let dir = sym c.is_dir_source.ensures ∙ c.if-is_dir_source.true in
    added
    ∙ ap (λ k. has_dir path c.args.dirs.now || bytes_eq path k) c.as_bytes.ensures.value
    ∙ ap (λ b. has_dir path c.args.dirs.now || (b && bytes_eq path c.args.entry.path.now)) (sym dir)
