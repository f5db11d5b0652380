use Rattle.std.proofs.lemmas.Bool.{and_parts}
use Rattle.dt_base.specs.Path.{is_path}
use Rattle.dt_image.specs.inner.IndexView.{source_in, is_good_made}
use Rattle.dt_image.proofs.blobs.read_one.Goals as goal

pub make_what-requires-clause-sound : goal.make_what-requires-clause-sound
make_what-requires-clause-sound g c = (and_parts (is_path c.args.blob.entry.path.now) (is_good_made c.args.version (source_in c.args.blob.entry.source)) c.requires.sound).1
