-- Open files in code, and the pipes that they stand for.
use Rattle.dt_host.specs.World as host
use Rattle.dt_pipes.specs.Table.{pipes_of}
use Rattle.dt_fds.specs.declared.files.Files.{Files}
use Rattle.dt_fds.specs.Descriptions.{Descriptions}
use Rattle.dt_fds.specs.Pipes.{PipesView}

-- with these descriptions
abbrev pub with_descriptors : Files → Descriptions → Files
with_descriptors f descriptors = record f { descriptors = descriptors }

-- the pipes that they stand for, where what the host's pipes hold is known
abbrev pub pipes_at : Files → host.PipeContents → PipesView
pipes_at f pipes = record { contents = pipes_of f.pipes pipes; next = f.pipes.next }
