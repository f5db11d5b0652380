-- The fault of a run that an error of the outside stands for.
use Rattle.dt_host.specs.declared.error.HostErr.{HostErr}
use Rattle.dt_host.specs.declared.error.HostErr.TheVariants.{Failed as HostFailed, NoMemory as NoHostMemory}
use Rattle.dt_host.specs.declared.error.SinkErr.{SinkErr}
use Rattle.dt_host.specs.declared.error.SinkErr.TheVariants.{Failed as SinkFailed, NoMemory as NoSinkMemory}
use Rattle.dt_engine.specs.declared.error.RunErr.{RunErr}
use Rattle.dt_engine.specs.declared.error.RunErr.TheVariants.{Host, Sink, NoMemory}

-- of an error of the host
abbrev pub run_err_of_host : HostErr → RunErr
run_err_of_host HostFailed = Host
run_err_of_host NoHostMemory = NoMemory

-- of an error of the sink
abbrev pub run_err_of_sink : SinkErr → RunErr
run_err_of_sink SinkFailed = Sink
run_err_of_sink NoSinkMemory = NoMemory
