-- Why a call failed, where another call's error is passed on.
use Rattle.std.proofs.Common.{◌≡◌, refl}
use Rattle.dt_host.specs.declared.error.HostErr.{HostErr}
use Rattle.dt_host.specs.declared.error.HostErr.TheVariants as host_err
use Rattle.dt_host.specs.declared.error.SinkErr.{SinkErr}
use Rattle.dt_host.specs.declared.error.SinkErr.TheVariants as sink_err
use Rattle.dt_engine.specs.declared.error.RunErr.TheVariants.{Host, Sink}
use Rattle.dt_engine.specs.inner.Errors.{run_err_of_host, run_err_of_sink}

-- a host fault is the host's, and an output fault is none
pub of_host-failed : (e : HostErr) → run_err_of_host e ≡ Host → e ≡ host_err.Failed
of_host-failed host_err.Failed is = refl
of_host-failed host_err.NoMemory is = cc

pub of_host-no_sink : (e : HostErr) → run_err_of_host e ≡ Sink → ⊥
of_host-no_sink host_err.Failed is = cc
of_host-no_sink host_err.NoMemory is = cc

-- an output fault is the sink's, and a host fault is none
pub of_sink-failed : (e : SinkErr) → run_err_of_sink e ≡ Sink → e ≡ sink_err.Failed
of_sink-failed sink_err.Failed is = refl
of_sink-failed sink_err.NoMemory is = cc

pub of_sink-no_host : (e : SinkErr) → run_err_of_sink e ≡ Host → ⊥
of_sink-no_host sink_err.Failed is = cc
of_sink-no_host sink_err.NoMemory is = cc
