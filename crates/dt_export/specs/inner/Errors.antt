-- Inner words: no public clause cites these. How a host's failure shows in an export.
use Rattle.dt_host.specs.declared.error.HostErr.{HostErr}
use Rattle.dt_host.specs.declared.error.HostErr.TheVariants as host
use Rattle.dt_export.specs.declared.refusal.ExportErr.{ExportErr}
use Rattle.dt_export.specs.declared.refusal.ExportErr.TheVariants.{Host, NoMemory}

-- the error that a host's error shows as
abbrev pub export_err_of_host : HostErr → ExportErr
export_err_of_host host.Failed = Host
export_err_of_host host.NoMemory = NoMemory
