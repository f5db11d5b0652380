-- The failure that an error of a part stands for.
use Rattle.dt_base.specs.declared.refusal.ImageErr.{ImageErr}
use Rattle.dt_base.specs.declared.refusal.ImageErr.TheVariants.{Refused as ImageRefused, Store as StoreFailed, NoMemory as NoImageMemory}
use Rattle.dt_options.specs.declared.options.UsageErr.{UsageErr}
use Rattle.dt_options.specs.declared.options.UsageErr.TheVariants.{Refused as WordsRefused, NoMemory as NoWordsMemory}
use Rattle.dt_export.specs.declared.refusal.ExportErr.{ExportErr}
use Rattle.dt_export.specs.declared.refusal.ExportErr.TheVariants.{Refused as ExportRefused, Host as ExportHostFailed, NoMemory as NoExportMemory}
use Rattle.dt_export.specs.declared.refusal.ExportRefusal.TheVariants as refusal
use Rattle.dt_host.specs.declared.error.HostErr.{HostErr}
use Rattle.dt_host.specs.declared.error.HostErr.TheVariants.{Failed as HostCallFailed, NoMemory as NoHostMemory}
use Rattle.dt_host.specs.declared.error.StoreErr.{StoreErr}
use Rattle.dt_host.specs.declared.error.StoreErr.TheVariants.{Failed as StoreCallFailed, NoMemory as NoStoreMemory}
use Rattle.dt_engine.specs.declared.error.RunErr.{RunErr}
use Rattle.dt_engine.specs.declared.error.RunErr.TheVariants.{Host as HostFailed, Sink as SinkFailed, NoMemory as NoRunMemory}
use Rattle.dt_steps.specs.declared.error.StepsErr.{StepsErr}
use Rattle.dt_steps.specs.declared.error.StepsErr.TheVariants.{Run as RunFailed, LongPath, TooMany}
use Rattle.dt_run.specs.declared.failure.Failure.{Failure}
use Rattle.dt_run.specs.declared.failure.Failure.TheVariants.{Usage, Image, Export, Store, Host, Output, NoMemory}

-- of an error in the words
abbrev pub failure_of_usage : UsageErr → Failure
failure_of_usage WordsRefused = Usage
failure_of_usage NoWordsMemory = NoMemory

-- of an error in reading the image
abbrev pub failure_of_image : ImageErr → Failure
failure_of_image (ImageRefused refusal) = Image refusal
failure_of_image StoreFailed = Store
failure_of_image NoImageMemory = NoMemory

-- of an error in the run
abbrev pub failure_of_run : RunErr → Failure
failure_of_run HostFailed = Host
failure_of_run SinkFailed = Output
failure_of_run NoRunMemory = NoMemory

-- of an error in steps
abbrev pub failure_of_steps : StepsErr → Failure
failure_of_steps (RunFailed e) = failure_of_run e
failure_of_steps LongPath = Export refusal.LongPath
failure_of_steps TooMany = Export refusal.TooMany

-- of an error in the export
abbrev pub failure_of_export : ExportErr → Failure
failure_of_export (ExportRefused refusal) = Export refusal
failure_of_export ExportHostFailed = Host
failure_of_export NoExportMemory = NoMemory

-- of an error of the store
abbrev pub failure_of_store : StoreErr → Failure
failure_of_store StoreCallFailed = Store
failure_of_store NoStoreMemory = NoMemory

-- of an error of the host
abbrev pub failure_of_host : HostErr → Failure
failure_of_host HostCallFailed = Host
failure_of_host NoHostMemory = NoMemory
