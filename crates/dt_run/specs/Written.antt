-- What is written of a run: its report, or of a demonstration a summary of it.
use Rattle.std.specs.Prelude.{ℕ, List, ◌++◌, length, codes}
use Rattle.std.specs.Fmt.{decimal}
use Rattle.hex.specs.Hex.{encode_lower}
use Rattle.sha2.specs.Sha256.{sha256}
use Rattle.dt_base.specs.declared.profile.TheConstants.{FIRST_VERSION}
use Rattle.dt_asm.specs.Demo.{demo_image, demo_command}
use Rattle.dt_run.specs.declared.demo.TheConstants.{DEMO_BUDGET}
use Rattle.dt_engine.specs.Run.{Run, run_of, status_of_run, report_of}
use Rattle.dt_engine.specs.Completed.{Written}

-- the run of a demonstration's image and command, whose seed is its number
unfoldable pub demo_run : ℕ → Run
demo_run number = run_of (demo_image number) demo_command number DEMO_BUDGET

-- the lines of a summary: the demonstration's number, the run's status, and the length and the digest of the report
unfoldable pub summary : ℕ → ℕ → List ℕ → List ℕ
summary number status report =
    codes "demo " ++ (decimal number ++ (codes "\nstatus " ++ (decimal status ++ (codes "\nreport "
    ++ (decimal (length report) ++ (codes " " ++ (encode_lower (sha256 report) ++ codes "\n")))))))

-- a demonstration's run with its summary
abbrev pub demonstrated : ℕ → Written
demonstrated number =
    let run = demo_run number in record { run = run; text = summary number (status_of_run run) (report_of FIRST_VERSION run) }
