-- The answer of a read or a write of a pipe in code.
use Rattle.std.specs.Prelude.{Result, Ok, Err}
use Rattle.dt_base.specs.declared.answer.Answer.{Answer}
use Rattle.dt_fds.specs.declared.flow.Flow.{Flow}
use Rattle.dt_host.specs.declared.error.CallErr.{CallErr}
use Rattle.dt_host.specs.declared.error.CallErr.TheVariants.{Errno as is_refused, Host as has_failed}
use Rattle.dt_host.specs.declared.error.HostErr.{HostErr}
use Rattle.dt_iocalls.specs.Piping.{flow_answer}

-- the answer, unless the host failed or memory was wanting
abbrev pub pipe_answer : Result Flow CallErr → Result Answer HostErr
pipe_answer (Ok flow) = Ok (flow_answer (Ok flow))
pipe_answer (Err (is_refused errno)) = Ok (flow_answer (Err errno))
pipe_answer (Err (has_failed error)) = Err error
