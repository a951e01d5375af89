use Rattle.std.proofs.Common.{◌-◌}
use Rattle.cu_laws.proofs.StaysTraced.{call_traced, next_stays, reached_stays, run_level_stays, run_stays, start_traced, step_level_stays}
use Rattle.cu_laws.proofs.traced.states_stay_traced.Goals as goal

pub returns : goal.returns
returns c = record {
  start = λ program limits levels goal well rule. start_traced program limits levels well goal rule;
  call = λ program limits levels f args well arity built. call_traced program limits levels well f args arity built;
  next = λ program limits levels k before state states well are traced same m. next_stays program limits levels well are k before state states traced same m;
  run = λ program limits levels k steps before state states well are traced same m. run_stays program limits levels well are k (steps - 1) before state states traced same m;
  reached = λ program limits levels k steps state well are traced. reached_stays program limits levels well are k (steps - 1) state traced;
  level = λ program limits levels k depth start state well are traced m. run_level_stays program limits.step levels well are k limits.stride depth start state traced m;
  step_level = λ program limits levels k depth start state well are traced m. step_level_stays program limits levels well are k depth start state traced m;
}
