use Rattle.std.proofs.Common.{drop}
use Rattle.cu_modules.specs.Ordering.{modules_of}
use Rattle.cu_declared.specs.declared.numbers.Numbers.{Numbers}
use Rattle.cu_declared.specs.Inside.Numbers.{Gains, Have}
use Rattle.cu_declared.specs.Parameters.{all_parameters}
use Rattle.cu_declared.proofs.CallLemmas.{parameters_left}
use Rattle.cu_declared.proofs.calls.parameters.Given as goal

abbrev pub invariant-loop-m : goal.invariant-loop-m
invariant-loop-m l =
    (after : Numbers) → Gains l.names l.numbers (parameters_left l.names (drop l.m-index l.modules)) after → Have l.names (all_parameters (modules_of l.names l.modules)) after
