use Rattle.std.proofs.Common.{◌≡◌, ◌++◌, drop, map}
use Rattle.cu_kernel.specs.TermsOf.{pattern_of}
use Rattle.cu_translation.specs.Meaning.{Setting}
use Rattle.cu_forms.specs.Inside.Functions.{parameter_of}
use Rattle.cu_forms.proofs.local_functions.parameters.Given as goal

abbrev pub invariant-loop-name : goal.invariant-loop-name
invariant-loop-name g l =
    (w : Setting) → g.A.Surroundings.tells l.around w → map pattern_of l.found.items ++ map (parameter_of w) (drop l.name-index l.names) ≡ map (parameter_of w) l.names
