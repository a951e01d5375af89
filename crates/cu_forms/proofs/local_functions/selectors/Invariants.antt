use Rattle.std.proofs.Common.{◌≡◌, ◌++◌, drop, map}
use Rattle.cu_kernel.specs.LocalKernelOf.{local_function_meaning}
use Rattle.cu_names.specs.Texts.{AllDiffer}
use Rattle.cu_syntax.specs.Owners.{PatternIsOf}
use Rattle.cu_translation.specs.Meaning.{Setting}
use Rattle.cu_forms.specs.Functions.{selectors_of}
use Rattle.cu_forms.specs.Inside.Functions.{selector_of}
use Rattle.cu_forms.proofs.local_functions.selectors.Given as goal

abbrev pub invariant-loop-name : goal.invariant-loop-name
invariant-loop-name g l =
    (w : Setting) → g.A.Surroundings.tells l.around w → AllDiffer w.names → PatternIsOf w.owner w.names l.p
    → map local_function_meaning l.found.items ++ map (selector_of w l.p) (drop l.name-index l.name-items) ≡ selectors_of w l.p
