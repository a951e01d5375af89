use Rattle.std.proofs.Common.{◌≡◌, ◌++◌, List, drop, map}
use Rattle.cu_kernel.specs.LocalKernelOf.{top_function_meaning}
use Rattle.cu_locals.specs.Text.{Text}
use Rattle.cu_toplevel.specs.Surrounding.{TellsNames}
use Rattle.cu_translation.specs.Around.{Names}
use Rattle.cu_translation.specs.Functions.{top_function}
use Rattle.cu_translation.specs.Rules.{Group}
use Rattle.cu_desugar.specs.Inside.Texts.{AreTexts, function_in}
use Rattle.cu_desugar.proofs.functions.top_functions.Given as goal

abbrev pub invariant-loop-text : goal.invariant-loop-text
invariant-loop-text l =
    (t : Text) (names : Names) (whole : List Group) → TellsNames t.names names l.top → AreTexts t whole l.texts
    → map top_function_meaning l.functions.items ++ map (λ f. top_function t.names names (function_in t f)) (drop l.text-index l.texts)
    ≡ map (top_function t.names names) whole
