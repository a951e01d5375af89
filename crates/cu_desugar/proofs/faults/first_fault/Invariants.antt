use Rattle.std.proofs.Common.{List, map, take}
use Rattle.std.specs.List.{flat_map}
use Rattle.cu_faults.specs.Telling.{AreTold}
use Rattle.cu_locals.specs.Text.{Text}
use Rattle.cu_toplevel.specs.Surrounding.{TellsNames}
use Rattle.cu_translation.specs.Around.{Names}
use Rattle.cu_translation.specs.Faults.{group_faults}
use Rattle.cu_translation.specs.Rules.{Group}
use Rattle.cu_desugar.specs.Inside.Texts.{AreTexts, function_in}
use Rattle.cu_desugar.proofs.faults.first_fault.Given as goal

abbrev pub invariant-loop-text : goal.invariant-loop-text
invariant-loop-text l =
    (t : Text) (names : Names) (whole : List Group) → TellsNames t.names names l.top → AreTexts t whole l.texts
    → AreTold t.owner (flat_map (group_faults names) (map (function_in t) (take l.text-index l.texts))) l.first
