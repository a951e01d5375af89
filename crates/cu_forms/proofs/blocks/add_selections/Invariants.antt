use Rattle.std.proofs.Common.{◌≡◌, ◌++◌, drop, map}
use Rattle.cu_names.specs.Texts.{AllDiffer}
use Rattle.cu_syntax.specs.Owners.{PatternIsOf}
use Rattle.cu_translation.specs.Meaning.{Setting}
use Rattle.cu_forms.specs.Forms.{selections_form}
use Rattle.cu_forms.specs.Inside.Blocks.{bounds_meaning}
use Rattle.cu_forms.proofs.BlockLemmas.{selection_of}
use Rattle.cu_forms.proofs.blocks.add_selections.Given as goal

abbrev pub invariant-loop-name : goal.invariant-loop-name
invariant-loop-name g l = (w : Setting) → g.A.Surroundings.tells l.around w → AllDiffer w.names → PatternIsOf w.owner w.names l.p
    → bounds_meaning l.found.items ++ map (selection_of w l.p) (drop l.name-index l.name-items) ≡ bounds_meaning l.fn.found.items ++ selections_form w l.p
