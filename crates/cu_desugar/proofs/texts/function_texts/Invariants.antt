use Rattle.std.specs.Vec.Iter.{into_iter_items}
use Rattle.cu_locals.specs.Text.{Text}
use Rattle.cu_modules.specs.Ordering.{module_of}
use Rattle.cu_syntax.specs.Owners.{ModuleIsOf}
use Rattle.cu_translation.specs.Numbered.{groups_in}
use Rattle.cu_desugar.proofs.TextLemmas.{Finding}
use Rattle.cu_desugar.proofs.texts.function_texts.Given as goal

abbrev pub invariant-loop-group : goal.invariant-loop-group
invariant-loop-group l =
    (t : Text) → ModuleIsOf t.owner t.names l.module.syntax
    → Finding t (groups_in (module_of t.names l.module)) l.texts.items (into_iter_items l.group-iterator)
