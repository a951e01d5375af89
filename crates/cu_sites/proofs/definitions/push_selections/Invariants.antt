use Rattle.std.proofs.Common.{List, drop}
use Rattle.cu_syntax.specs.Patterns.{pattern_meaning}
use Rattle.cu_locals.specs.Text.{Text}
use Rattle.cu_sites.specs.declared.definitions.Definition.{Definition}
use Rattle.cu_sites.specs.Inside.Defining.{Defines}
use Rattle.cu_sites.proofs.InsideLemmas.{selected_left}
use Rattle.cu_sites.proofs.definitions.push_selections.Given as goal

abbrev pub invariant-loop-name : goal.invariant-loop-name
invariant-loop-name l =
    (t : Text) (end : List Definition)
    → Defines l.found.items (selected_left t.names (pattern_meaning t.names l.p) (drop l.name-index l.name-items)) end
    → Defines l.fn.found.items (selected_left t.names (pattern_meaning t.names l.p) l.name-items) end
