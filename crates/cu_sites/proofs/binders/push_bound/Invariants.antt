use Rattle.std.proofs.Common.{List, drop, flat_map}
use Rattle.cu_syntax.specs.Owners.{PatternIsOf}
use Rattle.cu_syntax.specs.Patterns.{pattern_meaning}
use Rattle.cu_translation.specs.Numbering.{selected}
use Rattle.cu_translation.specs.declared.local_names.Binder as code
use Rattle.cu_uses.specs.Gathered.{names_meaning}
use Rattle.cu_locals.specs.Text.{Text}
use Rattle.cu_sites.specs.Inside.Counting.{Counts, bound_binders}
use Rattle.cu_sites.proofs.binders.push_bound.Given as goal

abbrev pub invariant-loop-name : goal.invariant-loop-name
invariant-loop-name l =
    (t : Text) (after : List code.Binder) → PatternIsOf t.owner t.names l.p
    → Counts l.found.items (flat_map (selected (pattern_meaning t.names l.p)) (names_meaning t.names (drop l.name-index l.name-items))) after
    → Counts l.fn.found.items (bound_binders (pattern_meaning t.names l.p)) after
