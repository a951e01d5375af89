use Rattle.std.proofs.Common.{drop}
use Rattle.std.specs.List.{All}
use Rattle.cu_syntax.specs.Owners.{NameIsOf}
use Rattle.cu_locals.specs.Text.{Text}
use Rattle.cu_locals.proofs.EntryLemmas.{Gathered, variables_of}
use Rattle.cu_locals.proofs.entries.variable_entries.Given as goal

abbrev pub invariant-loop-name : goal.invariant-loop-name
invariant-loop-name l =
    (t : Text) → All (NameIsOf t.owner t.names) l.names
    → Gathered t (variables_of t.names (drop l.name-index l.names)) (variables_of t.names l.names) l.found.items
