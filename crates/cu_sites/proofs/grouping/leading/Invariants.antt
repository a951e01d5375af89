use Rattle.std.specs.List.{All}
use Rattle.cu_syntax.specs.Owners.{DeclarationIsOf, NameIsOf}
use Rattle.cu_locals.specs.Text.{Text}
use Rattle.cu_sites.proofs.RuleLemmas.{Led}
use Rattle.cu_sites.proofs.grouping.leading.Given as goal

abbrev pub invariant-loop-d : goal.invariant-loop-d
invariant-loop-d l =
    (t : Text) → NameIsOf t.owner t.names l.name → All (DeclarationIsOf t.owner t.names) l.ds → Led t l.name l.ds l.d-index l.found.items
