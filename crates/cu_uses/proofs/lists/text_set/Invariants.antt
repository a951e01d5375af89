use Rattle.std.proofs.Common.{ℕ, List, take}
use Rattle.std.specs.List.{All}
use Rattle.cu_names.specs.Texts.{AllDiffer}
use Rattle.cu_names.specs.declared.names.NameId.{NameId}
use Rattle.cu_syntax.specs.Owners.{NameIsOf}
use Rattle.cu_uses.specs.Binders.{texts}
use Rattle.cu_uses.specs.Gathered.{names_meaning}
use Rattle.cu_uses.specs.Telling.{HasTexts}
use Rattle.cu_uses.proofs.lists.text_set.Given as goal

abbrev pub invariant-loop-name : goal.invariant-loop-name
invariant-loop-name l =
    (owner : NameId) (table : List (List ℕ)) → AllDiffer table → All (NameIsOf owner table) l.names → HasTexts table (texts (names_meaning table (take l.name-index l.names))) l.set
