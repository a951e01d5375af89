use Rattle.std.specs.List.{All}
use Rattle.cu_syntax.specs.Owners.{DeclarationIsOf}
use Rattle.cu_locals.specs.Text.{Text}
use Rattle.cu_locals.proofs.EntryLemmas.{Found}
use Rattle.cu_locals.proofs.entries.block_entries.Given as goal

abbrev pub invariant-loop-d : goal.invariant-loop-d
invariant-loop-d l = (t : Text) → All (DeclarationIsOf t.owner t.names) l.ds → Found t l.ds l.d-index l.block
