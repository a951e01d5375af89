use Rattle.cu_translation.proofs.Trees.{grouped_exactly, none_exactly}
use Rattle.cu_translation.proofs.laws.grouped_trees_are_found.Goals as goal

pub returns-clause-found : goal.returns-clause-found
returns-clause-found g c = λ fixity items tree. grouped_exactly fixity items tree

pub returns-clause-none : goal.returns-clause-none
returns-clause-none g c = λ fixity items. none_exactly fixity items
