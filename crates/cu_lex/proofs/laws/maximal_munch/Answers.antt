use Rattle.cu_lex.specs.Literals.{item}
use Rattle.cu_lex.specs.Pieces.{piece}
use Rattle.cu_lex.proofs.CutLemmas.{steps_suffice}
use Rattle.cu_lex.proofs.MunchLemmas.{gives_longest, gives_none}
use Rattle.cu_lex.proofs.laws.maximal_munch.Goals as goal

pub returns-clause-pieces : goal.returns-clause-pieces
returns-clause-pieces c = gives_longest piece

pub returns-clause-no_piece : goal.returns-clause-no_piece
returns-clause-no_piece c = gives_none piece

pub returns-clause-items : goal.returns-clause-items
returns-clause-items c = λ quote. gives_longest (item quote)

pub returns-clause-no_item : goal.returns-clause-no_item
returns-clause-no_item c = λ quote. gives_none (item quote)

pub returns-clause-steps : goal.returns-clause-steps
returns-clause-steps c = steps_suffice piece

pub returns-clause-item_steps : goal.returns-clause-item_steps
returns-clause-item_steps c = λ quote. steps_suffice (item quote)
