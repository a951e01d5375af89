use Rattle.cu_peg.proofs.OneTree.{once, refutes}
use Rattle.cu_peg.proofs.laws.one_tree.Goals as goal

pub returns-clause-once : goal.returns-clause-once
returns-clause-once g c = λ has rows r text rest other tree another d e. once rows has d e

pub returns-clause-not_both : goal.returns-clause-not_both
returns-clause-not_both g c = λ has rows r text rest tree d f. refutes rows has d f
