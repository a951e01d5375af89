use Rattle.std.proofs.Common.{◌∙◌, sym}
use Rattle.cu_lex.proofs.WordLemmas.{var-id-kind}
use Rattle.cu_lex.proofs.word.variable_kind.Goals as goal

pub returns-in-None-clause-is : goal.returns-in-None-clause-is
returns-in-None-clause-is c = var-id-kind c.args.text.now c.requires (sym c.keyword.ensures ∙ c.in-None.is)
