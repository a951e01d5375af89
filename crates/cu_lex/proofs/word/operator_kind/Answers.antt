use Rattle.std.proofs.Common.{◌∙◌, sym}
use Rattle.cu_lex.proofs.WordLemmas.{operator-is}
use Rattle.cu_lex.proofs.word.operator_kind.Goals as goal

pub returns-then-begins_with_colon-clause-is : goal.returns-then-begins_with_colon-clause-is
returns-then-begins_with_colon-clause-is c = (
  operator-is c.args.text.now c.requires (sym c.reserved_operator.ensures ∙ c.in-None.is) (sym c.is_dashes.ensures ∙ c.if-is_dashes.false),
  sym c.begins_with_colon.ensures ∙ c.if-begins_with_colon.true,
)

pub returns-clause-is : goal.returns-clause-is
returns-clause-is c = (
  operator-is c.args.text.now c.requires (sym c.reserved_operator.ensures ∙ c.in-None.is) (sym c.is_dashes.ensures ∙ c.if-is_dashes.false),
  sym c.begins_with_colon.ensures ∙ c.if-begins_with_colon.false,
)
