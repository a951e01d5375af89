-- What is found in the range decides.
use Rattle.std.proofs.Common.{sym, ◌∙◌}
use Rattle.cu_fixity.specs.declared.piece.Piece.TheVariants as piece
use Rattle.cu_fixity.proofs.HeadLemmas.{is_found, minus_found, no_operator, operand_inside, operator_head, unfit}
use Rattle.cu_fixity.proofs.grouping.head.Goals as goal

pub returns-in_default-clause-some : goal.returns-in_default-clause-some
returns-in_default-clause-some c = (no_operator c.args.pieces.now c.args.task c.operand.result c.requires c.in_default.ensures.root c.operand.ensures).0

pub returns-in_default-clause-none : goal.returns-in_default-clause-none
returns-in_default-clause-none c = (no_operator c.args.pieces.now c.args.task c.operand.result c.requires c.in_default.ensures.root c.operand.ensures).1

pub returns-then-not-fits-clause-none : goal.returns-then-not-fits-clause-none
returns-then-not-fits-clause-none c =
    unfit c.args.pieces.now c.args.task c.in-Some.n c.requires c.in-Some.ensures.root c.in-Some.ensures.within (sym c.fits.ensures ∙ c.if-not-fits.true)

pub returns-in-Operator-clause-some : goal.returns-in-Operator-clause-some
returns-in-Operator-clause-some c =
    operator_head c.args.pieces.now c.args.task c.in-Some.n c.in-Operator.field-0
    (is_found c.args.pieces.now c.args.task c.in-Some.n (piece.Operator c.in-Operator.field-0) piece.Operand c.requires c.in-Some.ensures.root c.in-Some.ensures.within c.in-Operator.is)
    (sym c.fits.ensures ∙ c.if-not-fits.false)

pub returns-in-Minus-clause-some : goal.returns-in-Minus-clause-some
returns-in-Minus-clause-some c =
    (minus_found c.args.pieces.now c.args.task c.in-Some.n c.minus.result
    (is_found c.args.pieces.now c.args.task c.in-Some.n piece.Minus piece.Operand c.requires c.in-Some.ensures.root c.in-Some.ensures.within c.in-Minus.is)
    (sym c.fits.ensures ∙ c.if-not-fits.false) c.minus.ensures).0

pub returns-in-Minus-clause-none : goal.returns-in-Minus-clause-none
returns-in-Minus-clause-none c =
    (minus_found c.args.pieces.now c.args.task c.in-Some.n c.minus.result
    (is_found c.args.pieces.now c.args.task c.in-Some.n piece.Minus piece.Operand c.requires c.in-Some.ensures.root c.in-Some.ensures.within c.in-Minus.is)
    (sym c.fits.ensures ∙ c.if-not-fits.false) c.minus.ensures).1

pub returns-in-Operand-clause-none : goal.returns-in-Operand-clause-none
returns-in-Operand-clause-none c =
    operand_inside c.args.pieces.now c.args.task c.in-Some.n
    (is_found c.args.pieces.now c.args.task c.in-Some.n piece.Operand piece.Operand c.requires c.in-Some.ensures.root c.in-Some.ensures.within c.in-Operand.is)
