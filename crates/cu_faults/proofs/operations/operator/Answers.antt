use Rattle.std.proofs.Common.{[], ◌∷◌, IfSome, None, refl, subst, sym}
use Rattle.cu_syntax.specs.Owners.{ExpressionIsOf, NameIsOf}
use Rattle.cu_uses.proofs.FoundLemmas.{on_ok}
use Rattle.cu_faults.proofs.ToldLemmas.{told_as, told_none}
use Rattle.cu_faults.proofs.UseLemmas.{no_operator, on_operand, operand_owned}
use Rattle.cu_faults.proofs.operations.operator.Goals as goal

pub returns-in-Some : goal.returns-in-Some
returns-in-Some g c w local tells sees name_of of =
    let named = subst (λ o. IfSome o (NameIsOf w.owner w.names)) c.in-Some.is name_of in
    let owned = subst (λ o. IfSome o (ExpressionIsOf w.owner w.names)) (sym c.operand_in.ensures) (operand_owned w.owner w.names c.args.placed.part of) in
    on_ok c.tell_use.result (told_as (on_operand w local c.in-Some.name c.args.placed.before c.args.placed.part c.operand_in.result c.in-Some.is c.operand_in.ensures))
    (c.tell_use.ensures w local (None ∷ []) tells sees named owned refl)

pub returns-in-None : goal.returns-in-None
returns-in-None g c w local tells sees name_of of = told_as (sym (no_operator w local c.args.placed.before c.args.placed.part c.in-None.is)) (told_none w.owner c.args.first.now)
