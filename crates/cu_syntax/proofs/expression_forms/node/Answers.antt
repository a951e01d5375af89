-- What is inside is one of the forms, and means the same.
use Rattle.std.proofs.Common.{ap, sym}
use Rattle.cu_syntax.specs.declared.symbol.Symbol.TheVariants as symbol
use Rattle.cu_syntax.specs.ExpressionMeaning.{expression_at}
use Rattle.cu_syntax.specs.Expressions.{expression_node}
use Rattle.cu_syntax.specs.Reading.{expression_as, expression_of}
use Rattle.cu_syntax.specs.SubtreeMeaning.{tree_of}
use Rattle.cu_syntax.specs.Owners.{ExpressionIsOf}
use Rattle.cu_syntax.proofs.ExpressionForms.{nodes}
use Rattle.cu_syntax.proofs.ShapeLemmas.{not_among}
use Rattle.cu_syntax.proofs.ViewLemmas.{ok_as}
use Rattle.cu_syntax.proofs.OwnerLemmas.{none_yet}
use Rattle.cu_syntax.proofs.expression_forms.node.Goals as goal

pub unreachable-requires : goal.unreachable-requires
unreachable-requires c =
    let other = c.in_default in
    not_among c.args.tree.symbol nodes
    (other.not-Exp, (other.not-Lambda, (other.not-LetExp, (other.not-IfExp, (other.not-CaseExp, (other.not-Application, (other.not-Literal, (other.not-QVar, (other.not-QCon, (other.not-Unit, (other.not-TupleCon, (other.not-RightSection, (other.not-LeftSection, (other.not-Tuple, (other.not-EmptyList, (other.not-FromThen, (other.not-From, (other.not-Comprehension, (other.not-ListExp, tt))))))))))))))))))) c.requires.node

pub returns-in-Exp-clause-meaning : goal.returns-in-Exp-clause-meaning
returns-in-Exp-clause-meaning c = λ names.
    let inner = tree_of names c.args.tree in
    ok_as (expression_node names) c.operators.result (expression_of inner) (expression_at c.args.tree.symbol inner) (c.operators.ensures.meaning names)
    (sym (ap (λ a. expression_at a inner) c.in-Exp.is))

pub returns-in-Lambda-clause-meaning : goal.returns-in-Lambda-clause-meaning
returns-in-Lambda-clause-meaning c = λ names.
    let inner = tree_of names c.args.tree in
    ok_as (expression_node names) c.lambda.result (expression_as symbol.Lambda inner) (expression_at c.args.tree.symbol inner) (c.lambda.ensures.meaning names)
    (sym (ap (λ a. expression_at a inner) c.in-Lambda.is))

pub returns-in-LetExp-clause-meaning : goal.returns-in-LetExp-clause-meaning
returns-in-LetExp-clause-meaning c = λ names.
    let inner = tree_of names c.args.tree in
    ok_as (expression_node names) c.let_in.result (expression_as symbol.LetExp inner) (expression_at c.args.tree.symbol inner) (c.let_in.ensures.meaning names)
    (sym (ap (λ a. expression_at a inner) c.in-LetExp.is))

pub returns-in-CaseExp-clause-meaning : goal.returns-in-CaseExp-clause-meaning
returns-in-CaseExp-clause-meaning c = λ names.
    let inner = tree_of names c.args.tree in
    ok_as (expression_node names) c.case.result (expression_as symbol.CaseExp inner) (expression_at c.args.tree.symbol inner) (c.case.ensures.meaning names)
    (sym (ap (λ a. expression_at a inner) c.in-CaseExp.is))

pub returns-in-Application-clause-meaning : goal.returns-in-Application-clause-meaning
returns-in-Application-clause-meaning c = λ names.
    let inner = tree_of names c.args.tree in
    ok_as (expression_node names) c.application.result (expression_as symbol.Application inner) (expression_at c.args.tree.symbol inner) (c.application.ensures.meaning names)
    (sym (ap (λ a. expression_at a inner) c.in-Application.is))

pub returns-in-Tuple-clause-meaning : goal.returns-in-Tuple-clause-meaning
returns-in-Tuple-clause-meaning c = λ names.
    let inner = tree_of names c.args.tree in
    ok_as (expression_node names) c.tuple.result (expression_as symbol.Tuple inner) (expression_at c.args.tree.symbol inner) (c.tuple.ensures.meaning names)
    (sym (ap (λ a. expression_at a inner) c.in-Tuple.is))

pub returns-in-Comprehension-clause-meaning : goal.returns-in-Comprehension-clause-meaning
returns-in-Comprehension-clause-meaning c = λ names.
    let inner = tree_of names c.args.tree in
    ok_as (expression_node names) c.comprehension.result (expression_as symbol.Comprehension inner) (expression_at c.args.tree.symbol inner) (c.comprehension.ensures.meaning names)
    (sym (ap (λ a. expression_at a inner) c.in-Comprehension.is))

pub returns-in-ListExp-clause-meaning : goal.returns-in-ListExp-clause-meaning
returns-in-ListExp-clause-meaning c = λ names.
    let inner = tree_of names c.args.tree in
    ok_as (expression_node names) c.list.result (expression_as symbol.ListExp inner) (expression_at c.args.tree.symbol inner) (c.list.ensures.meaning names)
    (sym (ap (λ a. expression_at a inner) c.in-ListExp.is))

pub returns-in-Exp-clause-owned : goal.returns-in-Exp-clause-owned
returns-in-Exp-clause-owned c = λ owner names whole. c.operators.ensures.owned owner names whole

pub returns-in-Lambda-clause-owned : goal.returns-in-Lambda-clause-owned
returns-in-Lambda-clause-owned c = λ owner names whole. c.lambda.ensures.owned owner names whole

pub returns-in-LetExp-clause-owned : goal.returns-in-LetExp-clause-owned
returns-in-LetExp-clause-owned c = λ owner names whole. c.let_in.ensures.owned owner names whole

pub returns-in-IfExp-clause-owned : goal.returns-in-IfExp-clause-owned
returns-in-IfExp-clause-owned c = λ owner names whole. c.condition.ensures.owned owner names whole

pub returns-in-CaseExp-clause-owned : goal.returns-in-CaseExp-clause-owned
returns-in-CaseExp-clause-owned c = λ owner names whole. c.case.ensures.owned owner names whole

pub returns-in-Application-clause-owned : goal.returns-in-Application-clause-owned
returns-in-Application-clause-owned c = λ owner names whole. c.application.ensures.owned owner names whole

pub returns-in-TupleCon-clause-owned : goal.returns-in-TupleCon-clause-owned
returns-in-TupleCon-clause-owned c = λ owner names whole. c.tuple_constructor.ensures.owned owner names whole

pub returns-in-RightSection-clause-owned : goal.returns-in-RightSection-clause-owned
returns-in-RightSection-clause-owned c = λ owner names whole. c.right_section.ensures.owned owner names whole

pub returns-in-LeftSection-clause-owned : goal.returns-in-LeftSection-clause-owned
returns-in-LeftSection-clause-owned c = λ owner names whole. c.left_section.ensures.owned owner names whole

pub returns-in-Tuple-clause-owned : goal.returns-in-Tuple-clause-owned
returns-in-Tuple-clause-owned c = λ owner names whole. c.tuple.ensures.owned owner names whole

pub returns-in-FromThen-clause-owned : goal.returns-in-FromThen-clause-owned
returns-in-FromThen-clause-owned c = λ owner names whole. c.from_then.ensures.owned owner names whole

pub returns-in-From-clause-owned : goal.returns-in-From-clause-owned
returns-in-From-clause-owned c = λ owner names whole. c.from.ensures.owned owner names whole

pub returns-in-Comprehension-clause-owned : goal.returns-in-Comprehension-clause-owned
returns-in-Comprehension-clause-owned c = λ owner names whole. c.comprehension.ensures.owned owner names whole

pub returns-in-ListExp-clause-owned : goal.returns-in-ListExp-clause-owned
returns-in-ListExp-clause-owned c = λ owner names whole. c.list.ensures.owned owner names whole

pub returns-in-Literal-clause-owned : goal.returns-in-Literal-clause-owned
returns-in-Literal-clause-owned c = λ owner names whole.
    let inner = whole in
    (c.place.ensures.owned owner names inner, c.literal.ensures.natural owner names inner)

pub returns-in-QVar-clause-owned : goal.returns-in-QVar-clause-owned
returns-in-QVar-clause-owned c = λ owner names whole. (c.place-in-QVar.ensures.owned owner names whole, c.name.ensures.owned owner names whole)

pub returns-in-QCon-clause-owned : goal.returns-in-QCon-clause-owned
returns-in-QCon-clause-owned c = λ owner names whole. (c.place-in-QCon.ensures.owned owner names whole, c.name-in-QCon.ensures.owned owner names whole)

pub returns-in-Unit-clause-owned : goal.returns-in-Unit-clause-owned
returns-in-Unit-clause-owned c = λ owner names whole. (c.place-in-Unit.ensures.owned owner names whole, none_yet (ExpressionIsOf owner names) c.new.result.items c.new.ensures.items)

pub returns-in-EmptyList-clause-owned : goal.returns-in-EmptyList-clause-owned
returns-in-EmptyList-clause-owned c = λ owner names whole. (c.place-in-EmptyList.ensures.owned owner names whole, none_yet (ExpressionIsOf owner names) c.new-in-EmptyList.result.items c.new-in-EmptyList.ensures.items)
