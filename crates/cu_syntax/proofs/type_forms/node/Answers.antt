-- What is inside is one of the forms, and the same type.
use Rattle.std.proofs.Common.{ap, sym}
use Rattle.cu_syntax.specs.declared.symbol.Symbol.TheVariants as symbol
use Rattle.cu_syntax.specs.Reading.{type_as, type_of}
use Rattle.cu_syntax.specs.SubtreeMeaning.{tree_of}
use Rattle.cu_syntax.specs.Types.{type_at, type_node}
use Rattle.cu_syntax.specs.Owners.{TypeIsOf}
use Rattle.cu_syntax.proofs.ShapeLemmas.{not_among}
use Rattle.cu_syntax.proofs.TypeForms.{nodes}
use Rattle.cu_syntax.proofs.ViewLemmas.{ok_as}
use Rattle.cu_syntax.proofs.OwnerLemmas.{none_yet}
use Rattle.cu_syntax.proofs.type_forms.node.Goals as goal

pub unreachable-requires : goal.unreachable-requires
unreachable-requires c =
    let no = c.in_default in
    not_among c.args.tree.symbol nodes
    (no.not-TypeExp, (no.not-TypeApplication, (no.not-QConId, (no.not-VarId, (no.not-Unit, (no.not-TupleType, (no.not-ListType, tt))))))) c.requires.node

pub returns-in-TypeExp-clause-meaning : goal.returns-in-TypeExp-clause-meaning
returns-in-TypeExp-clause-meaning c = λ names.
    let inner = tree_of names c.args.tree in
    ok_as (type_node names) c.function.result (type_of inner) (type_at c.args.tree.symbol inner) (c.function.ensures.meaning names)
    (sym (ap (λ a. type_at a inner) c.in-TypeExp.is))

pub returns-in-TypeApplication-clause-meaning : goal.returns-in-TypeApplication-clause-meaning
returns-in-TypeApplication-clause-meaning c = λ names.
    let inner = tree_of names c.args.tree in
    ok_as (type_node names) c.application.result (type_as symbol.TypeApplication inner) (type_at c.args.tree.symbol inner) (c.application.ensures.meaning names)
    (sym (ap (λ a. type_at a inner) c.in-TypeApplication.is))

pub returns-in-TupleType-clause-meaning : goal.returns-in-TupleType-clause-meaning
returns-in-TupleType-clause-meaning c = λ names.
    let inner = tree_of names c.args.tree in
    ok_as (type_node names) c.tuple.result (type_as symbol.TupleType inner) (type_at c.args.tree.symbol inner) (c.tuple.ensures.meaning names)
    (sym (ap (λ a. type_at a inner) c.in-TupleType.is))

pub returns-in-TypeExp-clause-owned : goal.returns-in-TypeExp-clause-owned
returns-in-TypeExp-clause-owned c = λ owner names whole. c.function.ensures.owned owner names whole

pub returns-in-TypeApplication-clause-owned : goal.returns-in-TypeApplication-clause-owned
returns-in-TypeApplication-clause-owned c = λ owner names whole. c.application.ensures.owned owner names whole

pub returns-in-QConId-clause-owned : goal.returns-in-QConId-clause-owned
returns-in-QConId-clause-owned c = λ owner names whole. (c.name.ensures.owned owner names whole, none_yet (TypeIsOf owner names) c.new.result.items c.new.ensures.items)

pub returns-in-VarId-clause-owned : goal.returns-in-VarId-clause-owned
returns-in-VarId-clause-owned c = λ owner names whole. c.name-in-VarId.ensures.owned owner names whole

pub returns-in-Unit-clause-owned : goal.returns-in-Unit-clause-owned
returns-in-Unit-clause-owned c = λ owner names whole. (c.place.ensures.owned owner names whole, none_yet (TypeIsOf owner names) c.new-in-Unit.result.items c.new-in-Unit.ensures.items)

pub returns-in-TupleType-clause-owned : goal.returns-in-TupleType-clause-owned
returns-in-TupleType-clause-owned c = λ owner names whole. c.tuple.ensures.owned owner names whole

pub returns-in-ListType-clause-owned : goal.returns-in-ListType-clause-owned
returns-in-ListType-clause-owned c = λ owner names whole. c.list.ensures.owned owner names whole
