-- What is inside is one of the forms, and means the same.
use Rattle.std.proofs.Common.{ap, sym}
use Rattle.cu_syntax.specs.declared.symbol.Symbol.TheVariants as symbol
use Rattle.cu_syntax.specs.Patterns.{pattern_at, pattern_node}
use Rattle.cu_syntax.specs.Reading.{pattern_as, pattern_of}
use Rattle.cu_syntax.specs.SubtreeMeaning.{tree_of}
use Rattle.cu_syntax.specs.Owners.{PatternIsOf}
use Rattle.cu_syntax.proofs.PatternForms.{nodes}
use Rattle.cu_syntax.proofs.ShapeLemmas.{not_among}
use Rattle.cu_syntax.proofs.ViewLemmas.{ok_as}
use Rattle.cu_syntax.proofs.OwnerLemmas.{none_yet}
use Rattle.cu_syntax.proofs.pattern_forms.node.Goals as goal

pub unreachable-requires : goal.unreachable-requires
unreachable-requires c =
    let other = c.in_default in
    not_among c.args.tree.symbol nodes
    (other.not-Pat, (other.not-NegativePat, (other.not-ConApplication, (other.not-AliasPat, (other.not-VarId, (other.not-Underscore, (other.not-Literal, (other.not-QCon, (other.not-Unit, (other.not-TuplePat, (other.not-ListPat, tt))))))))))) c.requires.node

pub returns-in-Pat-clause-meaning : goal.returns-in-Pat-clause-meaning
returns-in-Pat-clause-meaning c = λ names.
    let inner = tree_of names c.args.tree in
    ok_as (pattern_node names) c.operators.result (pattern_of inner) (pattern_at c.args.tree.symbol inner) (c.operators.ensures.meaning names)
    (sym (ap (λ a. pattern_at a inner) c.in-Pat.is))

pub returns-in-ConApplication-clause-meaning : goal.returns-in-ConApplication-clause-meaning
returns-in-ConApplication-clause-meaning c = λ names.
    let inner = tree_of names c.args.tree in
    ok_as (pattern_node names) c.application.result (pattern_as symbol.ConApplication inner) (pattern_at c.args.tree.symbol inner) (c.application.ensures.meaning names)
    (sym (ap (λ a. pattern_at a inner) c.in-ConApplication.is))

pub returns-in-TuplePat-clause-meaning : goal.returns-in-TuplePat-clause-meaning
returns-in-TuplePat-clause-meaning c = λ names.
    let inner = tree_of names c.args.tree in
    ok_as (pattern_node names) c.tuple.result (pattern_as symbol.TuplePat inner) (pattern_at c.args.tree.symbol inner) (c.tuple.ensures.meaning names)
    (sym (ap (λ a. pattern_at a inner) c.in-TuplePat.is))

pub returns-in-ListPat-clause-meaning : goal.returns-in-ListPat-clause-meaning
returns-in-ListPat-clause-meaning c = λ names.
    let inner = tree_of names c.args.tree in
    ok_as (pattern_node names) c.list.result (pattern_as symbol.ListPat inner) (pattern_at c.args.tree.symbol inner) (c.list.ensures.meaning names)
    (sym (ap (λ a. pattern_at a inner) c.in-ListPat.is))

pub returns-in-Pat-clause-owned : goal.returns-in-Pat-clause-owned
returns-in-Pat-clause-owned c = λ owner names whole. c.operators.ensures.owned owner names whole

pub returns-in-NegativePat-clause-owned : goal.returns-in-NegativePat-clause-owned
returns-in-NegativePat-clause-owned c = λ owner names whole. c.negative.ensures.owned owner names whole

pub returns-in-ConApplication-clause-owned : goal.returns-in-ConApplication-clause-owned
returns-in-ConApplication-clause-owned c = λ owner names whole. c.application.ensures.owned owner names whole

pub returns-in-AliasPat-clause-owned : goal.returns-in-AliasPat-clause-owned
returns-in-AliasPat-clause-owned c = λ owner names whole. c.alias.ensures.owned owner names whole

pub returns-in-VarId-clause-owned : goal.returns-in-VarId-clause-owned
returns-in-VarId-clause-owned c = λ owner names whole. c.name.ensures.owned owner names whole

pub returns-in-Underscore-clause-owned : goal.returns-in-Underscore-clause-owned
returns-in-Underscore-clause-owned c = λ owner names whole. c.place.ensures.owned owner names whole

pub returns-in-Literal-clause-owned : goal.returns-in-Literal-clause-owned
returns-in-Literal-clause-owned c = λ owner names whole. c.literal.ensures.owned owner names whole

pub returns-in-QCon-clause-owned : goal.returns-in-QCon-clause-owned
returns-in-QCon-clause-owned c = λ owner names whole. (c.place-in-QCon.ensures.owned owner names whole, c.name-in-QCon.ensures.owned owner names whole, none_yet (PatternIsOf owner names) c.new.result.items c.new.ensures.items)

pub returns-in-Unit-clause-owned : goal.returns-in-Unit-clause-owned
returns-in-Unit-clause-owned c = λ owner names whole. (c.place-in-Unit.ensures.owned owner names whole, none_yet (PatternIsOf owner names) c.new-in-Unit.result.items c.new-in-Unit.ensures.items)

pub returns-in-TuplePat-clause-owned : goal.returns-in-TuplePat-clause-owned
returns-in-TuplePat-clause-owned c = λ owner names whole. c.tuple.ensures.owned owner names whole

pub returns-in-ListPat-clause-owned : goal.returns-in-ListPat-clause-owned
returns-in-ListPat-clause-owned c = λ owner names whole. c.list.ensures.owned owner names whole
