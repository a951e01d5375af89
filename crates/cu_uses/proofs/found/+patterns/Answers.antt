use Rattle.std.proofs.Common.{rules, List, refl, subst}
use Rattle.std.specs.List.{All}
use Rattle.cu_syntax.proofs.Elements.{largest}
use Rattle.cu_syntax.specs.declared.patterns.PatternNode.TheVariants as pattern
use Rattle.cu_syntax.specs.declared.patterns.ConstructorItem.{ConstructorItem}
use Rattle.cu_syntax.specs.declared.patterns.Pattern.{Pattern}
use Rattle.cu_syntax.specs.Owners.{ConstructorItemIsOf, PatternIsOf, PatternNodeIsOf}
use Rattle.cu_syntax.specs.Smaller.{constructor_item_size, pattern_size}
use Rattle.std.specs.Prelude.{OnOk}
use Rattle.cu_uses.specs.Gathered.{Finds, operands_bind, operands_build, patterns_bind, patterns_build}
use Rattle.cu_uses.proofs.FoundLemmas.{finds_both, on_ok, operands_end, operands_prefix, pattern_bare, pattern_found, patterns_end, patterns_prefix}
use Rattle.cu_uses.proofs.found.+patterns.Goals as goal

pub operands-pattern-requires : goal.operands-pattern-requires
operands-pattern-requires t c = (search (rules, largest constructor_item_size c.args.items.now c.loop-item.item-index, c.loop-item-test.true), tt)

pub operands-loop-item-preserved : goal.operands-loop-item-preserved
operands-loop-item-preserved t c owner names after all rest =
    c.loop-item.invariant owner names after all
    (operands_prefix (ConstructorItemIsOf owner names) owner names c.args.items.now c.loop-item.item-index c.item-item.result c.loop-item.found c.pattern.new.found after c.item-item.is c.loop-item-test.true all
    (λ of. finds_both (c.in_ok-constructor.ensures owner names of.0) (c.in_ok-pattern.ensures owner names of.1)) rest)

pub operands-returns : goal.operands-returns
operands-returns t c owner names all =
    c.loop-item.invariant owner names c.loop-item.found all (operands_end owner names c.args.items.now c.loop-item.item-index c.loop-item.found c.loop-item-test.false)

pub pattern-returns-in-Variable : goal.pattern-returns-in-Variable
pattern-returns-in-Variable t c owner names is =
    let of = subst (PatternNodeIsOf owner names) c.in-Variable.is (c.in_ok-name.ensures.owned owner names is) in
    on_ok c.variable.result
    (pattern_found owner names c.args.p c.in_ok-name.field-0 (pattern.Variable c.in-Variable.name) c.args.found.now c.variable.new.self (c.in_ok-name.ensures.meaning names) c.in-Variable.is)
    (c.variable.ensures owner names of)

pub pattern-returns-in_ok-variable-in-Alias : goal.pattern-returns-in_ok-variable-in-Alias
pattern-returns-in_ok-variable-in-Alias t c owner names is =
    let of = subst (PatternNodeIsOf owner names) c.in-Alias.is (c.in_ok-name.ensures.owned owner names is) in
    on_ok c.pattern.result
    (λ inner. pattern_found owner names c.args.p c.in_ok-name.field-0 (pattern.Alias c.in-Alias.name c.in-Alias.inner) c.args.found.now c.pattern.new.found (c.in_ok-name.ensures.meaning names) c.in-Alias.is
    (finds_both (c.in_ok-variable-in-Alias.ensures owner names of.0) inner))
    (c.pattern.ensures owner names of.1)

pub pattern-returns-in-Wildcard : goal.pattern-returns-in-Wildcard
pattern-returns-in-Wildcard t c owner names is = pattern_bare owner names c.args.p c.in_ok-name.field-0 c.args.found.now (c.in_ok-name.ensures.meaning names) c.in-Wildcard.is

pub pattern-returns-in_ok-constructor-in-Constructed :
    goal.pattern-returns-in_ok-constructor-in-Constructed
pattern-returns-in_ok-constructor-in-Constructed t c owner names is =
    let of = subst (PatternNodeIsOf owner names) c.in-Constructed.is (c.in_ok-name.ensures.owned owner names is) in
    on_ok c.patterns.result
    (λ inner. pattern_found owner names c.args.p c.in_ok-name.field-0 (pattern.Constructed c.in-Constructed.field-0 c.in-Constructed.name c.in-Constructed.arguments) c.args.found.now c.patterns.new.found
    (c.in_ok-name.ensures.meaning names) c.in-Constructed.is (finds_both (c.in_ok-constructor-in-Constructed.ensures owner names of.1) inner))
    (subst (λ (ps : List Pattern). All (PatternIsOf owner names) ps → OnOk c.patterns.result (Finds owner names c.constructor.new.self (patterns_bind names ps) (patterns_build names ps) c.patterns.new.found))
    c.as_slice.ensures.value (c.patterns.ensures owner names) of.2)

pub pattern-returns-in-Tuple : goal.pattern-returns-in-Tuple
pattern-returns-in-Tuple t c owner names is =
    let of = subst (PatternNodeIsOf owner names) c.in-Tuple.is (c.in_ok-name.ensures.owned owner names is) in
    on_ok c.patterns-in-Tuple.result
    (pattern_found owner names c.args.p c.in_ok-name.field-0 (pattern.Tuple c.in-Tuple.field-0 c.in-Tuple.components) c.args.found.now c.patterns-in-Tuple.new.found (c.in_ok-name.ensures.meaning names) c.in-Tuple.is)
    (subst (λ (ps : List Pattern). All (PatternIsOf owner names) ps → OnOk c.patterns-in-Tuple.result (Finds owner names c.args.found.now (patterns_bind names ps) (patterns_build names ps) c.patterns-in-Tuple.new.found))
    c.as_slice-in-Tuple.ensures.value (c.patterns-in-Tuple.ensures owner names) of.1)

pub pattern-returns-in-List : goal.pattern-returns-in-List
pattern-returns-in-List t c owner names is =
    let of = subst (PatternNodeIsOf owner names) c.in-List.is (c.in_ok-name.ensures.owned owner names is) in
    on_ok c.patterns-in-List.result
    (pattern_found owner names c.args.p c.in_ok-name.field-0 (pattern.List c.in-List.field-0 c.in-List.elements) c.args.found.now c.patterns-in-List.new.found (c.in_ok-name.ensures.meaning names) c.in-List.is)
    (subst (λ (ps : List Pattern). All (PatternIsOf owner names) ps → OnOk c.patterns-in-List.result (Finds owner names c.args.found.now (patterns_bind names ps) (patterns_build names ps) c.patterns-in-List.new.found))
    c.as_slice-in-List.ensures.value (c.patterns-in-List.ensures owner names) of.1)

pub pattern-returns-in_ok-pattern-in-Operators : goal.pattern-returns-in_ok-pattern-in-Operators
pattern-returns-in_ok-pattern-in-Operators t c owner names is =
    let of = subst (PatternNodeIsOf owner names) c.in-Operators.is (c.in_ok-name.ensures.owned owner names is) in
    on_ok c.operands.result
    (λ rest. pattern_found owner names c.args.p c.in_ok-name.field-0 (pattern.Operators c.in-Operators.items) c.args.found.now c.operands.new.found (c.in_ok-name.ensures.meaning names) c.in-Operators.is
    (finds_both (c.in_ok-pattern-in-Operators.ensures owner names of.1) rest))
    (subst (λ (ps : List ConstructorItem). All (ConstructorItemIsOf owner names) ps → OnOk c.operands.result (Finds owner names c.pattern-in-Operators.new.found (operands_bind names ps) (operands_build names ps) c.operands.new.found))
    c.as_slice-in-Operators.ensures.value (c.operands.ensures owner names) of.2)

pub patterns-pattern-requires : goal.patterns-pattern-requires
patterns-pattern-requires t c = (search (rules, largest pattern_size c.args.ps.now c.loop-p.p-index, c.loop-p-test.true), tt)

pub patterns-loop-p-preserved : goal.patterns-loop-p-preserved
patterns-loop-p-preserved t c owner names after all rest =
    c.loop-p.invariant owner names after all
    (patterns_prefix (PatternIsOf owner names) owner names c.args.ps.now c.loop-p.p-index c.p-item.result c.loop-p.found c.pattern.new.found after c.p-item.is c.loop-p-test.true all
    (λ of. c.in_ok-pattern.ensures owner names of) rest)

pub patterns-returns : goal.patterns-returns
patterns-returns t c owner names all =
    c.loop-p.invariant owner names c.loop-p.found all (patterns_end owner names c.args.ps.now c.loop-p.p-index c.loop-p.found c.loop-p-test.false)
