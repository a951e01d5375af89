use Rattle.std.proofs.Common.{rules, List, subst}
use Rattle.std.specs.List.{All}
use Rattle.cu_syntax.proofs.Elements.{largest}
use Rattle.cu_syntax.specs.declared.patterns.PatternNode.TheVariants as pattern
use Rattle.cu_syntax.specs.declared.patterns.ConstructorItem.{ConstructorItem}
use Rattle.cu_syntax.specs.declared.patterns.Pattern.{Pattern}
use Rattle.cu_syntax.specs.Owners.{ConstructorItemIsOf, PatternIsOf, PatternNodeIsOf}
use Rattle.cu_syntax.specs.Smaller.{constructor_item_size, pattern_size}
use Rattle.std.specs.Prelude.{OnOk}
use Rattle.cu_uses.specs.Gathered.{operands_bind, patterns_bind}
use Rattle.cu_uses.proofs.FoundLemmas.{on_ok}
use Rattle.cu_locals.specs.Places.{Finds, operands_place, patterns_place}
use Rattle.cu_locals.proofs.PatternLemmas.{finds_both, finds_none, operands_end, operands_prefix, pattern_found, patterns_end, patterns_prefix}
use Rattle.cu_locals.proofs.declared.+patterns.Goals as goal

pub operands-pattern-requires : goal.operands-pattern-requires
operands-pattern-requires t c = (search (rules, largest constructor_item_size c.args.items.now c.loop-item.item-index, c.loop-item-test.true), tt)

pub operands-loop-item-preserved : goal.operands-loop-item-preserved
operands-loop-item-preserved t c w after all rest =
    c.loop-item.invariant w after all
    (operands_prefix (ConstructorItemIsOf w.owner w.names) w c.args.items.now c.loop-item.item-index c.item-item.result c.loop-item.found c.pattern.new.found after c.item-item.is c.loop-item-test.true all
    (λ of. c.in_ok-pattern.ensures w of.1) rest)

pub operands-returns : goal.operands-returns
operands-returns t c w all =
    c.loop-item.invariant w c.loop-item.found all (operands_end w c.args.items.now c.loop-item.item-index c.loop-item.found c.loop-item-test.false)

pub pattern-returns-in-Variable : goal.pattern-returns-in-Variable
pattern-returns-in-Variable t c w is =
    let of = subst (PatternNodeIsOf w.owner w.names) c.in-Variable.is (c.in_ok-name.ensures.owned w.owner w.names is) in
    on_ok c.variable.result
    (pattern_found w c.args.p c.in_ok-name.field-0 (pattern.Variable c.in-Variable.name) c.args.found.now c.variable.new.self (c.in_ok-name.ensures.meaning w.names) c.in-Variable.is)
    (c.variable.ensures w of)

pub pattern-returns-in_ok-variable-in-Alias : goal.pattern-returns-in_ok-variable-in-Alias
pattern-returns-in_ok-variable-in-Alias t c w is =
    let of = subst (PatternNodeIsOf w.owner w.names) c.in-Alias.is (c.in_ok-name.ensures.owned w.owner w.names is) in
    on_ok c.pattern.result
    (λ inner. pattern_found w c.args.p c.in_ok-name.field-0 (pattern.Alias c.in-Alias.name c.in-Alias.inner) c.args.found.now c.pattern.new.found (c.in_ok-name.ensures.meaning w.names) c.in-Alias.is
    (finds_both (c.in_ok-variable-in-Alias.ensures w of.0) inner))
    (c.pattern.ensures w of.1)

pub pattern-returns-in-Wildcard : goal.pattern-returns-in-Wildcard
pattern-returns-in-Wildcard t c w is =
    on_ok c.wildcard.result
    (pattern_found w c.args.p c.in_ok-name.field-0 (pattern.Wildcard c.in-Wildcard.place) c.args.found.now c.wildcard.new.self (c.in_ok-name.ensures.meaning w.names) c.in-Wildcard.is)
    (c.wildcard.ensures w)

pub pattern-returns-in-Literal : goal.pattern-returns-in-Literal
pattern-returns-in-Literal t c w is =
    pattern_found w c.args.p c.in_ok-name.field-0 (pattern.Literal c.in-Literal.field-0 c.in-Literal.field-1) c.args.found.now c.args.found.now (c.in_ok-name.ensures.meaning w.names) c.in-Literal.is (finds_none w c.args.found.now)

pub pattern-returns-in-Negative : goal.pattern-returns-in-Negative
pattern-returns-in-Negative t c w is =
    pattern_found w c.args.p c.in_ok-name.field-0 (pattern.Negative c.in-Negative.field-0 c.in-Negative.field-1) c.args.found.now c.args.found.now (c.in_ok-name.ensures.meaning w.names) c.in-Negative.is (finds_none w c.args.found.now)

pub pattern-returns-in-Constructed : goal.pattern-returns-in-Constructed
pattern-returns-in-Constructed t c w is =
    let of = subst (PatternNodeIsOf w.owner w.names) c.in-Constructed.is (c.in_ok-name.ensures.owned w.owner w.names is) in
    on_ok c.patterns.result
    (pattern_found w c.args.p c.in_ok-name.field-0 (pattern.Constructed c.in-Constructed.field-0 c.in-Constructed.field-1 c.in-Constructed.arguments) c.args.found.now c.patterns.new.found (c.in_ok-name.ensures.meaning w.names) c.in-Constructed.is)
    (subst (λ (ps : List Pattern). All (PatternIsOf w.owner w.names) ps → OnOk c.patterns.result (Finds w c.args.found.now (patterns_bind w.names ps) (patterns_place w.names ps) c.patterns.new.found))
    c.as_slice.ensures.value (c.patterns.ensures w) of.2)

pub pattern-returns-in-Tuple : goal.pattern-returns-in-Tuple
pattern-returns-in-Tuple t c w is =
    let of = subst (PatternNodeIsOf w.owner w.names) c.in-Tuple.is (c.in_ok-name.ensures.owned w.owner w.names is) in
    on_ok c.patterns-in-Tuple.result
    (pattern_found w c.args.p c.in_ok-name.field-0 (pattern.Tuple c.in-Tuple.field-0 c.in-Tuple.components) c.args.found.now c.patterns-in-Tuple.new.found (c.in_ok-name.ensures.meaning w.names) c.in-Tuple.is)
    (subst (λ (ps : List Pattern). All (PatternIsOf w.owner w.names) ps → OnOk c.patterns-in-Tuple.result (Finds w c.args.found.now (patterns_bind w.names ps) (patterns_place w.names ps) c.patterns-in-Tuple.new.found))
    c.as_slice-in-Tuple.ensures.value (c.patterns-in-Tuple.ensures w) of.1)

pub pattern-returns-in-List : goal.pattern-returns-in-List
pattern-returns-in-List t c w is =
    let of = subst (PatternNodeIsOf w.owner w.names) c.in-List.is (c.in_ok-name.ensures.owned w.owner w.names is) in
    on_ok c.patterns-in-List.result
    (pattern_found w c.args.p c.in_ok-name.field-0 (pattern.List c.in-List.field-0 c.in-List.elements) c.args.found.now c.patterns-in-List.new.found (c.in_ok-name.ensures.meaning w.names) c.in-List.is)
    (subst (λ (ps : List Pattern). All (PatternIsOf w.owner w.names) ps → OnOk c.patterns-in-List.result (Finds w c.args.found.now (patterns_bind w.names ps) (patterns_place w.names ps) c.patterns-in-List.new.found))
    c.as_slice-in-List.ensures.value (c.patterns-in-List.ensures w) of.1)

pub pattern-returns-in_ok-pattern-in-Operators : goal.pattern-returns-in_ok-pattern-in-Operators
pattern-returns-in_ok-pattern-in-Operators t c w is =
    let of = subst (PatternNodeIsOf w.owner w.names) c.in-Operators.is (c.in_ok-name.ensures.owned w.owner w.names is) in
    on_ok c.operands.result
    (λ rest. pattern_found w c.args.p c.in_ok-name.field-0 (pattern.Operators c.in-Operators.items) c.args.found.now c.operands.new.found (c.in_ok-name.ensures.meaning w.names) c.in-Operators.is
    (finds_both (c.in_ok-pattern-in-Operators.ensures w of.1) rest))
    (subst (λ (ps : List ConstructorItem). All (ConstructorItemIsOf w.owner w.names) ps → OnOk c.operands.result (Finds w c.pattern-in-Operators.new.found (operands_bind w.names ps) (operands_place w.names ps) c.operands.new.found))
    c.as_slice-in-Operators.ensures.value (c.operands.ensures w) of.2)

pub patterns-pattern-requires : goal.patterns-pattern-requires
patterns-pattern-requires t c = (search (rules, largest pattern_size c.args.ps.now c.loop-p.p-index, c.loop-p-test.true), tt)

pub patterns-loop-p-preserved : goal.patterns-loop-p-preserved
patterns-loop-p-preserved t c w after all rest =
    c.loop-p.invariant w after all
    (patterns_prefix (PatternIsOf w.owner w.names) w c.args.ps.now c.loop-p.p-index c.p-item.result c.loop-p.found c.pattern.new.found after c.p-item.is c.loop-p-test.true all
    (λ of. c.in_ok-pattern.ensures w of) rest)

pub patterns-returns : goal.patterns-returns
patterns-returns t c w all =
    c.loop-p.invariant w c.loop-p.found all (patterns_end w c.args.ps.now c.loop-p.p-index c.loop-p.found c.loop-p-test.false)
