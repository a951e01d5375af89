use Rattle.std.proofs.Common.{◌≡◌, rules, arith, List, length, subst}
use Rattle.std.specs.List.{All}
use Rattle.std.specs.Prelude.{OnOk}
use Rattle.cu_syntax.proofs.Elements.{largest}
use Rattle.cu_syntax.specs.declared.patterns.ConstructorItem.{ConstructorItem}
use Rattle.cu_syntax.specs.declared.patterns.Pattern.{Pattern}
use Rattle.cu_syntax.specs.declared.patterns.PatternNode.TheVariants as pattern
use Rattle.cu_syntax.specs.Owners.{ConstructorItemIsOf, PatternIsOf, PatternNodeIsOf}
use Rattle.cu_syntax.specs.Smaller.{constructor_item_size, pattern_size}
use Rattle.cu_uses.proofs.FoundLemmas.{on_ok}
use Rattle.cu_faults.specs.Inside.Patterns.{constructed_told, operands_told, operators_told, pattern_told, patterns_told}
use Rattle.cu_faults.specs.Telling.{Told}
use Rattle.cu_faults.proofs.PatternLemmas.{operands_end, operands_prefix, pattern_by, patterns_end, patterns_prefix}
use Rattle.cu_faults.proofs.ToldLemmas.{told_both, told_none}
use Rattle.cu_faults.proofs.patterns.+patterns.Goals as goal

pub operands-pattern-requires : goal.operands-pattern-requires
operands-pattern-requires g t c = λ κs e. (search (rules, largest constructor_item_size c.args.items.now c.loop-item.item-index, c.loop-item-test.true), search (rules, e))

pub operands-loop-item-preserved : goal.operands-loop-item-preserved
operands-loop-item-preserved g t c w after tells all rest =
    c.loop-item.invariant w after tells all
    (operands_prefix (ConstructorItemIsOf w.owner w.names) c.args.sought w c.args.items.now c.loop-item.item-index c.item-item.result c.loop-item.first c.pattern.new.first after c.item-item.is c.loop-item-test.true all
    (λ of. told_both (c.constructed.ensures w tells of.0) (c.in_ok-pattern.ensures w tells of.1)) rest)

pub operands-returns : goal.operands-returns
operands-returns g t c w tells all =
    c.loop-item.invariant w c.loop-item.first tells all (operands_end c.args.sought w c.args.items.now c.loop-item.item-index c.loop-item.first c.loop-item-test.false)

pub patterns-pattern-requires : goal.patterns-pattern-requires
patterns-pattern-requires g t c = λ κs e. (search (rules, largest pattern_size c.args.ps.now c.loop-p.p-index, c.loop-p-test.true), search (rules, e))

pub patterns-loop-p-preserved : goal.patterns-loop-p-preserved
patterns-loop-p-preserved g t c w after tells all rest =
    c.loop-p.invariant w after tells all
    (patterns_prefix (PatternIsOf w.owner w.names) c.args.sought w c.args.ps.now c.loop-p.p-index c.p-item.result c.loop-p.first c.pattern.new.first after c.p-item.is c.loop-p-test.true all
    (λ of. c.in_ok-pattern.ensures w tells of) rest)

pub patterns-returns : goal.patterns-returns
patterns-returns g t c w tells all =
    c.loop-p.invariant w c.loop-p.first tells all (patterns_end c.args.sought w c.args.ps.now c.loop-p.p-index c.loop-p.first c.loop-p-test.false)

pub pattern-returns-in-Variable : goal.pattern-returns-in-Variable
pattern-returns-in-Variable g t c w tells is =
    pattern_by c.args.sought w c.args.p c.in_ok-node.field-0 (pattern.Variable c.in-Variable.field-0) c.args.first.now c.args.first.now
    (c.in_ok-node.ensures.meaning w.names) c.in-Variable.is (told_none w.owner c.args.first.now)

pub pattern-returns-in-Wildcard : goal.pattern-returns-in-Wildcard
pattern-returns-in-Wildcard g t c w tells is =
    pattern_by c.args.sought w c.args.p c.in_ok-node.field-0 (pattern.Wildcard c.in-Wildcard.field-0) c.args.first.now c.args.first.now
    (c.in_ok-node.ensures.meaning w.names) c.in-Wildcard.is (told_none w.owner c.args.first.now)

pub pattern-returns-in-Literal : goal.pattern-returns-in-Literal
pattern-returns-in-Literal g t c w tells is =
    pattern_by c.args.sought w c.args.p c.in_ok-node.field-0 (pattern.Literal c.in-Literal.field-0 c.in-Literal.field-1) c.args.first.now c.args.first.now
    (c.in_ok-node.ensures.meaning w.names) c.in-Literal.is (told_none w.owner c.args.first.now)

pub pattern-returns-in-Negative : goal.pattern-returns-in-Negative
pattern-returns-in-Negative g t c w tells is =
    pattern_by c.args.sought w c.args.p c.in_ok-node.field-0 (pattern.Negative c.in-Negative.field-0 c.in-Negative.field-1) c.args.first.now c.args.first.now
    (c.in_ok-node.ensures.meaning w.names) c.in-Negative.is (told_none w.owner c.args.first.now)

pub pattern-returns-in-Alias : goal.pattern-returns-in-Alias
pattern-returns-in-Alias g t c w tells is =
    let of = subst (PatternNodeIsOf w.owner w.names) c.in-Alias.is (c.in_ok-node.ensures.owned w.owner w.names is) in
    on_ok c.pattern.result
    (pattern_by c.args.sought w c.args.p c.in_ok-node.field-0 (pattern.Alias c.in-Alias.field-0 c.in-Alias.inner) c.args.first.now c.pattern.new.first
    (c.in_ok-node.ensures.meaning w.names) c.in-Alias.is)
    (c.pattern.ensures w tells of.1)

pub pattern-returns-in-Constructed : goal.pattern-returns-in-Constructed
pattern-returns-in-Constructed g t c w tells is =
    let of = subst (PatternNodeIsOf w.owner w.names) c.in-Constructed.is (c.in_ok-node.ensures.owned w.owner w.names is) in
    let count : c.len.result ≡ length c.in-Constructed.arguments.items = omega (arith, c.len.ensures) in
    on_ok c.patterns.result
    (λ inner. pattern_by c.args.sought w c.args.p c.in_ok-node.field-0 (pattern.Constructed c.in-Constructed.field-0 c.in-Constructed.name c.in-Constructed.arguments) c.args.first.now c.patterns.new.first
    (c.in_ok-node.ensures.meaning w.names) c.in-Constructed.is
    (told_both (subst (λ n. Told w.owner c.args.first.now (constructed_told c.args.sought w c.in-Constructed.name n) c.constructed.new.first) count (c.constructed.ensures w tells of.1)) inner))
    (subst (λ (ps : List Pattern). All (PatternIsOf w.owner w.names) ps → OnOk c.patterns.result (Told w.owner c.constructed.new.first (patterns_told c.args.sought w ps) c.patterns.new.first))
    c.as_slice.ensures.value (c.patterns.ensures w tells) of.2)

pub pattern-returns-in-Tuple : goal.pattern-returns-in-Tuple
pattern-returns-in-Tuple g t c w tells is =
    let of = subst (PatternNodeIsOf w.owner w.names) c.in-Tuple.is (c.in_ok-node.ensures.owned w.owner w.names is) in
    on_ok c.patterns-in-Tuple.result
    (pattern_by c.args.sought w c.args.p c.in_ok-node.field-0 (pattern.Tuple c.in-Tuple.field-0 c.in-Tuple.components) c.args.first.now c.patterns-in-Tuple.new.first
    (c.in_ok-node.ensures.meaning w.names) c.in-Tuple.is)
    (subst (λ (ps : List Pattern). All (PatternIsOf w.owner w.names) ps → OnOk c.patterns-in-Tuple.result (Told w.owner c.args.first.now (patterns_told c.args.sought w ps) c.patterns-in-Tuple.new.first))
    c.as_slice-in-Tuple.ensures.value (c.patterns-in-Tuple.ensures w tells) of.1)

pub pattern-returns-in-List : goal.pattern-returns-in-List
pattern-returns-in-List g t c w tells is =
    let of = subst (PatternNodeIsOf w.owner w.names) c.in-List.is (c.in_ok-node.ensures.owned w.owner w.names is) in
    on_ok c.patterns-in-List.result
    (pattern_by c.args.sought w c.args.p c.in_ok-node.field-0 (pattern.List c.in-List.field-0 c.in-List.elements) c.args.first.now c.patterns-in-List.new.first
    (c.in_ok-node.ensures.meaning w.names) c.in-List.is)
    (subst (λ (ps : List Pattern). All (PatternIsOf w.owner w.names) ps → OnOk c.patterns-in-List.result (Told w.owner c.args.first.now (patterns_told c.args.sought w ps) c.patterns-in-List.new.first))
    c.as_slice-in-List.ensures.value (c.patterns-in-List.ensures w tells) of.1)

pub pattern-returns-in_ok-pattern-in-Operators : goal.pattern-returns-in_ok-pattern-in-Operators
pattern-returns-in_ok-pattern-in-Operators g t c w tells is =
    let of = subst (PatternNodeIsOf w.owner w.names) c.in-Operators.is (c.in_ok-node.ensures.owned w.owner w.names is) in
    on_ok c.operands.result
    (λ rest. pattern_by c.args.sought w c.args.p c.in_ok-node.field-0 (pattern.Operators c.in-Operators.items) c.args.first.now c.operands.new.first
    (c.in_ok-node.ensures.meaning w.names) c.in-Operators.is
    (told_both {fs = operators_told c.args.sought w c.in-Operators.items} (c.in_ok-operators-in-Operators.ensures w tells of) (told_both {fs = pattern_told c.args.sought w c.in-Operators.items.first} (c.in_ok-pattern-in-Operators.ensures w tells of.1) rest)))
    (subst (λ (items : List ConstructorItem). All (ConstructorItemIsOf w.owner w.names) items
    → OnOk c.operands.result (Told w.owner c.pattern-in-Operators.new.first (operands_told c.args.sought w items) c.operands.new.first))
    c.as_slice-in-Operators.ensures.value (c.operands.ensures w tells) of.2)
