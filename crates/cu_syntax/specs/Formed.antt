-- How many parts a node may have, by the grammar.
use Rattle.std.specs.Prelude.{◌≡◌, ◌<◌, List, Option, None, Some, length}
use Rattle.cu_syntax.specs.declared.expressions.ExpressionNode.{ExpressionNode}
use Rattle.cu_syntax.specs.declared.expressions.ExpressionNode.TheVariants as expression
use Rattle.cu_syntax.specs.declared.patterns.PatternNode.{PatternNode}
use Rattle.cu_syntax.specs.declared.patterns.PatternNode.TheVariants as pattern
use Rattle.cu_syntax.specs.declared.types.TypeNode.{TypeNode}
use Rattle.cu_syntax.specs.declared.types.TypeNode.TheVariants as type_term

abbrev pub AreSome : {X : Type 0} → List X → Type 0
AreSome xs = 0 < length xs

-- components of a tuple: none, or two or more
abbrev pub AreComponents : {X : Type 0} → List X → Type 0
AreComponents xs = ¬ (length xs ≡ 1)

abbrev pub TypeNodeIsFormed : TypeNode → Type 0
TypeNodeIsFormed (type_term.Tuple place components) = AreComponents components.items
TypeNodeIsFormed _ = Unit {0}

abbrev pub PatternNodeIsFormed : PatternNode → Type 0
PatternNodeIsFormed (pattern.Tuple place components) = AreComponents components.items
PatternNodeIsFormed (pattern.Operators items) = AreSome items.rest.items
PatternNodeIsFormed _ = Unit {0}

-- Operands and operators without a minus before the first operand have an operator.
abbrev pub HasOperator : {X Y : Type 0} → Option X → List Y → Type 0
HasOperator None rest = AreSome rest
HasOperator (Some minus) rest = Unit {0}

abbrev pub ExpressionNodeIsFormed : ExpressionNode → Type 0
ExpressionNodeIsFormed (expression.Application place function arguments) = AreSome arguments.items
ExpressionNodeIsFormed (expression.Operators items) = HasOperator items.minus items.rest.items
ExpressionNodeIsFormed (expression.Lambda place parameters inner) = AreSome parameters.items
ExpressionNodeIsFormed (expression.Tuple place components) = AreComponents components.items
ExpressionNodeIsFormed (expression.TupleConstructor place count) = 1 < count
ExpressionNodeIsFormed _ = Unit {0}
