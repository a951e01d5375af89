-- The items of expressions and patterns with operators, and trees of them.
use Rattle.std.specs.Prelude.{◌≡◌, List, [], ◌∷◌, ◌++◌, Option, None, Some}
use Rattle.cu_lex.specs.Located.{Position}
use Rattle.cu_syntax.specs.Syntax as syntax
use Rattle.cu_syntax.specs.Syntax.{Expression, Name, OperatorRest, Pattern, PatternRest}
use Rattle.cu_fixity.specs.declared.fixity.Fixity.{Fixity}
use Rattle.cu_fixity.specs.Grouping.{Applied, Between, Grouped, Infix, Item, Leaf, Operand, Prefix, Tree}
use Rattle.cu_fixity.specs.Pieces.{minus}

-- a minus before its only operand, or an operator between two
pub data Operator : Type 0 where
  Minus : Position → Operator
  Named : Name → Operator

-- the fixity of an operator, from those of the names
abbrev pub fixity_with : (Name → Fixity) → Operator → Fixity
fixity_with fixity (Minus at) = minus
fixity_with fixity (Named name) = fixity name

-- an operand, with a minus before it or without
abbrev pub operand_items : Option Position → Expression → List (Item Expression Operator)
operand_items None e = Operand e ∷ []
operand_items (Some at) e = Prefix (Minus at) ∷ Operand e ∷ []

abbrev pub rest_items : OperatorRest → List (Item Expression Operator)
rest_items syntax.NoOperator = []
rest_items (syntax.ThenOperator name minus e rest) =
    Infix (Named name) ∷ operand_items minus e ++ rest_items rest

-- the items of an expression
abbrev pub expression_items : Expression → List (Item Expression Operator)
expression_items (syntax.Operators at minus first rest) =
    operand_items minus first ++ rest_items rest
expression_items e = Operand e ∷ []

abbrev pub pattern_rest_items : PatternRest → List (Item Pattern Operator)
pattern_rest_items syntax.NoConstructor = []
pattern_rest_items (syntax.ThenConstructor name p rest) =
    Infix (Named name) ∷ Operand p ∷ pattern_rest_items rest

-- the items of a pattern
abbrev pub pattern_items : Pattern → List (Item Pattern Operator)
pattern_items (syntax.PatternOperators at first rest) = Operand first ∷ pattern_rest_items rest
pattern_items p = Operand p ∷ []

-- a tree in Polish notation: each operator before its operands
abbrev pub polish : {A O : Type 0} → Tree A O → List (Item A O)
polish (Leaf a) = Operand a ∷ []
polish (Applied o t) = Prefix o ∷ polish t
polish (Between l o r) = Infix o ∷ polish l ++ polish r

-- These are the items in Polish notation of a tree of a list of items whose operands fit.
pub record IsGrouped {A O : Type 0} (fixity : O → Fixity) (items : List (Item A O))
    (parts : List (Item A O)) : Type 0 where
  pub tree : Tree A O
  pub grouped : Grouped fixity items tree
  pub spelled : polish tree ≡ parts
