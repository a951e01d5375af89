-- The table: what each form of an expression stands for, as a term before lifting (Curry Report,
-- section on expressions; Haskell Report, section 3).
use Rattle.std.specs.Prelude.{ℤ, List, [], ◌∷◌, ◌++◌, Option, None, Some, codes, if◌then◌else◌}
use Rattle.cu_calculus.specs.declared.Mode.{Mode}
use Rattle.cu_calculus.specs.declared.Mode.TheVariants.{Flex, Rigid}
use Rattle.cu_fixity.specs.declared.fixity.Fixity.{Fixity}
use Rattle.cu_fixity.specs.Grouping.{Applied, Between, Infix, Item, Leaf, Prefix, Tree}
use Rattle.cu_fixity.specs.Grouping as items
use Rattle.cu_fixity.specs.Pieces.{minus}
use Rattle.cu_kernel.specs.LocalTerm as local
use Rattle.cu_kernel.specs.LocalTerm.{LocalAlternatives, LocalTerm, LocalTerms}
use Rattle.cu_kernel.specs.declared.local.LocalHead.TheVariants as head
use Rattle.cu_lex.specs.Located.{Position}
use Rattle.cu_syntax.specs.declared.expressions.CaseWord.{CaseWord}
use Rattle.cu_syntax.specs.declared.expressions.CaseWord.TheVariants.{Case, Fcase}
use Rattle.cu_syntax.specs.Syntax as syntax
use Rattle.cu_syntax.specs.Syntax.{Alternatives, Declaration, Declarations, Expression, Expressions, Guards, MaybeExpression, Name, OperatorRest, Pattern, Qualifier, Qualifiers, RightSide, pattern_position}
use Rattle.cu_uses.specs.Binders.{pattern_variables}
use Rattle.cu_translation.specs.Around.{Around, Names, Referent, fixity_at, name_alone, referent, tuple_name}
use Rattle.cu_translation.specs.Blocks.{Bound, block, bound, selections}
use Rattle.cu_translation.specs.GroupedTree.{grouped_tree}
use Rattle.cu_translation.specs.LocalNames.{At, Scope, Whole, block_entries, qualifier_entries, variable_entries}
use Rattle.cu_translation.specs.PatternTable.{pattern}
use Rattle.cu_translation.specs.Rules.{Begun, begun_in, is_of_function}
use Rattle.cu_translation.specs.Terms.{Operand, built_in, called, if_then_else, list, literal, negated, no_term, plain, referred, tuple}

-- ---- operators

-- an operator of an expression: its fixity, and what it refers to
pub record Operation : Type 0 where
  pub fixity : Fixity
  pub means : Referent

abbrev pub operation : Around → Scope → Name → Operation
operation around scope name =
    record { fixity = fixity_at around.names scope name; means = referent around scope name }

-- the minus before an operand, as an operator
abbrev pub negation : Names → Operation
negation names = record { fixity = minus; means = names.prelude (codes "negate") }

abbrev pub operand_items : Names → Option Position → Operand → List (Item Operand Operation)
operand_items names None o = items.Operand o ∷ []
operand_items names (Some at) o = Prefix (negation names) ∷ items.Operand o ∷ []

-- the operand that a grouped tree of operators makes: an operator between two operands is its call
-- on these
abbrev pub tree_operand : Names → Tree Operand Operation → Operand
tree_operand names (Leaf o) = o
tree_operand names (Applied o t) = plain (negated names (tree_operand names t))
tree_operand names (Between l o r) =
    plain (referred o.means (tree_operand names l ∷ tree_operand names r ∷ []))

abbrev pub tree_term : Names → Option (Tree Operand Operation) → LocalTerm
tree_term names None = no_term
tree_term names (Some t) = (tree_operand names t).term

abbrev pub grouped : Names → List (Item Operand Operation) → LocalTerm
grouped names parts = tree_term names (grouped_tree (λ (o : Operation). o.fixity) parts)

-- the number that an expression is, if it is written as one
abbrev pub number_alone : Expression → Option ℤ
number_alone (syntax.LiteralExpression at (syntax.Int n)) = Some n
number_alone _ = None

abbrev pub operand : Around → Scope → Expression → LocalTerm → Operand
operand around scope e t =
    record { term = t; name = name_alone around scope e; number = number_alone e }

-- ---- enumerations and comprehensions

-- the call for numbers from a first one, by the step to a second one, if it is there, and up to a
-- last one, if it is there
abbrev pub enumeration : Names → LocalTerm → Option LocalTerm → Option LocalTerm → LocalTerm
enumeration names first None None = built_in names (codes "enumFrom") (first ∷ [])
enumeration names first None (Some last) = built_in names (codes "enumFromTo") (first ∷ last ∷ [])
enumeration names first (Some second) None =
    built_in names (codes "enumFromThen") (first ∷ second ∷ [])
enumeration names first (Some second) (Some last) =
    built_in names (codes "enumFromThenTo") (first ∷ second ∷ last ∷ [])

-- the term of the local function whose first token stands here, without arguments
abbrev pub local_function : Around → Position → LocalTerm
local_function around at = local.Part (head.Local (around.numbers.function at)) local.NoTerm

abbrev pub mode : CaseWord → Mode
mode Case = Rigid
mode Fcase = Flex

-- ---- the table

abbrev mutual
  pub term : Around → Scope → Expression → LocalTerm
  -- names
  term around scope (syntax.Variable at name) = referred (referent around scope name) []
  term around scope (syntax.Constructor at name) = referred (around.names.value name) []
  term around scope (syntax.TupleConstructor at count) =
      referred (around.names.prelude (tuple_name count)) []
  -- a head with arguments, and another term with arguments
  term around scope (syntax.Application at f es) =
      called (operand around scope f (term around scope f)) (operands around scope es)
  -- literals, lists and tuples
  term around scope (syntax.LiteralExpression at found) = literal around.names found
  term around scope (syntax.ListOf at es) = list around.names (all_terms around scope es)
  term around scope (syntax.Tuple at es) = tuple around.names (all_terms around scope es)
  -- operators
  term around scope (syntax.Operators at minus first rest) =
      grouped around.names
      (operand_items around.names minus (operand around scope first (term around scope first)) ++
      rest_items around scope rest)
  -- sections: `op e`, and `flip op e`
  term around scope (syntax.LeftSection at e operator) =
      referred (referent around scope operator) (operand around scope e (term around scope e) ∷ [])
  term around scope (syntax.RightSection at operator e) =
      built_in around.names (codes "flip")
      (referred (referent around scope operator) [] ∷ term around scope e ∷ [])
  -- distinctions
  term around scope (syntax.If at condition chosen other) =
      if_then_else around.names (term around scope condition) (term around scope chosen)
      (term around scope other)
  term around scope (syntax.Case at word subject alternatives) =
      local.Case (mode word) (term around scope subject) (distinguished around scope alternatives)
  -- a new local function
  term around scope (syntax.Lambda at parameters body) = local_function around at
  term around scope (syntax.Enumeration at first second last) =
      enumeration around.names (term around scope first) (maybe_term around scope second)
      (maybe_term around scope last)
  term around scope (syntax.Comprehension at element qualifiers) =
      comprehension around
      (λ inner. list around.names (term around inner element ∷ [])) scope qualifiers
  term around scope (syntax.Let at ds body) =
      let inner = block_entries ds ++ scope
      in block around ds (lets around inner None ds) (term around inner body)

  pub operands : Around → Scope → Expressions → List Operand
  operands around scope syntax.NoExpression = []
  operands around scope (syntax.MoreExpressions e es) =
      operand around scope e (term around scope e) ∷ operands around scope es

  pub all_terms : Around → Scope → Expressions → List LocalTerm
  all_terms around scope syntax.NoExpression = []
  all_terms around scope (syntax.MoreExpressions e es) =
      term around scope e ∷ all_terms around scope es

  pub maybe_term : Around → Scope → MaybeExpression → Option LocalTerm
  maybe_term around scope syntax.Absent = None
  maybe_term around scope (syntax.Present e) = Some (term around scope e)

  pub rest_items : Around → Scope → OperatorRest → List (Item Operand Operation)
  rest_items around scope syntax.NoOperator = []
  rest_items around scope (syntax.ThenOperator operator minus e rest) =
      Infix (operation around scope operator) ∷
      operand_items around.names minus (operand around scope e (term around scope e)) ++
      rest_items around scope rest

  pub distinguished : Around → Scope → Alternatives → LocalAlternatives
  distinguished around scope syntax.NoAlternative = local.NoAlternative
  distinguished around scope (syntax.MoreAlternatives at p right alternatives) =
      local.MoreAlternatives (pattern around At p)
      (right_term around (variable_entries (pattern_variables p) ++ scope) right)
      (distinguished around scope alternatives)

  -- The term of a comprehension. Each qualifier is around those after it and around the element,
  -- which is given the names in scope after all of them.
  pub comprehension : Around → (Scope → LocalTerm) → Scope → Qualifiers → LocalTerm
  comprehension around element scope syntax.NoQualifier = element scope
  comprehension around element scope (syntax.MoreQualifiers q qs) =
      qualified around scope (comprehension around element (qualifier_entries q ++ scope) qs) q

  -- the term of a qualifier before the rest of a comprehension
  pub qualified : Around → Scope → LocalTerm → Qualifier → LocalTerm
  qualified around scope rest (syntax.Condition at condition) =
      if_then_else around.names (term around scope condition) rest (list around.names [])
  qualified around scope rest (syntax.LocalDeclarations at ds) =
      block around ds (lets around (block_entries ds ++ scope) None ds) rest
  -- the rest stands in the local function
  qualified around scope rest (syntax.Generator at p e) =
      built_in around.names (codes "concatMap")
      (local_function around at ∷ term around scope e ∷ [])

  -- the term of what follows `=` or `->`: the block after `where` is around the guards
  pub right_term : Around → Scope → RightSide → LocalTerm
  right_term around scope (syntax.Plain at e ds) =
      let inner = block_entries ds ++ scope
      in block around ds (lets around inner None ds) (term around inner e)
  right_term around scope (syntax.Guarded at guards ds) =
      let inner = block_entries ds ++ scope
      in block around ds (lets around inner None ds) (guarded around inner guards)

  -- the term of guards: the expression of the first condition that is True, and `failed` where
  -- there is none
  pub guarded : Around → Scope → Guards → LocalTerm
  guarded around scope syntax.NoGuard = built_in around.names (codes "failed") []
  guarded around scope (syntax.MoreGuards at condition e guards) =
      if_then_else around.names (term around scope condition) (term around scope e)
      (guarded around scope guards)

  -- the local variables that declarations define, in the order of the text
  pub lets : Around → Scope → Option Begun → Declarations → List Bound
  lets around scope begun syntax.NoDeclaration = []
  lets around scope begun (syntax.MoreDeclarations d ds) =
      let_of around scope begun d ++ lets around scope (begun_in begun d) ds

  pub let_of : Around → Scope → Option Begun → Declaration → List Bound
  let_of around scope begun (syntax.FreeVariables at names) = []
  let_of around scope begun (syntax.Signature at names t) = []
  let_of around scope begun (syntax.FunctionRule at name parameters right) =
      if is_of_function begun name parameters then []
      else bound (At name.at) (right_term around scope right) ∷ []
  let_of around scope begun (syntax.PatternBinding at p right) =
      bound (Whole (pattern_position p)) (right_term around scope right) ∷ selections around p
