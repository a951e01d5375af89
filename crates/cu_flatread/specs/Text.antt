-- The text of a module in FlatCurry (Hanus and others). Each module has one.
use Rattle.std.specs.Prelude.{ℕ, List, [], ◌∷◌, ◌++◌, codes, decimal, if◌then◌else◌, map}
use Rattle.std.specs.Fmt.{signed_decimal}
use Rattle.cu_calculus.specs.declared.Lit.{Lit}
use Rattle.cu_calculus.specs.declared.Lit.TheVariants as lit
use Rattle.cu_calculus.specs.declared.Mode.{Mode}
use Rattle.cu_calculus.specs.declared.Mode.TheVariants.{Flex, Rigid}
use Rattle.cu_int.specs.Integers.{is_negative}
use Rattle.cu_flatread.specs.Modules as m
use Rattle.cu_flatread.specs.Modules.{Branches, Built, Constructor, Declaration, Exactly, Expression, Expressions, External, Function, FunctionRule, Module, MoreBranches, MoreExpressions, MoreTypes, NoBranch, NoExpression, NoType, OfType, OfTypeSyn, Operator, Pattern, RightSide, Rule, TypeExpression, TypeExpressions}
use Rattle.cu_flatread.specs.Notation.{Entity, entity_text, in_parentheses, lines_text, list_text, quoted, side_text, visibility_text}
use Rattle.cu_flatread.specs.declared.cells.CombKind.{CombKind}
use Rattle.cu_flatread.specs.declared.cells.CombKind.TheVariants.{FuncCall, ConsCall, FuncPartCall, ConsPartCall}

-- the numbers of variables, as `[1,2]`
abbrev pub numbers_text : List ℕ → List ℕ
numbers_text numbers = list_text (map decimal numbers)

-- ---- types

abbrev mutual
  pub type_text : TypeExpression Entity → List ℕ
  type_text (m.Variable x) = codes "TVar " ++ decimal x
  type_text (m.Arrow a b) =
      codes "FuncType " ++ (in_parentheses (type_text a)
      ++ (codes " " ++ in_parentheses (type_text b)))
  type_text (m.Named e ts) =
      codes "TCons " ++ (entity_text e ++ (codes " " ++ list_text (type_texts ts)))

  -- the texts of several types
  pub type_texts : TypeExpressions Entity → List (List ℕ)
  type_texts NoType = []
  type_texts (MoreTypes t ts) = type_text t ∷ type_texts ts

abbrev pub constructor_text : Constructor → List ℕ
constructor_text c =
    codes "Cons " ++ (entity_text c.entity ++ (codes " " ++ (decimal c.arity
    ++ (codes " " ++ (visibility_text c.public ++ (codes " "
    ++ list_text (type_texts c.fields)))))))

-- the text of a declaration of a type
abbrev pub declaration_text : Declaration → List ℕ
declaration_text d =
    word d.right_side ++ (entity_text d.entity ++ (codes " " ++ (visibility_text d.public
    ++ (codes " " ++ (numbers_text d.parameters ++ (codes " " ++ right_side_text d.right_side))))))
  where
    word : RightSide → List ℕ
    word (OfType cs) = codes "Type "
    word (OfTypeSyn t) = codes "TypeSyn "

    right_side_text : RightSide → List ℕ
    right_side_text (OfType cs) = list_text (map constructor_text cs)
    right_side_text (OfTypeSyn t) = in_parentheses (type_text t)

-- ---- expressions

-- a literal, as `Intc 5`, `Intc (-5)` or `Charc 97`: a character by its number in Unicode
abbrev pub literal_text : Lit → List ℕ
literal_text (lit.Int n) =
    codes "Intc " ++ (if is_negative n then in_parentheses (signed_decimal n) else signed_decimal n)
literal_text (lit.Char c) = codes "Charc " ++ decimal c

-- the kind of a Comb; one with a number stands in parentheses
abbrev pub kind_text : CombKind → List ℕ
kind_text FuncCall = codes "FuncCall"
kind_text ConsCall = codes "ConsCall"
kind_text (FuncPartCall n) = in_parentheses (codes "FuncPartCall " ++ decimal n)
kind_text (ConsPartCall n) = in_parentheses (codes "ConsPartCall " ++ decimal n)

-- whether a case distinction is flexible or rigid
abbrev pub mode_text : Mode → List ℕ
mode_text Flex = codes "Flex"
mode_text Rigid = codes "Rigid"

abbrev pub pattern_text : Pattern Entity → List ℕ
pattern_text (Built e xs) =
    codes "Pattern " ++ (entity_text e ++ (codes " " ++ numbers_text xs))
pattern_text (Exactly l) = codes "LPattern " ++ in_parentheses (literal_text l)

abbrev mutual
  pub expression_text : Expression Entity → List ℕ
  expression_text (m.Var x) = codes "Var " ++ decimal x
  expression_text (m.Literal l) = codes "Lit " ++ in_parentheses (literal_text l)
  expression_text (m.Comb kind e ts) =
      codes "Comb " ++ (kind_text kind ++ (codes " " ++ (entity_text e
      ++ (codes " " ++ list_text (expression_texts ts)))))
  expression_text (m.Let x a b) =
      codes "Let [(" ++ (decimal x ++ (codes "," ++ (expression_text a
      ++ (codes ")] " ++ in_parentheses (expression_text b)))))
  expression_text (m.Free x a) =
      codes "Free [" ++ (decimal x ++ (codes "] " ++ in_parentheses (expression_text a)))
  expression_text (m.Or a b) =
      codes "Or " ++ (in_parentheses (expression_text a)
      ++ (codes " " ++ in_parentheses (expression_text b)))
  expression_text (m.Case mode a branches) =
      codes "Case " ++ (mode_text mode ++ (codes " " ++ (in_parentheses (expression_text a)
      ++ (codes " " ++ list_text (branch_texts branches)))))

  -- the texts of several expressions
  pub expression_texts : Expressions Entity → List (List ℕ)
  expression_texts NoExpression = []
  expression_texts (MoreExpressions t ts) = expression_text t ∷ expression_texts ts

  -- the texts of several branches
  pub branch_texts : Branches Entity → List (List ℕ)
  branch_texts NoBranch = []
  branch_texts (MoreBranches p t branches) =
      (codes "Branch " ++ (in_parentheses (pattern_text p)
      ++ (codes " " ++ in_parentheses (expression_text t))))
      ∷ branch_texts branches

-- ---- functions and modules

-- the rule of a function, or the name under which it is built in
abbrev pub rule_text : FunctionRule → List ℕ
rule_text (Rule xs t) =
    codes "Rule " ++ (numbers_text xs ++ (codes " " ++ in_parentheses (expression_text t)))
rule_text (External name) = codes "External " ++ quoted name

abbrev pub function_text : Function → List ℕ
function_text f =
    codes "Func " ++ (entity_text f.entity ++ (codes " " ++ (decimal f.arity
    ++ (codes " " ++ (visibility_text f.public ++ (codes " "
    ++ (in_parentheses (type_text f.of_type) ++ (codes " "
    ++ in_parentheses (rule_text f.rule)))))))))

abbrev pub operator_text : Operator → List ℕ
operator_text o =
    codes "Op " ++ (entity_text o.entity ++ (codes " " ++ (side_text o.side
    ++ (codes " " ++ decimal o.level))))

-- the text of a module
abbrev pub module_text : Module → List ℕ
module_text flat =
    codes "Prog " ++ (quoted flat.name ++ (codes " " ++ (list_text (map quoted flat.imports)
    ++ (codes " " ++ (lines_text (map declaration_text flat.types)
    ++ (codes " " ++ (lines_text (map function_text flat.functions)
    ++ (codes " " ++ (lines_text (map operator_text flat.operators) ++ codes "\n")))))))))
