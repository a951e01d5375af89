-- The expressions that `print` writes, as expressions of FlatCurry (Hanus and others). Variables
-- have numbers: the parameters from 1 on, the others in the order of their binding in the text.
use Rattle.std.specs.Prelude.{ℕ, zero, suc, ◌+◌, [], ◌∷◌, ◌++◌, codes, decimal, length}
use Rattle.cu_calculus.specs.Term as term
use Rattle.cu_calculus.specs.Term.{Alternatives, Pattern, Term, Terms}
use Rattle.cu_calculus.specs.Valid.{all_variables, term_count, variables_of}
use Rattle.cu_calculus.specs.declared.FunId.{FunId}
use Rattle.cu_calculus.specs.declared.Head.{Head}
use Rattle.cu_calculus.specs.declared.Head.TheVariants as head
use Rattle.cu_flatlaws.specs.PrintedTypes.{entity, numbers_from}
use Rattle.cu_flatread.specs.Modules as m
use Rattle.cu_flatread.specs.Modules.{Branches, Expression, Expressions}
use Rattle.cu_flatread.specs.Notation.{Entity}
use Rattle.cu_flatread.specs.declared.cells.CombKind.{CombKind}
use Rattle.cu_flatread.specs.declared.cells.CombKind.TheVariants as kind
use Rattle.cu_flattext.specs.ExpressionTexts.{Numbers, all_numbered, arity, bindings, missing, numbered}
use Rattle.cu_flattext.specs.Naming.{Lowered, constructor_entity, function_entity, no_entity}

-- ---- calls

-- the set function of a function with n parameters: `setN`
abbrev pub set_entity : ℕ → Entity
set_entity n = record { owner = codes "SetFunctions"; name = codes "set" ++ decimal n }

-- the function that applies a functional value
abbrev pub apply_entity : Entity
apply_entity = record { owner = codes "Prelude"; name = codes "apply" }

abbrev pub head_entity : Lowered → Head → Entity
head_entity program (head.Fun f) = entity (function_entity program f)
head_entity program (head.Con c) = entity (constructor_entity program c)
head_entity program (head.Set f) = set_entity (arity program (head.Set f))

-- the kind of a head with all its arguments
abbrev pub whole_kind : Head → CombKind
whole_kind (head.Con c) = kind.ConsCall
whole_kind _ = kind.FuncCall

-- the kind of a head of whose arguments so many are missing
abbrev pub part_kind : Head → ℕ → CombKind
part_kind h zero = whole_kind h
part_kind (head.Con c) (suc n) = kind.ConsPartCall (suc n)
part_kind _ (suc n) = kind.FuncPartCall (suc n)

-- a function without arguments
abbrev pub function_alone : Lowered → FunId → Expression Entity
function_alone program f =
    m.Comb (part_kind (head.Fun f) (missing program (head.Fun f) 0))
    (head_entity program (head.Fun f)) m.NoExpression

-- The arguments of a head. A set function has its function as its first one.
abbrev pub all_arguments : Lowered → Head → Expressions Entity → Expressions Entity
all_arguments program (head.Set f) ts = m.MoreExpressions (function_alone program f) ts
all_arguments program _ ts = ts

-- ---- patterns

-- The pattern of a branch, whose variables have the numbers from n on. A flat program has only
-- patterns that are literals or constructors over variables.
abbrev pub printed_pattern : Lowered → ℕ → Pattern → m.Pattern Entity
printed_pattern program n (term.Exactly l) = m.Exactly l
printed_pattern program n (term.Built c ps) =
    m.Built (entity (constructor_entity program c)) (numbers_from n (length (all_variables ps)))
printed_pattern program n _ = m.Built (entity no_entity) []

-- ---- expressions

-- the expression of FlatCurry that a term is whose variables have these numbers, and whose bound
-- variables get those from n on
abbrev mutual
  pub printed_expression : Lowered → ℕ → Numbers → Term → Expression Entity
  printed_expression program n numbers (term.Variable x) = m.Var (numbers x)
  printed_expression program n numbers (term.Literal l) = m.Literal l
  printed_expression program n numbers (term.Whole h ts) =
      m.Comb (whole_kind h) (head_entity program h)
      (all_arguments program h (printed_expressions program n numbers ts))
  printed_expression program n numbers (term.Part h ts) =
      m.Comb (part_kind h (missing program h (term_count ts))) (head_entity program h)
      (all_arguments program h (printed_expressions program n numbers ts))
  printed_expression program n numbers (term.Apply f a) =
      m.Comb kind.FuncCall apply_entity
      (m.MoreExpressions (printed_expression program n numbers f)
      (m.MoreExpressions (printed_expression program (n + bindings f) numbers a) m.NoExpression))
  printed_expression program n numbers (term.Let x a b) =
      m.Let n (printed_expression program (n + 1) (numbered x n numbers) a)
      (printed_expression program (n + 1 + bindings a) (numbered x n numbers) b)
  printed_expression program n numbers (term.Free x t) =
      m.Free n (printed_expression program (n + 1) (numbered x n numbers) t)
  printed_expression program n numbers (term.Or a b) =
      m.Or (printed_expression program n numbers a)
      (printed_expression program (n + bindings a) numbers b)
  printed_expression program n numbers (term.Case mode a alternatives) =
      m.Case mode (printed_expression program n numbers a)
      (printed_branches program (n + bindings a) numbers alternatives)

  pub printed_expressions : Lowered → ℕ → Numbers → Terms → Expressions Entity
  printed_expressions program n numbers term.NoTerm = m.NoExpression
  printed_expressions program n numbers (term.MoreTerms t ts) =
      m.MoreExpressions (printed_expression program n numbers t)
      (printed_expressions program (n + bindings t) numbers ts)

  pub printed_branches : Lowered → ℕ → Numbers → Alternatives → Branches Entity
  printed_branches program n numbers term.NoAlternative = m.NoBranch
  printed_branches program n numbers (term.MoreAlternatives p t alternatives) =
      m.MoreBranches (printed_pattern program n p)
      (printed_expression program (n + length (variables_of p))
      (all_numbered (variables_of p) n numbers) t)
      (printed_branches program (n + length (variables_of p) + bindings t) numbers alternatives)
