-- What further samples are translated to: blocks inside functions, and what depends on what.
use Rattle.std.specs.Prelude.{ℕ, ◌+◌, List, [], ◌∷◌, None, codes}
use Rattle.cu_calculus.specs.Term.{Any, Named}
use Rattle.cu_calculus.specs.declared.Head.TheVariants as global
use Rattle.cu_calculus.specs.declared.Mode.TheVariants.{Rigid}
use Rattle.cu_kernel.specs.LocalKernel.{Rules, TopFunction}
use Rattle.cu_kernel.specs.LocalTerm.{Apply, Case, Let, LocalTerm, MoreAlternatives, NoAlternative, NoTerm, Part, Variable, Whole}
use Rattle.cu_kernel.specs.declared.local.LocalHead.TheVariants as head
use Rattle.cu_syntax.specs.declared.expressions.CaseWord.TheVariants as word
use Rattle.cu_syntax.specs.Syntax as syntax
use Rattle.cu_syntax.specs.Syntax.{Declaration, Expression, Goal, NoDeclaration, NoOperator, NoQualifier, MoreQualifiers, Pattern, ThenOperator}
use Rattle.cu_translation.specs.Rules.{Rule}
use Rattle.cu_translation.specs.Samples.{at, block, constant, defined, expressions, is, name, named, number, patterns, rule, variable}
use Rattle.cu_translation.specs.Terms.{terms}
use Rattle.cu_translation.specs.Worked.{clause, cons, empty_list, function_f, function_head, goal_of, if_true, int, local_at, pattern_of}

-- ---- parts of trees

-- two operands with an operator between them, which stands at a place
abbrev pub between : List ℕ → ℕ → ℕ → Expression → Expression → Expression
between operator first place l r =
    syntax.Operators (at first) None l (ThenOperator (name operator place) None r NoOperator)

-- a rule of a local function of one parameter
abbrev pub rule_of_one : List ℕ → ℕ → List ℕ → Expression → Declaration
rule_of_one f column x e =
    syntax.FunctionRule (at column) (name f column) (patterns (named x (column + 2) ∷ []))
    (is (column + 4) e)

abbrev pub on_one : List ℕ → ℕ → Expression → Expression
on_one f column e = syntax.Application (at column) (variable f column) (expressions (e ∷ []))

abbrev pub let_in : ℕ → List Declaration → Expression → Expression
let_in column ds e = syntax.Let (at column) (block ds) e

abbrev pub local_call : ℕ → List LocalTerm → LocalTerm
local_call f ts = Whole (head.Local f) (terms ts)

-- ---- the order of definitions

-- `let { g y = (w + y) + z; z = 1; w = 2 } in g 3`, of which lifting makes a function of z, w and y
abbrev pub captured : Expression
captured =
    let_in 1
    (rule_of_one (codes "g") 7 (codes "y")
    (between (codes "+") 13 21
    (between (codes "+") 14 16 (variable (codes "w") 14) (variable (codes "y") 18))
    (variable (codes "z") 23)) ∷
    defined (codes "z") 26 (number 1 30) ∷ defined (codes "w") 33 (number 2 37) ∷ [])
    (on_one (codes "g") 44 (number 3 46))

abbrev pub captured_term : TopFunction
captured_term =
    goal_of (Let 1 (int 1) (Let 2 (int 2) (local_call 0 (int 3 ∷ []))))
    (local_at 7 (Any 0 ∷ [])
    (Whole (function_head 0)
    (terms
    (Whole (function_head 0) (terms (Variable 2 ∷ Variable 0 ∷ [])) ∷ Variable 1 ∷ []))) ∷ [])

-- `let { a = g 1; g x = b; b = 2 } in a`, where a depends on what g captures
abbrev pub by_function : Expression
by_function =
    let_in 1
    (defined (codes "a") 7 (on_one (codes "g") 11 (number 1 13)) ∷
    rule_of_one (codes "g") 16 (codes "x") (variable (codes "b") 22) ∷
    defined (codes "b") 25 (number 2 29) ∷ [])
    (variable (codes "a") 36)

abbrev pub by_function_term : TopFunction
by_function_term =
    goal_of (Let 2 (int 2) (Let 0 (local_call 0 (int 1 ∷ [])) (Variable 0)))
    (local_at 16 (Any 1 ∷ []) (Variable 2) ∷ [])

-- `let { k x = let { c = b; a = k 1; b = a } in c } in k 0`, where k captures nothing
abbrev pub inside_itself : Expression
inside_itself =
    let_in 1
    (rule_of_one (codes "k") 7 (codes "x")
    (let_in 13
    (defined (codes "c") 19 (variable (codes "b") 23) ∷
    defined (codes "a") 26 (on_one (codes "k") 30 (number 1 32)) ∷
    defined (codes "b") 35 (variable (codes "a") 39) ∷ [])
    (variable (codes "c") 46)) ∷ [])
    (on_one (codes "k") 53 (number 0 55))

abbrev pub inside_itself_term : TopFunction
inside_itself_term =
    goal_of (local_call 0 (int 0 ∷ []))
    (local_at 7 (Any 0 ∷ [])
    (Let 2 (local_call 0 (int 1 ∷ [])) (Let 3 (Variable 2) (Let 1 (Variable 3) (Variable 1)))) ∷ [])

-- `let { xs = \y -> xs } in xs`, at xs
abbrev pub through_lambda : Expression
through_lambda =
    let_in 1
    (defined (codes "xs") 7
    (syntax.Lambda (at 12) (patterns (named (codes "y") 13 ∷ [])) (variable (codes "xs") 18)) ∷ [])
    (variable (codes "xs") 26)

-- `let { (x, y) = (y, 1) } in x`, at y
abbrev pub through_pattern : Expression
through_pattern =
    let_in 1
    (syntax.PatternBinding (at 7)
    (syntax.PatternTuple (at 7) (patterns (named (codes "x") 8 ∷ named (codes "y") 11 ∷ [])))
    (is 14 (syntax.Tuple (at 16) (expressions (variable (codes "y") 17 ∷ number 1 20 ∷ [])))) ∷ [])
    (variable (codes "x") 27)

-- ---- functions

-- `f x | y = 1 where { y = x }`
abbrev pub where_guard : Rule
where_guard = record (rule 1 (codes "f") (named (codes "x") 3 ∷ []) (number 0 9)) {
  right =
      syntax.Guarded (at 5)
      (syntax.MoreGuards (at 5) (variable (codes "y") 7) (number 1 11) syntax.NoGuard)
      (block (defined (codes "y") 21 (variable (codes "x") 25) ∷ []));
}

abbrev pub where_guard_term : TopFunction
where_guard_term =
    function_f 1
    (clause (Any 0 ∷ [])
    (Let 1 (Variable 0) (if_true (Variable 1) (int 1) (Whole (function_head 14) NoTerm))) ∷ [])

-- ---- applications

-- `flip 1 2 3 4`
abbrev pub more_arguments : Expression
more_arguments =
    syntax.Application (at 1) (variable (codes "flip") 1)
    (expressions (number 1 6 ∷ number 2 8 ∷ number 3 10 ∷ number 4 12 ∷ []))

abbrev pub more_arguments_term : TopFunction
more_arguments_term =
    goal_of (Apply (Whole (function_head 16) (terms (int 1 ∷ int 2 ∷ int 3 ∷ []))) (int 4)) []

-- `(flip 1) 2`
abbrev pub other_term : Expression
other_term =
    syntax.Application (at 1)
    (syntax.Application (at 2) (variable (codes "flip") 2) (expressions (number 1 7 ∷ [])))
    (expressions (number 2 10 ∷ []))

abbrev pub other_term_term : TopFunction
other_term_term = goal_of (Apply (Part (function_head 16) (terms (int 1 ∷ []))) (int 2)) []

-- `(,) 1 2`
abbrev pub pair : Expression
pair =
    syntax.Application (at 1) (syntax.TupleConstructor (at 1) 2)
    (expressions (number 1 5 ∷ number 2 7 ∷ []))

abbrev pub pair_term : TopFunction
pair_term =
    goal_of (Whole (head.Global (global.Con (record { 0 = 3 }))) (terms (int 1 ∷ int 2 ∷ []))) []

-- a set function's name in backquotes, between the name k and 1
abbrev pub set_operator : Expression
set_operator = between (codes "set1") 1 4 (variable (codes "k") 1) (number 1 10)

-- ---- patterns

-- `case 1 of { x@True -> x; _ -> 2 }`
abbrev pub alternatives : Expression
alternatives =
    syntax.Case (at 1) word.Case (number 1 6)
    (syntax.MoreAlternatives (at 13)
    (syntax.As (name (codes "x") 13) (constant (codes "True") 15)) (is 20 (variable (codes "x") 23))
    (syntax.MoreAlternatives (at 26) (syntax.Wildcard (at 26)) (is 28 (number 2 31))
    syntax.NoAlternative))

abbrev pub alternatives_term : TopFunction
alternatives_term =
    goal_of
    (Case Rigid (int 1)
    (MoreAlternatives (Named 0 (pattern_of 18 [])) (Variable 0)
    (MoreAlternatives (Any 1) (int 2) NoAlternative))) []

-- `\x -> \y -> x`
abbrev pub nested_lambda : Expression
nested_lambda =
    syntax.Lambda (at 1) (patterns (named (codes "x") 2 ∷ []))
    (syntax.Lambda (at 7) (patterns (named (codes "y") 8 ∷ [])) (variable (codes "x") 13))

abbrev pub nested_lambda_term : TopFunction
nested_lambda_term =
    goal_of (Part (head.Local 0) NoTerm)
    (local_at 1 (Any 0 ∷ []) (Part (head.Local 1) NoTerm) ∷
    local_at 7 (Any 1 ∷ []) (Variable 0) ∷ [])

-- `[x | x <- [], let { y = x }, y]`
abbrev pub qualifiers : Expression
qualifiers =
    syntax.Comprehension (at 1) (variable (codes "x") 2)
    (MoreQualifiers
    (syntax.Generator (at 6) (named (codes "x") 6) (syntax.ListOf (at 11) (expressions [])))
    (MoreQualifiers
    (syntax.LocalDeclarations (at 15)
    (block (defined (codes "y") 21 (variable (codes "x") 25) ∷ [])))
    (MoreQualifiers (syntax.Condition (at 30) (variable (codes "y") 30)) NoQualifier)))

abbrev pub qualifiers_term : TopFunction
qualifiers_term =
    goal_of (Whole (function_head 17) (terms (Part (head.Local 0) NoTerm ∷ empty_list ∷ [])))
    (local_at 6 (Any 0 ∷ [])
    (Let 1 (Variable 0) (if_true (Variable 1) (cons (Variable 0) empty_list) empty_list)) ∷ [])

-- ---- goals

-- `let { y = x } in y where x free`: the goal's variable is the last, and its parameter
abbrev pub open_goal : Goal
open_goal = record {
  expression =
      let_in 1 (defined (codes "y") 7 (variable (codes "x") 11) ∷ []) (variable (codes "y") 18);
  free = name (codes "x") 26 ∷ [];
}

abbrev pub open_goal_term : TopFunction
open_goal_term = record {
  name = record { 0 = 0 };
  arity = 1;
  body = Rules (clause (Any 1 ∷ []) (Let 0 (Variable 1) (Variable 0)) ∷ []);
  locals = [];
}
