-- The program that flat code is: a function's rule takes variables, and its body is the term of its
-- expression.
use Rattle.std.specs.Prelude.{ℕ, zero, suc, List, [], ◌∷◌, Option, None, Some, length, map}
use Rattle.cu_calculus.specs.declared.ExprId.{ExprId}
use Rattle.cu_calculus.specs.declared.Mode.TheVariants.{Rigid}
use Rattle.cu_calculus.specs.Code as code
use Rattle.cu_calculus.specs.Code.{Branch, Code, Expr, Shallow, expr_of}
use Rattle.cu_calculus.specs.Program.{Body, External, Function, Program, Rules}
use Rattle.cu_calculus.specs.Term as term
use Rattle.cu_calculus.specs.Term.{Alternatives, Pattern, Patterns, Term, Terms}

-- several variables, as patterns
abbrev pub all_any : List ℕ → Patterns
all_any [] = term.NoPattern
all_any (x ∷ xs) = term.MorePatterns (term.Any x) (all_any xs)

-- the pattern that a branch's pattern is
abbrev pub pattern_of : Shallow → Pattern
pattern_of (code.Exactly l) = term.Exactly l
pattern_of (code.Built c xs) = term.Built c (all_any xs)

-- the terms that `part` gives of several expressions
abbrev pub terms_of : (ExprId → Term) → List ExprId → Terms
terms_of part [] = term.NoTerm
terms_of part (e ∷ es) = term.MoreTerms (part e) (terms_of part es)

-- the alternatives that branches are, where `part` gives the terms of their bodies
abbrev pub alternatives_of : (ExprId → Term) → List Branch → Alternatives
alternatives_of part [] = term.NoAlternative
alternatives_of part (branch ∷ branches) =
    term.MoreAlternatives (pattern_of branch.pattern) (part branch.body)
    (alternatives_of part branches)

-- The term of a number that names no expression: a case distinction without alternatives, which has
-- no value.
abbrev pub no_term : Term
no_term = term.Case Rigid (term.Variable 0) term.NoAlternative

-- the term of an expression, whose parts are the terms that `part` gives
abbrev pub term_over : (ExprId → Term) → Option Expr → Term
term_over part None = no_term
term_over part (Some (code.Variable x)) = term.Variable x
term_over part (Some (code.Literal l)) = term.Literal l
term_over part (Some (code.Whole h es)) = term.Whole h (terms_of part es)
term_over part (Some (code.Part h es)) = term.Part h (terms_of part es)
term_over part (Some (code.Apply function argument)) = term.Apply (part function) (part argument)
term_over part (Some (code.Let x bound body)) = term.Let x (part bound) (part body)
term_over part (Some (code.Free x body)) = term.Free x (part body)
term_over part (Some (code.Or left right)) = term.Or (part left) (part right)
term_over part (Some (code.Case mode kept e branches)) =
    term.Case mode (part e) (alternatives_of part branches)

-- The term of an expression of the code. The first number bounds how deep expressions nest; as many
-- as the code has suffice.
unfoldable pub term_within : ℕ → Code → ExprId → Term
term_within zero program e = no_term
term_within (suc depth) program e = term_over (term_within depth program) (expr_of program e)

-- the term of an expression of the code
abbrev pub term_of : Code → ExprId → Term
term_of program e = term_within (length program.expressions) program e

-- the body of a function of the code
abbrev pub body_in : Code → code.Body → Body
body_in program (code.Rule params e) =
    Rules (record { params = all_any params; body = term_of program e } ∷ [])
body_in program (code.External operation) = External operation

-- the function that a function of the code is
abbrev pub function_in : Code → code.Function → Function
function_in program function =
    record { arity = function.arity; body = body_in program function.body }

-- the program that flat code is
abbrev pub program_of : Code → Program
program_of program = record {
  functions = map (function_in program) program.functions;
  constructors = program.constructors;
  special = program.special;
}
