-- The code of a flat program. Each expression stands after its parts, which stand in the order in
-- which they are written, and the expressions of each body stand after those of the bodies before
-- it.
use Rattle.std.specs.Prelude.{ℕ, ◌+◌, ◌-◌, Bool, false, not, ◌&&◌, ◌||◌, List, [], ◌∷◌, ◌++◌, filter, nat_eq}
use Rattle.cu_calculus.specs.declared.ExprId.{ExprId}
use Rattle.cu_calculus.specs.declared.builtin.Primitive.TheVariants as prim
use Rattle.cu_calculus.specs.Code as code
use Rattle.cu_calculus.specs.Code.{Branch, Code, Expr, Shallow}
use Rattle.cu_calculus.specs.Program as calculus
use Rattle.cu_calculus.specs.Program.{Body, Function, Program}
use Rattle.cu_calculus.specs.Term as term
use Rattle.cu_calculus.specs.Term.{Alternatives, Pattern, Term, Terms}
use Rattle.cu_calculus.specs.Valid.{all_variables, holds, variables_of}

-- whether a variable is none of these
abbrev pub beside : List ℕ → ℕ → Bool
beside xs y = not (holds y xs)

-- whether a variable is free in a term, in one of several terms, or in the branches of a case
-- distinction beside their patterns' own variables
abbrev mutual
  pub uses : Term → ℕ → Bool
  uses (term.Variable x) y = nat_eq x y
  uses (term.Literal l) y = false
  uses (term.Whole h ts) y = some_uses ts y
  uses (term.Part h ts) y = some_uses ts y
  uses (term.Apply f a) y = uses f y || uses a y
  uses (term.Let x a b) y = uses a y || (beside (x ∷ []) y && uses b y)
  uses (term.Free x t) y = beside (x ∷ []) y && uses t y
  uses (term.Or a b) y = uses a y || uses b y
  uses (term.Case mode a alternatives) y = uses a y || branches_use alternatives y

  -- whether a variable is free in one of several terms
  pub some_uses : Terms → ℕ → Bool
  some_uses term.NoTerm y = false
  some_uses (term.MoreTerms t ts) y = uses t y || some_uses ts y

  -- whether a variable is free in the branches of a case distinction, beside their patterns' own
  pub branches_use : Alternatives → ℕ → Bool
  branches_use term.NoAlternative y = false
  branches_use (term.MoreAlternatives p t alternatives) y =
      (beside (variables_of p) y && uses t y) || branches_use alternatives y

-- The scope in which further variables are bound. A scope is the list of its variables in the order
-- of their binding, and bound variables hide others of their names.
abbrev pub binding : List ℕ → List ℕ → List ℕ
binding xs scope = filter (beside xs) scope ++ xs

-- the variables of its scope that a case distinction keeps: those that its branches use
abbrev pub kept_of : List ℕ → Alternatives → List ℕ
kept_of scope alternatives = filter (branches_use alternatives) scope

-- how many expressions a term has: itself and its parts
abbrev mutual
  pub size : Term → ℕ
  size (term.Variable x) = 1
  size (term.Literal l) = 1
  size (term.Whole h ts) = sizes ts + 1
  size (term.Part h ts) = sizes ts + 1
  size (term.Apply f a) = size f + size a + 1
  size (term.Let x a b) = size a + size b + 1
  size (term.Free x t) = size t + 1
  size (term.Or a b) = size a + size b + 1
  size (term.Case mode a alternatives) = size a + branch_sizes alternatives + 1

  -- how many expressions several terms have
  pub sizes : Terms → ℕ
  sizes term.NoTerm = 0
  sizes (term.MoreTerms t ts) = size t + sizes ts

  -- how many expressions the terms of alternatives have
  pub branch_sizes : Alternatives → ℕ
  branch_sizes term.NoAlternative = 0
  branch_sizes (term.MoreAlternatives p t alternatives) = size t + branch_sizes alternatives

-- the index of a term whose expressions begin at n: it is the last of them
abbrev pub place : ℕ → Term → ExprId
place n t = record { 0 = n + (size t - 1) }

-- the indices of terms that stand one after the other from n on
abbrev pub places : ℕ → Terms → List ExprId
places n term.NoTerm = []
places n (term.MoreTerms t ts) = place n t ∷ places (n + size t) ts

-- The pattern of a branch: in a flat program a literal, or a constructor over variables. Other
-- patterns don't occur there.
abbrev pub shallow_of : Pattern → Shallow
shallow_of (term.Exactly l) = code.Exactly l
shallow_of (term.Built c ps) = code.Built c (all_variables ps)
shallow_of (term.Any x) = code.Built (record { 0 = 0 }) []
shallow_of (term.Named x p) = code.Built (record { 0 = 0 }) []

-- the branches of a case distinction whose bodies' expressions begin at n
abbrev pub branches : ℕ → Alternatives → List Branch
branches n term.NoAlternative = []
branches n (term.MoreAlternatives p t alternatives) =
    record { pattern = shallow_of p; body = place n t } ∷ branches (n + size t) alternatives

-- the expressions of a term in a scope, of which the first has the number n
abbrev mutual
  pub layout : ℕ → List ℕ → Term → List Expr
  layout n scope (term.Variable x) = code.Variable x ∷ []
  layout n scope (term.Literal l) = code.Literal l ∷ []
  layout n scope (term.Whole h ts) = layouts n scope ts ++ code.Whole h (places n ts) ∷ []
  layout n scope (term.Part h ts) = layouts n scope ts ++ code.Part h (places n ts) ∷ []
  layout n scope (term.Apply f a) =
      layout n scope f ++ layout (n + size f) scope a
      ++ code.Apply (place n f) (place (n + size f) a) ∷ []
  layout n scope (term.Let x a b) =
      layout n scope a ++ layout (n + size a) (binding (x ∷ []) scope) b
      ++ code.Let x (place n a) (place (n + size a) b) ∷ []
  layout n scope (term.Free x t) =
      layout n (binding (x ∷ []) scope) t ++ code.Free x (place n t) ∷ []
  layout n scope (term.Or a b) =
      layout n scope a ++ layout (n + size a) scope b
      ++ code.Or (place n a) (place (n + size a) b) ∷ []
  layout n scope (term.Case mode a alternatives) =
      layout n scope a ++ branch_layouts (n + size a) scope alternatives
      ++ code.Case mode (kept_of scope alternatives) (place n a)
      (branches (n + size a) alternatives) ∷ []

  -- the expressions of several terms in a scope, one after the other from the number n on
  pub layouts : ℕ → List ℕ → Terms → List Expr
  layouts n scope term.NoTerm = []
  layouts n scope (term.MoreTerms t ts) = layout n scope t ++ layouts (n + size t) scope ts

  -- the expressions of the branches' bodies in a scope, one after the other from the number n on
  pub branch_layouts : ℕ → List ℕ → Alternatives → List Expr
  branch_layouts n scope term.NoAlternative = []
  branch_layouts n scope (term.MoreAlternatives p t alternatives) =
      layout n (binding (variables_of p) scope) t ++ branch_layouts (n + size t) scope alternatives

-- How many expressions the body of a function has in a flat program: those of its one rule, whose
-- parameters are variables, or none where an operation is built in. Other bodies don't occur there.
abbrev pub body_size : Body → ℕ
body_size (calculus.Rules (rule ∷ [])) = size rule.body
body_size _ = 0

-- the expressions of a function's body, of which the first has the number n
abbrev pub body_layout : ℕ → Body → List Expr
body_layout n (calculus.Rules (rule ∷ [])) = layout n (all_variables rule.params) rule.body
body_layout n _ = []

-- the body of a function in the code, whose expressions begin at n
abbrev pub body_at : ℕ → Body → code.Body
body_at n (calculus.Rules (rule ∷ [])) = code.Rule (all_variables rule.params) (place n rule.body)
body_at n (calculus.Rules _) = code.External prim.Failed
body_at n (calculus.External operation) = code.External operation

-- the functions of the code, where the expressions of their bodies begin at n
abbrev pub functions_from : ℕ → List Function → List code.Function
functions_from n [] = []
functions_from n (f ∷ fs) =
    record { arity = f.arity; body = body_at n f.body } ∷ functions_from (n + body_size f.body) fs

-- the expressions of the bodies of functions, one after the other from the number n on
abbrev pub expressions_from : ℕ → List Function → List Expr
expressions_from n [] = []
expressions_from n (f ∷ fs) = body_layout n f.body ++ expressions_from (n + body_size f.body) fs

-- the code of a flat program
abbrev pub laid_out : Program → Code
laid_out program = record {
  functions = functions_from 0 program.functions;
  constructors = program.constructors;
  special = program.special;
  expressions = expressions_from 0 program.functions;
}
