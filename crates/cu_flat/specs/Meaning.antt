-- The code that the parts of a flat program stand for.
use Rattle.std.specs.Prelude.{ℕ, List, map}
use Rattle.cu_calculus.specs.declared.ExprId.{ExprId}
use Rattle.cu_calculus.specs.declared.builtin.Special.{Special}
use Rattle.cu_calculus.specs.Code as code
use Rattle.cu_calculus.specs.Code.{Code}
use Rattle.cu_calculus.specs.Program.{Constructor}
use Rattle.cu_flat.specs.declared.expr.Expr.{Expr}
use Rattle.cu_flat.specs.declared.expr.Expr.TheVariants as expr
use Rattle.cu_flat.specs.declared.expr.FlatBody.{FlatBody}
use Rattle.cu_flat.specs.declared.expr.FlatBody.TheVariants as body
use Rattle.cu_flat.specs.declared.expr.FlatConstructor.{FlatConstructor}
use Rattle.cu_flat.specs.declared.expr.FlatFunction.{FlatFunction}
use Rattle.cu_flat.specs.declared.expr.Pattern.{Pattern}
use Rattle.cu_flat.specs.declared.expr.Pattern.TheVariants as pattern
use Rattle.cu_flat.specs.declared.Entry.{Entry}

-- the pattern that a branch's pattern of the code stands for
abbrev pub pattern_meaning : Pattern → code.Shallow
pattern_meaning (pattern.Lit l) = code.Exactly l
pattern_meaning (pattern.Con c xs) = code.Built c xs.items

-- the branch that a pattern and the index of a body stand for
abbrev pub branch_meaning : Pattern × ExprId → code.Branch
branch_meaning branch = record { pattern = pattern_meaning branch.0; body = branch.1 }

-- the expression that one of the code stands for, where a case distinction keeps these variables
abbrev pub expr_meaning : List ℕ → Expr → code.Expr
expr_meaning kept (expr.Var x) = code.Variable x
expr_meaning kept (expr.Lit l) = code.Literal l
expr_meaning kept (expr.Whole h es) = code.Whole h es.items
expr_meaning kept (expr.Part h es) = code.Part h es.items
expr_meaning kept (expr.Apply function argument) = code.Apply function argument
expr_meaning kept (expr.Let x bound body) = code.Let x bound body
expr_meaning kept (expr.Free x body) = code.Free x body
expr_meaning kept (expr.Or left right) = code.Or left right
expr_meaning kept (expr.Case mode e branches) =
    code.Case mode kept e (map branch_meaning branches.items)

-- the expression that an entry stands for, with the variables that it keeps
abbrev pub entry_meaning : Entry → code.Expr
entry_meaning entry = expr_meaning entry.kept.items entry.expr

-- the body that one of the code stands for
abbrev pub body_meaning : FlatBody → code.Body
body_meaning (body.Rule params e) = code.Rule params.items e
body_meaning (body.External operation) = code.External operation

-- the function that one of the code stands for
abbrev pub function_meaning : FlatFunction → code.Function
function_meaning function = record { arity = function.arity; body = body_meaning function.body }

-- the constructor that one of the code stands for
abbrev pub constructor_meaning : FlatConstructor → Constructor
constructor_meaning constructor =
    record { of_type = constructor.of_type; arity = constructor.arity }

-- the flat code that functions, constructors, built-in entities and expressions stand for
abbrev pub code_of : List FlatFunction → List FlatConstructor → Special → List Entry → Code
code_of functions constructors special entries = record {
  functions = map function_meaning functions;
  constructors = map constructor_meaning constructors;
  special = special;
  expressions = map entry_meaning entries;
}
