-- Codes in which each expression stands after its parts.
use Rattle.std.specs.Prelude.{ℕ, ◌+◌, Bool, true, ◌&&◌, List, [], ◌∷◌, map, nat_lt}
use Rattle.std.specs.List.{list_all}
use Rattle.cu_calculus.specs.declared.ExprId.{ExprId}
use Rattle.cu_calculus.specs.Code as code
use Rattle.cu_calculus.specs.Code.{Branch, Expr}

-- the bodies of branches
abbrev pub bodies_of : List Branch → List ExprId
bodies_of branches = map (λ branch. branch.body) branches

-- the indices of the parts that an expression names
abbrev pub parts_of : Expr → List ExprId
parts_of (code.Variable x) = []
parts_of (code.Literal l) = []
parts_of (code.Whole h es) = es
parts_of (code.Part h es) = es
parts_of (code.Apply function argument) = function ∷ argument ∷ []
parts_of (code.Let x bound body) = bound ∷ body ∷ []
parts_of (code.Free x body) = body ∷ []
parts_of (code.Or left right) = left ∷ right ∷ []
parts_of (code.Case mode kept e branches) = e ∷ bodies_of branches

-- whether all of these indices are below n
abbrev pub are_below : ℕ → List ExprId → Bool
are_below n es = list_all (λ e. nat_lt e.0 n) es

-- whether each of these expressions, of which the first has the number n, stands after its parts
abbrev pub stand_after_parts : ℕ → List Expr → Bool
stand_after_parts n [] = true
stand_after_parts n (e ∷ es) = are_below n (parts_of e) && stand_after_parts (n + 1) es
