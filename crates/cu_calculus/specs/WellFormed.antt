-- Well-formed flat code: each number names an expression that there is, heads have as many
-- arguments as they take, variables are in scope, and each case distinction keeps the variables
-- that its branches use. Such code is that of a valid flat program.
use Rattle.std.specs.Prelude.{ℕ, zero, suc, Bool, true, false, not, ◌&&◌, List, [], ◌∷◌, ◌++◌, nat_eq, nat_lt, Option, None, Some, length}
use Rattle.std.specs.List.{filter, list_all, list_any}
use Rattle.cu_calculus.specs.declared.ConId.{ConId}
use Rattle.cu_calculus.specs.declared.ExprId.{ExprId}
use Rattle.cu_calculus.specs.declared.Head.{Head}
use Rattle.cu_calculus.specs.declared.Head.TheVariants as head
use Rattle.cu_calculus.specs.declared.Mode.{Mode}
use Rattle.cu_calculus.specs.declared.Mode.TheVariants.{Flex, Rigid}
use Rattle.cu_calculus.specs.Code as code
use Rattle.cu_calculus.specs.Code.{Body, Branch, Code, Expr, Function, Shallow, arity_of, body_of, expr_of}
use Rattle.cu_calculus.specs.Literal.{is_literal, same_literal}
use Rattle.cu_calculus.specs.Match.{same_constructor}
use Rattle.cu_calculus.specs.Shape.{takes, takes_more}
use Rattle.cu_calculus.specs.Valid.{external_arity, holds, is_arity, is_linear}

-- whether a head may stand in the code: a set function only where the program has the constructor
-- of the values of set functions
abbrev pub is_allowed : Code → Head → Bool
is_allowed program (head.Set f) = elim program.special.values [ Some c ↦ true | None ↦ false ]
is_allowed program _ = true

-- whether both case distinctions are rigid, or both flexible
abbrev pub same_mode : Mode → Mode → Bool
same_mode Rigid Rigid = true
same_mode Flex Flex = true
same_mode _ _ = false

-- whether a pattern is a literal of the language, or a constructor of the program over as many
-- different variables as it has arguments
abbrev pub fits_pattern : Code → Shallow → Bool
fits_pattern program (code.Exactly l) = is_literal l
fits_pattern program (code.Built c xs) =
    takes (arity_of program (head.Con c)) (length xs) && is_linear xs

-- whether two patterns have the same literal or the same constructor
abbrev pub same_pattern : Shallow → Shallow → Bool
same_pattern (code.Exactly l) (code.Exactly m) = same_literal l m
same_pattern (code.Built c xs) (code.Built d ys) = same_constructor c d
same_pattern _ _ = false

-- whether no two branches have the same literal or constructor
abbrev pub all_differ : List Branch → Bool
all_differ [] = true
all_differ (branch ∷ branches) =
    not (list_any (λ other. same_pattern branch.pattern other.pattern) branches)
    && all_differ branches

-- the variables that a branch's pattern binds
abbrev pub bound_by : Shallow → List ℕ
bound_by (code.Exactly l) = []
bound_by (code.Built c xs) = xs

-- Whether branches fit over the variables that their case distinction keeps, as a closure keeps its
-- variables. The kept variables are different, no two patterns are alike, and each branch's body
-- uses them and its pattern's own variables alone.
abbrev pub fit_branches : (List ℕ → ExprId → Bool) → Code → List ℕ → List Branch → Bool
fit_branches part program kept branches =
    is_linear kept && all_differ branches
    && list_all (λ branch. fits_pattern program branch.pattern
    && part (kept ++ bound_by branch.pattern) branch.body) branches

-- the variables of a scope but one
abbrev pub without : ℕ → List ℕ → List ℕ
without x scope = filter (λ y. not (nat_eq x y)) scope

-- Whether one expression fits in a scope, where `part` tests its parts in theirs. A variable
-- doesn't stand in its own definition by Let.
abbrev pub fits_expr : (List ℕ → ExprId → Bool) → Code → List ℕ → Option Expr → Bool
fits_expr part program scope None = false
fits_expr part program scope (Some (code.Variable x)) = holds x scope
fits_expr part program scope (Some (code.Literal l)) = is_literal l
fits_expr part program scope (Some (code.Whole h es)) =
    is_allowed program h && takes (arity_of program h) (length es) && list_all (part scope) es
fits_expr part program scope (Some (code.Part h es)) =
    is_allowed program h && takes_more (arity_of program h) (length es) && list_all (part scope) es
fits_expr part program scope (Some (code.Apply function argument)) =
    part scope function && part scope argument
fits_expr part program scope (Some (code.Let x bound body)) =
    part (without x scope) bound && part (scope ++ x ∷ []) body
fits_expr part program scope (Some (code.Free x body)) = part (scope ++ x ∷ []) body
fits_expr part program scope (Some (code.Or left right)) = part scope left && part scope right
fits_expr part program scope (Some (code.Case mode kept e branches)) =
    list_all (λ x. holds x scope) kept && part scope e && fit_branches part program kept branches

-- whether an expression of the code fits in a scope; the first number bounds how deep expressions
-- nest
abbrev pub fits : ℕ → Code → List ℕ → ExprId → Bool
fits zero program scope e = false
fits (suc depth) program scope e = fits_expr (fits depth program) program scope (expr_of program e)

-- whether the body of a function with so many parameters fits; it nests no deeper than the code has
-- expressions
abbrev pub fits_body : Code → ℕ → Body → Bool
fits_body program arity (code.Rule params body) =
    nat_eq (length params) arity && is_linear params
    && fits (length program.expressions) program params body
fits_body program arity (code.External operation) = nat_eq (external_arity operation) arity

-- whether a function has an arity that a graph can hold, and a body that fits it
abbrev pub fits_function : Code → Function → Bool
fits_function program function = is_arity function.arity
    && fits_body program function.arity function.body

-- Whether the branches of an expression fit over the variables that it keeps, where it is a case
-- distinction. Other expressions are tested where they are parts.
abbrev pub fits_case : Code → Expr → Bool
fits_case program (code.Case mode kept e branches) =
    fit_branches (fits (length program.expressions) program) program kept branches
fits_case program _ = true

-- whether an expression is this variable
abbrev pub is_variable : ℕ → Option Expr → Bool
is_variable x (Some (code.Variable y)) = nat_eq x y
is_variable x _ = false

-- whether an expression is this constructor without arguments
abbrev pub is_constant : ConId → Option Expr → Bool
is_constant c (Some (code.Whole (head.Con d) [])) = same_constructor c d
is_constant c _ = false

-- Whether an expression is the case distinction of `&&`: a flexible one on the first parameter,
-- which gives False for False, and the second parameter for True.
abbrev pub conjoins_cases : Code → ℕ → ℕ → Option Expr → Bool
conjoins_cases program x y (Some (code.Case Flex kept scrutinee (first ∷ second ∷ []))) =
    is_variable x (expr_of program scrutinee)
    && same_pattern first.pattern (code.Built program.special.falsity [])
    && is_constant program.special.falsity (expr_of program first.body)
    && same_pattern second.pattern (code.Built program.special.truth [])
    && is_variable y (expr_of program second.body)
conjoins_cases program x y _ = false

-- whether a body is the rule of `&&`
abbrev pub conjoins : Code → Option Body → Bool
conjoins program (Some (code.Rule (x ∷ y ∷ []) body)) =
    not (nat_eq x y) && conjoins_cases program x y (expr_of program body)
conjoins program _ = false

-- whether the built-in entities are there, with their arities, False is declared before True, and
-- `&&` has its rule
abbrev pub has_special : Code → Bool
has_special program =
    takes (arity_of program (head.Con program.special.falsity)) 0
    && takes (arity_of program (head.Con program.special.truth)) 0
    && nat_lt program.special.falsity.0 program.special.truth.0
    && takes (arity_of program (head.Con program.special.nil)) 0
    && takes (arity_of program (head.Con program.special.cons)) 2
    && conjoins program (body_of program program.special.both)
    && takes (arity_of program (head.Fun program.special.both)) 2
    && elim program.special.values [
      | Some c ↦ takes (arity_of program (head.Con c)) 1
      | None ↦ true
    ]

-- Whether code is well-formed: all functions and case distinctions fit, constructors have arities
-- that a graph can hold, and the built-in entities are there.
abbrev pub is_well_formed : Code → Bool
is_well_formed program =
    list_all (λ constructor. is_arity constructor.arity) program.constructors
    && list_all (fits_function program) program.functions
    && list_all (fits_case program) program.expressions && has_special program
