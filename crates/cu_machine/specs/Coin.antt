-- A program written out as flat code, whose listings can be computed:
--     coin = 0
--     coin = 1
--     x ? y = x
--     x ? y = y
--     loop = loop
-- and the goals `coin`, `0 ? 1`, `loop ? 1` and `set0 coin`.
use Rattle.std.specs.Prelude.{ℕ, List, [], ◌∷◌, None, Some, pos}
use Rattle.cu_calculus.specs.declared.ConId.{ConId}
use Rattle.cu_calculus.specs.declared.ExprId.{ExprId}
use Rattle.cu_calculus.specs.declared.FunId.{FunId}
use Rattle.cu_calculus.specs.declared.Head.TheVariants.{Con, Fun, Set}
use Rattle.cu_calculus.specs.declared.Lit.TheVariants.{Int}
use Rattle.cu_calculus.specs.declared.Mode.TheVariants.{Flex}
use Rattle.cu_calculus.specs.declared.builtin.Special.{Special}
use Rattle.cu_calculus.specs.Code.{Built, Case, Code, Expr, Function, Literal, Or, Rule, Variable, Whole}
use Rattle.cu_calculus.specs.Program.{Constructor}
use Rattle.cu_calculus.specs.Value as value
use Rattle.cu_calculus.specs.Value.{Constructed, MoreValues, NoValue, Value}
use Rattle.cu_machine.specs.declared.SearchLimits.{SearchLimits}
use Rattle.cu_machine.specs.Listing.{Answered, Line}

abbrev e : ℕ → ExprId
e n = record { 0 = n }

abbrev function : ℕ → FunId
function n = record { 0 = n }

abbrev constructor : ℕ → ConId
constructor n = record { 0 = n }

-- the functions coin, `?`, loop and `&&`, and the four goals
abbrev functions : List Function
functions =
    record { arity = 0; body = Rule [] (e 2) }
    ∷ record { arity = 2; body = Rule (0 ∷ 1 ∷ []) (e 5) }
    ∷ record { arity = 0; body = Rule [] (e 6) }
    ∷ record { arity = 2; body = Rule (0 ∷ 1 ∷ []) (e 8) }
    ∷ record { arity = 0; body = Rule [] (e 9) }
    ∷ record { arity = 0; body = Rule [] (e 10) }
    ∷ record { arity = 0; body = Rule [] (e 11) }
    ∷ record { arity = 0; body = Rule [] (e 12) }
    ∷ []

-- the constructors False, True, [], (:), and Values, which holds the list of all values that a
-- search found
abbrev constructors : List Constructor
constructors =
    record { of_type = 0; arity = 0 } ∷ record { of_type = 0; arity = 0 }
    ∷ record { of_type = 1; arity = 0 }
    ∷ record { of_type = 1; arity = 2 } ∷ record { of_type = 2; arity = 1 } ∷ []

abbrev special : Special
special = record {
  falsity = constructor 0;
  truth = constructor 1;
  nil = constructor 2;
  cons = constructor 3;
  both = function 3;
  values = Some (constructor 4);
}

-- the expressions, each after its parts
abbrev expressions : List Expr
expressions =
    Literal (Int (pos 0))
    ∷ Literal (Int (pos 1))
    ∷ Or (e 0) (e 1)
    ∷ Variable 0
    ∷ Variable 1
    ∷ Or (e 3) (e 4)
    ∷ Whole (Fun (function 2)) []
    ∷ Whole (Con (constructor 0)) []
    ∷ Case Flex (1 ∷ []) (e 3)
    (record { pattern = Built (constructor 0) []; body = e 7 }
    ∷ record { pattern = Built (constructor 1) []; body = e 4 } ∷ [])
    ∷ Whole (Fun (function 0)) []
    ∷ Whole (Fun (function 1)) (e 0 ∷ e 1 ∷ [])
    ∷ Whole (Fun (function 1)) (e 6 ∷ e 1 ∷ [])
    ∷ Whole (Set (function 0)) []
    ∷ []

-- the code of the example's program
abbrev pub coin_code : Code
coin_code = record {
  functions = functions;
  constructors = constructors;
  special = special;
  expressions = expressions;
}

-- the function coin
abbrev pub coin_function : FunId
coin_function = function 0

-- the goal `coin`
abbrev pub coin : FunId
coin = function 4

-- the goal `0 ? 1`
abbrev pub zero_or_one : FunId
zero_or_one = function 5

-- the goal `loop ? 1`
abbrev pub loop_or_one : FunId
loop_or_one = function 6

-- the goal `set0 coin`
abbrev pub all_of_the_coin : FunId
all_of_the_coin = function 7

-- limits on a search: so many rounds of so many steps
abbrev pub small_limits : ℕ → ℕ → SearchLimits
small_limits rounds stride = record {
  rounds = rounds;
  answers = None;
  stride = stride;
  step = record { nodes = 1000; width = 100 };
}

-- the value of a number
abbrev pub number : ℕ → Value
number n = value.Literal (Int (pos n))

-- the line of a number as an answer in a round, of a goal without variables
abbrev pub number_at : ℕ → ℕ → Line
number_at round n = Answered round (record { bindings = []; value = number n })

-- a list of values as a value of the example's program
abbrev pub list_of : List Value → Value
list_of [] = Constructed (constructor 2) NoValue
list_of (v ∷ vs) = Constructed (constructor 3) (MoreValues v (MoreValues (list_of vs) NoValue))

-- the line of a set function's value as an answer in a round, of a goal without variables
abbrev pub all_at : ℕ → List Value → Line
all_at round values =
    Answered round
    (record {
      bindings = [];
      value = Constructed (constructor 4)
          (MoreValues (list_of values) NoValue);
    })
