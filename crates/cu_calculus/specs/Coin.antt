-- An example, of which a law says what is derived: `coin = 0 ? 1`, and `every`, which is the set
-- function of coin.
use Rattle.std.specs.Prelude.{ℕ, List, [], ◌∷◌, Some, pos}
use Rattle.cu_calculus.specs.declared.ConId.{ConId}
use Rattle.cu_calculus.specs.declared.FunId.{FunId}
use Rattle.cu_calculus.specs.declared.Head.TheVariants as head
use Rattle.cu_calculus.specs.declared.Lit.{Lit}
use Rattle.cu_calculus.specs.declared.Lit.TheVariants.{Int}
use Rattle.cu_calculus.specs.declared.builtin.Special.{Special}
use Rattle.cu_calculus.specs.Gives.{Claim, collected}
use Rattle.cu_calculus.specs.Program.{Constructor, Function, Program, Rule, Rules}
use Rattle.cu_calculus.specs.Term as term
use Rattle.cu_calculus.specs.Term.{Term}
use Rattle.cu_calculus.specs.Value as value
use Rattle.cu_calculus.specs.Value.{Value}

-- the example's constructors: those of Bool, those of lists, and that of the values of a set
-- function
abbrev pub falsity : ConId
falsity = record { 0 = 0 }

abbrev pub truth : ConId
truth = record { 0 = 1 }

abbrev pub nil : ConId
nil = record { 0 = 2 }

abbrev pub cons : ConId
cons = record { 0 = 3 }

abbrev pub some_values : ConId
some_values = record { 0 = 4 }

-- the example's functions
abbrev pub conjunction : FunId
conjunction = record { 0 = 0 }

abbrev pub coin : FunId
coin = record { 0 = 1 }

abbrev pub every : FunId
every = record { 0 = 2 }

abbrev pub special : Special
special = record {
  falsity = falsity;
  truth = truth;
  nil = nil;
  cons = cons;
  both = conjunction;
  values = Some some_values;
}

-- the rules True && x = x and False && x = False
abbrev pub true_first : Rule
true_first = record {
  params = term.MorePatterns (term.Built truth term.NoPattern)
      (term.MorePatterns (term.Any 0) term.NoPattern);
  body = term.Variable 0;
}

-- the rule False && x = False
abbrev pub false_first : Rule
false_first = record {
  params = term.MorePatterns (term.Built falsity term.NoPattern)
      (term.MorePatterns (term.Any 0) term.NoPattern);
  body = term.Whole (head.Con falsity) term.NoTerm;
}

abbrev pub conjunction_function : Function
conjunction_function = record { arity = 2; body = Rules (true_first ∷ false_first ∷ []) }

abbrev pub number : ℕ → Lit
number n = Int (pos n)

-- the rule coin = 0 ? 1
abbrev pub coin_rule : Rule
coin_rule =
    record {
      params = term.NoPattern;
      body = term.Or (term.Literal (number 0)) (term.Literal (number 1));
    }

abbrev pub coin_function : Function
coin_function = record { arity = 0; body = Rules (coin_rule ∷ []) }

-- the rule of every, which is a call of coin's set function
abbrev pub every_rule : Rule
every_rule = record { params = term.NoPattern; body = term.Whole (head.Set coin) term.NoTerm }

abbrev pub every_function : Function
every_function = record { arity = 0; body = Rules (every_rule ∷ []) }

abbrev pub constructor : ℕ → ℕ → Constructor
constructor of_type arity = record { of_type = of_type; arity = arity }

-- the example's program
abbrev pub program : Program
program = record {
  functions = conjunction_function ∷ coin_function ∷ every_function ∷ [];
  constructors = constructor 0 0 ∷ constructor 0 0 ∷ constructor 1 0 ∷ constructor 1 2
      ∷ constructor 2 1 ∷ [];
  special = special;
}

-- the least levels of the example's functions
abbrev pub levels : List ℕ
levels = 0 ∷ 0 ∷ 1 ∷ []

-- the literal of a number, and a claim that these are the values of coin
abbrev pub literal : ℕ → Value
literal n = value.Literal (number n)

abbrev pub coin_row : List Value → Claim
coin_row values = record { function = coin; arguments = value.NoValue; values = values }

-- the value of a call of every: the values of coin as a value of the program
abbrev pub both_values : Value
both_values = collected program some_values (literal 0 ∷ literal 1 ∷ [])
