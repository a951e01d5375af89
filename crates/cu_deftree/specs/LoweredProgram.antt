-- The flat program of a program.
use Rattle.std.specs.Prelude.{◌≡◌, ◌<◌, ◌≤◌, ◌^◌, ℕ, ◌+◌, suc, List, [], ◌∷◌, Some, Result, Ok, Err, length, map, slice_get}
use Rattle.cu_calculus.specs.declared.FunId.{FunId}
use Rattle.cu_calculus.specs.declared.builtin.Primitive.{Primitive}
use Rattle.cu_calculus.specs.Program.{Body, External, Function, Program, Rule, Rules, function_of}
use Rattle.cu_calculus.specs.Term as term
use Rattle.cu_calculus.specs.Term.{Alternatives, Term, Terms}
use Rattle.cu_deftree.specs.Lowering.{Tree, variables}
use Rattle.cu_deftree.specs.Rows.{numbers, row_of_rule}

-- ---- functions

-- A function with rules gets one, over variables from 1 on, whose right side is the tree of its
-- rules; what is built in stays.
pub data FunctionLowers (program : Program) (function : Function) : Function → Type 0 where
  external : (operation : Primitive) (lowered : Function) → function.body ≡ External operation
      → lowered ≡ function
      → FunctionLowers program function lowered
  by_tree : (rules : List Rule) (params : List ℕ) (t : Term) (lowered : Function)
      → function.body ≡ Rules rules
      → params ≡ numbers 1 function.arity
      → Tree program params (suc function.arity) (map (row_of_rule params) rules) t
      → lowered ≡ record {
        arity = function.arity;
        body = Rules (record { params = variables params; body = t } ∷ []);
      }
      → FunctionLowers program function lowered

-- ---- the size of a body

-- how many expressions a term is made of
abbrev mutual
  pub size : Term → ℕ
  size (term.Variable x) = 1
  size (term.Literal l) = 1
  size (term.Whole h ts) = suc (sizes ts)
  size (term.Part h ts) = suc (sizes ts)
  size (term.Apply f a) = suc (size f + size a)
  size (term.Let x a b) = suc (size a + size b)
  size (term.Free x t) = suc (size t)
  size (term.Or a b) = suc (size a + size b)
  size (term.Case mode a alternatives) = suc (size a + branch_sizes alternatives)

  pub sizes : Terms → ℕ
  sizes term.NoTerm = 0
  sizes (term.MoreTerms t ts) = size t + sizes ts

  pub branch_sizes : Alternatives → ℕ
  branch_sizes term.NoAlternative = 0
  branch_sizes (term.MoreAlternatives p t alternatives) = size t + branch_sizes alternatives

abbrev pub body_size : Body → ℕ
body_size (External operation) = 0
body_size (Rules []) = 0
body_size (Rules (rule ∷ rules)) = size rule.body + body_size (Rules rules)

-- the most expressions of one body
abbrev pub most_expressions : ℕ
most_expressions = 2 ^ 16

-- ---- programs

-- The flat program of a program: each function in its place, with constructors and built-in
-- entities as they are.
pub record Flattens (program flat : Program) : Type 0 where
  pub each : length flat.functions ≡ length program.functions
  pub functions : (k : ℕ) (function lowered : Function)
      → slice_get program.functions k ≡ Some function → slice_get flat.functions k ≡ Some lowered
      → FunctionLowers program function lowered
  pub constructors : flat.constructors ≡ program.constructors
  pub special : flat.special ≡ program.special

-- What lowering gives: the flat program, or the first function whose body would be too big.
pub data Lowering (program : Program) : Result Program FunId → Type 0 where
  flat : (flat : Program) → Flattens program flat
      → ((k : ℕ) (function : Function) → slice_get flat.functions k ≡ Some function
      → body_size function.body ≤ most_expressions)
      → Lowering program (Ok flat)
  too_big : (flat : Program) (f : FunId) (function : Function) → Flattens program flat
      → function_of flat f ≡ Some function
      → most_expressions < body_size function.body
      → ((k : ℕ) (other : Function) → k < f.0 → slice_get flat.functions k ≡ Some other
      → body_size other.body ≤ most_expressions)
      → Lowering program (Err f)
