-- Programs whose equations are worked out by hand.
use Rattle.std.specs.Prelude.{◌≡◌, ℕ, false, true, List, [], ◌∷◌, ◌++◌, Option, None, Some, pos}
use Rattle.cu_calculus.specs.Program as calculus
use Rattle.cu_calculus.specs.Program.{Rule}
use Rattle.cu_calculus.specs.Term as term
use Rattle.cu_calculus.specs.Term.{Pattern, Patterns, Term, Terms}
use Rattle.cu_calculus.specs.declared.ConId.{ConId}
use Rattle.cu_calculus.specs.declared.FunId.{FunId}
use Rattle.cu_calculus.specs.declared.Head.TheVariants as head
use Rattle.cu_calculus.specs.declared.Lit.TheVariants as lit
use Rattle.cu_calculus.specs.declared.Mode.TheVariants.{Rigid}
use Rattle.cu_calculus.specs.declared.builtin.Primitive.TheVariants as prim
use Rattle.cu_calculus.specs.declared.builtin.Special.{Special}
use Rattle.cu_kernel.specs.Kernel.{Constructor, DataType, Function, Goal, Kernel, Mark, Synonym}
use Rattle.cu_kernel.specs.TypeExpr as type
use Rattle.cu_kernel.specs.TypeExpr.{TypeExpr, TypeExprs}
use Rattle.cu_kernel.specs.declared.type_term.TypeName.TheVariants as name
use Rattle.cu_names.specs.declared.names.NameId.{NameId}
use Rattle.cu_types.specs.Equations.{equations}
use Rattle.cu_types.specs.BuiltInTypes.{data_type, variables_from}
use Rattle.cu_types.specs.Inference.{BreaksSignature, HasPrincipalTypes, IsInferred, is_functional}
use Rattle.cu_types.specs.TypeFaults.{HasFunctionalGoal}
use Rattle.cu_types.specs.Unification.{Equation, IsClash}

-- ---- types: those that every program begins with, Bool, and the values of set functions

abbrev pub a_name : NameId
a_name = record { 0 = 0 }

abbrev list_of : TypeExpr → TypeExpr
list_of t = data_type 0 (t ∷ [])

abbrev pair_of : TypeExpr → TypeExpr → TypeExpr
pair_of s t = data_type 2 (s ∷ t ∷ [])

abbrev pub int : TypeExpr
int = data_type 16 []

abbrev pub char : TypeExpr
char = data_type 17 []

abbrev pub bool : TypeExpr
bool = data_type 18 []

abbrev values_of : TypeExpr → TypeExpr
values_of t = data_type 19 (t ∷ [])

abbrev pub var : ℕ → TypeExpr
var x = type.Variable x

abbrev with_fields : List TypeExpr → Constructor
with_fields ts = record { name = a_name; public = true; fields = ts }

abbrev with_constructors : ℕ → List Constructor → DataType
with_constructors arity cs =
    record { name = a_name; «module» = 0; arity = arity; public = true; constructors = cs }

abbrev tuple : ℕ → DataType
tuple n = with_constructors n (with_fields (variables_from 0 n) ∷ [])

abbrev types : List DataType
types =
    with_constructors 1 (with_fields [] ∷ with_fields (var 0 ∷ list_of (var 0) ∷ []) ∷ [])
    ∷ tuple 0
    ∷ tuple 2 ∷ tuple 3 ∷ tuple 4 ∷ tuple 5 ∷ tuple 6 ∷ tuple 7 ∷ tuple 8
    ∷ tuple 9 ∷ tuple 10 ∷ tuple 11 ∷ tuple 12 ∷ tuple 13 ∷ tuple 14 ∷ tuple 15
    ∷ with_constructors 0 []
    ∷ with_constructors 0 []
    ∷ with_constructors 0 (with_fields [] ∷ with_fields [] ∷ [])
    ∷ with_constructors 1 (with_fields (list_of (var 0) ∷ []) ∷ [])
    ∷ []

abbrev con : ℕ → ConId
con c = record { 0 = c }

abbrev pub fun : ℕ → FunId
fun f = record { 0 = f }

abbrev special : Special
special = record {
  falsity = con 17;
  truth = con 18;
  nil = con 0;
  cons = con 1;
  both = fun 0;
  values = Some (con 19);
}

-- the synonyms of the samples: `type String = [Char]` and `type Strings = [String]`
abbrev synonyms : List Synonym
synonyms =
    record { name = a_name; «module» = 0; public = true; arity = 0; body = list_of char }
    ∷ record {
      name = a_name;
      «module» = 0;
      public = true;
      arity = 0;
      body = list_of (type.Named (name.Synonym (record { 0 = 0 })) type.NoType);
    }
    ∷ []

-- ---- functions

abbrev one : Pattern → Patterns
one p = term.MorePatterns p term.NoPattern

abbrev argument : Term → Terms
argument t = term.MoreTerms t term.NoTerm

abbrev call : ℕ → Terms → Term
call f ts = term.Whole (head.Fun (fun f)) ts

abbrev pair : Term → Term → Term
pair s t = term.Whole (head.Con (con 3)) (term.MoreTerms s (argument t))

abbrev an_a : Term
an_a = term.Literal (lit.Char 97)

abbrev a_one : Term
a_one = term.Literal (lit.Int (pos 1))

abbrev function : ℕ → List Rule → Function
function arity rules = record { name = a_name; arity = arity; body = calculus.Rules rules }

abbrev mark : Option TypeExpr → ℕ → Mark
mark declared captured = record {
  «module» = 0;
  public = true;
  declared = declared;
  captured = captured;
  place = record { «module» = a_name; line = 1; column = 1 };
}

-- function 0: `==`
abbrev equal : Function
equal = record { name = a_name; arity = 2; body = calculus.External prim.Equal }

-- function 1: `not`
abbrev negation : Function
negation = function 1
    (record {
      params = one (term.Built (con 18) term.NoPattern);
      body = term.Whole (head.Con (con 17)) term.NoTerm;
    }
    ∷ record {
      params = one (term.Built (con 17) term.NoPattern);
      body = term.Whole (head.Con (con 18)) term.NoTerm;
    }
    ∷ [])

-- function 2: `not 'a'`
abbrev wrong_goal : Function
wrong_goal = function 0 (record { params = term.NoPattern; body = call 1 (argument an_a) } ∷ [])

-- function 3, and with the declared type `a -> Int` function 5: `f x = x`
abbrev identity : Function
identity = function 1 (record { params = one (term.Any 0); body = term.Variable 0 } ∷ [])

-- function 4: `(f 1, f 'a')`
abbrev pair_goal : Function
pair_goal =
    function 0 (record {
      params = term.NoPattern;
      body = pair (call 3 (argument a_one)) (call 3 (argument an_a));
    } ∷ [])

-- function 6: `g x y = case x of { True -> y }`, which has captured x, with the declared type `b ->
-- b` of y alone
abbrev choice : Function
choice = function 2 (record {
  params = term.MorePatterns (term.Any 0) (one (term.Any 1));
  body = term.Case Rigid (term.Variable 0)
      (term.MoreAlternatives (term.Built (con 18) term.NoPattern)
      (term.Variable 1) term.NoAlternative);
} ∷ [])

-- function 7: `h x y = x`, which has captured x, with the declared type `b -> b` of y alone
abbrev captive : Function
captive = function 2 (record {
  params = term.MorePatterns (term.Any 0) (one (term.Any 1));
  body = term.Variable 0;
} ∷ [])

-- function 8: the set function of f on 1
abbrev set_goal : Function
set_goal =
    function 0 (record {
      params = term.NoPattern;
      body = term.Whole (head.Set (fun 3)) (argument a_one);
    } ∷ [])

-- function 9: `p x = p [x]`, with the declared type `a -> Strings`
abbrev nested : Function
nested = function 1 (record {
  params = one (term.Any 0);
  body = call 9 (argument (term.Whole (head.Con (con 1))
      (term.MoreTerms (term.Variable 0) (argument (term.Whole (head.Con (con 0)) term.NoTerm)))));
} ∷ [])

-- function 10: `twice f x = f (f x)`
abbrev twice : Function
twice = function 2 (record {
  params = term.MorePatterns (term.Any 0) (one (term.Any 1));
  body = term.Apply (term.Variable 0) (term.Apply (term.Variable 0) (term.Variable 1));
} ∷ [])

-- functions 11 and 12, which are one group: `even 0 = True`, `even n = odd n` and `odd n = even n`
abbrev even : Function
even = function 1
    (record {
      params = one (term.Exactly (lit.Int (pos 0)));
      body = term.Whole (head.Con (con 18)) term.NoTerm;
    }
    ∷ record { params = one (term.Any 0); body = call 12 (argument (term.Variable 0)) }
    ∷ [])

abbrev odd : Function
odd = function 1 (record {
  params = one (term.Any 0);
  body = call 11 (argument (term.Variable 0));
} ∷ [])

-- function 13: `s x = x x`
abbrev to_itself : Function
to_itself = function 1 (record {
  params = one (term.Any 0);
  body = term.Apply (term.Variable 0) (term.Variable 0);
} ∷ [])

abbrev pub sample : Kernel
sample = record {
  types = types;
  functions = equal ∷ negation ∷ wrong_goal ∷ identity ∷ pair_goal ∷ identity ∷ choice ∷ captive
      ∷ set_goal ∷ nested
      ∷ twice ∷ even ∷ odd ∷ to_itself ∷ [];
  synonyms = synonyms;
  modules = [];
  marks = mark None 0 ∷ mark None 0 ∷ mark None 0 ∷ mark None 0 ∷ mark None 0
      ∷ mark (Some (type.Arrow (var 0) int)) 0
      ∷ mark (Some (type.Arrow (var 0) (var 0))) 1 ∷ mark (Some (type.Arrow (var 0) (var 0))) 1
      ∷ mark None 0
      ∷ mark (Some (type.Arrow (var 0) (type.Named (name.Synonym (record { 0 = 1 })) type.NoType)))
      0 ∷ mark None 0
      ∷ mark None 0 ∷ mark None 0 ∷ mark None 0 ∷ [];
  goal = None;
  special = special;
}

-- ---- a whole program: f x = x, 0, and f alone, 1

abbrev alone : Function
alone = function 0 (record {
  params = term.NoPattern;
  body = term.Part (head.Fun (fun 0)) term.NoTerm;
} ∷ [])

-- a goal that is a call of a function with so many free variables
abbrev pub goal : ℕ → List NameId → Option Goal
goal f names = Some (record { function = fun f; names = names })

abbrev pub whole : Option Goal → Kernel
whole g = record {
  types = types;
  functions = identity ∷ alone ∷ [];
  synonyms = [];
  modules = [];
  marks = mark None 0 ∷ mark None 0 ∷ [];
  goal = g;
  special = special;
}

abbrev pub whole_types : List TypeExpr
whole_types = type.Arrow (var 0) (var 0) ∷ type.Arrow (var 0) (var 0) ∷ []

-- ---- equations

-- the types that are known of `==`, `not` and f, as an interface
abbrev pub known : List TypeExpr
known = type.Arrow (var 0) (type.Arrow (var 0) bool) ∷ type.Arrow bool bool ∷ bool
    ∷ type.Arrow (var 0) (var 0) ∷ []

abbrev pub both : TypeExpr → TypeExpr → Equation
both s t = record { left = s; right = t }

abbrev pub asked_of : ℕ → List Equation
asked_of f = equations sample known (fun f ∷ [])

-- the equations that each sample asks for
pub record SamplesAsk : Type 0 where
  pub equal : asked_of 0
      ≡ both (type.Arrow (var 3) (type.Arrow (var 3) bool))
      (type.Arrow (var 0) (type.Arrow (var 1) (var 2))) ∷ []
  pub negation : asked_of 1
      ≡ both bool (var 0) ∷ both bool (var 1) ∷ both bool (var 0) ∷ both bool (var 1) ∷ []
  pub wrong_goal : asked_of 2
      ≡ both (type.Arrow bool bool) (type.Arrow (var 1) (var 0)) ∷ both char (var 1) ∷ []
  pub identity : asked_of 3
      ≡ both (var 2) (var 0) ∷ both (var 2) (var 1) ∷ []
  pub pair_goal : asked_of 4
      ≡ both (type.Arrow (var 3) (type.Arrow (var 4) (pair_of (var 3) (var 4))))
      (type.Arrow (var 1) (type.Arrow (var 2) (var 0)))
      ∷ both (type.Arrow (var 6) (var 6)) (type.Arrow (var 5) (var 1))
      ∷ both int (var 5)
      ∷ both (type.Arrow (var 8) (var 8)) (type.Arrow (var 7) (var 2))
      ∷ both char (var 7)
      ∷ []
  pub too_general : asked_of 5
      ≡ both (type.Arrow (var 0) (var 1)) (type.Arrow (var 2) int) ∷ both (var 3) (var 0)
      ∷ both (var 3) (var 1) ∷ []
  pub choice : asked_of 6
      ≡ both (type.Arrow (var 1) (var 2)) (type.Arrow (var 3) (var 3))
      ∷ both (var 4) (var 0) ∷ both (var 5) (var 1)
      ∷ both (var 4) (var 6) ∷ both bool (var 6) ∷ both (var 5) (var 2)
      ∷ []
  pub captive : asked_of 7
      ≡ both (type.Arrow (var 1) (var 2)) (type.Arrow (var 3) (var 3))
      ∷ both (var 4) (var 0) ∷ both (var 5) (var 1) ∷ both (var 4) (var 2)
      ∷ []
  pub set_goal : asked_of 8
      ≡ both (type.Arrow (var 2) (values_of (var 3))) (type.Arrow (var 1) (var 0))
      ∷ both (type.Arrow (var 4) (var 4)) (type.Arrow (var 2) (var 3))
      ∷ both int (var 1)
      ∷ []
  pub nested : asked_of 9
      ≡ both (type.Arrow (var 0) (var 1)) (type.Arrow (var 2) (list_of (list_of char)))
      ∷ both (var 3) (var 0)
      ∷ both (type.Arrow (var 5) (list_of (list_of char))) (type.Arrow (var 4) (var 1))
      ∷ both (type.Arrow (var 8) (type.Arrow (list_of (var 8)) (list_of (var 8))))
      (type.Arrow (var 6) (type.Arrow (var 7) (var 4)))
      ∷ both (var 3) (var 6)
      ∷ both (list_of (var 9)) (var 7)
      ∷ []
  pub twice : asked_of 10
      ≡ both (var 3) (var 0) ∷ both (var 4) (var 1)
      ∷ both (type.Arrow (var 5) (var 2)) (var 6) ∷ both (var 3) (var 6)
      ∷ both (type.Arrow (var 7) (var 5)) (var 8) ∷ both (var 3) (var 8) ∷ both (var 4) (var 7)
      ∷ []
  pub even_and_odd : equations sample known (fun 11 ∷ fun 12 ∷ [])
      ≡ both int (var 0) ∷ both bool (var 1)
      ∷ both (var 4) (var 0)
      ∷ both (type.Arrow (var 2) (var 3)) (type.Arrow (var 5) (var 1)) ∷ both (var 4) (var 5)
      ∷ both (var 6) (var 2)
      ∷ both (type.Arrow (var 0) (var 1)) (type.Arrow (var 7) (var 3)) ∷ both (var 6) (var 7)
      ∷ []
  pub to_itself : asked_of 13
      ≡ both (var 2) (var 0)
      ∷ both (type.Arrow (var 3) (var 1)) (var 4) ∷ both (var 2) (var 4) ∷ both (var 2) (var 3)
      ∷ []

-- ---- what the samples are answered

-- the types known where those of f, the choice and the pair are known too
abbrev pub known_too : List TypeExpr
known_too =
    type.Arrow (var 0) (type.Arrow (var 0) bool) ∷ type.Arrow bool bool ∷ bool
    ∷ type.Arrow (var 0) (var 0) ∷ pair_of int char ∷ bool
    ∷ type.Arrow bool (type.Arrow (var 0) (var 0)) ∷ []

-- the types known where those of the functions after these are known too, but for h, which has none
abbrev pub known_even : List TypeExpr
known_even =
    known_too ++ var 0 ∷ values_of int ∷ type.Arrow (var 0) (list_of (list_of char))
    ∷ type.Arrow (type.Arrow (var 0) (var 0)) (type.Arrow (var 0) (var 0))
    ∷ type.Arrow int bool ∷ type.Arrow int bool ∷ []

-- the types known where f has a type that isn't its most general one
abbrev pub known_narrow : List TypeExpr
known_narrow =
    type.Arrow (var 0) (type.Arrow (var 0) bool) ∷ type.Arrow bool bool ∷ bool ∷ type.Arrow int int
    ∷ []

pub record SamplesAnswered : Type 0 where
  pub wrong_goal : IsClash (asked_of 2) bool char
  pub to_itself : IsClash (asked_of 13) (var 3) (type.Arrow (var 3) (var 1))
  pub identity : HasPrincipalTypes sample known (fun 3 ∷ [])
  pub too_narrow : HasPrincipalTypes sample known_narrow (fun 3 ∷ []) → ⊥
  pub too_general : BreaksSignature sample known (fun 5 ∷ [])
  pub choice : HasPrincipalTypes sample known_too (fun 6 ∷ [])
  pub captive : BreaksSignature sample known (fun 7 ∷ [])
  pub even_and_odd : HasPrincipalTypes sample known_even (fun 11 ∷ fun 12 ∷ [])
  -- goals: f, f x, and twice f x
  pub function_goal : is_functional known (goal 3 []) ≡ true
  pub data_goal : is_functional known (goal 3 (a_name ∷ [])) ≡ false
  pub function_variable : is_functional known_even (goal 10 (a_name ∷ a_name ∷ [])) ≡ true
  -- the whole program as a module, with the goal f x, and with the goal f
  pub interface : IsInferred (whole None) whole_types
  pub applied : IsInferred (whole (goal 0 (a_name ∷ []))) whole_types
  pub functional : HasFunctionalGoal (whole (goal 1 []))
