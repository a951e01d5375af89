-- A module as an example: `data T a = C a (L a) | N`, of which N isn't exported, `type L a = T a`,
-- `infixr 5 f`, the rules `f 0 = 1` and `f x = 2`, and `g (C x t) y = x`, which isn't exported.
use Rattle.std.specs.Prelude.{ℕ, Bool, true, false, List, [], ◌∷◌, ◌++◌, None, codes, pos, replicate}
use Rattle.cu_calculus.specs.Coin.{special}
use Rattle.cu_calculus.specs.Program as calculus
use Rattle.cu_calculus.specs.Term as term
use Rattle.cu_calculus.specs.Term.{Patterns}
use Rattle.cu_calculus.specs.declared.Lit.TheVariants.{Int}
use Rattle.cu_calculus.specs.declared.Mode.TheVariants.{Flex}
use Rattle.cu_calculus.specs.declared.builtin.Primitive.TheVariants.{Failed}
use Rattle.cu_kernel.specs.Kernel.{DataType, Kernel, Mark}
use Rattle.cu_kernel.specs.TypeExpr as type
use Rattle.cu_kernel.specs.TypeExpr.{TypeExpr}
use Rattle.cu_kernel.specs.declared.declarations.Side.TheVariants.{Right}
use Rattle.cu_kernel.specs.declared.type_term.TypeName.TheVariants as named
use Rattle.cu_names.specs.declared.names.NameId.{NameId}
use Rattle.cu_flattext.specs.Naming.{Lowered}

-- a type that is built in; these come first, here without their names but for Int
abbrev pub built_in : NameId → DataType
built_in name = record { name = name; «module» = 0; arity = 0; public = true; constructors = [] }

abbrev pub unnamed : DataType
unnamed = built_in (record { 0 = 0 })

abbrev pub variable : TypeExpr
variable = type.Variable 0

abbrev pub some_l : TypeExpr
some_l = type.Named (named.Synonym (record { 0 = 0 })) (type.MoreTypes variable type.NoType)

abbrev pub some_t : TypeExpr
some_t = type.Named (named.Data (record { 0 = 18 })) (type.MoreTypes variable type.NoType)

abbrev pub int : TypeExpr
int = type.Named (named.Data (record { 0 = 16 })) type.NoType

abbrev pub declared_type : DataType
declared_type = record {
  name = record { 0 = 3 };
  «module» = 1;
  arity = 1;
  public = true;
  constructors =
      record { name = record { 0 = 4 }; public = true; fields = variable ∷ some_l ∷ [] }
      ∷ record { name = record { 0 = 5 }; public = false; fields = [] } ∷ [];
}

abbrev pub mark : Bool → Mark
mark public = record {
  «module» = 1;
  public = public;
  declared = None;
  captured = 0;
  place = record { «module» = record { 0 = 1 }; line = 1; column = 1 };
}

abbrev pub kernel : Kernel
kernel = record {
  types = replicate 16 unnamed ++ built_in (record { 0 = 7 }) ∷ unnamed ∷ declared_type ∷ [];
  functions =
      record { name = record { 0 = 2 }; arity = 1; body = calculus.External Failed }
      ∷ record { name = record { 0 = 8 }; arity = 2; body = calculus.External Failed } ∷ [];
  synonyms = record {
    name = record { 0 = 6 };
    «module» = 1;
    public = false;
    arity = 1;
    body = some_t;
  } ∷ [];
  modules =
      record { name = record { 0 = 0 }; imports = []; operators = [] }
      ∷ record {
        name = record { 0 = 1 };
        imports = record { 0 = 0 } ∷ [];
        operators = record { name = record { 0 = 2 }; side = Right; level = 5 } ∷ [];
      } ∷ [];
  marks = mark true ∷ mark false ∷ [];
  goal = None;
  special = special;
}

abbrev pub flat_f : calculus.Function
flat_f = record {
  arity = 1;
  body =
      calculus.Rules (record {
        params = term.MorePatterns (term.Any 7) term.NoPattern;
        body =
            term.Or (term.Case Flex (term.Variable 7)
            (term.MoreAlternatives (term.Exactly (Int (pos 0)))
            (term.Literal (Int (pos 1))) term.NoAlternative))
            (term.Literal (Int (pos 2)));
      } ∷ []);
}

abbrev pub two_variables : ℕ → ℕ → Patterns
two_variables x y = term.MorePatterns (term.Any x) (term.MorePatterns (term.Any y) term.NoPattern)

abbrev pub flat_g : calculus.Function
flat_g = record {
  arity = 2;
  body =
      calculus.Rules (record {
        params = two_variables 8 2;
        body =
            term.Case Flex (term.Variable 8)
            (term.MoreAlternatives (term.Built (record { 0 = 0 }) (two_variables 5 6))
            (term.Variable 5)
            term.NoAlternative);
      } ∷ []);
}

-- f is of the type `Int -> Int`, and g of `T a -> b -> a`
abbrev pub interface : List TypeExpr
interface = type.Arrow int int ∷ type.Arrow some_t (type.Arrow (type.Variable 1) variable) ∷ []

abbrev pub names : List (List ℕ)
names =
    codes "Prelude" ∷ codes "M" ∷ codes "f" ∷ codes "T" ∷ codes "C" ∷ codes "N" ∷ codes "L"
    ∷ codes "Int" ∷ codes "g" ∷ []

-- the example as a lowered program
abbrev pub worked : Lowered
worked = record {
  names = names;
  kernel = kernel;
  interface = interface;
  flat = record { functions = flat_f ∷ flat_g ∷ []; constructors = []; special = special };
}

-- the text of the example's module
abbrev pub worked_text : List ℕ
worked_text =
    codes "Prog \"M\" [\"Prelude\"] [\nType (\"M\",\"T\") Public [0] "
    ++ (codes "[Cons (\"M\",\"C\") 2 Public [TVar 0,TCons (\"M\",\"T\") [TVar 0]],"
    ++ (codes "Cons (\"M\",\"N\") 0 Private []],"
    ++ (codes "\nTypeSyn (\"M\",\"L\") Private [0] (TCons (\"M\",\"T\") [TVar 0])] "
    ++ (codes "[\nFunc (\"M\",\"f\") 1 Public "
    ++ (codes "(FuncType (TCons (\"Prelude\",\"Int\") []) (TCons (\"Prelude\",\"Int\") [])) "
    ++ (codes "(Rule [1] (Or (Case Flex (Var 1) [Branch (LPattern (Intc 0)) (Lit (Intc 1))]) "
    ++ (codes "(Lit (Intc 2)))),\nFunc (\"M\",\"g\") 2 Private "
    ++ (codes "(FuncType (TCons (\"M\",\"T\") [TVar 0]) (FuncType (TVar 1) (TVar 0))) "
    ++ (codes "(Rule [1,2] (Case Flex (Var 1) [Branch (Pattern (\"M\",\"C\") [3,4]) (Var 3)]))] "
    ++ codes "[\nOp (\"M\",\"f\") InfixrOp 5]\n")))))))))
