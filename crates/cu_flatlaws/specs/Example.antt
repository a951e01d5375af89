-- What is printed of an example, written out by hand: the module `M` of `Worked`, and an expression
-- over its functions.
use Rattle.std.specs.Prelude.{ℕ, true, false, List, [], ◌∷◌, codes, pos}
use Rattle.cu_calculus.specs.Term as term
use Rattle.cu_calculus.specs.Term.{Term}
use Rattle.cu_calculus.specs.declared.FunId.{FunId}
use Rattle.cu_calculus.specs.declared.Head.TheVariants as head
use Rattle.cu_calculus.specs.declared.Lit.TheVariants.{Int}
use Rattle.cu_calculus.specs.declared.Mode.TheVariants.{Flex}
use Rattle.cu_flatread.specs.Modules as m
use Rattle.cu_flatread.specs.Modules.{Declaration, Expression, Function, Module, TypeExpression}
use Rattle.cu_flatread.specs.Notation.{Entity}
use Rattle.cu_flatread.specs.declared.cells.CombKind.TheVariants as kind
use Rattle.cu_kernel.specs.declared.declarations.Side.TheVariants.{Right}

abbrev pub of_m : List ℕ → Entity
of_m name = record { owner = codes "M"; name = name }

-- ---- the module

-- `T a` for the type variable of number 0
abbrev pub some_t : TypeExpression Entity
some_t = m.Named (of_m (codes "T")) (m.MoreTypes (m.Variable 0) m.NoType)

abbrev pub int : TypeExpression Entity
int = m.Named (record { owner = codes "Prelude"; name = codes "Int" }) m.NoType

-- `data T a = C a (T a) | N`, where the synonym `L` is expanded and `N` isn't exported
abbrev pub type_t : Declaration
type_t = record {
  entity = of_m (codes "T");
  public = true;
  parameters = 0 ∷ [];
  right_side =
      m.OfType (record {
        entity = of_m (codes "C");
        arity = 2;
        public = true;
        fields = m.MoreTypes (m.Variable 0) (m.MoreTypes some_t m.NoType);
      }
      ∷ record { entity = of_m (codes "N"); arity = 0; public = false; fields = m.NoType } ∷ []);
}

-- `type L a = T a`
abbrev pub synonym_l : Declaration
synonym_l = record {
  entity = of_m (codes "L");
  public = false;
  parameters = 0 ∷ [];
  right_side = m.OfTypeSyn some_t;
}

-- `f`, of the rules `f 0 = 1` and `f x = 2`
abbrev pub function_f : Function
function_f = record {
  entity = of_m (codes "f");
  arity = 1;
  public = true;
  of_type = m.Arrow int int;
  rule =
      m.Rule (1 ∷ [])
      (m.Or (m.Case Flex (m.Var 1)
      (m.MoreBranches (m.Exactly (Int (pos 0))) (m.Literal (Int (pos 1))) m.NoBranch))
      (m.Literal (Int (pos 2))));
}

-- `g (C x t) y = x`
abbrev pub function_g : Function
function_g = record {
  entity = of_m (codes "g");
  arity = 2;
  public = false;
  of_type = m.Arrow some_t (m.Arrow (m.Variable 1) (m.Variable 0));
  rule =
      m.Rule (1 ∷ 2 ∷ [])
      (m.Case Flex (m.Var 1)
      (m.MoreBranches (m.Built (of_m (codes "C")) (3 ∷ 4 ∷ [])) (m.Var 3) m.NoBranch));
}

abbrev pub example : Module
example = record {
  name = codes "M";
  imports = codes "Prelude" ∷ [];
  types = type_t ∷ synonym_l ∷ [];
  functions = function_f ∷ function_g ∷ [];
  operators = record { entity = of_m (codes "f"); side = Right; level = 5 } ∷ [];
}

-- ---- an expression

abbrev pub f : FunId
f = record { 0 = 0 }

-- `let h = f in let y free in h (set1 f y)`, with 7 for h and 9 for y
abbrev pub some_term : Term
some_term =
    term.Let 7 (term.Part (head.Fun f) term.NoTerm)
    (term.Free 9 (term.Apply (term.Variable 7)
    (term.Whole (head.Set f) (term.MoreTerms (term.Variable 9) term.NoTerm))))

-- `f` without its one argument
abbrev pub f_alone : Expression Entity
f_alone = m.Comb (kind.FuncPartCall 1) (of_m (codes "f")) m.NoExpression

-- what is printed of it, where the next variable has the number 1
abbrev pub some_expression : Expression Entity
some_expression =
    m.Let 1 f_alone
    (m.Free 2 (m.Comb kind.FuncCall (record { owner = codes "Prelude"; name = codes "apply" })
    (m.MoreExpressions (m.Var 1)
    (m.MoreExpressions
    (m.Comb kind.FuncCall (record { owner = codes "SetFunctions"; name = codes "set1" })
    (m.MoreExpressions f_alone (m.MoreExpressions (m.Var 2) m.NoExpression)))
    m.NoExpression))))
