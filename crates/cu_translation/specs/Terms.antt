-- The terms that source forms are made of: calls, lists, tuples, literals and distinctions.
use Rattle.std.specs.Prelude.{ℕ, ℤ, pos, List, [], ◌∷◌, Option, None, Some, codes, drop, length, map, nat_lt, neg_ℤ, take, if◌then◌else◌}
use Rattle.cu_calculus.specs.Term as calculus
use Rattle.cu_calculus.specs.declared.ConId.{ConId}
use Rattle.cu_calculus.specs.declared.Head.TheVariants as global
use Rattle.cu_calculus.specs.declared.Lit.TheVariants as lit
use Rattle.cu_calculus.specs.declared.Mode.TheVariants.{Rigid}
use Rattle.cu_kernel.specs.LocalTerm.{Apply, Case, Literal, LocalTerm, LocalTerms, MoreAlternatives, MoreTerms, NoAlternative, NoTerm, Part, Variable, Whole}
use Rattle.cu_kernel.specs.declared.local.LocalHead.{LocalHead}
use Rattle.cu_kernel.specs.declared.local.LocalHead.TheVariants as head
use Rattle.cu_syntax.specs.Syntax as syntax
use Rattle.cu_translation.specs.Around as around
use Rattle.cu_translation.specs.Around.{Names, Referent, tuple_name}

-- The term for what is refused: a case distinction without alternatives, which has no value.
abbrev pub no_term : LocalTerm
no_term = Case Rigid (Literal (lit.Int (pos 0))) NoAlternative

-- ---- calls

abbrev pub terms : List LocalTerm → LocalTerms
terms [] = NoTerm
terms (t ∷ ts) = MoreTerms t (terms ts)

-- a term applied to arguments, from the left
abbrev pub applied : LocalTerm → List LocalTerm → LocalTerm
applied f [] = f
applied f (t ∷ ts) = applied (Apply f t) ts

-- A head that takes so many arguments, applied to some: a partial application where there are
-- fewer, and else a whole call, which is applied to those that are left.
abbrev pub call : LocalHead → ℕ → List LocalTerm → LocalTerm
call h count ts =
    if nat_lt (length ts) count then Part h (terms ts)
    else applied (Whole h (terms (take count ts))) (drop count ts)

-- the term of an operand, what it refers to where it is a name and nothing else, and its number
-- where it is written as one
pub record Operand : Type 0 where
  pub term : LocalTerm
  pub name : Option Referent
  pub number : Option ℤ

abbrev pub plain : LocalTerm → Operand
plain t = record { term = t; name = None; number = None }

abbrev pub terms_of : List Operand → List LocalTerm
terms_of operands = map (λ (o : Operand). o.term) operands

-- The call of `setN f` on arguments: that of the set function of f. The first argument has to be
-- the name of a function of top level, f.
abbrev pub set_call_of : ℕ → Option Referent → List LocalTerm → LocalTerm
set_call_of count (Some (around.Callable (head.Global (global.Fun f)) arity)) ts =
    call (head.Global (global.Set f)) count ts
set_call_of count _ ts = no_term

abbrev pub set_call : ℕ → List Operand → LocalTerm
set_call count [] = no_term
set_call count (f ∷ operands) = set_call_of count f.name (terms_of operands)

-- what a name refers to, applied to arguments
abbrev pub referred : Referent → List Operand → LocalTerm
referred (around.Variable x) operands = applied (Variable x) (terms_of operands)
referred (around.Callable h count) operands = call h count (terms_of operands)
referred (around.SetFunction count) operands = set_call count operands
referred around.Nothing operands = no_term

abbrev pub by_name : Option Referent → LocalTerm → List Operand → LocalTerm
by_name (Some r) f operands = referred r operands
by_name None f operands = applied f (terms_of operands)

-- the term of an expression on arguments: a call, where the expression is a name and nothing else
abbrev pub called : Operand → List Operand → LocalTerm
called f operands = by_name f.name f.term operands

-- ---- what the Prelude has

-- a function or a constructor of the Prelude, applied to arguments
abbrev pub built_in : Names → List ℕ → List LocalTerm → LocalTerm
built_in names text ts = referred (names.prelude text) (map plain ts)

-- the term of the list of these terms
abbrev pub list : Names → List LocalTerm → LocalTerm
list names [] = built_in names (codes "[]") []
list names (t ∷ ts) = built_in names (codes ":") (t ∷ list names ts ∷ [])

abbrev pub tuple : Names → List LocalTerm → LocalTerm
tuple names ts = built_in names (tuple_name (length ts)) ts

abbrev pub character : ℕ → LocalTerm
character c = Literal (lit.Char c)

-- the term of a literal; a string is the list of its characters
abbrev pub literal : Names → syntax.Literal → LocalTerm
literal names (syntax.Int n) = Literal (lit.Int n)
literal names (syntax.Char c) = Literal (lit.Char c)
literal names (syntax.String cs) = list names (map character cs)

abbrev pub negation : Option ℤ → LocalTerm → LocalTerm
negation (Some n) otherwise = Literal (lit.Int (neg_ℤ n))
negation None otherwise = otherwise

-- the negation of an operand: the negative of a number that is written as one, and else a call of
-- `negate`
abbrev pub negated : Names → Operand → LocalTerm
negated names operand =
    negation operand.number (built_in names (codes "negate") (operand.term ∷ []))

-- ---- distinctions

-- the constructor that a name refers to, or the first constructor where it refers to none
abbrev pub constructor_of : Referent → ConId
constructor_of (around.Callable (head.Global (global.Con c)) count) = c
constructor_of _ = record { 0 = 0 }

-- a constructor of the Prelude without arguments, as a pattern
abbrev pub constant : Names → List ℕ → calculus.Pattern
constant names text = calculus.Built (constructor_of (names.prelude text)) calculus.NoPattern

abbrev pub if_then_else : Names → LocalTerm → LocalTerm → LocalTerm → LocalTerm
if_then_else names condition chosen other =
    Case Rigid condition
    (MoreAlternatives (constant names (codes "True")) chosen
    (MoreAlternatives (constant names (codes "False")) other NoAlternative))
