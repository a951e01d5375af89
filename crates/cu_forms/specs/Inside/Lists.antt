-- Lists, tuples, literals and distinctions, under names for proofs that look at their parts alone.
use Rattle.std.specs.Prelude.{ℕ, ℤ, List, [], ◌∷◌, codes}
use Rattle.cu_calculus.specs.Term as calculus
use Rattle.cu_calculus.specs.declared.Lit.TheVariants as lit
use Rattle.cu_kernel.specs.LocalTerm.{Literal, LocalTerm}
use Rattle.cu_syntax.specs.Syntax as syntax
use Rattle.cu_translation.specs.Around.{Names}
use Rattle.cu_translation.specs.Terms.{constant, if_then_else, list, literal, tuple}
use Rattle.cu_forms.specs.Inside.Calls.{built_in_term}

unfoldable pub list_term : Names → List LocalTerm → LocalTerm
list_term names ts = list names ts

abbrev pub cons_term : Names → LocalTerm → LocalTerm → LocalTerm
cons_term names t rest = built_in_term names (codes ":") (t ∷ rest ∷ [])

-- the list of these terms and then of those of another list
abbrev pub before_list : Names → List LocalTerm → LocalTerm → LocalTerm
before_list names [] rest = rest
before_list names (t ∷ ts) rest = cons_term names t (before_list names ts rest)

unfoldable pub tuple_term : Names → List LocalTerm → LocalTerm
tuple_term names ts = tuple names ts

abbrev pub number_term : ℤ → LocalTerm
number_term n = Literal (lit.Int n)

unfoldable pub literal_term : Names → syntax.Literal → LocalTerm
literal_term names found = literal names found

unfoldable pub constant_of : Names → List ℕ → calculus.Pattern
constant_of names text = constant names text

unfoldable pub distinction : Names → LocalTerm → LocalTerm → LocalTerm → LocalTerm
distinction names condition chosen other = if_then_else names condition chosen other
