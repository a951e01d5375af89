-- The reading of types.
use Rattle.std.specs.Prelude.{ℕ, zero, suc, List, [], ◌∷◌, Ok, Err, codes, length}
use Rattle.cu_flatread.specs.FlatText.{most_nested}
use Rattle.cu_flatread.specs.Inside.Names.{entity_at}
use Rattle.cu_flatread.specs.Inside.Numbers.{number_at}
use Rattle.cu_flatread.specs.Inside.Words.{Read, ◌>>=◌, after_word, list_after, list_at, one_of}
use Rattle.cu_flatread.specs.Modules as m
use Rattle.cu_flatread.specs.Modules.{TypeExpression, TypeExpressions}
use Rattle.cu_flatread.specs.Notation.{Entity}
use Rattle.cu_flatread.specs.declared.types.TypeForm.{TypeForm}
use Rattle.cu_flatread.specs.declared.types.TypeForm.TheVariants as form

-- The words of a type that is nested at most so deep: at the last depth none that needs a type in
-- it.
abbrev pub type_words : ℕ → List (List ℕ × TypeForm)
type_words zero = []
type_words (suc zero) = (codes "TVar ", form.Variable) ∷ (codes "TCons ", form.Named) ∷ []
type_words (suc (suc depth)) =
    (codes "TVar ", form.Variable) ∷ (codes "FuncType (", form.Arrow)
    ∷ (codes "TCons ", form.Named) ∷ []

-- several types, from a list of them
abbrev pub all_types : List (TypeExpression Entity) → TypeExpressions Entity
all_types [] = m.NoType
all_types (t ∷ ts) = m.MoreTypes t (all_types ts)

-- what follows the word of a type, where `inner` reads the types in it
unfoldable pub type_of_form : (List ℕ → Read (TypeExpression Entity)) → TypeForm → List ℕ
    → Read (TypeExpression Entity)
type_of_form inner form.Variable bytes = number_at bytes >>= λ x. Ok (m.Variable x.0, x.1)
type_of_form inner form.Arrow bytes =
    inner bytes >>= λ a. after_word (codes ") (") a.1 >>= λ between. inner between
    >>= λ b. after_word (codes ")") b.1 >>= λ rest. Ok (m.Arrow a.0 b.0, rest)
type_of_form inner form.Named bytes =
    entity_at bytes >>= λ e. after_word (codes " [") e.1 >>= λ list. list_after inner list
    >>= λ ts. Ok (m.Named e.0 (all_types ts.0), ts.1)

-- a type that is nested at most so deep
unfoldable pub type_at : ℕ → List ℕ → Read (TypeExpression Entity)
type_at zero bytes = Err (length bytes)
type_at (suc depth) bytes =
    one_of (type_words (suc depth)) bytes
    >>= λ found. type_of_form (type_at depth) found.0 found.1

-- a list of types
unfoldable pub types_at : List ℕ → Read (TypeExpressions Entity)
types_at bytes = list_at (type_at most_nested) bytes >>= λ ts. Ok (all_types ts.0, ts.1)
