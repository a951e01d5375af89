-- The reading of expressions.
use Rattle.std.specs.Prelude.{ℕ, zero, suc, List, [], ◌∷◌, Ok, Err, codes, length}
use Rattle.cu_calculus.specs.declared.Mode.{Mode}
use Rattle.cu_calculus.specs.declared.Mode.TheVariants.{Flex, Rigid}
use Rattle.cu_flatread.specs.Inside.Names.{entity_at}
use Rattle.cu_flatread.specs.Inside.Numbers.{literal_at, number_at, numbers_at}
use Rattle.cu_flatread.specs.Inside.Words.{Read, ◌>>=◌, after_word, list_after, one_of}
use Rattle.cu_flatread.specs.Modules as m
use Rattle.cu_flatread.specs.Modules.{Branches, Expression, Expressions, Pattern}
use Rattle.cu_flatread.specs.Notation.{Entity}
use Rattle.cu_flatread.specs.declared.cells.CombKind.{CombKind}
use Rattle.cu_flatread.specs.declared.cells.CombKind.TheVariants as of
use Rattle.cu_flatread.specs.declared.expressions.Form.{Form}
use Rattle.cu_flatread.specs.declared.expressions.Form.TheVariants as form
use Rattle.cu_flatread.specs.declared.expressions.KindForm.{KindForm}
use Rattle.cu_flatread.specs.declared.expressions.KindForm.TheVariants as kind
use Rattle.cu_flatread.specs.declared.expressions.PatternForm.{PatternForm}
use Rattle.cu_flatread.specs.declared.expressions.PatternForm.TheVariants as pattern

-- ---- kinds and patterns

abbrev pub kind_words : List (List ℕ × KindForm)
kind_words =
    (codes "FuncCall ", kind.Func) ∷ (codes "ConsCall ", kind.Cons)
    ∷ (codes "(FuncPartCall ", kind.FuncPart) ∷ (codes "(ConsPartCall ", kind.ConsPart) ∷ []

-- how many arguments are missing, and the end of the kind
unfoldable pub missing_at : List ℕ → Read ℕ
missing_at bytes = number_at bytes >>= λ n. after_word (codes ") ") n.1 >>= λ rest. Ok (n.0, rest)

abbrev pub kind_of_form : KindForm → List ℕ → Read CombKind
kind_of_form kind.Func bytes = Ok (of.FuncCall, bytes)
kind_of_form kind.Cons bytes = Ok (of.ConsCall, bytes)
kind_of_form kind.FuncPart bytes = missing_at bytes >>= λ n. Ok (of.FuncPartCall n.0, n.1)
kind_of_form kind.ConsPart bytes = missing_at bytes >>= λ n. Ok (of.ConsPartCall n.0, n.1)

-- the kind of a Comb, and a space
unfoldable pub kind_at : List ℕ → Read CombKind
kind_at bytes = one_of kind_words bytes >>= λ found. kind_of_form found.0 found.1

abbrev pub pattern_words : List (List ℕ × PatternForm)
pattern_words = (codes "Pattern ", pattern.Built) ∷ (codes "LPattern (", pattern.Exactly) ∷ []

abbrev pub pattern_of_form : PatternForm → List ℕ → Read (Pattern Entity)
pattern_of_form pattern.Built bytes =
    entity_at bytes >>= λ e. after_word (codes " ") e.1 >>= λ list. numbers_at list
    >>= λ xs. Ok (m.Built e.0 xs.0, xs.1)
pattern_of_form pattern.Exactly bytes =
    literal_at bytes >>= λ l. after_word (codes ")") l.1 >>= λ rest. Ok (m.Exactly l.0, rest)

unfoldable pub pattern_at : List ℕ → Read (Pattern Entity)
pattern_at bytes = one_of pattern_words bytes >>= λ found. pattern_of_form found.0 found.1

abbrev pub mode_words : List (List ℕ × Mode)
mode_words = (codes "Flex (", Flex) ∷ (codes "Rigid (", Rigid) ∷ []

-- ---- expressions

-- The words of an expression that is nested at most so deep: at the last depth none that needs an
-- expression in it.
abbrev pub expression_words : ℕ → List (List ℕ × Form)
expression_words zero = []
expression_words (suc zero) =
    (codes "Var ", form.Var) ∷ (codes "Lit (", form.Literal) ∷ (codes "Comb ", form.Comb) ∷ []
expression_words (suc (suc depth)) =
    (codes "Var ", form.Var) ∷ (codes "Lit (", form.Literal) ∷ (codes "Comb ", form.Comb)
    ∷ (codes "Let [(", form.Let) ∷ (codes "Free [", form.Free) ∷ (codes "Or (", form.Or)
    ∷ (codes "Case ", form.Case) ∷ []

-- several expressions, from a list of them
abbrev pub all_expressions : List (Expression Entity) → Expressions Entity
all_expressions [] = m.NoExpression
all_expressions (t ∷ ts) = m.MoreExpressions t (all_expressions ts)

-- several branches, from a list of them
abbrev pub all_branches : List (Pattern Entity × Expression Entity) → Branches Entity
all_branches [] = m.NoBranch
all_branches (b ∷ bs) = m.MoreBranches b.0 b.1 (all_branches bs)

-- a branch, where `inner` reads its expression
unfoldable pub branch_at : (List ℕ → Read (Expression Entity)) → List ℕ
    → Read (Pattern Entity × Expression Entity)
branch_at inner bytes =
    after_word (codes "Branch (") bytes >>= λ a. pattern_at a >>= λ p. after_word (codes ") (") p.1
    >>= λ b. inner b >>= λ t. after_word (codes ")") t.1 >>= λ rest. Ok ((p.0, t.0), rest)

-- the pattern of a branch, with the words round it
unfoldable pub branch_pattern_at : List ℕ → Read (Pattern Entity)
branch_pattern_at bytes =
    after_word (codes "Branch (") bytes >>= λ a. pattern_at a >>= λ p. after_word (codes ") (") p.1
    >>= λ rest. Ok (p.0, rest)

-- what follows the word of an expression, where `inner` reads the expressions in it
unfoldable pub expression_of_form : (List ℕ → Read (Expression Entity)) → Form → List ℕ
    → Read (Expression Entity)
expression_of_form inner form.Var bytes = number_at bytes >>= λ x. Ok (m.Var x.0, x.1)
expression_of_form inner form.Literal bytes =
    literal_at bytes >>= λ l. after_word (codes ")") l.1 >>= λ rest. Ok (m.Literal l.0, rest)
expression_of_form inner form.Comb bytes =
    kind_at bytes >>= λ kind. entity_at kind.1 >>= λ e. after_word (codes " [") e.1
    >>= λ list. list_after inner list
    >>= λ ts. Ok (m.Comb kind.0 e.0 (all_expressions ts.0), ts.1)
expression_of_form inner form.Let bytes =
    number_at bytes >>= λ x. after_word (codes ",") x.1 >>= λ r. inner r
    >>= λ a. after_word (codes ")] (") a.1 >>= λ s. inner s
    >>= λ b. after_word (codes ")") b.1 >>= λ rest. Ok (m.Let x.0 a.0 b.0, rest)
expression_of_form inner form.Free bytes =
    number_at bytes >>= λ x. after_word (codes "] (") x.1 >>= λ r. inner r
    >>= λ a. after_word (codes ")") a.1 >>= λ rest. Ok (m.Free x.0 a.0, rest)
expression_of_form inner form.Or bytes =
    inner bytes >>= λ a. after_word (codes ") (") a.1 >>= λ r. inner r
    >>= λ b. after_word (codes ")") b.1 >>= λ rest. Ok (m.Or a.0 b.0, rest)
expression_of_form inner form.Case bytes =
    one_of mode_words bytes >>= λ mode. inner mode.1 >>= λ a. after_word (codes ") [") a.1
    >>= λ list. list_after (branch_at inner) list
    >>= λ bs. Ok (m.Case mode.0 a.0 (all_branches bs.0), bs.1)

-- an expression that is nested at most so deep
unfoldable pub expression_at : ℕ → List ℕ → Read (Expression Entity)
expression_at zero bytes = Err (length bytes)
expression_at (suc depth) bytes =
    one_of (expression_words (suc depth)) bytes
    >>= λ found. expression_of_form (expression_at depth) found.0 found.1
