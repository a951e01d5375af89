-- The expressions that are printed have names and numbers that are read.
use Rattle.std.proofs.Common.{◌≡◌, ℕ, zero, suc, ◌+◌, ◌-◌, ◌≤◌, ◌<◌, ◌^◌, Bool, true, false, ◌&&◌, ◌||◌, List, [], ◌∷◌, All, IsTrue, if◌then◌else◌, cond, length, nat_eq, nat_le, nat_lt, refl, arith}
use Rattle.std.proofs.lemmas.Bool.{and_parts}
use Rattle.std.proofs.lemmas.List.Elements.{All-cons, All-nil}
use Rattle.cu_calculus.specs.Flat.{all_differ, are_flat_alternatives, are_flat_terms, demands_of, is_flat_term, is_shallow}
use Rattle.cu_calculus.specs.Literal.{is_literal}
use Rattle.cu_calculus.specs.Program.{arity_in}
use Rattle.cu_calculus.specs.Shape.{is_allowed, takes, takes_more}
use Rattle.cu_calculus.specs.Term as term
use Rattle.cu_calculus.specs.Term.{Alternatives, Pattern, Term, Terms}
use Rattle.cu_calculus.specs.Valid.{all_variables, also, also_all, but, fit_alternatives, fit_terms, fits_pattern, fits_term, is_linear, term_count, variables_of}
use Rattle.cu_calculus.specs.declared.FunId.{FunId}
use Rattle.cu_calculus.specs.declared.Head.{Head}
use Rattle.cu_calculus.specs.declared.Head.TheVariants as head
use Rattle.cu_calculus.specs.declared.Lit.{Lit}
use Rattle.cu_calculus.specs.declared.Lit.TheVariants as lit
use Rattle.cu_flatlaws.proofs.GoodNames.{AreNames, apply_named, constructor_named, head_named}
use Rattle.cu_flatlaws.proofs.GoodTypes.{AreNumbers}
use Rattle.cu_flatlaws.specs.Nesting.{branches_nesting, expression_nesting, expressions_nesting}
use Rattle.cu_flatlaws.specs.PrintedExpressions.{all_arguments, function_alone, part_kind, printed_branches, printed_expression, printed_expressions, printed_pattern, whole_kind}
use Rattle.cu_flatlaws.specs.PrintedTypes.{numbers_from}
use Rattle.cu_flatread.specs.FlatText.{AreBranches, AreExpressions, IsExpression, IsKind, IsLiteral, IsNumber, IsPattern}
use Rattle.cu_flatread.specs.Modules as m
use Rattle.cu_flatread.specs.Modules.{Expression, Expressions}
use Rattle.cu_flatread.specs.Notation.{Entity}
use Rattle.cu_flattext.specs.ExpressionTexts.{Numbers, all_bindings, all_numbered, arity, bindings, branch_bindings, missing, numbered}
use Rattle.cu_flattext.specs.Naming.{Lowered}

-- ---- numbers

-- the numbers of all variables are below a bound
abbrev pub AllBefore : ℕ → Numbers → Type 0
AllBefore top numbers = (x : ℕ) → numbers x < top

numbered_before : (top x n : ℕ) (numbers : Numbers) → n < top → AllBefore top numbers → AllBefore top (numbered x n numbers)
numbered_before top x n numbers below before y = by_test (nat_eq x y)
  where
    by_test : (test : Bool) → (if test then n else numbers y) < top
    by_test true = below
    by_test false = before y

pub all_numbered_before : (top : ℕ) (xs : List ℕ) (n : ℕ) (numbers : Numbers) → n + length xs ≤ top
    → AllBefore top numbers → AllBefore top (all_numbered xs n numbers)
all_numbered_before top [] n numbers few before = before
all_numbered_before top (x ∷ xs) n numbers few before =
    all_numbered_before top xs (n + 1) (numbered x n numbers) (omega (arith, few))
    (numbered_before top x n numbers (omega (arith, few)) before)

pub numbers_good : (top n count : ℕ) → AreNumbers top → n + count ≤ top → All IsNumber (numbers_from n count)
numbers_good top n zero small few = All-nil IsNumber
numbers_good top n (suc count) small few =
    All-cons IsNumber n (numbers_from (n + 1) count) (small n (omega (arith, few)))
    (numbers_good top (n + 1) count small (omega (arith, few)))

-- ---- literals and calls

scalar_by : (low high : Bool) → (low || high) ≡ true → cond low true high ≡ true
scalar_by true high e = refl
scalar_by false high e = e

literal_good : (l : Lit) → IsTrue (is_literal l) → IsLiteral l
literal_good (lit.Int n) fits = fits
literal_good (lit.Char c) fits = scalar_by (nat_lt c 0xD800) (nat_le 0xE000 c && nat_lt c 0x110000) fits

whole_good : (h : Head) → IsKind (whole_kind h)
whole_good (head.Fun f) = tt
whole_good (head.Con c) = tt
whole_good (head.Set f) = tt

part_good : (h : Head) (lacks : ℕ) → IsNumber lacks → IsKind (part_kind h lacks)
part_good h zero small = whole_good h
part_good (head.Fun f) (suc n) small = small
part_good (head.Con c) (suc n) small = small
part_good (head.Set f) (suc n) small = small

-- the numbers of arguments are read
abbrev pub AreArities : Lowered → Type 0
AreArities program = (h : Head) → IsNumber (arity program h)

pub less_read : (k n : ℕ) → k ≤ n → IsNumber n → IsNumber k
less_read k n less small = omega (arith, less, small)

missing_good : (program : Lowered) (h : Head) (count : ℕ) → AreArities program → IsNumber (missing program h count)
missing_good program h count arities =
    less_read (missing program h count) (arity program h) (omega arith) (arities h)

alone_good : (program : Lowered) (f : FunId) (depth : ℕ) → AreNames program → AreArities program
    → expression_nesting (function_alone program f) ≤ depth → IsExpression depth (function_alone program f)
alone_good program f zero names arities nested = absurd (omega (arith, nested))
alone_good program f (suc depth) names arities nested = (
  part_good (head.Fun f) (missing program (head.Fun f) 0) (missing_good program (head.Fun f) 0 arities),
  head_named program (head.Fun f) names (arities (head.Fun f)),
  tt,
)

arguments_good : (program : Lowered) (h : Head) (ts : Expressions Entity) (depth : ℕ) → AreNames program → AreArities program
    → expressions_nesting (all_arguments program h ts) ≤ depth
    → (expressions_nesting ts ≤ depth → AreExpressions depth ts)
    → AreExpressions depth (all_arguments program h ts)
arguments_good program (head.Fun f) ts depth names arities nested good = good nested
arguments_good program (head.Con c) ts depth names arities nested good = good nested
arguments_good program (head.Set f) ts depth names arities nested good =
    (alone_good program f depth names arities (omega (arith, nested)), good (omega (arith, nested)))

-- ---- patterns

pattern_good : (program : Lowered) (top n : ℕ) (p : Pattern) → AreNames program → AreNumbers top
    → IsTrue (is_shallow p) → IsTrue (fits_pattern program.flat p) → n + length (variables_of p) ≤ top
    → IsPattern (printed_pattern program n p)
pattern_good program top n (term.Exactly l) names small shallow fits few = literal_good l fits
pattern_good program top n (term.Built c ps) names small shallow fits few =
    (constructor_named program c names, numbers_good top n (length (all_variables ps)) small few)
pattern_good program top n (term.Any x) names small shallow fits few = let no : ⊥ = cc in absurd no
pattern_good program top n (term.Named x p) names small shallow fits few = let no : ⊥ = cc in absurd no

-- ---- expressions

nested_once : (t : Expression Entity) → 0 < expression_nesting t
nested_once (m.Var x) = omega arith
nested_once (m.Literal l) = omega arith
nested_once (m.Comb k e ts) = omega arith
nested_once (m.Let x a b) = omega arith
nested_once (m.Free x a) = omega arith
nested_once (m.Or a b) = omega arith
nested_once (m.Case mode a branches) = omega arith

module _ (program : Lowered) (names : AreNames program) (arities : AreArities program) (top : ℕ) (small : AreNumbers top) where
  mutual
    pub expression_good : (depth n : ℕ) (numbers : Numbers) (may : ℕ → Bool) (t : Term)
        → IsTrue (is_flat_term t) → IsTrue (fits_term program.flat may t) → AllBefore top numbers → n + bindings t ≤ top
        → expression_nesting (printed_expression program n numbers t) ≤ depth
        → IsExpression depth (printed_expression program n numbers t)
    expression_good zero n numbers may t flat fits before few nested =
        absurd (omega (arith, nested, nested_once (printed_expression program n numbers t)))
    expression_good (suc depth) n numbers may (term.Variable x) flat fits before few nested = small (numbers x) (before x)
    expression_good (suc depth) n numbers may (term.Literal l) flat fits before few nested = literal_good l fits
    expression_good (suc depth) n numbers may (term.Whole h ts) flat fits before few nested =
        let parts = and_parts (is_allowed program.flat h && takes (arity_in program.flat h) (term_count ts)) (fit_terms program.flat may ts) fits in (
          whole_good h,
          head_named program h names (arities h),
          arguments_good program h (printed_expressions program n numbers ts) depth names arities (omega (arith, nested))
              (λ within. expressions_good depth n numbers may ts flat parts.1 before few within),
        )
    expression_good (suc depth) n numbers may (term.Part h ts) flat fits before few nested =
        let parts = and_parts (is_allowed program.flat h && takes_more (arity_in program.flat h) (term_count ts)) (fit_terms program.flat may ts) fits in (
          part_good h (missing program h (term_count ts)) (missing_good program h (term_count ts) arities),
          head_named program h names (arities h),
          arguments_good program h (printed_expressions program n numbers ts) depth names arities (omega (arith, nested))
              (λ within. expressions_good depth n numbers may ts flat parts.1 before few within),
        )
    expression_good (suc depth) n numbers may (term.Apply f a) flat fits before few nested =
        let flats = and_parts (is_flat_term f) (is_flat_term a) flat in
        let fit = and_parts (fits_term program.flat may f) (fits_term program.flat may a) fits in (
          tt,
          apply_named,
          (
            expression_good depth n numbers may f flats.0 fit.0 before (omega (arith, few)) (omega (arith, nested)),
            (expression_good depth (n + bindings f) numbers may a flats.1 fit.1 before (omega (arith, few)) (omega (arith, nested)), tt),
          ),
        )
    expression_good (suc depth) n numbers may (term.Let x a b) flat fits before few nested =
        let flats = and_parts (is_flat_term a) (is_flat_term b) flat in
        let fit = and_parts (fits_term program.flat (but x may) a) (fits_term program.flat (also x may) b) fits in
        let here : n < top = omega (arith, few) in
        let inside = numbered_before top x n numbers here before in (
          small n here,
          expression_good depth (n + 1) (numbered x n numbers) (but x may) a flats.0 fit.0 inside (omega (arith, few)) (omega (arith, nested)),
          expression_good depth (n + 1 + bindings a) (numbered x n numbers) (also x may) b flats.1 fit.1 inside (omega (arith, few))
              (omega (arith, nested)),
        )
    expression_good (suc depth) n numbers may (term.Free x t) flat fits before few nested =
        let here : n < top = omega (arith, few) in (
          small n here,
          expression_good depth (n + 1) (numbered x n numbers) (also x may) t flat fits (numbered_before top x n numbers here before)
              (omega (arith, few)) (omega (arith, nested)),
        )
    expression_good (suc depth) n numbers may (term.Or a b) flat fits before few nested =
        let flats = and_parts (is_flat_term a) (is_flat_term b) flat in
        let fit = and_parts (fits_term program.flat may a) (fits_term program.flat may b) fits in (
          expression_good depth n numbers may a flats.0 fit.0 before (omega (arith, few)) (omega (arith, nested)),
          expression_good depth (n + bindings a) numbers may b flats.1 fit.1 before (omega (arith, few)) (omega (arith, nested)),
        )
    expression_good (suc depth) n numbers may (term.Case mode a alternatives) flat fits before few nested =
        let flats = and_parts (is_flat_term a && all_differ (demands_of alternatives)) (are_flat_alternatives alternatives) flat in
        let front = and_parts (is_flat_term a) (all_differ (demands_of alternatives)) flats.0 in
        let fit = and_parts (fits_term program.flat may a) (fit_alternatives program.flat may alternatives) fits in (
          expression_good depth n numbers may a front.0 fit.0 before (omega (arith, few)) (omega (arith, nested)),
          branches_good depth (n + bindings a) numbers may alternatives flats.1 fit.1 before (omega (arith, few)) (omega (arith, nested)),
        )

    expressions_good : (depth n : ℕ) (numbers : Numbers) (may : ℕ → Bool) (ts : Terms)
        → IsTrue (are_flat_terms ts) → IsTrue (fit_terms program.flat may ts) → AllBefore top numbers → n + all_bindings ts ≤ top
        → expressions_nesting (printed_expressions program n numbers ts) ≤ depth
        → AreExpressions depth (printed_expressions program n numbers ts)
    expressions_good depth n numbers may term.NoTerm flat fits before few nested = tt
    expressions_good depth n numbers may (term.MoreTerms t ts) flat fits before few nested =
        let flats = and_parts (is_flat_term t) (are_flat_terms ts) flat in
        let fit = and_parts (fits_term program.flat may t) (fit_terms program.flat may ts) fits in (
          expression_good depth n numbers may t flats.0 fit.0 before (omega (arith, few)) (omega (arith, nested)),
          expressions_good depth (n + bindings t) numbers may ts flats.1 fit.1 before (omega (arith, few)) (omega (arith, nested)),
        )

    branches_good : (depth n : ℕ) (numbers : Numbers) (may : ℕ → Bool) (alternatives : Alternatives)
        → IsTrue (are_flat_alternatives alternatives) → IsTrue (fit_alternatives program.flat may alternatives) → AllBefore top numbers → n + branch_bindings alternatives ≤ top
        → branches_nesting (printed_branches program n numbers alternatives) ≤ depth
        → AreBranches depth (printed_branches program n numbers alternatives)
    branches_good depth n numbers may term.NoAlternative flat fits before few nested = tt
    branches_good depth n numbers may (term.MoreAlternatives p t alternatives) flat fits before few nested =
        let flats = and_parts (is_shallow p && is_flat_term t) (are_flat_alternatives alternatives) flat in
        let front = and_parts (is_shallow p) (is_flat_term t) flats.0 in
        let inner = also_all (variables_of p) may in
        let all = and_parts (fits_pattern program.flat p && is_linear (variables_of p) && fits_term program.flat inner t)
        (fit_alternatives program.flat may alternatives) fits in
        let two = and_parts (fits_pattern program.flat p && is_linear (variables_of p)) (fits_term program.flat inner t) all.0 in
        let one = and_parts (fits_pattern program.flat p) (is_linear (variables_of p)) two.0 in (
          pattern_good program top n p names small front.0 one.0 (omega (arith, few)),
          expression_good depth (n + length (variables_of p)) (all_numbered (variables_of p) n numbers) inner t front.1 two.1
              (all_numbered_before top (variables_of p) n numbers (omega (arith, few)) before) (omega (arith, few)) (omega (arith, nested)),
          branches_good depth (n + length (variables_of p) + bindings t) numbers may alternatives flats.1 all.1 before
              (omega (arith, few)) (omega (arith, nested)),
        )
