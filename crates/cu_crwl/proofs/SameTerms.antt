-- Patterns and terms that pass the test of being the same are one.
use Rattle.std.proofs.Common.{◌≡◌, ℕ, true, ◌&&◌, nat_eq, refl, ap, ap₂, eq-eqb, eqb-true}
use Rattle.std.proofs.lemmas.Bool.{and_from, and_parts}
use Rattle.cu_calculus.specs.declared.Mode.{Mode}
use Rattle.cu_calculus.specs.declared.Mode.TheVariants.{Flex, Rigid}
use Rattle.cu_calculus.specs.Answered.{same_head}
use Rattle.cu_calculus.specs.Match.{same_constructor}
use Rattle.cu_calculus.specs.Term as term
use Rattle.cu_calculus.specs.Term.{Alternatives, Pattern, Patterns, Term, Terms}
use Rattle.cu_calculus.proofs.Answering.{head_is, head_itself, literal_is}
use Rattle.cu_calculus.proofs.Choosing.{literal_itself}
use Rattle.cu_calculus.proofs.Comparing.{same_is, same_itself}
use Rattle.cu_crwl.specs.Same.{same_alternatives, same_mode, same_pattern, same_patterns, same_term, same_terms}

mutual
  pub pattern_is : (p q : Pattern) → same_pattern p q ≡ true → p ≡ q
  pattern_is (term.Any x) (term.Any y) e = ap term.Any (eqb-true x y e)
  pattern_is (term.Exactly l) (term.Exactly m) e = ap term.Exactly (literal_is l m e)
  pattern_is (term.Built c ps) (term.Built d qs) e =
      let parts = and_parts (same_constructor c d) (same_patterns ps qs) e in ap₂ term.Built (same_is c d parts.0) (patterns_are ps qs parts.1)
  pattern_is (term.Named x p) (term.Named y q) e =
      let parts = and_parts (nat_eq x y) (same_pattern p q) e in ap₂ term.Named (eqb-true x y parts.0) (pattern_is p q parts.1)
  pattern_is _ _ e = let never : ⊥ = cc in absurd never

  pub patterns_are : (ps qs : Patterns) → same_patterns ps qs ≡ true → ps ≡ qs
  patterns_are term.NoPattern term.NoPattern e = refl
  patterns_are (term.MorePatterns p ps) (term.MorePatterns q qs) e =
      let parts = and_parts (same_pattern p q) (same_patterns ps qs) e in ap₂ term.MorePatterns (pattern_is p q parts.0) (patterns_are ps qs parts.1)
  patterns_are _ _ e = let never : ⊥ = cc in absurd never

mutual
  pub pattern_itself : (p : Pattern) → same_pattern p p ≡ true
  pattern_itself (term.Any x) = eq-eqb x x refl
  pattern_itself (term.Exactly l) = literal_itself l
  pattern_itself (term.Built c ps) = and_from (same_constructor c c) (same_patterns ps ps) (same_itself c) (patterns_themselves ps)
  pattern_itself (term.Named x p) = and_from (nat_eq x x) (same_pattern p p) (eq-eqb x x refl) (pattern_itself p)

  pub patterns_themselves : (ps : Patterns) → same_patterns ps ps ≡ true
  patterns_themselves term.NoPattern = refl
  patterns_themselves (term.MorePatterns p ps) = and_from (same_pattern p p) (same_patterns ps ps) (pattern_itself p) (patterns_themselves ps)

mode_is : (m n : Mode) → same_mode m n ≡ true → m ≡ n
mode_is Rigid Rigid e = refl
mode_is Flex Flex e = refl
mode_is _ _ e = let never : ⊥ = cc in absurd never

mode_itself : (m : Mode) → same_mode m m ≡ true
mode_itself Rigid = refl
mode_itself Flex = refl

case_is : (m n : Mode) (a b : Term) (rows others : Alternatives) → m ≡ n → a ≡ b → rows ≡ others → term.Case m a rows ≡ term.Case n b others
case_is m n a b rows others e f g = cc

let_is : (x y : ℕ) (a b c d : Term) → x ≡ y → a ≡ c → b ≡ d → term.Let x a b ≡ term.Let y c d
let_is x y a b c d e f g = cc

rows_are : (p q : Pattern) (t u : Term) (rows others : Alternatives) → p ≡ q → t ≡ u → rows ≡ others
    → term.MoreAlternatives p t rows ≡ term.MoreAlternatives q u others
rows_are p q t u rows others e f g = cc

mutual
  pub term_is : (t u : Term) → same_term t u ≡ true → t ≡ u
  term_is (term.Variable x) (term.Variable y) e = ap term.Variable (eqb-true x y e)
  term_is (term.Literal l) (term.Literal m) e = ap term.Literal (literal_is l m e)
  term_is (term.Whole h ts) (term.Whole k us) e =
      let parts = and_parts (same_head h k) (same_terms ts us) e in ap₂ term.Whole (head_is h k parts.0) (terms_are ts us parts.1)
  term_is (term.Part h ts) (term.Part k us) e =
      let parts = and_parts (same_head h k) (same_terms ts us) e in ap₂ term.Part (head_is h k parts.0) (terms_are ts us parts.1)
  term_is (term.Apply f a) (term.Apply g b) e =
      let parts = and_parts (same_term f g) (same_term a b) e in ap₂ term.Apply (term_is f g parts.0) (term_is a b parts.1)
  term_is (term.Let x a b) (term.Let y c d) e =
      let parts = and_parts (nat_eq x y && same_term a c) (same_term b d) e in
      let more = and_parts (nat_eq x y) (same_term a c) parts.0 in
      let_is x y a b c d (eqb-true x y more.0) (term_is a c more.1) (term_is b d parts.1)
  term_is (term.Free x t) (term.Free y u) e =
      let parts = and_parts (nat_eq x y) (same_term t u) e in ap₂ term.Free (eqb-true x y parts.0) (term_is t u parts.1)
  term_is (term.Or a b) (term.Or c d) e =
      let parts = and_parts (same_term a c) (same_term b d) e in ap₂ term.Or (term_is a c parts.0) (term_is b d parts.1)
  term_is (term.Case m a rows) (term.Case n b others) e =
      let parts = and_parts (same_mode m n && same_term a b) (same_alternatives rows others) e in
      let more = and_parts (same_mode m n) (same_term a b) parts.0 in
      case_is m n a b rows others (mode_is m n more.0) (term_is a b more.1) (alternatives_are rows others parts.1)
  term_is _ _ e = let never : ⊥ = cc in absurd never

  pub terms_are : (ts us : Terms) → same_terms ts us ≡ true → ts ≡ us
  terms_are term.NoTerm term.NoTerm e = refl
  terms_are (term.MoreTerms t ts) (term.MoreTerms u us) e =
      let parts = and_parts (same_term t u) (same_terms ts us) e in ap₂ term.MoreTerms (term_is t u parts.0) (terms_are ts us parts.1)
  terms_are _ _ e = let never : ⊥ = cc in absurd never

  pub alternatives_are : (rows others : Alternatives) → same_alternatives rows others ≡ true → rows ≡ others
  alternatives_are term.NoAlternative term.NoAlternative e = refl
  alternatives_are (term.MoreAlternatives p t rows) (term.MoreAlternatives q u others) e =
      let parts = and_parts (same_pattern p q && same_term t u) (same_alternatives rows others) e in
      let more = and_parts (same_pattern p q) (same_term t u) parts.0 in
      rows_are p q t u rows others (pattern_is p q more.0) (term_is t u more.1) (alternatives_are rows others parts.1)
  alternatives_are _ _ e = let never : ⊥ = cc in absurd never

mutual
  pub term_itself : (t : Term) → same_term t t ≡ true
  term_itself (term.Variable x) = eq-eqb x x refl
  term_itself (term.Literal l) = literal_itself l
  term_itself (term.Whole h ts) = and_from (same_head h h) (same_terms ts ts) (head_itself h) (terms_themselves ts)
  term_itself (term.Part h ts) = and_from (same_head h h) (same_terms ts ts) (head_itself h) (terms_themselves ts)
  term_itself (term.Apply f a) = and_from (same_term f f) (same_term a a) (term_itself f) (term_itself a)
  term_itself (term.Let x a b) =
      and_from (nat_eq x x && same_term a a) (same_term b b) (and_from (nat_eq x x) (same_term a a) (eq-eqb x x refl) (term_itself a)) (term_itself b)
  term_itself (term.Free x t) = and_from (nat_eq x x) (same_term t t) (eq-eqb x x refl) (term_itself t)
  term_itself (term.Or a b) = and_from (same_term a a) (same_term b b) (term_itself a) (term_itself b)
  term_itself (term.Case m a rows) =
      and_from (same_mode m m && same_term a a) (same_alternatives rows rows)
      (and_from (same_mode m m) (same_term a a) (mode_itself m) (term_itself a)) (alternatives_themselves rows)

  pub terms_themselves : (ts : Terms) → same_terms ts ts ≡ true
  terms_themselves term.NoTerm = refl
  terms_themselves (term.MoreTerms t ts) = and_from (same_term t t) (same_terms ts ts) (term_itself t) (terms_themselves ts)

  pub alternatives_themselves : (rows : Alternatives) → same_alternatives rows rows ≡ true
  alternatives_themselves term.NoAlternative = refl
  alternatives_themselves (term.MoreAlternatives p t rows) =
      and_from (same_pattern p p && same_term t t) (same_alternatives rows rows)
      (and_from (same_pattern p p) (same_term t t) (pattern_itself p) (term_itself t)) (alternatives_themselves rows)
