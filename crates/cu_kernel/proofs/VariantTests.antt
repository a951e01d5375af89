-- What the tests on patterns and terms say of the variants that they don't look for.
use Rattle.std.proofs.Common.{◌≡◌, ℕ, ◌<◌, ◌≤◌, Bool, false, true, List, [], ◌∷◌, length, None, Option, ap, arith, refl}
use Rattle.std.specs.declared.alloc.Global.{Global}
use Rattle.std.specs.declared.boxed.Box.{Box}
use Rattle.std.specs.declared.vec.Vec.{Vec}
use Rattle.cu_calculus.specs.Term as clean
use Rattle.cu_calculus.specs.declared.ConId.{ConId}
use Rattle.cu_calculus.specs.declared.Head.{Head}
use Rattle.cu_calculus.specs.declared.Mode.{Mode}
use Rattle.cu_calculus.specs.declared.builtin.Special.{Special}
use Rattle.cu_kernel.proofs.Variants.{pattern_alias, pattern_con, pattern_lit, pattern_var, pattern_variant, term_apply, term_case, term_free, term_let, term_lit, term_or, term_part, term_var, term_variant, term_whole}
use Rattle.cu_kernel.specs.TermsOf.{alternatives_of, pattern_of, patterns_of, pattern_of-Alias, pattern_of-Con, pattern_of-Lit, term_of, term_of-Apply, term_of-Case, term_of-Free, term_of-Let, term_of-Lit, term_of-Or, term_of-Part, term_of-Var, term_of-Whole}
use Rattle.cu_kernel.specs.Tests.{are_branches, is_constant_term, is_distinction, is_flex, pattern_variable, same_variable, term_variable}
use Rattle.cu_kernel.specs.declared.term.Pattern.TheVariants as pattern
use Rattle.cu_kernel.specs.declared.term.Pattern.{Pattern}
use Rattle.cu_kernel.specs.declared.term.Term.TheVariants as term
use Rattle.cu_kernel.specs.declared.term.Term.{Term}

pub no_pattern_variable : (p : Pattern) → ((x : ℕ) → p ≡ pattern.Var x → ⊥) → None ≡ pattern_variable (pattern_of p)
no_pattern_variable p other =
    elim (pattern_variant p) [
      | pattern_var x e ↦ absurd (other x e)
      | pattern_lit l e ↦ rw (e, pattern_of-Lit l) refl
      | pattern_con c ps e ↦ rw (e, pattern_of-Con c ps) refl
      | pattern_alias x q e ↦ rw (e, pattern_of-Alias x q) refl
    ]

pub no_term_variable : (t : Term) → ((x : ℕ) → t ≡ term.Var x → ⊥) → None ≡ term_variable (term_of t)
no_term_variable t other =
    elim (term_variant t) [
      | term_var x e ↦ absurd (other x e)
      | term_lit l e ↦ rw (e, term_of-Lit l) refl
      | term_whole h ts e ↦ rw (e, term_of-Whole h ts) refl
      | term_part h ts e ↦ rw (e, term_of-Part h ts) refl
      | term_apply f a e ↦ rw (e, term_of-Apply f a) refl
      | term_let x a b e ↦ rw (e, term_of-Let x a b) refl
      | term_free x b e ↦ rw (e, term_of-Free x b) refl
      | term_or a b e ↦ rw (e, term_of-Or a b) refl
      | term_case m s rows e ↦ rw (e, term_of-Case m s rows) refl
    ]

pub no_constant : (c : ConId) (t : Term) → ((h : Head) (ts : Vec Term Global) → t ≡ term.Whole h ts → ⊥) → false ≡ is_constant_term c (term_of t)
no_constant c t other =
    elim (term_variant t) [
      | term_var x e ↦ rw (e, term_of-Var x) refl
      | term_lit l e ↦ rw (e, term_of-Lit l) refl
      | term_whole h ts e ↦ absurd (other h ts e)
      | term_part h ts e ↦ rw (e, term_of-Part h ts) refl
      | term_apply f a e ↦ rw (e, term_of-Apply f a) refl
      | term_let x a b e ↦ rw (e, term_of-Let x a b) refl
      | term_free x b e ↦ rw (e, term_of-Free x b) refl
      | term_or a b e ↦ rw (e, term_of-Or a b) refl
      | term_case m s rows e ↦ rw (e, term_of-Case m s rows) refl
    ]

pub no_distinction : (special : Special) (x y : Option ℕ) (t : Term)
    → ((m : Mode) (s : Box Term Global) (rows : Vec (Pattern × Term) Global) → t ≡ term.Case m s rows → ⊥)
    → false ≡ is_distinction special x y (term_of t)
no_distinction special x y t other =
    elim (term_variant t) [
      | term_var z e ↦ rw (e, term_of-Var z) refl
      | term_lit l e ↦ rw (e, term_of-Lit l) refl
      | term_whole h ts e ↦ rw (e, term_of-Whole h ts) refl
      | term_part h ts e ↦ rw (e, term_of-Part h ts) refl
      | term_apply f a e ↦ rw (e, term_of-Apply f a) refl
      | term_let z a b e ↦ rw (e, term_of-Let z a b) refl
      | term_free z b e ↦ rw (e, term_of-Free z b) refl
      | term_or a b e ↦ rw (e, term_of-Or a b) refl
      | term_case m s rows e ↦ absurd (other m s rows e)
    ]

-- a test of two patterns fails on fewer and on more
pub few_patterns : (test : clean.Patterns → Bool) → false ≡ test clean.NoPattern → ((p : clean.Pattern) → false ≡ test (clean.MorePatterns p clean.NoPattern))
    → (ps qs : List Pattern) → qs ≡ ps → length qs < 2 → false ≡ test (patterns_of ps)
few_patterns test none one [] qs same few = none
few_patterns test none one (p ∷ []) qs same few = one (pattern_of p)
few_patterns test none one (p ∷ q ∷ ps) qs same few = let count : length qs ≡ length (p ∷ q ∷ ps) = ap length same in absurd (omega arith)

pub many_patterns : (test : clean.Patterns → Bool)
    → ((p q r : clean.Pattern) (ps : clean.Patterns) → false ≡ test (clean.MorePatterns p (clean.MorePatterns q (clean.MorePatterns r ps))))
    → (ps qs : List Pattern) → qs ≡ ps → 3 ≤ length qs → false ≡ test (patterns_of ps)
many_patterns test more [] qs same many = let count : length qs ≡ 0 = ap length same in absurd (omega arith)
many_patterns test more (p ∷ []) qs same many = let count : length qs ≡ length (p ∷ []) = ap length same in absurd (omega arith)
many_patterns test more (p ∷ q ∷ []) qs same many = let count : length qs ≡ length (p ∷ q ∷ []) = ap length same in absurd (omega arith)
many_patterns test more (p ∷ q ∷ r ∷ ps) qs same many = more (pattern_of p) (pattern_of q) (pattern_of r) (patterns_of ps)

pub few_branches : (special : Special) (y : Option ℕ) (rows : List (Pattern × Term)) → length rows < 2
    → false ≡ are_branches special y (alternatives_of rows)
few_branches special y [] few = refl
few_branches special y (a ∷ []) few = refl
few_branches special y (a ∷ b ∷ rows) few = absurd (omega arith)

pub many_branches : (special : Special) (y : Option ℕ) (rows : List (Pattern × Term)) → 3 ≤ length rows
    → false ≡ are_branches special y (alternatives_of rows)
many_branches special y [] many = absurd (omega arith)
many_branches special y (a ∷ []) many = absurd (omega arith)
many_branches special y (a ∷ b ∷ []) many = absurd (omega arith)
many_branches special y (a ∷ b ∷ d ∷ rows) many = refl

pub distinction : (special : Special) (x y : Option ℕ) (t : Term) (m : Mode) (s : Box Term Global) (rows : Vec (Pattern × Term) Global) (branches : Bool)
    → t ≡ term.Case m s rows → is_flex m ≡ true → same_variable x (term_variable (term_of s.value)) ≡ true
    → branches ≡ are_branches special y (alternatives_of rows.items) → branches ≡ is_distinction special x y (term_of t)
distinction special x y t m s rows branches is flex same fits = rw (is, term_of-Case m s rows, flex, same) fits
