-- The pattern and the term that the code's boxed ones stand for.
use Rattle.std.specs.Prelude.{◌≡◌, ℕ, List, [], ◌∷◌, map, refl}
use Rattle.std.proofs.Common.{sym, ap, ◌∙◌}
use Rattle.std.specs.declared.alloc.Global.{Global}
use Rattle.std.specs.declared.boxed.Box.{Box}
use Rattle.std.specs.declared.vec.Vec.{Vec}
use Rattle.cu_calculus.specs.Term as clean
use Rattle.cu_calculus.specs.declared.ConId.{ConId}
use Rattle.cu_calculus.specs.declared.Head.{Head}
use Rattle.cu_calculus.specs.declared.Lit.{Lit}
use Rattle.cu_calculus.specs.declared.Mode.{Mode}
use Rattle.cu_kernel.specs.declared.term.Pattern.TheFolds.{fold-Pattern, fold-roll-Pattern}
use Rattle.cu_kernel.specs.declared.term.Pattern.TheOpen as pattern_layer
use Rattle.cu_kernel.specs.declared.term.Pattern.TheOpen.{Pattern-F}
use Rattle.cu_kernel.specs.declared.term.Pattern.TheVariants as pattern
use Rattle.cu_kernel.specs.declared.term.Pattern.{Pattern}
use Rattle.cu_kernel.specs.declared.term.Term.TheFolds.{fold-Term, fold-roll-Term}
use Rattle.cu_kernel.specs.declared.term.Term.TheOpen as term_layer
use Rattle.cu_kernel.specs.declared.term.Term.TheOpen.{Term-F}
use Rattle.cu_kernel.specs.declared.term.Term.TheVariants as term
use Rattle.cu_kernel.specs.declared.term.Term.{Term}

abbrev pattern_list : List clean.Pattern → clean.Patterns
pattern_list [] = clean.NoPattern
pattern_list (p ∷ ps) = clean.MorePatterns p (pattern_list ps)

-- the pattern that one layer of the code stands for, where its parts stand for patterns
abbrev one_pattern : Pattern-F clean.Pattern → clean.Pattern
one_pattern (pattern_layer.Var x) = clean.Any x
one_pattern (pattern_layer.Lit l) = clean.Exactly l
one_pattern (pattern_layer.Con c ps) = clean.Built c (pattern_list ps.items)
one_pattern (pattern_layer.Alias x p) = clean.Named x p.value

-- the pattern that a boxed pattern stands for
pub pattern_of : Pattern → clean.Pattern
pattern_of = fold-Pattern clean.Pattern one_pattern

-- the patterns that a list of boxed patterns stands for
abbrev pub patterns_of : List Pattern → clean.Patterns
patterns_of [] = clean.NoPattern
patterns_of (p ∷ ps) = clean.MorePatterns (pattern_of p) (patterns_of ps)

pattern_list_of : (ps : List Pattern) → pattern_list (map pattern_of ps) ≡ patterns_of ps
pattern_list_of [] = refl
pattern_list_of (p ∷ ps) = ap (clean.MorePatterns (pattern_of p)) (pattern_list_of ps)

pub pattern_of-Var : (x : ℕ) → pattern_of (pattern.Var x) ≡ clean.Any x
unfolding pattern_of
pattern_of-Var x =
    ap pattern_of (sym (pattern.rolls-Var x)) ∙ fold-roll-Pattern clean.Pattern one_pattern
    (pattern_layer.Var x)

pub pattern_of-Lit : (l : Lit) → pattern_of (pattern.Lit l) ≡ clean.Exactly l
unfolding pattern_of
pattern_of-Lit l =
    ap pattern_of (sym (pattern.rolls-Lit l)) ∙ fold-roll-Pattern clean.Pattern one_pattern
    (pattern_layer.Lit l)

pub pattern_of-Con : (c : ConId) (ps : Vec Pattern Global)
    → pattern_of (pattern.Con c ps) ≡ clean.Built c (patterns_of ps.items)
unfolding pattern_of
pattern_of-Con c ps =
    ap pattern_of (sym (pattern.rolls-Con c ps)) ∙ fold-roll-Pattern clean.Pattern one_pattern
    (pattern_layer.Con c ps)
    ∙ ap (clean.Built c) (pattern_list_of ps.items)

pub pattern_of-Alias : (x : ℕ) (p : Box Pattern Global)
    → pattern_of (pattern.Alias x p) ≡ clean.Named x (pattern_of p.value)
unfolding pattern_of
pattern_of-Alias x p =
    ap pattern_of (sym (pattern.rolls-Alias x p)) ∙ fold-roll-Pattern clean.Pattern one_pattern
    (pattern_layer.Alias x p)

pub ruleset patterns_of_variants =
    (pattern_of-Var, pattern_of-Lit, pattern_of-Con, pattern_of-Alias)

abbrev term_list : List clean.Term → clean.Terms
term_list [] = clean.NoTerm
term_list (t ∷ ts) = clean.MoreTerms t (term_list ts)

abbrev alternative_list : List (Pattern × clean.Term) → clean.Alternatives
alternative_list [] = clean.NoAlternative
alternative_list (a ∷ rest) = clean.MoreAlternatives (pattern_of a.0) a.1 (alternative_list rest)

-- the term that one layer of the code stands for, where its parts stand for terms
abbrev one_term : Term-F clean.Term → clean.Term
one_term (term_layer.Var x) = clean.Variable x
one_term (term_layer.Lit l) = clean.Literal l
one_term (term_layer.Whole h ts) = clean.Whole h (term_list ts.items)
one_term (term_layer.Part h ts) = clean.Part h (term_list ts.items)
one_term (term_layer.Apply f a) = clean.Apply f.value a.value
one_term (term_layer.Let x a b) = clean.Let x a.value b.value
one_term (term_layer.Free x t) = clean.Free x t.value
one_term (term_layer.Or a b) = clean.Or a.value b.value
one_term (term_layer.Case mode t alternatives) =
    clean.Case mode t.value (alternative_list alternatives.items)

-- the term that a boxed term stands for
pub term_of : Term → clean.Term
term_of = fold-Term clean.Term one_term

-- the terms that a list of boxed terms stands for
abbrev pub terms_of : List Term → clean.Terms
terms_of [] = clean.NoTerm
terms_of (t ∷ ts) = clean.MoreTerms (term_of t) (terms_of ts)

-- the alternatives that a list of patterns and boxed terms stands for
abbrev pub alternatives_of : List (Pattern × Term) → clean.Alternatives
alternatives_of [] = clean.NoAlternative
alternatives_of (a ∷ rest) =
    clean.MoreAlternatives (pattern_of a.0) (term_of a.1) (alternatives_of rest)

term_list_of : (ts : List Term) → term_list (map term_of ts) ≡ terms_of ts
term_list_of [] = refl
term_list_of (t ∷ ts) = ap (clean.MoreTerms (term_of t)) (term_list_of ts)

abbrev with_meaning : Pattern × Term → Pattern × clean.Term
with_meaning a = (a.0, term_of a.1)

alternative_list_of : (rows : List (Pattern × Term))
    → alternative_list (map with_meaning rows) ≡ alternatives_of rows
alternative_list_of [] = refl
alternative_list_of (a ∷ rest) =
    ap (clean.MoreAlternatives (pattern_of a.0) (term_of a.1)) (alternative_list_of rest)

pub term_of-Var : (x : ℕ) → term_of (term.Var x) ≡ clean.Variable x
unfolding term_of
term_of-Var x = ap term_of (sym (term.rolls-Var x)) ∙ fold-roll-Term clean.Term one_term
    (term_layer.Var x)

pub term_of-Lit : (l : Lit) → term_of (term.Lit l) ≡ clean.Literal l
unfolding term_of
term_of-Lit l = ap term_of (sym (term.rolls-Lit l)) ∙ fold-roll-Term clean.Term one_term
    (term_layer.Lit l)

pub term_of-Whole : (h : Head) (ts : Vec Term Global)
    → term_of (term.Whole h ts) ≡ clean.Whole h (terms_of ts.items)
unfolding term_of
term_of-Whole h ts =
    ap term_of (sym (term.rolls-Whole h ts)) ∙ fold-roll-Term clean.Term one_term
    (term_layer.Whole h ts)
    ∙ ap (clean.Whole h) (term_list_of ts.items)

pub term_of-Part : (h : Head) (ts : Vec Term Global)
    → term_of (term.Part h ts) ≡ clean.Part h (terms_of ts.items)
unfolding term_of
term_of-Part h ts =
    ap term_of (sym (term.rolls-Part h ts)) ∙ fold-roll-Term clean.Term one_term
    (term_layer.Part h ts)
    ∙ ap (clean.Part h) (term_list_of ts.items)

pub term_of-Apply : (f a : Box Term Global) → term_of (term.Apply f a)
    ≡ clean.Apply (term_of f.value) (term_of a.value)
unfolding term_of
term_of-Apply f a = ap term_of (sym (term.rolls-Apply f a)) ∙ fold-roll-Term clean.Term one_term
    (term_layer.Apply f a)

pub term_of-Let : (x : ℕ) (a b : Box Term Global)
    → term_of (term.Let x a b) ≡ clean.Let x (term_of a.value) (term_of b.value)
unfolding term_of
term_of-Let x a b = ap term_of (sym (term.rolls-Let x a b)) ∙ fold-roll-Term clean.Term one_term
    (term_layer.Let x a b)

pub term_of-Free : (x : ℕ) (t : Box Term Global)
    → term_of (term.Free x t) ≡ clean.Free x (term_of t.value)
unfolding term_of
term_of-Free x t = ap term_of (sym (term.rolls-Free x t)) ∙ fold-roll-Term clean.Term one_term
    (term_layer.Free x t)

pub term_of-Or : (a b : Box Term Global) → term_of (term.Or a b)
    ≡ clean.Or (term_of a.value) (term_of b.value)
unfolding term_of
term_of-Or a b = ap term_of (sym (term.rolls-Or a b)) ∙ fold-roll-Term clean.Term one_term
    (term_layer.Or a b)

pub term_of-Case : (mode : Mode) (t : Box Term Global) (rows : Vec (Pattern × Term) Global)
    → term_of (term.Case mode t rows)
    ≡ clean.Case mode (term_of t.value) (alternatives_of rows.items)
unfolding term_of
term_of-Case mode t rows =
    ap term_of (sym (term.rolls-Case mode t rows)) ∙ fold-roll-Term clean.Term one_term
    (term_layer.Case mode t rows)
    ∙ ap (clean.Case mode (term_of t.value)) (alternative_list_of rows.items)

pub ruleset terms_of_variants = (
  term_of-Var,
  term_of-Lit,
  term_of-Whole,
  term_of-Part,
  term_of-Apply,
  term_of-Let,
  term_of-Free,
  term_of-Or,
  term_of-Case,
)
