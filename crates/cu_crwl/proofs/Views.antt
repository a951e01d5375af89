-- What a pattern or a term of a program is: one of the variants.
use Rattle.std.specs.Prelude.{◌≡◌, ◌≢◌, ℕ, false, refl}
use Rattle.std.proofs.Common.{arith, sym, ap, ◌∙◌}
use Rattle.std.specs.declared.alloc.Global.{Global}
use Rattle.std.specs.declared.boxed.Box.{Box}
use Rattle.std.specs.declared.vec.Vec.{Vec}
use Rattle.cu_calculus.specs.Term as clean
use Rattle.cu_calculus.specs.declared.ConId.{ConId}
use Rattle.cu_calculus.specs.declared.Head.{Head}
use Rattle.cu_calculus.specs.declared.Lit.{Lit}
use Rattle.cu_calculus.specs.declared.Mode.{Mode}
use Rattle.cu_kernel.specs.TermsOf.{pattern_of, pattern_of-Alias, pattern_of-Con, pattern_of-Lit, pattern_of-Var, term_of, term_of-Apply, term_of-Case, term_of-Free, term_of-Let, term_of-Lit, term_of-Or, term_of-Part, term_of-Var, term_of-Whole}
use Rattle.cu_kernel.specs.declared.term.Pattern.TheFolds.{ind-Pattern}
use Rattle.cu_kernel.specs.declared.term.Pattern.TheOpen as pattern_layer
use Rattle.cu_kernel.specs.declared.term.Pattern.TheOpen.{Pattern-F}
use Rattle.cu_kernel.specs.declared.term.Pattern.TheVariants as pattern
use Rattle.cu_kernel.specs.declared.term.Pattern.TheViews.{roll-Pattern}
use Rattle.cu_kernel.specs.declared.term.Pattern.{Pattern}
use Rattle.cu_kernel.specs.declared.term.Term.TheFolds.{ind-Term}
use Rattle.cu_kernel.specs.declared.term.Term.TheOpen as term_layer
use Rattle.cu_kernel.specs.declared.term.Term.TheOpen.{Term-F}
use Rattle.cu_kernel.specs.declared.term.Term.TheVariants as term
use Rattle.cu_kernel.specs.declared.term.Term.TheViews.{roll-Term}
use Rattle.cu_kernel.specs.declared.term.Term.{Term}
use Rattle.cu_crwl.specs.Same.{same_pattern, same_term}

-- the variant of a pattern, by its place
abbrev pub pattern_kind : clean.Pattern → ℕ
pattern_kind (clean.Any x) = 0
pattern_kind (clean.Exactly l) = 1
pattern_kind (clean.Built c ps) = 2
pattern_kind (clean.Named x p) = 3

pub patterns_differ : (p q : clean.Pattern) → pattern_kind p ≢ pattern_kind q → false ≡ same_pattern p q
patterns_differ (clean.Any x) (clean.Any x') n = absurd (n refl)
patterns_differ (clean.Exactly l) (clean.Exactly l') n = absurd (n refl)
patterns_differ (clean.Built c ps) (clean.Built c' ps') n = absurd (n refl)
patterns_differ (clean.Named x p) (clean.Named x' p') n = absurd (n refl)
patterns_differ p q n = refl

pub data SeenPattern (it : Pattern) : Type 0 where
  isVar : (x : ℕ) → it ≡ pattern.Var x → SeenPattern it
  isLit : (l : Lit) → it ≡ pattern.Lit l → SeenPattern it
  isCon : (c : ConId) (ps : Vec Pattern Global) → it ≡ pattern.Con c ps → SeenPattern it
  isAlias : (x : ℕ) (p : Box Pattern Global) → it ≡ pattern.Alias x p → SeenPattern it

seen_pattern_layer : (layer : Pattern-F Pattern) → SeenPattern (roll-Pattern layer)
seen_pattern_layer (pattern_layer.Var x) = isVar x (pattern.rolls-Var x)
seen_pattern_layer (pattern_layer.Lit l) = isLit l (pattern.rolls-Lit l)
seen_pattern_layer (pattern_layer.Con c ps) = isCon c ps (pattern.rolls-Con c ps)
seen_pattern_layer (pattern_layer.Alias x p) = isAlias x p (pattern.rolls-Alias x p)

pub seen_pattern : (p : Pattern) → SeenPattern p
seen_pattern = ind-Pattern SeenPattern (λ layer y is. seen_pattern_layer layer)

abbrev seen_pattern_kind : (p : Pattern) → SeenPattern p → ℕ
seen_pattern_kind it (isVar x e) = 0
seen_pattern_kind it (isLit l e) = 1
seen_pattern_kind it (isCon c ps e) = 2
seen_pattern_kind it (isAlias x p e) = 3

pattern_kind_seen : (p : Pattern) (s : SeenPattern p) → pattern_kind (pattern_of p) ≡ seen_pattern_kind p s
pattern_kind_seen it (isVar x e) = ap (λ z. pattern_kind (pattern_of z)) e ∙ ap pattern_kind (pattern_of-Var x)
pattern_kind_seen it (isLit l e) = ap (λ z. pattern_kind (pattern_of z)) e ∙ ap pattern_kind (pattern_of-Lit l)
pattern_kind_seen it (isCon c ps e) = ap (λ z. pattern_kind (pattern_of z)) e ∙ ap pattern_kind (pattern_of-Con c ps)
pattern_kind_seen it (isAlias x p e) = ap (λ z. pattern_kind (pattern_of z)) e ∙ ap pattern_kind (pattern_of-Alias x p)

-- a pattern that isn't this variant is none like it
pub not-pattern-Var : (left right : Pattern) (x : ℕ) → left ≡ pattern.Var x → ((x : ℕ) → right ≡ pattern.Var x → ⊥)
    → false ≡ same_pattern (pattern_of left) (pattern_of right)
not-pattern-Var left right x is never = patterns_differ (pattern_of left) (pattern_of right) (go (seen_pattern right))
  where
    kind : pattern_kind (pattern_of left) ≡ 0
    kind = ap (λ z. pattern_kind (pattern_of z)) is ∙ ap pattern_kind (pattern_of-Var x)

    go : (s : SeenPattern right) → pattern_kind (pattern_of left) ≢ pattern_kind (pattern_of right)
    go (isVar x' e) = λ same. never x' e
    go s = λ same. absurd (let e : seen_pattern_kind right s ≡ 0 = sym (pattern_kind_seen right s) ∙ sym same ∙ kind in omega arith)

-- a pattern that isn't this variant is none like it
pub not-pattern-Lit : (left right : Pattern) (l : Lit) → left ≡ pattern.Lit l → ((l : Lit) → right ≡ pattern.Lit l → ⊥)
    → false ≡ same_pattern (pattern_of left) (pattern_of right)
not-pattern-Lit left right l is never = patterns_differ (pattern_of left) (pattern_of right) (go (seen_pattern right))
  where
    kind : pattern_kind (pattern_of left) ≡ 1
    kind = ap (λ z. pattern_kind (pattern_of z)) is ∙ ap pattern_kind (pattern_of-Lit l)

    go : (s : SeenPattern right) → pattern_kind (pattern_of left) ≢ pattern_kind (pattern_of right)
    go (isLit l' e) = λ same. never l' e
    go s = λ same. absurd (let e : seen_pattern_kind right s ≡ 1 = sym (pattern_kind_seen right s) ∙ sym same ∙ kind in omega arith)

-- a pattern that isn't this variant is none like it
pub not-pattern-Con : (left right : Pattern) (c : ConId) (ps : Vec Pattern Global) → left ≡ pattern.Con c ps → ((c : ConId) (ps : Vec Pattern Global) → right ≡ pattern.Con c ps → ⊥)
    → false ≡ same_pattern (pattern_of left) (pattern_of right)
not-pattern-Con left right c ps is never = patterns_differ (pattern_of left) (pattern_of right) (go (seen_pattern right))
  where
    kind : pattern_kind (pattern_of left) ≡ 2
    kind = ap (λ z. pattern_kind (pattern_of z)) is ∙ ap pattern_kind (pattern_of-Con c ps)

    go : (s : SeenPattern right) → pattern_kind (pattern_of left) ≢ pattern_kind (pattern_of right)
    go (isCon c' ps' e) = λ same. never c' ps' e
    go s = λ same. absurd (let e : seen_pattern_kind right s ≡ 2 = sym (pattern_kind_seen right s) ∙ sym same ∙ kind in omega arith)

-- a pattern that isn't this variant is none like it
pub not-pattern-Alias : (left right : Pattern) (x : ℕ) (p : Box Pattern Global) → left ≡ pattern.Alias x p → ((x : ℕ) (p : Box Pattern Global) → right ≡ pattern.Alias x p → ⊥)
    → false ≡ same_pattern (pattern_of left) (pattern_of right)
not-pattern-Alias left right x p is never = patterns_differ (pattern_of left) (pattern_of right) (go (seen_pattern right))
  where
    kind : pattern_kind (pattern_of left) ≡ 3
    kind = ap (λ z. pattern_kind (pattern_of z)) is ∙ ap pattern_kind (pattern_of-Alias x p)

    go : (s : SeenPattern right) → pattern_kind (pattern_of left) ≢ pattern_kind (pattern_of right)
    go (isAlias x' p' e) = λ same. never x' p' e
    go s = λ same. absurd (let e : seen_pattern_kind right s ≡ 3 = sym (pattern_kind_seen right s) ∙ sym same ∙ kind in omega arith)

-- the variant of a term, by its place
abbrev pub term_kind : clean.Term → ℕ
term_kind (clean.Variable x) = 0
term_kind (clean.Literal l) = 1
term_kind (clean.Whole h ts) = 2
term_kind (clean.Part h ts) = 3
term_kind (clean.Apply f a) = 4
term_kind (clean.Let x a b) = 5
term_kind (clean.Free x t) = 6
term_kind (clean.Or a b) = 7
term_kind (clean.Case mode t rows) = 8

pub terms_differ : (p q : clean.Term) → term_kind p ≢ term_kind q → false ≡ same_term p q
terms_differ (clean.Variable x) (clean.Variable x') n = absurd (n refl)
terms_differ (clean.Literal l) (clean.Literal l') n = absurd (n refl)
terms_differ (clean.Whole h ts) (clean.Whole h' ts') n = absurd (n refl)
terms_differ (clean.Part h ts) (clean.Part h' ts') n = absurd (n refl)
terms_differ (clean.Apply f a) (clean.Apply f' a') n = absurd (n refl)
terms_differ (clean.Let x a b) (clean.Let x' a' b') n = absurd (n refl)
terms_differ (clean.Free x t) (clean.Free x' t') n = absurd (n refl)
terms_differ (clean.Or a b) (clean.Or a' b') n = absurd (n refl)
terms_differ (clean.Case mode t rows) (clean.Case mode' t' rows') n = absurd (n refl)
terms_differ p q n = refl

pub data SeenTerm (it : Term) : Type 0 where
  isVar : (x : ℕ) → it ≡ term.Var x → SeenTerm it
  isLit : (l : Lit) → it ≡ term.Lit l → SeenTerm it
  isWhole : (h : Head) (ts : Vec Term Global) → it ≡ term.Whole h ts → SeenTerm it
  isPart : (h : Head) (ts : Vec Term Global) → it ≡ term.Part h ts → SeenTerm it
  isApply : (f a : Box Term Global) → it ≡ term.Apply f a → SeenTerm it
  isLet : (x : ℕ) (a b : Box Term Global) → it ≡ term.Let x a b → SeenTerm it
  isFree : (x : ℕ) (t : Box Term Global) → it ≡ term.Free x t → SeenTerm it
  isOr : (a b : Box Term Global) → it ≡ term.Or a b → SeenTerm it
  isCase : (mode : Mode) (t : Box Term Global) (rows : Vec (Pattern × Term) Global) → it ≡ term.Case mode t rows → SeenTerm it

seen_term_layer : (layer : Term-F Term) → SeenTerm (roll-Term layer)
seen_term_layer (term_layer.Var x) = isVar x (term.rolls-Var x)
seen_term_layer (term_layer.Lit l) = isLit l (term.rolls-Lit l)
seen_term_layer (term_layer.Whole h ts) = isWhole h ts (term.rolls-Whole h ts)
seen_term_layer (term_layer.Part h ts) = isPart h ts (term.rolls-Part h ts)
seen_term_layer (term_layer.Apply f a) = isApply f a (term.rolls-Apply f a)
seen_term_layer (term_layer.Let x a b) = isLet x a b (term.rolls-Let x a b)
seen_term_layer (term_layer.Free x t) = isFree x t (term.rolls-Free x t)
seen_term_layer (term_layer.Or a b) = isOr a b (term.rolls-Or a b)
seen_term_layer (term_layer.Case mode t rows) = isCase mode t rows (term.rolls-Case mode t rows)

pub seen_term : (t : Term) → SeenTerm t
seen_term = ind-Term SeenTerm (λ layer y is. seen_term_layer layer)

abbrev seen_term_kind : (t : Term) → SeenTerm t → ℕ
seen_term_kind it (isVar x e) = 0
seen_term_kind it (isLit l e) = 1
seen_term_kind it (isWhole h ts e) = 2
seen_term_kind it (isPart h ts e) = 3
seen_term_kind it (isApply f a e) = 4
seen_term_kind it (isLet x a b e) = 5
seen_term_kind it (isFree x t e) = 6
seen_term_kind it (isOr a b e) = 7
seen_term_kind it (isCase mode t rows e) = 8

term_kind_seen : (t : Term) (s : SeenTerm t) → term_kind (term_of t) ≡ seen_term_kind t s
term_kind_seen it (isVar x e) = ap (λ z. term_kind (term_of z)) e ∙ ap term_kind (term_of-Var x)
term_kind_seen it (isLit l e) = ap (λ z. term_kind (term_of z)) e ∙ ap term_kind (term_of-Lit l)
term_kind_seen it (isWhole h ts e) = ap (λ z. term_kind (term_of z)) e ∙ ap term_kind (term_of-Whole h ts)
term_kind_seen it (isPart h ts e) = ap (λ z. term_kind (term_of z)) e ∙ ap term_kind (term_of-Part h ts)
term_kind_seen it (isApply f a e) = ap (λ z. term_kind (term_of z)) e ∙ ap term_kind (term_of-Apply f a)
term_kind_seen it (isLet x a b e) = ap (λ z. term_kind (term_of z)) e ∙ ap term_kind (term_of-Let x a b)
term_kind_seen it (isFree x t e) = ap (λ z. term_kind (term_of z)) e ∙ ap term_kind (term_of-Free x t)
term_kind_seen it (isOr a b e) = ap (λ z. term_kind (term_of z)) e ∙ ap term_kind (term_of-Or a b)
term_kind_seen it (isCase mode t rows e) = ap (λ z. term_kind (term_of z)) e ∙ ap term_kind (term_of-Case mode t rows)

-- a term that isn't this variant is none like it
pub not-term-Var : (left right : Term) (x : ℕ) → left ≡ term.Var x → ((x : ℕ) → right ≡ term.Var x → ⊥)
    → false ≡ same_term (term_of left) (term_of right)
not-term-Var left right x is never = terms_differ (term_of left) (term_of right) (go (seen_term right))
  where
    kind : term_kind (term_of left) ≡ 0
    kind = ap (λ z. term_kind (term_of z)) is ∙ ap term_kind (term_of-Var x)

    go : (s : SeenTerm right) → term_kind (term_of left) ≢ term_kind (term_of right)
    go (isVar x' e) = λ same. never x' e
    go s = λ same. absurd (let e : seen_term_kind right s ≡ 0 = sym (term_kind_seen right s) ∙ sym same ∙ kind in omega arith)

-- a term that isn't this variant is none like it
pub not-term-Lit : (left right : Term) (l : Lit) → left ≡ term.Lit l → ((l : Lit) → right ≡ term.Lit l → ⊥)
    → false ≡ same_term (term_of left) (term_of right)
not-term-Lit left right l is never = terms_differ (term_of left) (term_of right) (go (seen_term right))
  where
    kind : term_kind (term_of left) ≡ 1
    kind = ap (λ z. term_kind (term_of z)) is ∙ ap term_kind (term_of-Lit l)

    go : (s : SeenTerm right) → term_kind (term_of left) ≢ term_kind (term_of right)
    go (isLit l' e) = λ same. never l' e
    go s = λ same. absurd (let e : seen_term_kind right s ≡ 1 = sym (term_kind_seen right s) ∙ sym same ∙ kind in omega arith)

-- a term that isn't this variant is none like it
pub not-term-Whole : (left right : Term) (h : Head) (ts : Vec Term Global) → left ≡ term.Whole h ts → ((h : Head) (ts : Vec Term Global) → right ≡ term.Whole h ts → ⊥)
    → false ≡ same_term (term_of left) (term_of right)
not-term-Whole left right h ts is never = terms_differ (term_of left) (term_of right) (go (seen_term right))
  where
    kind : term_kind (term_of left) ≡ 2
    kind = ap (λ z. term_kind (term_of z)) is ∙ ap term_kind (term_of-Whole h ts)

    go : (s : SeenTerm right) → term_kind (term_of left) ≢ term_kind (term_of right)
    go (isWhole h' ts' e) = λ same. never h' ts' e
    go s = λ same. absurd (let e : seen_term_kind right s ≡ 2 = sym (term_kind_seen right s) ∙ sym same ∙ kind in omega arith)

-- a term that isn't this variant is none like it
pub not-term-Part : (left right : Term) (h : Head) (ts : Vec Term Global) → left ≡ term.Part h ts → ((h : Head) (ts : Vec Term Global) → right ≡ term.Part h ts → ⊥)
    → false ≡ same_term (term_of left) (term_of right)
not-term-Part left right h ts is never = terms_differ (term_of left) (term_of right) (go (seen_term right))
  where
    kind : term_kind (term_of left) ≡ 3
    kind = ap (λ z. term_kind (term_of z)) is ∙ ap term_kind (term_of-Part h ts)

    go : (s : SeenTerm right) → term_kind (term_of left) ≢ term_kind (term_of right)
    go (isPart h' ts' e) = λ same. never h' ts' e
    go s = λ same. absurd (let e : seen_term_kind right s ≡ 3 = sym (term_kind_seen right s) ∙ sym same ∙ kind in omega arith)

-- a term that isn't this variant is none like it
pub not-term-Apply : (left right : Term) (f a : Box Term Global) → left ≡ term.Apply f a → ((f a : Box Term Global) → right ≡ term.Apply f a → ⊥)
    → false ≡ same_term (term_of left) (term_of right)
not-term-Apply left right f a is never = terms_differ (term_of left) (term_of right) (go (seen_term right))
  where
    kind : term_kind (term_of left) ≡ 4
    kind = ap (λ z. term_kind (term_of z)) is ∙ ap term_kind (term_of-Apply f a)

    go : (s : SeenTerm right) → term_kind (term_of left) ≢ term_kind (term_of right)
    go (isApply f' a' e) = λ same. never f' a' e
    go s = λ same. absurd (let e : seen_term_kind right s ≡ 4 = sym (term_kind_seen right s) ∙ sym same ∙ kind in omega arith)

-- a term that isn't this variant is none like it
pub not-term-Let : (left right : Term) (x : ℕ) (a b : Box Term Global) → left ≡ term.Let x a b → ((x : ℕ) (a b : Box Term Global) → right ≡ term.Let x a b → ⊥)
    → false ≡ same_term (term_of left) (term_of right)
not-term-Let left right x a b is never = terms_differ (term_of left) (term_of right) (go (seen_term right))
  where
    kind : term_kind (term_of left) ≡ 5
    kind = ap (λ z. term_kind (term_of z)) is ∙ ap term_kind (term_of-Let x a b)

    go : (s : SeenTerm right) → term_kind (term_of left) ≢ term_kind (term_of right)
    go (isLet x' a' b' e) = λ same. never x' a' b' e
    go s = λ same. absurd (let e : seen_term_kind right s ≡ 5 = sym (term_kind_seen right s) ∙ sym same ∙ kind in omega arith)

-- a term that isn't this variant is none like it
pub not-term-Free : (left right : Term) (x : ℕ) (t : Box Term Global) → left ≡ term.Free x t → ((x : ℕ) (t : Box Term Global) → right ≡ term.Free x t → ⊥)
    → false ≡ same_term (term_of left) (term_of right)
not-term-Free left right x t is never = terms_differ (term_of left) (term_of right) (go (seen_term right))
  where
    kind : term_kind (term_of left) ≡ 6
    kind = ap (λ z. term_kind (term_of z)) is ∙ ap term_kind (term_of-Free x t)

    go : (s : SeenTerm right) → term_kind (term_of left) ≢ term_kind (term_of right)
    go (isFree x' t' e) = λ same. never x' t' e
    go s = λ same. absurd (let e : seen_term_kind right s ≡ 6 = sym (term_kind_seen right s) ∙ sym same ∙ kind in omega arith)

-- a term that isn't this variant is none like it
pub not-term-Or : (left right : Term) (a b : Box Term Global) → left ≡ term.Or a b → ((a b : Box Term Global) → right ≡ term.Or a b → ⊥)
    → false ≡ same_term (term_of left) (term_of right)
not-term-Or left right a b is never = terms_differ (term_of left) (term_of right) (go (seen_term right))
  where
    kind : term_kind (term_of left) ≡ 7
    kind = ap (λ z. term_kind (term_of z)) is ∙ ap term_kind (term_of-Or a b)

    go : (s : SeenTerm right) → term_kind (term_of left) ≢ term_kind (term_of right)
    go (isOr a' b' e) = λ same. never a' b' e
    go s = λ same. absurd (let e : seen_term_kind right s ≡ 7 = sym (term_kind_seen right s) ∙ sym same ∙ kind in omega arith)

-- a term that isn't this variant is none like it
pub not-term-Case : (left right : Term) (mode : Mode) (t : Box Term Global) (rows : Vec (Pattern × Term) Global) → left ≡ term.Case mode t rows → ((mode : Mode) (t : Box Term Global) (rows : Vec (Pattern × Term) Global) → right ≡ term.Case mode t rows → ⊥)
    → false ≡ same_term (term_of left) (term_of right)
not-term-Case left right mode t rows is never = terms_differ (term_of left) (term_of right) (go (seen_term right))
  where
    kind : term_kind (term_of left) ≡ 8
    kind = ap (λ z. term_kind (term_of z)) is ∙ ap term_kind (term_of-Case mode t rows)

    go : (s : SeenTerm right) → term_kind (term_of left) ≢ term_kind (term_of right)
    go (isCase mode' t' rows' e) = λ same. never mode' t' rows' e
    go s = λ same. absurd (let e : seen_term_kind right s ≡ 8 = sym (term_kind_seen right s) ∙ sym same ∙ kind in omega arith)
