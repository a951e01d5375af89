-- The parts of a boxed term of a flat program are flat, variant by variant.
use Rattle.std.proofs.Common.{◌≡◌, ℕ, ◌&&◌, List, IsTrue, refl, ap, sym, ◌∙◌}
use Rattle.std.specs.declared.alloc.Global.{Global}
use Rattle.std.specs.declared.boxed.Box.{Box}
use Rattle.std.specs.declared.vec.Vec.{Vec}
use Rattle.std.proofs.lemmas.Bool.{and_parts}
use Rattle.cu_calculus.specs.Flat.{all_differ, are_flat_alternatives, are_flat_terms, demands_of, is_flat_term}
use Rattle.cu_calculus.specs.Term as clean
use Rattle.cu_calculus.specs.declared.Head.{Head}
use Rattle.cu_calculus.specs.declared.Lit.{Lit}
use Rattle.cu_calculus.specs.declared.Mode.{Mode}
use Rattle.cu_kernel.specs.TermsOf.{alternatives_of, term_of, term_of-Apply, term_of-Case, term_of-Free, term_of-Let, term_of-Lit, term_of-Or, term_of-Part, term_of-Var, term_of-Whole, terms_of}
use Rattle.cu_kernel.specs.declared.term.Pattern.{Pattern}
use Rattle.cu_kernel.specs.declared.term.Term.TheVariants as term
use Rattle.cu_kernel.specs.declared.term.Term.{Term}

two : {A B : Type 0} (f : A → B → clean.Term) (a b : A) (c d : B) → a ≡ b → c ≡ d → f a c ≡ f b d
two f a b c d p q = rw (p, q) refl

-- ---- the term that a variant stands for

pub var-is : (t : Term) (x : ℕ) → t ≡ term.Var x → term_of t ≡ clean.Variable x
var-is t x is = ap term_of is ∙ term_of-Var x

pub lit-is : (t : Term) (l : Lit) → t ≡ term.Lit l → term_of t ≡ clean.Literal l
lit-is t l is = ap term_of is ∙ term_of-Lit l

pub whole-is : (t : Term) (h : Head) (ts : Vec Term Global) (xs : List Term) → t ≡ term.Whole h ts → xs ≡ ts.items → term_of t ≡ clean.Whole h (terms_of xs)
whole-is t h ts xs is same = ap term_of is ∙ term_of-Whole h ts ∙ ap (λ ys. clean.Whole h (terms_of ys)) (sym same)

pub part-is : (t : Term) (h : Head) (ts : Vec Term Global) (xs : List Term) → t ≡ term.Part h ts → xs ≡ ts.items → term_of t ≡ clean.Part h (terms_of xs)
part-is t h ts xs is same = ap term_of is ∙ term_of-Part h ts ∙ ap (λ ys. clean.Part h (terms_of ys)) (sym same)

pub apply-is : (t : Term) (f a : Box Term Global) (x y : Term) → t ≡ term.Apply f a → x ≡ f.value → y ≡ a.value
    → term_of t ≡ clean.Apply (term_of x) (term_of y)
apply-is t f a x y is p q = ap term_of is ∙ term_of-Apply f a ∙ two clean.Apply _ _ _ _ (ap term_of (sym p)) (ap term_of (sym q))

pub let-is : (t : Term) (z : ℕ) (a b : Box Term Global) (x y : Term) → t ≡ term.Let z a b → x ≡ a.value → y ≡ b.value
    → term_of t ≡ clean.Let z (term_of x) (term_of y)
let-is t z a b x y is p q = ap term_of is ∙ term_of-Let z a b ∙ two (clean.Let z) _ _ _ _ (ap term_of (sym p)) (ap term_of (sym q))

pub free-is : (t : Term) (z : ℕ) (b : Box Term Global) (x : Term) → t ≡ term.Free z b → x ≡ b.value → term_of t ≡ clean.Free z (term_of x)
free-is t z b x is p = ap term_of is ∙ term_of-Free z b ∙ ap (λ s. clean.Free z (term_of s)) (sym p)

pub or-is : (t : Term) (a b : Box Term Global) (x y : Term) → t ≡ term.Or a b → x ≡ a.value → y ≡ b.value → term_of t ≡ clean.Or (term_of x) (term_of y)
or-is t a b x y is p q = ap term_of is ∙ term_of-Or a b ∙ two clean.Or _ _ _ _ (ap term_of (sym p)) (ap term_of (sym q))

pub case-is : (t : Term) (mode : Mode) (a : Box Term Global) (rows : Vec (Pattern × Term) Global) (x : Term) (xs : List (Pattern × Term))
    → t ≡ term.Case mode a rows → x ≡ a.value → xs ≡ rows.items → term_of t ≡ clean.Case mode (term_of x) (alternatives_of xs)
case-is t mode a rows x xs is p q =
    ap term_of is ∙ term_of-Case mode a rows ∙ two (clean.Case mode) _ _ _ _ (ap term_of (sym p)) (ap alternatives_of (sym q))

-- ---- its parts are flat

flat-of : (t s : clean.Term) → t ≡ s → IsTrue (is_flat_term t) → IsTrue (is_flat_term s)
flat-of t s e h = sym (ap is_flat_term e) ∙ h

pub whole-flat : (t : Term) (h : Head) (ts : Vec Term Global) (xs : List Term) → t ≡ term.Whole h ts → xs ≡ ts.items
    → IsTrue (is_flat_term (term_of t)) → IsTrue (are_flat_terms (terms_of xs))
whole-flat t h ts xs is same plain = flat-of (term_of t) (clean.Whole h (terms_of xs)) (whole-is t h ts xs is same) plain

pub part-flat : (t : Term) (h : Head) (ts : Vec Term Global) (xs : List Term) → t ≡ term.Part h ts → xs ≡ ts.items
    → IsTrue (is_flat_term (term_of t)) → IsTrue (are_flat_terms (terms_of xs))
part-flat t h ts xs is same plain = flat-of (term_of t) (clean.Part h (terms_of xs)) (part-is t h ts xs is same) plain

pub apply-flat : (t : Term) (f a : Box Term Global) (x y : Term) → t ≡ term.Apply f a → x ≡ f.value → y ≡ a.value
    → IsTrue (is_flat_term (term_of t)) → IsTrue (is_flat_term (term_of x)) × IsTrue (is_flat_term (term_of y))
apply-flat t f a x y is p q plain =
    and_parts (is_flat_term (term_of x)) (is_flat_term (term_of y))
    (flat-of (term_of t) (clean.Apply (term_of x) (term_of y)) (apply-is t f a x y is p q) plain)

pub let-flat : (t : Term) (z : ℕ) (a b : Box Term Global) (x y : Term) → t ≡ term.Let z a b → x ≡ a.value → y ≡ b.value
    → IsTrue (is_flat_term (term_of t)) → IsTrue (is_flat_term (term_of x)) × IsTrue (is_flat_term (term_of y))
let-flat t z a b x y is p q plain =
    and_parts (is_flat_term (term_of x)) (is_flat_term (term_of y))
    (flat-of (term_of t) (clean.Let z (term_of x) (term_of y)) (let-is t z a b x y is p q) plain)

pub free-flat : (t : Term) (z : ℕ) (b : Box Term Global) (x : Term) → t ≡ term.Free z b → x ≡ b.value
    → IsTrue (is_flat_term (term_of t)) → IsTrue (is_flat_term (term_of x))
free-flat t z b x is p plain = flat-of (term_of t) (clean.Free z (term_of x)) (free-is t z b x is p) plain

pub or-flat : (t : Term) (a b : Box Term Global) (x y : Term) → t ≡ term.Or a b → x ≡ a.value → y ≡ b.value
    → IsTrue (is_flat_term (term_of t)) → IsTrue (is_flat_term (term_of x)) × IsTrue (is_flat_term (term_of y))
or-flat t a b x y is p q plain =
    and_parts (is_flat_term (term_of x)) (is_flat_term (term_of y))
    (flat-of (term_of t) (clean.Or (term_of x) (term_of y)) (or-is t a b x y is p q) plain)

pub case-flat : (t : Term) (mode : Mode) (a : Box Term Global) (rows : Vec (Pattern × Term) Global) (x : Term) (xs : List (Pattern × Term))
    → t ≡ term.Case mode a rows → x ≡ a.value → xs ≡ rows.items
    → IsTrue (is_flat_term (term_of t)) → IsTrue (is_flat_term (term_of x)) × IsTrue (are_flat_alternatives (alternatives_of xs))
case-flat t mode a rows x xs is p q plain =
    let differ = all_differ (demands_of (alternatives_of xs)) in
    let parts = and_parts (is_flat_term (term_of x) && differ) (are_flat_alternatives (alternatives_of xs))
    (flat-of (term_of t) (clean.Case mode (term_of x) (alternatives_of xs)) (case-is t mode a rows x xs is p q) plain) in
    ((and_parts (is_flat_term (term_of x)) differ parts.0).0, parts.1)
