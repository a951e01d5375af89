-- The tests of lists of patterns, of terms and of alternatives go from the left.
use Rattle.std.proofs.Common.{◌≡◌, true, refl}
use Rattle.std.specs.declared.alloc.Global.{Global}
use Rattle.std.specs.declared.boxed.Box.{Box}
use Rattle.std.specs.declared.vec.Vec.{Vec}
use Rattle.cu_calculus.specs.declared.Mode.{Mode}
use Rattle.cu_kernel.specs.declared.term.Term.TheVariants as term
use Rattle.cu_kernel.specs.TermsOf.{alternatives_of, pattern_of, patterns_of, term_of, term_of-Case, terms_of}
use Rattle.cu_kernel.specs.declared.term.Pattern.{Pattern}
use Rattle.cu_kernel.specs.declared.term.Term.{Term}
use Rattle.std.specs.Prelude.{◌&&◌, Bool, List}
use Rattle.cu_crwl.specs.Same.{same_alternatives, same_mode, same_pattern, same_patterns, same_term, same_terms}
use Rattle.cu_crwl.proofs.Pairwise.{IsPairwise}

abbrev pub all_patterns : List Pattern → List Pattern → Bool
all_patterns ps qs = same_patterns (patterns_of ps) (patterns_of qs)

abbrev pub one_pattern : Pattern → Pattern → Bool
one_pattern p q = same_pattern (pattern_of p) (pattern_of q)

pub by_patterns : IsPairwise all_patterns one_pattern
by_patterns = record { none = refl; more = λ x y xs ys. refl; short = λ x xs. refl; long = λ y ys. refl }

abbrev pub all_terms : List Term → List Term → Bool
all_terms ps qs = same_terms (terms_of ps) (terms_of qs)

abbrev pub one_term : Term → Term → Bool
one_term p q = same_term (term_of p) (term_of q)

pub by_terms : IsPairwise all_terms one_term
by_terms = record { none = refl; more = λ x y xs ys. refl; short = λ x xs. refl; long = λ y ys. refl }

abbrev pub all_alternatives : List (Pattern × Term) → List (Pattern × Term) → Bool
all_alternatives ps qs = same_alternatives (alternatives_of ps) (alternatives_of qs)

abbrev pub one_alternative : Pattern × Term → Pattern × Term → Bool
one_alternative p q = same_pattern (pattern_of p.0) (pattern_of q.0) && same_term (term_of p.1) (term_of q.1)

pub by_alternatives : IsPairwise all_alternatives one_alternative
by_alternatives = record { none = refl; more = λ x y xs ys. refl; short = λ x xs. refl; long = λ y ys. refl }

pub cases_are : (left right : Term) (m k : Mode) (a b : Box Term Global) (rows others : Vec (Pattern × Term) Global)
    → left ≡ term.Case m a rows → right ≡ term.Case k b others
    → same_term (term_of left) (term_of right)
    ≡ (same_mode m k && same_term (term_of a.value) (term_of b.value)) && same_alternatives (alternatives_of rows.items) (alternatives_of others.items)
cases_are left right m k a b rows others is at = rw (is, at, term_of-Case m a rows, term_of-Case k b others) refl

pub cases_same : (left right : Term) (m k : Mode) (a b : Box Term Global) (rows others : Vec (Pattern × Term) Global) (answer : Bool)
    (first second : List (Pattern × Term)) (value other : Term) → left ≡ term.Case m a rows → right ≡ term.Case k b others
    → true ≡ same_mode m k → value ≡ a.value → other ≡ b.value → true ≡ same_term (term_of value) (term_of other)
    → first ≡ rows.items → second ≡ others.items → answer ≡ same_alternatives (alternatives_of first) (alternatives_of second)
    → answer ≡ same_term (term_of left) (term_of right)
cases_same left right m k a b rows others answer first second value other is at modes e f terms g h found =
    let inner : true ≡ same_term (term_of a.value) (term_of b.value) = cc in
    let last : answer ≡ same_alternatives (alternatives_of rows.items) (alternatives_of others.items) = cc in
    rw (cases_are left right m k a b rows others is at, ← modes, ← inner) last
