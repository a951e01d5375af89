-- Patterns, terms and alternatives that are read off one after another.
use Rattle.std.proofs.Common.{◌≡◌, ℕ, ◌+◌, ◌<◌, ◌≤◌, List, drop, get_or, length, sym, ap, ◌∙◌}
use Rattle.std.proofs.lemmas.List.{drop_more}
use Rattle.cu_kernel.specs.TermsOf.{pattern_of, patterns_of, term_of, terms_of}
use Rattle.cu_kernel.specs.declared.term.Pattern.{Pattern}
use Rattle.cu_kernel.specs.declared.term.Term.{Term}
use Rattle.cu_types.proofs.RuleLemmas.{past_end, walking_ends, walking_more}
use Rattle.cu_types.specs.Equations.{Asked, Assumptions, Environment, pattern_asks, patterns_ask, term_asks, terms_ask}
use Rattle.cu_types.specs.Inside.Knowing.{assumptions_by}
use Rattle.cu_types.specs.Inside.Walking.{IsWalking, Walks, heads, scope}
use Rattle.cu_types.specs.declared.walk.Walk.{Walk}

pub patterns_step : (a b c : Walk) (whole : Asked → Asked) (ps : List Pattern) (i t next : ℕ) (item : Pattern) → i < length ps
    → item ≡ get_or ps i item → next ≡ t + 1 → IsWalking a b (patterns_ask (heads a) (scope a) t (patterns_of (drop i ps))) whole
    → Walks b c (pattern_asks (heads b) (scope b) t (pattern_of item))
    → IsWalking a c (patterns_ask (heads a) (scope a) next (patterns_of (drop (i + 1) ps))) whole
patterns_step a b c whole ps i t next item inside is more walking walks =
    let left : ℕ → Asked → Asked = λ n. patterns_ask (heads a) (scope a) n (patterns_of (drop (i + 1) ps)) in
    walking_more a b c (patterns_ask (heads a) (scope a) t (patterns_of (drop i ps))) (pattern_asks (heads b) (scope b) t (pattern_of item))
    (left next) whole walking walks
    (λ asked.
    ap (λ (h : Assumptions). left next (pattern_asks h (scope b) t (pattern_of item) asked)) (ap assumptions_by walking.heads)
    ∙ ap (λ (e : Environment). left next (pattern_asks (heads a) e t (pattern_of item) asked)) walking.scope
    ∙ ap (λ (n : ℕ). left n (pattern_asks (heads a) (scope a) t (pattern_of item) asked)) more
    ∙ ap (λ (p : Pattern). left (t + 1) (pattern_asks (heads a) (scope a) t (pattern_of p) asked)) is
    ∙ sym (ap (λ (qs : List Pattern). patterns_ask (heads a) (scope a) t (patterns_of qs) asked) (drop_more ps i item inside)))

pub patterns_end : (a b : Walk) (whole : Asked → Asked) (ps : List Pattern) (i t : ℕ) → length ps ≤ i
    → IsWalking a b (patterns_ask (heads a) (scope a) t (patterns_of (drop i ps))) whole → Walks a b whole
patterns_end a b whole ps i t past walking =
    walking_ends a b (patterns_ask (heads a) (scope a) t (patterns_of (drop i ps))) whole walking
    (λ asked. ap (λ (qs : List Pattern). patterns_ask (heads a) (scope a) t (patterns_of qs) asked) (past_end ps i past))

pub terms_step : (a b c : Walk) (whole : Asked → Asked) (ts : List Term) (i t next : ℕ) (item : Term) → i < length ts
    → item ≡ get_or ts i item → next ≡ t + 1 → IsWalking a b (terms_ask (heads a) (scope a) t (terms_of (drop i ts))) whole
    → Walks b c (term_asks (heads b) (scope b) t (term_of item))
    → IsWalking a c (terms_ask (heads a) (scope a) next (terms_of (drop (i + 1) ts))) whole
terms_step a b c whole ts i t next item inside is more walking walks =
    let left : ℕ → Asked → Asked = λ n. terms_ask (heads a) (scope a) n (terms_of (drop (i + 1) ts)) in
    walking_more a b c (terms_ask (heads a) (scope a) t (terms_of (drop i ts))) (term_asks (heads b) (scope b) t (term_of item))
    (left next) whole walking walks
    (λ asked.
    ap (λ (h : Assumptions). left next (term_asks h (scope b) t (term_of item) asked)) (ap assumptions_by walking.heads)
    ∙ ap (λ (e : Environment). left next (term_asks (heads a) e t (term_of item) asked)) walking.scope
    ∙ ap (λ (n : ℕ). left n (term_asks (heads a) (scope a) t (term_of item) asked)) more
    ∙ ap (λ (u : Term). left (t + 1) (term_asks (heads a) (scope a) t (term_of u) asked)) is
    ∙ sym (ap (λ (us : List Term). terms_ask (heads a) (scope a) t (terms_of us) asked) (drop_more ts i item inside)))

pub terms_end : (a b : Walk) (whole : Asked → Asked) (ts : List Term) (i t : ℕ) → length ts ≤ i
    → IsWalking a b (terms_ask (heads a) (scope a) t (terms_of (drop i ts))) whole → Walks a b whole
terms_end a b whole ts i t past walking =
    walking_ends a b (terms_ask (heads a) (scope a) t (terms_of (drop i ts))) whole walking
    (λ asked. ap (λ (us : List Term). terms_ask (heads a) (scope a) t (terms_of us) asked) (past_end ts i past))
