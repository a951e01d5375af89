-- As many patterns and terms as their lists have.
use Rattle.std.proofs.Common.{◌≡◌, ◌+◌, List, [], ◌∷◌, length, refl, ap, add-one, ◌∙◌}
use Rattle.cu_calculus.specs.Valid.{pattern_count, term_count}
use Rattle.cu_kernel.specs.TermsOf.{patterns_of, terms_of}
use Rattle.cu_kernel.specs.declared.term.Pattern.{Pattern}
use Rattle.cu_kernel.specs.declared.term.Term.{Term}

pub pattern_count-patterns_of : (ps : List Pattern) → pattern_count (patterns_of ps) ≡ length ps
pattern_count-patterns_of [] = refl
pattern_count-patterns_of (p ∷ ps) = ap (λ n. n + 1) (pattern_count-patterns_of ps) ∙ add-one (length ps)

pub term_count-terms_of : (ts : List Term) → term_count (terms_of ts) ≡ length ts
term_count-terms_of [] = refl
term_count-terms_of (t ∷ ts) = ap (λ n. n + 1) (term_count-terms_of ts) ∙ add-one (length ts)

pub ruleset counts = (pattern_count-patterns_of, term_count-terms_of)
