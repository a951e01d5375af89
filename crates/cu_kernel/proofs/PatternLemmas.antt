-- What a pattern binds, variant by variant.
use Rattle.std.proofs.Common.{◌≡◌, ℕ, List, [], ◌∷◌, ◌++◌, sym, ◌∙◌, ap, append_assoc}
use Rattle.std.proofs.lemmas.List.{append-nil}
use Rattle.std.specs.declared.alloc.Global.{Global}
use Rattle.std.specs.declared.boxed.Box.{Box}
use Rattle.cu_calculus.specs.Valid.{variables_of}
use Rattle.cu_calculus.specs.declared.Lit.{Lit}
use Rattle.cu_kernel.specs.TermsOf.{pattern_of, pattern_of-Alias, pattern_of-Lit}
use Rattle.cu_kernel.specs.declared.term.Pattern.TheVariants as pattern
use Rattle.cu_kernel.specs.declared.term.Pattern.{Pattern}

pub literal_binds : (xs : List ℕ) (p : Pattern) (l : Lit) → p ≡ pattern.Lit l → xs ≡ xs ++ variables_of (pattern_of p)
literal_binds xs p l is =
    sym (ap (λ q. xs ++ variables_of (pattern_of q)) is ∙ ap (λ q. xs ++ variables_of q) (pattern_of-Lit l) ∙ append-nil xs)

pub alias_binds : (old pushed new : List ℕ) (p part : Pattern) (x : ℕ) (b : Box Pattern Global) → p ≡ pattern.Alias x b → part ≡ b.value
    → pushed ≡ old ++ x ∷ [] → new ≡ pushed ++ variables_of (pattern_of part) → new ≡ old ++ variables_of (pattern_of p)
alias_binds old pushed new p part x b is inner first rest =
    rest ∙ ap (λ xs. xs ++ variables_of (pattern_of part)) first ∙ append_assoc old (x ∷ []) (variables_of (pattern_of part))
    ∙ ap (λ q. old ++ x ∷ variables_of (pattern_of q)) inner
    ∙ sym (ap (λ q. old ++ variables_of (pattern_of q)) is ∙ ap (λ q. old ++ variables_of q) (pattern_of-Alias x b))
