-- What terms before lifting use and bind, one form at a time.
use Rattle.std.proofs.Common.{◌≡◌, ℕ, List, [], ◌∷◌, ◌++◌, ap, sym, ◌∙◌, append_assoc}
use Rattle.std.specs.declared.alloc.Global.{Global}
use Rattle.std.specs.declared.boxed.Box.{Box}
use Rattle.std.specs.declared.vec.Vec.{Vec}
use Rattle.cu_calculus.specs.Term as calculus
use Rattle.cu_calculus.specs.Valid.{variables_of}
use Rattle.cu_calculus.specs.declared.Lit.{Lit}
use Rattle.cu_calculus.specs.declared.Mode.{Mode}
use Rattle.cu_kernel.specs.LocalTerm as local
use Rattle.cu_kernel.specs.LocalTermsOf.{local_alternatives_of, local_term_of, local_term_of-Case, local_term_of-Free, local_term_of-Let, local_term_of-Lit}
use Rattle.cu_kernel.specs.TermsOf.{pattern_of, pattern_of-Alias, pattern_of-Lit}
use Rattle.cu_kernel.specs.declared.local.LocalTerm.TheVariants as term
use Rattle.cu_kernel.specs.declared.local.LocalTerm.{LocalTerm}
use Rattle.cu_kernel.specs.declared.term.Pattern.TheVariants as pattern
use Rattle.cu_kernel.specs.declared.term.Pattern.{Pattern}
use Rattle.cu_cycles.proofs.Places.{nothing_after}
use Rattle.cu_lift.specs.Inside.Capturing.{alternative_parts, bound, parts}
use Rattle.cu_lift.specs.declared.captures.Part.{Part}
use Rattle.cu_lift.specs.declared.captures.Part.TheVariants.{Binds}

one_then : (old mid new rest : List Part) (x : Part) → mid ≡ old ++ x ∷ [] → new ≡ mid ++ rest → new ≡ old ++ (x ∷ rest)
one_then old mid new rest x p q = q ∙ ap (λ xs. xs ++ rest) p ∙ append_assoc old (x ∷ []) rest

pub literal_pattern : (ps : List Part) (p : Pattern) (l : Lit) → p ≡ pattern.Lit l → ps ≡ ps ++ bound (variables_of (pattern_of p))
literal_pattern ps p l is = nothing_after ps ∙ ap (λ (q : calculus.Pattern). ps ++ bound (variables_of q)) (sym (ap pattern_of is ∙ pattern_of-Lit l))

pub alias_pattern : (old mid new : List Part) (p part : Pattern) (x : ℕ) (b : Box Pattern Global) → p ≡ pattern.Alias x b → part ≡ b.value
    → mid ≡ old ++ Binds x ∷ [] → new ≡ mid ++ bound (variables_of (pattern_of part)) → new ≡ old ++ bound (variables_of (pattern_of p))
alias_pattern old mid new p part x b is same first rest =
    one_then old mid new (bound (variables_of (pattern_of part))) (Binds x) first rest
    ∙ ap (λ (q : Pattern). old ++ (Binds x ∷ bound (variables_of (pattern_of q)))) same
    ∙ ap (λ (q : calculus.Pattern). old ++ bound (variables_of q)) (sym (ap pattern_of is ∙ pattern_of-Alias x b))

pub literal_parts : (ps : List Part) (t : LocalTerm) (l : Lit) → t ≡ term.Lit l → ps ≡ ps ++ parts (local_term_of t)
literal_parts ps t l is = nothing_after ps ∙ ap (λ (u : local.LocalTerm). ps ++ parts u) (sym (ap local_term_of is ∙ local_term_of-Lit l))

pub free_parts : (old mid new : List Part) (t body : LocalTerm) (x : ℕ) (b : Box LocalTerm Global) → t ≡ term.Free x b → body ≡ b.value
    → mid ≡ old ++ Binds x ∷ [] → new ≡ mid ++ parts (local_term_of body) → new ≡ old ++ parts (local_term_of t)
free_parts old mid new t body x b is same first rest =
    one_then old mid new (parts (local_term_of body)) (Binds x) first rest
    ∙ ap (λ (u : LocalTerm). old ++ (Binds x ∷ parts (local_term_of u))) same
    ∙ ap (λ (u : local.LocalTerm). old ++ parts u) (sym (ap local_term_of is ∙ local_term_of-Free x b))

pub let_parts : (old mid new : List Part) (t value body : LocalTerm) (x : ℕ) (a b : Box LocalTerm Global) → t ≡ term.Let x a b → value ≡ a.value → body ≡ b.value
    → mid ≡ old ++ Binds x ∷ [] → new ≡ mid ++ (parts (local_term_of value) ++ parts (local_term_of body)) → new ≡ old ++ parts (local_term_of t)
let_parts old mid new t value body x a b is same alike first rest =
    one_then old mid new (parts (local_term_of value) ++ parts (local_term_of body)) (Binds x) first rest
    ∙ ap (λ (u : LocalTerm). old ++ (Binds x ∷ (parts (local_term_of u) ++ parts (local_term_of body)))) same
    ∙ ap (λ (u : LocalTerm). old ++ (Binds x ∷ (parts (local_term_of a.value) ++ parts (local_term_of u)))) alike
    ∙ ap (λ (u : local.LocalTerm). old ++ parts u) (sym (ap local_term_of is ∙ local_term_of-Let x a b))

pub case_parts : (old mid new : List Part) (t scrutinee : LocalTerm) (mode : Mode) (s : Box LocalTerm Global) (rows : Vec (Pattern × LocalTerm) Global)
    (alternatives : List (Pattern × LocalTerm)) → t ≡ term.Case mode s rows → scrutinee ≡ s.value → alternatives ≡ rows.items
    → mid ≡ old ++ parts (local_term_of scrutinee) → new ≡ mid ++ alternative_parts (local_alternatives_of alternatives)
    → new ≡ old ++ parts (local_term_of t)
case_parts old mid new t scrutinee mode s rows alternatives is same as_rows p q =
    q ∙ ap (λ (x : List Part). x ++ alternative_parts (local_alternatives_of alternatives)) p
    ∙ append_assoc old (parts (local_term_of scrutinee)) (alternative_parts (local_alternatives_of alternatives))
    ∙ ap (λ (x : LocalTerm). old ++ (parts (local_term_of x) ++ alternative_parts (local_alternatives_of alternatives))) same
    ∙ ap (λ (x : List (Pattern × LocalTerm)). old ++ (parts (local_term_of s.value) ++ alternative_parts (local_alternatives_of x))) as_rows
    ∙ ap (λ (x : local.LocalTerm). old ++ parts x) (sym (ap local_term_of is ∙ local_term_of-Case mode s rows))
