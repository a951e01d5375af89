-- What terms before lifting bind, one form at a time.
use Rattle.std.proofs.Common.{◌≡◌, ℕ, List, [], ◌∷◌, ◌++◌, ap, sym, ◌∙◌, append_assoc}
use Rattle.std.specs.declared.alloc.Global.{Global}
use Rattle.std.specs.declared.boxed.Box.{Box}
use Rattle.std.specs.declared.vec.Vec.{Vec}
use Rattle.std.proofs.lemmas.List.{append-nil}
use Rattle.cu_calculus.specs.declared.Lit.{Lit}
use Rattle.cu_calculus.specs.declared.Mode.{Mode}
use Rattle.cu_kernel.specs.LocalTerm as local
use Rattle.cu_kernel.specs.LocalTermsOf.{local_alternatives_of, local_term_of, local_term_of-Case, local_term_of-Free, local_term_of-Let, local_term_of-Lit, local_term_of-Var}
use Rattle.cu_kernel.specs.LocalValid.{alternative_binders, binders}
use Rattle.cu_kernel.specs.declared.local.LocalTerm.TheVariants as term
use Rattle.cu_kernel.specs.declared.local.LocalTerm.{LocalTerm}
use Rattle.cu_kernel.specs.declared.term.Pattern.{Pattern}

one_then : (old mid new rest : List ℕ) (x : ℕ) → mid ≡ old ++ x ∷ [] → new ≡ mid ++ rest → new ≡ old ++ (x ∷ rest)
one_then old mid new rest x p q = q ∙ ap (λ xs. xs ++ rest) p ∙ append_assoc old (x ∷ []) rest

pub variable_binders : (xs : List ℕ) (t : LocalTerm) (x : ℕ) → t ≡ term.Var x → xs ≡ xs ++ binders (local_term_of t)
variable_binders xs t x is =
    sym (append-nil xs) ∙ ap (λ (u : local.LocalTerm). xs ++ binders u) (sym (ap local_term_of is ∙ local_term_of-Var x))

pub literal_binders : (xs : List ℕ) (t : LocalTerm) (l : Lit) → t ≡ term.Lit l → xs ≡ xs ++ binders (local_term_of t)
literal_binders xs t l is =
    sym (append-nil xs) ∙ ap (λ (u : local.LocalTerm). xs ++ binders u) (sym (ap local_term_of is ∙ local_term_of-Lit l))

pub free_binders : (old mid new : List ℕ) (t body : LocalTerm) (x : ℕ) (b : Box LocalTerm Global) → t ≡ term.Free x b → body ≡ b.value
    → mid ≡ old ++ x ∷ [] → new ≡ mid ++ binders (local_term_of body) → new ≡ old ++ binders (local_term_of t)
free_binders old mid new t body x b is same first rest =
    one_then old mid new (binders (local_term_of body)) x first rest
    ∙ ap (λ (u : LocalTerm). old ++ (x ∷ binders (local_term_of u))) same
    ∙ ap (λ (u : local.LocalTerm). old ++ binders u) (sym (ap local_term_of is ∙ local_term_of-Free x b))

pub let_binders : (old mid new : List ℕ) (t value body : LocalTerm) (x : ℕ) (a b : Box LocalTerm Global) → t ≡ term.Let x a b → value ≡ a.value → body ≡ b.value
    → mid ≡ old ++ x ∷ [] → new ≡ mid ++ (binders (local_term_of value) ++ binders (local_term_of body)) → new ≡ old ++ binders (local_term_of t)
let_binders old mid new t value body x a b is same alike first rest =
    one_then old mid new (binders (local_term_of value) ++ binders (local_term_of body)) x first rest
    ∙ ap (λ (u : LocalTerm). old ++ (x ∷ (binders (local_term_of u) ++ binders (local_term_of body)))) same
    ∙ ap (λ (u : LocalTerm). old ++ (x ∷ (binders (local_term_of a.value) ++ binders (local_term_of u)))) alike
    ∙ ap (λ (u : local.LocalTerm). old ++ binders u) (sym (ap local_term_of is ∙ local_term_of-Let x a b))

pub case_binders : (old mid new : List ℕ) (t scrutinee : LocalTerm) (mode : Mode) (s : Box LocalTerm Global) (rows : Vec (Pattern × LocalTerm) Global)
    (alternatives : List (Pattern × LocalTerm)) → t ≡ term.Case mode s rows → scrutinee ≡ s.value → alternatives ≡ rows.items
    → mid ≡ old ++ binders (local_term_of scrutinee) → new ≡ mid ++ alternative_binders (local_alternatives_of alternatives)
    → new ≡ old ++ binders (local_term_of t)
case_binders old mid new t scrutinee mode s rows alternatives is same as_rows p q =
    q ∙ ap (λ (x : List ℕ). x ++ alternative_binders (local_alternatives_of alternatives)) p
    ∙ append_assoc old (binders (local_term_of scrutinee)) (alternative_binders (local_alternatives_of alternatives))
    ∙ ap (λ (x : LocalTerm). old ++ (binders (local_term_of x) ++ alternative_binders (local_alternatives_of alternatives))) same
    ∙ ap (λ (x : List (Pattern × LocalTerm)). old ++ (binders (local_term_of s.value) ++ alternative_binders (local_alternatives_of x))) as_rows
    ∙ ap (λ (x : local.LocalTerm). old ++ binders x) (sym (ap local_term_of is ∙ local_term_of-Case mode s rows))
