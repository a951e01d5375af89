-- What terms before lifting use and don't bind, one form at a time.
use Rattle.std.proofs.Common.{◌≡◌, ℕ, Bool, List, ◌++◌, ap, sym, ◌∙◌, append_assoc}
use Rattle.std.proofs.lemmas.List.{append-nil}
use Rattle.std.specs.declared.alloc.Global.{Global}
use Rattle.std.specs.declared.boxed.Box.{Box}
use Rattle.std.specs.declared.vec.Vec.{Vec}
use Rattle.cu_calculus.specs.Valid.{also}
use Rattle.cu_calculus.specs.declared.Lit.{Lit}
use Rattle.cu_calculus.specs.declared.Mode.{Mode}
use Rattle.cu_kernel.specs.LocalTerm as local
use Rattle.cu_kernel.specs.LocalTermsOf.{local_alternatives_of, local_term_of, local_term_of-Case, local_term_of-Let, local_term_of-Lit}
use Rattle.cu_kernel.specs.declared.local.LocalTerm.TheVariants as term
use Rattle.cu_kernel.specs.declared.local.LocalTerm.{LocalTerm}
use Rattle.cu_kernel.specs.declared.term.Pattern.{Pattern}
use Rattle.cu_parts.specs.Inside.FreeUses.{free_in_alternatives, free_uses}

pub literal_free : (bound : ℕ → Bool) (xs : List ℕ) (t : LocalTerm) (l : Lit) → t ≡ term.Lit l → xs ≡ xs ++ free_uses bound (local_term_of t)
literal_free bound xs t l is =
    sym (append-nil xs) ∙ ap (λ (u : local.LocalTerm). xs ++ free_uses bound u) (sym (ap local_term_of is ∙ local_term_of-Lit l))

pub let_free : (bound : ℕ → Bool) (old mid new : List ℕ) (t value body : LocalTerm) (x : ℕ) (a b : Box LocalTerm Global) → t ≡ term.Let x a b
    → value ≡ a.value → body ≡ b.value → mid ≡ old ++ free_uses bound (local_term_of value)
    → new ≡ mid ++ free_uses (also x bound) (local_term_of body) → new ≡ old ++ free_uses bound (local_term_of t)
let_free bound old mid new t value body x a b is same alike p q =
    q ∙ ap (λ (ys : List ℕ). ys ++ free_uses (also x bound) (local_term_of body)) p
    ∙ append_assoc old (free_uses bound (local_term_of value)) (free_uses (also x bound) (local_term_of body))
    ∙ ap (λ (u : LocalTerm). old ++ (free_uses bound (local_term_of u) ++ free_uses (also x bound) (local_term_of body))) same
    ∙ ap (λ (u : LocalTerm). old ++ (free_uses bound (local_term_of a.value) ++ free_uses (also x bound) (local_term_of u))) alike
    ∙ ap (λ (u : local.LocalTerm). old ++ free_uses bound u) (sym (ap local_term_of is ∙ local_term_of-Let x a b))

pub case_free : (bound : ℕ → Bool) (old mid new : List ℕ) (t scrutinee : LocalTerm) (mode : Mode) (s : Box LocalTerm Global)
    (rows : Vec (Pattern × LocalTerm) Global) (alternatives : List (Pattern × LocalTerm)) → t ≡ term.Case mode s rows → scrutinee ≡ s.value
    → alternatives ≡ rows.items → mid ≡ old ++ free_uses bound (local_term_of scrutinee)
    → new ≡ mid ++ free_in_alternatives bound (local_alternatives_of alternatives) → new ≡ old ++ free_uses bound (local_term_of t)
case_free bound old mid new t scrutinee mode s rows alternatives is same as_rows p q =
    q ∙ ap (λ (x : List ℕ). x ++ free_in_alternatives bound (local_alternatives_of alternatives)) p
    ∙ append_assoc old (free_uses bound (local_term_of scrutinee)) (free_in_alternatives bound (local_alternatives_of alternatives))
    ∙ ap (λ (x : LocalTerm). old ++ (free_uses bound (local_term_of x) ++ free_in_alternatives bound (local_alternatives_of alternatives))) same
    ∙ ap (λ (x : List (Pattern × LocalTerm)). old ++ (free_uses bound (local_term_of s.value) ++ free_in_alternatives bound (local_alternatives_of x))) as_rows
    ∙ ap (λ (x : local.LocalTerm). old ++ free_uses bound x) (sym (ap local_term_of is ∙ local_term_of-Case mode s rows))
