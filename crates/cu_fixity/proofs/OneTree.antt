-- Items have at most one tree whose operands fit.
use Rattle.std.specs.Prelude.{◌≡◌, ℕ, ◌+◌, ◌≤◌, true, List, [], ◌∷◌, ◌++◌, Option, None, Some, length, refl}
use Rattle.std.proofs.Common.{ap, ap₂, arith, sym, ◌∙◌, length-append}
use Rattle.std.proofs.lemmas.Bool.{and_parts}
use Rattle.cu_fixity.specs.declared.fixity.Fixity.{Fixity}
use Rattle.cu_fixity.specs.Grouping.{Applied, Between, Infix, Leaf, Tree, fits_after, flatten, is_grouped, top}
use Rattle.cu_fixity.specs.Ranges.{Candidate, root}
use Rattle.cu_fixity.proofs.Roots.{fitting, root_found}

-- lists that are alike, with prefixes of one length
pub split_alike : {A : Type 0} (xs us ys vs : List A) → length xs ≡ length us → xs ++ ys ≡ us ++ vs → (xs ≡ us) × (ys ≡ vs)
split_alike [] [] ys vs n e = (refl, e)
split_alike [] (u ∷ us) ys vs n e = absurd (omega (arith, n))
split_alike (x ∷ xs) [] ys vs n e = absurd (omega (arith, n))
split_alike (x ∷ xs) (u ∷ us) ys vs n e =
    let head : x ≡ u = cc in
    let rest : xs ++ ys ≡ us ++ vs = cc in
    let p = split_alike xs us ys vs (omega (arith, n)) rest
    in (ap₂ (λ a bs. a ∷ bs) head p.0, p.1)

pub never_empty : {A O : Type 0} (t : Tree A O) → 1 ≤ length (flatten t)
never_empty (Leaf a) = omega arith
never_empty (Applied o t) = omega arith
never_empty (Between l o r) = omega (arith, length-append (flatten l) (Infix o ∷ flatten r))

abbrev pub place : {O : Type 0} → Option (Candidate O) → ℕ
place None = 0
place (Some c) = c.at

pub one_tree : {A O : Type 0} (fixity : O → Fixity) (t u : Tree A O) → is_grouped fixity t ≡ true → is_grouped fixity u ≡ true → flatten t ≡ flatten u → t ≡ u
one_tree fixity (Leaf a) (Leaf b) d e h = let same : a ≡ b = cc in ap Leaf same
one_tree fixity (Applied o t) (Applied p u) d e h =
    let same : o ≡ p = cc in
    let rest : flatten t ≡ flatten u = cc in
    ap₂ Applied same (one_tree fixity t u (and_parts (fits_after fixity o (top t)) (is_grouped fixity t) d).1
    (and_parts (fits_after fixity p (top u)) (is_grouped fixity u) e).1 rest)
one_tree fixity (Between l o r) (Between m p s) d e h =
    let f = fitting fixity l o r d in
    let g = fitting fixity m p s e in
    let roots = sym (root_found fixity (Between l o r) 0 d) ∙ ap (root fixity 0 None) h ∙ root_found fixity (Between m p s) 0 e in
    let places : 0 + length (flatten l) ≡ 0 + length (flatten m) = ap place roots in
    let parts = split_alike (flatten l) (flatten m) (Infix o ∷ flatten r) (Infix p ∷ flatten s) (omega (arith, places)) h in
    let same : o ≡ p = let k = parts.1 in cc in
    let rest : flatten r ≡ flatten s = let k = parts.1 in cc in
    let lefts = one_tree fixity l m f.on_left g.on_left parts.0 in
    let rights = one_tree fixity r s f.on_right g.on_right rest in
    rw (lefts, same, rights) refl
one_tree fixity (Leaf a) (Applied p u) d e h = absurd cc
one_tree fixity (Applied o t) (Leaf b) d e h = absurd cc
one_tree fixity (Leaf a) (Between m p s) d e h =
    let k = sym (root_found fixity (Leaf a) 0 d) ∙ ap (root fixity 0 None) h ∙ root_found fixity (Between m p s) 0 e in let no : ⊥ = cc in absurd no
one_tree fixity (Between l o r) (Leaf b) d e h =
    let k = sym (root_found fixity (Between l o r) 0 d) ∙ ap (root fixity 0 None) h ∙ root_found fixity (Leaf b) 0 e in let no : ⊥ = cc in absurd no
one_tree fixity (Applied o t) (Between m p s) d e h =
    let k = sym (root_found fixity (Applied o t) 0 d) ∙ ap (root fixity 0 None) h ∙ root_found fixity (Between m p s) 0 e in
    let places : 0 ≡ 0 + length (flatten m) = ap place k in absurd (omega (arith, places, never_empty m))
one_tree fixity (Between l o r) (Applied p u) d e h =
    let k = sym (root_found fixity (Between l o r) 0 d) ∙ ap (root fixity 0 None) h ∙ root_found fixity (Applied p u) 0 e in
    let places : 0 + length (flatten l) ≡ 0 = ap place k in absurd (omega (arith, places, never_empty l))
