-- The patterns for arguments, by the variants of patterns, and those of a specialized row.
use Rattle.std.proofs.Common.{◌≡◌, ℕ, zero, suc, ◌+◌, ◌-◌, ◌<◌, ◌≤◌, List, [], ◌∷◌, ◌++◌, Option, None, Some, drop, take, map, length, length-drop, get_or, option_map, slice_get, append-nil, refl, ap, ap₂, sym, ◌∙◌, arith}
use Rattle.std.proofs.lemmas.List.{drop-map, map-append, take-map}
use Rattle.std.proofs.lemmas.Option.{slice_get-map, slice_get_read}
use Rattle.std.specs.declared.alloc.Global.{Global}
use Rattle.std.specs.declared.vec.Vec.{Vec}
use denote.Ref.{Bor}
use Rattle.cu_calculus.specs.Choose.{arguments_of, list_patterns, spliced}
use Rattle.cu_calculus.specs.Term as clean
use Rattle.cu_calculus.specs.declared.ConId.{ConId}
use Rattle.cu_calculus.specs.declared.Lit.{Lit}
use Rattle.cu_kernel.specs.TermsOf.{pattern_of, pattern_of-Con, pattern_of-Lit, patterns_of}
use Rattle.cu_kernel.specs.declared.term.Pattern.TheVariants as pattern
use Rattle.cu_kernel.specs.declared.term.Pattern.{Pattern}
use Rattle.cu_matrix.specs.Meaning.{arguments_at, patterns_at}

-- ---- the patterns for arguments

pub literal_arguments : (p : Pattern) (l : Lit) (n : ℕ) (ps : List clean.Pattern) → p ≡ pattern.Lit l → ps ≡ ps ++ arguments_of n (pattern_of p)
literal_arguments p l n ps is = rw (is, pattern_of-Lit l, append-nil ps) refl

listed : (qs : List Pattern) → map pattern_of qs ≡ list_patterns (patterns_of qs)
listed [] = refl
listed (q ∷ qs) = ap (λ rest. pattern_of q ∷ rest) (listed qs)

pub built_arguments : (p : Pattern) (c : ConId) (qs : Vec Pattern Global) (us : List Pattern) (n : ℕ) → p ≡ pattern.Con c qs → us ≡ qs.items
    → map pattern_of us ≡ arguments_of n (pattern_of p)
built_arguments p c qs us n is same =
    ap (map pattern_of) same ∙ listed qs.items ∙ sym (ap (arguments_of n) (ap pattern_of is ∙ pattern_of-Con c qs))

-- ---- the patterns of a specialized row

take_all : {A : Type 0} (n : ℕ) (xs : List A) → length xs ≤ n → take n xs ≡ xs
take_all zero [] h = refl
take_all zero (x ∷ xs) h = absurd (omega arith)
take_all (suc n) [] h = refl
take_all (suc n) (x ∷ xs) h = ap (λ rest. x ∷ rest) (take_all n xs (omega arith))

abbrev over : ℕ → Option clean.Pattern → List clean.Pattern
over n found = elim found [ Some p ↦ arguments_of n p | None ↦ [] ]

pub opened_here : (items : List (Bor Pattern)) (k n : ℕ) (p : Bor Pattern) (begun first mid new : List (Bor Pattern)) → k < length items
    → p ≡ get_or items k p → begun ≡ [] → first ≡ begun ++ take k items → patterns_at mid ≡ patterns_at first ++ arguments_of n (pattern_of p.now)
    → new ≡ mid ++ take (length items - (k + 1)) (drop (k + 1) items)
    → patterns_at new ≡ spliced k (arguments_at n k (patterns_at items)) (patterns_at items)
opened_here items k n p begun first mid new below is none prefix middle all =
    let at = λ (q : Bor Pattern). pattern_of q.now in
    let ps = patterns_at items in
    let beginning : patterns_at first ≡ take k ps =
    ap patterns_at (prefix ∙ ap (λ (xs : List (Bor Pattern)). xs ++ take k items) none) ∙ sym (take-map at k items) in
    let rest : take (length items - (k + 1)) (drop (k + 1) items) ≡ drop (k + 1) items =
    take_all (length items - (k + 1)) (drop (k + 1) items) (omega (arith, length-drop (k + 1) items)) in
    let found : slice_get ps k ≡ Some (pattern_of p.now) =
    slice_get-map at items k ∙ ap (option_map at) (slice_get_read items (length items) k p refl below is) in
    ap patterns_at all ∙ map-append at mid (take (length items - (k + 1)) (drop (k + 1) items))
    ∙ ap₂ (λ (xs ys : List clean.Pattern). xs ++ ys)
    (middle ∙ ap₂ (λ (xs ys : List clean.Pattern). xs ++ ys) beginning (sym (ap (over n) found)))
    (ap patterns_at rest ∙ sym (drop-map at (k + 1) items))
