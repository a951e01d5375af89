-- Terms and branches that are laid out one after the other: what was laid out, and what is left.
use Rattle.std.proofs.Common.{◌≡◌, ℕ, ◌+◌, Bool, true, false, ◌||◌, ◌&&◌, List, [], ◌∷◌, ◌++◌, IsTrue, filter, length, refl, ap, sym, subst, ◌∙◌, append-nil, append_assoc, map}
use Rattle.std.proofs.lemmas.Bool.{and_parts}
use Rattle.cu_calculus.specs.declared.ExprId.{ExprId}
use Rattle.cu_calculus.specs.Code.{Branch, Expr, Shallow}
use Rattle.cu_calculus.specs.Flat.{are_flat_alternatives, are_flat_terms, is_flat_term, is_shallow}
use Rattle.cu_calculus.specs.Term as term
use Rattle.cu_calculus.specs.Term.{Alternatives, Pattern, Term, Terms}
use Rattle.cu_calculus.specs.Valid.{variables_of}
use Rattle.cu_flat.specs.Inside.Laid.{AreLaid, BranchesAreLaid, IsLaid, IsLaidUnder}
use Rattle.cu_flat.specs.Layout.{beside, binding, branch_layouts, branches, branches_use, layout, layouts, place, places, shallow_of, size, some_uses, uses}
use Rattle.cu_flat.specs.Meaning.{branch_meaning, pattern_meaning}
use Rattle.cu_flat.specs.declared.expr.Pattern.{Pattern as FlatPattern}
use Rattle.std.proofs.lemmas.List.{map-append}
use Rattle.cu_flat.proofs.Lengths.{length-layout}
use Rattle.cu_flat.proofs.Laying.{next-begins}

or_assoc : (a b c : Bool) → ((a || b) || c) ≡ (a || (b || c))
or_assoc true b c = refl
or_assoc false b c = refl

or_none : (a : Bool) → (a || false) ≡ a
or_none true = refl
or_none false = refl

-- tests that agree pass the same
filter-same : (p q : ℕ → Bool) → ((x : ℕ) → p x ≡ q x) → (xs : List ℕ) → filter p xs ≡ filter q xs
filter-same p q same [] = refl
filter-same p q same (x ∷ xs) = rw (same x, filter-same p q same xs) refl

pub filter-none : (xs : List ℕ) → [] ≡ filter (λ x. false) xs
filter-none [] = refl
filter-none (x ∷ xs) = filter-none xs

-- What was laid out of some terms, and those that are left: they are flat, and all together come to
-- what all terms come to.
pub record TermsLeft (scope : List ℕ) (ts rest : Terms) (old new : List Expr) (at : List ExprId) (used : List ℕ) : Type 0 where
  pub flat : IsTrue (are_flat_terms rest)
  pub found : ℕ → Bool
  pub used_of : used ≡ filter found scope
  pub uses_all : (x : ℕ) → (found x || some_uses rest x) ≡ some_uses ts x
  pub places_all : at ++ places (length new) rest ≡ places (length old) ts
  pub written : new ++ layouts (length new) scope rest ≡ old ++ layouts (length old) scope ts

pub TermsLeft-start : (scope : List ℕ) (ts : Terms) (old : List Expr) (at : List ExprId) (used : List ℕ) → IsTrue (are_flat_terms ts)
    → at ≡ [] → used ≡ [] → TermsLeft scope ts ts old old at used
TermsLeft-start scope ts old at used plain no_places no_uses = record {
  flat = plain;
  found = λ x. false;
  used_of = no_uses ∙ filter-none scope;
  uses_all = λ x. refl;
  places_all = ap (λ (es : List ExprId). es ++ places (length old) ts) no_places;
  written = refl;
}

pub TermsLeft-flat : (scope : List ℕ) (ts rest : Terms) (t : Term) (others : Terms) (old new : List Expr) (at : List ExprId) (used : List ℕ)
    → rest ≡ term.MoreTerms t others → TermsLeft scope ts rest old new at used → IsTrue (is_flat_term t)
TermsLeft-flat scope ts rest t others old new at used is left =
    (and_parts (is_flat_term t) (are_flat_terms others) (subst (λ (r : Terms). IsTrue (are_flat_terms r)) is left.flat)).0

pub TermsLeft-more : (scope : List ℕ) (ts rest : Terms) (t : Term) (others : Terms) (old new newer : List Expr) (at more : List ExprId)
    (used mine both : List ℕ) (p : ExprId) → rest ≡ term.MoreTerms t others → TermsLeft scope ts rest old new at used
    → IsLaid scope t new newer p mine → more ≡ at ++ p ∷ []
    → ((p q : ℕ → Bool) → used ≡ filter p scope → mine ≡ filter q scope → both ≡ filter (λ x. p x || q x) scope)
    → TermsLeft scope ts others old newer more both
TermsLeft-more scope ts rest t others old new newer at more used mine both p is left laid is_more merged =
    let n = length new in
    let xs = layout n scope t in
    let next : length newer ≡ n + size t = next-begins new newer xs (size t) laid.written (length-layout n scope t) in
    record {
      flat = (and_parts (is_flat_term t) (are_flat_terms others) (subst (λ (r : Terms). IsTrue (are_flat_terms r)) is left.flat)).1;
      found = λ x. left.found x || uses t x;
      used_of = merged left.found (uses t) left.used_of laid.used_of;
      uses_all = λ x. or_assoc (left.found x) (uses t x) (some_uses others x) ∙ sym (ap (λ r. left.found x || some_uses r x) is) ∙ left.uses_all x;
      places_all = ap (λ (es : List ExprId). es ++ places (length newer) others) is_more
          ∙ append_assoc at (p ∷ []) (places (length newer) others)
          ∙ ap (λ e. at ++ e ∷ places (length newer) others) laid.place
          ∙ ap (λ k. at ++ place n t ∷ places k others) next
          ∙ sym (ap (λ r. at ++ places n r) is) ∙ left.places_all;
      written = ap (λ (es : List Expr). es ++ layouts (length newer) scope others) laid.written
          ∙ append_assoc new xs (layouts (length newer) scope others)
          ∙ ap (λ k. new ++ (xs ++ layouts k scope others)) next
          ∙ sym (ap (λ r. new ++ layouts n scope r) is) ∙ left.written;
    }

pub TermsLeft-all : (scope : List ℕ) (ts rest : Terms) (old new : List Expr) (at : List ExprId) (used : List ℕ) → rest ≡ term.NoTerm
    → TermsLeft scope ts rest old new at used → AreLaid scope ts old new at used
TermsLeft-all scope ts rest old new at used is left = record {
  places = sym (append-nil at) ∙ sym (ap (λ r. at ++ places (length new) r) is) ∙ left.places_all;
  used_of = left.used_of
      ∙ filter-same left.found (some_uses ts)
      (λ x. sym (or_none (left.found x)) ∙ sym (ap (λ r. left.found x || some_uses r x) is) ∙ left.uses_all x) scope;
  written = sym (append-nil new) ∙ sym (ap (λ r. new ++ layouts (length new) scope r) is) ∙ left.written;
}

-- What was laid out of some branches, and those that are left.
pub record BranchesLeft (scope : List ℕ) (alternatives rest : Alternatives) (old new : List Expr) (made : List Branch) (used : List ℕ)
    : Type 0 where
  pub flat : IsTrue (are_flat_alternatives rest)
  pub found : ℕ → Bool
  pub used_of : used ≡ filter found scope
  pub uses_all : (x : ℕ) → (found x || branches_use rest x) ≡ branches_use alternatives x
  pub branches_all : made ++ branches (length new) rest ≡ branches (length old) alternatives
  pub written : new ++ branch_layouts (length new) scope rest ≡ old ++ branch_layouts (length old) scope alternatives

pub BranchesLeft-start : (scope : List ℕ) (alternatives : Alternatives) (old : List Expr) (made : List Branch) (used : List ℕ)
    → IsTrue (are_flat_alternatives alternatives) → made ≡ [] → used ≡ [] → BranchesLeft scope alternatives alternatives old old made used
BranchesLeft-start scope alternatives old made used plain no_branches no_uses = record {
  flat = plain;
  found = λ x. false;
  used_of = no_uses ∙ filter-none scope;
  uses_all = λ x. refl;
  branches_all = ap (λ (bs : List Branch). bs ++ branches (length old) alternatives) no_branches;
  written = refl;
}

pub BranchesLeft-flat : (scope : List ℕ) (alternatives rest : Alternatives) (p : Pattern) (t : Term) (others : Alternatives)
    (old new : List Expr) (made : List Branch) (used : List ℕ) → rest ≡ term.MoreAlternatives p t others
    → BranchesLeft scope alternatives rest old new made used → IsTrue (is_shallow p) × IsTrue (is_flat_term t)
BranchesLeft-flat scope alternatives rest p t others old new made used is left =
    and_parts (is_shallow p) (is_flat_term t)
    (and_parts (is_shallow p && is_flat_term t) (are_flat_alternatives others)
    (subst (λ (r : Alternatives). IsTrue (are_flat_alternatives r)) is left.flat)).0

pub BranchesLeft-more : (scope : List ℕ) (alternatives rest : Alternatives) (p : Pattern) (t : Term) (others : Alternatives)
    (old new newer : List Expr) (made more : List Branch) (used mine both bound : List ℕ) (e : ExprId)
    → rest ≡ term.MoreAlternatives p t others → BranchesLeft scope alternatives rest old new made used → bound ≡ variables_of p
    → IsLaidUnder scope bound t new newer e mine → more ≡ made ++ record { pattern = shallow_of p; body = e } ∷ []
    → ((p q : ℕ → Bool) → used ≡ filter p scope → mine ≡ filter q scope → both ≡ filter (λ x. p x || q x) scope)
    → BranchesLeft scope alternatives others old newer more both
BranchesLeft-more scope alternatives rest p t others old new newer made more used mine both bound e is left binds laid is_more merged =
    let n = length new in
    let xs = layout n (binding (variables_of p) scope) t in
    let own : ℕ → Bool = λ x. beside (variables_of p) x && uses t x in
    let here : newer ≡ new ++ xs = laid.written ∙ ap (λ ys. new ++ layout n (binding ys scope) t) binds in
    let next : length newer ≡ n + size t = next-begins new newer xs (size t) here (length-layout n (binding (variables_of p) scope) t) in
    record {
      flat = (and_parts (is_shallow p && is_flat_term t) (are_flat_alternatives others)
          (subst (λ (r : Alternatives). IsTrue (are_flat_alternatives r)) is left.flat)).1;
      found = λ x. left.found x || own x;
      used_of = merged left.found own left.used_of (laid.used_of ∙ ap (λ ys. filter (λ x. beside ys x && uses t x) scope) binds);
      uses_all = λ x. or_assoc (left.found x) (own x) (branches_use others x) ∙ sym (ap (λ r. left.found x || branches_use r x) is) ∙ left.uses_all x;
      branches_all = ap (λ (bs : List Branch). bs ++ branches (length newer) others) is_more
          ∙ append_assoc made (record { pattern = shallow_of p; body = e } ∷ []) (branches (length newer) others)
          ∙ ap (λ b. made ++ record { pattern = shallow_of p; body = b } ∷ branches (length newer) others) laid.place
          ∙ ap (λ k. made ++ record { pattern = shallow_of p; body = place n t } ∷ branches k others) next
          ∙ sym (ap (λ r. made ++ branches n r) is) ∙ left.branches_all;
      written = ap (λ (es : List Expr). es ++ branch_layouts (length newer) scope others) here
          ∙ append_assoc new xs (branch_layouts (length newer) scope others)
          ∙ ap (λ k. new ++ (xs ++ branch_layouts k scope others)) next
          ∙ sym (ap (λ r. new ++ branch_layouts n scope r) is) ∙ left.written;
    }

pub BranchesLeft-all : (scope : List ℕ) (alternatives rest : Alternatives) (old new : List Expr) (made : List Branch) (used : List ℕ)
    → rest ≡ term.NoAlternative → BranchesLeft scope alternatives rest old new made used → BranchesAreLaid scope alternatives old new made used
BranchesLeft-all scope alternatives rest old new made used is left = record {
  branches = sym (append-nil made) ∙ sym (ap (λ r. made ++ branches (length new) r) is) ∙ left.branches_all;
  used_of = left.used_of
      ∙ filter-same left.found (branches_use alternatives)
      (λ x. sym (or_none (left.found x)) ∙ sym (ap (λ r. left.found x || branches_use r x) is) ∙ left.uses_all x) scope;
  written = sym (append-nil new) ∙ sym (ap (λ r. new ++ branch_layouts (length new) scope r) is) ∙ left.written;
}

-- a branch is pushed with what it stands for
pub branch-pushed : (new old : List (FlatPattern × ExprId)) (made : FlatPattern) (e : ExprId) (p : Pattern) → new ≡ old ++ (made, e) ∷ []
    → pattern_meaning made ≡ shallow_of p
    → map branch_meaning new ≡ map branch_meaning old ++ record { pattern = shallow_of p; body = e } ∷ []
branch-pushed new old made e p is same =
    ap (map branch_meaning) is ∙ map-append branch_meaning old ((made, e) ∷ [])
    ∙ ap (λ (s : Shallow). map branch_meaning old ++ record { pattern = s; body = e } ∷ []) same
