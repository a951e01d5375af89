-- The variables of declared types are rigid: where some solution keeps to the declared types, a most general one does.
use Rattle.std.proofs.Common.{◌≡◌, ℕ, ◌+◌, ◌⊎◌, inl, inr, Bool, true, false, ◌||◌, IsTrue, List, [], ◌∷◌, ◌++◌, nat_eq, refl, sym, ap, ◌∙◌, subst}
use Rattle.std.proofs.lemmas.Bool.{eq-eqb, eqb-true}
use Rattle.cu_calculus.specs.Valid.{holds}
use Rattle.cu_kernel.specs.TypeExpr as type
use Rattle.cu_kernel.specs.TypeExpr.{TypeExpr, TypeExprs}
use Rattle.cu_types.specs.Equations.{Member}
use Rattle.cu_types.specs.Inference.{KeepsDeclared}
use Rattle.cu_types.specs.Numbered.{variables_in, variables_in_all}
use Rattle.cu_types.specs.Types.{Substitution, apply, apply_all}
use Rattle.cu_types.specs.Unification.{Equation, IsMostGeneral, Solves}

-- ---- lists that hold a number

pub either_true : (a b : Bool) → IsTrue (a || b) → IsTrue a ⊎ IsTrue b
either_true true b h = inl refl
either_true false b h = inr h

pub left_true : (a b : Bool) → IsTrue a → IsTrue (a || b)
left_true true b h = refl
left_true false b h = let no : ⊥ = cc in absurd no

pub right_true : (a b : Bool) → IsTrue b → IsTrue (a || b)
right_true true b h = refl
right_true false b h = h

pub holds_either : (y : ℕ) (xs ys : List ℕ) → IsTrue (holds y (xs ++ ys)) → IsTrue (holds y xs) ⊎ IsTrue (holds y ys)
holds_either y [] ys h = inr h
holds_either y (x ∷ xs) ys h = elim (either_true (nat_eq y x) (holds y (xs ++ ys)) h) [
  | inl first ↦ inl (left_true (nat_eq y x) (holds y xs) first)
  | inr rest ↦ elim (holds_either y xs ys rest) [ inl l ↦ inl (right_true (nat_eq y x) (holds y xs) l) | inr r ↦ inr r ]
]

pub holds_left : (y : ℕ) (xs ys : List ℕ) → IsTrue (holds y xs) → IsTrue (holds y (xs ++ ys))
holds_left y [] ys h = let no : ⊥ = cc in absurd no
holds_left y (x ∷ xs) ys h = elim (either_true (nat_eq y x) (holds y xs) h) [
  | inl first ↦ left_true (nat_eq y x) (holds y (xs ++ ys)) first
  | inr rest ↦ right_true (nat_eq y x) (holds y (xs ++ ys)) (holds_left y xs ys rest)
]

pub holds_right : (y : ℕ) (xs ys : List ℕ) → IsTrue (holds y ys) → IsTrue (holds y (xs ++ ys))
holds_right y [] ys h = h
holds_right y (x ∷ xs) ys h = right_true (nat_eq y x) (holds y (xs ++ ys)) (holds_right y xs ys h)

holds_one : (y x : ℕ) → IsTrue (holds y (x ∷ [])) → y ≡ x
holds_one y x h = elim (either_true (nat_eq y x) false h) [
  | inl same ↦ eqb-true y x same
  | inr none ↦ let no : ⊥ = cc in absurd no
]

pub holds_itself : (x : ℕ) → IsTrue (holds x (x ∷ []))
holds_itself x = left_true (nat_eq x x) false (eq-eqb x x refl)

-- ---- substitutions

-- only a variable becomes a variable
variable_of : (ρ : Substitution) (t : TypeExpr) (y : ℕ) → apply ρ t ≡ type.Variable y → (z : ℕ) × (t ≡ type.Variable z)
variable_of ρ (type.Variable z) y is = (z, refl)
variable_of ρ (type.Arrow a b) y is = let no : ⊥ = cc in absurd no
variable_of ρ (type.Named n ts) y is = let no : ⊥ = cc in absurd no

-- a variable that becomes another one is that wherever it stands
mutual
  pub becomes : (ρ : Substitution) (y z : ℕ) (t : TypeExpr) → ρ y ≡ type.Variable z → IsTrue (holds y (variables_in t))
      → IsTrue (holds z (variables_in (apply ρ t)))
  becomes ρ y z (type.Variable x) is h =
      let here : ρ x ≡ type.Variable z = ap ρ (sym (holds_one y x h)) ∙ is in
      subst (λ (t : TypeExpr). IsTrue (holds z (variables_in t))) (sym here) (holds_itself z)
  becomes ρ y z (type.Arrow a b) is h = elim (holds_either y (variables_in a) (variables_in b) h) [
    | inl l ↦ holds_left z (variables_in (apply ρ a)) (variables_in (apply ρ b)) (becomes ρ y z a is l)
    | inr r ↦ holds_right z (variables_in (apply ρ a)) (variables_in (apply ρ b)) (becomes ρ y z b is r)
  ]
  becomes ρ y z (type.Named n ts) is h = becomes_all ρ y z ts is h

  becomes_all : (ρ : Substitution) (y z : ℕ) (ts : TypeExprs) → ρ y ≡ type.Variable z → IsTrue (holds y (variables_in_all ts))
      → IsTrue (holds z (variables_in_all (apply_all ρ ts)))
  becomes_all ρ y z type.NoType is h = let no : ⊥ = cc in absurd no
  becomes_all ρ y z (type.MoreTypes t ts) is h = elim (holds_either y (variables_in t) (variables_in_all ts) h) [
    | inl l ↦ holds_left z (variables_in (apply ρ t)) (variables_in_all (apply_all ρ ts)) (becomes ρ y z t is l)
    | inr r ↦ holds_right z (variables_in (apply ρ t)) (variables_in_all (apply_all ρ ts)) (becomes_all ρ y z ts is r)
  ]

-- ---- solutions that keep to the declared types

kept_by : (σ τ ρ : Substitution) (ms : List Member) → ((x : ℕ) → τ x ≡ apply ρ (σ x)) → KeepsDeclared τ ms → KeepsDeclared σ ms
kept_by σ τ ρ ms is keeps = record {
  variable = λ x g.
      let found = keeps.variable x g in
      variable_of ρ (σ x) found.0 (sym (is x) ∙ found.1);
  distinct = λ x y g h e. keeps.distinct x y g h (is x ∙ ap (apply ρ) e ∙ sym (is y));
  absent = λ k x y i m at d e less h.
      let found = keeps.variable x (record { place = k; member = m; is_member = at; declared = d }) in
      let here : ρ y ≡ type.Variable found.0 = sym (ap (apply ρ) e) ∙ sym (is x) ∙ found.1 in
      keeps.absent k x found.0 i m at d found.1 less
      (subst (λ (t : TypeExpr). IsTrue (holds found.0 (variables_in t))) (sym (is (m.first + i)))
      (becomes ρ y found.0 (σ (m.first + i)) here h));
}

pub keeps_general : (σ τ : Substitution) (es : List Equation) (ms : List Member) → IsMostGeneral σ es → Solves τ es → KeepsDeclared τ ms
    → KeepsDeclared σ ms
keeps_general σ τ es ms general solves keeps =
    let instance = general.general τ solves in
    kept_by σ τ instance.0 ms instance.1 keeps
