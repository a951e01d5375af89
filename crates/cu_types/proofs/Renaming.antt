-- Types that differ in the names of their variables alone are the same once their variables are numbered.
use Rattle.std.proofs.Common.{◌≡◌, ℕ, ◌+◌, inl, inr, Bool, true, false, ◌||◌, not, cond, IsTrue, List, [], ◌∷◌, ◌++◌, map, nat_eq, refl, sym, ap, ◌∙◌, subst, eq-eqb}
use Rattle.std.specs.List.{position_or_len}
use Rattle.std.proofs.lemmas.Bool.{cases_eq, eqb-true, ne_eqb}
use mathlib.Core.Path.{fun_ext}
use Rattle.cu_calculus.specs.Valid.{holds}
use Rattle.cu_kernel.specs.TypeExpr as type
use Rattle.cu_kernel.specs.TypeExpr.{TypeExpr, TypeExprs}
use Rattle.cu_kernel.specs.declared.type_term.TypeName.{TypeName}
use Rattle.cu_types.proofs.RigidLemmas.{either_true, holds_itself, holds_left, holds_right}
use Rattle.cu_types.specs.Numbered.{all_noted, by_place, noted, numbered, variables_in, variables_in_all}
use Rattle.cu_types.specs.Types.{Substitution, apply, apply_all}
use Rattle.cu_types.specs.Unification.{IsInstance}

-- ---- each number of a list

abbrev pub AllOf : (ℕ → Type 0) → List ℕ → Type 0
AllOf P [] = Unit {0}
AllOf P (x ∷ xs) = P x × AllOf P xs

all_prefix : (P : ℕ → Type 0) (xs ys : List ℕ) → AllOf P (xs ++ ys) → AllOf P xs × AllOf P ys
all_prefix P [] ys all = (tt, all)
all_prefix P (x ∷ xs) ys all = let rest = all_prefix P xs ys all.1 in ((all.0, rest.0), rest.1)

all_last : (P : ℕ → Type 0) (xs : List ℕ) (y : ℕ) → AllOf P xs → P y → AllOf P (xs ++ y ∷ [])
all_last P [] y all last = (last, tt)
all_last P (x ∷ xs) y all last = (all.0, all_last P xs y all.1 last)

pub all_held : (P : ℕ → Type 0) (xs : List ℕ) → ((x : ℕ) → IsTrue (holds x xs) → P x) → AllOf P xs
all_held P [] each = tt
all_held P (y ∷ ys) each = (
  each y (holds_left y (y ∷ []) ys (holds_itself y)),
  all_held P ys (λ x h. each x (holds_right x (y ∷ []) ys h)),
)

all_both : (P : ℕ → Type 0) (xs ys : List ℕ) → AllOf P xs → AllOf P ys → AllOf P (xs ++ ys)
all_both P [] ys all more = more
all_both P (x ∷ xs) ys all more = (all.0, all_both P xs ys all.1 more)

of_all : (P : ℕ → Type 0) (xs : List ℕ) → AllOf P xs → (x : ℕ) → IsTrue (holds x xs) → P x
of_all P [] all x h = let no : ⊥ = cc in absurd no
of_all P (y ∷ ys) all x h = elim (either_true (nat_eq x y) (holds x ys) h) [
  | inl first ↦ subst P (sym (eqb-true x y first)) all.0
  | inr rest ↦ of_all P ys all.1 x rest
]

mapped_both : (r : ℕ → ℕ) (xs ys : List ℕ) → map r (xs ++ ys) ≡ map r xs ++ map r ys
mapped_both r [] ys = refl
mapped_both r (x ∷ xs) ys = ap (λ (zs : List ℕ). r x ∷ zs) (mapped_both r xs ys)

-- ---- lists of numbers that are renamed

module _ (r : ℕ → ℕ) (P : ℕ → Type 0) (one : (x y : ℕ) → P x → P y → r x ≡ r y → x ≡ y) where
  same_test : (x y : ℕ) → P x → P y → nat_eq (r x) (r y) ≡ nat_eq x y
  same_test x y p q = elim (cases_eq x y) [
    | inl same ↦ eq-eqb (r x) (r y) (ap r same) ∙ sym (eq-eqb x y same)
    | inr other ↦ ne_eqb (r x) (r y) (λ e. other (one x y p q e)) ∙ sym (ne_eqb x y other)
  ]

  same_holds : (x : ℕ) → P x → (ks : List ℕ) → AllOf P ks → holds (r x) (map r ks) ≡ holds x ks
  same_holds x p [] all = refl
  same_holds x p (k ∷ ks) all =
      ap (λ (b : Bool). b || holds (r x) (map r ks)) (same_test x k p all.0)
      ∙ ap (λ (b : Bool). nat_eq x k || b) (same_holds x p ks all.1)

  same_place : (x : ℕ) → P x → (ks : List ℕ) → AllOf P ks → position_or_len (nat_eq (r x)) (map r ks) ≡ position_or_len (nat_eq x) ks
  same_place x p [] all = refl
  same_place x p (k ∷ ks) all =
      ap (λ (b : Bool). cond (not b) (1 + position_or_len (nat_eq (r x)) (map r ks)) 0) (same_test x k p all.0)
      ∙ ap (λ (n : ℕ). cond (not (nat_eq x k)) (1 + n) 0) (same_place x p ks all.1)

  noted_by : (b : Bool) (ks : List ℕ) (x : ℕ) → cond b (map r ks) (map r ks ++ r x ∷ []) ≡ map r (cond b ks (ks ++ x ∷ []))
  noted_by true ks x = refl
  noted_by false ks x = sym (mapped_both r ks (x ∷ []))

  noted_renamed : (ks : List ℕ) (x : ℕ) → AllOf P ks → P x → noted (map r ks) (r x) ≡ map r (noted ks x)
  noted_renamed ks x all p =
      ap (λ (b : Bool). cond b (map r ks) (map r ks ++ r x ∷ [])) (same_holds x p ks all) ∙ noted_by (holds x ks) ks x

  all_by : (b : Bool) (ks : List ℕ) (x : ℕ) → AllOf P ks → P x → AllOf P (cond b ks (ks ++ x ∷ []))
  all_by true ks x all p = all
  all_by false ks x all p = all_last P ks x all p

  all_noted_all : (ks ys : List ℕ) → AllOf P ks → AllOf P ys → AllOf P (all_noted ks ys)
  all_noted_all ks [] all more = all
  all_noted_all ks (y ∷ ys) all more = all_noted_all (noted ks y) ys (all_by (holds y ks) ks y all more.0) more.1

  all_noted_renamed : (ks ys : List ℕ) → AllOf P ks → AllOf P ys → all_noted (map r ks) (map r ys) ≡ map r (all_noted ks ys)
  all_noted_renamed ks [] all more = refl
  all_noted_renamed ks (y ∷ ys) all more =
      ap (λ (zs : List ℕ). all_noted zs (map r ys)) (noted_renamed ks y all more.0)
      ∙ all_noted_renamed (noted ks y) ys (all_by (holds y ks) ks y all more.0) more.1

  -- ---- types whose variables are renamed

  mutual
    renamed_places : (ρ : Substitution) (ks : List ℕ) (t : TypeExpr) → AllOf P ks → AllOf P (variables_in t)
        → AllOf (λ x. ρ x ≡ type.Variable (r x)) (variables_in t)
        → apply (by_place (map r ks)) (apply ρ t) ≡ apply (by_place ks) t
    renamed_places ρ ks (type.Variable x) all each is =
        ap (apply (by_place (map r ks))) is.0 ∙ ap type.Variable (same_place x each.0 ks all)
    renamed_places ρ ks (type.Arrow a b) all each is =
        let ps = all_prefix P (variables_in a) (variables_in b) each in
        let rs = all_prefix (λ x. ρ x ≡ type.Variable (r x)) (variables_in a) (variables_in b) is in
        ap (λ (u : TypeExpr). type.Arrow u (apply (by_place (map r ks)) (apply ρ b))) (renamed_places ρ ks a all ps.0 rs.0)
        ∙ ap (type.Arrow (apply (by_place ks) a)) (renamed_places ρ ks b all ps.1 rs.1)
    renamed_places ρ ks (type.Named n ts) all each is = ap (type.Named n) (renamed_places_all ρ ks ts all each is)

    renamed_places_all : (ρ : Substitution) (ks : List ℕ) (ts : TypeExprs) → AllOf P ks → AllOf P (variables_in_all ts)
        → AllOf (λ x. ρ x ≡ type.Variable (r x)) (variables_in_all ts)
        → apply_all (by_place (map r ks)) (apply_all ρ ts) ≡ apply_all (by_place ks) ts
    renamed_places_all ρ ks type.NoType all each is = refl
    renamed_places_all ρ ks (type.MoreTypes t ts) all each is =
        let ps = all_prefix P (variables_in t) (variables_in_all ts) each in
        let rs = all_prefix (λ x. ρ x ≡ type.Variable (r x)) (variables_in t) (variables_in_all ts) is in
        ap (λ (u : TypeExpr). type.MoreTypes u (apply_all (by_place (map r ks)) (apply_all ρ ts))) (renamed_places ρ ks t all ps.0 rs.0)
        ∙ ap (type.MoreTypes (apply (by_place ks) t)) (renamed_places_all ρ ks ts all ps.1 rs.1)

mutual
  pub renamed_variables : (ρ : Substitution) (r : ℕ → ℕ) (t : TypeExpr) → AllOf (λ x. ρ x ≡ type.Variable (r x)) (variables_in t)
      → variables_in (apply ρ t) ≡ map r (variables_in t)
  renamed_variables ρ r (type.Variable x) is = ap variables_in is.0
  renamed_variables ρ r (type.Arrow a b) is =
      let rs = all_prefix (λ x. ρ x ≡ type.Variable (r x)) (variables_in a) (variables_in b) is in
      ap (λ (xs : List ℕ). xs ++ variables_in (apply ρ b)) (renamed_variables ρ r a rs.0)
      ∙ ap (λ (xs : List ℕ). map r (variables_in a) ++ xs) (renamed_variables ρ r b rs.1)
      ∙ sym (mapped_both r (variables_in a) (variables_in b))
  renamed_variables ρ r (type.Named n ts) is = renamed_variables_all ρ r ts is

  renamed_variables_all : (ρ : Substitution) (r : ℕ → ℕ) (ts : TypeExprs) → AllOf (λ x. ρ x ≡ type.Variable (r x)) (variables_in_all ts)
      → variables_in_all (apply_all ρ ts) ≡ map r (variables_in_all ts)
  renamed_variables_all ρ r type.NoType is = refl
  renamed_variables_all ρ r (type.MoreTypes t ts) is =
      let rs = all_prefix (λ x. ρ x ≡ type.Variable (r x)) (variables_in t) (variables_in_all ts) is in
      ap (λ (xs : List ℕ). xs ++ variables_in_all (apply_all ρ ts)) (renamed_variables ρ r t rs.0)
      ∙ ap (λ (xs : List ℕ). map r (variables_in t) ++ xs) (renamed_variables_all ρ r ts rs.1)
      ∙ sym (mapped_both r (variables_in t) (variables_in_all ts))

-- a substitution that takes the variables of a type to variables, and no two to one
pub renamed_numbered : (ρ : Substitution) (r : ℕ → ℕ) (t : TypeExpr)
    → ((x : ℕ) → IsTrue (holds x (variables_in t)) → ρ x ≡ type.Variable (r x))
    → ((x y : ℕ) → IsTrue (holds x (variables_in t)) → IsTrue (holds y (variables_in t)) → r x ≡ r y → x ≡ y)
    → numbered (apply ρ t) ≡ numbered t
unfolding numbered
renamed_numbered ρ r t is one =
    let P : ℕ → Type 0 = λ x. IsTrue (holds x (variables_in t)) in
    let each : AllOf P (variables_in t) = all_held P (variables_in t) (λ x h. h) in
    let names : AllOf (λ x. ρ x ≡ type.Variable (r x)) (variables_in t) = all_held (λ x. ρ x ≡ type.Variable (r x)) (variables_in t) is in
    ap (λ (xs : List ℕ). apply (by_place (all_noted [] xs)) (apply ρ t)) (renamed_variables ρ r t names)
    ∙ ap (λ (ks : List ℕ). apply (by_place ks) (apply ρ t)) (all_noted_renamed r P one [] (variables_in t) tt each)
    ∙ renamed_places r P one ρ (all_noted [] (variables_in t)) t (all_noted_all r P one [] (variables_in t) tt each) each names

-- ---- substitutions one after another

mutual
  pub applied_twice : (ρ σ : Substitution) (t : TypeExpr) → apply ρ (apply σ t) ≡ apply (λ x. apply ρ (σ x)) t
  applied_twice ρ σ (type.Variable x) = refl
  applied_twice ρ σ (type.Arrow a b) =
      ap (λ (u : TypeExpr). type.Arrow u (apply ρ (apply σ b))) (applied_twice ρ σ a)
      ∙ ap (type.Arrow (apply (λ x. apply ρ (σ x)) a)) (applied_twice ρ σ b)
  applied_twice ρ σ (type.Named n ts) = ap (type.Named n) (applied_twice_all ρ σ ts)

  applied_twice_all : (ρ σ : Substitution) (ts : TypeExprs) → apply_all ρ (apply_all σ ts) ≡ apply_all (λ x. apply ρ (σ x)) ts
  applied_twice_all ρ σ type.NoType = refl
  applied_twice_all ρ σ (type.MoreTypes t ts) =
      ap (λ (u : TypeExpr). type.MoreTypes u (apply_all ρ (apply_all σ ts))) (applied_twice ρ σ t)
      ∙ ap (type.MoreTypes (apply (λ x. apply ρ (σ x)) t)) (applied_twice_all ρ σ ts)

-- ---- types that are instances of one another

abbrev pub name_of : TypeExpr → ℕ
name_of (type.Variable x) = x
name_of (type.Arrow a b) = 0
name_of (type.Named n ts) = 0

is_variable : (ρ : Substitution) (t : TypeExpr) (x : ℕ) → apply ρ t ≡ type.Variable x → t ≡ type.Variable (name_of t)
is_variable ρ (type.Variable y) x is = refl
is_variable ρ (type.Arrow a b) x is = let no : ⊥ = cc in absurd no
is_variable ρ (type.Named n ts) x is = let no : ⊥ = cc in absurd no

left_of : (a b c d : TypeExpr) → type.Arrow a b ≡ type.Arrow c d → a ≡ c
left_of a b c d e = cc

right_of : (a b c d : TypeExpr) → type.Arrow a b ≡ type.Arrow c d → b ≡ d
right_of a b c d e = cc

first_of_both : (s t : TypeExpr) (ss ts : TypeExprs) → type.MoreTypes s ss ≡ type.MoreTypes t ts → s ≡ t
first_of_both s t ss ts e = cc

rest_of_both : (s t : TypeExpr) (ss ts : TypeExprs) → type.MoreTypes s ss ≡ type.MoreTypes t ts → ss ≡ ts
rest_of_both s t ss ts e = cc

list_of_both : (s t : TypeExprs) (n m : TypeName) → type.Named n s ≡ type.Named m t → s ≡ t
list_of_both s t n m e = cc

-- a substitution that leaves a type as it is leaves its variables
mutual
  unchanged : (ρ : Substitution) (t : TypeExpr) → apply ρ t ≡ t → AllOf (λ x. ρ x ≡ type.Variable x) (variables_in t)
  unchanged ρ (type.Variable x) is = (is, tt)
  unchanged ρ (type.Arrow a b) is =
      all_both (λ x. ρ x ≡ type.Variable x) (variables_in a) (variables_in b)
      (unchanged ρ a (left_of (apply ρ a) (apply ρ b) a b is)) (unchanged ρ b (right_of (apply ρ a) (apply ρ b) a b is))
  unchanged ρ (type.Named n ts) is = unchanged_all ρ ts (list_of_both (apply_all ρ ts) ts n n is)

  unchanged_all : (ρ : Substitution) (ts : TypeExprs) → apply_all ρ ts ≡ ts → AllOf (λ x. ρ x ≡ type.Variable x) (variables_in_all ts)
  unchanged_all ρ type.NoType is = tt
  unchanged_all ρ (type.MoreTypes t ts) is =
      all_both (λ x. ρ x ≡ type.Variable x) (variables_in t) (variables_in_all ts)
      (unchanged ρ t (first_of_both (apply ρ t) t (apply_all ρ ts) ts is))
      (unchanged_all ρ ts (rest_of_both (apply ρ t) t (apply_all ρ ts) ts is))

pub variable_name : (x y : ℕ) → type.Variable x ≡ type.Variable y → x ≡ y
variable_name x y e = ap name_of e

-- a substitution that another one takes back renames the variables
taken_inverse : (ρ inverse : Substitution) (t : TypeExpr) → apply inverse (apply ρ t) ≡ t → numbered (apply ρ t) ≡ numbered t
taken_inverse ρ inverse t is =
    let stays : AllOf (λ x. apply inverse (ρ x) ≡ type.Variable x) (variables_in t) =
    unchanged (λ x. apply inverse (ρ x)) t (sym (applied_twice inverse ρ t) ∙ is) in
    let home : (x : ℕ) → IsTrue (holds x (variables_in t)) → apply inverse (ρ x) ≡ type.Variable x =
    of_all (λ x. apply inverse (ρ x) ≡ type.Variable x) (variables_in t) stays in
    let names : (x : ℕ) → IsTrue (holds x (variables_in t)) → ρ x ≡ type.Variable (name_of (ρ x)) =
    λ x h. is_variable inverse (ρ x) x (home x h) in
    renamed_numbered ρ (λ x. name_of (ρ x)) t names
    (λ x y h k e. variable_name x y
    (sym (home x h) ∙ ap (apply inverse) (names x h ∙ ap type.Variable e ∙ sym (names y k)) ∙ home y k))

-- what an instance gives
instance_gives : (σ τ ρ : Substitution) (t : TypeExpr) → ((x : ℕ) → τ x ≡ apply ρ (σ x)) → apply τ t ≡ apply ρ (apply σ t)
instance_gives σ τ ρ t is = ap (λ (υ : Substitution). apply υ t) (fun_ext is) ∙ sym (applied_twice ρ σ t)

-- solutions that are instances of one another give the same types, once these are numbered
pub instances_alike : (σ τ : Substitution) (t : TypeExpr) → IsInstance τ σ → IsInstance σ τ → numbered (apply σ t) ≡ numbered (apply τ t)
instances_alike σ τ t forth inverse =
    let there : apply τ t ≡ apply forth.0 (apply σ t) = instance_gives σ τ forth.0 t forth.1 in
    let here : apply σ t ≡ apply inverse.0 (apply τ t) = instance_gives τ σ inverse.0 t inverse.1 in
    sym (ap numbered there ∙ taken_inverse forth.0 inverse.0 (apply σ t) (ap (apply inverse.0) (sym there) ∙ sym here))
