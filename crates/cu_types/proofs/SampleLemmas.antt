-- The equations of the sample functions, computed, and what they are answered.
use Rattle.std.proofs.Common.{◌≡◌, ℕ, zero, suc, ◌+◌, ◌<◌, ◌⊎◌, inl, inr, List, [], ◌∷◌, Option, None, Some, IsTrue, length, slice_get, slice_index_or, refl, sym, ap, ◌∙◌, subst, arith}
use Rattle.std.proofs.lemmas.Bool.{eq-eqb}
use Rattle.cu_calculus.specs.Claims.{Collected, Mention, Plain, body_mentions}
use Rattle.cu_calculus.specs.Program as calculus
use Rattle.cu_calculus.specs.Valid.{holds}
use Rattle.cu_calculus.specs.declared.FunId.{FunId}
use Rattle.cu_kernel.specs.Kernel.{Goal, program_of}
use Rattle.cu_kernel.specs.TypeExpr as type
use Rattle.cu_kernel.specs.TypeExpr.{TypeExpr, TypeExprs}
use Rattle.cu_kernel.specs.declared.type_term.TypeName.TheVariants as name
use Rattle.cu_kernel.specs.declared.type_term.TypeName.{TypeName}
use Rattle.cu_lift.specs.Groups.{IsGroup, IsIn}
use Rattle.cu_lift.specs.Walks.{Has, Mentions}
use Rattle.cu_types.proofs.Connections.{mentioned, single}
use Rattle.cu_types.proofs.Inferring.{functions_length, typed_of}
use Rattle.cu_types.proofs.OneInterface.{group_agrees}
use Rattle.cu_types.specs.Equations.{Member, breadth, equations, member, member_type, members}
use Rattle.cu_types.specs.Numbered.{numbered, variables_in}
use Rattle.cu_types.specs.Inside.Cycles.{size}
use Rattle.cu_types.specs.Inference.{BreaksSignature, HasPrincipalTypes, IsDeclared, IsOfGroup, KeepsDeclared, PrincipallyTyped, type_in}
use Rattle.cu_types.specs.Samples.{SamplesAnswered, SamplesAsk, a_name, asked_of, bool, both, char, fun, goal, int, known, known_even, known_narrow, known_too, sample, var, whole, whole_types}
use Rattle.cu_types.specs.Synonyms.{expanded}
use Rattle.cu_types.specs.Types.{Substitution, apply}
use Rattle.cu_types.specs.Unification as made
use Rattle.cu_types.specs.Unification.{Equation, IsClash, IsInstance, IsMostGeneral, MadeEqual, Solves, Unifies}

pub computed : SamplesAsk
unfolding equations members expanded numbered
computed = record {
  equal = refl;
  negation = refl;
  wrong_goal = refl;
  identity = refl;
  pair_goal = refl;
  too_general = refl;
  choice = refl;
  captive = refl;
  set_goal = refl;
  nested = refl;
  twice = refl;
  even_and_odd = refl;
  to_itself = refl;
}

-- solutions of lists of equations

none_solved : (σ : Substitution) → Solves σ []
none_solved σ zero e is = let no : ⊥ = cc in absurd no
none_solved σ (suc k) e is = let no : ⊥ = cc in absurd no

solved_more : (σ : Substitution) (e : Equation) (es : List Equation) → Unifies σ e.left e.right → Solves σ es → Solves σ (e ∷ es)
solved_more σ e es first rest zero d is =
    let same : e ≡ d = cc in subst (λ (x : Equation). Unifies σ x.left x.right) same first
solved_more σ e es first rest (suc k) d is = rest k d is

-- a goal that calls not on a character

abbrev place_of : TypeName → ℕ
place_of (name.Data t) = t.0
place_of (name.Synonym s) = 0

abbrev data_place : TypeExpr → ℕ
data_place (type.Named n ts) = place_of n
data_place _ = 0

clash_of : (es : List Equation) → es ≡ both (type.Arrow bool bool) (type.Arrow (var 1) (var 0)) ∷ both char (var 1) ∷ [] → IsClash es bool char
clash_of es is = record {
  made_equal =
      let first : slice_get es 0 ≡ Some (both (type.Arrow bool bool) (type.Arrow (var 1) (var 0))) = ap (λ (xs : List Equation). slice_get xs 0) is in
      let second : slice_get es 1 ≡ Some (both char (var 1)) = ap (λ (xs : List Equation). slice_get xs 1) is in
      let arrows = made.given 0 (both (type.Arrow bool bool) (type.Arrow (var 1) (var 0))) first in
      made.transitive bool (var 1) char
      (made.argument (type.Arrow bool bool) (type.Arrow (var 1) (var 0)) bool (var 1) 0
      (record { head = _; left = refl; right = refl; count = refl }) arrows refl refl)
      (made.symmetric char (var 1) (made.given 1 (both char (var 1)) second));
  apart = λ σ same. let places : 18 ≡ 17 = ap data_place same in absurd (omega arith);
}

-- declared types

five : IsOfGroup (members sample (fun 5 ∷ [])) 2
unfolding members expanded numbered
five = record {
  place = 0;
  member = member sample 0 (fun 5);
  is_member = refl;
  declared = record { type = type.Arrow (var 0) int; is_type = refl; variable = 0; below = omega arith; place = refl };
}

arrow_left : (a b c d : TypeExpr) → type.Arrow a b ≡ type.Arrow c d → a ≡ c
arrow_left a b c d e = cc

arrow_right : (a b c d : TypeExpr) → type.Arrow a b ≡ type.Arrow c d → b ≡ d
arrow_right a b c d e = cc

int_is_no_variable : (y : ℕ) → int ≡ type.Variable y → ⊥
int_is_no_variable y e = let no : ⊥ = cc in no

abbrev constant : Substitution
constant x = int

abbrev declared_as : TypeExpr → Equation
declared_as t = both (type.Arrow (var 0) (var 1)) t

too_general : BreaksSignature sample known (fun 5 ∷ [])
unfolding equations members expanded numbered
too_general = record {
  solution = constant;
  solves =
      solved_more constant (declared_as (type.Arrow (var 2) int)) (both (var 3) (var 0) ∷ both (var 3) (var 1) ∷ []) refl
      (solved_more constant (both (var 3) (var 0)) (both (var 3) (var 1) ∷ []) refl
      (solved_more constant (both (var 3) (var 1)) [] refl (none_solved constant)));
  none = λ σ solves keeps.
      let arrows : type.Arrow (σ 0) (σ 1) ≡ type.Arrow (σ 2) int = solves 0 (declared_as (type.Arrow (var 2) int)) refl in
      let first : σ 3 ≡ σ 0 = solves 1 (both (var 3) (var 0)) refl in
      let second : σ 3 ≡ σ 1 = solves 2 (both (var 3) (var 1)) refl in
      let kept : (y : ℕ) × (σ 2 ≡ type.Variable y) = keeps.variable 2 five in
      int_is_no_variable kept.0
      (sym (arrow_right (σ 0) (σ 1) (σ 2) int arrows) ∙ sym second ∙ first ∙ arrow_left (σ 0) (σ 1) (σ 2) int arrows ∙ kept.1);
}

seven : IsDeclared (member sample 0 (fun 7)) 3
unfolding expanded numbered
seven = record { type = type.Arrow (var 0) (var 0); is_type = refl; variable = 0; below = omega arith; place = refl }

itself : (y : ℕ) (t : TypeExpr) → t ≡ type.Variable y → IsTrue (holds y (variables_in t))
itself y t is = subst (λ (u : TypeExpr). IsTrue (holds y (variables_in u))) (sym is) (rw (eq-eqb y y refl) refl)

seven_of_group : IsOfGroup (members sample (fun 7 ∷ [])) 3
unfolding members expanded numbered
seven_of_group = record { place = 0; member = member sample 0 (fun 7); is_member = refl; declared = seven }

abbrev of_captive : Equation
of_captive = both (type.Arrow (var 1) (var 2)) (type.Arrow (var 3) (var 3))

captive : BreaksSignature sample known (fun 7 ∷ [])
unfolding equations members expanded numbered
captive = record {
  solution = constant;
  solves =
      solved_more constant of_captive (both (var 4) (var 0) ∷ both (var 5) (var 1) ∷ both (var 4) (var 2) ∷ []) refl
      (solved_more constant (both (var 4) (var 0)) (both (var 5) (var 1) ∷ both (var 4) (var 2) ∷ []) refl
      (solved_more constant (both (var 5) (var 1)) (both (var 4) (var 2) ∷ []) refl
      (solved_more constant (both (var 4) (var 2)) [] refl (none_solved constant))));
  none = λ σ solves keeps.
      let arrows : type.Arrow (σ 1) (σ 2) ≡ type.Arrow (σ 3) (σ 3) = solves 0 of_captive refl in
      let first : σ 4 ≡ σ 0 = solves 1 (both (var 4) (var 0)) refl in
      let third : σ 4 ≡ σ 2 = solves 3 (both (var 4) (var 2)) refl in
      let kept : (y : ℕ) × (σ 3 ≡ type.Variable y) = keeps.variable 3 seven_of_group in
      keeps.absent 0 3 kept.0 0 (member sample 0 (fun 7)) refl seven kept.1 (omega arith)
      (itself kept.0 (σ 0) (sym first ∙ third ∙ arrow_right (σ 1) (σ 2) (σ 3) (σ 3) arrows ∙ kept.1));
}

-- a declared type that holds: g x y = case x of { True -> y }, where y has the type b -> b

abbrev chosen : Substitution
chosen x = slice_index_or (bool ∷ var 3 ∷ var 3 ∷ var 3 ∷ bool ∷ var 3 ∷ bool ∷ []) x (var x)

abbrev of_choice : List Equation
of_choice =
    both (type.Arrow (var 1) (var 2)) (type.Arrow (var 3) (var 3))
    ∷ both (var 4) (var 0) ∷ both (var 5) (var 1)
    ∷ both (var 4) (var 6) ∷ both bool (var 6) ∷ both (var 5) (var 2)
    ∷ []

chosen_general : (τ : Substitution) → Solves τ of_choice → (x : ℕ) → τ x ≡ apply τ (chosen x)
chosen_general τ solves zero =
    let a : τ 4 ≡ τ 0 = solves 1 (both (var 4) (var 0)) refl in
    let b : τ 4 ≡ τ 6 = solves 3 (both (var 4) (var 6)) refl in
    let c : bool ≡ τ 6 = solves 4 (both bool (var 6)) refl in
    sym a ∙ b ∙ sym c
chosen_general τ solves (suc zero) =
    arrow_left (τ 1) (τ 2) (τ 3) (τ 3) (solves 0 (both (type.Arrow (var 1) (var 2)) (type.Arrow (var 3) (var 3))) refl)
chosen_general τ solves (suc (suc zero)) =
    arrow_right (τ 1) (τ 2) (τ 3) (τ 3) (solves 0 (both (type.Arrow (var 1) (var 2)) (type.Arrow (var 3) (var 3))) refl)
chosen_general τ solves (suc (suc (suc zero))) = refl
chosen_general τ solves (suc (suc (suc (suc zero)))) =
    let b : τ 4 ≡ τ 6 = solves 3 (both (var 4) (var 6)) refl in
    let c : bool ≡ τ 6 = solves 4 (both bool (var 6)) refl in
    b ∙ sym c
chosen_general τ solves (suc (suc (suc (suc (suc zero))))) =
    let a : τ 5 ≡ τ 2 = solves 5 (both (var 5) (var 2)) refl in
    a ∙ arrow_right (τ 1) (τ 2) (τ 3) (τ 3) (solves 0 (both (type.Arrow (var 1) (var 2)) (type.Arrow (var 3) (var 3))) refl)
chosen_general τ solves (suc (suc (suc (suc (suc (suc zero)))))) =
    let c : bool ≡ τ 6 = solves 4 (both bool (var 6)) refl in sym c
chosen_general τ solves (suc (suc (suc (suc (suc (suc (suc x))))))) = refl

chosen_solves : Solves chosen of_choice
chosen_solves =
    solved_more chosen (both (type.Arrow (var 1) (var 2)) (type.Arrow (var 3) (var 3))) (both (var 4) (var 0) ∷ both (var 5) (var 1)
    ∷ both (var 4) (var 6) ∷ both bool (var 6) ∷ both (var 5) (var 2) ∷ []) refl
    (solved_more chosen (both (var 4) (var 0)) (both (var 5) (var 1) ∷ both (var 4) (var 6) ∷ both bool (var 6) ∷ both (var 5) (var 2) ∷ []) refl
    (solved_more chosen (both (var 5) (var 1)) (both (var 4) (var 6) ∷ both bool (var 6) ∷ both (var 5) (var 2) ∷ []) refl
    (solved_more chosen (both (var 4) (var 6)) (both bool (var 6) ∷ both (var 5) (var 2) ∷ []) refl
    (solved_more chosen (both bool (var 6)) (both (var 5) (var 2) ∷ []) refl
    (solved_more chosen (both (var 5) (var 2)) [] refl (none_solved chosen))))))

only_member : (m n : Member) (k : ℕ) → slice_get (m ∷ []) k ≡ Some n → m ≡ n
only_member m n zero is = cc
only_member m n (suc zero) is = let no : ⊥ = cc in absurd no
only_member m n (suc (suc k)) is = let no : ⊥ = cc in absurd no

same_type : (s t : TypeExpr) → Some s ≡ Some t → s ≡ t
same_type s t e = cc

declared_at_three : (x : ℕ) → IsDeclared (member sample 0 (fun 6)) x → x ≡ 3
unfolding expanded numbered
declared_at_three x d =
    let is : type.Arrow (var 0) (var 0) ≡ d.type = same_type (type.Arrow (var 0) (var 0)) d.type d.is_type in
    let few : d.variable < 1 = subst (λ (t : TypeExpr). d.variable < breadth t) (sym is) d.below in
    let zero_there : d.variable ≡ 0 = omega arith in
    d.place ∙ ap (λ v. 3 + v) zero_there

of_group_at_three : (x : ℕ) → IsOfGroup (members sample (fun 6 ∷ [])) x → x ≡ 3
unfolding members
of_group_at_three x d =
    declared_at_three x (subst (λ (m : Member). IsDeclared m x) (sym (only_member (member sample 0 (fun 6)) d.member d.place d.is_member)) d.declared)

not_in_bool : (y : ℕ) → IsTrue (holds y (variables_in bool)) → ⊥
not_in_bool y is = let no : ⊥ = cc in no

chosen_keeps : KeepsDeclared chosen (members sample (fun 6 ∷ []))
unfolding members
chosen_keeps = record {
  variable = λ x d. (3, ap chosen (of_group_at_three x d));
  distinct = λ x y d e same. of_group_at_three x d ∙ sym (of_group_at_three y e);
  absent = λ k x y i m is d stands below there.
      let first : member sample 0 (fun 6) ≡ m = only_member (member sample 0 (fun 6)) m k is in
      let few : i < 1 = subst (λ (n : Member). i < n.captured) (sym first) below in
      let none : 0 + i ≡ 0 = omega arith in
      not_in_bool y (subst (λ (j : ℕ). IsTrue (holds y (variables_in (chosen j)))) none
      (subst (λ (n : Member). IsTrue (holds y (variables_in (chosen (n.first + i))))) (sym first) there));
}

choice : HasPrincipalTypes sample known_too (fun 6 ∷ [])
unfolding equations members expanded numbered
choice = record {
  solution = chosen;
  general = record { solves = chosen_solves; general = λ τ solves. (τ, chosen_general τ solves) };
  keeps = chosen_keeps;
  types = λ k m is. subst (λ (n : Member). type_in known_too n.function ≡ numbered (apply chosen (member_type n)))
      (only_member (member sample 0 (fun 6)) m k is) refl;
}

-- a function that is applied to itself

self_clash : (es : List Equation) → es ≡ both (var 2) (var 0) ∷ both (type.Arrow (var 3) (var 1)) (var 4) ∷ both (var 2) (var 4)
    ∷ both (var 2) (var 3) ∷ [] → IsClash es (var 3) (type.Arrow (var 3) (var 1))
self_clash es is = record {
  made_equal =
      let function : slice_get es 1 ≡ Some (both (type.Arrow (var 3) (var 1)) (var 4)) = ap (λ (xs : List Equation). slice_get xs 1) is in
      let left : slice_get es 2 ≡ Some (both (var 2) (var 4)) = ap (λ (xs : List Equation). slice_get xs 2) is in
      let right : slice_get es 3 ≡ Some (both (var 2) (var 3)) = ap (λ (xs : List Equation). slice_get xs 3) is in
      made.transitive (var 3) (var 2) (type.Arrow (var 3) (var 1))
      (made.symmetric (var 2) (var 3) (made.given 3 (both (var 2) (var 3)) right))
      (made.transitive (var 2) (var 4) (type.Arrow (var 3) (var 1)) (made.given 2 (both (var 2) (var 4)) left)
      (made.symmetric (type.Arrow (var 3) (var 1)) (var 4) (made.given 1 (both (type.Arrow (var 3) (var 1)) (var 4)) function)));
  apart = λ σ same.
      let sizes : size (σ 3) ≡ suc (size (σ 3) + size (σ 1)) = ap (λ (t : TypeExpr). size t) same in
      absurd (omega (arith, sizes));
}

-- functions without declared types

undeclared : (m : Member) (x : ℕ) → m.declared ≡ None → IsDeclared m x → ⊥
undeclared m x none d = let no : None ≡ Some d.type = sym none ∙ d.is_type in let never : ⊥ = cc in never

keeps_undeclared : (σ : Substitution) (ms : List Member) → ((k : ℕ) (m : Member) → slice_get ms k ≡ Some m → m.declared ≡ None)
    → KeepsDeclared σ ms
keeps_undeclared σ ms none = record {
  variable = λ x d. absurd (undeclared d.member x (none d.place d.member d.is_member) d.declared);
  distinct = λ x y d e same. absurd (undeclared d.member x (none d.place d.member d.is_member) d.declared);
  absent = λ k x y i m at d. absurd (undeclared m x (none k m at) d);
}

-- f x = x

abbrev one_type : Substitution
one_type x = slice_index_or (var 0 ∷ var 0 ∷ var 0 ∷ []) x (var x)

abbrev of_identity : List Equation
of_identity = both (var 2) (var 0) ∷ both (var 2) (var 1) ∷ []

identity_general : (τ : Substitution) → Solves τ of_identity → (x : ℕ) → τ x ≡ apply τ (one_type x)
identity_general τ solves zero = refl
identity_general τ solves (suc zero) =
    let a : τ 2 ≡ τ 0 = solves 0 (both (var 2) (var 0)) refl in
    let b : τ 2 ≡ τ 1 = solves 1 (both (var 2) (var 1)) refl in
    sym b ∙ a
identity_general τ solves (suc (suc zero)) = solves 0 (both (var 2) (var 0)) refl
identity_general τ solves (suc (suc (suc x))) = refl

identity_solves : Solves one_type of_identity
identity_solves =
    solved_more one_type (both (var 2) (var 0)) (both (var 2) (var 1) ∷ []) refl
    (solved_more one_type (both (var 2) (var 1)) [] refl (none_solved one_type))

identity : HasPrincipalTypes sample known (fun 3 ∷ [])
unfolding equations members expanded numbered
identity = record {
  solution = one_type;
  general = record { solves = identity_solves; general = λ τ solves. (τ, identity_general τ solves) };
  keeps = keeps_undeclared one_type (members sample (fun 3 ∷ []))
      (λ k m is. subst (λ (n : Member). n.declared ≡ None) (only_member (member sample 0 (fun 3)) m k is) refl);
  types = λ k m is. subst (λ (n : Member). type_in known n.function ≡ numbered (apply one_type (member_type n)))
      (only_member (member sample 0 (fun 3)) m k is) refl;
}

-- the two interfaces differ in its type alone
differ : (n : ℕ) → (3 ≡ n) ⊎ (slice_index_or known n (type.Variable 0) ≡ slice_index_or known_narrow n (type.Variable 0))
differ zero = inr refl
differ (suc zero) = inr refl
differ (suc (suc zero)) = inr refl
differ (suc (suc (suc zero))) = inl refl
differ (suc (suc (suc (suc n)))) = inr refl

narrow_agrees : (g : FunId) → IsIn (fun 3 ∷ []) g ⊎ (type_in known g ≡ type_in known_narrow g)
narrow_agrees g = elim (differ g.0) [
  | inl same ↦ inl (subst (λ (n : ℕ). IsIn (fun 3 ∷ []) (fun n)) same (0, refl))
  | inr alike ↦ inr alike
]

too_narrow : HasPrincipalTypes sample known_narrow (fun 3 ∷ []) → ⊥
too_narrow has =
    let same : type.Arrow (var 0) (var 0) ≡ type.Arrow int int =
    group_agrees sample known known_narrow (fun 3 ∷ []) identity has (λ f g at mentions. narrow_agrees g) (fun 3) (0, refl) in
    int_is_no_variable 0 (sym (arrow_left (var 0) (var 0) int int same))

-- even and odd

abbrev both_of : Substitution
both_of x = slice_index_or (int ∷ bool ∷ int ∷ bool ∷ int ∷ int ∷ int ∷ int ∷ []) x (var x)

abbrev first_call : Equation
first_call = both (type.Arrow (var 2) (var 3)) (type.Arrow (var 5) (var 1))

abbrev second_call : Equation
second_call = both (type.Arrow (var 0) (var 1)) (type.Arrow (var 7) (var 3))

abbrev of_both : List Equation
of_both =
    both int (var 0) ∷ both bool (var 1) ∷ both (var 4) (var 0) ∷ first_call ∷ both (var 4) (var 5) ∷ both (var 6) (var 2) ∷ second_call
    ∷ both (var 6) (var 7) ∷ []

module _ (τ : Substitution) (solves : Solves τ of_both) where
  first_int : τ 0 ≡ int
  first_int = let a : int ≡ τ 0 = solves 0 (both int (var 0)) refl in sym a

  first_bool : τ 1 ≡ bool
  first_bool = let a : bool ≡ τ 1 = solves 1 (both bool (var 1)) refl in sym a

  its_argument : τ 5 ≡ int
  its_argument =
      let a : τ 4 ≡ τ 0 = solves 2 (both (var 4) (var 0)) refl in
      let b : τ 4 ≡ τ 5 = solves 4 (both (var 4) (var 5)) refl in
      sym b ∙ a ∙ first_int

  second_int : τ 2 ≡ int
  second_int = arrow_left (τ 2) (τ 3) (τ 5) (τ 1) (solves 3 first_call refl) ∙ its_argument

  both_general : (x : ℕ) → τ x ≡ apply τ (both_of x)
  both_general zero = first_int
  both_general (suc zero) = first_bool
  both_general (suc (suc zero)) = second_int
  both_general (suc (suc (suc zero))) = arrow_right (τ 2) (τ 3) (τ 5) (τ 1) (solves 3 first_call refl) ∙ first_bool
  both_general (suc (suc (suc (suc zero)))) =
      let a : τ 4 ≡ τ 0 = solves 2 (both (var 4) (var 0)) refl in a ∙ first_int
  both_general (suc (suc (suc (suc (suc zero))))) = its_argument
  both_general (suc (suc (suc (suc (suc (suc zero)))))) =
      let a : τ 6 ≡ τ 2 = solves 5 (both (var 6) (var 2)) refl in a ∙ second_int
  both_general (suc (suc (suc (suc (suc (suc (suc zero))))))) =
      sym (arrow_left (τ 0) (τ 1) (τ 7) (τ 3) (solves 6 second_call refl)) ∙ first_int
  both_general (suc (suc (suc (suc (suc (suc (suc (suc x)))))))) = refl

both_solve : Solves both_of of_both
both_solve =
    solved_more both_of (both int (var 0)) (both bool (var 1) ∷ both (var 4) (var 0) ∷ first_call ∷ both (var 4) (var 5) ∷ both (var 6) (var 2)
    ∷ second_call ∷ both (var 6) (var 7) ∷ []) refl
    (solved_more both_of (both bool (var 1)) (both (var 4) (var 0) ∷ first_call ∷ both (var 4) (var 5) ∷ both (var 6) (var 2) ∷ second_call
    ∷ both (var 6) (var 7) ∷ []) refl
    (solved_more both_of (both (var 4) (var 0)) (first_call ∷ both (var 4) (var 5) ∷ both (var 6) (var 2) ∷ second_call ∷ both (var 6) (var 7) ∷ [])
    refl
    (solved_more both_of first_call (both (var 4) (var 5) ∷ both (var 6) (var 2) ∷ second_call ∷ both (var 6) (var 7) ∷ []) refl
    (solved_more both_of (both (var 4) (var 5)) (both (var 6) (var 2) ∷ second_call ∷ both (var 6) (var 7) ∷ []) refl
    (solved_more both_of (both (var 6) (var 2)) (second_call ∷ both (var 6) (var 7) ∷ []) refl
    (solved_more both_of second_call (both (var 6) (var 7) ∷ []) refl
    (solved_more both_of (both (var 6) (var 7)) [] refl (none_solved both_of))))))))

two_members : (m n o : Member) (k : ℕ) → slice_get (m ∷ n ∷ []) k ≡ Some o → (m ≡ o) ⊎ (n ≡ o)
two_members m n o zero is = let same : m ≡ o = cc in inl same
two_members m n o (suc k) is = inr (only_member n o k is)

abbrev two_functions : List FunId
two_functions = fun 11 ∷ fun 12 ∷ []

two_undeclared : (k : ℕ) (m : Member) → slice_get (members sample two_functions) k ≡ Some m → m.declared ≡ None
unfolding members
two_undeclared k m is = elim (two_members (member sample 0 (fun 11)) (member sample 2 (fun 12)) m k is) [
  | inl same ↦ subst (λ (n : Member). n.declared ≡ None) same refl
  | inr same ↦ subst (λ (n : Member). n.declared ≡ None) same refl
]

two_types : (k : ℕ) (m : Member) → slice_get (members sample two_functions) k ≡ Some m
    → type_in known_even m.function ≡ numbered (apply both_of (member_type m))
unfolding members numbered
two_types k m is = elim (two_members (member sample 0 (fun 11)) (member sample 2 (fun 12)) m k is) [
  | inl same ↦ subst (λ (n : Member). type_in known_even n.function ≡ numbered (apply both_of (member_type n))) same refl
  | inr same ↦ subst (λ (n : Member). type_in known_even n.function ≡ numbered (apply both_of (member_type n))) same refl
]

even_and_odd : HasPrincipalTypes sample known_even two_functions
unfolding equations members expanded numbered
even_and_odd = record {
  solution = both_of;
  general = record { solves = both_solve; general = λ τ solves. (τ, both_general τ solves) };
  keeps = keeps_undeclared both_of (members sample two_functions) two_undeclared;
  types = two_types;
}

-- the whole program

abbrev mentions_of : Option calculus.Function → List Mention
mentions_of None = []
mentions_of (Some f) = body_mentions f.body

lower_by : (g : Option Goal) (n k : ℕ) (m : Mention) → slice_get (mentions_of (slice_get (program_of (whole g)).functions n)) k ≡ Some m
    → mentioned m < n
unfolding program_of
lower_by g zero k m at = let no : ⊥ = cc in absurd no
lower_by g (suc zero) zero m at =
    let same : Plain (fun 0) ≡ m = cc in subst (λ (x : Mention). mentioned x < 1) same (omega arith)
lower_by g (suc zero) (suc k) m at = let no : ⊥ = cc in absurd no
lower_by g (suc (suc n)) k m at = let no : ⊥ = cc in absurd no

has_lower : (g : Option Goal) (f : FunId) (m : Mention) → Has (program_of (whole g)) f m → mentioned m < f.0
has_lower g f m has =
    lower_by g f.0 has.place m
    (subst (λ (o : Option calculus.Function). slice_get (mentions_of o) has.place ≡ Some m) (sym has.is_function) has.is_there)

lower : (g : Option Goal) (f h : FunId) → Mentions (program_of (whole g)) f h → h.0 < f.0
lower g f h (inl has) = has_lower g f (Plain h) has
lower g f h (inr has) = has_lower g f (Collected h) has

first_whole : (g : Option Goal) → HasPrincipalTypes (whole g) whole_types (fun 0 ∷ [])
unfolding equations members expanded numbered
first_whole g = record {
  solution = one_type;
  general = record { solves = identity_solves; general = λ τ solves. (τ, identity_general τ solves) };
  keeps = keeps_undeclared one_type (members (whole g) (fun 0 ∷ []))
      (λ k m is. subst (λ (n : Member). n.declared ≡ None) (only_member (member (whole g) 0 (fun 0)) m k is) refl);
  types = λ k m is. subst (λ (n : Member). type_in whole_types n.function ≡ numbered (apply one_type (member_type n)))
      (only_member (member (whole g) 0 (fun 0)) m k is) refl;
}

abbrev itself_type : Substitution
itself_type x = slice_index_or (type.Arrow (var 1) (var 1) ∷ []) x (var x)

abbrev of_alone : Equation
of_alone = both (type.Arrow (var 1) (var 1)) (var 0)

alone_general : (τ : Substitution) → Solves τ (of_alone ∷ []) → (x : ℕ) → τ x ≡ apply τ (itself_type x)
alone_general τ solves zero = let a : type.Arrow (τ 1) (τ 1) ≡ τ 0 = solves 0 of_alone refl in sym a
alone_general τ solves (suc x) = refl

second_whole : (g : Option Goal) → HasPrincipalTypes (whole g) whole_types (fun 1 ∷ [])
unfolding equations members expanded numbered
second_whole g = record {
  solution = itself_type;
  general = record {
    solves = solved_more itself_type of_alone [] refl (none_solved itself_type);
    general = λ τ solves. (τ, alone_general τ solves);
  };
  keeps = keeps_undeclared itself_type (members (whole g) (fun 1 ∷ []))
      (λ k m is. subst (λ (n : Member). n.declared ≡ None) (only_member (member (whole g) 0 (fun 1)) m k is) refl);
  types = λ k m is. subst (λ (n : Member). type_in whole_types n.function ≡ numbered (apply itself_type (member_type n)))
      (only_member (member (whole g) 0 (fun 1)) m k is) refl;
}

each_whole : (g : Option Goal) (n : ℕ) → n < 2 → HasPrincipalTypes (whole g) whole_types (fun n ∷ [])
each_whole g zero low = first_whole g
each_whole g (suc zero) low = second_whole g
each_whole g (suc (suc n)) low = absurd (omega arith)

groups_whole : (g : Option Goal) (fs : List FunId) → IsGroup (program_of (whole g)) fs → HasPrincipalTypes (whole g) whole_types fs
groups_whole g fs is =
    let one = single (program_of (whole g)) (lower g) fs is in
    let there : IsIn fs one.0 = subst (λ (hs : List FunId). IsIn hs one.0) (sym one.1) (0, refl) in
    let inside : one.0.0 < length (program_of (whole g)).functions = ((is.exact one.0 one.0 there).0 there).0 in
    let sized : length (program_of (whole g)).functions ≡ 2 = functions_length (whole g) in
    subst (λ (hs : List FunId). HasPrincipalTypes (whole g) whole_types hs) (sym one.1) (each_whole g one.0.0 (omega (arith, inside, sized)))

principal_whole : (g : Option Goal) → PrincipallyTyped (whole g) whole_types
principal_whole g = record {
  typed = record { each = refl; groups = λ fs is. typed_of (whole g) whole_types fs (groups_whole g fs is) };
  general = λ fs is. groups_whole g fs is;
}

pub answered : SamplesAnswered
answered = record {
  wrong_goal = clash_of (asked_of 2) computed.wrong_goal;
  to_itself = self_clash (asked_of 13) computed.to_itself;
  identity = identity;
  too_narrow = too_narrow;
  too_general = too_general;
  choice = choice;
  captive = captive;
  even_and_odd = even_and_odd;
  function_goal = refl;
  data_goal = refl;
  function_variable = refl;
  interface = record { types = principal_whole None; data_goal = refl };
  applied = record { types = principal_whole (goal 0 (a_name ∷ [])); data_goal = refl };
  functional = record { interface = whole_types; types = principal_whole (goal 1 []); functional = refl };
}
