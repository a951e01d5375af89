-- The variables of a function's declared type are its own, so that it has this type after the types
-- of what it captured.
use Rattle.std.proofs.Common.{◌≡◌, ◌≢◌, ℕ, zero, suc, ◌+◌, ◌-◌, ◌<◌, ◌≤◌, ◌⊎◌, inl, inr, Bool, false, ◌||◌, not, cond, IsTrue, List, [], ◌∷◌, Option, Some, drop, length, map, max, min, nat_eq, nat_lt, option_map, slice_get, take, refl, sym, ap, ◌∙◌, subst, arith, eq-eqb}
use Rattle.std.specs.List.{position_or_len}
use Rattle.std.proofs.lemmas.Bool.{cases_eq, eqb-true, le-ltb, lt-ltb, ne_eqb}
use mathlib.Core.Path.{fun_ext}
use Rattle.cu_calculus.specs.Valid.{holds}
use Rattle.cu_calculus.specs.declared.FunId.{FunId}
use Rattle.cu_kernel.specs.Kernel.{Kernel, Mark, program_of}
use Rattle.cu_kernel.specs.TypeExpr as type
use Rattle.cu_kernel.specs.TypeExpr.{TypeExpr, TypeExprs}
use Rattle.cu_lift.proofs.Elements.{first_or_rest}
use Rattle.cu_cycles.proofs.Places.{no_length, within}
use Rattle.cu_lift.specs.Groups.{IsFunction, IsIn}
use Rattle.cu_types.proofs.BreadthLemmas.{above_most}
use Rattle.cu_types.proofs.Connections.{group_of, is_group, own_group}
use Rattle.cu_types.proofs.EarlierEquations.{signature_of, signature_there}
use Rattle.cu_types.proofs.GrowingLemmas.{applied_arrows}
use Rattle.cu_types.proofs.Inferring.{functions_length}
use Rattle.cu_types.proofs.NumberingLemmas.{all_noted_more, held_prefix, noted_holds}
use Rattle.cu_types.proofs.Renaming.{all_held, applied_twice, name_of, renamed_numbered, renamed_variables, variable_name}
use Rattle.cu_types.proofs.RigidLemmas.{becomes, either_true, holds_either, holds_itself, holds_left, holds_right, left_true, right_true}
use Rattle.cu_types.specs.BuiltInTypes.{arrows, variables_from}
use Rattle.cu_types.specs.Equations as asked
use Rattle.cu_types.specs.Equations.{Member, above_all, assumptions_of, breadth, equations, first_declared, member_type, members, members_from, parameters, renamed, result}
use Rattle.cu_types.specs.Inference.{Declares, HasDeclaredType, IsDeclared, IsOfGroup, IsTyped, KeepsDeclared, Typed, type_in}
use Rattle.cu_types.specs.Numbered.{all_noted, by_place, noted, numbered, variables_in, variables_in_all}
use Rattle.cu_types.specs.Synonyms.{expanded}
use Rattle.cu_types.specs.Types.{Substitution, apply, apply_all}

-- ---- places of numbers in a list

place_here : (x k : ℕ) (ks : List ℕ) → x ≡ k → position_or_len (nat_eq x) (k ∷ ks) ≡ 0
place_here x k ks same = ap (λ (b : Bool). cond (not b) (1 + position_or_len (nat_eq x) ks) 0) (eq-eqb x k same)

place_later : (x k : ℕ) (ks : List ℕ) → x ≢ k → position_or_len (nat_eq x) (k ∷ ks) ≡ 1 + position_or_len (nat_eq x) ks
place_later x k ks other = ap (λ (b : Bool). cond (not b) (1 + position_or_len (nat_eq x) ks) 0) (ne_eqb x k other)

held_later : (x k : ℕ) (ks : List ℕ) → x ≢ k → IsTrue (holds x (k ∷ ks)) → IsTrue (holds x ks)
held_later x k ks other h = ap (λ (b : Bool). b || holds x ks) (sym (ne_eqb x k other)) ∙ h

-- numbers with one place are one
one_place : (x y : ℕ) (ks : List ℕ) → IsTrue (holds x ks) → IsTrue (holds y ks)
    → position_or_len (nat_eq x) ks ≡ position_or_len (nat_eq y) ks → x ≡ y
one_place x y [] h k e = let no : ⊥ = cc in absurd no
one_place x y (z ∷ zs) h k e = elim (cases_eq x z) [
  | inl first ↦ elim (cases_eq y z) [
    | inl second ↦ first ∙ sym second
    | inr second ↦
        let here = place_here x z zs first in
        let later = place_later y z zs second in
        absurd (omega (arith, here, later, e))
  ]
  | inr first ↦ elim (cases_eq y z) [
    | inl second ↦
        let here = place_here y z zs second in
        let later = place_later x z zs first in
        absurd (omega (arith, here, later, e))
    | inr second ↦
        let one = place_later x z zs first in
        let two = place_later y z zs second in
        one_place x y zs (held_later x z zs first h) (held_later y z zs second k) (omega (arith, one, two, e))
  ]
]

-- what is noted is there
noted_held : (x : ℕ) (ks ys : List ℕ) → IsTrue (holds x ys) → IsTrue (holds x (all_noted ks ys))
noted_held x ks [] h = let no : ⊥ = cc in absurd no
noted_held x ks (y ∷ ys) h = elim (either_true (nat_eq x y) (holds x ys) h) [
  | inl first ↦
      let same : x ≡ y = eqb-true x y first in
      let more = all_noted_more (noted ks y) ys in
      subst (λ (zs : List ℕ). IsTrue (holds x zs)) (sym more.1)
      (held_prefix x (noted ks y) more.0 (subst (λ (z : ℕ). IsTrue (holds z (noted ks y))) (sym same) (noted_holds ks y)))
  | inr rest ↦ noted_held x (noted ks y) ys rest
]

-- ---- numbers below a bound

held_below : (x : ℕ) (xs : List ℕ) → IsTrue (holds x xs) → x < above_all xs
held_below x [] h = let no : ⊥ = cc in absurd no
held_below x (y ∷ ys) h =
    let most = above_most y (above_all ys) in
    elim (either_true (nat_eq x y) (holds x ys) h) [
      | inl first ↦
          let same : x ≡ y = eqb-true x y first in
          omega (arith, most, same)
      | inr rest ↦ let less = held_below x ys rest in omega (arith, most, less)
    ]

most_breadth : List TypeExpr → ℕ
most_breadth [] = 0
most_breadth (t ∷ ts) = max (breadth t) (most_breadth ts)

breadths_below : (ts : List TypeExpr) (k : ℕ) (t : TypeExpr) → slice_get ts k ≡ Some t → breadth t ≤ most_breadth ts
unfolding most_breadth
breadths_below [] k t at = let no : ⊥ = cc in absurd no
breadths_below (s ∷ ts) zero t at =
    let same : s ≡ t = cc in
    let one : breadth s ≡ breadth t = ap (λ (u : TypeExpr). breadth u) same in
    omega (arith, one)
breadths_below (s ∷ ts) (suc k) t at = let rest = breadths_below ts k t at in omega (arith, rest)

-- ---- variables of functions

mapped_held : (r : ℕ → ℕ) (y : ℕ) (xs : List ℕ) → IsTrue (holds y (map r xs)) → (x : ℕ) × IsTrue (holds x xs) × (y ≡ r x)
mapped_held r y [] h = let no : ⊥ = cc in absurd no
mapped_held r y (x ∷ xs) h = elim (either_true (nat_eq y (r x)) (holds y (map r xs)) h) [
  | inl first ↦ (x, left_true (nat_eq x x) (holds x xs) (eq-eqb x x refl), eqb-true y (r x) first)
  | inr rest ↦
      let found = mapped_held r y xs rest in
      (found.0, right_true (nat_eq found.0 x) (holds found.0 xs) found.1, found.2)
]

-- a variable of a type whose variables are new from a number on
renamed_held : (next y : ℕ) (t : TypeExpr) → IsTrue (holds y (variables_in (renamed next t)))
    → (x : ℕ) × IsTrue (holds x (variables_in t)) × (y ≡ next + x)
renamed_held next y t h =
    let names = all_held (λ x. type.Variable (next + x) ≡ type.Variable (next + x)) (variables_in t) (λ x h. refl) in
    mapped_held (λ x. next + x) y (variables_in t)
    (subst (λ (xs : List ℕ). IsTrue (holds y xs)) (renamed_variables (λ x. type.Variable (next + x)) (λ x. next + x) t names) h)

-- a variable of a function is one of its parameters, or of its result
function_held : (y : ℕ) (ts : List TypeExpr) (t : TypeExpr) → IsTrue (holds y (variables_in (arrows ts t)))
    → ((k : ℕ) × (s : TypeExpr) × (slice_get ts k ≡ Some s) × IsTrue (holds y (variables_in s))) ⊎ IsTrue (holds y (variables_in t))
function_held y [] t h = inr h
function_held y (s ∷ ts) t h = elim (holds_either y (variables_in s) (variables_in (arrows ts t)) h) [
  | inl first ↦ inl (0, s, refl, first)
  | inr rest ↦ elim (function_held y ts t rest) [
    | inl found ↦ inl (suc found.0, found.1, found.2, found.3)
    | inr last ↦ inr last
  ]
]

-- substitutions that are the same on the variables of a type
mutual
  same_on : (σ τ : Substitution) (t : TypeExpr) → ((x : ℕ) → IsTrue (holds x (variables_in t)) → σ x ≡ τ x) → apply σ t ≡ apply τ t
  same_on σ τ (type.Variable x) same = same x (holds_itself x)
  same_on σ τ (type.Arrow a b) same =
      ap (λ (u : TypeExpr). type.Arrow u (apply σ b)) (same_on σ τ a (λ x h. same x (holds_left x (variables_in a) (variables_in b) h)))
      ∙ ap (type.Arrow (apply τ a)) (same_on σ τ b (λ x h. same x (holds_right x (variables_in a) (variables_in b) h)))
  same_on σ τ (type.Named n ts) same = ap (type.Named n) (all_same_on σ τ ts same)

  all_same_on : (σ τ : Substitution) (ts : TypeExprs) → ((x : ℕ) → IsTrue (holds x (variables_in_all ts)) → σ x ≡ τ x)
      → apply_all σ ts ≡ apply_all τ ts
  all_same_on σ τ type.NoType same = refl
  all_same_on σ τ (type.MoreTypes t ts) same =
      ap (λ (u : TypeExpr). type.MoreTypes u (apply_all σ ts))
      (same_on σ τ t (λ x h. same x (holds_left x (variables_in t) (variables_in_all ts) h)))
      ∙ ap (type.MoreTypes (apply τ t))
      (all_same_on σ τ ts (λ x h. same x (holds_right x (variables_in t) (variables_in_all ts) h)))

mutual
  left_alone : (t : TypeExpr) → apply type.Variable t ≡ t
  left_alone (type.Variable x) = refl
  left_alone (type.Arrow a b) =
      ap (λ (u : TypeExpr). type.Arrow u (apply type.Variable b)) (left_alone a) ∙ ap (type.Arrow a) (left_alone b)
  left_alone (type.Named n ts) = ap (type.Named n) (all_left_alone ts)

  all_left_alone : (ts : TypeExprs) → apply_all type.Variable ts ≡ ts
  all_left_alone type.NoType = refl
  all_left_alone (type.MoreTypes t ts) =
      ap (λ (u : TypeExpr). type.MoreTypes u (apply_all type.Variable ts)) (left_alone t)
      ∙ ap (type.MoreTypes t) (all_left_alone ts)

-- ---- a type after others, with variables of its own

named_by : (t : TypeExpr) (x : ℕ) → t ≡ type.Variable x → t ≡ type.Variable (name_of t)
named_by t x is = is ∙ ap type.Variable (sym (ap name_of is))

-- types that are below a number, and a type whose variables become ones that are none of theirs
module _ (cs : List TypeExpr) (e : TypeExpr) (own : Substitution) (next : ℕ)
    (names : (x : ℕ) → IsTrue (holds x (variables_in e)) → own x ≡ type.Variable (name_of (own x)))
    (one : (x y : ℕ) → IsTrue (holds x (variables_in e)) → IsTrue (holds y (variables_in e)) → own x ≡ own y → x ≡ y)
    (apart : (x : ℕ) → IsTrue (holds x (variables_in e)) → (k : ℕ) (s : TypeExpr) → slice_get cs k ≡ Some s
    → IsTrue (holds (name_of (own x)) (variables_in s)) → ⊥)
    (below : (k : ℕ) (s : TypeExpr) → slice_get cs k ≡ Some s → breadth s ≤ next) where
  -- from the variables after the number to those that they become
  abbrev shifted : Substitution
  shifted y = cond (nat_lt y next) (type.Variable y) (own (y - next))

  shifted_low : (y : ℕ) → y < next → shifted y ≡ type.Variable y
  shifted_low y low = ap (λ (b : Bool). cond b (type.Variable y) (own (y - next))) (lt-ltb y next low)

  shifted_high : (x : ℕ) → shifted (next + x) ≡ own x
  shifted_high x =
      let none : nat_lt (next + x) next ≡ false = le-ltb (next + x) next (omega arith) in
      let converse : next + x - next ≡ x = omega arith in
      ap (λ (b : Bool). cond b (type.Variable (next + x)) (own (next + x - next))) none ∙ ap own converse

  stays_below : (s : TypeExpr) → breadth s ≤ next → apply shifted s ≡ s
  stays_below s less =
      same_on shifted type.Variable s
      (λ x h. shifted_low x (let low : x < breadth s = held_below x (variables_in s) h in omega (arith, low, less)))
      ∙ left_alone s

  stay_below : (ts : List TypeExpr) → ((k : ℕ) (s : TypeExpr) → slice_get ts k ≡ Some s → breadth s ≤ next) → map (apply shifted) ts ≡ ts
  stay_below [] each = refl
  stay_below (t ∷ ts) each =
      ap (λ (u : TypeExpr). u ∷ map (apply shifted) ts) (stays_below t (each 0 t refl))
      ∙ ap (λ (us : List TypeExpr). t ∷ us) (stay_below ts (λ k s at. each (suc k) s at))

  abbrev whole : TypeExpr
  whole = arrows cs (renamed next e)

  shifted_whole : apply shifted whole ≡ arrows cs (apply own e)
  shifted_whole =
      applied_arrows shifted cs (renamed next e)
      ∙ ap (λ (us : List TypeExpr). arrows us (apply shifted (renamed next e))) (stay_below cs below)
      ∙ ap (arrows cs)
      (applied_twice shifted (λ x. type.Variable (next + x)) e ∙ ap (λ (σ : Substitution). apply σ e) (fun_ext shifted_high))

  -- a variable stands in one of the types, or is one of those after the number
  abbrev Stands : ℕ → Type 0
  Stands y =
      ((k : ℕ) × (s : TypeExpr) × (slice_get cs k ≡ Some s) × IsTrue (holds y (variables_in s)))
      ⊎ ((x : ℕ) × IsTrue (holds x (variables_in e)) × (y ≡ next + x))

  stands : (y : ℕ) → IsTrue (holds y (variables_in whole)) → Stands y
  stands y h = elim (function_held y cs (renamed next e) h) [
    | inl there ↦ inl there
    | inr last ↦ inr (renamed_held next y e last)
  ]

  low_one : (y k : ℕ) (s : TypeExpr) → slice_get cs k ≡ Some s → IsTrue (holds y (variables_in s)) → shifted y ≡ type.Variable y
  low_one y k s at h =
      let low : y < breadth s = held_below y (variables_in s) h in
      let less : breadth s ≤ next = below k s at in
      shifted_low y (omega (arith, low, less))

  high_one : (y x : ℕ) → y ≡ next + x → shifted y ≡ own x
  high_one y x is = ap shifted is ∙ shifted_high x

  named : (y : ℕ) → IsTrue (holds y (variables_in whole)) → shifted y ≡ type.Variable (name_of (shifted y))
  named y h = elim (stands y h) [
    | inl low ↦ named_by (shifted y) y (low_one y low.0 low.1 low.2 low.3)
    | inr high ↦ named_by (shifted y) (name_of (own high.0)) (high_one y high.0 high.2 ∙ names high.0 high.1)
  ]

  not_both : (y z k : ℕ) (s : TypeExpr) (x : ℕ) → slice_get cs k ≡ Some s → IsTrue (holds y (variables_in s)) → IsTrue (holds x (variables_in e))
      → z ≡ next + x → shifted y ≡ shifted z → ⊥
  not_both y z k s x at h there is same =
      let value : own x ≡ type.Variable y = sym (high_one z x is) ∙ sym same ∙ low_one y k s at h in
      apart x there k s at (subst (λ (n : ℕ). IsTrue (holds n (variables_in s))) (sym (ap name_of value)) h)

  one_each : (y z : ℕ) → Stands y → Stands z → shifted y ≡ shifted z → y ≡ z
  one_each y z (inl a) (inl b) same =
      variable_name y z (sym (low_one y a.0 a.1 a.2 a.3) ∙ same ∙ low_one z b.0 b.1 b.2 b.3)
  one_each y z (inl a) (inr b) same = absurd (not_both y z a.0 a.1 b.0 a.2 a.3 b.1 b.2 same)
  one_each y z (inr a) (inl b) same = absurd (not_both z y b.0 b.1 a.0 b.2 b.3 a.1 a.2 (sym same))
  one_each y z (inr a) (inr b) same =
      a.2 ∙ ap (λ (x : ℕ). next + x) (one a.0 b.0 a.1 b.1 (sym (high_one y a.0 a.2) ∙ same ∙ high_one z b.0 b.2)) ∙ sym b.2

  same_numbered : numbered (arrows cs (apply own e)) ≡ numbered (arrows cs (renamed next e))
  same_numbered =
      ap numbered (sym shifted_whole)
      ∙ renamed_numbered shifted (λ y. name_of (shifted y)) whole named
      (λ y z h k e. one_each y z (stands y h) (stands z k) (named y h ∙ ap type.Variable e ∙ sym (named z k)))

-- ---- a function of a group

captured_at : (σ : Substitution) (count first arity k : ℕ) (s : TypeExpr)
    → slice_get (map (apply σ) (take count (variables_from first arity))) k ≡ Some s → (k < count) × (s ≡ σ (first + k))
captured_at σ zero first zero k s at = let no : ⊥ = cc in absurd no
captured_at σ zero first (suc arity) k s at = let no : ⊥ = cc in absurd no
captured_at σ (suc count) first zero k s at = let no : ⊥ = cc in absurd no
captured_at σ (suc count) first (suc arity) zero s at =
    let here : first ≡ first + 0 = omega arith in
    let same : s ≡ σ first = cc in
    (omega arith, same ∙ ap σ here)
captured_at σ (suc count) first (suc arity) (suc k) s at =
    let rest = captured_at σ count (first + 1) arity k s at in
    let low : k < count = rest.0 in
    let there : first + 1 + k ≡ first + suc k = omega arith in
    (omega (arith, low), rest.1 ∙ ap σ there)

captured_count : (σ : Substitution) (count first arity : ℕ) → length (map (apply σ) (take count (variables_from first arity))) ≡ min count arity
captured_count σ zero first zero = omega arith
captured_count σ zero first (suc arity) = omega arith
captured_count σ (suc count) first zero = omega arith
captured_count σ (suc count) first (suc arity) = let rest = captured_count σ count (first + 1) arity in omega (arith, rest)

arrows_parted : (n : ℕ) (ts : List TypeExpr) (t : TypeExpr) → arrows ts t ≡ arrows (take n ts) (arrows (drop n ts) t)
arrows_parted zero [] t = refl
arrows_parted zero (u ∷ ts) t = refl
arrows_parted (suc n) [] t = refl
arrows_parted (suc n) (u ∷ ts) t = ap (type.Arrow u) (arrows_parted n ts t)

module _ (ms : List Member) (σ : Substitution) (keeps : KeepsDeclared σ ms) (k : ℕ) (m : Member) (at : slice_get ms k ≡ Some m) (e : TypeExpr)
    (is : m.declared ≡ Some (numbered e)) where
  abbrev number : ℕ → ℕ
  number x = position_or_len (nat_eq x) (all_noted [] (variables_in e))

  -- what the variables of the declared type became
  abbrev became : Substitution
  became x = σ (first_declared m + number x)

  abbrev captured : List TypeExpr
  captured = map (apply σ) (take m.captured (parameters m))

  number_below : (x : ℕ) → IsTrue (holds x (variables_in e)) → number x < breadth (numbered e)
  unfolding numbered
  number_below x h =
      held_below (number x) (variables_in (numbered e)) (becomes (by_place (all_noted [] (variables_in e))) x (number x) e refl h)

  declared_at : (x : ℕ) → IsTrue (holds x (variables_in e)) → IsDeclared m (first_declared m + number x)
  declared_at x h = record { type = numbered e; is_type = is; variable = number x; below = number_below x h; place = refl }

  of_group_at : (x : ℕ) → IsTrue (holds x (variables_in e)) → IsOfGroup ms (first_declared m + number x)
  of_group_at x h = record { place = k; member = m; is_member = at; declared = declared_at x h }

  became_names : (x : ℕ) → IsTrue (holds x (variables_in e)) → became x ≡ type.Variable (name_of (became x))
  became_names x h =
      let found = keeps.variable (first_declared m + number x) (of_group_at x h) in named_by (became x) found.0 found.1

  became_one : (x y : ℕ) → IsTrue (holds x (variables_in e)) → IsTrue (holds y (variables_in e)) → became x ≡ became y → x ≡ y
  became_one x y h l same =
      let places : first_declared m + number x ≡ first_declared m + number y =
      keeps.distinct (first_declared m + number x) (first_declared m + number y) (of_group_at x h) (of_group_at y l) same in
      one_place x y (all_noted [] (variables_in e)) (noted_held x [] (variables_in e) h) (noted_held y [] (variables_in e) l)
      (omega (arith, places))

  became_apart : (x : ℕ) → IsTrue (holds x (variables_in e)) → (j : ℕ) (s : TypeExpr) → slice_get captured j ≡ Some s
      → IsTrue (holds (name_of (became x)) (variables_in s)) → ⊥
  became_apart x h j s there stands_in =
      let here = captured_at σ m.captured m.first m.arity j s there in
      keeps.absent k (first_declared m + number x) (name_of (became x)) j m at (declared_at x h) (became_names x h) here.0
      (subst (λ (t : TypeExpr). IsTrue (holds (name_of (became x)) (variables_in t))) here.1 stands_in)

  declared_opened : apply σ (renamed (first_declared m) (numbered e)) ≡ apply became e
  unfolding numbered
  declared_opened =
      applied_twice σ (λ x. type.Variable (first_declared m + x)) (numbered e)
      ∙ applied_twice (λ x. σ (first_declared m + x)) (by_place (all_noted [] (variables_in e))) e

  parted_type : apply σ (arrows (drop m.captured (parameters m)) (type.Variable (result m))) ≡ apply σ (renamed (first_declared m) (numbered e))
      → apply σ (member_type m) ≡ arrows captured (apply became e)
  parted_type solved =
      ap (apply σ) (arrows_parted m.captured (parameters m) (type.Variable (result m)))
      ∙ applied_arrows σ (take m.captured (parameters m)) (arrows (drop m.captured (parameters m)) (type.Variable (result m)))
      ∙ ap (arrows captured) (solved ∙ declared_opened)

  own_variables : numbered (arrows captured (apply became e)) ≡ numbered (arrows captured (renamed (most_breadth captured) e))
  own_variables = same_numbered captured e became (most_breadth captured) became_names became_one became_apart (breadths_below captured)

-- ---- declared types

member_there : (p : Kernel) (first : ℕ) (fs : List FunId) (f : FunId) → IsIn fs f
    → (k : ℕ) × (n : ℕ) × (slice_get (members_from p first fs) k ≡ Some (asked.member p n f))
member_there p first [] f (k, e) = let no : ⊥ = cc in absurd no
member_there p first (g ∷ fs) f there = elim (first_or_rest f g fs there) [
  | inl same ↦ (0, first, ap (λ (h : FunId). Some (asked.member p first h)) same)
  | inr rest ↦
      let found = member_there p (asked.end_of (asked.member p first g)) fs f rest in
      (suc found.0, found.1, found.2)
]

member_in_group : (p : Kernel) (fs : List FunId) (f : FunId) → IsIn fs f
    → (k : ℕ) × (n : ℕ) × (slice_get (members p fs) k ≡ Some (asked.member p n f))
unfolding members
member_in_group p fs f there = member_there p 0 fs f there

signature_in : (p : Kernel) (i : List TypeExpr) (fs : List FunId) (k : ℕ) (m : Member) (t : TypeExpr) → slice_get (members p fs) k ≡ Some m
    → m.declared ≡ Some t → IsIn (equations p i fs) (signature_of m t)
unfolding equations
signature_in p i fs k m t at is =
    signature_there p (assumptions_of p i (members p fs)) (members p fs)
    (record { next = asked.end_of_all 0 (members p fs); equations = [] }) k m t at is

declared_by_mark : (p : Kernel) (o : Option Mark) (mark : Mark) (t : TypeExpr) → o ≡ Some mark → mark.declared ≡ Some t
    → asked.declared_by p o ≡ Some (numbered (expanded p t))
declared_by_mark p o mark t is declares =
    ap (asked.declared_by p) is ∙ ap (option_map (λ (u : TypeExpr). numbered (expanded p u))) declares

pub declared_type : (p : Kernel) (i : List TypeExpr) (f : FunId) (t : TypeExpr) (is : Declares p f t) → Typed p i
    → HasDeclaredType p i f (min is.mark.captured is.function.arity) t
declared_type p i f t is typed =
    let low : f.0 < length p.functions = within p.functions f.0 is.function is.is_function in
    let sized : length (program_of p).functions ≡ length p.functions = functions_length p in
    let inside : IsFunction (program_of p) f = omega (arith, low, sized) in
    let fs : List FunId = group_of (program_of p) f in
    let has : IsTyped p i fs = typed.groups fs (is_group (program_of p) f inside) in
    let found = member_in_group p fs f (own_group (program_of p) f inside) in
    let m : Member = asked.member p found.1 f in
    let e : TypeExpr = expanded p t in
    let declares : m.declared ≡ Some (numbered e) = declared_by_mark p (slice_get p.marks f.0) is.mark t is.is_mark is.is_declared in
    let asks = signature_in p i fs found.0 m (numbered e) found.2 declares in
    let solved : apply has.solution (arrows (drop m.captured (parameters m)) (type.Variable (result m)))
    ≡ apply has.solution (renamed (first_declared m) (numbered e)) =
    has.solves asks.0 (signature_of m (numbered e)) asks.1 in
    let types : List TypeExpr = captured (members p fs) has.solution has.keeps found.0 m found.2 e declares in
    let many : m.captured ≡ is.mark.captured = ap asked.captured_by is.is_mark in
    let arity : m.arity ≡ is.function.arity = ap asked.arity_of is.is_function in
    record {
      types = types;
      count = captured_count has.solution m.captured m.first m.arity ∙ ap (λ (n : ℕ). min n m.arity) many ∙ ap (min is.mark.captured) arity;
      next = most_breadth types;
      below = breadths_below types;
      is =
          has.types found.0 m found.2
          ∙ ap numbered (parted_type (members p fs) has.solution has.keeps found.0 m found.2 e declares solved)
          ∙ own_variables (members p fs) has.solution has.keeps found.0 m found.2 e declares;
    }

alone : (next : ℕ) (types : List TypeExpr) (t : TypeExpr) → types ≡ [] → numbered (arrows types (renamed next t)) ≡ numbered t
alone next types t none =
    ap (λ (ts : List TypeExpr). numbered (arrows ts (renamed next t))) none
    ∙ renamed_numbered (λ x. type.Variable (next + x)) (λ x. next + x) t (λ x h. refl) (λ x y h k e. omega (arith, e))

pub declared_alone : (p : Kernel) (i : List TypeExpr) (f : FunId) (t : TypeExpr) (is : Declares p f t) → Typed p i → is.mark.captured ≡ 0
    → type_in i f ≡ numbered (expanded p t)
declared_alone p i f t is typed none =
    let has = declared_type p i f t is typed in
    let count : length has.types ≡ min is.mark.captured is.function.arity = has.count in
    has.is ∙ alone has.next has.types (expanded p t) (no_length has.types (omega (arith, count, none)))
