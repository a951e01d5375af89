-- Whether a walk leads from one function to another is decided, and each function is in a group.
use Rattle.std.proofs.Common.{◌≡◌, ℕ, zero, suc, ◌+◌, ◌<◌, ◌≤◌, ◌⊎◌, inl, inr, Bool, true, false, ◌&&◌, ◌||◌, cond, IsTrue, List, [], ◌∷◌, Option, None, Some, length, nat_eq, nat_lt, slice_get, refl, sym, ap, ◌∙◌, subst, arith, eq-eqb}
use Rattle.std.proofs.lemmas.Bool.{and_parts, cases_eq, cases_lt, eqb-true, lt-ltb}
use Rattle.std.specs.List.{list_all, list_any}
use Rattle.cu_calculus.specs.Claims.{Collected, Mention, Plain, body_mentions}
use Rattle.cu_calculus.specs.Program.{Function, Program}
use Rattle.cu_calculus.specs.declared.FunId.{FunId}
use Rattle.cu_kernel.specs.Captures.{are_rising}
use Rattle.cu_lift.proofs.Bridges.{function_at}
use Rattle.cu_lift.proofs.Elements.{first_or_rest, in_first, in_rest, none_in}
use Rattle.cu_lift.proofs.Leaders.{less_from}
use Rattle.cu_cycles.proofs.Places.{within}
use Rattle.cu_lift.specs.Groups.{IsFunction, IsGroup, IsIn, numbers}
use Rattle.cu_lift.specs.Walks as walk
use Rattle.cu_lift.specs.Walks.{AreConnected, Has, Mentions, Reaches, Walk}
use Rattle.cu_types.proofs.RigidLemmas.{either_true, left_true, right_true}

both_true : (a b : Bool) → IsTrue a → IsTrue b → IsTrue (a && b)
both_true true true p q = refl
both_true true false p q = let no : ⊥ = cc in absurd no
both_true false b p q = let no : ⊥ = cc in absurd no

-- ---- paths, by the numbers that they may pass

-- a path that passes numbers below a bound alone (Warshall)
abbrev leads : (ℕ → ℕ → Bool) → ℕ → ℕ → ℕ → Bool
leads edge zero f g = nat_eq f g || edge f g
leads edge (suc k) f g = leads edge k f g || (leads edge k f k && leads edge k k g)

module _ (edge : ℕ → ℕ → Bool) where
  -- a path by way of the greatest number that it may pass
  by_way : (k f g : ℕ) → IsTrue (leads edge k f k) → IsTrue (leads edge k k g) → IsTrue (leads edge (suc k) f g)
  by_way k f g p q =
      right_true (leads edge k f g) (leads edge k f k && leads edge k k g) (both_true (leads edge k f k) (leads edge k k g) p q)

  still : (k f g : ℕ) → IsTrue (leads edge k f g) → IsTrue (leads edge (suc k) f g)
  still k f g p = left_true (leads edge k f g) (leads edge k f k && leads edge k k g) p

  parts : (k f g : ℕ) → IsTrue (leads edge (suc k) f g)
      → IsTrue (leads edge k f g) ⊎ (IsTrue (leads edge k f k) × IsTrue (leads edge k k g))
  parts k f g p = elim (either_true (leads edge k f g) (leads edge k f k && leads edge k k g) p) [
    | inl once ↦ inl once
    | inr twice ↦ inr (and_parts (leads edge k f k) (leads edge k k g) twice)
  ]

  to_last : (k f : ℕ) → IsTrue (leads edge (suc k) f k) → IsTrue (leads edge k f k)
  to_last k f p = elim (parts k f k p) [ inl once ↦ once | inr twice ↦ twice.0 ]

  from_last : (k g : ℕ) → IsTrue (leads edge (suc k) k g) → IsTrue (leads edge k k g)
  from_last k g p = elim (parts k k g p) [ inl once ↦ once | inr twice ↦ twice.1 ]

  below_last : (k f h g : ℕ) → h < k
      → ((a c : ℕ) → IsTrue (leads edge k a h) → IsTrue (leads edge k h c) → IsTrue (leads edge k a c))
      → IsTrue (leads edge (suc k) f h) → IsTrue (leads edge (suc k) h g) → IsTrue (leads edge (suc k) f g)
  below_last k f h g low joins p q = elim (parts k f h p) [
    | inl to ↦ elim (parts k h g q) [
      | inl from ↦ still k f g (joins f g to from)
      | inr from ↦ by_way k f g (joins f k to from.0) from.1
    ]
    | inr to ↦ elim (parts k h g q) [
      | inl from ↦ by_way k f g to.0 (joins k g to.1 from)
      | inr from ↦ by_way k f g to.0 from.1
    ]
  ]

  -- two paths that meet at a number that may be passed
  joined : (k f h g : ℕ) → h < k → IsTrue (leads edge k f h) → IsTrue (leads edge k h g) → IsTrue (leads edge k f g)
  joined zero f h g low p q = absurd (omega arith)
  joined (suc k) f h g low p q = elim (cases_eq h k) [
    | inl same ↦
        by_way k f g (to_last k f (subst (λ (x : ℕ). IsTrue (leads edge (suc k) f x)) same p))
        (from_last k g (subst (λ (x : ℕ). IsTrue (leads edge (suc k) x g)) same q))
    | inr other ↦
        let below : h < k = omega (arith, low, other) in
        below_last k f h g below (λ a c to from. joined k a h c below to from) p q
  ]

  at_once : (k f g : ℕ) → IsTrue (leads edge 0 f g) → IsTrue (leads edge k f g)
  at_once zero f g p = p
  at_once (suc k) f g p = still k f g (at_once k f g p)

-- ---- walks

abbrev pub mentioned : Mention → ℕ
mentioned (Plain g) = g.0
mentioned (Collected g) = g.0

abbrev edge_of : Option Function → ℕ → Bool
edge_of None g = false
edge_of (Some f) g = list_any (λ m. nat_eq (mentioned m) g) (body_mentions f.body)

abbrev edge_in : Program → ℕ → ℕ → Bool
edge_in program f g = edge_of (slice_get program.functions f) g

onward : (program : Program) (f g h : FunId) (fs : List FunId) → Walk program f fs g → Reaches program g h → Reaches program f h
onward program _ _ h _ (walk.stay f) rest = rest
onward program _ _ h _ (walk.go f x g fs mention more) rest =
    let there = onward program x g h fs more rest in
    (f ∷ there.0, walk.go f x h there.0 mention there.1)

pub reaches_on : (program : Program) (f g h : FunId) → Reaches program f g → Reaches program g h → Reaches program f h
reaches_on program f g h first rest = onward program f g h first.0 first.1 rest

reaches_itself : (program : Program) (f : FunId) → Reaches program f f
reaches_itself program f = ([], walk.stay f)

pub reaches_mentioned : (program : Program) (f g : FunId) → Mentions program f g → Reaches program f g
reaches_mentioned program f g mention = (f ∷ [], walk.go f g g [] mention (walk.stay g))

found : (g : ℕ) (ms : List Mention) → IsTrue (list_any (λ m. nat_eq (mentioned m) g) ms)
    → (k : ℕ) × (m : Mention) × (slice_get ms k ≡ Some m) × (mentioned m ≡ g)
found g [] h = let no : ⊥ = cc in absurd no
found g (m ∷ ms) h = elim (either_true (nat_eq (mentioned m) g) (list_any (λ m. nat_eq (mentioned m) g) ms) h) [
  | inl first ↦ (0, m, refl, eqb-true (mentioned m) g first)
  | inr rest ↦ let there = found g ms rest in (suc there.0, there.1, there.2, there.3)
]

mention_is : (program : Program) (f : FunId) (m : Mention) → Has program f m → Mentions program f (function_at (mentioned m))
mention_is program f (Plain g) has = inl has
mention_is program f (Collected g) has = inr has

edge_by : (program : Program) (f g : ℕ) (o : Option Function) → slice_get program.functions f ≡ o → IsTrue (edge_of o g)
    → Mentions program (function_at f) (function_at g)
edge_by program f g None is h = let no : ⊥ = cc in absurd no
edge_by program f g (Some function) is h =
    let there = found g (body_mentions function.body) h in
    subst (λ (x : ℕ). Mentions program (function_at f) (function_at x)) there.3
    (mention_is program (function_at f) there.1
    (record { function = function; is_function = is; place = there.0; is_there = there.2 }))

held : (g : ℕ) (ms : List Mention) (k : ℕ) (m : Mention) → slice_get ms k ≡ Some m → mentioned m ≡ g
    → IsTrue (list_any (λ m. nat_eq (mentioned m) g) ms)
held g [] k m at is = let no : ⊥ = cc in absurd no
held g (n ∷ ms) zero m at is =
    let same : n ≡ m = cc in
    left_true (nat_eq (mentioned n) g) (list_any (λ m. nat_eq (mentioned m) g) ms)
    (eq-eqb (mentioned n) g (ap (λ (x : Mention). mentioned x) same ∙ is))
held g (n ∷ ms) (suc k) m at is =
    right_true (nat_eq (mentioned n) g) (list_any (λ m. nat_eq (mentioned m) g) ms) (held g ms k m at is)

has_edge : (program : Program) (f g : FunId) (m : Mention) → mentioned m ≡ g.0 → Has program f m → IsTrue (edge_in program f.0 g.0)
has_edge program f g m is has =
    subst (λ (o : Option Function). IsTrue (edge_of o g.0)) (sym has.is_function)
    (held g.0 (body_mentions has.function.body) has.place m has.is_there is)

mentions_edge : (program : Program) (f g : FunId) → Mentions program f g → IsTrue (edge_in program f.0 g.0)
mentions_edge program f g (inl has) = has_edge program f g (Plain g) refl has
mentions_edge program f g (inr has) = has_edge program f g (Collected g) refl has

mentioning : (program : Program) (f g : FunId) → Mentions program f g → IsFunction program f
mentioning program f g (inl has) = within program.functions f.0 has.function has.is_function
mentioning program f g (inr has) = within program.functions f.0 has.function has.is_function

-- what isn't a function of the program mentions nothing
stays_outside : (program : Program) (f g : FunId) (fs : List FunId) → Walk program f fs g → length program.functions ≤ f.0 → f ≡ g
stays_outside program _ _ _ (walk.stay f) out = refl
stays_outside program _ _ _ (walk.go f x g fs mention more) out =
    let low : f.0 < length program.functions = mentioning program f x mention in
    absurd (omega (arith, low, out))

-- there is a walk
reach : Program → ℕ → ℕ → Bool
reach program f g = leads (edge_in program) (length program.functions) f g

reach_walk : (program : Program) (f g : FunId) → IsTrue (reach program f.0 g.0) → Reaches program f g
unfolding reach
reach_walk program f g h = by (length program.functions) f.0 g.0 h
  where
    by : (k f g : ℕ) → IsTrue (leads (edge_in program) k f g) → Reaches program (function_at f) (function_at g)
    by zero f g h = elim (either_true (nat_eq f g) (edge_in program f g) h) [
      | inl same ↦
          subst (λ (x : ℕ). Reaches program (function_at f) (function_at x)) (eqb-true f g same) (reaches_itself program (function_at f))
      | inr one ↦
          reaches_mentioned program (function_at f) (function_at g) (edge_by program f g (slice_get program.functions f) refl one)
    ]
    by (suc k) f g h = elim (parts (edge_in program) k f g h) [
      | inl once ↦ by k f g once
      | inr twice ↦ reaches_on program (function_at f) (function_at k) (function_at g) (by k f k twice.0) (by k k g twice.1)
    ]

walk_reach : (program : Program) (f g : FunId) (fs : List FunId) → Walk program f fs g → IsTrue (reach program f.0 g.0)
unfolding reach
walk_reach program _ _ _ (walk.stay f) =
    at_once (edge_in program) (length program.functions) f.0 f.0 (left_true (nat_eq f.0 f.0) (edge_in program f.0 f.0) (eq-eqb f.0 f.0 refl))
walk_reach program _ _ _ (walk.go f x g fs mention more) =
    let n : ℕ = length program.functions in
    let first : IsTrue (leads (edge_in program) n f.0 x.0) =
    at_once (edge_in program) n f.0 x.0 (right_true (nat_eq f.0 x.0) (edge_in program f.0 x.0) (mentions_edge program f x mention)) in
    let rest : IsTrue (leads (edge_in program) n x.0 g.0) = walk_reach program x g fs more in
    elim (cases_lt x.0 n) [
      | inl low ↦ joined (edge_in program) n f.0 x.0 g.0 low first rest
      | inr out ↦
          subst (λ (y : FunId). IsTrue (leads (edge_in program) n f.0 y.0)) (stays_outside program x g fs more out) first
    ]

reaches : (program : Program) (f g : FunId) → Reaches program f g → IsTrue (reach program f.0 g.0)
reaches program f g there = walk_reach program f g there.0 there.1

-- ---- functions that pass a test, in program order

abbrev pub passing : (ℕ → Bool) → ℕ → ℕ → List FunId
passing test first zero = []
passing test first (suc count) = cond (test first) (function_at first ∷ passing test (first + 1) count) (passing test (first + 1) count)

above_by : (b : Bool) (x first : ℕ) (rest : List FunId) → x < first → IsTrue (list_all (nat_lt x) (numbers rest))
    → IsTrue (list_all (nat_lt x) (numbers (cond b (function_at first ∷ rest) rest)))
above_by true x first rest less all = both_true (nat_lt x first) (list_all (nat_lt x) (numbers rest)) (lt-ltb x first less) all
above_by false x first rest less all = all

all_above : (test : ℕ → Bool) (x first count : ℕ) → x < first → IsTrue (list_all (nat_lt x) (numbers (passing test first count)))
all_above test x first zero less = refl
all_above test x first (suc count) less =
    above_by (test first) x first (passing test (first + 1) count) less (all_above test x (first + 1) count (omega arith))

rises_by : (b : Bool) (first : ℕ) (rest : List FunId) → IsTrue (list_all (nat_lt first) (numbers rest)) → IsTrue (are_rising (numbers rest))
    → IsTrue (are_rising (numbers (cond b (function_at first ∷ rest) rest)))
rises_by true first rest all rises = both_true (list_all (nat_lt first) (numbers rest)) (are_rising (numbers rest)) all rises
rises_by false first rest all rises = rises

passing_rises : (test : ℕ → Bool) (first count : ℕ) → IsTrue (are_rising (numbers (passing test first count)))
passing_rises test first zero = refl
passing_rises test first (suc count) =
    rises_by (test first) first (passing test (first + 1) count) (all_above test first (first + 1) count (omega arith))
    (passing_rises test (first + 1) count)

first_by : (b : Bool) (f : FunId) (rest : List FunId) → IsTrue b → IsIn (cond b (f ∷ rest) rest) f
first_by true f rest h = in_first f rest
first_by false f rest h = let no : ⊥ = cc in absurd no

rest_by : (b : Bool) (f g : FunId) (rest : List FunId) → IsIn rest g → IsIn (cond b (f ∷ rest) rest) g
rest_by true f g rest there = in_rest g f rest there
rest_by false f g rest there = there

passes_in : (test : ℕ → Bool) (first count : ℕ) (g : FunId) → first ≤ g.0 → g.0 < first + count → IsTrue (test g.0)
    → IsIn (passing test first count) g
passes_in test first zero g low high h = absurd (omega arith)
passes_in test first (suc count) g low high h = elim (cases_eq first g.0) [
  | inl same ↦
      subst (λ (x : ℕ). IsIn (passing test first (suc count)) (function_at x)) same
      (first_by (test first) (function_at first) (passing test (first + 1) count) (subst (λ (x : ℕ). IsTrue (test x)) (sym same) h))
  | inr other ↦
      rest_by (test first) (function_at first) g (passing test (first + 1) count)
      (passes_in test (first + 1) count g (omega (arith, low, other)) (omega (arith, high)) h)
]

in_by : (b : Bool) (f g : FunId) (rest : List FunId) → IsIn (cond b (f ∷ rest) rest) g → (IsTrue b × (f ≡ g)) ⊎ IsIn rest g
in_by true f g rest there = elim (first_or_rest g f rest there) [ inl same ↦ inl (refl, same) | inr later ↦ inr later ]
in_by false f g rest there = inr there

in_passes : (test : ℕ → Bool) (first count : ℕ) (g : FunId) → IsIn (passing test first count) g
    → (first ≤ g.0) × (g.0 < first + count) × IsTrue (test g.0)
in_passes test first zero g there = absurd (none_in g there)
in_passes test first (suc count) g there =
    elim (in_by (test first) (function_at first) g (passing test (first + 1) count) there) [
      | inl here ↦
          let same : first ≡ g.0 = ap (λ (f : FunId). f.0) here.1 in
          (omega (arith, same), omega (arith, same), subst (λ (x : ℕ). IsTrue (test x)) same here.0)
      | inr later ↦
          let rest = in_passes test (first + 1) count g later in
          let low : first + 1 ≤ g.0 = rest.0 in
          let high : g.0 < first + 1 + count = rest.1 in
          (omega (arith, low), omega (arith, high), rest.2)
    ]

-- ---- how many pass

fewer_by : (b c : Bool) (f : FunId) (xs ys : List FunId) → (IsTrue b → IsTrue c) → length xs ≤ length ys
    → length (cond b (f ∷ xs) xs) ≤ length (cond c (f ∷ ys) ys)
fewer_by true true f xs ys implies less = omega arith
fewer_by true false f xs ys implies less = let no : false ≡ true = implies refl in let none : ⊥ = cc in absurd none
fewer_by false true f xs ys implies less = omega arith
fewer_by false false f xs ys implies less = less

fewer : (s t : ℕ → Bool) (first count : ℕ) → ((x : ℕ) → IsTrue (s x) → IsTrue (t x))
    → length (passing s first count) ≤ length (passing t first count)
fewer s t first zero implies = omega arith
fewer s t first (suc count) implies =
    fewer_by (s first) (t first) (function_at first) (passing s (first + 1) count) (passing t (first + 1) count) (implies first)
    (fewer s t (first + 1) count implies)

less_by : (b c : Bool) (f : FunId) (xs ys : List FunId) → b ≡ false → IsTrue c → length xs ≤ length ys
    → length (cond b (f ∷ xs) xs) < length (cond c (f ∷ ys) ys)
less_by false true f xs ys gone is less = omega arith
less_by false false f xs ys gone is less = let none : ⊥ = cc in absurd none
less_by true c f xs ys gone is less = let none : ⊥ = cc in absurd none

kept_less : (b c : Bool) (f : FunId) (xs ys : List FunId) → (IsTrue b → IsTrue c) → length xs < length ys
    → length (cond b (f ∷ xs) xs) < length (cond c (f ∷ ys) ys)
kept_less true true f xs ys implies less = omega arith
kept_less true false f xs ys implies less = let no : false ≡ true = implies refl in let none : ⊥ = cc in absurd none
kept_less false true f xs ys implies less = omega arith
kept_less false false f xs ys implies less = less

fewer_pass : (s t : ℕ → Bool) (first count y : ℕ) → ((x : ℕ) → IsTrue (s x) → IsTrue (t x)) → first ≤ y → y < first + count
    → s y ≡ false → IsTrue (t y) → length (passing s first count) < length (passing t first count)
fewer_pass s t first zero y implies low high gone is = absurd (omega arith)
fewer_pass s t first (suc count) y implies low high gone is = elim (cases_eq first y) [
  | inl same ↦
      less_by (s first) (t first) (function_at first) (passing s (first + 1) count) (passing t (first + 1) count)
      (ap s same ∙ gone) (subst (λ (x : ℕ). IsTrue (t x)) (sym same) is) (fewer s t (first + 1) count implies)
  | inr other ↦
      kept_less (s first) (t first) (function_at first) (passing s (first + 1) count) (passing t (first + 1) count) (implies first)
      (fewer_pass s t (first + 1) count y implies (omega (arith, low, other)) (omega (arith, high)) gone is)
]

-- ---- the group of a function

abbrev connects : Program → ℕ → ℕ → Bool
connects program f g = reach program f g && reach program g f

pub group_of : Program → FunId → List FunId
group_of program f = passing (connects program f.0) 0 (length program.functions)

pub group_has : (program : Program) (f g : FunId) → IsFunction program g → Reaches program f g → Reaches program g f → IsIn (group_of program f) g
unfolding group_of
group_has program f g inside forth converse =
    passes_in (connects program f.0) 0 (length program.functions) g (omega arith) (omega (arith, inside))
    (both_true (reach program f.0 g.0) (reach program g.0 f.0) (reaches program f g forth) (reaches program g f converse))

pub group_is : (program : Program) (f g : FunId) → IsIn (group_of program f) g
    → IsFunction program g × Reaches program f g × Reaches program g f
unfolding group_of
group_is program f g there =
    let passed = in_passes (connects program f.0) 0 (length program.functions) g there in
    let high : g.0 < 0 + length program.functions = passed.1 in
    let both = and_parts (reach program f.0 g.0) (reach program g.0 f.0) passed.2 in
    (omega (arith, high), reach_walk program f g both.0, reach_walk program g f both.1)

rising_group : (program : Program) (f : FunId) → IsTrue (are_rising (numbers (group_of program f)))
unfolding group_of
rising_group program f = passing_rises (connects program f.0) 0 (length program.functions)

pub own_group : (program : Program) (f : FunId) → IsFunction program f → IsIn (group_of program f) f
own_group program f inside = group_has program f f inside (reaches_itself program f) (reaches_itself program f)

pub is_group : (program : Program) (f : FunId) → IsFunction program f → IsGroup program (group_of program f)
is_group program f inside = record {
  some = (f, own_group program f inside);
  rising = rising_group program f;
  exact = λ g h at_g.
      let one = group_is program f g at_g in (
        (λ at_h.
            let other = group_is program f h at_h in
            (other.0, (reaches_on program g f h one.2 other.1, reaches_on program h f g other.2 one.1))),
        (λ is. group_has program f h is.0 (reaches_on program f g h one.1 is.1.0) (reaches_on program h g f is.1.1 one.2)),
      );
}

-- ---- how many functions a function reaches

pub reached : Program → FunId → ℕ
reached program f = length (passing (reach program f.0) 0 (length program.functions))

not_true : (b : Bool) → (IsTrue b → ⊥) → b ≡ false
not_true true h = absurd (h refl)
not_true false h = refl

-- a function reaches more than one that it reaches and that doesn't reach it
pub reaches_fewer : (program : Program) (f g : FunId) → IsFunction program f → Reaches program f g → (Reaches program g f → ⊥)
    → reached program g < reached program f
unfolding reached
reaches_fewer program f g inside forth none =
    fewer_pass (reach program g.0) (reach program f.0) 0 (length program.functions) f.0
    (λ x h. reaches program f (function_at x) (reaches_on program f g (function_at x) forth (reach_walk program g (function_at x) h)))
    (omega arith) (omega (arith, inside)) (not_true (reach program g.0 f.0) (λ h. none (reach_walk program g f h)))
    (reaches program f f (reaches_itself program f))

-- ---- functions that mention lower ones alone

-- then each is a group of its own
module _ (program : Program) (falls : (f g : FunId) → Mentions program f g → g.0 < f.0) where
  walk_falls : (f g : FunId) (fs : List FunId) → Walk program f fs g → g.0 ≤ f.0
  walk_falls _ _ _ (walk.stay f) = omega arith
  walk_falls _ _ _ (walk.go f x g fs mention more) =
      let one : x.0 < f.0 = falls f x mention in
      let rest : g.0 ≤ x.0 = walk_falls x g fs more in
      omega (arith, one, rest)

  pub single : (group : List FunId) → IsGroup program group → (f : FunId) × (group ≡ f ∷ [])
  single [] is = absurd (none_in is.some.0 is.some.1)
  single (f ∷ []) is = (f, refl)
  single (f ∷ g ∷ fs) is =
      let second : IsIn (f ∷ g ∷ fs) g = in_rest g f (g ∷ fs) (in_first g fs) in
      let there = (is.exact f g (in_first f (g ∷ fs))).0 second in
      let high : g.0 ≤ f.0 = walk_falls f g there.1.0.0 there.1.0.1 in
      let rising = and_parts (list_all (nat_lt f.0) (numbers (g ∷ fs))) (are_rising (numbers (g ∷ fs))) is.rising in
      let low : f.0 < g.0 = less_from f.0 g.0 (and_parts (nat_lt f.0 g.0) (list_all (nat_lt f.0) (numbers fs)) rising.0).0 in
      absurd (omega (arith, low, high))
