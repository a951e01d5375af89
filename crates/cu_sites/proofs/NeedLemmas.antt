-- That what definitions need, by numbers, tells which variables depend on which.
use Rattle.std.proofs.Common.{◌≡◌, ◌∙◌, ◌<◌, ◌↔◌, ◌⊎◌, inl, inr, ℕ, suc, true, List, [], Contains, length, refl, sym, subst}
use Rattle.std.proofs.lemmas.Bool.{or_cases, or_left, or_right}
use Rattle.std.specs.List.{filter, flat_map, list_any}
use Rattle.cu_lex.specs.Located.{Position}
use Rattle.cu_translation.specs.Dependencies.{Captures, Definition, DependsOn, at_once, captures, defines, definitions, depends, function_in, further, is_recursive, is_variable, needs, uses_variable}
use Rattle.cu_translation.specs.LocalNames.{Binder, Local, LocalFunction, LocalVariable, same_binder, same_place}
use Rattle.cu_translation.specs.Numbering.{binder_number, function_number}
use Rattle.cu_translation.specs.Sites.{Node}
use Rattle.cu_sites.proofs.MemberLemmas.{Among, any_from, any_to, from_among, from_filter, from_flat_map, from_map, here, in_flat_map, in_map, to_among}
use Rattle.cu_sites.specs.Depending.{is_in, relates, row}
use Rattle.cu_sites.specs.declared.relations.Relation.{Relation}
use Rattle.cu_sites.specs.Inside.Needing.{IsNeeded, definition_pairs, need_pairs}
use Rattle.cu_sites.specs.Inside.Relating as relating
use Rattle.cu_sites.specs.Inside.Relating.{Holds, Pair, Reaches, pair}
use Rattle.cu_sites.proofs.RelationLemmas.{same_truth}
use Rattle.cu_sites.proofs.GraphLemmas.{among_in, binder_is, binder_itself, call_is, filtered, from_is, in_among, in_filter, number_fits, one_binder, only_one, related_from, related_to, to_is, variable_is}

-- What definitions define and use was counted.
pub record IsDefined (nodes : List Node) (binders : List Binder) : Type 0 where
  pub variables : (d : Definition) → Among d (definitions nodes) → Among d.variable binders
  pub used : (d : Definition) (b : Binder) → Among d (definitions nodes) → Among (LocalVariable b) d.used → Among b binders

-- A relation tells what functions capture, by numbers.
pub record TellsCaptured (nodes : List Node) (binders : List Binder) (functions : List Position) (c : Relation) : Type 0 where
  pub sound : (b : Binder) (f : Position) → relates c (function_number functions f) (binder_number binders b) ≡ true → Captures nodes b f
  pub all : (b : Binder) (f : Position) → Captures nodes b f → relates c (function_number functions f) (binder_number binders b) ≡ true
  pub variables : (f v : ℕ) → f < suc (length functions) → relates c f v ≡ true → (b : Binder) × Among b binders × (v ≡ binder_number binders b)

-- a definition with what it needs
record NeedFound (nodes : List Node) (binders : List Binder) (i k : ℕ) : Type 0 where
  d : Definition
  among : Among d (definitions nodes)
  y : Binder
  from : i ≡ binder_number binders d.variable
  to : k ≡ binder_number binders y

module _ (nodes : List Node) (binders : List Binder) (functions : List Position) (c : Relation) (told : TellsCaptured nodes binders functions c) (needed : Relation)
    (counted : IsDefined nodes binders) (is_needed : IsNeeded binders functions c (definitions nodes) needed)
    (least : (b : Binder) (f : Position) → (captures nodes f b ≡ true) ↔ Captures nodes b f) where
  abbrev all_pairs : List Pair
  all_pairs = flat_map (definition_pairs binders functions c) (definitions nodes)

  -- ---- what is needed is depended on

  need_at : (x y : Binder) (d : Definition) (l : Local) → Among l d.used
      → Among (pair (binder_number binders x) (binder_number binders y)) (need_pairs binders functions c d.variable l)
      → Among d (definitions nodes) → (binder_number binders x ≡ binder_number binders d.variable) × (needs nodes d y ≡ true)
  need_at x y d (LocalVariable b) among at of =
      let same = only_one (pair (binder_number binders x) (binder_number binders y)) (pair (binder_number binders d.variable) (binder_number binders b)) at in
      let from = from_is (pair (binder_number binders x) (binder_number binders y)) (pair (binder_number binders d.variable) (binder_number binders b)) same in
      let to = to_is (pair (binder_number binders x) (binder_number binders y)) (pair (binder_number binders d.variable) (binder_number binders b)) same in
      let one : y ≡ b = one_binder b y binders (counted.used d b of among) to in (
        from,
        or_left (uses_variable d.used y) (list_any (λ f. captures nodes f y) (flat_map function_in d.used))
            (any_from (is_variable y) (LocalVariable b) d.used among (subst (λ (z : Binder). same_binder y z ≡ true) one (binder_itself y))),
      )
  need_at x y d (LocalFunction f count) among at of =
      let m = from_map (pair (binder_number binders d.variable)) (pair (binder_number binders x) (binder_number binders y)) (row c (function_number functions f)) at in
      let from = from_is (pair (binder_number binders x) (binder_number binders y)) (pair (binder_number binders d.variable) m.x) m.is in
      let to = to_is (pair (binder_number binders x) (binder_number binders y)) (pair (binder_number binders d.variable) m.x) m.is in
      let there : Among (binder_number binders y) (row c (function_number functions f)) = subst (λ (v : ℕ). Among v (row c (function_number functions f))) (sym to) m.among in
      let captured = told.sound y f (among_in (binder_number binders y) (row c (function_number functions f)) there) in (
        from,
        or_right (uses_variable d.used y) (list_any (λ g. captures nodes g y) (flat_map function_in d.used))
            (any_from (λ g. captures nodes g y) f (flat_map function_in d.used) (in_flat_map function_in f (LocalFunction f count) d.used among (here []))
            ((least y f).1 captured)),
      )

  needed_depends : (x y : Binder) → relates needed (binder_number binders x) (binder_number binders y) ≡ true → depends nodes x y ≡ true
  needed_depends x y e =
      let p = pair (binder_number binders x) (binder_number binders y) in
      let a = related_to (suc (length binders)) all_pairs needed (binder_number binders x) (binder_number binders y) is_needed e in
      let j = from_flat_map (definition_pairs binders functions c) p (definitions nodes) a in
      let l = from_flat_map (need_pairs binders functions c j.x.variable) p j.x.used j.inside in
      let at = need_at x y j.x l.x l.among l.inside j.among in
      let one : x ≡ j.x.variable = one_binder j.x.variable x binders (counted.variables j.x j.among) at.0 in
      any_from (λ d. needs nodes d y) j.x (filter (defines x) (definitions nodes))
      (in_filter (defines x) j.x (definitions nodes) j.among (subst (λ (z : Binder). same_binder x z ≡ true) one (binder_itself x))) at.1

  -- ---- what is depended on is needed

  needs_it : (x y : Binder) (d : Definition) → Among d (definitions nodes) → x ≡ d.variable → (l : Local) → Among l d.used
      → Among (pair (binder_number binders d.variable) (binder_number binders y)) (need_pairs binders functions c d.variable l)
      → relates needed (binder_number binders x) (binder_number binders y) ≡ true
  needs_it x y d among same l used at =
      let p = pair (binder_number binders d.variable) (binder_number binders y) in
      subst (λ (z : Binder). relates needed (binder_number binders z) (binder_number binders y) ≡ true) (sym same)
      (related_from (suc (length binders)) all_pairs needed (binder_number binders d.variable) (binder_number binders y) is_needed (number_fits (same_binder d.variable) binders)
      (in_flat_map (definition_pairs binders functions c) p d (definitions nodes) among (in_flat_map (need_pairs binders functions c d.variable) p l d.used used at)))

  by_need : (x y : Binder) (d : Definition) → Among d (definitions nodes) → x ≡ d.variable
      → (uses_variable d.used y ≡ true) ⊎ (list_any (λ f. captures nodes f y) (flat_map function_in d.used) ≡ true)
      → relates needed (binder_number binders x) (binder_number binders y) ≡ true
  by_need x y d among same (inl e) =
      let m = any_to (is_variable y) d.used e in
      needs_it x y d among same (LocalVariable y) (subst (λ (l : Local). Among l d.used) (variable_is y m.x m.passes) m.among) (here [])
  by_need x y d among same (inr e) =
      let m = any_to (λ f. captures nodes f y) (flat_map function_in d.used) e in
      let j = from_flat_map function_in m.x d.used m.among in
      let is = call_is m.x j.x j.inside in
      let captured = told.all y m.x ((least y m.x).0 m.passes) in
      needs_it x y d among same (LocalFunction m.x is.count) (subst (λ (l : Local). Among l d.used) is.is j.among)
      (in_map (pair (binder_number binders d.variable)) (binder_number binders y) (row c (function_number functions m.x))
      (in_among (binder_number binders y) (row c (function_number functions m.x)) captured))

  depends_needed : (x y : Binder) → depends nodes x y ≡ true → relates needed (binder_number binders x) (binder_number binders y) ≡ true
  depends_needed x y e =
      let m = any_to (λ d. needs nodes d y) (filter (defines x) (definitions nodes)) e in
      by_need x y m.x (from_filter (defines x) m.x (definitions nodes) m.among)
      (binder_is x m.x.variable (filtered (defines x) m.x (definitions nodes) m.among))
      (or_cases (uses_variable m.x.used y) (list_any (λ f. captures nodes f y) (flat_map function_in m.x.used)) m.passes)

  pub needed_exactly : (x y : Binder) → relates needed (binder_number binders x) (binder_number binders y) ≡ depends nodes x y
  needed_exactly x y =
      same_truth (relates needed (binder_number binders x) (binder_number binders y)) (depends nodes x y) (needed_depends x y) (depends_needed x y)

  -- ---- only variables are needed

  variable_at : (i k : ℕ) (d : Definition) (l : Local) → Among d (definitions nodes) → Among l d.used
      → Among (pair i k) (need_pairs binders functions c d.variable l) → (y : Binder) × Contains binders y × (k ≡ binder_number binders y)
  variable_at i k d (LocalVariable b) among used at =
      let same = only_one (pair i k) (pair (binder_number binders d.variable) (binder_number binders b)) at in (
        b,
        from_among b binders (counted.used d b among used),
        to_is (pair i k) (pair (binder_number binders d.variable) (binder_number binders b)) same,
      )
  variable_at i k d (LocalFunction f count) among used at =
      let m = from_map (pair (binder_number binders d.variable)) (pair i k) (row c (function_number functions f)) at in
      let to = to_is (pair i k) (pair (binder_number binders d.variable) m.x) m.is in
      let b = told.variables (function_number functions f) m.x (number_fits (same_place f) functions) (among_in m.x (row c (function_number functions f)) m.among) in
      (b.0, from_among b.0 binders b.1, to ∙ b.2)

  pub needed_variable : (i k : ℕ) → relates needed i k ≡ true → (y : Binder) × Contains binders y × (k ≡ binder_number binders y)
  needed_variable i k e =
      let a = related_to (suc (length binders)) all_pairs needed i k is_needed e in
      let j = from_flat_map (definition_pairs binders functions c) (pair i k) (definitions nodes) a in
      let l = from_flat_map (need_pairs binders functions c j.x.variable) (pair i k) j.x.used j.inside in
      variable_at i k j.x l.x j.among l.among l.inside

-- ---- recursion

module _ (nodes : List Node) (binders : List Binder) (needed : Relation)
    (exact : (x y : Binder) → relates needed (binder_number binders x) (binder_number binders y) ≡ depends nodes x y)
    (between : (i k : ℕ) → relates needed i k ≡ true → (y : Binder) × Contains binders y × (k ≡ binder_number binders y))
    (recursive : (x : Binder) → (is_recursive nodes x ≡ true) ↔ DependsOn nodes x x) where
  abbrev Walked : Binder → ℕ → Type 0
  Walked x k = Reaches needed (row needed (binder_number binders x)) [] k

  -- one step more at the end
  one_more : (y z x : Binder) → DependsOn nodes y x → depends nodes y z ≡ true → DependsOn nodes z x
  one_more y z x (at_once _ e) last =
      let m = any_to (λ d. needs nodes d z) (filter (defines y) (definitions nodes)) last in
      let same : y ≡ m.x.variable = binder_is y m.x.variable (filtered (defines y) m.x (definitions nodes) m.among) in
      further x m.x (from_among m.x (definitions nodes) (from_filter (defines y) m.x (definitions nodes) m.among))
      (subst (λ (b : Binder). depends nodes x b ≡ true) same e)
      (at_once m.x.variable (subst (λ (b : Binder). depends nodes b z ≡ true) same last))
  one_more y z x (further _ d at e on) last = further x d at e (one_more y z d.variable on last)

  walked_variable : (x : Binder) (k : ℕ) → Walked x k → (y : Binder) × Contains binders y × (k ≡ binder_number binders y) × DependsOn nodes y x
  walked_variable x _ (relating.begin k e free) =
      let y = between (binder_number binders x) k e in
      (y.0, y.1, y.2, at_once x (sym (exact x y.0) ∙ subst (λ (i : ℕ). relates needed (binder_number binders x) i ≡ true) y.2 e))
  walked_variable x _ (relating.further j k from e free) =
      let before = walked_variable x j from in
      let y = between j k e in
      let last : depends nodes before.0 y.0 ≡ true =
      sym (exact before.0 y.0)
      ∙ subst (λ (i : ℕ). relates needed i (binder_number binders y.0) ≡ true) before.2 (subst (λ (i : ℕ). relates needed j i ≡ true) y.2 e) in
      (y.0, y.1, y.2, one_more before.0 y.0 x before.3 last)

  walk_on : (start y x : Binder) → DependsOn nodes y x → ((z : Binder) → depends nodes x z ≡ true → Walked start (binder_number binders z))
      → Walked start (binder_number binders y)
  walk_on start y x (at_once _ e) go = go y e
  walk_on start y x (further _ d at e on) go =
      walk_on start y d.variable on (λ z e'. relating.further (binder_number binders d.variable) (binder_number binders z) (go d.variable e) (exact d.variable z ∙ e') refl)

  walk_to : (x y : Binder) → DependsOn nodes y x → Walked x (binder_number binders y)
  walk_to x y h = walk_on x y x h (λ z e. relating.begin (binder_number binders z) (exact x z ∙ e) refl)

  pub recursive_walked : (x : Binder) → (found : List ℕ) → ((k : ℕ) → (is_in found k ≡ true) ↔ Walked x k)
      → is_in found (binder_number binders x) ≡ is_recursive nodes x
  recursive_walked x found is =
      same_truth (is_in found (binder_number binders x)) (is_recursive nodes x)
      (λ e. (recursive x).1 (itself ((is (binder_number binders x)).0 e)))
      (λ e. (is (binder_number binders x)).1 (walk_to x x ((recursive x).0 e)))
    where
      itself : Walked x (binder_number binders x) → DependsOn nodes x x
      itself w =
          let y = walked_variable x (binder_number binders x) w in
          let same : x ≡ y.0 = one_binder y.0 x binders (to_among y.0 binders y.1) y.2 in
          subst (λ (z : Binder). DependsOn nodes z x) (sym same) y.3
