-- The names of what is waited for.
use Rattle.std.proofs.Common.{◌≡◌, ℕ, suc, ◌+◌, ◌<◌, ◌≤◌, Bool, true, false, not, List, [], ◌∷◌, ◌++◌, Option, None, Some, refl, ap, sym, ◌∙◌, add-one, length, map, drop, get_or, cond, nat_eq, ltb, arith, append_assoc}
use Rattle.std.specs.List.{position, position_or_len}
use Rattle.std.proofs.lemmas.Bool.{le-ltb, lt-ltb, ltb-false, ltb-true}
use Rattle.std.proofs.Math.Seq.{drop-cons}
use Rattle.cu_machine.specs.declared.Waited.{Waited}
use Rattle.cu_machine.specs.declared.Waited.TheVariants.{Named, Other}
use Rattle.cu_machine.specs.Graph.{Graph, head_of}
use Rattle.cu_machine.specs.Next.{goal_for, named}

position_step : (b : Bool) (n len : ℕ) (rest : Option ℕ) → rest ≡ cond (ltb n len) (Some n) None
    → cond b (Some 0) (elim rest [ Some k ↦ Some (k + 1) | None ↦ None ])
    ≡ cond (ltb (cond (not b) (1 + n) 0) (suc len)) (Some (cond (not b) (1 + n) 0)) None
position_step true n len rest is = sym (ap (λ c. cond c (Some 0) None) (lt-ltb 0 (suc len) (omega arith)))
position_step false n len rest is = go (ltb n len) refl
  where
    go : (c : Bool) → ltb n len ≡ c → elim rest [ Some k ↦ Some (k + 1) | None ↦ None ] ≡ cond (ltb (1 + n) (suc len)) (Some (1 + n)) None
    go true below =
        let less : n < len = ltb-true n len below in
        let same : n + 1 ≡ 1 + n = omega arith in
        ap (λ (r : Option ℕ). elim r [ Some k ↦ Some (k + 1) | None ↦ None ]) (is ∙ ap (λ c. cond c (Some n) None) below)
        ∙ ap (λ k. Some k) same
        ∙ sym (ap (λ c. cond c (Some (1 + n)) None) (lt-ltb (1 + n) (suc len) (omega arith)))
    go false past =
        let least : len ≤ n = ltb-false n len past in
        ap (λ (r : Option ℕ). elim r [ Some k ↦ Some (k + 1) | None ↦ None ]) (is ∙ ap (λ c. cond c (Some n) None) past)
        ∙ sym (ap (λ c. cond c (Some (1 + n)) None) (le-ltb (1 + n) (suc len) (omega arith)))

pub goal_position : (graph : Graph) (goals : List ℕ) (id : ℕ) → goal_for graph goals id ≡ position (λ head. nat_eq head id) (map (head_of graph) goals)
goal_position graph [] id = refl
goal_position graph (goal ∷ goals) id =
    position_step (nat_eq (head_of graph goal) id) (position_or_len (λ head. nat_eq head id) (map (head_of graph) goals)) (length (map (head_of graph) goals))
    (goal_for graph goals id) (goal_position graph goals id)

pub goal_found : (graph : Graph) (goals heads : List ℕ) (id : ℕ) (found : Option ℕ) → heads ≡ map (head_of graph) goals
    → found ≡ position (λ head. nat_eq head id) heads → goal_for graph goals id ≡ found
goal_found graph goals heads id found are is = goal_position graph goals id ∙ ap (position (λ head. nat_eq head id)) (sym are) ∙ sym is

abbrev named_by : Graph → List ℕ → ℕ → List ℕ → Option ℕ → List Waited
named_by graph goals next ids (Some k) = Named k ∷ named graph goals next ids
named_by graph goals next ids None = Other next ∷ named graph goals (next + 1) ids

named_step : (graph : Graph) (goals : List ℕ) (next id : ℕ) (ids : List ℕ) → named graph goals next (id ∷ ids) ≡ named_by graph goals next ids (goal_for graph goals id)
named_step graph goals next id ids = go (goal_for graph goals id)
  where
    go : (o : Option ℕ) → elim o [ Some k ↦ Named k ∷ named graph goals next ids | None ↦ Other next ∷ named graph goals (next + 1) ids ] ≡ named_by graph goals next ids o
    go (Some k) = refl
    go None = refl

named_on : (graph : Graph) (goals : List ℕ) (next : ℕ) (ids : List ℕ) (i : ℕ) (names whole rest : List Waited) (name : Waited) → i < length ids
    → names ++ named graph goals next (drop i ids) ≡ whole
    → named_by graph goals next (drop (suc i) ids) (goal_for graph goals (get_or ids i 0)) ≡ name ∷ rest
    → (names ++ name ∷ []) ++ rest ≡ whole
named_on graph goals next ids i names whole rest name within was by =
    append_assoc names (name ∷ []) rest
    ∙ ap (λ later. names ++ later) (sym (ap (named graph goals next) (drop-cons ids i 0 within) ∙ named_step graph goals next (get_or ids i 0) (drop (suc i) ids) ∙ by))
    ∙ was

pub named_goal : (graph : Graph) (goals : List ℕ) (next : ℕ) (ids : List ℕ) (i k : ℕ) (names more whole : List Waited) → i < length ids
    → names ++ named graph goals next (drop i ids) ≡ whole → goal_for graph goals (get_or ids i 0) ≡ Some k → more ≡ names ++ Named k ∷ []
    → more ++ named graph goals next (drop (i + 1) ids) ≡ whole
named_goal graph goals next ids i k names more whole within was is added =
    ap (λ j. more ++ named graph goals next (drop j ids)) (add-one i)
    ∙ ap (λ prefix. prefix ++ named graph goals next (drop (suc i) ids)) added
    ∙ named_on graph goals next ids i names whole (named graph goals next (drop (suc i) ids)) (Named k) within was (ap (named_by graph goals next (drop (suc i) ids)) is)

pub named_other : (graph : Graph) (goals : List ℕ) (next : ℕ) (ids : List ℕ) (i after : ℕ) (names more whole : List Waited) → i < length ids
    → names ++ named graph goals next (drop i ids) ≡ whole → goal_for graph goals (get_or ids i 0) ≡ None → more ≡ names ++ Other next ∷ [] → after ≡ next + 1
    → more ++ named graph goals after (drop (i + 1) ids) ≡ whole
named_other graph goals next ids i after names more whole within was is added then =
    ap (λ n. more ++ named graph goals n (drop (i + 1) ids)) then
    ∙ ap (λ j. more ++ named graph goals (next + 1) (drop j ids)) (add-one i)
    ∙ ap (λ prefix. prefix ++ named graph goals (next + 1) (drop (suc i) ids)) added
    ∙ named_on graph goals next ids i names whole (named graph goals (next + 1) (drop (suc i) ids)) (Other next) within was (ap (named_by graph goals next (drop (suc i) ids)) is)
