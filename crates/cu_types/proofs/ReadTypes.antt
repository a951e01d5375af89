-- Types that are read into a table.
use Rattle.std.proofs.Common.{◌≡◌, ◌≢◌, ℕ, zero, suc, ◌+◌, ◌<◌, ◌≤◌, ◌⊎◌, inl, inr, Bool, cond, List, [], ◌∷◌, ◌++◌, Option, None, Some, length, map, nat_eq, get_or, slice_get, option_map, refl, sym, ap, ◌∙◌, subst, arith, append_assoc, length-append}
use Rattle.std.specs.Option.{option_and_then}
use mathlib.Core.Path.{fun_ext}
use Rattle.std.proofs.lemmas.Bool.{cases_eq, eq-eqb, ne_eqb}
use Rattle.std.proofs.lemmas.Option.{slice_get-get_or, slice_get-map, slice_get_within}
use Rattle.cu_kernel.specs.TypeExpr as type
use Rattle.cu_kernel.specs.TypeExpr.{TypeExpr}
use Rattle.cu_types.proofs.TableLemmas.{map_same, mapped_length, mapped_twice, trees_fit}
use Rattle.cu_types.proofs.Unfolding.{kept_shape, kept_tree, longer, no_more, shape_at_end}
use Rattle.cu_types.proofs.Walks.{applied_built, last_tree, table_pushed}
use Rattle.cu_types.specs.Inside.Closing.{Each, IsWithin, PairIsEqual}
use Rattle.cu_types.specs.Inside.Expanding.{HasArguments}
use Rattle.cu_types.specs.Inside.Reading.{HasVariables, Reads, Stand, bound, bound_at}
use Rattle.cu_types.specs.Inside.Solving.{IsSolution, solved_at}
use Rattle.cu_types.specs.Meaning.{type_at}
use Rattle.cu_types.specs.Table as shape
use Rattle.cu_types.specs.Table.{IsFull, IsTable, MayStand, Shape, at, built, shape_of, tree_over, trees}
use Rattle.cu_types.specs.Types.{Substitution, apply}
use Rattle.cu_types.specs.Unification as made
use Rattle.cu_types.specs.Unification.{Equation, IsMostGeneral, Solves}
use Rattle.cu_types.specs.declared.node.Node.{Node}
use Rattle.cu_types.specs.declared.node.TypeHead.{TypeHead}
use Rattle.cu_types.specs.declared.pair.Pair.{Pair}

-- pushing shapes

pushed_place : (ss : List Shape) (s t : Shape) (k : ℕ) → slice_get (ss ++ s ∷ []) k ≡ Some t
    → (slice_get ss k ≡ Some t) ⊎ ((k ≡ length ss) × (s ≡ t))
pushed_place [] s t zero is = inr (refl, cc)
pushed_place [] s t (suc k) is = let none : ⊥ = cc in absurd none
pushed_place (x ∷ ss) s t zero is = inl is
pushed_place (x ∷ ss) s t (suc k) is = elim (pushed_place ss s t k is) [ inl e ↦ inl e | inr w ↦ inr (ap suc w.0, w.1) ]

pub reads_pushed : (ss after : List Shape) (s : Shape) (t : TypeExpr) (place : ℕ) → after ≡ ss ++ s ∷ [] → place ≡ length ss
    → tree_over (at (trees ss)) s ≡ t → Reads ss after t place
reads_pushed ss after s t place is here value = record {
  more = s ∷ [];
  extends = is;
  within = let long = length-append ss (s ∷ []) in let e : length after ≡ length (ss ++ s ∷ []) = ap length is in omega arith;
  value = ap (at (trees after)) here ∙ ap (λ (xs : List Shape). at (trees xs) (length ss)) is ∙ last_tree ss s ∙ value;
}

-- a type with its arguments is added
applied_not : (h : TypeHead) (ps : List ℕ) (x : ℕ) → shape.Applied h ps ≡ shape.Variable x → ⊥
applied_not h ps x e = let none : ⊥ = cc in none

pub variables_applied : (find : ℕ → Option ℕ) (ss after : List Shape) (h : TypeHead) (ps : List ℕ) → HasVariables find ss
    → IsFull h (length ps) → ((k a : ℕ) → slice_get ps k ≡ Some a → a < length ss) → after ≡ ss ++ shape.Applied h ps ∷ []
    → HasVariables find after
variables_applied find ss after h ps has full within is = record {
  table = subst IsTable (sym is) (table_pushed ss (shape.Applied h ps) has.table (full, (λ a k e. within k a e)));
  known = λ x k e. ap (λ (xs : List Shape). slice_get xs k) is ∙ kept_shape ss (shape.Applied h ps ∷ []) k (shape.Variable x) (has.known x k e);
  only = λ k x e. elim (pushed_place ss (shape.Applied h ps) (shape.Variable x) k (ap (λ (xs : List Shape). slice_get xs k) (sym is) ∙ e)) [
    | inl at_k ↦ has.only k x at_k
    | inr w ↦ absurd (applied_not h ps x w.1)
  ];
}

-- a variable is added
same_variable : (x y : ℕ) → shape.Variable x ≡ shape.Variable y → x ≡ y
same_variable x y e = cc

pub variables_added : (find then : ℕ → Option ℕ) (ss after : List Shape) (x : ℕ) → HasVariables find ss → find x ≡ None
    → ((y : ℕ) → then y ≡ cond (nat_eq x y) (Some (length ss)) (find y)) → after ≡ ss ++ shape.Variable x ∷ [] → HasVariables then after
variables_added find then ss after x has none changed is = record {
  table = subst IsTable (sym is) (table_pushed ss (shape.Variable x) has.table tt);
  known = λ y k e. elim (cases_eq x y) [
    | inl same ↦
        let e2 : Some (length ss) ≡ Some k = sym (changed y ∙ ap (λ (b : Bool). cond b (Some (length ss)) (find y)) (eq-eqb x y same)) ∙ e in
        let at_end : length ss ≡ k = cc in
        ap (λ (xs : List Shape). slice_get xs k) is ∙ ap (slice_get (ss ++ shape.Variable x ∷ [])) (sym at_end)
        ∙ shape_at_end ss (shape.Variable x) ∙ ap (λ (v : ℕ). Some (shape.Variable v)) same
    | inr other ↦
        let e2 : find y ≡ Some k = sym (changed y ∙ ap (λ (b : Bool). cond b (Some (length ss)) (find y)) (ne_eqb x y other)) ∙ e in
        ap (λ (xs : List Shape). slice_get xs k) is ∙ kept_shape ss (shape.Variable x ∷ []) k (shape.Variable y) (has.known y k e2)
  ];
  only = λ k y e. elim (pushed_place ss (shape.Variable x) (shape.Variable y) k (ap (λ (xs : List Shape). slice_get xs k) (sym is) ∙ e)) [
    | inl at_k ↦
        let found : find y ≡ Some k = has.only k y at_k in
        let other : x ≢ y = λ same. let e2 : None ≡ Some k = sym none ∙ ap find same ∙ found in (let never : ⊥ = cc in never) in
        changed y ∙ ap (λ (b : Bool). cond b (Some (length ss)) (find y)) (ne_eqb x y other) ∙ found
    | inr w ↦ changed y ∙ ap (λ (b : Bool). cond b (Some (length ss)) (find y)) (eq-eqb x y (same_variable x y w.1)) ∙ ap Some (sym w.0)
  ];
}

pub reads_known : (find : ℕ → Option ℕ) (ss : List Shape) (x k : ℕ) → HasVariables find ss → find x ≡ Some k
    → Reads ss ss (type.Variable x) k
reads_known find ss x k has is = record {
  more = [];
  extends = no_more ss;
  within = slice_get_within ss k (shape.Variable x) (has.known x k is);
  value = trees_fit ss k (shape.Variable x) has.table (has.known x k is);
}

applied_shape : (s : Shape) (h : TypeHead) (ps : List ℕ) → HasArguments s h ps → s ≡ shape.Applied h ps
applied_shape (shape.Variable x) h ps has = absurd has
applied_shape (shape.Applied g qs) h ps has = ap (λ (k : TypeHead). shape.Applied k qs) has.0 ∙ ap (shape.Applied h) has.1

-- a node with the same head and arguments at the same places stands there already
pub place_has : (nodes : List Node) (place : ℕ) (x : Node) (h : TypeHead) (ps : List ℕ) → slice_get nodes place ≡ Some x
    → HasArguments (shape_of x) h ps → slice_get (map shape_of nodes) place ≡ Some (shape.Applied h ps)
place_has nodes place x h ps is has =
    slice_get-map shape_of nodes place ∙ ap (option_map shape_of) is ∙ ap Some (applied_shape (shape_of x) h ps has)

pub reads_applied : (ss : List Shape) (h : TypeHead) (ps : List ℕ) (place : ℕ) → IsTable ss
    → slice_get ss place ≡ Some (shape.Applied h ps) → Reads ss ss (built h (map (at (trees ss)) ps)) place
reads_applied ss h ps place table is = record {
  more = [];
  extends = no_more ss;
  within = slice_get_within ss place (shape.Applied h ps) is;
  value = trees_fit ss place (shape.Applied h ps) table is;
}

-- what was read stands as it did
pub reads_kept : (ss after last : List Shape) (more : List Shape) (t : TypeExpr) (place : ℕ) → last ≡ after ++ more → Reads ss after t place
    → Reads ss last t place
reads_kept ss after last more t place is r = record {
  more = r.more ++ more;
  extends = is ∙ ap (λ (xs : List Shape). xs ++ more) r.extends ∙ append_assoc ss r.more more;
  within = let long : length after ≤ length last = longer after last more is in let here : place < length after = r.within in omega arith;
  value = kept_tree after last more place is r.within ∙ r.value;
}

-- A most general solution

-- a type under the substitution is what it becomes
becomes_below : (n : ℕ) (find : ℕ → Option ℕ) (equations : List Equation) (ss : List Shape) (given : List Pair) (found : List ℕ)
    (made : List Shape) → HasVariables find ss → IsSolution equations ss given found made → (k : ℕ) (s : Shape) → k < n
    → slice_get ss k ≡ Some s → apply (bound find found made) (at (trees ss) k) ≡ solved_at found made k
becomes_below zero find equations ss given found made has solution k s below is = absurd (omega arith)
becomes_below (suc n) find equations ss given found made has solution k (shape.Variable x) below is =
    ap (apply (bound find found made)) (trees_fit ss k (shape.Variable x) has.table is)
    ∙ ap (bound_at found made x) (has.only k x is)
becomes_below (suc n) find equations ss given found made has solution k (shape.Applied h ps) below is =
    let may = has.table.stand k (shape.Applied h ps) is in
    let full : IsFull h (length (map (at (trees ss)) ps)) = subst (IsFull h) (sym (mapped_length (at (trees ss)) ps)) may.0 in
    let within : k < length ss = slice_get_within ss k (shape.Applied h ps) is in
    ap (apply (bound find found made)) (trees_fit ss k (shape.Applied h ps) has.table is)
    ∙ applied_built (bound find found made) h (map (at (trees ss)) ps) full
    ∙ ap (built h) (mapped_twice (apply (bound find found made)) (at (trees ss)) ps
    ∙ map_same (λ a. apply (bound find found made) (at (trees ss) a)) (solved_at found made) ps
    (λ a j e.
    let lower : a < k = may.1 a j e in
    becomes_below n find equations ss given found made has solution a (get_or ss a (shape.Variable 0)) (omega arith)
    (slice_get-get_or ss a (shape.Variable 0) (omega arith))))
    ∙ sym (solution.over k h ps is)

pub becomes_all : (find : ℕ → Option ℕ) (equations : List Equation) (ss : List Shape) (given : List Pair) (found : List ℕ)
    (made : List Shape) → HasVariables find ss → IsSolution equations ss given found made → (k : ℕ) → k < length ss
    → apply (bound find found made) (at (trees ss) k) ≡ solved_at found made k
becomes_all find equations ss given found made has solution k within =
    becomes_below (suc k) find equations ss given found made has solution k (get_or ss k (shape.Variable 0)) (omega arith)
    (slice_get-get_or ss k (shape.Variable 0) within)

solves_from : (σ : Substitution) (ss : List Shape) (ps : List Pair) (es : List Equation) → Stand ss ps es
    → Each (λ p. (p.left < length ss) → (p.right < length ss) → apply σ (at (trees ss) p.left) ≡ apply σ (at (trees ss) p.right)) ps
    → (k : ℕ) (e : Equation) → slice_get es k ≡ Some e → apply σ e.left ≡ apply σ e.right
solves_from σ ss [] [] stand joins k e is = let none : ⊥ = cc in absurd none
solves_from σ ss [] (f ∷ es) stand joins k e is = absurd stand
solves_from σ ss (p ∷ ps) [] stand joins k e is = absurd stand
solves_from σ ss (p ∷ ps) (f ∷ es) stand joins zero e is =
    let same : f ≡ e = cc in
    subst (λ (g : Equation). apply σ g.left ≡ apply σ g.right) same
    (sym (ap (apply σ) stand.2) ∙ joins.0 stand.0 stand.1 ∙ ap (apply σ) stand.3)
solves_from σ ss (p ∷ ps) (f ∷ es) stand joins (suc k) e is = solves_from σ ss ps es stand.4 joins.1 k e is

each_more : (P Q : Pair → Type 0) (ps : List Pair) → ((p : Pair) → P p → Q p) → Each P ps → Each Q ps
each_more P Q [] more all = tt
each_more P Q (p ∷ ps) more all = (more p all.0, each_more P Q ps more all.1)

instance_at : (find : ℕ → Option ℕ) (equations : List Equation) (ss : List Shape) (given : List Pair) (found : List ℕ)
    (made : List Shape) (τ : Substitution) (x : ℕ) (o : Option ℕ) → HasVariables find ss → IsSolution equations ss given found made
    → Solves τ equations → find x ≡ o → τ x ≡ apply τ (bound_at found made x o)
instance_at find equations ss given found made τ x None has solution solves is = refl
instance_at find equations ss given found made τ x (Some k) has solution solves is =
    let at_k : slice_get ss k ≡ Some (shape.Variable x) = has.known x k is in
    sym (ap (apply τ) (trees_fit ss k (shape.Variable x) has.table at_k))
    ∙ sym (solution.general τ solves k (slice_get_within ss k (shape.Variable x) at_k))

pub most_general : (find : ℕ → Option ℕ) (equations : List Equation) (ss : List Shape) (given : List Pair) (found : List ℕ)
    (made : List Shape) → HasVariables find ss → Stand ss given equations → IsSolution equations ss given found made
    → IsMostGeneral (bound find found made) equations
most_general find equations ss given found made has stand solution = record {
  solves = solves_from (bound find found made) ss given equations stand
      (each_more (λ p. solved_at found made p.left ≡ solved_at found made p.right)
      (λ p. (p.left < length ss) → (p.right < length ss)
      → apply (bound find found made) (at (trees ss) p.left) ≡ apply (bound find found made) (at (trees ss) p.right)) given
      (λ p same l r. becomes_all find equations ss given found made has solution p.left l ∙ same
      ∙ sym (becomes_all find equations ss given found made has solution p.right r)) solution.joins);
  general = λ τ solves. (τ, (λ x. instance_at find equations ss given found made τ x (find x) has solution solves refl));
}

-- equations of pairs that stand for them

equal_from : (ss : List Shape) (all es : List Equation) (ps : List Pair) (n : ℕ) → Stand ss ps es
    → ((k : ℕ) (e : Equation) → slice_get es k ≡ Some e → slice_get all (n + k) ≡ Some e)
    → Each (PairIsEqual all (trees ss)) ps
equal_from ss all [] [] n stand there = tt
equal_from ss all (e ∷ es) [] n stand there = absurd stand
equal_from ss all [] (p ∷ ps) n stand there = absurd stand
equal_from ss all (e ∷ es) (p ∷ ps) n stand there = (
  subst (λ (t : TypeExpr). made.MadeEqual all t (at (trees ss) p.right)) (sym stand.2)
      (subst (λ (t : TypeExpr). made.MadeEqual all e.left t) (sym stand.3) (made.given (n + 0) e (there 0 e refl))),
  equal_from ss all es ps (n + 1) stand.4
      (λ k f at_k. let same : (n + 1) + k ≡ n + suc k = omega arith in ap (slice_get all) same ∙ there (suc k) f at_k),
)

pub pairs_equal : (ss : List Shape) (equations : List Equation) (ps : List Pair) → Stand ss ps equations
    → Each (PairIsEqual equations (trees ss)) ps
pairs_equal ss equations ps stand =
    equal_from ss equations equations ps 0 stand (λ k e at_k. let same : 0 + k ≡ k = omega arith in ap (slice_get equations) same ∙ at_k)

pub stand_within : (ss : List Shape) (ps : List Pair) (es : List Equation) → Stand ss ps es → Each (IsWithin (length ss)) ps
stand_within ss [] [] stand = tt
stand_within ss [] (e ∷ es) stand = absurd stand
stand_within ss (p ∷ ps) [] stand = absurd stand
stand_within ss (p ∷ ps) (e ∷ es) stand = ((stand.0, stand.1), stand_within ss ps es stand.4)

pub stand_kept : (ss after more : List Shape) (ps : List Pair) (es : List Equation) → after ≡ ss ++ more → Stand ss ps es → Stand after ps es
stand_kept ss after more [] [] is stand = tt
stand_kept ss after more [] (e ∷ es) is stand = absurd stand
stand_kept ss after more (p ∷ ps) [] is stand = absurd stand
stand_kept ss after more (p ∷ ps) (e ∷ es) is stand =
    let long : length ss ≤ length after = longer ss after more is in
    let left : p.left < length ss = stand.0 in
    let right : p.right < length ss = stand.1 in (
      omega arith,
      omega arith,
      kept_tree ss after more p.left is stand.0 ∙ stand.2,
      kept_tree ss after more p.right is stand.1 ∙ stand.3,
      stand_kept ss after more ps es is stand.4,
    )

pub stand_more : (ss : List Shape) (ps : List Pair) (es : List Equation) (p : Pair) (e : Equation) → Stand ss ps es
    → p.left < length ss → p.right < length ss → at (trees ss) p.left ≡ e.left → at (trees ss) p.right ≡ e.right
    → Stand ss (ps ++ p ∷ []) (es ++ e ∷ [])
stand_more ss [] [] p e stand l r el er = (l, r, el, er, tt)
stand_more ss [] (f ∷ es) p e stand l r el er = absurd stand
stand_more ss (q ∷ ps) [] p e stand l r el er = absurd stand
stand_more ss (q ∷ ps) (f ∷ es) p e stand l r el er = (stand.0, stand.1, stand.2, stand.3, stand_more ss ps es p e stand.4 l r el er)

-- one more equation
pub stand_read : (ss mid after : List Shape) (ps qs : List Pair) (es fs : List Equation) (e : Equation) (l r : ℕ) → Stand ss ps es
    → Reads ss mid e.left l → Reads mid after e.right r → qs ≡ ps ++ (record { left = l; right = r }) ∷ [] → fs ≡ es ++ e ∷ []
    → Stand after qs fs
stand_read ss mid after ps qs es fs e l r stand left right pushed is =
    let kept : Reads ss after e.left l = reads_kept ss mid after right.more e.left l right.extends left in
    subst (λ (xs : List Pair). Stand after xs fs) (sym pushed)
    (subst (Stand after (ps ++ (record { left = l; right = r }) ∷ [])) (sym is)
    (stand_more after ps es (record { left = l; right = r }) e (stand_kept ss after kept.more ps es kept.extends stand)
    kept.within right.within kept.value right.value))

-- a solution by places that are there
same_type_at : (find : ℕ → Option ℕ) (ss : List Shape) (found : List ℕ) (made : List Shape) (x : ℕ) (o : Option ℕ)
    → ((k : ℕ) → o ≡ Some k → k < length found) → bound_at found made x o ≡ type_at made x (option_and_then (slice_get found) o)
same_type_at find ss found made x None within = refl
same_type_at find ss found made x (Some k) within =
    ap (type_at made x) (sym (slice_get-get_or found k 0 (within k refl)))

pub most_general_places : (find : ℕ → Option ℕ) (equations : List Equation) (ss : List Shape) (given : List Pair) (found : List ℕ)
    (made : List Shape) → HasVariables find ss → Stand ss given equations → IsSolution equations ss given found made
    → IsMostGeneral (λ x. type_at made x (option_and_then (slice_get found) (find x))) equations
most_general_places find equations ss given found made has stand solution =
    subst (λ (σ : Substitution). IsMostGeneral σ equations)
    (fun_ext (λ x. same_type_at find ss found made x (find x)
    (λ k is.
    let sized : length found ≡ length ss = solution.sized in
    let within : k < length ss = slice_get_within ss k (shape.Variable x) (has.known x k is) in
    omega arith)))
    (most_general find equations ss given found made has stand solution)
