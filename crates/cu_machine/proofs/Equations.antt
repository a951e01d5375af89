-- The rows of `==` and `=:=`, and with them all rows, keep graphs fine.
use Rattle.std.proofs.Common.{◌≡◌, ◌≢◌, ℕ, zero, suc, ◌+◌, ◌-◌, ◌<◌, ◌≤◌, inl, inr, Bool, true, false, ◌&&◌, ◌||◌, List, [], ◌∷◌, ◌++◌, if◌then◌else◌, refl, ap, sym, ◌∙◌, subst, true≢false, length, map, nat_eq, nat_lt, nat_le, arith, eq-eqb, eqb-true, leb-true}
use Rattle.std.specs.List.{list_all, zip}
use Rattle.std.proofs.lemmas.Bool.{cases_lt}
use Rattle.std.proofs.lemmas.List.{get_or_past}
use Rattle.cu_calculus.specs.declared.ConId.{ConId}
use Rattle.cu_calculus.specs.declared.FunId.{FunId}
use Rattle.cu_calculus.specs.declared.Head.TheVariants as head
use Rattle.cu_calculus.specs.declared.builtin.Primitive.{Primitive}
use Rattle.cu_calculus.specs.declared.builtin.Primitive.TheVariants as prim
use Rattle.cu_calculus.specs.Code.{Code, arity_of, expr_of}
use Rattle.cu_calculus.specs.Literal.{is_literal, same_literal}
use Rattle.cu_calculus.specs.Match.{same_constructor}
use Rattle.cu_calculus.specs.Shape.{are_data, takes, takes_more}
use Rattle.cu_calculus.specs.Value.{Value, Values, count, values_of}
use Rattle.cu_calculus.specs.WellFormed.{is_allowed}
use Rattle.cu_machine.specs.declared.Kind.{Kind}
use Rattle.cu_machine.specs.declared.Kind.TheVariants as kind
use Rattle.cu_machine.specs.Build.{Built, Fresh, build_alone, place_of, pushed, written}
use Rattle.cu_machine.specs.Graph.{Graph, Node, head_at, head_of, node_at, put, renaming, stuck}
use Rattle.cu_machine.specs.Rewrite.{Collect, binding_step, build_pairs, comparison_step, decomposition_step, failing_step, imitation_step, joined_from_right, move, occurs_in, operation_step, pair_nodes, pairwise_step, rewrite_step, set_call_step, stuck_step, truth_step, unification_step}
use Rattle.cu_machine.specs.Spell.{spelled, spelled_at, spelled_within}
use Rattle.cu_machine.specs.State.{free_nodes, numbers}
use Rattle.cu_machine.specs.Validity.{AllPlain, NodesFit, has_arguments, is_plain, more, none}
use Rattle.cu_machine.proofs.Frames.{AllGood, Closed, Fine, Frame, GoodBuilt, all_there_below, at_new, at_old, at_same, is_there, length_written, or_right, passes, place_there, pushed_good, same_or_other, there_is, there_new}
use Rattle.cu_machine.proofs.Building.{CodeGood, after_good}
use Rattle.cu_machine.proofs.Fuel.{both_true, left_true, right_true}
use Rattle.cu_machine.proofs.Moves.{HeadGood, applied_good, bound_cons_good, case_of_good, chosen_good, computed_good, conjoined_good, fits_literal, free_at_place, head_good, length_free, numbers_there, tells_or_fails, unfolded_good, whole_literal}
use Rattle.cu_machine.proofs.Rows.{Base, beneath, CollectGood, GraphGood, MoveGood, code_special, fails_good, fit_values, fits_value, frame_of, graph_good, plain_as, put_is_written, sticks_good, tells_good, written_good}

-- ---- pairs

abbrev pub both_pass : (ℕ → Bool) → ℕ × ℕ → Bool
both_pass p pair = p pair.0 && p pair.1

pub zip_passes : (p : ℕ → Bool) (us vs : List ℕ) → list_all p us ≡ true → list_all p vs ≡ true → list_all (both_pass p) (zip us vs) ≡ true
zip_passes p [] vs a b = refl
zip_passes p (u ∷ us) [] a b = refl
zip_passes p (u ∷ us) (v ∷ vs) a b =
    both_true (p u && p v) (list_all (both_pass p) (zip us vs))
    (both_true (p u) (p v) (left_true (p u) (list_all p us) a) (left_true (p v) (list_all p vs) b))
    (zip_passes p us vs (right_true (p u) (list_all p us) a) (right_true (p v) (list_all p vs) b))

pub length_pairs : (each : Kind) (pairs : List (ℕ × ℕ)) → length (pair_nodes each pairs) ≡ length pairs
length_pairs each [] = refl
length_pairs each ((a, b) ∷ pairs) = ap suc (length_pairs each pairs)

-- the arguments of a node over a pair
pub pair_there : (f : Frame) (place a b : ℕ) → (f.below a && f.below b) ≡ true → list_all (is_there f place) (a ∷ b ∷ []) ≡ true
pair_there f place a b low =
    all_there_below f place (a ∷ b ∷ [])
    (both_true (f.below a) (f.below b && true) (left_true (f.below a) (f.below b) low) (both_true (f.below b) true (right_true (f.below a) (f.below b) low) refl))

pub pair_nodes_good : (f : Frame) (place : ℕ) (each : Kind) (pairs : List (ℕ × ℕ)) → has_arguments f.program each 2 ≡ true → passes f.sets each ≡ true
    → list_all (both_pass f.below) pairs ≡ true → AllGood f place (pair_nodes each pairs)
pair_nodes_good f place each [] whole passing low = tt
pair_nodes_good f place each ((a, b) ∷ pairs) whole passing low = (
  record { whole = whole; passing = passing; there = pair_there f place a b (left_true (f.below a && f.below b) (list_all (both_pass f.below) pairs) low) },
  pair_nodes_good f (suc place) each pairs whole passing (right_true (f.below a && f.below b) (list_all (both_pass f.below) pairs) low),
)

pub joined_good : (f : Frame) (joint : Kind) (next id k : ℕ) → has_arguments f.program joint 2 ≡ true → passes f.sets joint ≡ true
    → f.first ≤ id → id + k < next → GoodBuilt f next (joined_from_right joint next id k)
joined_good f joint next id zero whole passing low high = record { parts = tt; top = there_new f (next + 0) id low (omega arith) }
joined_good f joint next id (suc k) whole passing low high =
    let rest = joined_from_right joint next (id + 1) k in
    let good : GoodBuilt f next rest = joined_good f joint next (id + 1) k whole passing (omega arith) (omega arith) in
    let place = next + length (pushed rest) in
    record {
      parts = pushed_good f next rest good;
      top = record {
        whole = whole;
        passing = passing;
        there = both_true (is_there f place id) (is_there f place (place_of next rest) && true) (there_new f place id low (omega arith))
            (both_true (is_there f place (place_of next rest)) true (place_there f next rest (omega arith) good) refl);
      };
    }

pub build_pairs_good : (f : Frame) (each joint : Kind) (pair : ℕ × ℕ) (pairs : List (ℕ × ℕ)) → has_arguments f.program each 2 ≡ true → passes f.sets each ≡ true
    → has_arguments f.program joint 2 ≡ true → passes f.sets joint ≡ true → list_all (both_pass f.below) (pair ∷ pairs) ≡ true
    → GoodBuilt f f.first (build_pairs each joint f.first pair pairs)
build_pairs_good f each joint (a, b) [] whole passing whole_joint passing_joint low = record {
  parts = tt;
  top = record { whole = whole; passing = passing; there = pair_there f (f.first + 0) a b (left_true (f.below a && f.below b) true low) };
}
build_pairs_good f each joint pair (other ∷ pairs) whole passing whole_joint passing_joint low =
    let nodes = pair_nodes each (pair ∷ other ∷ pairs) in
    let count : length nodes ≡ suc (suc (length pairs)) = length_pairs each (pair ∷ other ∷ pairs) in
    after_good f f.first nodes (joined_from_right joint (f.first + length nodes) f.first (length pairs + 1))
    (pair_nodes_good f f.first each (pair ∷ other ∷ pairs) whole passing low)
    (joined_good f joint (f.first + length nodes) f.first (length pairs + 1) whole_joint passing_joint (omega arith) (omega (arith, count)))

pub or_no : (a b : Bool) → a ≡ false → b ≡ false → (a || b) ≡ false
or_no a b x y = rw (x, y) refl

pub left_no : (a b : Bool) → a ≡ false → (a && b) ≡ false
left_no a b x = rw x refl

pub past_no : (a b : ℕ) → b < a → nat_le a b ≡ false
past_no a b less = go (nat_le a b) refl
  where
    go : (c : Bool) → nat_le a b ≡ c → c ≡ false
    go true is = let low : a ≤ b = leb-true a b is in let none_left : ⊥ = omega arith in absurd none_left
    go false is = refl

pub differ_if : (a b : ℕ) (c : Bool) → nat_eq a b ≡ c → b ≢ a → c ≡ false
differ_if a b true is apart = absurd (apart (sym (eqb-true a b is)))
differ_if a b false is apart = refl

pub no_list : (xs : List ℕ) → nat_eq (length xs) 0 ≡ true → xs ≡ []
no_list [] same = refl
no_list (x ∷ xs) same = let is : suc (length xs) ≡ 0 = eqb-true (suc (length xs)) 0 same in let none_left : ⊥ = omega arith in absurd none_left

pub differ : (a b : ℕ) → b ≢ a → nat_eq a b ≡ false
differ a b apart = differ_if a b (nat_eq a b) refl apart

-- ---- a head and its place

pub record HeadIs (program : Code) (graph : Graph) (p : ℕ → Bool) (v : ℕ) (k : Kind) (args : List ℕ) : Type 0 where
  pub there : v < length graph
  pub low : p v ≡ true
  pub kind_is : (node_at graph v).kind ≡ k
  pub args_are : (node_at graph v).args ≡ args
  pub whole : has_arguments program k (length args) ≡ true
  pub below : list_all p args ≡ true

-- a graph after a plain node was replaced
pub base_after : (program : Code) (sets : Bool) (graph : Graph) (goals : List ℕ) (n id : ℕ) (p q : ℕ → Bool) (v : ℕ) (built : Built)
    → Base program sets graph goals n id p → GraphGood program sets goals n (written graph v built) → id ≢ v → Closed q (written graph v built) → q id ≡ false
    → Base program sets (written graph v built) goals n id q
base_after program sets graph goals n id p q v built base good other closed apart = record {
  code = base.code;
  fine = good.fine;
  plain = good.plain;
  longer = good.longer;
  here = let old = base.here in omega (arith, length_written graph v built);
  unplain = ap (λ (node : Node). is_plain node.kind) (at_old graph v built id base.here other) ∙ base.unplain;
  closed = closed;
  apart = apart;
}

pub in_pairs_at : (program : Code) (sets : Bool) (graph : Graph) (goals : List ℕ) (n id : ℕ) (p : ℕ → Bool) → Base program sets graph goals n id p
    → (each joint : Kind) (pairs : List (ℕ × ℕ)) → has_arguments program each 2 ≡ true → passes sets each ≡ true
    → has_arguments program joint 2 ≡ true → passes sets joint ≡ true → list_all (both_pass p) pairs ≡ true
    → MoveGood program sets goals n (pairwise_step program.special each joint graph id pairs)
in_pairs_at program sets graph goals n id p base each joint [] whole passing whole_joint passing_joint low = tells_good program sets graph goals n id p base true
in_pairs_at program sets graph goals n id p base each joint (pair ∷ pairs) whole passing whole_joint passing_joint low = (
  written_good program sets graph goals n id p (build_pairs each joint (length graph) pair pairs) base
      (build_pairs_good (frame_of program sets graph p) each joint pair pairs whole passing whole_joint passing_joint low),
  tt,
)

-- where a free variable was bound to a constructor over new ones, what was below, and the new ones,
-- have their arguments there
pub imitated_closed : (program : Code) (sets : Bool) (graph : Graph) (p : ℕ → Bool) (v k : ℕ) (node : Node) → Closed p graph → v < length graph
    → node.args ≡ numbers (length graph) k
    → Closed (is_there (frame_of program sets graph p) (length graph + k)) (written graph v (record { parts = free_nodes k; top = Fresh node }))
imitated_closed program sets graph p v k node closed here args x there =
    elim (there_is (frame_of program sets graph p) graph (length graph + k) x refl closed there) [
      | inl low ↦ elim (same_or_other x v) [
        | inl same ↦
            let old = (closed x low).0 in (
              omega (arith, length_written graph v built, length_free k),
              subst (λ (m : Node). list_all q m.args ≡ true) (sym (ap (node_at (written graph v built)) same ∙ at_same graph v built here))
                  (subst (λ (ys : List ℕ). list_all q ys ≡ true) (sym args)
                  (numbers_there (frame_of program sets graph p) (length graph + k) (length graph) k (omega arith) (omega arith))),
            )
        | inr other ↦
            let old = (closed x low).0 in (
              omega (arith, length_written graph v built, length_free k),
              subst (λ (m : Node). list_all q m.args ≡ true) (sym (at_old graph v built x old other))
                  (all_there_below (frame_of program sets graph p) (length graph + k) (node_at graph x).args (closed x low).1),
            )
      ]
      | inr new ↦
          let i = x - length graph in
          let is : x ≡ length graph + i = omega (arith, new.0) in
          let within : i < k = omega (arith, new.0, new.1) in (
            omega (arith, new.1, length_written graph v built, length_free k),
            subst (λ (m : Node). list_all q m.args ≡ true)
                (sym (ap (node_at (written graph v built)) is ∙ at_new graph v built i here ∙ free_at_place k i within)) refl,
          )
    ]
  where
    built : Built
    built = record { parts = free_nodes k; top = Fresh node }

    q : ℕ → Bool
    q = is_there (frame_of program sets graph p) (length graph + k)

pub unlike_places : (graph : Graph) (v w : ℕ) (k l : Kind) → (node_at graph v).kind ≡ k → (node_at graph w).kind ≡ l → (k ≡ l → ⊥) → v ≡ w → ⊥
unlike_places graph v w k l one two unlike same = unlike (sym one ∙ ap (λ (x : ℕ). (node_at graph x).kind) same ∙ two)

pub or_false : (a : Bool) → (a || false) ≡ true → a ≡ true
or_false true h = refl
or_false false h = h

-- ---- values that are spelled

pub count_values : (part : ℕ → Value) (args : List ℕ) → count (values_of (map part args)) ≡ length args
count_values part [] = refl
count_values part (x ∷ xs) = ap (λ k. k + 1) (count_values part xs) ∙ omega arith

pub values_fit : (program : Code) (part : ℕ → Value) (args : List ℕ) → ((x : ℕ) → fits_value program (part x) ≡ true)
    → fit_values program (values_of (map part args)) ≡ true
values_fit program part [] each = refl
values_fit program part (x ∷ xs) each =
    both_true (fits_value program (part x)) (fit_values program (values_of (map part xs))) (each x) (values_fit program part xs each)

pub spelled_at_fits : (program : Code) (part : ℕ → Value) (id : ℕ) (k : Kind) (args : List ℕ) → ((x : ℕ) → fits_value program (part x) ≡ true)
    → has_arguments program k (length args) ≡ true → fits_value program (spelled_at part id k args) ≡ true
spelled_at_fits program part id (kind.Cons c) args each whole =
    both_true (takes (arity_of program (head.Con c)) (count (values_of (map part args)))) (fit_values program (values_of (map part args)))
    (subst (λ (m : ℕ). takes (arity_of program (head.Con c)) m ≡ true) (sym (count_values part args)) whole) (values_fit program part args each)
spelled_at_fits program part id (kind.Lit l) args each whole = left_true (is_literal l) (nat_eq (length args) 0) whole
spelled_at_fits program part id (kind.Part h) args each whole =
    both_true (is_allowed program h && takes_more (arity_of program h) (count (values_of (map part args)))) (fit_values program (values_of (map part args)))
    (subst (λ (m : ℕ). (is_allowed program h && takes_more (arity_of program h) m) ≡ true) (sym (count_values part args)) whole) (values_fit program part args each)
spelled_at_fits program part id _ args each whole = refl

-- every place has a node of the program: past the end it is a stuck one
pub node_whole : (program : Code) (graph : Graph) → NodesFit program graph → (x : ℕ) → has_arguments program (node_at graph x).kind (length (node_at graph x).args) ≡ true
node_whole program graph nodes x = elim (cases_lt x (length graph)) [
  | inl less ↦ nodes x less
  | inr past ↦ subst (λ (m : Node). has_arguments program m.kind (length m.args) ≡ true) (sym (get_or_past graph x stuck past)) refl
]

pub spelled_fits : (program : Code) (graph : Graph) → NodesFit program graph → (depth x : ℕ) → fits_value program (spelled_within depth graph x) ≡ true
unfolding spelled_within
spelled_fits program graph nodes zero x = refl
spelled_fits program graph nodes (suc depth) x =
    spelled_at_fits program (spelled_within depth graph) (head_of graph x) (head_at graph x).kind (head_at graph x).args (spelled_fits program graph nodes depth)
    (node_whole program graph nodes (head_of graph x))

module _ (program : Code) (sets : Bool) (graph : Graph) (goals : List ℕ) (n id : ℕ) (p : ℕ → Bool) (base : Base program sets graph goals n id p) where
  -- ---- `==`

  pub compared_if : (us vs : List ℕ) (same : Bool) → list_all p us ≡ true → list_all p vs ≡ true
      → MoveGood program sets goals n
      (if same then pairwise_step program.special (kind.Prim prim.Equal) (kind.Call program.special.both) graph id (zip us vs) else truth_step program.special graph id false)
  compared_if us vs true low lows =
      in_pairs_at program sets graph goals n id p base (kind.Prim prim.Equal) (kind.Call program.special.both) (zip us vs) refl (or_right sets true refl) (code_special program sets base.code).both
      (or_right sets true refl) (zip_passes p us vs low lows)
  compared_if us vs false low lows = tells_good program sets graph goals n id p base false

  pub compared_good : (k l : Kind) (us vs : List ℕ) → list_all p us ≡ true → list_all p vs ≡ true
      → MoveGood program sets goals n (comparison_step program.special graph id k us l vs)
  compared_good (kind.Cons c) (kind.Cons d) us vs low lows = compared_if us vs (same_constructor c d) low lows
  compared_good (kind.Lit l) (kind.Lit m) us vs low lows = tells_good program sets graph goals n id p base (same_literal l m)
  compared_good (kind.Lit l) (kind.Cons d) us vs low lows = tells_good program sets graph goals n id p base false
  compared_good (kind.Cons c) (kind.Lit m) us vs low lows = tells_good program sets graph goals n id p base false
  compared_good _ _ us vs low lows = fails_good program sets graph goals n id p base

  -- ---- `=:=`

  pub apart_from_plain : (v : ℕ) → is_plain (node_at graph v).kind ≡ true → id ≢ v
  apart_from_plain v is =
      λ same. let none_left : ⊥ = true≢false (sym is ∙ ap (λ (x : ℕ). is_plain (node_at graph x).kind) (sym same) ∙ base.unplain) in none_left

  -- a free variable becomes another name of a node without arguments
  pub renames_good : (v other : ℕ) → v < length graph → other < length graph → v ≢ other → is_plain (node_at graph v).kind ≡ true
      → is_plain (node_at graph other).kind ≡ true → (node_at graph other).args ≡ [] → MoveGood program sets goals n (binding_step program.special graph id v other)
  renames_good v other here there apart plain_v plain_other no_args =
      let built = build_alone (renaming other) in
      let q = λ (x : ℕ). nat_eq other x in
      let closed : Closed q graph =
      λ x same. let is : other ≡ x = eqb-true other x same in (
        subst (λ (y : ℕ). y < length graph) is there,
        subst (λ (y : ℕ). list_all q (node_at graph y).args ≡ true) is (subst (λ (ys : List ℕ). list_all q ys ≡ true) (sym no_args) refl),
      ) in
      let unlike : q v ≡ false = differ other v apart in
      let renamed : GraphGood program sets goals n (written graph v built) =
      graph_good (frame_of program sets graph q) graph goals n v built refl base.fine base.plain base.longer here closed unlike
      (record {
        parts = tt;
        top = record { whole = refl; passing = or_right sets true refl; there = all_there_below (frame_of program sets graph q) (length graph + 0) (other ∷ []) (both_true (q other) true (eq-eqb other other refl) refl) };
      })
      (λ is.
      plain_as (written graph v built) v (renaming other) (at_same graph v built here) refl
      (more other []
      (plain_as (written graph v built) other (node_at graph other) (at_old graph v built other there (λ same. apart (sym same))) plain_other
      (subst (λ (ys : List ℕ). AllPlain (written graph v built) ys) (sym no_args) none))
      none)) in
      let after_it : Base program sets (written graph v built) goals n id (λ x. false) =
      base_after program sets graph goals n id p (λ x. false) v built base renamed (apart_from_plain v plain_v)
      (λ x low. let none_left : ⊥ = true≢false (sym low) in absurd none_left) refl in
      subst (λ (g : Graph). MoveGood program sets goals n (truth_step program.special g id true)) (put_is_written graph v (renaming other))
      (tells_good program sets (written graph v built) goals n id (λ x. false) after_it true)

  -- a free variable becomes a constructor over new ones, which are equated with the arguments
  pub imitates_if : (v : ℕ) (c : ConId) (arg : ℕ) (args : List ℕ) (occurs : Bool) → v < length graph → is_plain (node_at graph v).kind ≡ true
      → takes (arity_of program (head.Con c)) (suc (length args)) ≡ true → list_all p (arg ∷ args) ≡ true
      → MoveGood program sets goals n
      (if occurs then failing_step graph id
      else
      let fresh = numbers (length graph) (length args + 1) in
      decomposition_step program.special (put (graph ++ free_nodes (length args + 1)) v (record { kind = kind.Cons c; args = fresh })) id (zip fresh (arg ∷ args)))
  imitates_if v c arg args true here plain_v whole low = fails_good program sets graph goals n id p base
  imitates_if v c arg args false here plain_v whole low =
      let k = length args + 1 in
      let node : Node = record { kind = kind.Cons c; args = numbers (length graph) k } in
      let built : Built = record { parts = free_nodes k; top = Fresh node } in
      let bound : GraphGood program sets goals n (written graph v built) =
      bound_cons_good program sets graph goals n id p base v k c here (subst (λ (m : ℕ). takes (arity_of program (head.Con c)) m ≡ true) (omega arith) whole) in
      let q = is_there (frame_of program sets graph p) (length graph + k) in
      let closed : Closed q (written graph v built) = imitated_closed program sets graph p v k node base.closed here refl in
      let none_here : q id ≡ false = or_no (p id) (nat_le (length graph) id && nat_lt id (length graph + k)) base.apart (left_no (nat_le (length graph) id) (nat_lt id (length graph + k)) (past_no (length graph) id base.here)) in
      let after_it : Base program sets (written graph v built) goals n id q =
      base_after program sets graph goals n id p q v built base bound (apart_from_plain v plain_v) closed none_here in
      in_pairs_at program sets (written graph v built) goals n id q after_it (kind.Prim prim.Unify) (kind.Prim prim.And) (zip (numbers (length graph) k) (arg ∷ args))
      refl (or_right sets true refl) refl (or_right sets true refl)
      (zip_passes q (numbers (length graph) k) (arg ∷ args) (numbers_there (frame_of program sets graph p) (length graph + k) (length graph) k (omega arith) (omega arith))
      (all_there_below (frame_of program sets graph p) (length graph + k) (arg ∷ args) low))

  pub plain_kind : (v : ℕ) (k : Kind) → (node_at graph v).kind ≡ k → is_plain k ≡ true → is_plain (node_at graph v).kind ≡ true
  plain_kind v k is plain_k = ap is_plain is ∙ plain_k

  pub imitates_good : (v other : ℕ) (c : ConId) (us vs : List ℕ) → HeadIs program graph p v kind.Free us → HeadIs program graph p other (kind.Cons c) vs
      → MoveGood program sets goals n (imitation_step program.special graph id v other c vs)
  imitates_good v other c us [] one two =
      renames_good v other one.there two.there (λ same. unlike_places graph v other kind.Free (kind.Cons c) one.kind_is two.kind_is (λ is. cc) same)
      (plain_kind v kind.Free one.kind_is refl) (plain_kind other (kind.Cons c) two.kind_is refl) two.args_are
  imitates_good v other c us (arg ∷ args) one two =
      imitates_if v c arg args (occurs_in graph v (arg ∷ args)) one.there (plain_kind v kind.Free one.kind_is refl) two.whole two.below

  -- a free variable and a node that has no arguments
  pub renames_head : (v w : ℕ) (l : Kind) (us vs : List ℕ) → v ≢ w → HeadIs program graph p v kind.Free us → HeadIs program graph p w l vs
      → is_plain l ≡ true → nat_eq (length vs) 0 ≡ true → MoveGood program sets goals n (binding_step program.special graph id v w)
  renames_head v w l us vs apart one two plain_l no_args =
      renames_good v w one.there two.there apart (plain_kind v kind.Free one.kind_is refl) (plain_kind w l two.kind_is plain_l) (two.args_are ∙ no_list vs no_args)

  pub free_free : (v w : ℕ) (us vs : List ℕ) (same : Bool) → nat_eq v w ≡ same → HeadIs program graph p v kind.Free us → HeadIs program graph p w kind.Free vs
      → MoveGood program sets goals n (if same then truth_step program.special graph id true else binding_step program.special graph id v w)
  free_free v w us vs true is one two = tells_good program sets graph goals n id p base true
  free_free v w us vs false is one two =
      renames_head v w kind.Free us vs (λ same. true≢false (sym (eq-eqb v w same) ∙ is)) one two refl two.whole

  pub unify_if : (us vs : List ℕ) (same : Bool) → list_all p us ≡ true → list_all p vs ≡ true
      → MoveGood program sets goals n
      (if same then pairwise_step program.special (kind.Prim prim.Unify) (kind.Prim prim.And) graph id (zip us vs) else failing_step graph id)
  unify_if us vs true low lows =
      in_pairs_at program sets graph goals n id p base (kind.Prim prim.Unify) (kind.Prim prim.And) (zip us vs) refl (or_right sets true refl) refl
      (or_right sets true refl) (zip_passes p us vs low lows)
  unify_if us vs false low lows = fails_good program sets graph goals n id p base

  pub equated_good : (v : ℕ) (k : Kind) (us : List ℕ) (w : ℕ) (l : Kind) (vs : List ℕ) → HeadIs program graph p v k us → HeadIs program graph p w l vs
      → MoveGood program sets goals n (unification_step program.special graph id v k us w l vs)
  equated_good v kind.Free us w kind.Free vs one two = free_free v w us vs (nat_eq v w) refl one two
  equated_good v kind.Free us w (kind.Lit m) vs one two =
      renames_head v w (kind.Lit m) us vs (λ same. unlike_places graph v w kind.Free (kind.Lit m) one.kind_is two.kind_is (λ is. cc) same) one two refl
      (right_true (is_literal m) (nat_eq (length vs) 0) two.whole)
  equated_good v (kind.Lit l) us w kind.Free vs one two =
      renames_head w v (kind.Lit l) vs us (λ same. unlike_places graph w v kind.Free (kind.Lit l) two.kind_is one.kind_is (λ is. cc) same) two one refl
      (right_true (is_literal l) (nat_eq (length us) 0) one.whole)
  equated_good v kind.Free us w (kind.Cons d) vs one two = imitates_good v w d us vs one two
  equated_good v (kind.Cons c) us w kind.Free vs one two = imitates_good w v c vs us two one
  equated_good v (kind.Cons c) us w (kind.Cons d) vs one two = unify_if us vs (same_constructor c d) one.below two.below
  equated_good v (kind.Lit l) us w (kind.Lit m) vs one two = tells_or_fails program sets graph goals n id p base (same_literal l m)
  equated_good v _ us w _ vs one two = fails_good program sets graph goals n id p base

  -- ---- built-in operations

  pub head_is : (arg : ℕ) → p arg ≡ true → HeadIs program graph p (head_of graph arg) (head_at graph arg).kind (head_at graph arg).args
  head_is arg low =
      let this : HeadGood program sets graph p arg = head_good program sets graph goals n id p base arg low in
      record { there = this.there; low = this.low; kind_is = refl; args_are = refl; whole = this.whole; below = this.args }

  pub literals_fit : (args : List ℕ) → list_all p args ≡ true → list_all fits_literal (map (λ arg. (head_at graph arg).kind) args) ≡ true
  literals_fit [] low = refl
  literals_fit (arg ∷ args) low =
      let this : HeadGood program sets graph p arg = head_good program sets graph goals n id p base arg (left_true (p arg) (list_all p args) low) in
      both_true (fits_literal (head_at graph arg).kind) (list_all fits_literal (map (λ x. (head_at graph x).kind) args))
      (whole_literal program (head_at graph arg).kind (length (head_at graph arg).args) this.whole) (literals_fit args (right_true (p arg) (list_all p args) low))

  pub operated_good : (operation : Primitive) (args : List ℕ) → list_all p args ≡ true → MoveGood program sets goals n (operation_step program.special graph id operation args)
  operated_good prim.Equal (a ∷ b ∷ []) low =
      compared_good (head_at graph a).kind (head_at graph b).kind (head_at graph a).args (head_at graph b).args
      (head_is a (left_true (p a) (p b && true) low)).below (head_is b (left_true (p b) true (right_true (p a) (p b && true) low))).below
  operated_good prim.Unify (a ∷ b ∷ []) low =
      equated_good (head_of graph a) (head_at graph a).kind (head_at graph a).args (head_of graph b) (head_at graph b).kind (head_at graph b).args
      (head_is a (left_true (p a) (p b && true) low)) (head_is b (left_true (p b) true (right_true (p a) (p b && true) low)))
  operated_good prim.And (a ∷ b ∷ []) low = conjoined_good program sets graph goals n id p base (head_at graph a).kind (head_at graph b).kind
  operated_good prim.Equal _ low = sticks_good program sets graph goals n id p base
  operated_good prim.Unify _ low = sticks_good program sets graph goals n id p base
  operated_good prim.And _ low = sticks_good program sets graph goals n id p base
  operated_good operation args low =
      computed_good program sets graph goals n id p base operation (map (λ arg. (head_at graph arg).kind) args) (literals_fit args low)

  -- ---- set functions

  pub collects_if : (f : FunId) (arguments : Values) (plain_data : Bool) → CollectGood program sets f arguments
      → MoveGood program sets goals n (if plain_data then Collect f arguments else stuck_step graph id)
  collects_if f arguments true good = good
  collects_if f arguments false good = sticks_good program sets graph goals n id p base

  pub collects_good : (f : FunId) (args : List ℕ) → has_arguments program (kind.SetCall f) (length args) ≡ true → passes sets (kind.SetCall f) ≡ true
      → MoveGood program sets goals n (set_call_step graph id f (values_of (map (spelled graph) args)))
  collects_good f args whole passing =
      collects_if f (values_of (map (spelled graph) args)) (are_data (values_of (map (spelled graph) args)))
      (record {
        sets_there = or_false sets passing;
        whole = subst (λ (m : ℕ). takes (arity_of program (head.Set f)) m ≡ true) (sym (count_values (spelled graph) args))
            (right_true (is_allowed program (head.Set f)) (takes (arity_of program (head.Set f)) (length args)) whole);
        fit = values_fit program (spelled graph) args (spelled_fits program graph base.fine.nodes (length graph));
      })

  -- ---- all rows

  pub rewritten_good : (k : Kind) (args : List ℕ) → has_arguments program k (length args) ≡ true → passes sets k ≡ true → list_all p args ≡ true
      → MoveGood program sets goals n (rewrite_step program graph id k args)
  rewritten_good (kind.Call f) args whole passing low = unfolded_good program sets graph goals n id p base f args whole low
  rewritten_good kind.Or args whole passing low = chosen_good program sets graph goals n id p base args low
  rewritten_good (kind.Case mode e) (scrutinee ∷ values) whole passing low =
      case_of_good program sets graph goals n id p base mode e scrutinee values (expr_of program (record { 0 = e })) refl whole
      (left_true (p scrutinee) (list_all p values) low) (right_true (p scrutinee) (list_all p values) low)
  rewritten_good kind.Apply (function ∷ argument ∷ []) whole passing low =
      let this : HeadGood program sets graph p function = head_good program sets graph goals n id p base function (left_true (p function) (p argument && true) low) in
      applied_good program sets graph goals n id p base argument (head_at graph function).kind (head_at graph function).args this.whole this.passing this.args
      (left_true (p argument) true (right_true (p function) (p argument && true) low))
  rewritten_good (kind.Prim operation) args whole passing low = operated_good operation args low
  rewritten_good (kind.SetCall f) args whole passing low = collects_good f args whole passing
  rewritten_good _ args whole passing low = sticks_good program sets graph goals n id p base

-- what is below a node of a fine graph, at which no goal variable's value stands
pub base_at : (program : Code) (sets : Bool) (graph : Graph) (goals : List ℕ) (id : ℕ) → CodeGood program sets → Fine program sets graph → AllPlain graph goals
    → id < length graph → is_plain (node_at graph id).kind ≡ false
    → (p : ℕ → Bool) × Base program sets graph goals (length graph) id p × (list_all p (node_at graph id).args ≡ true)
base_at program sets graph goals id good fine goals_plain here unplain =
    let under = beneath graph id fine.arguments (fine.acyclic id here) here in (
      under.0,
      record {
        code = good;
        fine = fine;
        plain = goals_plain;
        longer = omega arith;
        here = here;
        unplain = unplain;
        closed = under.1.closed;
        apart = under.1.apart;
      },
      under.1.args,
    )

-- every row keeps graphs fine, where no goal variable's value stands
pub move_good : (program : Code) (sets : Bool) (graph : Graph) (goals : List ℕ) (id : ℕ) → CodeGood program sets → Fine program sets graph → AllPlain graph goals
    → id < length graph → is_plain (node_at graph id).kind ≡ false → MoveGood program sets goals (length graph) (move program graph id)
move_good program sets graph goals id good fine goals_plain here unplain =
    let base = base_at program sets graph goals id good fine goals_plain here unplain in
    rewritten_good program sets graph goals (length graph) id base.0 base.1 (node_at graph id).kind (node_at graph id).args (fine.nodes id here) (fine.passing id here) base.2
