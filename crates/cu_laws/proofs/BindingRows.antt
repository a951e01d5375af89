-- Equations that bind a free variable: it had what it is bound to.
use Rattle.std.proofs.Common.{◌≡◌, ◌≢◌, ℕ, ◌+◌, ◌<◌, inl, inr, Bool, true, false, List, [], ◌∷◌, Some, IsTrue, refl, ap, sym, ◌∙◌, subst, length, zip, nat_eq, true≢false, arith, length-set, get_or-set_same, get_or-set_other}
use Rattle.std.proofs.lemmas.Bool.{and_from}
use Rattle.cu_calculus.specs.declared.ConId.{ConId}
use Rattle.cu_calculus.specs.declared.Head.TheVariants as head
use Rattle.cu_calculus.specs.declared.Lit.{Lit}
use Rattle.cu_calculus.specs.declared.builtin.Primitive.TheVariants as prim
use Rattle.cu_calculus.specs.Below.{Below}
use Rattle.cu_calculus.specs.Builtin.{Answers, truth_of}
use Rattle.cu_calculus.specs.Code.{Code, arity_of}
use Rattle.cu_calculus.specs.FlatProgram.{program_of}
use Rattle.cu_calculus.specs.Gives.{Claim}
use Rattle.cu_calculus.specs.Program.{Program}
use Rattle.cu_calculus.specs.Shape.{are_data, are_total, is_of, is_total_data, takes}
use Rattle.cu_calculus.specs.Value as value
use Rattle.cu_calculus.specs.Value.{Value, Values}
use Rattle.cu_calculus.proofs.BelowLaws.{below_itself}
use Rattle.cu_machine.specs.declared.Kind.{Kind}
use Rattle.cu_machine.specs.declared.Kind.TheVariants as kind
use Rattle.cu_machine.specs.Graph.{Graph, Node, head_at, head_of, node_at, put, renaming, stuck}
use Rattle.cu_machine.specs.Rewrite.{alone_follows, decomposition_step, truth_node}
use Rattle.cu_machine.specs.State.{numbers}
use Rattle.cu_machine.specs.Steps.{FreeBeside, imitating, node, on_the_left, on_the_right, telling}
use Rattle.cu_machine.specs.Validity.{NodesFit, has_arguments}
use Rattle.cu_laws.specs.Good.{Assignment, AtMost, Good, MayHave, NoValue, RisesTo}
use Rattle.cu_laws.proofs.Binding.{Bound, all_total_data, before_binding, filled, filled_head, good_everywhere, imitating_new, imitating_same, imitating_there, length_imitating, length_numbers}
use Rattle.cu_laws.proofs.Changed.{Sound, is_free}
use Rattle.cu_laws.proofs.EquationPairs.{AllEquate, OneEquates, equations_say}
use Rattle.cu_laws.proofs.EquationRows.{itself_unified}
use Rattle.cu_laws.proofs.Heads.{made, made_not_stuck, values_at}
use Rattle.cu_laws.proofs.Pairs.{pairs_after}
use Rattle.cu_laws.proofs.PairRows.{two}
use Rattle.cu_laws.proofs.Raising.{GoodApart, rises_trans, there_unless_stuck}
use Rattle.cu_laws.proofs.Rising.{all_total_above, values_rise}
use Rattle.cu_laws.proofs.Sides.{CanRise, free_can_rise, made_can_rise, sides_sound}
use Rattle.cu_laws.proofs.Truth.{telling_low}

-- ---- places that differ

-- places of which one has a kind that passes a test and the other has not
pub apart_by : (graph : Graph) (x y : ℕ) (test : Kind → Bool) → test (node_at graph x).kind ≡ true → test (node_at graph y).kind ≡ false → x ≢ y
apart_by graph x y test one other same = true≢false (sym one ∙ ap (λ (z : ℕ). test (node_at graph z).kind) same ∙ other)

abbrev is_operation : Kind → Bool
is_operation (kind.Prim operation) = true
is_operation _ = false

kind_tells : (graph : Graph) (x : ℕ) (k : Kind) (args : List ℕ) (test : Kind → Bool) → node_at graph x ≡ node k args → test (node_at graph x).kind ≡ test k
kind_tells graph x k args test is = ap (λ (n : Node). test n.kind) is

-- ---- bound to another name

-- a graph in which a free variable names another node, and the equation holds
bound_to_name : (program : Code) (graph : Graph) (v other id : ℕ) (args : List ℕ) → node_at graph v ≡ node kind.Free args → v ≢ id
    → Bound graph v id (telling program (put graph v (renaming other)) id true) (renaming other)
bound_to_name program graph v other id args free apart =
    let first = put graph v (renaming other) in
    let truth = truth_node program.special true in
    let here = there_unless_stuck graph v kind.Free args free refl in
    record {
      args = args;
      free = free;
      here = here;
      longer = let as_long = length-set graph v (renaming other) in let longer = length-set first id truth in omega arith;
      same = λ x below not_v not_id. get_or-set_other first id x truth stuck not_id ∙ get_or-set_other graph v x (renaming other) stuck not_v;
      there = get_or-set_other first id v truth stuck apart ∙ get_or-set_same graph v (renaming other) stuck here;
    }

-- what stands at the equation's place there
name_low : (program : Code) (claims : List Claim) (graph : Graph) (v other id : ℕ) (later : Assignment) → id < length graph
    → Good program claims (telling program (put graph v (renaming other)) id true) later → Below (later id) (truth_of (program_of program) true)
name_low program claims graph v other id later here good =
    let as_long = length-set graph v (renaming other) in
    telling_low program claims (put graph v (renaming other)) (telling program (put graph v (renaming other)) id true) id true later (omega arith) refl good

pub two_variables_sound : (program : Code) (claims : List Claim) (graph after : Graph) (id a b : ℕ) (us vs : List ℕ) (later : Assignment)
    → node_at graph id ≡ node (kind.Prim prim.Unify) (a ∷ b ∷ []) → head_at graph a ≡ node kind.Free us → head_at graph b ≡ node kind.Free vs
    → head_of graph a ≢ head_of graph b → after ≡ telling program (put graph (head_of graph a) (renaming (head_of graph b))) id true → Good program claims after later
    → Sound program claims graph later
two_variables_sound program claims graph after id a b us vs later is head_a head_b differ after_is good =
    let P = program_of program in
    let v = head_of graph a in
    let other = head_of graph b in
    let next = telling program (put graph v (renaming other)) id true in
    let good_next : Good program claims next later = subst (λ (g : Graph). Good program claims g later) after_is good in
    let here = there_unless_stuck graph id (kind.Prim prim.Unify) (a ∷ b ∷ []) is refl in
    let there = there_unless_stuck graph other kind.Free vs head_b refl in
    let operation = kind_tells graph id (kind.Prim prim.Unify) (a ∷ b ∷ []) is_free is in
    let v_id : v ≢ id = apart_by graph v id is_free (kind_tells graph v kind.Free us is_free head_a) operation in
    let other_id : other ≢ id = apart_by graph other id is_free (kind_tells graph other kind.Free vs is_free head_b) operation in
    let bound = bound_to_name program graph v other id us head_a v_id in
    let longer = bound.longer in
    let below_v = bound.here in
    let total : is_total_data (later other) ≡ true =
    subst (λ (n : Node). MayHave NoValue program claims later n.kind n.args (later other)) (bound.same other there (λ e. differ (sym e)) other_id ∙ head_b)
    (good_next.each other (omega arith)) in
    let low : Below (later v) (later other) =
    subst (λ (n : Node). MayHave NoValue program claims later n.kind n.args (later v)) bound.there (good_next.each v (omega arith)) in
    let fill = filled program claims next later v (later other) (good_everywhere program claims next later good_next) low (good_next.of_program other)
    (subst (λ (n : Node). MayHave NoValue program claims later n.kind n.args (later other)) (sym bound.there) (below_itself (later other))) in
    let same : fill.higher v ≡ fill.higher other = fill.there ∙ sym (fill.kept other (λ e. differ (sym e))) in
    let whole : is_total_data (fill.higher v) ≡ true = ap is_total_data fill.there ∙ total in
    let apart = before_binding program claims graph v id next (renaming other) fill.higher bound fill.good whole in
    sides_sound program claims graph id prim.Unify a b (fill.higher v) (fill.higher other) later fill.higher is apart fill.rises
    (free_can_rise program claims graph id fill.higher prim.Unify (a ∷ b ∷ []) is a us head_a)
    (free_can_rise program claims graph id fill.higher prim.Unify (a ∷ b ∷ []) is b vs head_b)
    (inr (
      truth_of P true,
      itself_unified P (fill.higher v) (fill.higher other) same whole,
      subst (λ (x : Value). Below x (truth_of P true)) (sym (fill.kept id (λ e. v_id (sym e)))) (name_low program claims graph v other id later here good_next),
    ))

-- ---- a free variable beside another node

-- two sides of which one is a free variable, in either order
either_order : (program : Code) (claims : List Claim) (graph : Graph) (id a b v other : ℕ) (k : Kind) (args : List ℕ) (w : Value) (later assigned : Assignment)
    → node_at graph id ≡ node (kind.Prim prim.Unify) (a ∷ b ∷ []) → FreeBeside graph a b v other k args → NodesFit program graph
    → GoodApart (nat_eq id) program claims graph assigned → RisesTo later assigned → made k (values_at assigned args) ≡ Some w
    → AtMost (Answers (program_of program) prim.Unify (two (assigned v) w)) (assigned id)
    → AtMost (Answers (program_of program) prim.Unify (two w (assigned v))) (assigned id) → Sound program claims graph later
either_order program claims graph id a b v other k args w later assigned is (on_the_left us at_a free at_b head_is) fit apart up made_is one two_ =
    sides_sound program claims graph id prim.Unify a b (assigned v) w later assigned is apart up
    (subst (λ (x : ℕ). CanRise program claims graph id assigned a (assigned x)) at_a (free_can_rise program claims graph id assigned prim.Unify (a ∷ b ∷ []) is a us free))
    (made_can_rise program claims graph id assigned prim.Unify (a ∷ b ∷ []) is fit b k args w head_is made_is) one
either_order program claims graph id a b v other k args w later assigned is (on_the_right us at_b free at_a head_is) fit apart up made_is one two_ =
    sides_sound program claims graph id prim.Unify a b w (assigned v) later assigned is apart up
    (made_can_rise program claims graph id assigned prim.Unify (a ∷ b ∷ []) is fit a k args w head_is made_is)
    (subst (λ (x : ℕ). CanRise program claims graph id assigned b (assigned x)) at_b (free_can_rise program claims graph id assigned prim.Unify (a ∷ b ∷ []) is b us free)) two_

-- the nodes at the places of the two heads
record Beside (graph : Graph) (v other : ℕ) (k : Kind) (args : List ℕ) : Type 0 where
  free_args : List ℕ
  free : node_at graph v ≡ node kind.Free free_args
  head_is : node_at graph other ≡ node k args

beside : (graph : Graph) (a b v other : ℕ) (k : Kind) (args : List ℕ) → FreeBeside graph a b v other k args → Beside graph v other k args
beside graph a b v other k args (on_the_left us at_a free at_b head_is) = record {
  free_args = us;
  free = ap (node_at graph) (sym at_a) ∙ free;
  head_is = ap (node_at graph) (sym at_b) ∙ head_is;
}
beside graph a b v other k args (on_the_right us at_b free at_a head_is) = record {
  free_args = us;
  free = ap (node_at graph) (sym at_b) ∙ free;
  head_is = ap (node_at graph) (sym at_a) ∙ head_is;
}

unified_low : (program : Program) (u w v : Value) → u ≡ w → is_total_data u ≡ true → Below v (truth_of program true)
    → AtMost (Answers program prim.Unify (two u w)) v
unified_low program u w v same total low = inr (truth_of program true, itself_unified program u w same total, low)

-- a head that is one value whatever its arguments are worth
pub bound_to_head : (program : Code) (claims : List Claim) (graph after : Graph) (id a b v other : ℕ) (k : Kind) (args : List ℕ) (w : Value) (later : Assignment)
    → NodesFit program graph → node_at graph id ≡ node (kind.Prim prim.Unify) (a ∷ b ∷ []) → FreeBeside graph a b v other k args
    → ((assigned : Assignment) → made k (values_at assigned args) ≡ Some w) → is_total_data w ≡ true → is_free k ≡ false → is_operation k ≡ false
    → after ≡ telling program (put graph v (renaming other)) id true → Good program claims after later → Sound program claims graph later
bound_to_head program claims graph after id a b v other k args w later fit is sides made_is total not_free not_operation after_is good =
    let P = program_of program in
    let at = beside graph a b v other k args sides in
    let next = telling program (put graph v (renaming other)) id true in
    let good_next : Good program claims next later = subst (λ (g : Graph). Good program claims g later) after_is good in
    let here = there_unless_stuck graph id (kind.Prim prim.Unify) (a ∷ b ∷ []) is refl in
    let v_id : v ≢ id = apart_by graph v id is_free (kind_tells graph v kind.Free at.free_args is_free at.free) (kind_tells graph id (kind.Prim prim.Unify) (a ∷ b ∷ []) is_free is) in
    let v_other : v ≢ other =
    apart_by graph v other is_free (kind_tells graph v kind.Free at.free_args is_free at.free) (kind_tells graph other k args is_free at.head_is ∙ not_free) in
    let id_other : id ≢ other =
    apart_by graph id other is_operation (kind_tells graph id (kind.Prim prim.Unify) (a ∷ b ∷ []) is_operation is)
    (kind_tells graph other k args is_operation at.head_is ∙ not_operation) in
    let there : other < length graph = there_unless_stuck graph other k args at.head_is (made_not_stuck k (values_at later args) w (made_is later)) in
    let bound = bound_to_name program graph v other id at.free_args at.free v_id in
    let longer = bound.longer in
    let below_v = bound.here in
    let other_is : node_at next other ≡ node k args = bound.same other there (λ e. v_other (sym e)) (λ e. id_other (sym e)) ∙ at.head_is in
    let whole : has_arguments program k (length args) ≡ true = subst (λ (n : Node). has_arguments program n.kind (length n.args) ≡ true) at.head_is (fit other there) in
    let first = filled_head program claims next later other k args w (good_everywhere program claims next later good_next) (omega arith) other_is whole (made_is later) in
    let low : Below (first.higher v) w =
    subst (λ (x : Value). Below (first.higher v) x) first.there
    (subst (λ (n : Node). MayHave NoValue program claims first.higher n.kind n.args (first.higher v)) bound.there (first.good.each v (omega arith) refl)) in
    let may : MayHave NoValue program claims first.higher (node_at next v).kind (node_at next v).args w =
    subst (λ (n : Node). MayHave NoValue program claims first.higher n.kind n.args w) (sym bound.there)
    (subst (λ (x : Value). Below w x) (sym first.there) (below_itself w)) in
    let second = filled program claims next first.higher v w first.good low (subst (λ (x : Value). IsTrue (is_of P x)) first.there (first.good.of_program other)) may in
    let higher = second.higher in
    let apart = before_binding program claims graph v id next (renaming other) higher bound second.good (ap is_total_data second.there ∙ total) in
    let kept : higher id ≡ later id = second.kept id (λ e. v_id (sym e)) ∙ first.kept id id_other in
    let truth_low : Below (higher id) (truth_of P true) = subst (λ (x : Value). Below x (truth_of P true)) (sym kept) (name_low program claims graph v other id later here good_next) in
    either_order program claims graph id a b v other k args w later higher is sides fit apart
    (rises_trans later first.higher higher first.rises second.rises) (made_is higher)
    (unified_low P (higher v) w (higher id) second.there (ap is_total_data second.there ∙ total) truth_low)
    (unified_low P w (higher v) (higher id) (sym second.there) total truth_low)

pub bound_to_literal_sound : (program : Code) (claims : List Claim) (graph after : Graph) (id a b v other : ℕ) (l : Lit) (args : List ℕ) (later : Assignment)
    → NodesFit program graph → node_at graph id ≡ node (kind.Prim prim.Unify) (a ∷ b ∷ []) → FreeBeside graph a b v other (kind.Lit l) args
    → after ≡ telling program (put graph v (renaming other)) id true → Good program claims after later → Sound program claims graph later
bound_to_literal_sound program claims graph after id a b v other l args later fit is sides after_is good =
    bound_to_head program claims graph after id a b v other (kind.Lit l) args (value.Literal l) later fit is sides (λ assigned. refl) refl refl refl after_is good

pub bound_to_constant_sound : (program : Code) (claims : List Claim) (graph after : Graph) (id a b v other : ℕ) (c : ConId) (later : Assignment)
    → NodesFit program graph → node_at graph id ≡ node (kind.Prim prim.Unify) (a ∷ b ∷ []) → FreeBeside graph a b v other (kind.Cons c) []
    → after ≡ telling program (put graph v (renaming other)) id true → Good program claims after later → Sound program claims graph later
bound_to_constant_sound program claims graph after id a b v other c later fit is sides after_is good =
    bound_to_head program claims graph after id a b v other (kind.Cons c) [] (value.Constructed c value.NoValue) later fit is sides (λ assigned. refl) refl refl refl after_is good

-- ---- imitation

imitation_end : (program : Code) (claims : List Claim) (graph : Graph) (id a b v other : ℕ) (c : ConId) (args fresh : List ℕ) (later higher : Assignment)
    → NodesFit program graph → node_at graph id ≡ node (kind.Prim prim.Unify) (a ∷ b ∷ []) → FreeBeside graph a b v other (kind.Cons c) args
    → GoodApart (nat_eq id) program claims graph higher → RisesTo later higher → higher id ≡ later id → higher v ≡ value.Constructed c (values_at later fresh)
    → is_total_data (value.Constructed c (values_at later fresh)) ≡ true → AllEquate (program_of program) (values_at later fresh) (values_at later args) (later id)
    → Sound program claims graph later
imitation_end program claims graph id a b v other c args fresh later higher fit is sides apart up kept there total (inl none) =
    let w = value.Constructed c (values_at higher args) in
    either_order program claims graph id a b v other (kind.Cons c) args w later higher is sides fit apart up refl (inl (kept ∙ none)) (inl (kept ∙ none))
imitation_end program claims graph id a b v other c args fresh later higher fit is sides apart up kept there total (inr told) =
    let P = program_of program in
    let w = value.Constructed c (values_at higher args) in
    let as_high : values_at later args ≡ values_at higher args =
    all_total_above (values_at later args) (values_at higher args) (values_rise later higher args up)
    (subst (λ (us : Values). are_total us ≡ true) told.0 told.1) in
    let same : higher v ≡ w = there ∙ ap (value.Constructed c) (told.0 ∙ as_high) in
    let whole : is_total_data (higher v) ≡ true = ap is_total_data there ∙ total in
    let low : Below (higher id) (truth_of P true) = subst (λ (x : Value). Below x (truth_of P true)) (sym kept) told.3 in
    either_order program claims graph id a b v other (kind.Cons c) args w later higher is sides fit apart up refl
    (unified_low P (higher v) w (higher id) same whole low) (unified_low P w (higher v) (higher id) (sym same) (sym (ap is_total_data same) ∙ whole) low)

pub imitation_sound : (program : Code) (claims : List Claim) (graph after : Graph) (id a b v other : ℕ) (c : ConId) (arg : ℕ) (args : List ℕ) (later : Assignment)
    → NodesFit program graph → node_at graph id ≡ node (kind.Prim prim.Unify) (a ∷ b ∷ []) → FreeBeside graph a b v other (kind.Cons c) (arg ∷ args)
    → decomposition_step program.special (imitating graph v c (length args + 1)) id (zip (numbers (length graph) (length args + 1)) (arg ∷ args)) ≡ alone_follows after
    → Good program claims after later → Sound program claims graph later
imitation_sound program claims graph after id a b v other c arg args later fit is sides after_is good =
    let P = program_of program in
    let n = length args + 1 in
    let all_args = arg ∷ args in
    let at = beside graph a b v other (kind.Cons c) all_args sides in
    let middle = imitating graph v c n in
    let fresh = numbers (length graph) n in
    let here = there_unless_stuck graph id (kind.Prim prim.Unify) (a ∷ b ∷ []) is refl in
    let below_v = there_unless_stuck graph v kind.Free at.free_args at.free refl in
    let there = there_unless_stuck graph other (kind.Cons c) all_args at.head_is refl in
    let as_long = length_imitating graph v c n in
    let v_id : v ≢ id = apart_by graph v id is_free (kind_tells graph v kind.Free at.free_args is_free at.free) (kind_tells graph id (kind.Prim prim.Unify) (a ∷ b ∷ []) is_free is) in
    let as_many : length fresh ≡ length all_args = length_numbers (length graph) n ∙ omega arith in
    let found = pairs_after program claims middle after id (kind.Prim prim.Unify) (kind.Prim prim.And) (OneEquates P) (AllEquate P) fresh all_args later (omega arith)
    (equations_say program claims later) as_many after_is good in
    let changed = found.changed in
    let further = changed.longer in
    let new = node (kind.Cons c) fresh in
    let bound : Bound graph v id after new = record {
      args = at.free_args;
      free = at.free;
      here = below_v;
      longer = omega arith;
      same = λ x below not_v not_id. changed.same x (omega arith) not_id ∙ imitating_same graph v c n x below not_v;
      there = changed.same v (omega arith) v_id ∙ imitating_there graph v c n below_v;
    } in
    let whole : has_arguments program (kind.Cons c) (length fresh) ≡ true =
    subst (λ (m : ℕ). takes (arity_of program (head.Con c)) m ≡ true) (sym as_many)
    (subst (λ (m : Node). has_arguments program m.kind (length m.args) ≡ true) at.head_is (fit other there)) in
    let most = value.Constructed c (values_at later fresh) in
    let fill = filled_head program claims after later v (kind.Cons c) fresh most (good_everywhere program claims after later good) (omega arith) bound.there whole refl in
    let total = all_total_data later (length graph) n (λ i below.
    subst (λ (m : Node). MayHave NoValue program claims later m.kind m.args (later (length graph + i)))
    (changed.same (length graph + i) (omega arith) (λ e. let no : ⊥ = omega arith in no) ∙ imitating_new graph v c n i below_v below)
    (good.each (length graph + i) (omega arith))) in
    let total_data : is_total_data most ≡ true = and_from (are_total (values_at later fresh)) (are_data (values_at later fresh)) total.0 total.1 in
    let higher = fill.higher in
    let apart = before_binding program claims graph v id after new higher bound fill.good (ap is_total_data fill.there ∙ total_data) in
    let kept : higher id ≡ later id = fill.kept id (λ e. v_id (sym e)) in
    imitation_end program claims graph id a b v other c all_args fresh later higher fit is sides apart fill.rises kept fill.there total_data found.say
