-- The state in which a search begins is valid, and one in which the search for a goal begins has no
-- set functions.
use Rattle.std.proofs.Common.{◌≡◌, ℕ, zero, suc, ◌+◌, ◌<◌, ◌≤◌, inl, inr, Bool, true, false, not, ◌&&◌, List, [], ◌∷◌, ◌++◌, Option, None, Some, IsTrue, refl, ap, sym, ◌∙◌, subst, true≢false, length, nat_lt, nat_le, get_or, slice_get, arith, ltb-true, lt-ltb, le-leb, eq-eqb, zero-add, length-append}
use Rattle.std.specs.List.{list_all}
use Rattle.std.proofs.lemmas.Bool.{cases_lt}
use Rattle.std.proofs.lemmas.List.{get_or_append_left}
use Rattle.std.proofs.lemmas.List.Folds.{list_all-append}
use Rattle.cu_calculus.specs.declared.FunId.{FunId}
use Rattle.cu_calculus.specs.declared.Head.TheVariants as head
use Rattle.cu_calculus.specs.Code.{Code, Function, arity_of, body_of, function_arity, is_rule}
use Rattle.cu_calculus.specs.Literal.{is_literal}
use Rattle.cu_calculus.specs.Shape.{takes, takes_more}
use Rattle.cu_calculus.specs.Value as value
use Rattle.cu_calculus.specs.Value.{Value, Values, count}
use Rattle.cu_calculus.specs.WellFormed.{is_allowed, is_well_formed}
use Rattle.cu_machine.specs.declared.Kind.{Kind}
use Rattle.cu_machine.specs.declared.Kind.TheVariants as kind
use Rattle.cu_machine.specs.Build.{BuiltParts, kind_of_call, pushed}
use Rattle.cu_machine.specs.Graph.{Node, alone, node_at, stuck}
use Rattle.cu_machine.specs.Sets.{IsWithoutSets, is_set_kind, without}
use Rattle.cu_machine.specs.Spell.{push_value, push_values}
use Rattle.cu_machine.specs.State.{call_on, free_nodes, numbers, start_of, start_on}
use Rattle.cu_machine.specs.Validity.{Founded, IsValid, has_arguments, none}
use Rattle.cu_machine.proofs.Building.{GoodParts, alone_good, call_fits, call_passes, node_good, one_more}
use Rattle.cu_machine.proofs.Frames.{AllGood, Fine, Frame, Good, GoodBuilt, all_founded, founded_as, good_append, good_at, is_there, or_right, passes}
use Rattle.cu_machine.proofs.Fuel.{all_follow, both_true, left_true, right_true}
use Rattle.cu_machine.proofs.Moves.{free_at_place, free_nodes_good, length_free, length_numbers, numbers_plain, numbers_there}
use Rattle.cu_machine.proofs.Rows.{fit_values, fits_value, plain_as}

-- ---- graphs of new nodes alone

abbrev pub empty_frame : Code → Bool → Frame
empty_frame program sets = record { program = program; sets = sets; below = λ x. false; first = 0 }

pub fresh_there : (program : Code) (sets : Bool) (place x : ℕ) → is_there (empty_frame program sets) place x ≡ true → x < place
fresh_there program sets place x there = ltb-true x place (right_true (nat_le 0 x) (nat_lt x place) there)

pub from_zero : (i : ℕ) → nat_le 0 i ≡ true
from_zero i = le-leb 0 i (omega arith)

pub fresh_founded : (program : Code) (sets : Bool) (nodes : List Node) → AllGood (empty_frame program sets) 0 nodes → (k x : ℕ) → k ≤ length nodes
    → is_there (empty_frame program sets) k x ≡ true → Founded nodes x
fresh_founded program sets nodes good zero x within there = let below = fresh_there program sets 0 x there in let none_left : ⊥ = omega arith in absurd none_left
fresh_founded program sets nodes good (suc k) x within there =
    let below : x < suc k = fresh_there program sets (suc k) x there in
    elim (cases_lt x k) [
      | inl less ↦ fresh_founded program sets nodes good k x (omega arith) (both_true (nat_le 0 x) (nat_lt x k) (left_true (nat_le 0 x) (nat_lt x (suc k)) there) (lt-ltb x k less))
      | inr last ↦
          let same : k ≡ x = omega arith in
          let this : Good (empty_frame program sets) (0 + k) (get_or nodes k stuck) = good_at (empty_frame program sets) 0 nodes k good (omega arith) in
          subst (λ (y : ℕ). Founded nodes y) same
          (founded_as nodes k (get_or nodes k stuck) refl
          (all_founded (is_there (empty_frame program sets) k) nodes (get_or nodes k stuck).args (λ y. fresh_founded program sets nodes good k y (omega arith))
          (subst (λ (m : ℕ). list_all (is_there (empty_frame program sets) m) (get_or nodes k stuck).args ≡ true) (omega arith) this.there)))
    ]

pub fresh_fine : (program : Code) (sets : Bool) (nodes : List Node) → AllGood (empty_frame program sets) 0 nodes → Fine program sets nodes
fresh_fine program sets nodes good = record {
  nodes = λ i below. (good_at (empty_frame program sets) 0 nodes i good below).whole;
  arguments = λ i below.
      all_follow (is_there (empty_frame program sets) (0 + i)) (λ x. nat_lt x (length nodes)) (node_at nodes i).args
      (λ x there. let less = fresh_there program sets (0 + i) x there in lt-ltb x (length nodes) (omega arith))
      (good_at (empty_frame program sets) 0 nodes i good below).there;
  acyclic = λ i below. fresh_founded program sets nodes good (length nodes) i (omega arith) (both_true (nat_le 0 i) (nat_lt i (length nodes)) (from_zero i) (lt-ltb i (length nodes) below));
  passing = λ i below. (good_at (empty_frame program sets) 0 nodes i good below).passing;
}

-- ---- values

pub sets_pass : (sets : Bool) (k : Kind) → sets ≡ true → passes sets k ≡ true
sets_pass sets k there = rw there refl

mutual
  pub value_good : (f : Frame) (next : ℕ) (v : Value) → f.first ≤ next → f.sets ≡ true → fits_value f.program v ≡ true → GoodBuilt f next (push_value next v)
  value_good f next value.Bottom from sets fit = alone_good f next kind.Stuck refl (or_right f.sets true refl)
  value_good f next (value.Variable x) from sets fit = alone_good f next kind.Stuck refl (or_right f.sets true refl)
  value_good f next (value.Literal l) from sets fit = alone_good f next (kind.Lit l) (both_true (is_literal l) true fit refl) (or_right f.sets true refl)
  value_good f next (value.Constructed c vs) from sets fit =
      node_good f next (count vs) (kind.Cons c) (push_values next vs) (left_true (takes (arity_of f.program (head.Con c)) (count vs)) (fit_values f.program vs) fit)
      (or_right f.sets true refl)
      (values_good f next vs from sets (right_true (takes (arity_of f.program (head.Con c)) (count vs)) (fit_values f.program vs) fit))
  value_good f next (value.Partial h vs) from sets fit =
      node_good f next (count vs) (kind.Part h) (push_values next vs)
      (left_true (is_allowed f.program h && takes_more (arity_of f.program h) (count vs)) (fit_values f.program vs) fit) (sets_pass f.sets (kind.Part h) sets)
      (values_good f next vs from sets (right_true (is_allowed f.program h && takes_more (arity_of f.program h) (count vs)) (fit_values f.program vs) fit))

  pub values_good : (f : Frame) (next : ℕ) (vs : Values) → f.first ≤ next → f.sets ≡ true → fit_values f.program vs ≡ true → GoodParts f next (count vs) (push_values next vs)
  values_good f next value.NoValue from sets fit = record { nodes = tt; ids = refl; count_is = refl }
  values_good f next (value.MoreValues v vs) from sets fit =
      one_more f next (count vs) (count vs + 1) (push_value next v) (push_values (next + length (pushed (push_value next v))) vs) refl from
      (value_good f next v from sets (left_true (fits_value f.program v) (fit_values f.program vs) fit))
      (values_good f (next + length (pushed (push_value next v))) vs (omega arith) sets (right_true (fits_value f.program v) (fit_values f.program vs) fit))

-- ---- calls

-- nodes, and a call on some of them, which is pushed last
pub call_fine : (program : Code) (sets : Bool) (f : FunId) (parts : BuiltParts) (k : ℕ) → is_well_formed program ≡ true → takes (function_arity program f) k ≡ true
    → GoodParts (empty_frame program sets) 0 k parts
    → Fine program sets (parts.nodes ++ record { kind = kind_of_call f (body_of program f); args = parts.ids } ∷ [])
call_fine program sets f parts k well whole good =
    fresh_fine program sets (parts.nodes ++ record { kind = kind_of_call f (body_of program f); args = parts.ids } ∷ [])
    (good_append (empty_frame program sets) 0 parts.nodes (record { kind = kind_of_call f (body_of program f); args = parts.ids } ∷ []) good.nodes (
      record {
        whole = subst (λ (m : ℕ). has_arguments program (kind_of_call f (body_of program f)) m ≡ true) (sym good.count_is) (call_fits program f k well whole);
        passing = call_passes sets f (body_of program f);
        there = good.ids;
      },
      tt,
    ))

pub call_on_valid : (program : Code) (f : FunId) (arguments : Values) → is_well_formed program ≡ true → takes (function_arity program f) (count arguments) ≡ true
    → fit_values program arguments ≡ true → IsValid program (call_on program f arguments)
unfolding IsValid
call_on_valid program f arguments well whole fit =
    let parts = push_values 0 arguments in
    let good : Fine program true (parts.nodes ++ record { kind = kind_of_call f (body_of program f); args = parts.ids } ∷ []) =
    call_fine program true f parts (count arguments) well whole (values_good (empty_frame program true) 0 arguments (omega arith) refl fit) in (
      record {
        root_there = rw (length-append parts.nodes (record { kind = kind_of_call f (body_of program f); args = parts.ids } ∷ [])) (omega arith);
        goals_there = refl;
        nodes = good.nodes;
        arguments = good.arguments;
        acyclic = good.acyclic;
        goals_plain = none;
      },
      tt,
    )

-- ---- the start of a goal

pub free_parts : (program : Code) (sets : Bool) (k : ℕ) → GoodParts (empty_frame program sets) 0 k (record { nodes = free_nodes k; ids = numbers 0 k })
free_parts program sets k = record {
  nodes = free_nodes_good (empty_frame program sets) 0 k;
  ids = numbers_there (empty_frame program sets) (0 + length (free_nodes k)) 0 k (omega arith) (omega (arith, length_free k));
  count_is = length_numbers 0 k;
}

pub start_on_fine : (program : Code) (sets : Bool) (goal : FunId) (k : ℕ) → is_well_formed program ≡ true → takes (function_arity program goal) k ≡ true
    → Fine program sets (free_nodes k ++ record { kind = kind_of_call goal (body_of program goal); args = numbers 0 k } ∷ [])
start_on_fine program sets goal k well whole =
    call_fine program sets goal (record { nodes = free_nodes k; ids = numbers 0 k }) k well whole (free_parts program sets k)

pub start_on_valid : (program : Code) (goal : FunId) (k : ℕ) → is_well_formed program ≡ true → takes (function_arity program goal) k ≡ true
    → IsValid program (start_on program goal k)
unfolding IsValid
start_on_valid program goal k well whole =
    let call : Node = record { kind = kind_of_call goal (body_of program goal); args = numbers 0 k } in
    let graph = free_nodes k ++ call ∷ [] in
    let count : length graph ≡ k + 1 = length-append (free_nodes k) (call ∷ []) ∙ omega (arith, length_free k) in
    let good : Fine program true graph = start_on_fine program true goal k well whole in (
      record {
        root_there = omega (arith, count);
        goals_there = all_follow (is_there (empty_frame program true) k) (λ x. nat_lt x (length graph)) (numbers 0 k)
            (λ x there. let less = fresh_there program true k x there in lt-ltb x (length graph) (omega (arith, count)))
            (numbers_there (empty_frame program true) k 0 k (omega arith) (omega arith));
        nodes = good.nodes;
        arguments = good.arguments;
        acyclic = good.acyclic;
        goals_plain = numbers_plain graph 0 k (λ i below.
            plain_as graph (0 + i) (alone kind.Free)
            (get_or_append_left (free_nodes k) (call ∷ []) stuck (0 + i) (omega (arith, length_free k))
            ∙ ap (λ (j : ℕ). get_or (free_nodes k) j stuck) (zero-add i) ∙ free_at_place k i below) refl none);
      },
      tt,
    )

pub whole_rule : (o : Option Function) → is_rule (elim o [ Some f ↦ Some f.body | None ↦ None ]) ≡ true
    → takes (elim o [ Some f ↦ Some f.arity | None ↦ None ]) (elim (elim o as (λ x. Option ℕ) [ Some f ↦ Some f.arity | None ↦ None ]) [ Some n ↦ n | None ↦ 0 ]) ≡ true
whole_rule None rule = let none_left : ⊥ = true≢false (sym rule) in absurd none_left
whole_rule (Some f) rule = eq-eqb f.arity f.arity refl

pub start_valid : (program : Code) (goal : FunId) → IsTrue (is_well_formed program) → IsTrue (is_rule (body_of program goal)) → IsValid program (start_of program goal)
start_valid program goal well rule =
    start_on_valid program goal (elim (function_arity program goal) [ Some n ↦ n | None ↦ 0 ]) well (whole_rule (slice_get program.functions goal.0) rule)

pub free_without : (k : ℕ) → list_all (λ node. not (is_set_kind node.kind)) (free_nodes k) ≡ true
free_without zero = refl
free_without (suc k) = free_without k

pub start_on_without : (program : Code) (goal : FunId) (k : ℕ) → IsWithoutSets (start_on program goal k)
start_on_without program goal k =
    let call : Node = record { kind = kind_of_call goal (body_of program goal); args = numbers 0 k } in
    without (free_nodes k ++ call ∷ []) k (numbers 0 k)
    (list_all-append (λ node. not (is_set_kind node.kind)) (free_nodes k) (call ∷ [])
    ∙ both_true (list_all (λ node. not (is_set_kind node.kind)) (free_nodes k)) (not (is_set_kind call.kind) && true) (free_without k)
    (both_true (not (is_set_kind call.kind)) true (call_passes false goal (body_of program goal)) refl))

pub start_without : (program : Code) (goal : FunId) → IsTrue (is_rule (body_of program goal)) → IsWithoutSets (start_of program goal)
start_without program goal rule = start_on_without program goal (elim (function_arity program goal) [ Some n ↦ n | None ↦ 0 ])
