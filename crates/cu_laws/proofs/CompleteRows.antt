-- Every row is complete.
use Rattle.std.proofs.Common.{◌≡◌, ℕ, true, List, [], ◌∷◌, IsTrue, refl, ap, sym, subst, length, lt-ltb, true≢false}
use Rattle.std.specs.List.{list_all}
use Rattle.cu_calculus.specs.declared.builtin.Primitive.{Primitive}
use Rattle.cu_calculus.specs.declared.builtin.Primitive.TheVariants as prim
use Rattle.cu_calculus.specs.Code.{Code}
use Rattle.cu_calculus.specs.FlatProgram.{program_of}
use Rattle.cu_calculus.specs.Gives.{Claim}
use Rattle.cu_calculus.specs.Proof.{is_claim_of}
use Rattle.cu_calculus.specs.Shape.{is_total}
use Rattle.cu_calculus.specs.WellFormed.{is_well_formed}
use Rattle.cu_machine.specs.declared.Kind.{Kind}
use Rattle.cu_machine.specs.declared.Kind.TheVariants as kind
use Rattle.cu_machine.specs.Graph.{Graph, Node, head_at, head_of, node_at}
use Rattle.cu_machine.specs.Need.{At, Throughout, need_all}
use Rattle.cu_machine.specs.State.{Branch, Idle}
use Rattle.cu_machine.specs.Steps as row
use Rattle.cu_machine.specs.Steps.{FreeBeside, Steps, is_on_literals, node, on_the_left, on_the_right}
use Rattle.cu_machine.specs.Validity.{IsValid, NodesFit}
use Rattle.cu_machine.proofs.NeedPlaces.{has_bound_head, is_ready, need_at_redex}
use Rattle.cu_laws.specs.Continues.{NothingPast, Continues}
use Rattle.cu_laws.specs.Good.{Assignment, Loose}
use Rattle.cu_laws.proofs.AnswerKept.{both_true_kept, character_kept, code_point_kept, compared_literals_kept, compared_mixed_kept, compared_unlike_kept, equation_kept, never_answered, never_character, never_clashing, never_compared, never_divided, never_equal_literals, never_mixed, never_partial, never_untrue, number_kept, test_kept}
use Rattle.cu_laws.proofs.ApplyKept.{not_applicable, still_partial_kept, whole_kept}
use Rattle.cu_laws.proofs.BoundKept.{narrowing_kept, renamed_kept}
use Rattle.cu_laws.proofs.CallKept.{SomeRow, call_kept, choice_kept}
use Rattle.cu_laws.proofs.CaseKept.{constructor_kept, literal_kept, no_constructor_branch, no_literal_branch, no_partial_branch}
use Rattle.cu_laws.proofs.Continuing.{Kept}
use Rattle.cu_laws.proofs.InsideKept.{comparison_kept, decomposition_kept, imitation_kept}
use Rattle.cu_laws.proofs.Known.{is_known}
use Rattle.cu_laws.proofs.NeededValues.{is_settled, needed_honest}
use Rattle.cu_laws.proofs.OccursKept.{never_occurs}
use Rattle.cu_laws.proofs.SetKept.{never_without_data}

-- operations on literals have bound heads before them where they are ready
operands_bound : (graph : Graph) (operation : Primitive) (args : List ℕ) → is_on_literals operation ≡ true → is_ready graph (kind.Prim operation) args ≡ true
    → list_all (has_bound_head graph) args ≡ true
operands_bound graph prim.Unify args on ready = absurd (true≢false (sym on))
operands_bound graph prim.And args on ready = absurd (true≢false (sym on))
operands_bound graph _ args on ready = ready

module _ (program : Code) (claims : List Claim) (graph after : Graph) (id : ℕ) (assigned : Assignment) (well : is_well_formed program ≡ true)
    (claimed : IsTrue (list_all (is_claim_of (program_of program)) claims)) (fit : NodesFit program graph) (loose : Loose program claims graph assigned)
    (past : NothingPast graph assigned) (known : is_known (assigned id) ≡ true)
    (ready : is_ready graph (node_at graph id).kind (node_at graph id).args ≡ true)
    (settled : is_settled program.special.truth graph (node_at graph id).kind (node_at graph id).args ≡ true) where
  this : Steps program graph id after → Kept program claims graph after assigned → SomeRow program claims graph id assigned
  this step kept = record { after = after; step = step; kept = kept }

  ready_as : (k : Kind) (args : List ℕ) → node_at graph id ≡ node k args → is_ready graph k args ≡ true
  ready_as k args is = subst (λ (n : Node). is_ready graph n.kind n.args ≡ true) is ready

  settled_as : (k : Kind) (args : List ℕ) → node_at graph id ≡ node k args → is_settled program.special.truth graph k args ≡ true
  settled_as k args is = subst (λ (n : Node). is_settled program.special.truth graph n.kind n.args ≡ true) is settled

  kind_of : (x : ℕ) (k : Kind) (args : List ℕ) → head_at graph x ≡ node k args → (head_at graph x).kind ≡ k
  kind_of x k args is = ap (λ (n : Node). n.kind) is

  complete_row : Steps program graph id after → SomeRow program claims graph id assigned
  complete_row (row.call f args params body is body_is after_is) =
      this (row.call f args params body is body_is after_is)
      (call_kept program claims graph after id f args params body assigned well claimed fit loose past known is body_is after_is)
  complete_row (row.left one two is after_is) = choice_kept program claims graph id one two assigned loose past known is
  complete_row (row.right one two is after_is) = choice_kept program claims graph id one two assigned loose past known is
  complete_row (row.literal_branch mode scrutinee scope branches l args branch at head_is chosen after_is) =
      this (row.literal_branch mode scrutinee scope branches l args branch at head_is chosen after_is)
      (literal_kept program claims graph after id mode scrutinee scope branches l args branch assigned well claimed loose past known at head_is chosen after_is)
  complete_row (row.constructor_branch mode scrutinee scope branches c args branch at head_is chosen after_is) =
      this (row.constructor_branch mode scrutinee scope branches c args branch at head_is chosen after_is)
      (constructor_kept program claims graph after id mode scrutinee scope branches c args branch assigned well claimed fit loose past known at head_is chosen after_is)
  complete_row (row.no_literal_branch mode scrutinee scope branches l args at head_is none after_is) =
      absurd (no_literal_branch program claims graph id mode scrutinee scope branches args assigned loose known at l head_is none)
  complete_row (row.no_constructor_branch mode scrutinee scope branches c args at head_is none after_is) =
      absurd (no_constructor_branch program claims graph id mode scrutinee scope branches args assigned loose known at c head_is none)
  complete_row (row.no_partial_branch mode scrutinee scope branches h args at head_is after_is) =
      absurd (no_partial_branch program claims graph id mode scrutinee scope branches args assigned loose known at h head_is)
  complete_row (row.narrowing scrutinee scope branches args branch at head_is among after_is) =
      narrowing_kept program claims graph id scrutinee scope branches args assigned loose past known at head_is
  complete_row (row.still_partial function argument h args arity is head_is arity_is fewer after_is) =
      this (row.still_partial function argument h args arity is head_is arity_is fewer after_is)
      (still_partial_kept program claims graph after id function argument h args arity assigned loose past known is head_is arity_is fewer after_is)
  complete_row (row.whole function argument h args is head_is arity_is after_is) =
      this (row.whole function argument h args is head_is arity_is after_is)
      (whole_kept program claims graph after id function argument h args assigned loose past known is head_is arity_is after_is)
  complete_row (row.not_applicable function argument is other after_is) =
      absurd (not_applicable program claims graph id function argument assigned loose known is (ready_as kind.Apply (function ∷ argument ∷ []) is) other)
  complete_row (row.number operation args m n result is kinds result_is whole after_is) =
      this (row.number operation args m n result is kinds result_is whole after_is)
      (number_kept program claims graph id assigned loose known after operation args m n result past is kinds result_is whole after_is)
  complete_row (row.test operation args m n answer is kinds answer_is after_is) =
      this (row.test operation args m n answer is kinds answer_is after_is)
      (test_kept program claims graph id assigned loose known after operation args m n answer past is kinds answer_is after_is)
  complete_row (row.division_by_zero operation args m n is kinds by zero_divisor after_is) =
      absurd (never_divided program claims graph id assigned loose known operation args m n is kinds by zero_divisor)
  complete_row (row.code_point args c is kinds after_is) =
      this (row.code_point args c is kinds after_is) (code_point_kept program claims graph id assigned loose known after args c past is kinds after_is)
  complete_row (row.character args c is kinds scalar after_is) =
      this (row.character args c is kinds scalar after_is) (character_kept program claims graph id assigned loose known after args c past is kinds scalar after_is)
  complete_row (row.no_character args n is kinds none after_is) =
      absurd (never_character program claims graph id assigned loose known args n is kinds none)
  complete_row (row.no_operands operation args is on_literals none after_is) =
      absurd (never_answered program claims graph id assigned loose known operation args is on_literals
      (operands_bound graph operation args on_literals (ready_as (kind.Prim operation) args is)) none)
  complete_row (row.compared_literals a b l m us vs is head_a head_b after_is) =
      this (row.compared_literals a b l m us vs is head_a head_b after_is)
      (compared_literals_kept program claims graph id assigned loose known after a b l m us vs past is head_a head_b after_is)
  complete_row (row.compared_mixed a b is mixed after_is) =
      this (row.compared_mixed a b is mixed after_is)
      (compared_mixed_kept program claims graph id assigned loose known after a b past is (head_at graph a).kind (head_at graph b).kind refl refl mixed after_is)
  complete_row (row.compared_unlike a b c d us vs is head_a head_b differ after_is) =
      this (row.compared_unlike a b c d us vs is head_a head_b differ after_is)
      (compared_unlike_kept program claims graph id assigned loose known after a b c d us vs past is head_a head_b differ after_is)
  complete_row (row.compared_alike a b c d us vs is head_a head_b alike follows) =
      this (row.compared_alike a b c d us vs is head_a head_b alike follows)
      (comparison_kept program claims graph id assigned well loose past known after a b c d us vs fit is head_a head_b alike follows)
  complete_row (row.compared_partial a b is partial after_is) =
      absurd (never_compared program claims graph id assigned loose known a b is (ready_as (kind.Prim prim.Equal) (a ∷ b ∷ []) is) partial)
  complete_row (row.both_true a b is both after_is) =
      this (row.both_true a b is both after_is) (both_true_kept program claims graph id assigned loose known after a b well fit past is both after_is)
  complete_row (row.not_both_true a b is other after_is) =
      absurd (never_untrue program claims graph id assigned loose known a b (settled_as (kind.Prim prim.And) (a ∷ b ∷ []) is) other)
  complete_row (row.same_variable a b us vs is head_a head_b same after_is) =
      this (row.same_variable a b us vs is head_a head_b same after_is) (equation_kept program claims graph id assigned loose known after a b past is after_is)
  complete_row (row.two_variables a b us vs is head_a head_b differ after_is) =
      this (row.two_variables a b us vs is head_a head_b differ after_is)
      (renamed_kept program claims graph id assigned loose past known after a b (head_of graph a) (head_of graph b) kind.Free vs is (on_the_left us refl head_a refl head_b)
      after_is)
  complete_row (row.bound_to_literal a b v other l args is sides after_is) =
      this (row.bound_to_literal a b v other l args is sides after_is)
      (renamed_kept program claims graph id assigned loose past known after a b v other (kind.Lit l) args is sides after_is)
  complete_row (row.bound_to_constant a b v other c is sides after_is) =
      this (row.bound_to_constant a b v other c is sides after_is)
      (renamed_kept program claims graph id assigned loose past known after a b v other (kind.Cons c) [] is sides after_is)
  complete_row (row.occurs a b v other c arg args is sides reached after_is) =
      absurd (never_occurs program claims graph id assigned loose known a b v other c (arg ∷ args) is sides reached)
  complete_row (row.imitation a b v other c arg args is sides apart follows) =
      this (row.imitation a b v other c arg args is sides apart follows)
      (imitation_kept program claims graph id assigned well loose past known after a b v other c arg args is sides follows)
  complete_row (row.equal_literals a b l m us vs is head_a head_b same after_is) =
      this (row.equal_literals a b l m us vs is head_a head_b same after_is) (equation_kept program claims graph id assigned loose known after a b past is after_is)
  complete_row (row.unlike_literals a b l m us vs is head_a head_b differ after_is) =
      absurd (never_equal_literals program claims graph id assigned loose known a b l m is (kind_of a (kind.Lit l) us head_a) (kind_of b (kind.Lit m) vs head_b) differ)
  complete_row (row.decomposition a b c d us vs is head_a head_b alike follows) =
      this (row.decomposition a b c d us vs is head_a head_b alike follows)
      (decomposition_kept program claims graph id assigned well loose past known after a b c d us vs is head_a head_b follows)
  complete_row (row.clash a b c d us vs is head_a head_b differ after_is) =
      absurd (never_clashing program claims graph id assigned loose known a b c d is (kind_of a (kind.Cons c) us head_a) (kind_of b (kind.Cons d) vs head_b) differ)
  complete_row (row.mixed a b is mixed after_is) =
      absurd (never_mixed program claims graph id assigned loose known a b is (head_at graph a).kind (head_at graph b).kind refl refl mixed)
  complete_row (row.with_partial a b is partial after_is) = absurd (never_partial program claims graph id assigned loose known a b is partial)
  complete_row (row.set_of_partial f args is other after_is) = absurd (never_without_data program claims graph assigned loose id f args known is other)

pub complete_rows : (program : Code) (claims : List Claim) (graph after : Graph) (root id : ℕ) (goals : List ℕ) (assigned : Assignment) → is_well_formed program ≡ true
    → IsTrue (list_all (is_claim_of (program_of program)) claims) → IsValid program (Branch graph root goals Idle)
    → need_all program.special.truth graph root ≡ At id → Loose program claims graph assigned
    → NothingPast graph assigned → is_total (assigned root) ≡ true → Steps program graph id after
    → (other : Graph) × Steps program graph id other × (later : Assignment) × Continues program claims graph other assigned later
unfolding IsValid
complete_rows program claims graph after root id goals assigned well claimed valid needed loose past total step =
    let branch = valid.0 in
    let redex = need_at_redex (length graph) program.special.truth graph Throughout root id branch.arguments (lt-ltb root (length graph) branch.root_there) needed in
    let honest = needed_honest program claims graph root id assigned loose total needed in
    let found = complete_row program claims graph after id assigned well claimed branch.nodes loose past honest.0 redex.2 honest.1 step in
    (found.after, found.step, found.kept.0, found.kept.1)
