-- Every row of the step table is sound.
use Rattle.std.proofs.Common.{◌≡◌, ℕ, true, List, [], ◌∷◌, refl}
use Rattle.cu_calculus.specs.declared.builtin.Primitive.TheVariants as prim
use Rattle.cu_calculus.specs.Code.{Code}
use Rattle.cu_calculus.specs.Gives.{Claim}
use Rattle.cu_calculus.specs.WellFormed.{is_well_formed}
use Rattle.cu_machine.specs.declared.Kind.TheVariants as kind
use Rattle.cu_machine.specs.Graph.{Graph, head_at}
use Rattle.cu_machine.specs.Steps as row
use Rattle.cu_machine.specs.Steps.{Steps}
use Rattle.cu_machine.specs.Validity.{NodesFit}
use Rattle.cu_laws.specs.Good.{Assignment, Good}
use Rattle.cu_laws.proofs.ApplyRows.{still_partial_sound, whole_sound}
use Rattle.cu_laws.proofs.BindingRows.{bound_to_constant_sound, bound_to_literal_sound, imitation_sound, two_variables_sound}
use Rattle.cu_laws.proofs.CallRow.{call_sound}
use Rattle.cu_laws.proofs.CaseRows.{constructor_sound, literal_sound}
use Rattle.cu_laws.proofs.Changed.{Sound}
use Rattle.cu_laws.proofs.ChoiceRows.{left_sound, right_sound}
use Rattle.cu_laws.proofs.EquationRows.{decomposition_sound, equal_literals_sound, same_variable_sound}
use Rattle.cu_laws.proofs.FailureRows.{failing_sound, sticking_sound}
use Rattle.cu_laws.proofs.LiteralRows.{character_sound, code_point_sound, number_sound, test_sound}
use Rattle.cu_laws.proofs.NarrowingRow.{narrowing_sound}
use Rattle.cu_laws.proofs.PairRows.{both_true_sound, compared_alike_sound, compared_literals_sound, compared_mixed_sound, compared_unlike_sound}

module _ (program : Code) (claims : List Claim) (graph after : Graph) (id : ℕ) (later : Assignment) (well : is_well_formed program ≡ true) (fit : NodesFit program graph)
    (good : Good program claims after later) where
  pub row_sound : Steps program graph id after → Sound program claims graph later
  row_sound (row.call f args params body is body_is after_is) = call_sound program claims graph after id f args params body later well fit is body_is after_is good
  row_sound (row.left one two is after_is) = left_sound program claims graph after id one two later is after_is good
  row_sound (row.right one two is after_is) = right_sound program claims graph after id one two later is after_is good
  row_sound (row.literal_branch mode scrutinee scope branches l args branch at head_is chosen after_is) =
      literal_sound program claims graph after id mode scrutinee scope branches l args branch later well fit at head_is chosen after_is good
  row_sound (row.constructor_branch mode scrutinee scope branches c args branch at head_is chosen after_is) =
      constructor_sound program claims graph after id mode scrutinee scope branches c args branch later well fit at head_is chosen after_is good
  row_sound (row.no_literal_branch mode scrutinee scope branches l args at head_is none after_is) =
      failing_sound program claims graph after id (kind.Case mode at.number) (scrutinee ∷ at.values) later at.node_is refl after_is good
  row_sound (row.no_constructor_branch mode scrutinee scope branches c args at head_is none after_is) =
      failing_sound program claims graph after id (kind.Case mode at.number) (scrutinee ∷ at.values) later at.node_is refl after_is good
  row_sound (row.no_partial_branch mode scrutinee scope branches h args at head_is after_is) =
      failing_sound program claims graph after id (kind.Case mode at.number) (scrutinee ∷ at.values) later at.node_is refl after_is good
  row_sound (row.narrowing scrutinee scope branches args branch at head_is among after_is) =
      narrowing_sound program claims graph after id scrutinee scope branches args branch later well at head_is among after_is good
  row_sound (row.still_partial function argument h args arity is head_is arity_is fewer after_is) =
      still_partial_sound program claims graph after id function argument h args arity later fit is head_is arity_is fewer after_is good
  row_sound (row.whole function argument h args is head_is arity_is after_is) =
      whole_sound program claims graph after id function argument h args later fit is head_is arity_is after_is good
  row_sound (row.not_applicable function argument is other after_is) =
      failing_sound program claims graph after id kind.Apply (function ∷ argument ∷ []) later is refl after_is good
  row_sound (row.number operation args m n result is kinds result_is whole after_is) =
      number_sound program claims graph after id operation args m n result later fit is kinds result_is whole after_is good
  row_sound (row.test operation args m n answer is kinds answer_is after_is) =
      test_sound program claims graph after id operation args m n answer later fit is kinds answer_is after_is good
  row_sound (row.division_by_zero operation args m n is kinds divides zero after_is) =
      failing_sound program claims graph after id (kind.Prim operation) args later is refl after_is good
  row_sound (row.code_point args c is kinds after_is) = code_point_sound program claims graph after id args c later fit is kinds after_is good
  row_sound (row.character args c is kinds scalar after_is) = character_sound program claims graph after id args c later fit is kinds scalar after_is good
  row_sound (row.no_character args n is kinds none after_is) = failing_sound program claims graph after id (kind.Prim prim.Chr) args later is refl after_is good
  row_sound (row.no_operands operation args is on_literals none after_is) = failing_sound program claims graph after id (kind.Prim operation) args later is refl after_is good
  row_sound (row.compared_literals a b l m us vs is head_a head_b after_is) =
      compared_literals_sound program claims graph after id a b l m us vs later fit is head_a head_b after_is good
  row_sound (row.compared_mixed a b is mixed after_is) =
      compared_mixed_sound program claims graph after id a b later fit is (head_at graph a).kind (head_at graph b).kind refl refl mixed after_is good
  row_sound (row.compared_unlike a b c d us vs is head_a head_b differ after_is) =
      compared_unlike_sound program claims graph after id a b c d us vs later fit is head_a head_b differ after_is good
  row_sound (row.compared_alike a b c d us vs is head_a head_b alike after_is) =
      compared_alike_sound program claims graph after id a b c d us vs later well fit is head_a head_b alike after_is good
  row_sound (row.compared_partial a b is partial after_is) =
      failing_sound program claims graph after id (kind.Prim prim.Equal) (a ∷ b ∷ []) later is refl after_is good
  row_sound (row.both_true a b is both after_is) = both_true_sound program claims graph after id a b later well fit is both after_is good
  row_sound (row.not_both_true a b is other after_is) = failing_sound program claims graph after id (kind.Prim prim.And) (a ∷ b ∷ []) later is refl after_is good
  row_sound (row.same_variable a b us vs is head_a head_b same after_is) =
      same_variable_sound program claims graph after id a b us vs later is head_a head_b same after_is good
  row_sound (row.two_variables a b us vs is head_a head_b differ after_is) =
      two_variables_sound program claims graph after id a b us vs later is head_a head_b differ after_is good
  row_sound (row.bound_to_literal a b v other l args is sides after_is) =
      bound_to_literal_sound program claims graph after id a b v other l args later fit is sides after_is good
  row_sound (row.bound_to_constant a b v other c is sides after_is) =
      bound_to_constant_sound program claims graph after id a b v other c later fit is sides after_is good
  row_sound (row.occurs a b v other c arg args is sides reached after_is) =
      failing_sound program claims graph after id (kind.Prim prim.Unify) (a ∷ b ∷ []) later is refl after_is good
  row_sound (row.imitation a b v other c arg args is sides apart after_is) =
      imitation_sound program claims graph after id a b v other c arg args later fit is sides after_is good
  row_sound (row.equal_literals a b l m us vs is head_a head_b same after_is) =
      equal_literals_sound program claims graph after id a b l m us vs later fit is head_a head_b same after_is good
  row_sound (row.unlike_literals a b l m us vs is head_a head_b differ after_is) =
      failing_sound program claims graph after id (kind.Prim prim.Unify) (a ∷ b ∷ []) later is refl after_is good
  row_sound (row.decomposition a b c d us vs is head_a head_b alike after_is) =
      decomposition_sound program claims graph after id a b c d us vs later fit is head_a head_b alike after_is good
  row_sound (row.clash a b c d us vs is head_a head_b differ after_is) =
      failing_sound program claims graph after id (kind.Prim prim.Unify) (a ∷ b ∷ []) later is refl after_is good
  row_sound (row.mixed a b is mixed after_is) = failing_sound program claims graph after id (kind.Prim prim.Unify) (a ∷ b ∷ []) later is refl after_is good
  row_sound (row.with_partial a b is partial after_is) = failing_sound program claims graph after id (kind.Prim prim.Unify) (a ∷ b ∷ []) later is refl after_is good
  row_sound (row.set_of_partial f args is partial after_is) = sticking_sound program claims graph after id (kind.SetCall f) args later is refl after_is good

-- every row of the step table is sound, with the row as an argument among others
pub sound_row : (program : Code) (claims : List Claim) (graph after : Graph) (id : ℕ) (later : Assignment) → is_well_formed program ≡ true → NodesFit program graph
    → Steps program graph id after → Good program claims after later → Sound program claims graph later
sound_row program claims graph after id later well fit step good = row_sound program claims graph after id later well fit good step
