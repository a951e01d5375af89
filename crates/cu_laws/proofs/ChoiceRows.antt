-- A choice is worth what either of its arguments is.
use Rattle.std.proofs.Common.{◌≡◌, ℕ, List, [], ◌∷◌, inl, inr, refl}
use Rattle.cu_calculus.specs.Code.{Code}
use Rattle.cu_calculus.specs.Gives.{Claim}
use Rattle.cu_machine.specs.declared.Kind.TheVariants as kind
use Rattle.cu_machine.specs.Graph.{Graph, node_at, put, renaming}
use Rattle.cu_machine.specs.Steps.{node}
use Rattle.cu_laws.specs.Good.{Assignment, Good}
use Rattle.cu_laws.proofs.Changed.{Sound, apart_before, changed_by_put, new_may, sound_as}
use Rattle.cu_laws.proofs.Raising.{rises_itself, there_unless_stuck}

pub left_sound : (program : Code) (claims : List Claim) (graph after : Graph) (id one two : ℕ) (later : Assignment) → node_at graph id ≡ node kind.Or (one ∷ two ∷ [])
    → after ≡ put graph id (renaming one) → Good program claims after later → Sound program claims graph later
left_sound program claims graph after id one two later is after_is good =
    let changed = changed_by_put graph id after (renaming one) (there_unless_stuck graph id kind.Or (one ∷ two ∷ []) is refl) after_is in
    sound_as program claims graph id kind.Or (one ∷ two ∷ []) later later is (apart_before program claims graph id after (renaming one) later changed good)
    (rises_itself later) (inr (later one, inl refl, new_may program claims graph id after (renaming one) later changed good))

pub right_sound : (program : Code) (claims : List Claim) (graph after : Graph) (id one two : ℕ) (later : Assignment) → node_at graph id ≡ node kind.Or (one ∷ two ∷ [])
    → after ≡ put graph id (renaming two) → Good program claims after later → Sound program claims graph later
right_sound program claims graph after id one two later is after_is good =
    let changed = changed_by_put graph id after (renaming two) (there_unless_stuck graph id kind.Or (one ∷ two ∷ []) is refl) after_is in
    sound_as program claims graph id kind.Or (one ∷ two ∷ []) later later is (apart_before program claims graph id after (renaming two) later changed good)
    (rises_itself later) (inr (later two, inr refl, new_may program claims graph id after (renaming two) later changed good))
