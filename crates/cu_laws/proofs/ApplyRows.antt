-- An application is worth what the partial application or the whole call is that stands in its
-- place.
use Rattle.std.proofs.Common.{◌≡◌, ℕ, suc, ◌<◌, true, List, [], ◌∷◌, ◌++◌, Some, refl, ap, ap₂, sym, ◌∙◌, subst, length, lt-ltb, eq-eqb}
use Rattle.cu_calculus.specs.declared.Head.{Head}
use Rattle.cu_calculus.specs.Below.{Below}
use Rattle.cu_calculus.specs.Code.{Code, arity_of}
use Rattle.cu_calculus.specs.FlatProgram.{program_of}
use Rattle.cu_calculus.specs.Gives as gives
use Rattle.cu_calculus.specs.Gives.{Applied, AppliedTo, Claim}
use Rattle.cu_calculus.specs.Program.{arity_in}
use Rattle.cu_calculus.specs.Shape.{takes, takes_more}
use Rattle.cu_calculus.specs.Value as value
use Rattle.cu_calculus.specs.Value.{Value, Values, and_then, count}
use Rattle.cu_calculus.proofs.BelowLaws.{below_itself}
use Rattle.cu_calculus.proofs.FlatFitting.{arity_kept}
use Rattle.cu_machine.specs.declared.Kind.TheVariants as kind
use Rattle.cu_machine.specs.Build.{kind_of_whole}
use Rattle.cu_machine.specs.Graph.{Graph, Node, head_at, node_at, put}
use Rattle.cu_machine.specs.Steps.{node}
use Rattle.cu_machine.specs.Validity.{NodesFit}
use Rattle.cu_laws.specs.Good.{Assignment, AtMost, Good}
use Rattle.cu_laws.proofs.Built.{whole_worth}
use Rattle.cu_laws.proofs.Changed.{Changed, Sound, apart_before, changed_by_put, new_may, sound_as}
use Rattle.cu_laws.proofs.Heads.{count_at, values_at}
use Rattle.cu_laws.proofs.Lifting.{lifted}
use Rattle.cu_laws.proofs.Raising.{there_unless_stuck}
use Rattle.cu_laws.proofs.Rising.{applied_to_rises, at_most_rises}

pub at_most_as : (Is Are : Value → Type 0) (v : Value) → AtMost Is v → ((w : Value) → Is w → Are w) → AtMost Are v
at_most_as Is Are v most each = at_most_rises Is Are v most (λ w is. (w, each w is, below_itself w))

pub values_at_last : (assigned : Assignment) (args : List ℕ) (last : ℕ) → values_at assigned (args ++ last ∷ []) ≡ and_then (values_at assigned args) (assigned last)
values_at_last assigned [] last = refl
values_at_last assigned (arg ∷ args) last = ap (value.MoreValues (assigned arg)) (values_at_last assigned args last)

-- what stands in the place of an application is worth what the function gives on the argument
pub apply_sound : (program : Code) (claims : List Claim) (graph after : Graph) (new : Node) (id function argument : ℕ) (h : Head) (args : List ℕ) (later : Assignment)
    → NodesFit program graph → node_at graph id ≡ node kind.Apply (function ∷ argument ∷ []) → head_at graph function ≡ node (kind.Part h) args
    → Changed graph id after new → Good program claims after later
    → AtMost (AppliedTo (program_of program) claims (value.Partial h (values_at later args)) (later argument)) (later id) → Sound program claims graph later
apply_sound program claims graph after new id function argument h args later fit is head_is changed good most =
    let P = program_of program in
    let w = value.Partial h (values_at later args) in
    let apart = apart_before program claims graph id after new later changed good in
    let lift = lifted program claims graph id later kind.Apply (function ∷ argument ∷ []) is refl fit apart function (kind.Part h) args w head_is refl in
    let up : Below w (lift.higher function) = subst (λ (x : Value). Below w x) (sym lift.there) (below_itself w) in
    let worth : AtMost (AppliedTo P claims (lift.higher function) (lift.higher argument)) (later id) =
    at_most_rises (AppliedTo P claims w (later argument)) (AppliedTo P claims (lift.higher function) (lift.higher argument)) (later id) most
    (λ x given. applied_to_rises P claims w (later argument) (lift.higher function) (lift.higher argument) x given up (lift.rises argument)) in
    sound_as program claims graph id kind.Apply (function ∷ argument ∷ []) later lift.higher is lift.good lift.rises
    (subst (λ (x : Value). AtMost (AppliedTo P claims (lift.higher function) (lift.higher argument)) x) (sym lift.kept) worth)

length_last : (args : List ℕ) (last : ℕ) → length (args ++ last ∷ []) ≡ suc (length args)
length_last [] last = refl
length_last (arg ∷ args) last = ap suc (length_last args last)

pub still_partial_sound : (program : Code) (claims : List Claim) (graph after : Graph) (id function argument : ℕ) (h : Head) (args : List ℕ) (arity : ℕ) (later : Assignment)
    → NodesFit program graph → node_at graph id ≡ node kind.Apply (function ∷ argument ∷ []) → head_at graph function ≡ node (kind.Part h) args
    → arity_of program h ≡ Some arity → length (args ++ argument ∷ []) < arity → after ≡ put graph id (node (kind.Part h) (args ++ argument ∷ []))
    → Good program claims after later → Sound program claims graph later
still_partial_sound program claims graph after id function argument h args arity later fit is head_is arity_is fewer after_is good =
    let P = program_of program in
    let all_args = args ++ argument ∷ [] in
    let new = node (kind.Part h) all_args in
    let us = values_at later args in
    let more = values_at later all_args in
    let changed = changed_by_put graph id after new (there_unless_stuck graph id kind.Apply (function ∷ argument ∷ []) is refl) after_is in
    let less : takes_more (arity_in P h) (count more) ≡ true =
    ap₂ takes_more (arity_kept program h ∙ arity_is) (count_at later all_args) ∙ lt-ltb (length all_args) arity fewer in
    apply_sound program claims graph after new id function argument h args later fit is head_is changed good
    (at_most_as (λ v. v ≡ value.Partial h more) (AppliedTo P claims (value.Partial h us) (later argument)) (later id) (new_may program claims graph id after new later changed good)
    (λ w same. subst (λ (x : Value). AppliedTo P claims (value.Partial h us) (later argument) x) (sym same)
    (gives.extended h us more (later argument) (values_at_last later args argument) less)))

pub whole_sound : (program : Code) (claims : List Claim) (graph after : Graph) (id function argument : ℕ) (h : Head) (args : List ℕ) (later : Assignment)
    → NodesFit program graph → node_at graph id ≡ node kind.Apply (function ∷ argument ∷ []) → head_at graph function ≡ node (kind.Part h) args
    → arity_of program h ≡ Some (length (args ++ argument ∷ [])) → after ≡ put graph id (node (kind_of_whole program h) (args ++ argument ∷ []))
    → Good program claims after later → Sound program claims graph later
whole_sound program claims graph after id function argument h args later fit is head_is arity_is after_is good =
    let P = program_of program in
    let all_args = args ++ argument ∷ [] in
    let new = node (kind_of_whole program h) all_args in
    let us = values_at later args in
    let all = values_at later all_args in
    let changed = changed_by_put graph id after new (there_unless_stuck graph id kind.Apply (function ∷ argument ∷ []) is refl) after_is in
    let enough : takes (arity_in P h) (count all) ≡ true =
    ap₂ takes (arity_kept program h ∙ arity_is) (count_at later all_args) ∙ eq-eqb (length all_args) (length all_args) refl in
    apply_sound program claims graph after new id function argument h args later fit is head_is changed good
    (at_most_as (Applied P claims h all) (AppliedTo P claims (value.Partial h us) (later argument)) (later id)
    (whole_worth program claims later h all_args (later id) (new_may program claims graph id after new later changed good))
    (λ w app. gives.completed h us all (later argument) w (values_at_last later args argument) enough app))
