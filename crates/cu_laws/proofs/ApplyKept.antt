-- What an application has, the partial application or the whole call has that stands in its place.
use Rattle.std.proofs.Common.{◌≡◌, ℕ, ◌<◌, inr, true, false, List, [], ◌∷◌, ◌++◌, Option, Some, refl, ap, ap₂, sym, ◌∙◌, subst, length, eqb-true, ltb-true, true≢false, arith}
use Rattle.cu_calculus.specs.declared.Head.{Head}
use Rattle.cu_calculus.specs.Below.{Below}
use Rattle.cu_calculus.specs.Code.{Code, arity_of}
use Rattle.cu_calculus.specs.FlatProgram.{program_of}
use Rattle.cu_calculus.specs.Gives as gives
use Rattle.cu_calculus.specs.Gives.{Applied, AppliedTo, Claim}
use Rattle.cu_calculus.specs.Program.{arity_in}
use Rattle.cu_calculus.specs.Program.{Program}
use Rattle.cu_calculus.specs.Shape.{takes, takes_more}
use Rattle.cu_calculus.specs.Value as value
use Rattle.cu_calculus.specs.Value.{Value, Values, and_then, count}
use Rattle.cu_calculus.proofs.BelowLaws.{below_itself, below_trans}
use Rattle.cu_calculus.proofs.FlatFitting.{arity_kept}
use Rattle.cu_machine.specs.declared.Kind.{Kind}
use Rattle.cu_machine.specs.declared.Kind.TheVariants as kind
use Rattle.cu_machine.specs.Build.{kind_of_whole}
use Rattle.cu_machine.specs.Graph.{Graph, head_at, node_at, put}
use Rattle.cu_machine.specs.Steps.{is_partial, node}
use Rattle.cu_machine.proofs.NeedPlaces.{has_bound_head, is_bound}
use Rattle.cu_laws.specs.Continues.{NothingPast}
use Rattle.cu_laws.specs.Good.{Assignment, Loose, Worth}
use Rattle.cu_laws.proofs.ApplyRows.{values_at_last}
use Rattle.cu_laws.proofs.Continuing.{Kept, kept_by_put}
use Rattle.cu_laws.proofs.LooseNodes.{head_most, loose_at, loosened}
use Rattle.cu_laws.proofs.Extended.{whole_may}
use Rattle.cu_laws.proofs.Heads.{count_at, values_at}
use Rattle.cu_laws.proofs.Known.{is_known, worth_of}
use Rattle.cu_laws.proofs.Raising.{there_unless_stuck}
use Rattle.cu_laws.proofs.Rising.{above_partial, applied_to_rises}

-- what a partial application on one argument more gives: a head that still lacks some, or a whole
-- call
pub data Applies (program : Program) (claims : List Claim) (h : Head) (all : Values) (v : Value) : Type 0 where
  is_partial_still : takes_more (arity_in program h) (count all) ≡ true → v ≡ value.Partial h all → Applies program claims h all v
  is_whole : takes (arity_in program h) (count all) ≡ true → Applied program claims h all v → Applies program claims h all v

pub applies : (program : Program) (claims : List Claim) (w u v : Value) → AppliedTo program claims w u v → (h : Head) (us : Values) → w ≡ value.Partial h us
    → Applies program claims h (and_then us u) v
applies program claims _ u _ (gives.extended g xs more _ m fewer) h us is =
    let heads : g ≡ h = cc in
    let args : xs ≡ us = cc in
    let all : more ≡ and_then us u = m ∙ ap (λ (z : Values). and_then z u) args in
    is_partial_still (subst (λ (z : Head). takes_more (arity_in program z) (count (and_then us u)) ≡ true) heads (subst (λ (z : Values). takes_more (arity_in program g) (count z) ≡ true) all fewer))
    (ap₂ value.Partial heads all)
applies program claims _ u v (gives.completed g xs full _ _ m enough app) h us is =
    let heads : g ≡ h = cc in
    let args : xs ≡ us = cc in
    let all : full ≡ and_then us u = m ∙ ap (λ (z : Values). and_then z u) args in
    is_whole
    (subst (λ (z : Head). takes (arity_in program z) (count (and_then us u)) ≡ true) heads (subst (λ (z : Values). takes (arity_in program g) (count z) ≡ true) all enough))
    (subst (λ (z : Head). Applied program claims z (and_then us u) v) heads (subst (λ (z : Values). Applied program claims g z v) all app))

-- what the application of a partial application has, by what that gives
record Given (program : Code) (claims : List Claim) (id : ℕ) (h : Head) (all_args : List ℕ) (assigned : Assignment) : Type 0 where
  worth : Value
  low : Below (assigned id) worth
  by : Applies (program_of program) claims h (values_at assigned all_args) worth

application : (program : Code) (claims : List Claim) (graph : Graph) (id function argument : ℕ) (h : Head) (args : List ℕ) (assigned : Assignment)
    → Loose program claims graph assigned → is_known (assigned id) ≡ true → node_at graph id ≡ node kind.Apply (function ∷ argument ∷ [])
    → head_at graph function ≡ node (kind.Part h) args → Given program claims id h (args ++ argument ∷ []) assigned
application program claims graph id function argument h args assigned loose known is head_is =
    let P = program_of program in
    let us = values_at assigned args in
    let found = worth_of (Worth program claims kind.Apply (assigned function ∷ assigned argument ∷ [])) (assigned id) known
    (loose_at program claims graph assigned id kind.Apply (function ∷ argument ∷ []) loose is refl) in
    let up : Below (assigned function) (value.Partial h us) = head_most program claims graph assigned function (kind.Part h) args (value.Partial h us) loose head_is refl in
    let high = applied_to_rises P claims (assigned function) (assigned argument) (value.Partial h us) (assigned argument) found.0 found.1 up (below_itself (assigned argument)) in
    record {
      worth = high.0;
      low = below_trans (assigned id) found.0 high.0 found.2 high.2;
      by = subst (λ (z : Values). Applies P claims h z high.0) (sym (values_at_last assigned args argument))
          (applies P claims (value.Partial h us) (assigned argument) high.0 high.1 h us refl);
    }

-- a number of arguments isn't both enough and too few
few_or_enough : (o : Option ℕ) (arity n : ℕ) → o ≡ Some arity → takes o n ≡ true → n < arity → ⊥
few_or_enough o arity n is enough fewer =
    let same : arity ≡ n = eqb-true arity n (subst (λ (x : Option ℕ). takes x n ≡ true) is enough) in omega arith

enough_or_few : (o : Option ℕ) (arity n : ℕ) → o ≡ Some arity → takes_more o n ≡ true → arity ≡ n → ⊥
enough_or_few o arity n is few same =
    let less : n < arity = ltb-true n arity (subst (λ (x : Option ℕ). takes_more x n ≡ true) is few) in omega (arith, same)

pub still_partial_kept : (program : Code) (claims : List Claim) (graph after : Graph) (id function argument : ℕ) (h : Head) (args : List ℕ) (arity : ℕ) (assigned : Assignment)
    → Loose program claims graph assigned → NothingPast graph assigned → is_known (assigned id) ≡ true → node_at graph id ≡ node kind.Apply (function ∷ argument ∷ [])
    → head_at graph function ≡ node (kind.Part h) args → arity_of program h ≡ Some arity → length (args ++ argument ∷ []) < arity
    → after ≡ put graph id (node (kind.Part h) (args ++ argument ∷ [])) → Kept program claims graph after assigned
still_partial_kept program claims graph after id function argument h args arity assigned loose past known is head_is arity_is fewer after_is =
    let all_args = args ++ argument ∷ [] in
    let here : id < length graph = there_unless_stuck graph id kind.Apply (function ∷ argument ∷ []) is refl in
    let found = application program claims graph id function argument h args assigned loose known is head_is in
    let counted : count (values_at assigned all_args) ≡ length all_args = count_at assigned all_args in
    kept_by_put program claims graph after id (node (kind.Part h) all_args) assigned here after_is loose past
    (elim found.by [
      | is_partial_still few same ↦ inr (found.worth, same, found.low)
      | is_whole enough app ↦
          absurd (few_or_enough (arity_in (program_of program) h) arity (length all_args) (arity_kept program h ∙ arity_is)
          (subst (λ (n : ℕ). takes (arity_in (program_of program) h) n ≡ true) counted enough) fewer)
    ])

pub whole_kept : (program : Code) (claims : List Claim) (graph after : Graph) (id function argument : ℕ) (h : Head) (args : List ℕ) (assigned : Assignment)
    → Loose program claims graph assigned → NothingPast graph assigned → is_known (assigned id) ≡ true → node_at graph id ≡ node kind.Apply (function ∷ argument ∷ [])
    → head_at graph function ≡ node (kind.Part h) args → arity_of program h ≡ Some (length (args ++ argument ∷ []))
    → after ≡ put graph id (node (kind_of_whole program h) (args ++ argument ∷ [])) → Kept program claims graph after assigned
whole_kept program claims graph after id function argument h args assigned loose past known is head_is arity_is after_is =
    let all_args = args ++ argument ∷ [] in
    let here : id < length graph = there_unless_stuck graph id kind.Apply (function ∷ argument ∷ []) is refl in
    let found = application program claims graph id function argument h args assigned loose known is head_is in
    let counted : count (values_at assigned all_args) ≡ length all_args = count_at assigned all_args in
    kept_by_put program claims graph after id (node (kind_of_whole program h) all_args) assigned here after_is loose past
    (elim found.by [
      | is_partial_still few same ↦
          absurd (enough_or_few (arity_in (program_of program) h) (length all_args) (length all_args) (arity_kept program h ∙ arity_is)
          (subst (λ (n : ℕ). takes_more (arity_in (program_of program) h) n ≡ true) counted few) refl)
      | is_whole enough app ↦
          loosened program claims assigned (kind_of_whole program h) all_args (assigned id) (whole_may program claims assigned h all_args (assigned id) found.worth app found.low)
    ])

-- ---- other heads

-- only partial applications are applied
partial_applied : (program : Program) (claims : List Claim) (w u v : Value) → AppliedTo program claims w u v → (h : Head) × (us : Values) × (w ≡ value.Partial h us)
partial_applied program claims _ u _ (gives.extended h us more _ m fewer) = (h, us, refl)
partial_applied program claims _ u v (gives.completed h us all _ _ m enough app) = (h, us, refl)

pub not_applicable : (program : Code) (claims : List Claim) (graph : Graph) (id function argument : ℕ) (assigned : Assignment) → Loose program claims graph assigned
    → is_known (assigned id) ≡ true → node_at graph id ≡ node kind.Apply (function ∷ argument ∷ []) → has_bound_head graph function ≡ true
    → is_partial (head_at graph function).kind ≡ false → ⊥
not_applicable program claims graph id function argument assigned loose known is ready other =
    let P = program_of program in
    let found = worth_of (Worth program claims kind.Apply (assigned function ∷ assigned argument ∷ [])) (assigned id) known
    (loose_at program claims graph assigned id kind.Apply (function ∷ argument ∷ []) loose is refl) in
    let partial = partial_applied P claims (assigned function) (assigned argument) found.0 found.1 in
    go partial.0 partial.1 partial.2 (head_at graph function).kind (head_at graph function).args refl ready other
  where
    go : (h : Head) (us : Values) → assigned function ≡ value.Partial h us → (k : Kind) (args : List ℕ) → head_at graph function ≡ node k args → is_bound k ≡ true
        → is_partial k ≡ false → ⊥
    go h us value_is (kind.Cons c) args head_is bound none =
        let up = head_most program claims graph assigned function (kind.Cons c) args (value.Constructed c (values_at assigned args)) loose head_is refl in
        let above = above_partial (assigned function) (value.Constructed c (values_at assigned args)) up h us value_is in
        let same = above.1 in
        cc
    go h us value_is (kind.Lit l) args head_is bound none =
        let up = head_most program claims graph assigned function (kind.Lit l) args (value.Literal l) loose head_is refl in
        let above = above_partial (assigned function) (value.Literal l) up h us value_is in
        let same = above.1 in
        cc
    go h us value_is (kind.Part g) args head_is bound none = true≢false none
    go h us value_is _ args head_is bound none = true≢false (sym bound)
