-- A set function's call whose search ended has at most the list of what was found, over claims that
-- agree with searches.
use Rattle.std.proofs.Common.{◌≡◌, ℕ, zero, suc, ◌+◌, ◌<◌, inl, inr, true, ◌&&◌, List, [], ◌∷◌, Option, None, Some, refl, sym, ◌∙◌, subst, length, map, slice_get, true≢false, arith}
use Rattle.std.specs.List.{list_all}
use Rattle.std.proofs.lemmas.Bool.{and_from, and_parts}
use Rattle.cu_calculus.specs.declared.ConId.{ConId}
use Rattle.cu_calculus.specs.declared.FunId.{FunId}
use Rattle.cu_calculus.specs.declared.Head.{Head}
use Rattle.cu_calculus.specs.declared.Head.TheVariants as head
use Rattle.cu_calculus.specs.Below as below
use Rattle.cu_calculus.specs.Below.{AllBelow, Below}
use Rattle.cu_calculus.specs.Code.{Code, arity_of}
use Rattle.cu_calculus.specs.FlatProgram.{program_of}
use Rattle.cu_calculus.specs.Gives as gives
use Rattle.cu_calculus.specs.Gives.{Applied, Claim, collected, listed}
use Rattle.cu_calculus.specs.Program.{Program}
use Rattle.cu_calculus.specs.Shape.{are_ground, is_ground, takes}
use Rattle.cu_calculus.specs.Value as value
use Rattle.cu_calculus.specs.Value.{Value, Values, count, values_of}
use Rattle.cu_calculus.specs.WellFormed.{is_well_formed}
use Rattle.cu_calculus.proofs.BelowLaws.{below_itself, below_trans}
use Rattle.cu_machine.specs.declared.Kind.{Kind}
use Rattle.cu_machine.specs.declared.Kind.TheVariants as kind
use Rattle.cu_machine.specs.declared.Limits.{Limits}
use Rattle.cu_machine.specs.Build.{instead, place_of, pushed, written}
use Rattle.cu_machine.specs.Found.{Found}
use Rattle.cu_machine.specs.Graph.{Graph, head_at, head_of, node_at, put, stuck}
use Rattle.cu_machine.specs.Next.{delivered}
use Rattle.cu_machine.specs.Sort.{sorted}
use Rattle.cu_machine.specs.Spell.{push_value, push_values, spelled, spelled_at, spelled_within}
use Rattle.cu_machine.specs.State.{NoState}
use Rattle.cu_machine.specs.Steps.{node}
use Rattle.cu_machine.specs.Validity.{NodesFit, are_built, is_built}
use Rattle.cu_machine.proofs.Building.{special_there}
use Rattle.cu_machine.proofs.Levels.{found_built}
use Rattle.cu_machine.proofs.Rows.{special_good}
use Rattle.cu_laws.specs.Continues.{NothingPast}
use Rattle.cu_laws.specs.Good.{Assignment, AtMost, Loose}
use Rattle.cu_laws.specs.Promises.{AgreeWithSearches}
use Rattle.cu_laws.specs.Traced.{TracedSearch, spelled_values}
use Rattle.cu_laws.proofs.CameFrom.{all_built_ground, ended_found}
use Rattle.cu_laws.proofs.Changed.{changed_by_writing}
use Rattle.cu_laws.proofs.Continuing.{Kept, continues_by, kept_by_put}
use Rattle.cu_laws.proofs.Extended.{AllOf, Extended, Past, Pushed, nothing_pushed, push_top, pushed_both, written_by}
use Rattle.cu_laws.proofs.Heads.{values_at}
use Rattle.cu_laws.proofs.LooseNodes.{head_most, loose_at}
use Rattle.cu_laws.proofs.Raising.{rises_itself, there_unless_stuck}
use Rattle.cu_laws.proofs.Rising.{all_total_above, all_ground_total}
use Rattle.cu_laws.proofs.SearchAnswers.{built_of}
use Rattle.cu_laws.proofs.SetRow.{delivered_by, delivered_is}

-- ---- what spells ground data has at most that

all_at_most : (assigned : Assignment) (part : ℕ → Value) (args : List ℕ) → ((y : ℕ) → is_ground (part y) ≡ true → Below (assigned y) (part y))
    → are_ground (values_of (map part args)) ≡ true → AllBelow (values_at assigned args) (values_of (map part args))
all_at_most assigned part [] each ground = below.none
all_at_most assigned part (arg ∷ args) each ground =
    let parts = and_parts (is_ground (part arg)) (are_ground (values_of (map part args))) ground in
    below.more (assigned arg) (part arg) (values_at assigned args) (values_of (map part args)) (each arg parts.0) (all_at_most assigned part args each parts.1)

module _ (program : Code) (claims : List Claim) (graph : Graph) (assigned : Assignment) (loose : Loose program claims graph assigned) where
  head_at_most : (part : ℕ → Value) → ((y : ℕ) → is_ground (part y) ≡ true → Below (assigned y) (part y)) → (x : ℕ) (k : Kind) (args : List ℕ)
      → head_at graph x ≡ node k args → is_ground (spelled_at part (head_of graph x) k args) ≡ true → Below (assigned x) (spelled_at part (head_of graph x) k args)
  head_at_most part each x (kind.Cons c) args head_is ground =
      let u = value.Constructed c (values_at assigned args) in
      below_trans (assigned x) u (value.Constructed c (values_of (map part args))) (head_most program claims graph assigned x (kind.Cons c) args u loose head_is refl)
      (below.constructed c (values_at assigned args) (values_of (map part args)) (all_at_most assigned part args each ground))
  head_at_most part each x (kind.Lit l) args head_is ground = head_most program claims graph assigned x (kind.Lit l) args (value.Literal l) loose head_is refl
  head_at_most part each x _ args head_is ground = absurd (true≢false (sym ground))

  at_most_spelled : (depth x : ℕ) → is_ground (spelled_within depth graph x) ≡ true → Below (assigned x) (spelled_within depth graph x)
  unfolding spelled_within
  at_most_spelled zero x ground = absurd (true≢false (sym ground))
  at_most_spelled (suc depth) x ground =
      head_at_most (spelled_within depth graph) (at_most_spelled depth) x (head_at graph x).kind (head_at graph x).args refl ground

  -- so where the arguments of a call have ground data, it is what they spell
  arguments_spelled : (args : List ℕ) → are_ground (values_at assigned args) ≡ true → are_ground (spelled_values graph args) ≡ true
      → values_at assigned args ≡ spelled_values graph args
  arguments_spelled args ground spells =
      all_total_above (values_at assigned args) (spelled_values graph args) (all_at_most assigned (spelled graph) args (at_most_spelled (length graph)) spells)
      (all_ground_total (values_at assigned args) ground)

-- ---- what a set function's call has

-- a claim that gives it
record ByClaim (program : Program) (claims : List Claim) (f : FunId) (us : Values) (v : Value) : Type 0 where
  claim : Claim
  k : ℕ
  c : ConId
  ground : are_ground us ≡ true
  at : slice_get claims k ≡ Some claim
  function_is : claim.function ≡ f
  arguments_are : claim.arguments ≡ us
  values_are : program.special.values ≡ Some c
  low : Below v (collected program c claim.values)

by_claim : (program : Program) (claims : List Claim) (h : Head) (us : Values) (v : Value) → Applied program claims h us v → (f : FunId) → h ≡ head.Set f
    → ByClaim program claims f us v
by_claim program claims _ us _ (gives.constructed c _) f is = let no : ⊥ = cc in absurd no
by_claim program claims _ us v (gives.by_rule g function rules k rule bindings _ _ e b r m given) f is = let no : ⊥ = cc in absurd no
by_claim program claims _ us v (gives.builtin g function operation _ _ e b answers) f is = let no : ⊥ = cc in absurd no
by_claim program claims _ us v (gives.collect g claim k c _ _ ground at function_is arguments_are values_are low) f is =
    let same : g ≡ f = cc in
    record {
      claim = claim;
      k = k;
      c = c;
      ground = ground;
      at = at;
      function_is = function_is ∙ same;
      arguments_are = arguments_are;
      values_are = values_are;
      low = low;
    }

-- the call has at most what its search has found
at_most_found : (program : Code) (claims : List Claim) (limits : Limits) (graph : Graph) (id : ℕ) (f : FunId) (args : List ℕ) (c : ConId) (values : List Value)
    (assigned : Assignment) → AgreeWithSearches program limits claims → Loose program claims graph assigned → node_at graph id ≡ node (kind.SetCall f) args
    → are_ground (spelled_values graph args) ≡ true → program.special.values ≡ Some c → Found program limits f (spelled_values graph args) values
    → Below (assigned id) (collected (program_of program) c values)
at_most_found program claims limits graph id f args c values assigned agree loose is spells values_are found =
    by (loose_at program claims graph assigned id (kind.SetCall f) args loose is refl)
  where
    P : Program
    P = program_of program

    from_claim : (w : Value) → ByClaim P claims f (values_at assigned args) w → Below w (collected P c values)
    from_claim w given =
        let arguments : given.claim.arguments ≡ spelled_values graph args =
        given.arguments_are ∙ arguments_spelled program claims graph assigned loose args given.ground spells in
        let its_search : Found program limits given.claim.function given.claim.arguments values =
        subst (λ (g : FunId). Found program limits g given.claim.arguments values) (sym given.function_is)
        (subst (λ (us : Values). Found program limits f us values) (sym arguments) found) in
        let same : given.claim.values ≡ values = agree.agree given.k given.claim values given.at its_search in
        let constructors : Some given.c ≡ Some c = sym given.values_are ∙ values_are in
        let constructor_is : given.c ≡ c = cc in
        subst (λ (d : ConId). Below w (collected P d values)) constructor_is (subst (λ (vs : List Value). Below w (collected P given.c vs)) same given.low)

    by : AtMost (Applied P claims (head.Set f) (values_at assigned args)) (assigned id) → Below (assigned id) (collected P c values)
    by (inl none) = subst (λ (x : Value). Below x (collected P c values)) (sym none) (below.bottom (collected P c values))
    by (inr given) =
        below_trans (assigned id) given.0 (collected P c values) given.2
        (from_claim given.0 (by_claim P claims (head.Set f) (values_at assigned args) given.0 given.1 f refl))

-- ---- values that are pushed cell by cell

module _ (program : Code) (claims : List Claim) where
  record PushedValues (assigned : Assignment) (next : ℕ) (vs : Values) : Type 0 where
    pushes : Pushed program claims assigned next (push_values next vs).nodes
    there : AllBelow vs (values_at pushes.higher (push_values next vs).ids)

  mutual
    unfolding pushed_both

    -- what is built of ground data of the program may have it, and less
    value_has : (next : ℕ) (v w : Value) (assigned : Assignment) → is_built program v ≡ true → AllOf program claims assigned → Past program claims assigned next → Below w v
        → Extended program claims assigned next (push_value next v) w
    value_has next value.Bottom w assigned built all past low = absurd (true≢false (sym built))
    value_has next (value.Variable x) w assigned built all past low = absurd (true≢false (sym built))
    value_has next (value.Literal l) w assigned built all past low = record {
      higher = assigned;
      of_program = all;
      rises = rises_itself assigned;
      same = λ x below. refl;
      past = λ x above. past x (omega arith);
      may = tt;
      top = inr (value.Literal l, refl, low);
    }
    value_has next (value.Constructed c vs) w assigned built all past low =
        let parts = and_parts (takes (arity_of program (head.Con c)) (count vs)) (are_built program vs) built in
        let inner = values_have next vs assigned parts.1 all past in
        let us = values_at inner.pushes.higher (push_values next vs).ids in
        record {
          higher = inner.pushes.higher;
          of_program = inner.pushes.of_program;
          rises = inner.pushes.rises;
          same = inner.pushes.same;
          past = inner.pushes.past;
          may = inner.pushes.may;
          top = inr (
            value.Constructed c us,
            gives.constructed c us,
            below_trans w (value.Constructed c vs) (value.Constructed c us) low (below.constructed c vs us inner.there),
          );
        }
    value_has next (value.Partial h vs) w assigned built all past low = absurd (true≢false (sym built))

    values_have : (next : ℕ) (vs : Values) (assigned : Assignment) → are_built program vs ≡ true → AllOf program claims assigned → Past program claims assigned next
        → PushedValues assigned next vs
    values_have next value.NoValue assigned built all past = record { pushes = nothing_pushed program claims assigned next all past; there = below.none }
    values_have next (value.MoreValues v vs) assigned built all past =
        let parts = and_parts (is_built program v) (are_built program vs) built in
        let one = push_value next v in
        let first = push_top program claims assigned next one.parts one.top v (built_of program v parts.0)
        (value_has next v v assigned parts.0 all past (below_itself v)) in
        let later = next + length (pushed one) in
        let low = first.pushes.higher in
        let rest = values_have later vs low parts.1 first.pushes.of_program first.pushes.past in
        let others = push_values later vs in
        let high = rest.pushes.higher in
        record {
          pushes = pushed_both program claims assigned next (pushed one) others.nodes first.pushes rest.pushes;
          there = below.more v (high (place_of next one)) vs (values_at high others.ids)
              (below_trans v (low (place_of next one)) (high (place_of next one)) first.there (rest.pushes.rises (place_of next one))) rest.there;
        }

-- ---- a search that ended

listed_built : (program : Code) (nil cons : ConId) (vs : List Value) → takes (arity_of program (head.Con nil)) 0 ≡ true → takes (arity_of program (head.Con cons)) 2 ≡ true
    → list_all (is_built program) vs ≡ true → is_built program (listed nil cons vs) ≡ true
listed_built program nil cons [] empty more all = and_from (takes (arity_of program (head.Con nil)) 0) true empty refl
listed_built program nil cons (v ∷ vs) empty more all =
    let parts = and_parts (is_built program v) (list_all (is_built program) vs) all in
    let rest = listed_built program nil cons vs empty more parts.1 in
    and_from (takes (arity_of program (head.Con cons)) 2) (is_built program v && (is_built program (listed nil cons vs) && true)) more
    (and_from (is_built program v) (is_built program (listed nil cons vs) && true) parts.0 (and_from (is_built program (listed nil cons vs)) true rest refl))

collected_built : (program : Code) (c : ConId) (vs : List Value) → is_well_formed program ≡ true → program.special.values ≡ Some c → list_all (is_built program) vs ≡ true
    → is_built program (collected (program_of program) c vs) ≡ true
collected_built program c vs well values_are all =
    let special = special_good program (special_there program well) in
    let whole : takes (arity_of program (head.Con c)) 1 ≡ true =
    subst (λ (o : Option ConId). (elim o [ Some d ↦ takes (arity_of program (head.Con d)) 1 | None ↦ true ]) ≡ true) values_are special.values in
    let list = listed program.special.nil program.special.cons vs in
    and_from (takes (arity_of program (head.Con c)) 1) (is_built program list && true) whole
    (and_from (is_built program list) true (listed_built program program.special.nil program.special.cons vs special.nil special.cons all) refl)

pub delivered_kept : (program : Code) (claims : List Claim) (limits : Limits) (graph : Graph) (id : ℕ) (found : List Value) (assigned : Assignment)
    → is_well_formed program ≡ true → AgreeWithSearches program limits claims → NodesFit program graph → Loose program claims graph assigned
    → NothingPast graph assigned → TracedSearch program limits graph id found NoState → Kept program claims graph (delivered program graph id found) assigned
delivered_kept program claims limits graph id found assigned well agree fit loose past traced =
    subst (λ (after : Graph). Kept program claims graph after assigned) (sym (delivered_is program graph id found program.special.values refl))
    (by program.special.values refl)
  where
    f : FunId
    f = traced.function

    args : List ℕ
    args = traced.args

    here : id < length graph
    here = there_unless_stuck graph id (kind.SetCall f) args traced.node_is refl

    search : Found program limits f (spelled_values graph args) (sorted found)
    search = ended_found program limits graph id found traced fit

    by : (o : Option ConId) → program.special.values ≡ o → Kept program claims graph (delivered_by program graph id (sorted found) o) assigned
    by None is = kept_by_put program claims graph (put graph id stuck) id stuck assigned here refl loose past tt
    by (Some c) is =
        let v = collected (program_of program) c (sorted found) in
        let built = push_value (length graph) v in
        let low = at_most_found program claims limits graph id f args c (sorted found) assigned agree loose traced.node_is
        (all_built_ground program (spelled_values graph args) traced.built) is search in
        let all = found_built program limits f (spelled_values graph args) (sorted found) well search in
        let has = value_has program claims (length graph) v (assigned id) assigned (collected_built program c (sorted found) well is all) loose.of_program past low in
        let extended = written_by program claims graph id built assigned here has in (
          extended.0,
          continues_by program claims graph (written graph id built) id (instead built.top) assigned extended.0
              (changed_by_writing graph id (written graph id built) built here refl) loose past extended.1,
        )
