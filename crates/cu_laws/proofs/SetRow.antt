-- A set function's call whose search ended is worth the list of what was found.
use Rattle.std.proofs.Common.{◌≡◌, ℕ, zero, suc, ◌+◌, ◌<◌, inr, true, List, [], ◌∷◌, ◌++◌, Option, None, Some, IsTrue, refl, ap, ap₂, sym, ◌∙◌, subst, length, map, nat_eq, slice_get, true≢false}
use Rattle.std.proofs.lemmas.Bool.{and_parts}
use Rattle.cu_calculus.specs.declared.ConId.{ConId}
use Rattle.cu_calculus.specs.declared.FunId.{FunId}
use Rattle.cu_calculus.specs.declared.Head.TheVariants as head
use Rattle.cu_calculus.specs.Below as below
use Rattle.cu_calculus.specs.Below.{AllBelow, Below}
use Rattle.cu_calculus.specs.Code.{Code}
use Rattle.cu_calculus.specs.FlatProgram.{program_of}
use Rattle.cu_calculus.specs.Gives as gives
use Rattle.cu_calculus.specs.Gives.{Applied, Claim, collected, listed}
use Rattle.cu_calculus.specs.Shape.{are_ground, is_ground, is_of}
use Rattle.cu_calculus.specs.Value as value
use Rattle.cu_calculus.specs.Value.{Value, Values, values_of}
use Rattle.cu_calculus.proofs.BelowLaws.{below_itself, below_trans}
use Rattle.cu_calculus.proofs.Lists.{get_prefix, get_last}
use Rattle.cu_machine.specs.declared.Kind.{Kind}
use Rattle.cu_machine.specs.declared.Kind.TheVariants as kind
use Rattle.cu_machine.specs.Build.{instead, pushed, written}
use Rattle.cu_machine.specs.Graph.{Graph, head_at, head_of, node_at, put, stuck}
use Rattle.cu_machine.specs.Next.{delivered}
use Rattle.cu_machine.specs.Sort.{sorted}
use Rattle.cu_machine.specs.Spell.{push_value, push_values, spelled, spelled_at, spelled_within}
use Rattle.cu_machine.specs.Steps.{node}
use Rattle.cu_machine.specs.Validity.{NodesFit}
use Rattle.cu_laws.specs.Good.{Assignment, Good, RisesTo, claim_of}
use Rattle.cu_laws.proofs.Built.{AllMay, TopMay, all_may_split, pushed_may, written_may}
use Rattle.cu_laws.proofs.Changed.{Sound, apart_before, changed_by_writing, sound_as}
use Rattle.cu_laws.proofs.FailureRows.{sticking_sound}
use Rattle.cu_laws.proofs.FurtherClaims.{good_more}
use Rattle.cu_laws.proofs.Heads.{made_is_most, values_at}
use Rattle.cu_laws.proofs.Lifting.{Lifted, lifted}
use Rattle.cu_laws.proofs.Raising.{GoodApart, rises_itself, rises_trans, there_unless_stuck}
use Rattle.cu_laws.proofs.Rising.{all_ground_total, all_total_above, values_rise}

-- ---- values that are pushed cell by cell

module _ (program : Code) (claims : List Claim) (assigned : Assignment) (all : (id : ℕ) → IsTrue (is_of (program_of program) (assigned id))) where
  mutual
    pub value_low : (next : ℕ) (v w : Value) → AllMay program claims assigned all next (push_value next v).parts
        → TopMay program claims assigned all (push_value next v).top w → Below w v
    value_low next value.Bottom w may top = subst (λ (x : Value). Below x value.Bottom) (sym top) (below.bottom value.Bottom)
    value_low next (value.Variable y) w may top = subst (λ (x : Value). Below x (value.Variable y)) (sym top) (below.bottom (value.Variable y))
    value_low next (value.Literal l) w may top = made_is_most program claims assigned (kind.Lit l) [] w (value.Literal l) top refl
    value_low next (value.Constructed c vs) w may top =
        let us = values_at assigned (push_values next vs).ids in
        below_trans w (value.Constructed c us) (value.Constructed c vs)
        (made_is_most program claims assigned (kind.Cons c) (push_values next vs).ids w (value.Constructed c us) top refl)
        (below.constructed c us vs (values_low next vs may))
    value_low next (value.Partial h vs) w may top =
        let us = values_at assigned (push_values next vs).ids in
        below_trans w (value.Partial h us) (value.Partial h vs)
        (made_is_most program claims assigned (kind.Part h) (push_values next vs).ids w (value.Partial h us) top refl)
        (below.partial h us vs (values_low next vs may))

    pub values_low : (next : ℕ) (vs : Values) → AllMay program claims assigned all next (push_values next vs).nodes
        → AllBelow (values_at assigned (push_values next vs).ids) vs
    values_low next value.NoValue may = below.none
    values_low next (value.MoreValues v vs) may =
        let one = push_value next v in
        let later = next + length (pushed one) in
        let both = all_may_split program claims assigned all next (pushed one) (push_values later vs).nodes may in
        let first = pushed_may program claims assigned all next one both.0 in
        below.more _ v _ vs (value_low next v _ first.0 first.1) (values_low later vs both.1)

-- ---- ground values of arguments

pub record LiftedAll (program : Code) (claims : List Claim) (graph : Graph) (id : ℕ) (assigned : Assignment) (args : List ℕ) (vs : Values) : Type 0 where
  pub higher : Assignment
  pub good : GoodApart (nat_eq id) program claims graph higher
  pub rises : RisesTo assigned higher
  pub there : values_at higher args ≡ vs
  pub kept : higher id ≡ assigned id

module _ (program : Code) (claims : List Claim) (graph : Graph) (id : ℕ) (f : FunId) (all_args : List ℕ) (is : node_at graph id ≡ node (kind.SetCall f) all_args)
    (fit : NodesFit program graph) where
  abbrev CanSpell : (ℕ → Value) → Type 0
  CanSpell part = (assigned : Assignment) (place : ℕ) → GoodApart (nat_eq id) program claims graph assigned → is_ground (part place) ≡ true
      → Lifted program claims graph id assigned place (part place)

  -- places of ground values raised one after another
  lifted_all : (part : ℕ → Value) → CanSpell part → (assigned : Assignment) (args : List ℕ) → GoodApart (nat_eq id) program claims graph assigned
      → are_ground (values_of (map part args)) ≡ true → LiftedAll program claims graph id assigned args (values_of (map part args))
  lifted_all part spell assigned [] good ground = record { higher = assigned; good = good; rises = rises_itself assigned; there = refl; kept = refl }
  lifted_all part spell assigned (arg ∷ args) good ground =
      let parts = and_parts (is_ground (part arg)) (are_ground (values_of (map part args))) ground in
      let rest = lifted_all part spell assigned args good parts.1 in
      let first = spell rest.higher arg rest.good parts.0 in
      let vs = values_of (map part args) in
      let stays : vs ≡ values_at first.higher args =
      all_total_above vs (values_at first.higher args)
      (subst (λ (us : Values). AllBelow us (values_at first.higher args)) rest.there (values_rise rest.higher first.higher args first.rises))
      (all_ground_total vs parts.1) in
      record {
        higher = first.higher;
        good = first.good;
        rises = rises_trans assigned rest.higher first.higher rest.rises first.rises;
        there = ap₂ value.MoreValues first.there (sym stays);
        kept = first.kept ∙ rest.kept;
      }

  spelled_head : (part : ℕ → Value) → CanSpell part → (assigned : Assignment) (place : ℕ) (k : Kind) (args : List ℕ) → GoodApart (nat_eq id) program claims graph assigned
      → head_at graph place ≡ node k args → is_ground (spelled_at part (head_of graph place) k args) ≡ true
      → Lifted program claims graph id assigned place (spelled_at part (head_of graph place) k args)
  spelled_head part spell assigned place (kind.Cons c) args good head_is ground =
      let inner = lifted_all part spell assigned args good ground in
      let lift = lifted program claims graph id inner.higher (kind.SetCall f) all_args is refl fit inner.good place (kind.Cons c) args
      (value.Constructed c (values_of (map part args))) head_is (ap (λ (us : Values). Some (value.Constructed c us)) inner.there) in
      record {
        higher = lift.higher;
        good = lift.good;
        rises = rises_trans assigned inner.higher lift.higher inner.rises lift.rises;
        there = lift.there;
        kept = lift.kept ∙ inner.kept;
      }
  spelled_head part spell assigned place (kind.Lit l) args good head_is ground =
      lifted program claims graph id assigned (kind.SetCall f) all_args is refl fit good place (kind.Lit l) args (value.Literal l) head_is refl
  spelled_head part spell assigned place (kind.Part h) args good head_is ground = absurd (true≢false (sym ground))
  spelled_head part spell assigned place kind.Free args good head_is ground = absurd (true≢false (sym ground))
  spelled_head part spell assigned place _ args good head_is ground = absurd (true≢false (sym ground))

  can_spell : (depth : ℕ) → CanSpell (spelled_within depth graph)
  unfolding spelled_within
  can_spell zero assigned place good ground = absurd (true≢false (sym ground))
  can_spell (suc depth) assigned place good ground =
      spelled_head (spelled_within depth graph) (can_spell depth) assigned place (head_at graph place).kind (head_at graph place).args good refl ground

  -- the arguments raised to exactly the ground values that they spell
  pub arguments_lifted : (assigned : Assignment) (args : List ℕ) → GoodApart (nat_eq id) program claims graph assigned
      → are_ground (values_of (map (spelled graph) args)) ≡ true → LiftedAll program claims graph id assigned args (values_of (map (spelled graph) args))
  arguments_lifted assigned args good ground = lifted_all (spelled graph) (can_spell (length graph)) assigned args good ground

-- ---- a search that ended

-- what is delivered is worth at most the list of what was found
delivered_low : (program : Code) (claims : List Claim) (graph : Graph) (id : ℕ) (c : ConId) (values : List Value) (later : Assignment) → id < length graph
    → Good program claims (written graph id (push_value (length graph) (collected (program_of program) c values))) later
    → Below (later id) (collected (program_of program) c values)
delivered_low program claims graph id c values later here good =
    let v = collected (program_of program) c values in
    let may = written_may program claims graph id (push_value (length graph) v) later here good in
    value_low program claims later good.of_program (length graph) v (later id) may.0 may.1

-- the graph in which they are delivered, where the program has the constructor of such lists
abbrev pub delivered_by : Code → Graph → ℕ → List Value → Option ConId → Graph
delivered_by program graph id values (Some c) = written graph id (push_value (length graph) (collected (program_of program) c values))
delivered_by program graph id values None = put graph id stuck

pub delivered_is : (program : Code) (graph : Graph) (id : ℕ) (found : List Value) (values : Option ConId) → program.special.values ≡ values
    → delivered program graph id found ≡ delivered_by program graph id (sorted found) values
delivered_is program graph id found (Some c) is =
    ap (λ (o : Option ConId). elim o [
      | Some d ↦ written graph id (push_value (length graph) (value.Constructed d (value.MoreValues (listed program.special.nil program.special.cons (sorted found)) value.NoValue)))
      | None ↦ put graph id stuck
    ]) is
delivered_is program graph id found None is =
    ap (λ (o : Option ConId). elim o [
      | Some d ↦ written graph id (push_value (length graph) (value.Constructed d (value.MoreValues (listed program.special.nil program.special.cons (sorted found)) value.NoValue)))
      | None ↦ put graph id stuck
    ]) is

collected_sound : (program : Code) (claims : List Claim) (graph : Graph) (id : ℕ) (f : FunId) (args : List ℕ) (claim : Claim) (k : ℕ) (c : ConId) (later : Assignment)
    → NodesFit program graph → node_at graph id ≡ node (kind.SetCall f) args → are_ground (values_of (map (spelled graph) args)) ≡ true → slice_get claims k ≡ Some claim
    → claim.function ≡ f → claim.arguments ≡ values_of (map (spelled graph) args) → program.special.values ≡ Some c
    → Good program claims (written graph id (push_value (length graph) (collected (program_of program) c claim.values))) later → Sound program claims graph later
collected_sound program claims graph id f args claim k c later fit is ground at function_is arguments_are values_are good =
    let P = program_of program in
    let here = there_unless_stuck graph id (kind.SetCall f) args is refl in
    let v = collected P c claim.values in
    let built = push_value (length graph) v in
    let after = written graph id built in
    let low = delivered_low program claims graph id c claim.values later here good in
    let apart = apart_before program claims graph id after (instead built.top) later (changed_by_writing graph id after built here refl) good in
    let lift = arguments_lifted program claims graph id f args is fit later args apart ground in
    let arguments = values_of (map (spelled graph) args) in
    let app : Applied P claims (head.Set f) arguments v = gives.collect f claim k c arguments v ground at function_is arguments_are values_are (below_itself v) in
    sound_as program claims graph id (kind.SetCall f) args later lift.higher is lift.good lift.rises
    (inr (
      v,
      subst (λ (us : Values). Applied P claims (head.Set f) us v) (sym lift.there) app,
      subst (λ (x : Value). Below x v) (sym lift.kept) low,
    ))

delivered_sound_by : (program : Code) (claims : List Claim) (graph : Graph) (id : ℕ) (f : FunId) (args : List ℕ) (claim : Claim) (k : ℕ) (values : Option ConId) (later : Assignment)
    → NodesFit program graph → node_at graph id ≡ node (kind.SetCall f) args → are_ground (values_of (map (spelled graph) args)) ≡ true → slice_get claims k ≡ Some claim
    → claim.function ≡ f → claim.arguments ≡ values_of (map (spelled graph) args) → program.special.values ≡ values
    → Good program claims (delivered_by program graph id claim.values values) later → Sound program claims graph later
delivered_sound_by program claims graph id f args claim k (Some c) later fit is ground at function_is arguments_are values_are good =
    collected_sound program claims graph id f args claim k c later fit is ground at function_is arguments_are values_are good
delivered_sound_by program claims graph id f args claim k None later fit is ground at function_is arguments_are values_are good =
    sticking_sound program claims graph (put graph id stuck) id (kind.SetCall f) args later is refl refl good

pub delivered_sound : (program : Code) (claims : List Claim) (graph : Graph) (id : ℕ) (f : FunId) (args : List ℕ) (found : List Value) (later : Assignment)
    → NodesFit program graph → node_at graph id ≡ node (kind.SetCall f) args → are_ground (values_of (map (spelled graph) args)) ≡ true
    → Good program claims (delivered program graph id found) later
    → Sound program (claims ++ claim_of f (values_of (map (spelled graph) args)) (sorted found) ∷ []) graph later
delivered_sound program claims graph id f args found later fit is ground good =
    let claim = claim_of f (values_of (map (spelled graph) args)) (sorted found) in
    let all = claims ++ claim ∷ [] in
    let good_all = good_more program claims all (delivered program graph id found) later (λ k row e. (k, get_prefix claims (claim ∷ []) k row e)) good in
    delivered_sound_by program all graph id f args claim (length claims) program.special.values later fit is ground (get_last claims claim) refl refl refl
    (subst (λ (g : Graph). Good program all g later) (delivered_is program graph id found program.special.values refl) good_all)
