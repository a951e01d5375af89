-- What an equation with a constructor has, the equations of its arguments give.
use Rattle.std.proofs.Common.{◌≡◌, ℕ, ◌+◌, ◌<◌, true, List, [], ◌∷◌, Some, refl, ap, sym, ◌∙◌, subst, length, map, zip, arith}
use Rattle.std.proofs.lemmas.Bool.{and_parts}
use Rattle.std.proofs.lemmas.List.{length-map}
use Rattle.cu_calculus.specs.declared.ConId.{ConId}
use Rattle.cu_calculus.specs.declared.builtin.Primitive.TheVariants as prim
use Rattle.cu_calculus.specs.Below.{Below}
use Rattle.cu_calculus.specs.Builtin.{truth_of}
use Rattle.cu_calculus.specs.Code.{Code}
use Rattle.cu_calculus.specs.FlatProgram.{program_of}
use Rattle.cu_calculus.specs.Gives.{Claim}
use Rattle.cu_calculus.specs.Match.{same_constructor}
use Rattle.cu_calculus.specs.Shape.{are_data, are_total, is_total, is_total_data}
use Rattle.cu_calculus.specs.Value as value
use Rattle.cu_calculus.specs.Value.{Value, Values, values_of}
use Rattle.cu_calculus.specs.WellFormed.{is_well_formed}
use Rattle.cu_calculus.proofs.Comparing.{same_is}
use Rattle.cu_machine.specs.declared.Kind.{Kind}
use Rattle.cu_machine.specs.declared.Kind.TheVariants as kind
use Rattle.cu_machine.specs.Graph.{Graph, Node, head_at, node_at}
use Rattle.cu_machine.specs.Rewrite.{alone_follows, decomposition_step, pairwise_comparison_step}
use Rattle.cu_machine.specs.State.{numbers}
use Rattle.cu_machine.specs.Steps.{FreeBeside, imitating, node}
use Rattle.cu_machine.specs.Validity.{NodesFit}
use Rattle.cu_laws.specs.Continues.{NothingPast}
use Rattle.cu_laws.specs.Good.{Assignment, Loose}
use Rattle.cu_laws.proofs.AnswerKept.{left_is, operation_answers, pair_most, right_is, sides_equal}
use Rattle.cu_laws.proofs.Binding.{imitating_there, length_imitating}
use Rattle.cu_laws.proofs.BoundKept.{free_there, to_constructor}
use Rattle.cu_laws.proofs.ComparisonKept.{comparisons_kept, compares_inside, equal_compares}
use Rattle.cu_laws.proofs.Continuing.{Kept, same_rises}
use Rattle.cu_laws.proofs.Heads.{made, made_is_most, values_at}
use Rattle.cu_laws.proofs.Known.{is_known}
use Rattle.cu_laws.proofs.LooseNodes.{head_most, loose_at}
use Rattle.cu_laws.proofs.OccursKept.{constructor_is}
use Rattle.cu_laws.proofs.PairRows.{as_many_arguments}
use Rattle.cu_laws.proofs.PairsKept.{equations_kept}
use Rattle.cu_laws.proofs.Raising.{there_unless_stuck}
use Rattle.cu_laws.proofs.Rising.{all_total_above, answers_rise, total_above, values_rise}

kind_from : (graph : Graph) (x : ℕ) (k : Kind) (args : List ℕ) → head_at graph x ≡ node k args → (head_at graph x).kind ≡ k
kind_from graph x k args is = ap (λ (n : Node). n.kind) is

made_from : (graph : Graph) (assigned : Assignment) (x : ℕ) (k : Kind) (args : List ℕ) (most : Value) → head_at graph x ≡ node k args
    → made k (values_at assigned args) ≡ Some most → made k (values_at assigned (head_at graph x).args) ≡ Some most
made_from graph assigned x k args most is made_is = ap (λ (n : Node). made k (values_at assigned n.args)) is ∙ made_is

module _ (program : Code) (claims : List Claim) (graph : Graph) (id : ℕ) (assigned : Assignment) (well : is_well_formed program ≡ true)
    (loose : Loose program claims graph assigned) (past : NothingPast graph assigned) (known : is_known (assigned id) ≡ true) where
  pub decomposition_kept : (after : Graph) (a b : ℕ) (c d : ConId) (us vs : List ℕ) → node_at graph id ≡ node (kind.Prim prim.Unify) (a ∷ b ∷ [])
      → head_at graph a ≡ node (kind.Cons c) us → head_at graph b ≡ node (kind.Cons d) vs
      → decomposition_step program.special graph id (zip us vs) ≡ alone_follows after → Kept program claims graph after assigned
  decomposition_kept after a b c d us vs is head_a head_b follows =
      let sides = sides_equal program claims graph id assigned loose known a b is in
      let x = value.Constructed c (values_at assigned us) in
      let y = value.Constructed d (values_at assigned vs) in
      let left : assigned a ≡ x = left_is program claims graph id assigned loose known a b (kind.Cons c) x is (kind_from graph a (kind.Cons c) us head_a)
      (made_from graph assigned a (kind.Cons c) us x head_a refl) in
      let right : assigned a ≡ y = right_is program claims graph id assigned loose known a b (kind.Cons d) y is (kind_from graph b (kind.Cons d) vs head_b)
      (made_from graph assigned b (kind.Cons d) vs y head_b refl) in
      let both : x ≡ y = sym left ∙ right in
      let same : values_at assigned us ≡ values_at assigned vs = cc in
      let whole : is_total_data x ≡ true = ap is_total_data (sym left) ∙ sides.1 in
      let parts = and_parts (are_total (values_at assigned us)) (are_data (values_at assigned us)) whole in
      equations_kept program claims graph after id us vs assigned well loose past (there_unless_stuck graph id (kind.Prim prim.Unify) (a ∷ b ∷ []) is refl) sides.2 same parts.0
      parts.1 follows

  pub comparison_kept : (after : Graph) (a b : ℕ) (c d : ConId) (us vs : List ℕ) → NodesFit program graph → node_at graph id ≡ node (kind.Prim prim.Equal) (a ∷ b ∷ [])
      → head_at graph a ≡ node (kind.Cons c) us → head_at graph b ≡ node (kind.Cons d) vs → same_constructor c d ≡ true
      → pairwise_comparison_step program.special graph id (zip us vs) ≡ alone_follows after → Kept program claims graph after assigned
  comparison_kept after a b c d us vs fit is head_a head_b alike follows =
      let x = value.Constructed c (values_at assigned us) in
      let y = value.Constructed d (values_at assigned vs) in
      let both = value.MoreValues x (value.MoreValues y value.NoValue) in
      let found = operation_answers program claims graph id prim.Equal (a ∷ b ∷ []) assigned loose known is in
      let answers = answers_rise (program_of program) prim.Equal (values_at assigned (a ∷ b ∷ [])) both found.0 found.1
      (pair_most (assigned a) (assigned b) x y (head_most program claims graph assigned a (kind.Cons c) us x loose head_a refl)
      (head_most program claims graph assigned b (kind.Cons d) vs y loose head_b refl)) in
      let told = equal_compares (program_of program) prim.Equal both found.0 answers refl x y refl in
      let inside = compares_inside x y told.0 told.1 c d (values_at assigned us) (values_at assigned vs) refl refl alike in
      comparisons_kept program claims graph after id us vs told.0 assigned well loose past (there_unless_stuck graph id (kind.Prim prim.Equal) (a ∷ b ∷ []) is refl)
      (subst (λ (w : Value). Below (assigned id) w) told.2 found.2) (as_many_arguments program graph a b c d us vs fit head_a head_b (same_is c d alike)) inside follows

  pub imitation_kept : (after : Graph) (a b v other : ℕ) (c : ConId) (arg : ℕ) (args : List ℕ) → node_at graph id ≡ node (kind.Prim prim.Unify) (a ∷ b ∷ [])
      → FreeBeside graph a b v other (kind.Cons c) (arg ∷ args)
      → decomposition_step program.special (imitating graph v c (length args + 1)) id (zip (numbers (length graph) (length args + 1)) (arg ∷ args)) ≡ alone_follows after
      → Kept program claims graph after assigned
  imitation_kept after a b v other c arg args is sides follows =
      over (subst (λ (n : ℕ). Kept program claims graph (imitating graph v c n) assigned) as_many
      (to_constructor program claims graph assigned loose past v free.0 free.1 c (map assigned (arg ∷ args)) found.0))
    where
      middle : Graph
      middle = imitating graph v c (length args + 1)

      fresh : List ℕ
      fresh = numbers (length graph) (length args + 1)

      us : Values
      us = values_at assigned (arg ∷ args)

      as_many : length (map assigned (arg ∷ args)) ≡ length args + 1
      as_many = let same = length-map args assigned in omega (arith, same)

      free : (xs : List ℕ) × (node_at graph v ≡ node kind.Free xs)
      free = free_there program claims graph id assigned loose past known a b v other (kind.Cons c) (arg ∷ args) sides

      found : (assigned v ≡ value.Constructed c us) × (is_total (assigned v) ≡ true)
      found = constructor_is program claims graph id assigned loose known a b v other c (arg ∷ args) is sides

      here : v < length graph
      here = there_unless_stuck graph v kind.Free free.0 free.1 refl

      id_here : id < length graph
      id_here = there_unless_stuck graph id (kind.Prim prim.Unify) (a ∷ b ∷ []) is refl

      long : length middle ≡ length graph + (length args + 1)
      long = length_imitating graph v c (length args + 1)

      whole : (are_total us ≡ true) × (are_data us ≡ true)
      whole =
          let data_total : is_total_data (assigned v) ≡ true = loose_at program claims graph assigned v kind.Free free.0 loose free.1 refl in
          and_parts (are_total us) (are_data us) (subst (λ (u : Value). is_total_data u ≡ true) found.0 data_total)

      over : Kept program claims graph middle assigned → Kept program claims graph after assigned
      over first =
          let later = first.0 in
          let on = first.1 in
          let old : us ≡ values_at later (arg ∷ args) =
          all_total_above us (values_at later (arg ∷ args)) (values_rise assigned later (arg ∷ args) (same_rises graph assigned later past on.same)) whole.0 in
          let value_is : later v ≡ value.Constructed c us = on.same v here ∙ found.0 in
          let most = value.Constructed c (values_at later fresh) in
          let up : Below (later v) most =
          made_is_most program claims later (kind.Cons c) fresh (later v) most
          (loose_at program claims middle later v (kind.Cons c) fresh on.loose (imitating_there graph v c (length args + 1) here) refl) refl in
          let both : value.Constructed c us ≡ most =
          total_above (value.Constructed c us) most (subst (λ (u : Value). Below u most) value_is up) whole.0 in
          let new : us ≡ values_at later fresh = cc in
          let there : id < length middle = let size = long in let less = id_here in omega arith in
          let low : Below (later id) (truth_of (program_of program) true) =
          subst (λ (u : Value). Below u (truth_of (program_of program) true)) (sym (on.same id id_here)) (sides_equal program claims graph id assigned loose known a b is).2 in
          let second = equations_kept program claims middle after id fresh (arg ∷ args) later well on.loose on.past there low (sym new ∙ old)
          (subst (λ (xs : Values). are_total xs ≡ true) new whole.0) (subst (λ (xs : Values). are_data xs ≡ true) new whole.1) follows in (
            second.0,
            record {
              loose = second.1.loose;
              past = second.1.past;
              same = λ x below. let size = long in second.1.same x (omega arith) ∙ on.same x below;
            },
          )
