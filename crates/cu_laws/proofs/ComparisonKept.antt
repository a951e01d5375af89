-- What a comparison of two constructors has, the comparisons of their arguments give.
use Rattle.std.proofs.Common.{◌≡◌, ℕ, ◌⊎◌, inl, inr, Bool, true, false, List, [], ◌∷◌, None, Some, ◌<◌, refl, sym, ◌∙◌, subst, ap, ap₂, length, zip, true≢false, arith}
use Rattle.std.proofs.lemmas.Bool.{and_from}
use Rattle.cu_calculus.specs.declared.ConId.{ConId}
use Rattle.cu_calculus.specs.declared.Lit.{Lit}
use Rattle.cu_calculus.specs.declared.Lit.TheVariants.{Int}
use Rattle.cu_calculus.specs.declared.builtin.Primitive.{Primitive}
use Rattle.cu_calculus.specs.declared.Head.TheVariants as head
use Rattle.cu_calculus.specs.declared.builtin.Primitive.TheVariants as prim
use Rattle.cu_calculus.specs.Below.{Below}
use Rattle.cu_calculus.specs.Builtin as builtin
use Rattle.cu_calculus.specs.Builtin.{AllCompare, Answers, Compares, on_literals, truth_of}
use Rattle.cu_calculus.specs.Code.{Code}
use Rattle.cu_calculus.specs.FlatProgram.{program_of}
use Rattle.cu_calculus.specs.Gives.{Applied, Claim}
use Rattle.cu_calculus.specs.Program.{Program, arity_in}
use Rattle.cu_calculus.specs.Match.{same_constructor}
use Rattle.cu_calculus.specs.Shape.{is_of, takes}
use Rattle.cu_calculus.specs.Value as value
use Rattle.cu_calculus.specs.Value.{Value, Values}
use Rattle.cu_calculus.specs.WellFormed.{is_well_formed}
use Rattle.cu_calculus.proofs.BelowLaws.{below_itself}
use Rattle.cu_machine.specs.declared.Kind.TheVariants as kind
use Rattle.cu_machine.specs.Build.{written}
use Rattle.cu_machine.specs.Graph.{Graph, alone, put}
use Rattle.cu_machine.specs.Rewrite.{alone_follows, build_pairs, pairwise_step, truth_node}
use Rattle.cu_laws.specs.Continues.{NothingPast}
use Rattle.cu_laws.specs.Good.{Assignment, Loose, MayHave, NoValue}
use Rattle.cu_laws.proofs.AnswerKept.{constant_may}
use Rattle.cu_laws.proofs.Continuing.{Kept, kept_by_put}
use Rattle.cu_laws.proofs.LiteralRows.{truth_is_node, truth_kind}
use Rattle.cu_laws.proofs.LooseNodes.{loosened}
use Rattle.cu_laws.proofs.ConjunctionWorth.{conjunction_worth}
use Rattle.cu_laws.proofs.Heads.{values_at}
use Rattle.cu_laws.proofs.Pairs.{firsts, one_follows, seconds, zip_firsts, zip_seconds}
use Rattle.cu_laws.proofs.PairsKept.{Chain, last, more, pairs_kept, truth_of_program}
use Rattle.cu_laws.proofs.Rising.{total_above, truth_total}
use Rattle.cu_laws.proofs.Truth.{special_of}

compare_more : (us vs : Values) (answer : Bool) → AllCompare us vs answer → (x y : Value) (xs ys : Values) → us ≡ value.MoreValues x xs → vs ≡ value.MoreValues y ys
    → (Compares x y false × (answer ≡ false)) ⊎ (Compares x y true × AllCompare xs ys answer)
compare_more _ _ _ builtin.none x y xs ys is are = let no : ⊥ = cc in absurd no
compare_more _ _ _ (builtin.first_differs u v us vs c) x y xs ys is are =
    let first : u ≡ x = cc in
    let second : v ≡ y = cc in
    inl (subst (λ (z : Value). Compares x z false) second (subst (λ (z : Value). Compares z v false) first c), refl)
compare_more _ _ answer (builtin.first_alike u v us vs _ c cs) x y xs ys is are =
    let first : u ≡ x = cc in
    let second : v ≡ y = cc in
    let left : us ≡ xs = cc in
    let right : vs ≡ ys = cc in
    inr (
      subst (λ (z : Value). Compares x z true) second (subst (λ (z : Value). Compares z v true) first c),
      subst (λ (z : Values). AllCompare xs z answer) right (subst (λ (z : Values). AllCompare z vs answer) left cs),
    )

compare_none : (us vs : Values) (answer : Bool) → AllCompare us vs answer → us ≡ value.NoValue → answer ≡ true
compare_none _ _ _ builtin.none is = refl
compare_none _ _ _ (builtin.first_differs u v us vs c) is = let no : ⊥ = cc in absurd no
compare_none _ _ _ (builtin.first_alike u v us vs _ c cs) is = let no : ⊥ = cc in absurd no

module _ (program : Code) (claims : List Claim) (assigned : Assignment) (well : is_well_formed program ≡ true) where
  abbrev told : Bool → Value
  told answer = truth_of (program_of program) answer

  told_of : (answer : Bool) → is_of (program_of program) (told answer) ≡ true
  told_of true = truth_of_program program well
  told_of false =
      let P = program_of program in
      and_from (takes (arity_in P (head.Con program.special.falsity)) 0) true (ap (λ o. takes o 0) (special_of program well).falsity) refl

  compared : (a b : ℕ) (answer : Bool) → Compares (assigned a) (assigned b) answer → MayHave NoValue program claims assigned (kind.Prim prim.Equal) (a ∷ b ∷ []) (told answer)
  compared a b answer c = inr (told answer, builtin.equal (assigned a) (assigned b) (told answer) answer c refl, below_itself (told answer))

  nothing_chain : (a b : ℕ) (pairs : List (ℕ × ℕ)) → (ws : List Value) × Chain program claims (kind.Prim prim.Equal) (kind.Call program.special.both) assigned a b pairs ws value.Bottom
  nothing_chain a b [] = (value.Bottom ∷ [], last a b value.Bottom value.Bottom (inl refl) refl (below_itself value.Bottom))
  nothing_chain a b ((c, d) ∷ pairs) =
      let rest = nothing_chain c d pairs in
      (value.Bottom ∷ rest.0, more a b c d pairs value.Bottom value.Bottom value.Bottom rest.0 (inl refl) refl refl rest.1 (λ high i j p q. inl refl))

  joined : (answer : Bool) (v u w : Value) (high : Assignment) (i j : ℕ) → Below (told answer) (high i)
      → Applied (program_of program) claims (head.Fun program.special.both) (value.MoreValues (told answer) (value.MoreValues (high j) value.NoValue)) w → Below v w
      → MayHave NoValue program claims high (kind.Call program.special.both) (i ∷ j ∷ []) v
  joined answer v u w high i j up app low =
      inr (
        w,
        subst (λ (z : Value). Applied (program_of program) claims (head.Fun program.special.both) (value.MoreValues z (value.MoreValues (high j) value.NoValue)) w)
            (total_above (told answer) (high i) up (truth_total (program_of program) answer)) app,
        low,
      )

  pub comparisons_chain : (a b : ℕ) (pairs : List (ℕ × ℕ)) (answer : Bool) (v : Value)
      → AllCompare (values_at assigned (a ∷ firsts pairs)) (values_at assigned (b ∷ seconds pairs)) answer → Below v (told answer)
      → (ws : List Value) × Chain program claims (kind.Prim prim.Equal) (kind.Call program.special.both) assigned a b pairs ws v
  comparisons_chain a b [] answer v all low = elim (compare_more _ _ answer all (assigned a) (assigned b) value.NoValue value.NoValue refl refl) [
    | inl found ↦
        (told false ∷ [], last a b (told false) v (compared a b false found.0) (told_of false) (subst (λ (t : Bool). Below v (told t)) found.1 low))
    | inr found ↦ (
      told true ∷ [],
      last a b (told true) v (compared a b true found.0) (told_of true)
          (subst (λ (t : Bool). Below v (told t)) (compare_none value.NoValue value.NoValue answer found.1 refl) low),
    )
  ]
  comparisons_chain a b ((c, d) ∷ pairs) answer v all low =
      elim (compare_more _ _ answer all (assigned a) (assigned b) (values_at assigned (c ∷ firsts pairs)) (values_at assigned (d ∷ seconds pairs)) refl refl) [
        | inl found ↦
            let rest = nothing_chain c d pairs in (
              told false ∷ rest.0,
              more a b c d pairs (told false) value.Bottom v rest.0 (compared a b false found.0) (told_of false) refl rest.1
                  (λ high i j p q. joined false v v (told false) high i j p (conjunction_worth (program_of program) claims (special_of program well) (high j) false)
                  (subst (λ (t : Bool). Below v (told t)) found.1 low)),
            )
        | inr found ↦
            let rest = comparisons_chain c d pairs answer (told answer) found.1 (below_itself (told answer)) in (
              told true ∷ rest.0,
              more a b c d pairs (told true) (told answer) v rest.0 (compared a b true found.0) (told_of true) (told_of answer) rest.1
                  (λ high i j p q. joined true v v (high j) high i j p (conjunction_worth (program_of program) claims (special_of program well) (high j) true)
                  (subst (λ (z : Value). Below v z) (total_above (told answer) (high j) q (truth_total (program_of program) answer)) low)),
            )
      ]

comparison_none : (program : Program) (ls : List Lit) → on_literals program prim.Equal ls ≡ None
comparison_none program (Int m ∷ Int n ∷ []) = refl
comparison_none program _ = refl

-- a comparison answers what comparing its sides tells
pub equal_compares : (program : Program) (operation : Primitive) (us : Values) (w : Value) → Answers program operation us w → operation ≡ prim.Equal → (x y : Value)
    → us ≡ value.MoreValues x (value.MoreValues y value.NoValue) → (answer : Bool) × Compares x y answer × (w ≡ truth_of program answer)
equal_compares program operation us w (builtin.of_literals _ ls _ _ e f) op x y is =
    let some : on_literals program prim.Equal ls ≡ Some w = subst (λ (o : Primitive). on_literals program o ls ≡ Some w) op f in
    let none = comparison_none program ls in
    let no : ⊥ = cc in
    absurd no
equal_compares program _ _ w (builtin.equal a b _ answer c e) op x y is =
    let first : a ≡ x = cc in
    let second : b ≡ y = cc in
    (answer, subst (λ (z : Value). Compares x z answer) second (subst (λ (z : Value). Compares z b answer) first c), e)
equal_compares program _ _ w (builtin.unified a b _ same total e) op x y is = let no : ⊥ = cc in absurd no
equal_compares program _ _ w (builtin.conjoined a b _ f g e) op x y is = let no : ⊥ = cc in absurd no

-- like constructors compare as their arguments do
pub compares_inside : (u v : Value) (answer : Bool) → Compares u v answer → (c d : ConId) (us vs : Values) → u ≡ value.Constructed c us → v ≡ value.Constructed d vs
    → same_constructor c d ≡ true → AllCompare us vs answer
compares_inside _ _ _ (builtin.two_literals l m _ e) c d us vs is are alike = let no : ⊥ = cc in absurd no
compares_inside _ _ _ (builtin.literal_first l e xs) c d us vs is are alike = let no : ⊥ = cc in absurd no
compares_inside _ _ _ (builtin.literal_second e xs l) c d us vs is are alike = let no : ⊥ = cc in absurd no
compares_inside _ _ _ (builtin.different e f xs ys differ) c d us vs is are alike =
    let first : e ≡ c = cc in
    let second : f ≡ d = cc in
    absurd (true≢false (sym alike ∙ sym (ap₂ (λ (x y : ConId). same_constructor x y) first second) ∙ differ))
compares_inside _ _ answer (builtin.alike e xs ys _ inner) c d us vs is are alike =
    let left : xs ≡ us = cc in
    let right : ys ≡ vs = cc in
    subst (λ (z : Values). AllCompare us z answer) right (subst (λ (z : Values). AllCompare z ys answer) left inner)

pub comparisons_kept : (program : Code) (claims : List Claim) (graph after : Graph) (id : ℕ) (us vs : List ℕ) (answer : Bool) (assigned : Assignment)
    → is_well_formed program ≡ true → Loose program claims graph assigned → NothingPast graph assigned → id < length graph
    → Below (assigned id) (truth_of (program_of program) answer) → length us ≡ length vs → AllCompare (values_at assigned us) (values_at assigned vs) answer
    → pairwise_step program.special (kind.Prim prim.Equal) (kind.Call program.special.both) graph id (zip us vs) ≡ alone_follows after → Kept program claims graph after assigned
comparisons_kept program claims graph after id [] [] answer assigned well loose past here low as_many all follows =
    let after_is = one_follows (put graph id (truth_node program.special true)) after follows in
    let true_low = subst (λ (t : Bool). Below (assigned id) (truth_of (program_of program) t)) (compare_none value.NoValue value.NoValue answer all refl) low in
    kept_by_put program claims graph after id (alone (truth_kind program true)) assigned here (after_is ∙ ap (put graph id) (truth_is_node program true)) loose past
    (loosened program claims assigned (truth_kind program true) [] (assigned id)
    (constant_may program claims assigned (truth_kind program true) (assigned id) (truth_of (program_of program) true) refl true_low))
comparisons_kept program claims graph after id [] (v ∷ vs) answer assigned well loose past here low as_many all follows = let no : ⊥ = omega (arith, as_many) in absurd no
comparisons_kept program claims graph after id (u ∷ us) [] answer assigned well loose past here low as_many all follows = let no : ⊥ = omega (arith, as_many) in absurd no
comparisons_kept program claims graph after id (u ∷ us) (v ∷ vs) answer assigned well loose past here low as_many all follows =
    let fewer : length us ≡ length vs = omega (arith, as_many) in
    let pairs = zip us vs in
    let by_pairs : AllCompare (values_at assigned (u ∷ firsts pairs)) (values_at assigned (v ∷ seconds pairs)) answer =
    subst (λ (xs : List ℕ). AllCompare (values_at assigned (u ∷ xs)) (values_at assigned (v ∷ seconds pairs)) answer) (sym (zip_firsts us vs fewer))
    (subst (λ (ys : List ℕ). AllCompare (values_at assigned (u ∷ us)) (values_at assigned (v ∷ ys)) answer) (sym (zip_seconds us vs fewer)) all) in
    let chain = comparisons_chain program claims assigned well u v pairs answer (assigned id) by_pairs low in
    let built = build_pairs (kind.Prim prim.Equal) (kind.Call program.special.both) (length graph) (u, v) pairs in
    pairs_kept program claims (kind.Prim prim.Equal) (kind.Call program.special.both) graph after id u v pairs chain.0 assigned (λ e. let no : ⊥ = cc in no) chain.1 loose past here
    (one_follows (written graph id built) after follows)
