-- What `&&` gives: False where the first is False, and the second where the first is True.
use Rattle.std.proofs.Common.{◌≡◌, ◌≢◌, ℕ, Bool, true, false, not, ◌&&◌, ◌||◌, if◌then◌else◌, List, [], ◌∷◌, Some, None, refl, ap, sym, ◌∙◌, subst, nat_eq, eqb-true, arith}
use Rattle.cu_calculus.specs.declared.Head.TheVariants as head
use Rattle.cu_calculus.specs.declared.Mode.TheVariants.{Flex}
use Rattle.cu_calculus.specs.Below.{Below}
use Rattle.cu_calculus.specs.Builtin.{truth_of}
use Rattle.cu_calculus.specs.Choose.{AConstructor, Selects}
use Rattle.cu_calculus.specs.Gives as gives
use Rattle.cu_calculus.specs.Gives.{Applied, Claim, Gives}
use Rattle.cu_calculus.specs.Match.{Bindings, bind_all, both, empty, same_constructor}
use Rattle.cu_calculus.specs.Program.{Body, Program}
use Rattle.cu_calculus.specs.Term as term
use Rattle.cu_calculus.specs.Term.{Alternatives, Term}
use Rattle.cu_calculus.specs.Valid as valid
use Rattle.cu_calculus.specs.Valid.{HasSpecial, IsConjunction}
use Rattle.cu_calculus.specs.Value as value
use Rattle.cu_calculus.specs.Value.{Value, Values}
use Rattle.cu_calculus.proofs.BelowLaws.{below_itself}
use Rattle.cu_calculus.proofs.Comparing.{same_itself}
use Rattle.cu_calculus.proofs.FlatChoices.{chooses_flat}
use Rattle.cu_laws.proofs.Inversion.{bound_last}

module _ (program : Program) (claims : List Claim) (special : HasSpecial program) (b : Value) where
  abbrev sides : Bool → Values
  sides answer = value.MoreValues (truth_of program answer) (value.MoreValues b value.NoValue)

  abbrev given_by : Bool → Value
  given_by true = b
  given_by false = truth_of program false

  falsity_given : (bindings : Bindings) → Gives program claims (bind_all empty bindings) (term.Whole (head.Con program.special.falsity) term.NoTerm) (truth_of program false)
  falsity_given bindings =
      gives.whole (bind_all empty bindings) (head.Con program.special.falsity) term.NoTerm value.NoValue (truth_of program false) (gives.none (bind_all empty bindings))
      (gives.constructed program.special.falsity value.NoValue)

  last_given : (x : ℕ) (u : Value) (bindings : Bindings) → Gives program claims (bind_all empty ((x, u) ∷ bindings)) (term.Variable x) u
  last_given x u bindings =
      gives.variable (bind_all empty ((x, u) ∷ bindings)) x u (subst (λ (w : Value). Below u w) (sym (bound_last x u (bind_all empty bindings))) (below_itself u))

  differ : same_constructor program.special.falsity program.special.truth ≡ false
  differ = by (nat_eq program.special.falsity.0 program.special.truth.0) refl
    where
      by : (t : Bool) → nat_eq program.special.falsity.0 program.special.truth.0 ≡ t → t ≡ false
      by false same = refl
      by true same =
          let equal = eqb-true program.special.falsity.0 program.special.truth.0 same in
          let less = special.ordered in
          let no : ⊥ = omega arith in
          absurd no

  abbrev arms : ℕ → Alternatives
  arms y =
      term.MoreAlternatives (term.Built program.special.falsity term.NoPattern) (term.Whole (head.Con program.special.falsity) term.NoTerm)
      (term.MoreAlternatives (term.Built program.special.truth term.NoPattern) (term.Variable y) term.NoAlternative)

  by_case_given : (answer : Bool) (x y : ℕ) → x ≢ y
      → Gives program claims (bind_all empty ((x, truth_of program answer) ∷ (y, b) ∷ [])) (term.Case Flex (term.Variable x) (arms y)) (given_by answer)
  by_case_given false x y apart =
      let env = bind_all empty ((x, truth_of program false) ∷ (y, b) ∷ []) in
      let selects : Selects program (arms y) (truth_of program false) (term.Whole (head.Con program.special.falsity) term.NoTerm) [] = record {
        choice = 0;
        pattern = term.Built program.special.falsity term.NoPattern;
        chooses = chooses_flat program (arms y) (truth_of program false) 0 (AConstructor program.special.falsity) refl
            (ap (λ (t : Bool). not (t || false) && true) differ) refl refl;
        at = refl;
        matches = ap (λ (t : Bool). if t then Some [] else None) (same_itself program.special.falsity);
      } in
      gives.chosen env Flex (term.Variable x) (term.Whole (head.Con program.special.falsity) term.NoTerm) (arms y) [] (truth_of program false) (truth_of program false)
      (last_given x (truth_of program false) ((y, b) ∷ [])) selects (falsity_given ((x, truth_of program false) ∷ (y, b) ∷ []))
  by_case_given true x y apart =
      let env = bind_all empty ((x, truth_of program true) ∷ (y, b) ∷ []) in
      let selects : Selects program (arms y) (truth_of program true) (term.Variable y) [] = record {
        choice = 1;
        pattern = term.Built program.special.truth term.NoPattern;
        chooses = chooses_flat program (arms y) (truth_of program true) 1 (AConstructor program.special.truth) refl
            (ap (λ (t : Bool). not (t || false) && true) differ) refl refl;
        at = refl;
        matches = ap (λ (t : Bool). if t then Some [] else None) (same_itself program.special.truth);
      } in
      let after : env y ≡ b =
      ap (λ (t : Bool). if t then truth_of program true else bind_all empty ((y, b) ∷ []) y) (other (nat_eq x y) refl) ∙ bound_last y b empty in
      gives.chosen env Flex (term.Variable x) (term.Variable y) (arms y) [] (truth_of program true) b (last_given x (truth_of program true) ((y, b) ∷ [])) selects
      (gives.variable env y b (subst (λ (w : Value). Below b w) (sym after) (below_itself b)))
    where
      other : (t : Bool) → nat_eq x y ≡ t → t ≡ false
      other true same = absurd (apart (eqb-true x y same))
      other false same = refl

  pub conjunction_worth : (answer : Bool) → Applied program claims (head.Fun program.special.both) (sides answer) (given_by answer)
  conjunction_worth answer = by special.both.0.body refl special.both.3 answer
    where
      by : (body : Body) → special.both.0.body ≡ body → IsConjunction program.special body → (answer : Bool)
          → Applied program claims (head.Fun program.special.both) (sides answer) (given_by answer)
      by body is (valid.by_rules _ x y rules_are) true =
          gives.by_rule program.special.both special.both.0 _ 0 _ ((x, b) ∷ []) (sides true) b special.both.1 (is ∙ rules_are) refl
          (ap (λ (t : Bool). both (if t then Some [] else None) (Some ((x, b) ∷ []))) (same_itself program.special.truth)) (last_given x b [])
      by body is (valid.by_rules _ x y rules_are) false =
          gives.by_rule program.special.both special.both.0 _ 1 _ ((y, b) ∷ []) (sides false) (truth_of program false) special.both.1 (is ∙ rules_are) refl
          (ap (λ (t : Bool). both (if t then Some [] else None) (Some ((y, b) ∷ []))) (same_itself program.special.falsity)) (falsity_given ((y, b) ∷ []))
      by body is (valid.by_case _ x y apart rules_are) answer =
          gives.by_rule program.special.both special.both.0 _ 0 _ ((x, truth_of program answer) ∷ (y, b) ∷ []) (sides answer) (given_by answer) special.both.1
          (is ∙ rules_are) refl refl (by_case_given answer x y apart)
