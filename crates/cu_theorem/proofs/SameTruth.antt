-- Two programs in which the same calls have the same values, over claims of either, have the same
-- true claims.
use Rattle.std.proofs.Common.{ℕ, zero, suc, List, [], ◌∷◌, inl, inr, ◌↔◌, IsTrue, refl}
use Rattle.std.specs.List.{list_all}
use Rattle.cu_calculus.specs.declared.FunId.{FunId}
use Rattle.cu_calculus.specs.declared.Head.TheVariants as head
use Rattle.cu_calculus.specs.Claims.{AreTrue, Concludes, DerivesAt, IsExact, arguments_env, level_of, variables_from}
use Rattle.cu_calculus.specs.Gives as gives
use Rattle.cu_calculus.specs.Gives.{Claim}
use Rattle.cu_calculus.specs.Program.{Program}
use Rattle.cu_calculus.specs.Proof.{is_claim_of}
use Rattle.cu_calculus.specs.Term as term
use Rattle.cu_calculus.specs.Value as value
use Rattle.cu_calculus.specs.Value.{Value, Values, count}

-- true claims of a program are of it
abbrev TrueAreOf : Program → List ℕ → Type 0
TrueAreOf program levels = (level : ℕ) (claims : List Claim) → AreTrue program levels level claims → IsTrue (list_all (is_claim_of program) claims)

-- over claims of the one program, what it concludes on a call the other one concludes
abbrev Keeps : Program → Program → Type 0
Keeps one other = (claims : List Claim) (f : FunId) (vs : Values) (v : Value) → IsTrue (list_all (is_claim_of one) claims)
    → Concludes one claims f vs v → Concludes other claims f vs v

pub record AreAlike (one other : Program) (levels : List ℕ) : Type 0 where
  pub of_one : TrueAreOf one levels
  pub of_other : TrueAreOf other levels
  pub there : Keeps one other
  pub converse : Keeps other one

turned : (one other : Program) (levels : List ℕ) → AreAlike one other levels → AreAlike other one levels
turned one other levels alike = record { of_one = alike.of_other; of_other = alike.of_one; there = alike.converse; converse = alike.there }

-- what is true of the one program at a level is true of the other
abbrev Carries : Program → Program → List ℕ → ℕ → Type 0
Carries one other levels level = (claims : List Claim) → AreTrue one levels level claims → AreTrue other levels level claims

exact_too : (one other : Program) (levels : List ℕ) (level : ℕ) → AreAlike one other levels → Carries one other levels level → Carries other one levels level
    → (claim : Claim) → IsExact one (AreTrue one levels level) claim → IsExact other (AreTrue other levels level) claim
exact_too one other levels level alike to from claim exact =
    let f = claim.function in
    let vs = claim.arguments in
    let unknown : Concludes one [] f vs value.Bottom = (
      exact.known,
      exact.of_program,
      gives.bottom (arguments_env vs) (term.Whole (head.Fun f) (variables_from 0 (count vs))),
    ) in
    let call = alike.there [] f vs value.Bottom refl unknown in
    record {
      known = call.0;
      of_program = call.1;
      ground = exact.ground;
      ordered = exact.ordered;
      each = λ k v e.
          let found = exact.each k v e in
          (found.0, found.1, to found.1 found.2, alike.there found.1 f vs v (alike.of_one level found.1 found.2) found.3);
      every = λ claims v true ground concluded.
          exact.every claims v (from claims true) ground (alike.converse claims f vs v (alike.of_other level claims true) concluded);
    }

next_too : (one other : Program) (levels : List ℕ) (level : ℕ) → AreAlike one other levels → Carries one other levels level → Carries other one levels level
    → Carries one other levels (suc level)
unfolding AreTrue
next_too one other levels level alike to from = λ claims h k claim e.
    elim (h k claim e) [
      | inl here ↦ inl (here.0, exact_too one other levels level alike to from claim here.1)
      | inr before ↦ inr (to (claim ∷ []) before)
    ]

same_truth : (one other : Program) (levels : List ℕ) → AreAlike one other levels → (level : ℕ)
    → Carries one other levels level × Carries other one levels level
unfolding AreTrue
same_truth one other levels alike zero = (λ claims h. h, λ claims h. h)
same_truth one other levels alike (suc level) =
    let both = same_truth one other levels alike level in
    (next_too one other levels level alike both.0 both.1, next_too other one levels level (turned one other levels alike) both.1 both.0)

pub same_claims : (one other : Program) (levels : List ℕ) → AreAlike one other levels → (level : ℕ) (claims : List Claim)
    → AreTrue one levels level claims ↔ AreTrue other levels level claims
same_claims one other levels alike level claims =
    let both = same_truth one other levels alike level in (both.0 claims, both.1 claims)

derived_too : (one other : Program) (levels : List ℕ) → AreAlike one other levels → (f : FunId) (vs : Values) (v : Value)
    → DerivesAt one levels f vs v → DerivesAt other levels f vs v
derived_too one other levels alike f vs v derived =
    let level = level_of levels f in
    let true = (same_truth one other levels alike level).0 derived.0 derived.1 in
    (derived.0, true, alike.there derived.0 f vs v (alike.of_one level derived.0 derived.1) derived.2)

pub same_derivations : (one other : Program) (levels : List ℕ) → AreAlike one other levels → (f : FunId) (vs : Values) (v : Value)
    → DerivesAt one levels f vs v ↔ DerivesAt other levels f vs v
same_derivations one other levels alike f vs v =
    (derived_too one other levels alike f vs v, derived_too other one levels (turned one other levels alike) f vs v)
