-- True claims are of their program, rows of them are true, and so are two lists of them together
-- and all of them at higher levels.
use Rattle.std.proofs.Common.{◌≡◌, ℕ, zero, suc, ◌≤◌, Bool, true, ◌&&◌, List, [], ◌∷◌, ◌++◌, ◌⊎◌, inl, inr, Option, None, Some, IsTrue, option_map, is_some, slice_get, refl, ap, ap₂, sym, subst, arith}
use Rattle.std.specs.List.{list_all}
use Rattle.std.proofs.lemmas.Bool.{and_from, and_parts, cases_eq}
use Rattle.cu_calculus.specs.Claims.{AreTrue, IsExact}
use Rattle.cu_calculus.specs.Gives.{Claim}
use Rattle.cu_calculus.specs.Program.{Function, Program, function_of}
use Rattle.cu_calculus.specs.Proof.{is_claim_of}
use Rattle.cu_calculus.specs.Rows.{AreRows}
use Rattle.cu_calculus.specs.Shape.{are_of, is_of, takes}
use Rattle.cu_calculus.specs.Valid.{IsValid}
use Rattle.cu_calculus.specs.Value.{count}
use Rattle.cu_calculus.proofs.CallStatements.{concludes_of}
use Rattle.cu_calculus.proofs.MoreClaims.{prefix_or_suffix, rows_one}

-- a test that each element passes is passed by all
pub all_passed : {A : Type 0} (test : A → Bool) (xs : List A) → ((k : ℕ) (x : A) → slice_get xs k ≡ Some x → IsTrue (test x))
    → IsTrue (list_all test xs)
all_passed test [] h = refl
all_passed test (x ∷ xs) h = and_from (test x) (list_all test xs) (h 0 x refl) (all_passed test xs (λ k y e. h (suc k) y e))

-- a function that takes arguments is there
function_known : (found : Option Function) (n : ℕ) → IsTrue (takes (option_map (λ function. function.arity) found) n) → IsTrue (is_some found)
function_known None n h = let no : ⊥ = cc in absurd no
function_known (Some function) n h = refl

exact_of : (program : Program) (are_true : List Claim → Type 0) (claim : Claim) → IsValid program → IsExact program are_true claim
    → ((claims : List Claim) → are_true claims → IsTrue (list_all (is_claim_of program) claims)) → IsTrue (is_claim_of program claim)
exact_of program are_true claim valid exact each =
    let known : IsTrue (is_some (function_of program claim.function)) =
    function_known (function_of program claim.function) (count claim.arguments) exact.known in
    let values : IsTrue (list_all (is_of program) claim.values) =
    all_passed (is_of program) claim.values (λ k v e. let found = exact.each k v e in
    concludes_of program found.1 claim.function claim.arguments v valid (each found.1 found.2) found.3) in
    and_from (is_some (function_of program claim.function) && are_of program claim.arguments) (list_all (is_of program) claim.values)
    (and_from (is_some (function_of program claim.function)) (are_of program claim.arguments) known exact.of_program) values

pub true_of : (program : Program) (levels : List ℕ) (level : ℕ) (claims : List Claim) → IsValid program → AreTrue program levels level claims
    → IsTrue (list_all (is_claim_of program) claims)
unfolding AreTrue
true_of program levels zero claims valid h = subst (λ (cs : List Claim). IsTrue (list_all (is_claim_of program) cs)) (sym h) refl
true_of program levels (suc level) claims valid h =
    all_passed (is_claim_of program) claims
    (λ k claim e. elim (h k claim e) [
      | inl here ↦
          exact_of program (AreTrue program levels level) claim valid here.1 (λ cs t. true_of program levels level cs valid t)
      | inr before ↦ (and_parts (is_claim_of program claim) true (true_of program levels level (claim ∷ []) valid before)).0
    ])

pub true_rows : (program : Program) (levels : List ℕ) (level : ℕ) (claims others : List Claim) → AreTrue program levels level claims
    → AreRows others claims → AreTrue program levels level others
unfolding AreTrue
true_rows program levels zero claims [] h rows = refl
true_rows program levels zero claims (claim ∷ others) h rows =
    let there = rows 0 claim refl in
    let none : slice_get claims there.0 ≡ None = ap (λ cs. slice_get cs there.0) h in
    let no : ⊥ = cc in
    absurd no
true_rows program levels (suc level) claims others h rows = λ k claim e. let there = rows k claim e in h there.0 claim there.1

pub true_joined : (program : Program) (levels : List ℕ) (level : ℕ) (claims others : List Claim) → AreTrue program levels level claims
    → AreTrue program levels level others → AreTrue program levels level (claims ++ others)
unfolding AreTrue
true_joined program levels zero claims others h k = ap₂ (λ (a b : List Claim). a ++ b) h k
true_joined program levels (suc level) claims others h k = λ n claim e.
    elim (prefix_or_suffix claims others n claim e) [ inl first ↦ h n claim first | inr second ↦ k second.0 claim second.1 ]

pub true_next : (program : Program) (levels : List ℕ) (level : ℕ) (claims : List Claim) → AreTrue program levels level claims
    → AreTrue program levels (suc level) claims
unfolding AreTrue
true_next program levels level claims h = λ k claim e. inr (true_rows program levels level claims (claim ∷ []) h (rows_one claim claims k e))

pub true_higher : (program : Program) (levels : List ℕ) (level higher : ℕ) (claims : List Claim) → level ≤ higher
    → AreTrue program levels level claims → AreTrue program levels higher claims
true_higher program levels level zero claims l h =
    let same : level ≡ 0 = omega arith in subst (λ (n : ℕ). AreTrue program levels n claims) same h
true_higher program levels level (suc higher) claims l h = by (cases_eq level (suc higher)) (λ m. true_higher program levels level higher claims m h)
  where
    by : (level ≡ suc higher) ⊎ (level ≡ suc higher → ⊥) → (level ≤ higher → AreTrue program levels higher claims)
        → AreTrue program levels (suc higher) claims
    by (inl same) below = subst (λ (n : ℕ). AreTrue program levels n claims) same h
    by (inr differ) below = true_next program levels higher claims (below (omega arith))
