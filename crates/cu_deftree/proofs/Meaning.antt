-- Proofs over a program and over its flat program conclude the same of calls.
use Rattle.std.proofs.Common.{◌≡◌, ◌≢◌, ◌⊎◌, inl, inr, ℕ, Bool, ◌&&◌, List, [], ◌∷◌, Option, None, Some, option_map, IsTrue, refl, ap, ap₂, sym, ◌∙◌, subst}
use Rattle.std.specs.List.{list_all}
use Rattle.std.specs.Option.{is_some}
use Rattle.cu_calculus.specs.declared.FunId.{FunId}
use Rattle.cu_calculus.specs.declared.Head.TheVariants as head
use Rattle.cu_calculus.specs.Calls.{call_statement}
use Rattle.cu_calculus.specs.Claims.{Concludes, arguments_env, variables_from}
use Rattle.cu_calculus.specs.Gives as gives
use Rattle.cu_calculus.specs.Gives.{Claim, Gives}
use Rattle.cu_calculus.specs.Program.{Function, Program, function_of}
use Rattle.cu_calculus.specs.Proof.{is_claim_of}
use Rattle.cu_calculus.specs.Proved.{IsProved}
use Rattle.cu_calculus.specs.Shape.{is_of, takes}
use Rattle.cu_calculus.specs.Term as term
use Rattle.cu_calculus.specs.Term.{Term}
use Rattle.cu_calculus.specs.Valid.{IsValid}
use Rattle.cu_calculus.specs.Value as value
use Rattle.cu_calculus.specs.Value.{Value, Values, count}
use Rattle.cu_calculus.proofs.CallStatements.{concludes_proved, proved_concludes}
use Rattle.cu_deftree.specs.LoweredProgram.{Flattens}
use Rattle.cu_deftree.proofs.Converse.{bottom_or}
use Rattle.cu_deftree.proofs.Complete.{concludes_too}
use Rattle.cu_deftree.proofs.Sound.{all_of_same, arity_same, concludes_converse, of_same}

-- an arity is there where its function is
arity_there : (found : Option Function) → is_some found ≡ is_some (option_map (λ function. function.arity) found)
arity_there None = refl
arity_there (Some function) = refl

module _ (program flat : Program) (claims : List Claim) (flattens : Flattens program flat) (valid : IsValid program) where
  claim_same : (claim : Claim) → is_claim_of flat claim ≡ is_claim_of program claim
  claim_same claim =
      ap₂ (λ (a b : Bool). a && b)
      (ap₂ (λ (a b : Bool). a && b)
      (arity_there (function_of flat claim.function)
      ∙ ap (λ (n : Option ℕ). is_some n) (arity_same program flat claims flattens valid (head.Fun claim.function))
      ∙ sym (arity_there (function_of program claim.function))) (all_of_same program flat claims flattens valid claim.arguments)) (values_same claim.values)
    where
      values_same : (vs : List Value) → list_all (is_of flat) vs ≡ list_all (is_of program) vs
      values_same [] = refl
      values_same (v ∷ vs) = ap₂ (λ (a b : Bool). a && b) (of_same program flat claims flattens valid v) (values_same vs)

  claims_same : (rows : List Claim) → list_all (is_claim_of flat) rows ≡ list_all (is_claim_of program) rows
  claims_same [] = refl
  claims_same (claim ∷ rows) = ap₂ (λ (a b : Bool). a && b) (claim_same claim) (claims_same rows)

  -- a call of the program may have Bottom as a value, as every term
  concludes_any : (f : FunId) (vs : Values) (v : Value) → (v ≡ value.Bottom) ⊎ (v ≢ value.Bottom) → Concludes flat claims f vs v
      → Concludes program claims f vs v
  concludes_any f vs v (inr some) h = concludes_converse program flat claims flattens valid f vs v some h
  concludes_any f vs v (inl e) h = (
    ap (λ (n : Option ℕ). takes n (count vs)) (sym (arity_same program flat claims flattens valid (head.Fun f))) ∙ h.0,
    sym (all_of_same program flat claims flattens valid vs) ∙ h.1,
    subst (λ (w : Value). Gives program claims (arguments_env vs) (term.Whole (head.Fun f) (variables_from 0 (count vs))) w) (sym e)
        (gives.bottom (arguments_env vs) (term.Whole (head.Fun f) (variables_from 0 (count vs)))),
  )

  pub proved_too : IsValid flat → (f : FunId) (vs : Values) (v : Value) → IsProved program claims (call_statement f vs v)
      → IsProved flat claims (call_statement f vs v)
  proved_too valid_too f vs v h =
      let claimed : IsTrue (list_all (is_claim_of program) claims) = h.1.claimed in
      concludes_proved flat claims f vs v valid_too (claims_same claims ∙ claimed)
      (concludes_too program flat claims flattens valid claimed f vs v (proved_concludes program claims f vs v h))

  pub proved_converse : (f : FunId) (vs : Values) (v : Value) → IsProved flat claims (call_statement f vs v)
      → IsProved program claims (call_statement f vs v)
  proved_converse f vs v h =
      let claimed : IsTrue (list_all (is_claim_of flat) claims) = h.1.claimed in
      concludes_proved program claims f vs v valid (sym (claims_same claims) ∙ claimed)
      (concludes_any f vs v (bottom_or v) (proved_concludes flat claims f vs v h))
