use Rattle.std.proofs.Common.{ℕ, List}
use Rattle.cu_calculus.specs.Program.{Program}
use Rattle.cu_calculus.specs.Valid.{IsValid}
use Rattle.cu_deftree.specs.LoweredProgram.{Flattens}
use Rattle.cu_theorem.proofs.SameTruth.{AreAlike, same_claims, same_derivations}
use Rattle.cu_theorem.proofs.truth.lowering_keeps_truth.Goals as goal

pub returns : goal.returns
returns c =
    let alike : (program flat : Program) (levels : List ℕ) → IsValid program → Flattens program flat → AreAlike program flat levels =
    λ program flat levels valid flattens.
    let ok = c.lowered_programs_are_valid.ensures program flat valid flattens in
    record {
      of_one = λ level claims true. c.true_claims_combine.ensures.of_program program levels level claims valid true;
      of_other = λ level claims true. c.true_claims_combine.ensures.of_program flat levels level claims ok true;
      there = λ claims f vs v known given.
          c.calls_have_proofs.ensures.concluded flat claims f vs v
          ((c.lowering_keeps_meaning.ensures program flat claims f vs v valid flattens).0 (c.calls_have_proofs.ensures.proved program claims f vs v valid known given));
      converse = λ claims f vs v known given.
          c.calls_have_proofs.ensures.concluded program claims f vs v
          ((c.lowering_keeps_meaning.ensures program flat claims f vs v valid flattens).1 (c.calls_have_proofs.ensures.proved flat claims f vs v ok known given));
    } in
    record {
      claims = λ program flat levels level claims valid flattens.
          same_claims program flat levels (alike program flat levels valid flattens) level claims;
      derivations = λ program flat levels f vs v valid flattens.
          same_derivations program flat levels (alike program flat levels valid flattens) f vs v;
    }
