-- What holds of what lowering gives.
use Rattle.std.proofs.Common.{ℕ, List, ◌↔◌, IsTrue}
use Rattle.std.specs.Prelude.{Ok}
use Rattle.cu_calculus.specs.Calls.{call_statement}
use Rattle.cu_calculus.specs.Claims.{AreLeastLevels, AreLevels}
use Rattle.cu_calculus.specs.Flat.{is_flat}
use Rattle.cu_calculus.specs.Gives.{Claim}
use Rattle.cu_calculus.specs.Program.{Program}
use Rattle.cu_calculus.specs.Proved.{IsProved}
use Rattle.cu_calculus.specs.Valid.{IsValid}
use Rattle.cu_calculus.specs.Value.{Value, Values}
use Rattle.cu_calculus.specs.declared.FunId.{FunId}
use Rattle.cu_deftree.specs.LoweredProgram.{Lowering}
use Rattle.cu_deftree.proofs.FlatIsValid.{flat_valid}
use Rattle.cu_deftree.proofs.FlatTrees.{flattens_flat}
use Rattle.cu_deftree.proofs.Levels.{levels_kept, operations_lowest}
use Rattle.cu_deftree.proofs.LoweredFunctions.{flattens_of}
use Rattle.cu_deftree.proofs.Meaning.{proved_converse, proved_too}

pub is_flat_program : (program flat : Program) → IsValid program → Lowering program (Ok flat) → IsTrue (is_flat flat)
is_flat_program program flat valid low = flattens_flat program flat (flattens_of program flat low) valid.special.ordered

pub meaning_stays : (program flat : Program) → IsValid program → Lowering program (Ok flat)
    → (claims : List Claim) (f : FunId) (vs : Values) (v : Value)
    → IsProved program claims (call_statement f vs v) ↔ IsProved flat claims (call_statement f vs v)
meaning_stays program flat valid low claims f vs v =
    let flattens = flattens_of program flat low in (
      proved_too program flat claims flattens valid (flat_valid program flat valid flattens) f vs v,
      proved_converse program flat claims flattens valid f vs v,
    )

pub levels_stay : (program flat : Program) → Lowering program (Ok flat) → (levels : List ℕ) → AreLeastLevels program levels
    → AreLevels flat levels
levels_stay program flat low levels least =
    levels_kept program flat levels (flattens_of program flat low) least.are_levels (operations_lowest program levels least)
