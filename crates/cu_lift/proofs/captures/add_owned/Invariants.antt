use Rattle.std.proofs.Common.{ℕ, take}
use Rattle.cu_lift.specs.Groups.{IsIn}
use Rattle.cu_lift.specs.declared.captures.Part.TheVariants.{Uses}
use Rattle.cu_lift.proofs.captures.add_owned.Given as goal

abbrev pub invariant-loop-part : goal.invariant-loop-part
invariant-loop-part l =
    ((x : ℕ) → IsIn l.fn.variables.keys x → IsIn l.variables.keys x)
    × ((x : ℕ) → IsIn (take l.part-index l.parts) (Uses x) → (IsIn l.local.binds.keys x → ⊥) → IsIn l.variables.keys x)
