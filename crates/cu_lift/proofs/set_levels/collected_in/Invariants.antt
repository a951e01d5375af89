use Rattle.std.proofs.Common.{take, ℕ}
use Rattle.cu_lift.specs.Inside.Levelling.{Collects}
use Rattle.cu_lift.proofs.set_levels.collected_in.Given as goal

abbrev pub invariant-loop-mention : goal.invariant-loop-mention
invariant-loop-mention l = (f : ℕ) → Collects l.ranks (take l.mention-index l.row) l.rank f → ⊥
