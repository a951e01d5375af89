use Rattle.std.proofs.Common.{◌≡◌, ◌++◌, drop}
use Rattle.cu_lift.specs.Inside.MentionsOf.{targets}
use Rattle.cu_lift.proofs.mentions.row_targets.Given as goal

-- the targets so far, and those of the mentions that are left, are all
abbrev pub invariant-loop-mention : goal.invariant-loop-mention
invariant-loop-mention l = l.found.items ++ targets (drop l.mention-index l.row) ≡ targets l.row
