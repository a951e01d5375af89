use Rattle.std.proofs.Common.{◌≡◌, ◌+◌, ◌-◌, ◌*◌, length, reverse}
use Rattle.cu_modules.proofs.WalkLemmas.{Going}
use Rattle.cu_modules.proofs.visits.visit.Given as goal

abbrev pub invariant-frames : goal.invariant-frames
invariant-frames g l =
    Going l.fn.names l.names l.fn.progress l.progress (reverse l.frames.items) l.fn.name (g.L.Library.holdings l.fn.lib) l.dir
    × (g.L.Library.holdings l.lib ≡ g.L.Library.holdings l.fn.lib)
    × (g.L.Library.fault_count l.lib ≡ g.L.Library.fault_count l.fn.lib)

-- no more than 1,002 modules are on the path or done
abbrev pub decreases-frames : goal.decreases-frames
decreases-frames g l = 2 * (1002 - (length l.progress.path.items + length l.progress.done.items)) + length l.frames.items
