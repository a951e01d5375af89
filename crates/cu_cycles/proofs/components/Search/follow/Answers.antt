use Rattle.std.proofs.Common.{rules, ◌≡◌, ◌++◌, ◌∷◌, ◌<◌, [], ℕ, List, length, subst}
use Rattle.cu_cycles.proofs.Forgetting.{forgotten}
use Rattle.cu_cycles.proofs.Places.{split_last}
use Rattle.cu_cycles.specs.Inside.Search.{Good}
use Rattle.cu_cycles.proofs.components.Search.follow.Goals as goal

pub returns-clause-good : goal.returns-clause-good
returns-clause-good c g may =
    let s = c.args.self.now in
    let rest = c.pop.new.self.items in
    let size : Rattle.std.specs.Vec.vec_len s.pending ≡ length s.pending.items = search rules in
    let whole : s.pending.items ≡ rest ++ may.target ∷ [] =
    split_last s.pending.items rest (Rattle.std.specs.Vec.vec_len s.pending) may.target may.is_last size c.pop.ensures.rest in
    forgotten g s.places.items s.path.items rest may.target s.parts.items s.closed
    (subst (λ (x : List ℕ). Good g s.places.items s.path.items x s.parts.items s.closed) whole may.good)
    (λ i p e. subst (λ (x : List ℕ). p.pending < length x) whole (may.awaited i p e)) may.followed
