-- The branches so far, and those of the graphs that are left, are those of all. In the graphs that
-- are left the walk may go on.
use Rattle.std.proofs.Common.{◌≡◌, ◌++◌, map}
use Rattle.std.specs.List.{All}
use Rattle.std.specs.Vec.Iter.{into_iter_items}
use Rattle.cu_machine.specs.State.{Branch, Idle}
use Rattle.cu_step.specs.Inside.Kept.{MayGoOn}
use Rattle.cu_step.specs.Outcome.{state_of}
use Rattle.cu_step.proofs.branches.Given as goal

abbrev pub invariant-loop-store : goal.invariant-loop-store
invariant-loop-store g l =
    let content = g.S.Store.content in
    record {
      states : map (state_of content) l.branches.items ++ map (λ store. Branch (content store) l.aim.root l.aim.goals.items Idle) (into_iter_items l.store-iterator)
          ≡ map (λ store. Branch (content store) l.aim.root l.aim.goals.items Idle) l.fn.stores.items;
      may : All (λ store. MayGoOn (content store) l.aim.root l.aim.walk) (into_iter_items l.store-iterator);
    }
