-- The next round may be run, over the same code.
use Rattle.std.proofs.Common.{◌≡◌}
use Rattle.cu_search.specs.Standing.{IsGoing}
use Rattle.cu_search.specs.Stands.{standing_of}
use Rattle.machine_tests.proofs.pauses.go_on.Given as goal

abbrev pub invariant-loop : goal.invariant-loop
invariant-loop g l =
    let content = g.S.Store.content in
    IsGoing (standing_of content l.search)
    × ((standing_of content l.search).code ≡ (standing_of content l.fn.search).code)
