use Rattle.std.proofs.Common.{◌≡◌, false, drop, slice_index_or}
use Rattle.std.specs.List.{list_any}
use Rattle.cu_types.proofs.keeping.some_found.Given as goal

abbrev pub invariant-loop-place : goal.invariant-loop-place
invariant-loop-place l =
    list_any (λ a. slice_index_or l.found a false) (drop l.place-index l.places) ≡ list_any (λ a. slice_index_or l.found a false) l.places
