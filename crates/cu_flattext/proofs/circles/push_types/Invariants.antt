use Rattle.std.proofs.Common.{◌≡◌, ◌||◌, drop}
use Rattle.cu_kernel.specs.TypesOf.{types_of}
use Rattle.cu_flattext.specs.Inside.Circles.{is_known, some_left}
use Rattle.cu_flattext.specs.TypeTexts.{is_or_passes, some_synonym_in}
use Rattle.cu_flattext.proofs.circles.push_types.Given as goal

-- the types so far, and those that are to be added, are all
abbrev pub invariant-loop-t : goal.invariant-loop-t
invariant-loop-t l =
    let test = is_or_passes l.fn.goal (is_known l.known) in
    some_left test l.left.items || some_synonym_in test (types_of (drop l.t-index l.types))
    ≡ some_left test l.fn.left.items || some_synonym_in test (types_of l.types)
