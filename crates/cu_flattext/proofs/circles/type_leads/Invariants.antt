use Rattle.std.proofs.Common.{◌≡◌}
use Rattle.cu_kernel.specs.TypesOf.{type_of}
use Rattle.cu_flattext.specs.Inside.Circles.{is_known, some_left}
use Rattle.cu_flattext.specs.TypeTexts.{is_or_passes, some_synonym}
use Rattle.cu_flattext.proofs.circles.type_leads.Given as goal

-- what is left to be looked at says what the whole type says
abbrev pub invariant-parts : goal.invariant-parts
invariant-parts l =
    let test = is_or_passes l.goal (is_known l.known) in
    some_left test l.left.items ≡ some_synonym test (type_of l.t)
