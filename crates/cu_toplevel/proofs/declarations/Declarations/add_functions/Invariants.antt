use Rattle.std.proofs.Common.{ℕ, List, map, take}
use Rattle.cu_modules.specs.Reading.{HasModule}
use Rattle.cu_names.specs.Texts.{AllDiffer, text_of}
use Rattle.cu_toplevel.specs.Declarations.{AreListed, Lists}
use Rattle.cu_toplevel.specs.Heads.{head_meaning}
use Rattle.cu_toplevel.proofs.DeclarationLemmas.{and_heads}
use Rattle.cu_toplevel.proofs.declarations.Declarations.add_functions.Given as goal

abbrev pub invariant-functions : goal.invariant-functions
invariant-functions l = (names : List (List ℕ)) (before : Lists) → AllDiffer names → HasModule names l.«module» → AreListed names before l.fn.self
    → AreListed names (and_heads (text_of names l.«module».name) (map (head_meaning names) (take l.head-index l.head-items)) before) l.self
