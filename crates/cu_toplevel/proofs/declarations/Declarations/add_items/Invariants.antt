use Rattle.std.proofs.Common.{ℕ, List, map, take}
use Rattle.cu_modules.specs.Reading.{HasModule}
use Rattle.cu_names.specs.Texts.{AllDiffer, text_of}
use Rattle.cu_syntax.specs.Answer.{item_meaning}
use Rattle.cu_toplevel.specs.Declarations.{AreListed, Lists}
use Rattle.cu_toplevel.specs.Inside.Gathering.{and_items}
use Rattle.cu_toplevel.proofs.declarations.Declarations.add_items.Given as goal

abbrev pub invariant-items : goal.invariant-items
invariant-items l = (names : List (List ℕ)) (before : Lists) → AllDiffer names → HasModule names l.«module» → AreListed names before l.fn.self
    → AreListed names (and_items (text_of names l.«module».name) (map (item_meaning names) (take l.item-index l.item-items)) before) l.self
