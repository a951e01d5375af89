-- The entities, lowered programs and numbers that values of the code stand for.
use Rattle.std.specs.BTreeMap.{get}
use Rattle.std.specs.Option.{unwrap_or}
use Rattle.std.specs.Ordering.{nat_cmp}
use Rattle.cu_flattext.specs.ExpressionTexts.{Numbers}
use Rattle.cu_flattext.specs.Naming as naming
use Rattle.cu_flattext.specs.Naming.{Lowered}
use Rattle.cu_flattext.specs.Text.{lowered}
use Rattle.cu_flattext.specs.declared.numbers.VariableNumbers.{VariableNumbers}
use Rattle.cu_flattext.specs.declared.page.Entity.{Entity}
use Rattle.cu_flattext.specs.declared.wording.Wording.{Wording}

-- the entity that one of the code stands for
abbrev pub entity_meaning : Entity → naming.Entity
entity_meaning e = record { owner = e.owner.now; name = e.name.now }

-- the lowered program that the wording of a text stands for
abbrev pub lowered_of : Wording → Lowered
lowered_of w = lowered w.names.now w.kernel.now w.interface.now w.flat.now

-- the numbers of variables that those of the code stand for
abbrev pub numbers_of : VariableNumbers → Numbers
numbers_of v x = unwrap_or (get nat_cmp v.given x) 0
