use Rattle.std.proofs.Common.{take}
use Rattle.std.specs.List.{All, Contains}
use Rattle.cu_modules.specs.Known.{listed_texts}
use Rattle.cu_names.specs.Texts.{Extends}
use Rattle.cu_modules.proofs.ordering.intern_all.Given as goal

abbrev pub invariant-texts : goal.invariant-texts
invariant-texts l = Extends l.fn.names l.names × All (Contains l.names) (listed_texts (take l.text-index l.texts))
