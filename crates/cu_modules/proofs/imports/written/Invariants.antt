use Rattle.std.proofs.Common.{ℕ, List, drop}
use Rattle.cu_modules.specs.Reading.{HasModule}
use Rattle.cu_modules.proofs.ImportLemmas.{ReadsOn}
use Rattle.cu_modules.proofs.imports.written.Given as goal

abbrev pub invariant-items : goal.invariant-items
invariant-items l = (names : List (List ℕ)) → HasModule names l.fn.module → ReadsOn names l.fn.module l.item-items (drop l.item-index l.item-items) l.names.items
