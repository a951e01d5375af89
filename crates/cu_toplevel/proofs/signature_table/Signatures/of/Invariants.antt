use Rattle.std.proofs.Common.{ℕ, List, map, take}
use Rattle.cu_modules.specs.Reading.{HasModule}
use Rattle.cu_names.specs.Texts.{AllDiffer}
use Rattle.cu_syntax.specs.Answer.{item_meaning}
use Rattle.cu_toplevel.specs.Inside.SignatureTables.{AreSignatures}
use Rattle.cu_translation.specs.Parts.{signature_of}
use Rattle.cu_toplevel.proofs.signature_table.Signatures.of.Given as goal

abbrev pub invariant-items : goal.invariant-items
invariant-items l = (names : List (List ℕ)) → AllDiffer names → HasModule names l.«module»
    → AreSignatures l.«module».name names (λ text. signature_of text (map (item_meaning names) (take l.item-index l.item-items))) l.signatures
