use Rattle.std.proofs.Common.{ℕ, List, drop}
use Rattle.std.specs.List.{All}
use Rattle.cu_names.specs.Texts.{AllDiffer}
use Rattle.cu_names.specs.declared.names.NameId.{NameId}
use Rattle.cu_syntax.specs.Owners.{DeclarationIsOf}
use Rattle.cu_uses.specs.declared.block.Block.{Block}
use Rattle.cu_uses.specs.Inside.Blocks.{Gathers, block_declares, block_signs}
use Rattle.cu_uses.proofs.block.Block.of.Given as goal

abbrev pub invariant-loop-d : goal.invariant-loop-d
invariant-loop-d l =
    (owner : NameId) (names : List (List ℕ)) (after : Block) → AllDiffer names → All (DeclarationIsOf owner names) l.ds
    → Gathers owner names l.block (block_declares names (drop l.d-index l.ds)) (block_signs names (drop l.d-index l.ds)) after
    → Gathers owner names l.initial.block (block_declares names l.ds) (block_signs names l.ds) after
