use Rattle.std.proofs.Common.{◌≡◌, drop}
use Rattle.std.specs.List.{All}
use Rattle.cu_locals.specs.Text.{Text}
use Rattle.cu_names.specs.Texts.{IsKnown, text_of}
use Rattle.cu_syntax.specs.Declarations.{declarations_meaning}
use Rattle.cu_syntax.specs.Owners.{DeclarationIsOf}
use Rattle.cu_translation.specs.LocalFunctions.{signature_of}
use Rattle.cu_desugar.proofs.signatures.signature.Given as goal

abbrev pub invariant-loop-d : goal.invariant-loop-d
invariant-loop-d l =
    (t : Text) → IsKnown t.names l.name → All (DeclarationIsOf t.owner t.names) l.block
    → signature_of (text_of t.names l.name) (declarations_meaning t.names (drop l.d-index l.block)) ≡ signature_of (text_of t.names l.name) (declarations_meaning t.names l.block)
