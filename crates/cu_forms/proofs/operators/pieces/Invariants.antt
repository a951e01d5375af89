use Rattle.std.proofs.Common.{◌≡◌, ◌++◌, drop, map, vec_len}
use Rattle.std.specs.List.{All}
use Rattle.cu_fixity.specs.Owners.{PartIsOf}
use Rattle.cu_syntax.specs.Owners.{ExpressionIsOf}
use Rattle.cu_translation.specs.LocalNames.{Scope}
use Rattle.cu_translation.specs.Meaning.{Setting}
use Rattle.cu_forms.specs.Operands.{operator_piece}
use Rattle.cu_forms.specs.Scopes.{Sees}
use Rattle.cu_forms.proofs.operators.pieces.Given as goal

abbrev pub invariant-loop-part : goal.invariant-loop-part
invariant-loop-part g l = record {
  count : vec_len l.found ≡ l.part-index;
  meaning : (w : Setting) (local : Scope) → g.A.Surroundings.tells l.around w → Sees w local l.scope
      → All (PartIsOf ExpressionIsOf w.owner w.names) l.written
      → l.found.items ++ map (operator_piece w local) (drop l.part-index l.written) ≡ map (operator_piece w local) l.written;
}
