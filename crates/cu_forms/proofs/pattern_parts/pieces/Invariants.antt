use Rattle.std.proofs.Common.{◌≡◌, ◌++◌, drop, map, vec_len}
use Rattle.std.specs.List.{All}
use Rattle.cu_fixity.specs.Owners.{PartIsOf}
use Rattle.cu_syntax.specs.Owners.{PatternIsOf}
use Rattle.cu_translation.specs.Meaning.{Setting}
use Rattle.cu_forms.specs.Inside.PatternParts.{piece_in}
use Rattle.cu_forms.proofs.pattern_parts.pieces.Given as goal

abbrev pub invariant-loop-part : goal.invariant-loop-part
invariant-loop-part g l = record {
  count : vec_len l.found ≡ l.part-index;
  meaning : (w : Setting) → g.A.Surroundings.tells l.around w → All (PartIsOf PatternIsOf w.owner w.names) l.parts
      → l.found.items ++ map (piece_in w) (drop l.part-index l.parts) ≡ map (piece_in w) l.parts;
}
