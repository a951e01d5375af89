use Rattle.std.proofs.Common.{◌≡◌, ◌++◌, drop, map}
use Rattle.cu_kernel.specs.TermsOf.{pattern_of}
use Rattle.cu_translation.specs.PatternTable.{character_pattern}
use Rattle.cu_forms.proofs.pattern_parts.character_patterns.Given as goal

abbrev pub invariant-loop-character : goal.invariant-loop-character
invariant-loop-character l = map pattern_of l.patterns.items ++ map character_pattern (drop l.character-index l.text) ≡ map character_pattern l.text
