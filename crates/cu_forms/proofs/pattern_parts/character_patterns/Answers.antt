use Rattle.std.proofs.Common.{◌∙◌, ap, map}
use Rattle.cu_calculus.specs.declared.Lit.TheVariants as lit
use Rattle.cu_kernel.specs.TermsOf.{pattern_of, pattern_of-Lit}
use Rattle.cu_translation.specs.PatternTable.{character_pattern}
use Rattle.cu_kernel.specs.declared.term.Pattern.TheVariants as boxed
use Rattle.cu_forms.proofs.CallLemmas.{pushed_one}
use Rattle.cu_forms.proofs.pattern_parts.character_patterns.Goals as goal

pub loop-character-preserved : goal.loop-character-preserved
loop-character-preserved c =
    let x = c.character-item.result in
    pushed_one pattern_of character_pattern c.args.text.now c.loop-character.character-index x c.loop-character.patterns.items c.push.new.self.items (boxed.Lit (lit.Char x))
    (map character_pattern c.args.text.now) c.loop-character-test.true c.in_ok-push.ensures.items (pattern_of-Lit (lit.Char x) ∙ ap character_pattern c.character-item.is) c.loop-character.invariant
