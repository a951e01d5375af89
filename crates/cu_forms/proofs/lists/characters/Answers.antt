use Rattle.std.proofs.Common.{◌∙◌, ap, map}
use Rattle.cu_calculus.specs.declared.Lit.TheVariants as lit
use Rattle.cu_kernel.specs.LocalTermsOf.{local_term_of, local_term_of-Lit}
use Rattle.cu_translation.specs.Terms.{character}
use Rattle.cu_kernel.specs.declared.local.LocalTerm.TheVariants as boxed
use Rattle.cu_forms.proofs.CallLemmas.{pushed_one}
use Rattle.cu_forms.proofs.lists.characters.Goals as goal

pub loop-character-preserved : goal.loop-character-preserved
loop-character-preserved c =
    let x = c.character-item.result in
    pushed_one local_term_of character c.args.text.now c.loop-character.character-index x c.loop-character.terms.items c.push.new.self.items (boxed.Lit (lit.Char x))
    (map character c.args.text.now) c.loop-character-test.true c.in_ok-push.ensures.items (local_term_of-Lit (lit.Char x) ∙ ap character c.character-item.is) c.loop-character.invariant
