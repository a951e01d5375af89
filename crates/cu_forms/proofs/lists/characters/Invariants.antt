use Rattle.std.proofs.Common.{◌≡◌, ◌++◌, drop, map}
use Rattle.cu_kernel.specs.LocalTermsOf.{local_term_of}
use Rattle.cu_translation.specs.Terms.{character}
use Rattle.cu_forms.proofs.lists.characters.Given as goal

abbrev pub invariant-loop-character : goal.invariant-loop-character
invariant-loop-character l = map local_term_of l.terms.items ++ map character (drop l.character-index l.text) ≡ map character l.text
