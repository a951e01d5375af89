use Rattle.cu_names.specs.Texts.{text_of}
use Rattle.cu_syntax.specs.Owners.{NameIsOf}
use Rattle.cu_translation.specs.LocalNames.{Scope}
use Rattle.cu_locals.specs.Text.{Text}
use Rattle.cu_sites.specs.Meaning.{IsScope}
use Rattle.cu_sites.proofs.UseLemmas.{Seeks}
use Rattle.cu_sites.proofs.sites.Sites.named.Given as goal

abbrev pub invariant-loop-number : goal.invariant-loop-number
invariant-loop-number l =
    (t : Text) (found : Scope) → IsScope t l.self.entries.items l.scope found → NameIsOf t.owner t.names l.name
    → Seeks t l.self.entries.items found l.number (text_of t.names l.name.text)

abbrev pub decreases-loop-number : goal.decreases-loop-number
decreases-loop-number l = l.number
