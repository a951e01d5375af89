use Rattle.std.proofs.Common.{◌++◌, vec_len}
use Rattle.cu_translation.specs.LocalNames.{Scope}
use Rattle.cu_sites.specs.Meaning.{IsScope}
use Rattle.cu_locals.specs.Text.{Text}
use Rattle.cu_locals.specs.Entries.{AreEntries}
use Rattle.cu_sites.proofs.SpotLemmas.{Reached}
use Rattle.cu_sites.proofs.sites.Sites.open.Given as goal

abbrev pub invariant-loop-entry : goal.invariant-loop-entry
invariant-loop-entry l =
    (t : Text) (names scope : Scope) → AreEntries t names l.fn.names.items → IsScope t l.fn.self.entries.items l.around scope
    → Reached t l.fn.self (names ++ scope) l.names.items l.scope l.self

abbrev pub decreases-loop-entry : goal.decreases-loop-entry
decreases-loop-entry l = vec_len l.names
