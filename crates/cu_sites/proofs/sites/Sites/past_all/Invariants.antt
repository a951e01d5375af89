use Rattle.std.specs.List.{All}
use Rattle.cu_syntax.specs.Owners.{QualifierIsOf}
use Rattle.cu_translation.specs.Sites.{Spot, past_all}
use Rattle.cu_locals.specs.Text.{Text}
use Rattle.cu_sites.specs.Inside.Entering.{IsAt}
use Rattle.cu_sites.specs.Inside.Walked.{qualifiers_of}
use Rattle.cu_sites.proofs.SpotLemmas.{Past}
use Rattle.cu_sites.proofs.sites.Sites.past_all.Given as goal

abbrev pub invariant-loop-q : goal.invariant-loop-q
invariant-loop-q l =
    (t : Text) (spot : Spot) → IsAt t l.fn.self l.fn.at spot → All (QualifierIsOf t.owner t.names) l.qualifiers
    → Past t l.fn.self (past_all (qualifiers_of t.names l.qualifiers) spot) l.qualifiers l.q-index l.inner l.self
