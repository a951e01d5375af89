use Rattle.std.proofs.Common.{◌≡◌, ◌∷◌, ◌++◌, drop, map}
use Rattle.cu_faults.specs.Telling.{setting}
use Rattle.cu_forms.specs.Scopes.{Sees}
use Rattle.cu_kernel.specs.LocalKernelOf.{local_rule_meaning}
use Rattle.cu_locals.specs.Text.{Text}
use Rattle.cu_sites.specs.Meaning.{GroupIsOf}
use Rattle.cu_translation.specs.Around.{Around}
use Rattle.cu_translation.specs.LocalNames.{Scope}
use Rattle.cu_desugar.specs.Inside.Surrounding.{Surrounds}
use Rattle.cu_desugar.proofs.FunctionLemmas.{rule_in}
use Rattle.cu_desugar.proofs.functions.rules.Given as goal

abbrev pub invariant-loop-other : goal.invariant-loop-other
invariant-loop-other l =
    (t : Text) (a : Around) (local : Scope) → Surrounds (setting t a) l.around → Sees (setting t a) local l.scope → GroupIsOf t.owner t.names l.group
    → map local_rule_meaning l.found.items ++ map (rule_in a t local) (drop l.other-index l.other-items)
    ≡ rule_in a t local l.group.first ∷ map (rule_in a t local) l.group.others.items
