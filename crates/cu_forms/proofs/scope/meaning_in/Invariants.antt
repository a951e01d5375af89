use Rattle.std.proofs.Common.{◌≡◌, drop}
use Rattle.cu_forms.specs.Scopes.{meaning_in}
use Rattle.cu_forms.proofs.scope.meaning_in.Given as goal

abbrev pub invariant-loop-entry : goal.invariant-loop-entry
invariant-loop-entry l = meaning_in l.text (drop l.entry-index l.entries) ≡ meaning_in l.text l.entries
