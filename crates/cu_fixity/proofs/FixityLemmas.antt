-- Declarations of fixities.
use Rattle.std.specs.Prelude.{◌≡◌, Bool, true, false, List, Option, Some, cond, if◌then◌else◌, refl}
use Rattle.std.specs.Map.{lookup}
use Rattle.std.specs.Option.{unwrap_or}
use Rattle.std.proofs.Common.{ap, ◌∙◌}
use Rattle.cu_names.specs.declared.names.NameId.{NameId}
use Rattle.cu_fixity.specs.declared.fixity.Fixity.{Fixity}
use Rattle.cu_fixity.specs.Fixities.{Declares, cons, same}
use Rattle.cu_fixity.specs.Pieces.{undeclared}

by_tests : (is_colon is_declared : Bool) (f g : Fixity) (before : Option Fixity)
    → (if is_colon then g else unwrap_or (cond is_declared (Some f) before) undeclared)
    ≡ (if is_colon then g else if is_declared then f else if is_colon then g else unwrap_or before undeclared)
by_tests true d f g before = refl
by_tests false true f g before = refl
by_tests false false f g before = refl

pub declares : (text : NameId) (before after : List (NameId × Fixity)) (operator : NameId) (fixity : Fixity)
    → ((q : NameId) → lookup (same q) after ≡ cond (same operator q) (Some fixity) (lookup (same q) before))
    → Declares (record { colon = text; declared = before }) operator fixity (record { colon = text; declared = after })
declares text before after operator fixity updates = record {
  colon = refl;
  fixities = λ q.
      ap (λ found. if same q text then cons else unwrap_or found undeclared) (updates q)
      ∙ by_tests (same q text) (same operator q) fixity cons (lookup (same q) before);
}
