-- Local functions are gone through one at a time.
use Rattle.std.proofs.Common.{◌≡◌, ℕ, ◌⊎◌, inl, inr, List, [], ◌∷◌, ◌++◌, length, map, slice_get, Some, ap, sym, ◌∙◌, subst}
use Rattle.cu_kernel.specs.LocalKernelOf.{local_rule_meaning}
use Rattle.cu_kernel.specs.declared.local.LocalFunction.{LocalFunction}
use Rattle.cu_lift.proofs.Elements.{none_in}
use Rattle.cu_cycles.proofs.Places.{prefix_or_last, one_element}
use Rattle.cu_lift.specs.Groups.{IsIn}
use Rattle.cu_lift.specs.Inside.Capturing.{AllOwned, AreLocals, IsLocal, Owns, rules_parts}
use Rattle.cu_lift.specs.declared.captures.Local.{Local}

pub no_local : (locals : List Local) (k : ℕ) (l : Local) → locals ≡ [] → slice_get locals k ≡ Some l → ⊥
no_local locals k l none e = none_in l (subst (λ (xs : List Local). IsIn xs l) none (k, e))

pub locals_next : (functions : List LocalFunction) (locals : List Local) (n : ℕ) (f : LocalFunction) (l : Local) → slice_get functions n ≡ Some f
    → length locals ≡ n → IsLocal (rules_parts (map local_rule_meaning f.rules.items)) l → AreLocals functions locals → AreLocals functions (locals ++ l ∷ [])
locals_next functions locals n f l at size is are k g m e d = by (prefix_or_last locals l k m d)
  where
    by : (slice_get locals k ≡ Some m) ⊎ ((k ≡ length locals) × (l ≡ m)) → IsLocal (rules_parts (map local_rule_meaning g.rules.items)) m
    by (inl h) = are k g m e h
    by (inr h) =
        let same : f ≡ g = one_element functions k f g (ap (slice_get functions) (h.0 ∙ size) ∙ at) e in
        subst (λ (x : LocalFunction). IsLocal (rules_parts (map local_rule_meaning x.rules.items)) m) same
        (subst (λ (x : Local). IsLocal (rules_parts (map local_rule_meaning f.rules.items)) x) h.1 is)

pub owned_next : (locals : List Local) (old new : List ℕ) (l : Local) → ((x : ℕ) → IsIn old x → IsIn new x) → ((x : ℕ) → Owns l x → IsIn new x)
    → AllOwned locals old → AllOwned (locals ++ l ∷ []) new
owned_next locals old new l keeps owned all k x m e owns = elim (prefix_or_last locals l k m e) [
  | inl h ↦ keeps x (all k x m h owns)
  | inr h ↦ owned x (subst (λ (y : Local). Owns y x) (sym h.1) owns)
]
