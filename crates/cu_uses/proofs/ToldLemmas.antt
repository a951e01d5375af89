-- Demands that were told, one after another.
use Rattle.std.proofs.Common.{◌≡◌, ◌∙◌, ◌<◌, ◌≤◌, ◌+◌, ℕ, Bool, true, false, List, [], ◌∷◌, ◌++◌, Option, None, Some, Result, Ok, Err, length, drop, get_or, map, refl, sym, ap, ap₂, subst, not, if◌then◌else◌}
use Rattle.std.proofs.lemmas.List.{append-nil, append_assoc}
use Rattle.std.proofs.lemmas.List.Elements.{All-get_or}
use Rattle.std.proofs.lemmas.Grind.{flat_map-append}
use Rattle.std.specs.List.{All}
use Rattle.std.specs.Option.{option_map}
use Rattle.cu_entities.specs.Bindings.{Alone, Binding, Count, Many, counted, meant_by}
use Rattle.cu_entities.specs.Entities.{Entity, Space}
use Rattle.cu_entities.specs.EntityMeaning.{entity_meaning}
use Rattle.cu_entities.specs.NameTables.{count_meaning}
use Rattle.cu_entities.specs.declared.entities.Entity as code
use Rattle.cu_entities.specs.declared.name_table.Meant.{Meant}
use Rattle.cu_entities.specs.declared.name_table.Meant.TheVariants as meant
use Rattle.cu_syntax.specs.Syntax.{Name}
use Rattle.cu_uses.specs.declared.fault.Wrong.{Wrong}
use Rattle.cu_uses.specs.declared.fault.Wrong.TheVariants.{Ambiguous, UnknownName}
use Rattle.cu_uses.specs.declared.first_fault.FirstFault.{FirstFault}
use Rattle.cu_uses.specs.Demands.{Demand, Uses}
use Rattle.cu_uses.specs.Faults.{Fault, demand_fault, demand_faults, unless_one, wrong_name}
use Rattle.cu_uses.specs.Telling.{AreTold}
use Rattle.cu_uses.specs.Inside.Worlds.{Told, World}
use Rattle.cu_uses.proofs.FoundLemmas.{prefix, nothing_left}

pub told_none : (w : World) (a : FirstFault) → Told w a [] a
told_none w a = record { told = λ faults is. subst (λ fs. AreTold w.owner w.names fs a) (sym (append-nil faults)) is }

pub told_both : {w : World} {a b c : FirstFault} {ds es : List Demand} → Told w a ds b → Told w b es c → Told w a (ds ++ es) c
told_both {w = w} {c = c} {ds = ds} {es = es} one two = record {
  told = λ faults is.
      subst (λ fs. AreTold w.owner w.names fs c)
      (append_assoc faults (demand_faults w.bindings ds) (demand_faults w.bindings es) ∙ ap (λ fs. faults ++ fs) (sym (flat_map-append (demand_fault w.bindings) ds es)))
      (two.told (faults ++ demand_faults w.bindings ds) (one.told faults is));
}

-- one round of a loop
pub told_prefix : {X : Type 0} (P : X → Type 0) (F : List X → List Demand) (f : X → List Demand) → ((x : X) (xs : List X) → F (x ∷ xs) ≡ f x ++ F xs)
    → (w : World) (xs : List X) (i : ℕ) (x : X) (a b c : FirstFault) → x ≡ get_or xs i x → i < length xs → All P xs
    → (P x → Told w a (f x) b) → Told w b (F (drop (i + 1) xs)) c → Told w a (F (drop i xs)) c
told_prefix P F f cons w xs i x a b c is within all here suffix =
    subst (λ ds. Told w a ds c) (prefix F f cons xs i x is within) (told_both (here (subst P (sym is) (All-get_or P xs i x within all))) suffix)

pub told_end : {X : Type 0} (F : List X → List Demand) → F [] ≡ [] → (w : World) (xs : List X) (i : ℕ) (a : FirstFault) → length xs ≤ i → Told w a (F (drop i xs)) a
told_end F empty w xs i a past = subst (λ ds. Told w a ds a) (sym (nothing_left F empty xs i past)) (told_none w a)

-- a demand with one fault
pub told_wrong : (w : World) (d : Demand) (f : Fault) (a b : FirstFault) → demand_fault w.bindings d ≡ f ∷ [] → ((faults : List Fault) → AreTold w.owner w.names faults a → AreTold w.owner w.names (faults ++ f ∷ []) b)
    → Told w a (d ∷ []) b
told_wrong w d f a b is tells = record { told = λ faults told. subst (λ fs. AreTold w.owner w.names (faults ++ fs) b) (sym (ap (λ fs. fs ++ []) is)) (tells faults told) }

-- a demand without a fault
pub told_right : (w : World) (d : Demand) (a : FirstFault) → demand_fault w.bindings d ≡ [] → Told w a (d ∷ []) a
told_right w d a is = record { told = λ faults told. subst (λ fs. AreTold w.owner w.names (faults ++ fs) a) (sym (ap (λ fs. fs ++ []) is)) (subst (λ fs. AreTold w.owner w.names fs a) (sym (append-nil faults)) told) }

-- ---- what a name means

unknown : (name : Name) (es : List Entity) → None ≡ counted es → unless_one UnknownName name es ≡ wrong_name UnknownName name ∷ []
unknown name [] is = refl
unknown name (e ∷ []) is = cc
unknown name (e ∷ f ∷ es) is = cc

several : (name : Name) (es : List Entity) → Some Many ≡ counted es → unless_one UnknownName name es ≡ wrong_name Ambiguous name ∷ []
several name [] is = cc
several name (e ∷ []) is = cc
several name (e ∷ f ∷ es) is = refl

alone : (name : Name) (es : List Entity) (one : Entity) → Some (Alone one) ≡ counted es → unless_one UnknownName name es ≡ []
alone name [] one is = cc
alone name (e ∷ []) one is = refl
alone name (e ∷ f ∷ es) one is = cc

pub use_unknown : (w : World) (space : Space) (name : Name) (found : Option Meant) → option_map (count_meaning w.names) found ≡ counted (meant_by w.bindings space name.qualifier name.base) → found ≡ None
    → demand_fault w.bindings (Uses space name) ≡ wrong_name UnknownName name ∷ []
use_unknown w space name found means none = unknown name (meant_by w.bindings space name.qualifier name.base) (ap (option_map (count_meaning w.names)) (sym none) ∙ means)

pub use_several : (w : World) (space : Space) (name : Name) (found : Option Meant) → option_map (count_meaning w.names) found ≡ counted (meant_by w.bindings space name.qualifier name.base) → found ≡ Some meant.Several
    → demand_fault w.bindings (Uses space name) ≡ wrong_name Ambiguous name ∷ []
use_several w space name found means many = several name (meant_by w.bindings space name.qualifier name.base) (ap (option_map (count_meaning w.names)) (sym many) ∙ means)

pub use_one : (w : World) (space : Space) (name : Name) (found : Option Meant) → option_map (count_meaning w.names) found ≡ counted (meant_by w.bindings space name.qualifier name.base)
    → (one : code.Entity) → found ≡ Some (meant.One one) → demand_fault w.bindings (Uses space name) ≡ []
use_one w space name found means one is = alone name (meant_by w.bindings space name.qualifier name.base) (entity_meaning w.names one) (ap (option_map (count_meaning w.names)) (sym is) ∙ means)
