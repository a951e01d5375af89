-- Faults that were told, one after another.
use Rattle.std.proofs.Common.{◌≡◌, ◌∙◌, ◌<◌, ◌≤◌, ◌+◌, ℕ, IfSome, List, [], ◌∷◌, ◌++◌, Some, length, drop, get_or, sym, ap, subst}
use Rattle.std.proofs.lemmas.List.{append-nil, append_assoc}
use Rattle.std.proofs.lemmas.List.Elements.{All-get_or}
use Rattle.std.specs.List.{All}
use Rattle.std.specs.Option.{option_map}
use Rattle.cu_names.specs.declared.names.NameId.{NameId}
use Rattle.cu_syntax.specs.Owners.{PlaceIsOf}
use Rattle.cu_translation.specs.declared.fault.Fault as code
use Rattle.cu_translation.specs.Answer.{fault_meaning}
use Rattle.cu_translation.specs.FaultOrder.{Fault, earlier}
use Rattle.cu_uses.proofs.FoundLemmas.{prefix, nothing_left}
use Rattle.cu_faults.specs.declared.first.First.{First}
use Rattle.cu_faults.specs.Telling.{AreTold, Told}
use Rattle.cu_faults.proofs.OrderLemmas.{one_more}

pub told_more : (owner : NameId) (a : First) (f first : code.Fault)
    → fault_meaning first ≡ earlier (fault_meaning f) (option_map fault_meaning a.fault)
    → (IfSome a.fault (λ g. PlaceIsOf owner g.place) → PlaceIsOf owner first.place)
    → Told owner a (fault_meaning f ∷ []) (record { fault = Some first })
told_more owner a f first is owned = record {
  told = λ others before. record {
    first = record {
      meaning = ap Some (is ∙ ap (earlier (fault_meaning f)) before.first.meaning) ∙ sym (one_more others (fault_meaning f));
      owned = owned before.first.owned;
    };
  };
}

pub told_none : (owner : NameId) (a : First) → Told owner a [] a
told_none owner a = record { told = λ others before. subst (λ fs. AreTold owner fs a) (sym (append-nil others)) before }

pub told_both : {owner : NameId} {a b c : First} {fs gs : List Fault} → Told owner a fs b → Told owner b gs c → Told owner a (fs ++ gs) c
told_both {owner = owner} {c = c} {fs = fs} {gs = gs} one two = record {
  told = λ others before. subst (λ hs. AreTold owner hs c) (append_assoc others fs gs) (two.told (others ++ fs) (one.told others before));
}

pub told_as : {owner : NameId} {a b : First} {fs gs : List Fault} → fs ≡ gs → Told owner a fs b → Told owner a gs b
told_as {owner = owner} {a = a} {b = b} same told = subst (λ hs. Told owner a hs b) same told

-- one round of a loop
pub told_prefix : {X : Type 0} (P : X → Type 0) (F : List X → List Fault) (f : X → List Fault) → ((x : X) (xs : List X) → F (x ∷ xs) ≡ f x ++ F xs)
    → (owner : NameId) (xs : List X) (i : ℕ) (x : X) (a b c : First) → x ≡ get_or xs i x → i < length xs → All P xs
    → (P x → Told owner a (f x) b) → Told owner b (F (drop (i + 1) xs)) c → Told owner a (F (drop i xs)) c
told_prefix P F f cons owner xs i x a b c is within all here suffix =
    told_as (prefix F f cons xs i x is within) (told_both (here (subst P (sym is) (All-get_or P xs i x within all))) suffix)

pub told_end : {X : Type 0} (F : List X → List Fault) → F [] ≡ [] → (owner : NameId) (xs : List X) (i : ℕ) (a : First) → length xs ≤ i → Told owner a (F (drop i xs)) a
told_end F empty owner xs i a past = told_as (sym (nothing_left F empty xs i past)) (told_none owner a)

-- what was told from the start
pub all_told : (owner : NameId) (faults : List Fault) (a b : First) → AreTold owner [] a → Told owner a faults b → AreTold owner faults b
all_told owner faults a b none told = told.told [] none
