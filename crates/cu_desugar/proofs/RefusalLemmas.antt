-- Refusals, and the outcomes that they make.
use Rattle.std.proofs.Common.{◌≡◌, ◌∙◌, List, Option, None, Some, IfErr, IfOk, IsErrAnd, Result, Ok, Err, sym, ap, subst}
use Rattle.std.specs.Option.{option_map}
use Rattle.std.specs.Prelude.{IfSome}
use Rattle.cu_faults.specs.Telling.{FaultIsOf, IsFirst}
use Rattle.cu_kernel.specs.LocalKernel.{LocalKernel}
use Rattle.cu_names.specs.declared.names.NameId.{NameId}
use Rattle.cu_translation.specs.declared.fault.DesugarFault.{DesugarFault}
use Rattle.cu_translation.specs.declared.fault.DesugarFault.TheVariants.{NoMemory}
use Rattle.cu_translation.specs.declared.fault.Fault as code
use Rattle.cu_translation.specs.Answer.{Tells, fault_meaning}
use Rattle.cu_translation.specs.FaultOrder.{Fault, first_fault}
use Rattle.cu_translation.specs.Translation.{Outcome, Refused, Translated, outcome}
use Rattle.cu_desugar.specs.Inside.Refusals.{IsRefusal, or_other}

-- ---- refusals

pub by_clash : (owner : NameId) (clashes others : List Fault) (found : Option code.Fault) (f : code.Fault) → found ≡ Some f → IsFirst owner clashes found
    → IsRefusal owner clashes others (Some f)
by_clash owner clashes others found f is first = record {
  meaning = ap (λ o. or_other o (first_fault others)) (ap (option_map fault_meaning) (sym is) ∙ first.meaning);
  owned = subst (λ o. IfSome o (FaultIsOf owner)) is first.owned;
}

by_other_is : (owner : NameId) (clashes others : List Fault) (found other : Option code.Fault) → found ≡ None → IsFirst owner clashes found → IsFirst owner others other
    → IsRefusal owner clashes others other
by_other_is owner clashes others found other is none first = record {
  meaning = first.meaning ∙ ap (λ o. or_other o (first_fault others)) (ap (option_map fault_meaning) (sym is) ∙ none.meaning);
  owned = first.owned;
}

pub by_other : {E : Type 0} (owner : NameId) (clashes others : List Fault) (found : Option code.Fault) (r : Result (Option code.Fault) E) → found ≡ None → IsFirst owner clashes found
    → IfOk r (IsFirst owner others) → IfOk r (IsRefusal owner clashes others)
by_other owner clashes others found (Ok other) is none first = by_other_is owner clashes others found other is none first
by_other owner clashes others found (Err e) is none first = tt

-- ---- outcomes

refused_by : (clash other told : Option Fault) (f : Fault) (part : LocalKernel) → told ≡ or_other clash other → told ≡ Some f → outcome clash other part ≡ Refused f
refused_by (Some clash) other told f part is some = ap (λ o. outcome o other part) (sym is ∙ some)
refused_by None (Some other) told f part is some = ap (λ o. outcome None o part) (sym is ∙ some)
refused_by None None told f part is some = let no : None ≡ Some f = sym is ∙ some in let never : ⊥ = cc in absurd never

pub refused : (owner : NameId) (clashes others : List Fault) (found : Option code.Fault) (f : code.Fault) (part : LocalKernel) → found ≡ Some f → IsRefusal owner clashes others found
    → (outcome (first_fault clashes) (first_fault others) part ≡ Refused (fault_meaning f)) × FaultIsOf owner f
refused owner clashes others found f part is refusal = (
  refused_by (first_fault clashes) (first_fault others) (option_map fault_meaning found) (fault_meaning f) part refusal.meaning (ap (option_map fault_meaning) is),
  subst (λ o. IfSome o (FaultIsOf owner)) is refusal.owned,
)

translated_by : (clash other told : Option Fault) (part made : LocalKernel) → told ≡ or_other clash other → told ≡ None → made ≡ part → outcome clash other part ≡ Translated made
translated_by (Some clash) other told part made is none same = let no : None ≡ Some clash = sym none ∙ is in let never : ⊥ = cc in absurd never
translated_by None (Some other) told part made is none same = let no : None ≡ Some other = sym none ∙ is in let never : ⊥ = cc in absurd never
translated_by None None told part made is none same = ap Translated (sym same)

pub translated : (owner : NameId) (clashes others : List Fault) (found : Option code.Fault) (part made : LocalKernel) → found ≡ None → IsRefusal owner clashes others found → made ≡ part
    → outcome (first_fault clashes) (first_fault others) part ≡ Translated made
translated owner clashes others found part made is refusal same =
    translated_by (first_fault clashes) (first_fault others) (option_map fault_meaning found) part made refusal.meaning (ap (option_map fault_meaning) is) same

-- ---- answers

-- an allocation failure tells nothing
pub no_memory : (owner : NameId) (result : Outcome) (fault : DesugarFault) → fault ≡ NoMemory → Tells owner fault result
no_memory owner result fault is = subst (λ f. Tells owner f result) (sym is) tt

pub failed : {A : Type 0} (owner : NameId) (result : Outcome) (r : Result A DesugarFault) → IsErrAnd r (λ fault. fault ≡ NoMemory) → IfErr r (λ fault. Tells owner fault result)
failed owner result (Ok a) is = absurd is
failed owner result (Err fault) is = no_memory owner result fault is
