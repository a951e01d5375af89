-- Refusals under tables that grow.
use Rattle.std.proofs.Common.{◌≡◌, ◌++◌, ℕ, List, Option, None, Some, codes, ap, ap₂, refl}
use Rattle.cu_lex.specs.Reading.{position_of}
use Rattle.cu_lex.specs.Tokens as tokens
use Rattle.cu_names.proofs.Growth.{known-extends, text_of-extends}
use Rattle.cu_names.specs.declared.names.NameId.{NameId}
use Rattle.cu_names.specs.declared.place.Place.{Place}
use Rattle.cu_names.specs.Texts.{Extends, IsKnown, text_of}
use Rattle.cu_syntax.specs.Parsing as parsing
use Rattle.cu_uses.specs.declared.fault.Wrong as names
use Rattle.cu_uses.specs.declared.fault.Wrong.TheVariants as name
use Rattle.cu_modules.proofs.MeaningLemmas.{all_known, texts_same}
use Rattle.cu_modules.specs.Texts as texts
use Rattle.cu_modules.specs.Walk as walk
use Rattle.cu_translation.specs.FaultOrder as functions
use Rattle.cu_front.specs.declared.refusal.Refusal as code
use Rattle.cu_front.specs.declared.refusal.Refusal.TheVariants as told
use Rattle.cu_front.specs.Refusal.{InFunctions, InNames, Refusal, SetRecursion, Signature, SynonymCycle, TreeTooBig, TypeArity, TypeClash, Walked}
use Rattle.cu_front.specs.RefusalMeaning.{FunctionIsKnown, RefusalIsKnown, function_named, of_names, refusal_meaning}

-- what a table of more names says of a refusal
abbrev pub Stays : List (List ℕ) → List (List ℕ) → code.Refusal → Type 0
Stays old new r = (refusal_meaning new r ≡ refusal_meaning old r) × RefusalIsKnown new r

module _ (old new : List (List ℕ)) (grown : Extends old new) where
  of_one : (meaning : List ℕ → Refusal) (id : NameId) → IsKnown old id → (meaning (text_of new id) ≡ meaning (text_of old id)) × IsKnown new id
  of_one meaning id known = (ap meaning (text_of-extends grown id known), known-extends grown id known)

  of_use : (wrong : names.Wrong) (place : Place) (id : NameId) → IsKnown old place.«module» × IsKnown old id
      → (of_names new wrong place id ≡ of_names old wrong place id) × (IsKnown new place.«module» × IsKnown new id)
  of_use wrong place id known = (
    ap₂ (λ (o n : List ℕ). InNames o (record { wrong = wrong; at = position_of place; name = n }))
        (text_of-extends grown place.«module» known.0) (text_of-extends grown id known.1),
    (known-extends grown place.«module» known.0, known-extends grown id known.1),
  )

  of_function : (meaning : List ℕ → Refusal) (m : Option NameId) (f : NameId) → FunctionIsKnown old m f
      → (meaning (function_named new m f) ≡ meaning (function_named old m f)) × FunctionIsKnown new m f
  of_function meaning None f known = (ap meaning (text_of-extends grown f known.1), (tt, known-extends grown f known.1))
  of_function meaning (Some m) f known = (
    ap₂ (λ (o n : List ℕ). meaning (o ++ (codes "." ++ n))) (text_of-extends grown m known.0) (text_of-extends grown f known.1),
    (known-extends grown m known.0, known-extends grown f known.1),
  )

  pub stays : (r : code.Refusal) → RefusalIsKnown old r → Stays old new r
  stays (told.NotUtf8 id offset) known = of_one (λ o. Walked (walk.InText o (texts.Tokens (tokens.NotUtf8 offset)))) id known
  stays (told.BadToken place) known = of_one (λ o. Walked (walk.InText o (texts.Tokens (tokens.BadToken (position_of place))))) place.«module» known
  stays (told.LiteralRange place) known =
      of_one (λ o. Walked (walk.InText o (texts.Tokens (tokens.LiteralRange (position_of place))))) place.«module» known
  stays (told.SourceTooBig id) known = of_one (λ o. Walked (walk.InText o (texts.Tokens tokens.SourceTooBig))) id known
  stays (told.Syntax id line) known = of_one (λ o. Walked (walk.InText o (texts.Syntax (parsing.Syntax line)))) id known
  stays (told.FixityClash place) known = of_one (λ o. InFunctions o (functions.fault functions.FixityClash (position_of place))) place.«module» known
  stays (told.MissingModule id) known = of_one (λ o. Walked (walk.MissingModule o)) id known
  stays (told.ImportCycle ids) known =
      (ap (λ os. Walked (walk.ImportCycle os)) (texts_same grown ids.items known), all_known grown ids.items known)
  stays (told.HeaderName id) known = of_one (λ o. Walked (walk.InText o texts.HeaderName)) id known
  stays (told.NotExported place id) known = of_use name.NotExported place id known
  stays (told.UnknownName place id) known = of_use name.UnknownName place id known
  stays (told.Ambiguous place id) known = of_use name.Ambiguous place id known
  stays (told.Duplicate place id) known = of_use name.Duplicate place id known
  stays (told.Arity place) known = of_one (λ o. InFunctions o (functions.fault functions.Arity (position_of place))) place.«module» known
  stays (told.NonLinear place) known = of_one (λ o. InFunctions o (functions.fault functions.NonLinear (position_of place))) place.«module» known
  stays (told.RecursiveLocal place) known =
      of_one (λ o. InFunctions o (functions.fault functions.RecursiveLocal (position_of place))) place.«module» known
  stays (told.SetName place) known = of_one (λ o. InFunctions o (functions.fault functions.SetName (position_of place))) place.«module» known
  stays (told.SetRecursion m f) known = of_function SetRecursion m f known
  stays (told.TypeClash m f) known = of_function TypeClash m f known
  stays (told.Signature m f) known = of_function Signature m f known
  stays (told.TypeArity place) known = of_one (λ o. TypeArity o (position_of place)) place.«module» known
  stays (told.SynonymCycle id) known = of_one SynonymCycle id known
  stays told.GoalFunctional known = (refl, tt)
  stays (told.TooManyModules id) known = of_one (λ o. Walked (walk.TooManyModules o)) id known
  stays (told.TooDeep place) known = of_one (λ o. Walked (walk.InText o (texts.TooDeep (position_of place)))) place.«module» known
  stays (told.TooLong id line) known = of_one (λ o. Walked (walk.InText o (texts.Syntax (parsing.TooLong line)))) id known
  stays (told.TreeTooBig m f) known = of_function TreeTooBig m f known
