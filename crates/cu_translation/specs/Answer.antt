-- What the answers of the translation tell.
use Rattle.std.specs.Prelude.{◌≡◌, ℕ}
use Rattle.cu_kernel.specs.LocalKernel.{LocalKernel}
use Rattle.cu_lex.specs.Located.{Position}
use Rattle.cu_lex.specs.Reading.{position_of}
use Rattle.cu_names.specs.declared.names.NameId.{NameId}
use Rattle.cu_names.specs.declared.place.Place.{Place}
use Rattle.cu_translation.specs.declared.fault.DesugarFault.{DesugarFault}
use Rattle.cu_translation.specs.declared.fault.DesugarFault.TheVariants as answer
use Rattle.cu_translation.specs.declared.fault.Fault as code
use Rattle.cu_translation.specs.declared.fault.Wrong as kinds
use Rattle.cu_translation.specs.declared.fault.Wrong.TheVariants as kind
use Rattle.cu_translation.specs.FaultOrder.{Arity, Fault, FixityClash, NonLinear, RecursiveLocal, SetName, TooLong, Wrong, fault}
use Rattle.cu_translation.specs.Translation.{Outcome, Refused, Translated}

-- A text of a module is refused for this fault, at this place of the module.
pub record IsRefused (owner : NameId) (wrong : Wrong) (place : Place) (result : Outcome) : Type 0
  where
    pub owned : place.«module» ≡ owner
    pub refused : result ≡ Refused (fault wrong (position_of place))

-- A text is refused for too many rules of a function, at a place on this line.
pub record IsTooLong (line : ℕ) (result : Outcome) : Type 0 where
  pub at : Position
  pub on_line : at.line ≡ line
  pub refused : result ≡ Refused (fault TooLong at)

-- The fault that an answer tells is that of a text of the module. An allocation failure says
-- nothing.
abbrev pub Tells : NameId → DesugarFault → Outcome → Type 0
Tells owner (answer.FixityClash place) result = IsRefused owner FixityClash place result
Tells owner (answer.Arity place) result = IsRefused owner Arity place result
Tells owner (answer.NonLinear place) result = IsRefused owner NonLinear place result
Tells owner (answer.RecursiveLocal place) result = IsRefused owner RecursiveLocal place result
Tells owner (answer.SetName place) result = IsRefused owner SetName place result
Tells owner (answer.TooLong line) result = IsTooLong line result
Tells owner answer.NoMemory result = Unit {0}

-- The program that an answer gives is what a text is translated to.
abbrev pub Gives : LocalKernel → Outcome → Type 0
Gives program result = result ≡ Translated program

-- ---- faults of the code

abbrev pub wrong_meaning : kinds.Wrong → Wrong
wrong_meaning kind.FixityClash = FixityClash
wrong_meaning kind.Arity = Arity
wrong_meaning kind.NonLinear = NonLinear
wrong_meaning kind.RecursiveLocal = RecursiveLocal
wrong_meaning kind.SetName = SetName
wrong_meaning kind.TooLong = TooLong

abbrev pub fault_meaning : code.Fault → Fault
fault_meaning f = fault (wrong_meaning f.wrong) (position_of f.place)
