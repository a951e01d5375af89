-- What the answers of `order` stand for, under a table of names.
use Rattle.std.specs.Prelude.{◌≡◌, ℕ, true, false, List, [], ◌∷◌, ◌++◌, Ok, Some, map}
use Rattle.std.specs.List.{All}
use Rattle.cu_io.specs.Rose.{Rose}
use Rattle.cu_lex.specs.Reading.{position_of}
use Rattle.cu_lex.specs.Tokens as tokens
use Rattle.cu_names.specs.declared.names.NameId.{NameId}
use Rattle.cu_names.specs.declared.place.Place.{Place}
use Rattle.cu_names.specs.Texts.{text_of}
use Rattle.cu_prelude.specs.BuiltIn.{built_in}
use Rattle.cu_syntax.specs.Answer.{module_meaning}
use Rattle.cu_syntax.specs.Parsing as parsing
use Rattle.cu_modules.specs.declared.fault.OrderFault.{OrderFault}
use Rattle.cu_modules.specs.declared.fault.OrderFault.TheVariants as answer
use Rattle.cu_modules.specs.declared.modules.Module.{Module}
use Rattle.cu_uses.specs.Binders.{is_among}
use Rattle.cu_modules.specs.Scopes.{Named}
use Rattle.cu_modules.specs.Texts.{HeaderName, IsRead, Syntax, TextFault, Tokens, TooDeep}
use Rattle.cu_modules.specs.Walk.{ImportCycle, InText, MissingModule, Refusal, TooManyModules, import_names}

abbrev pub module_of : List (List ℕ) → Module → Named
module_of names m = record { name = text_of names m.name; syntax = module_meaning names m.syntax }

abbrev pub modules_of : List (List ℕ) → List Module → List Named
modules_of names modules = map (module_of names) modules

abbrev pub texts_of : List (List ℕ) → List NameId → List (List ℕ)
texts_of names ids = map (text_of names) ids

-- the fault at a place of a module's text
abbrev pub in_text_at : List (List ℕ) → Place → TextFault → Refusal
in_text_at names place fault = InText (text_of names place.«module») fault

abbrev pub in_text : List (List ℕ) → NameId → TextFault → Refusal
in_text names id fault = InText (text_of names id) fault

-- A refusal that an answer tells has this property. A fault of the library and an allocation
-- failure say nothing.
abbrev pub Tells : List (List ℕ) → (Refusal → Type 0) → OrderFault → Type 0
Tells names P (answer.MissingModule id) = P (MissingModule (text_of names id))
Tells names P (answer.SourceTooBig id) = P (in_text names id (Tokens tokens.Fault.SourceTooBig))
Tells names P (answer.NotUtf8 id offset) =
    P (in_text names id (Tokens (tokens.Fault.NotUtf8 offset)))
Tells names P (answer.BadToken place) =
    P (in_text_at names place (Tokens (tokens.Fault.BadToken (position_of place))))
Tells names P (answer.LiteralRange place) =
    P (in_text_at names place (Tokens (tokens.Fault.LiteralRange (position_of place))))
Tells names P (answer.TooDeep place) = P (in_text_at names place (TooDeep (position_of place)))
Tells names P (answer.TooLong id line) = P (in_text names id (Syntax (parsing.TooLong line)))
Tells names P (answer.Syntax id line) = P (in_text names id (Syntax (parsing.Syntax line)))
Tells names P (answer.HeaderName id) = P (in_text names id HeaderName)
Tells names P (answer.ImportCycle ids) = P (ImportCycle (texts_of names ids.items))
Tells names P (answer.TooManyModules id) = P (TooManyModules (text_of names id))
Tells names P answer.Fetch = Unit {0}
Tells names P answer.NoMemory = Unit {0}

-- The library's count of faults rose where the answer is a fault of the library, and is as before
-- otherwise.
abbrev pub FaultCount : OrderFault → ℕ → ℕ → Type 0
FaultCount answer.Fetch old new = Rose old new
FaultCount _ old new = new ≡ old

-- ---- the modules of an answer, whatever the library tells

-- each module has another name than those before it
abbrev pub AllNew : List (List ℕ) → List Named → Type 0
AllNew before [] = Unit {0}
AllNew before (m ∷ modules) = (is_among before m.name ≡ false)
    × AllNew (before ++ m.name ∷ []) modules

-- each module stands after all that it imports
abbrev pub AllAfter : List (List ℕ) → List Named → Type 0
AllAfter before [] = Unit {0}
AllAfter before (m ∷ modules) = All (λ name. is_among before name ≡ true) (import_names m)
    × AllAfter (before ++ m.name ∷ []) modules

-- A module that is built in is what the built-in text of its name is read as.
abbrev pub IsOwn : Named → Type 0
IsOwn m = (text : List ℕ) → built_in m.name ≡ Some text → IsRead m.name text (Ok m.syntax)

-- Modules stand once each, and after all that they import. Those that are built in are read from
-- their own texts.
pub record AreOrdered (modules : List Named) : Type 0 where
  pub differ : AllNew [] modules
  pub after : AllAfter [] modules
  pub own : All IsOwn modules
