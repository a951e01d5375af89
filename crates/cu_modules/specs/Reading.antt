-- What `read` tells of the text of a module.
use Rattle.std.specs.Prelude.{◌≡◌, ℕ, List, Err}
use Rattle.cu_layout.specs.declared.fault.TooDeep as layout
use Rattle.cu_layout.specs.declared.fault.TooDeep.TheVariants as too_deep
use Rattle.cu_lex.specs.declared.fault.LexFault.{LexFault}
use Rattle.cu_lex.specs.declared.fault.LexFault.TheVariants as lex
use Rattle.cu_names.specs.declared.names.NameId.{NameId}
use Rattle.cu_names.specs.Texts.{IsKnown, text_of}
use Rattle.cu_syntax.specs.declared.fault.ParseFault.{ParseFault}
use Rattle.cu_syntax.specs.declared.fault.ParseFault.TheVariants as parse
use Rattle.cu_syntax.specs.Owners.{ModuleIsOf}
use Rattle.cu_modules.specs.declared.fault.OrderFault.{OrderFault}
use Rattle.cu_modules.specs.declared.fault.OrderFault.TheVariants as answer
use Rattle.cu_modules.specs.declared.modules.Module.{Module}
use Rattle.cu_modules.specs.BuiltInEntities.{prelude_name}
use Rattle.cu_modules.specs.Texts.{IsRead, TextFault}
use Rattle.cu_modules.specs.Walk.{InText, Refusal}

-- A refusal is the fault of a text that is looked for under a name.
pub record IsFaultOf (name text : List ℕ) (refusal : Refusal) : Type 0 where
  pub fault : TextFault
  pub refused : refusal ≡ InText name fault
  pub read : IsRead name text (Err fault)

-- ---- answers for faults of the lexer, of the layout and of the parser

abbrev pub fault_of_tokens : NameId → LexFault → OrderFault
fault_of_tokens id lex.SourceTooBig = answer.SourceTooBig id
fault_of_tokens id (lex.NotUtf8 offset) = answer.NotUtf8 id offset
fault_of_tokens id (lex.BadToken place) = answer.BadToken place
fault_of_tokens id (lex.LiteralRange place) = answer.LiteralRange place
fault_of_tokens id lex.NoMemory = answer.NoMemory

abbrev pub fault_of_layout : layout.TooDeep → OrderFault
fault_of_layout (too_deep.At place) = answer.TooDeep place
fault_of_layout too_deep.NoMemory = answer.NoMemory

abbrev pub fault_of_syntax : NameId → ParseFault → OrderFault
fault_of_syntax id (parse.Syntax line) = answer.Syntax id line
fault_of_syntax id (parse.TooLong line) = answer.TooLong id line
fault_of_syntax id parse.NoMemory = answer.NoMemory

-- A table has the name of a module and all names in it.
pub record HasModule (names : List (List ℕ)) (m : Module) : Type 0 where
  pub known : IsKnown names m.name
  pub owned : ModuleIsOf m.name names m.syntax

-- A table has the Prelude's name under this number.
pub record HasPrelude (names : List (List ℕ)) (prelude : NameId) : Type 0 where
  pub known : IsKnown names prelude
  pub text : text_of names prelude ≡ prelude_name
