-- What the faults of stages tell, under a table of names.
use Rattle.std.specs.Prelude.{◌≡◌, ℕ, List, Err}
use Rattle.cu_layout.specs.declared.fault.TooDeep as layout
use Rattle.cu_layout.specs.declared.fault.TooDeep.TheVariants as too_deep
use Rattle.cu_lex.specs.declared.fault.LexFault.{LexFault}
use Rattle.cu_lex.specs.declared.fault.LexFault.TheVariants as lex
use Rattle.cu_names.specs.declared.names.NameId.{NameId}
use Rattle.cu_syntax.specs.declared.fault.ParseFault.{ParseFault}
use Rattle.cu_syntax.specs.declared.fault.ParseFault.TheVariants as parse
use Rattle.cu_modules.specs.Texts.{TextFault}
use Rattle.cu_modules.specs.Walk.{InText}
use Rattle.cu_front.specs.declared.fault.StageFault.{StageFault}
use Rattle.cu_front.specs.declared.fault.StageFault.TheVariants as stage
use Rattle.cu_front.specs.declared.refusal.Refusal.TheVariants as told
use Rattle.cu_front.specs.GoalTexts.{GoalIsRead}
use Rattle.cu_front.specs.Refusal.{Refusal, Walked}
use Rattle.cu_front.specs.RefusalMeaning.{RefusalIsKnown, refusal_meaning}

-- A refusal that a stage tells has the property P, and the table has its names. An allocation
-- failure says nothing.
abbrev pub Tells : List (List ℕ) → (Refusal → Type 0) → StageFault → Type 0
Tells names P (stage.Refused refusal) =
    P (refusal_meaning names refusal) × RefusalIsKnown names refusal
Tells names P stage.NoMemory = Unit {0}

-- The refusal is a fault of a goal's text, which stands for that of a module of this name.
pub record IsUnread (name text : List ℕ) (refusal : Refusal) : Type 0 where
  pub fault : TextFault
  pub refused : refusal ≡ Walked (InText name fault)
  pub read : GoalIsRead text (Err fault)

-- ---- answers for faults of the layers below

-- the fault of a stage for a fault of the tokens of a module
abbrev pub fault_of_tokens : NameId → LexFault → StageFault
fault_of_tokens id lex.SourceTooBig = stage.Refused (told.SourceTooBig id)
fault_of_tokens id (lex.NotUtf8 offset) = stage.Refused (told.NotUtf8 id offset)
fault_of_tokens id (lex.BadToken place) = stage.Refused (told.BadToken place)
fault_of_tokens id (lex.LiteralRange place) = stage.Refused (told.LiteralRange place)
fault_of_tokens id lex.NoMemory = stage.NoMemory

-- the fault of a stage for a block that is nested too deep
abbrev pub fault_of_layout : layout.TooDeep → StageFault
fault_of_layout (too_deep.At place) = stage.Refused (told.TooDeep place)
fault_of_layout too_deep.NoMemory = stage.NoMemory

-- the fault of a stage for a fault of the syntax of a module
abbrev pub fault_of_syntax : NameId → ParseFault → StageFault
fault_of_syntax id (parse.Syntax line) = stage.Refused (told.Syntax id line)
fault_of_syntax id (parse.TooLong line) = stage.Refused (told.TooLong id line)
fault_of_syntax id parse.NoMemory = stage.NoMemory
