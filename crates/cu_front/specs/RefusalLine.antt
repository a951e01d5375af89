-- The line of a refused run, which tells the refusal.
use Rattle.std.specs.Prelude.{ℕ, List, ◌++◌, codes, decimal}
use Rattle.std.specs.List.{flat_map}
use Rattle.cu_lex.specs.Located.{Position}
use Rattle.cu_lex.specs.Tokens as tokens
use Rattle.cu_syntax.specs.Parsing as parsing
use Rattle.cu_modules.specs.Texts as texts
use Rattle.cu_modules.specs.Texts.{TextFault}
use Rattle.cu_modules.specs.Walk as walk
use Rattle.cu_translation.specs.FaultOrder as functions
use Rattle.cu_translation.specs.FaultOrder.{Wrong}
use Rattle.cu_uses.specs.Faults as uses
use Rattle.cu_uses.specs.declared.fault.Wrong as names
use Rattle.cu_uses.specs.declared.fault.Wrong.TheVariants as name
use Rattle.cu_front.specs.Refusal.{GoalFunctional, InFunctions, InNames, Refusal, SetRecursion}
use Rattle.cu_front.specs.Refusal.{Signature, SynonymCycle, TreeTooBig, TypeArity, TypeClash}
use Rattle.cu_front.specs.Refusal.{Walked}

-- the line of a refusal, by its number and name and its detail: `refused NUMBER NAME DETAIL`
abbrev pub refused : List ℕ → List ℕ → List ℕ
refused title detail = codes "refused " ++ (title ++ (codes " " ++ (detail ++ codes "\n")))

-- a line of a module, as `MODULE:LINE`
abbrev pub on_line : List ℕ → ℕ → List ℕ
on_line name line = name ++ (codes ":" ++ decimal line)

-- a position in a module, as `MODULE:LINE:COLUMN`
abbrev pub at_place : List ℕ → Position → List ℕ
at_place name at = name ++ (codes ":" ++ (decimal at.line ++ (codes ":" ++ decimal at.column)))

-- ---- texts

-- the line for a fault of the tokens of a text
abbrev pub token_line : List ℕ → tokens.Fault → List ℕ
token_line name tokens.SourceTooBig = refused (codes "4 SourceTooBig") name
token_line name (tokens.NotUtf8 offset) =
    refused (codes "1 NotUtf8") (name ++ (codes " offset " ++ decimal offset))
token_line name (tokens.BadToken at) = refused (codes "2 BadToken") (at_place name at)
token_line name (tokens.LiteralRange at) = refused (codes "3 LiteralRange") (at_place name at)

-- the line for a fault of the syntax of a text
abbrev pub syntax_line : List ℕ → parsing.Fault → List ℕ
syntax_line name (parsing.Syntax line) = refused (codes "6 Syntax") (on_line name line)
syntax_line name (parsing.TooLong line) = refused (codes "30 TooLong") (on_line name line)

-- the line for a fault of a text
abbrev pub text_line : List ℕ → TextFault → List ℕ
text_line name (texts.Tokens fault) = token_line name fault
text_line name (texts.TooDeep at) = refused (codes "29 TooDeep") (at_place name at)
text_line name (texts.Syntax fault) = syntax_line name fault
text_line name texts.HeaderName = refused (codes "10 HeaderName") name

-- ---- the walk over the modules

-- a text after a space
abbrev pub after_space : List ℕ → List ℕ
after_space text = codes " " ++ text

-- the line for a cycle of imports: the names of the modules, each after a space
abbrev pub cycle_line : List (List ℕ) → List ℕ
cycle_line names =
    codes "refused 9 ImportCycle" ++ (flat_map after_space names ++ codes "\n")

-- the line for a fault of the walk over imports
abbrev pub walk_line : walk.Refusal → List ℕ
walk_line (walk.InText name fault) = text_line name fault
walk_line (walk.MissingModule name) = refused (codes "8 MissingModule") name
walk_line (walk.ImportCycle names) = cycle_line names
walk_line (walk.TooManyModules name) = refused (codes "28 TooManyModules") name

-- ---- names and functions

-- the number and the name of the refusal for a fault of names
abbrev pub name_title : names.Wrong → List ℕ
name_title name.NotExported = codes "11 NotExported"
name_title name.UnknownName = codes "12 UnknownName"
name_title name.Ambiguous = codes "13 Ambiguous"
name_title name.Duplicate = codes "14 Duplicate"

-- a name that is used at a position in a module, as `MODULE:LINE:COLUMN NAME`
abbrev pub used_at : List ℕ → Position → List ℕ → List ℕ
used_at owner at name = at_place owner at ++ (codes " " ++ name)

-- the line for a fault of names
abbrev pub name_line : List ℕ → uses.Fault → List ℕ
name_line owner fault =
    refused (name_title fault.wrong) (used_at owner fault.at fault.name)

-- the line for a fault of functions
abbrev pub function_line : List ℕ → Wrong → Position → List ℕ
function_line owner functions.FixityClash at =
    refused (codes "7 FixityClash") (at_place owner at)
function_line owner functions.Arity at = refused (codes "15 Arity") (at_place owner at)
function_line owner functions.NonLinear at = refused (codes "16 NonLinear") (at_place owner at)
function_line owner functions.RecursiveLocal at =
    refused (codes "17 RecursiveLocal") (at_place owner at)
function_line owner functions.SetName at = refused (codes "18 SetName") (at_place owner at)
function_line owner functions.TooLong at = refused (codes "30 TooLong") (on_line owner at.line)

-- ---- all

-- the line of a refusal
abbrev pub refusal_line : Refusal → List ℕ
refusal_line (Walked refusal) = walk_line refusal
refusal_line (InNames owner fault) = name_line owner fault
refusal_line (TypeArity owner at) = refused (codes "22 TypeArity") (at_place owner at)
refusal_line (SynonymCycle name) = refused (codes "23 SynonymCycle") name
refusal_line (InFunctions owner fault) = function_line owner fault.wrong fault.at
refusal_line (SetRecursion function) = refused (codes "19 SetRecursion") function
refusal_line (TypeClash function) = refused (codes "20 TypeClash") function
refusal_line (Signature function) = refused (codes "21 Signature") function
refusal_line GoalFunctional = codes "refused 24 GoalFunctional\n"
refusal_line (TreeTooBig function) = refused (codes "31 TreeTooBig") function
