-- The refusals that those of the code stand for, under a table of names.
use Rattle.std.specs.Prelude.{ℕ, List, ◌++◌, Option, None, Some, IfSome, codes}
use Rattle.std.specs.List.{All}
use Rattle.cu_lex.specs.Reading.{position_of}
use Rattle.cu_lex.specs.Tokens as tokens
use Rattle.cu_names.specs.Texts.{IsKnown, text_of}
use Rattle.cu_names.specs.declared.names.NameId.{NameId}
use Rattle.cu_names.specs.declared.place.Place.{Place}
use Rattle.cu_syntax.specs.Parsing as parsing
use Rattle.cu_uses.specs.declared.fault.Wrong as names
use Rattle.cu_uses.specs.declared.fault.Wrong.TheVariants as name
use Rattle.cu_modules.specs.Ordering.{in_text, in_text_at, texts_of}
use Rattle.cu_modules.specs.ScopeAnswers.{fault_at}
use Rattle.cu_modules.specs.Texts as texts
use Rattle.cu_modules.specs.Walk as walk
use Rattle.cu_translation.specs.FaultOrder as functions
use Rattle.cu_front.specs.Refusal.{GoalFunctional, InFunctions, InNames, Refusal, SetRecursion}
use Rattle.cu_front.specs.Refusal.{Signature, SynonymCycle, TreeTooBig, TypeArity, TypeClash}
use Rattle.cu_front.specs.Refusal.{Walked}
use Rattle.cu_front.specs.declared.refusal.Refusal as code
use Rattle.cu_front.specs.declared.refusal.Refusal.TheVariants as told

-- the refusal for a fault of the tokens at a place
abbrev pub of_tokens_at : List (List ℕ) → Place → tokens.Fault → Refusal
of_tokens_at names place fault = Walked (in_text_at names place (texts.Tokens fault))

-- the refusal for a fault of the tokens of a module
abbrev pub of_tokens : List (List ℕ) → NameId → tokens.Fault → Refusal
of_tokens names id fault = Walked (in_text names id (texts.Tokens fault))

-- the refusal for a fault of the syntax of a module
abbrev pub of_syntax : List (List ℕ) → NameId → parsing.Fault → Refusal
of_syntax names id fault = Walked (in_text names id (texts.Syntax fault))

-- the refusal for a fault of a name at a place
abbrev pub of_names : List (List ℕ) → names.Wrong → Place → NameId → Refusal
of_names names wrong place id =
    InNames (text_of names place.«module») (fault_at names wrong place id)

-- the refusal for a fault of functions at a place
abbrev pub of_functions : List (List ℕ) → functions.Wrong → Place → Refusal
of_functions names wrong place =
    InFunctions (text_of names place.«module») (functions.fault wrong (position_of place))

-- the text of a function: its own name, after that of its module where this is told
abbrev pub function_named : List (List ℕ) → Option NameId → NameId → List ℕ
function_named names None f = text_of names f
function_named names (Some m) f = text_of names m ++ (codes "." ++ text_of names f)

-- the refusal that a refusal of the code stands for
abbrev pub refusal_meaning : List (List ℕ) → code.Refusal → Refusal
refusal_meaning names (told.NotUtf8 id offset) = of_tokens names id (tokens.NotUtf8 offset)
refusal_meaning names (told.BadToken place) =
    of_tokens_at names place (tokens.BadToken (position_of place))
refusal_meaning names (told.LiteralRange place) =
    of_tokens_at names place (tokens.LiteralRange (position_of place))
refusal_meaning names (told.SourceTooBig id) = of_tokens names id tokens.SourceTooBig
refusal_meaning names (told.Syntax id line) = of_syntax names id (parsing.Syntax line)
refusal_meaning names (told.FixityClash place) = of_functions names functions.FixityClash place
refusal_meaning names (told.MissingModule id) = Walked (walk.MissingModule (text_of names id))
refusal_meaning names (told.ImportCycle ids) = Walked (walk.ImportCycle (texts_of names ids.items))
refusal_meaning names (told.HeaderName id) = Walked (in_text names id texts.HeaderName)
refusal_meaning names (told.NotExported place id) = of_names names name.NotExported place id
refusal_meaning names (told.UnknownName place id) = of_names names name.UnknownName place id
refusal_meaning names (told.Ambiguous place id) = of_names names name.Ambiguous place id
refusal_meaning names (told.Duplicate place id) = of_names names name.Duplicate place id
refusal_meaning names (told.Arity place) = of_functions names functions.Arity place
refusal_meaning names (told.NonLinear place) = of_functions names functions.NonLinear place
refusal_meaning names (told.RecursiveLocal place) =
    of_functions names functions.RecursiveLocal place
refusal_meaning names (told.SetName place) = of_functions names functions.SetName place
refusal_meaning names (told.SetRecursion m f) = SetRecursion (function_named names m f)
refusal_meaning names (told.TypeClash m f) = TypeClash (function_named names m f)
refusal_meaning names (told.Signature m f) = Signature (function_named names m f)
refusal_meaning names (told.TypeArity place) =
    TypeArity (text_of names place.«module») (position_of place)
refusal_meaning names (told.SynonymCycle id) = SynonymCycle (text_of names id)
refusal_meaning names told.GoalFunctional = GoalFunctional
refusal_meaning names (told.TooManyModules id) = Walked (walk.TooManyModules (text_of names id))
refusal_meaning names (told.TooDeep place) =
    Walked (in_text_at names place (texts.TooDeep (position_of place)))
refusal_meaning names (told.TooLong id line) = of_syntax names id (parsing.TooLong line)
refusal_meaning names (told.TreeTooBig m f) = TreeTooBig (function_named names m f)

-- ---- names of a table

-- The table has the name of a place's module.
abbrev pub PlaceIsKnown : List (List ℕ) → Place → Type 0
PlaceIsKnown names place = IsKnown names place.«module»

-- The table has the name of a function, and that of its module where this is told.
abbrev pub FunctionIsKnown : List (List ℕ) → Option NameId → NameId → Type 0
FunctionIsKnown names m f = IfSome m (IsKnown names) × IsKnown names f

-- The table has all names of a refusal.
abbrev pub RefusalIsKnown : List (List ℕ) → code.Refusal → Type 0
RefusalIsKnown names (told.NotUtf8 id offset) = IsKnown names id
RefusalIsKnown names (told.BadToken place) = PlaceIsKnown names place
RefusalIsKnown names (told.LiteralRange place) = PlaceIsKnown names place
RefusalIsKnown names (told.SourceTooBig id) = IsKnown names id
RefusalIsKnown names (told.Syntax id line) = IsKnown names id
RefusalIsKnown names (told.FixityClash place) = PlaceIsKnown names place
RefusalIsKnown names (told.MissingModule id) = IsKnown names id
RefusalIsKnown names (told.ImportCycle ids) = All (IsKnown names) ids.items
RefusalIsKnown names (told.HeaderName id) = IsKnown names id
RefusalIsKnown names (told.NotExported place id) = PlaceIsKnown names place × IsKnown names id
RefusalIsKnown names (told.UnknownName place id) = PlaceIsKnown names place × IsKnown names id
RefusalIsKnown names (told.Ambiguous place id) = PlaceIsKnown names place × IsKnown names id
RefusalIsKnown names (told.Duplicate place id) = PlaceIsKnown names place × IsKnown names id
RefusalIsKnown names (told.Arity place) = PlaceIsKnown names place
RefusalIsKnown names (told.NonLinear place) = PlaceIsKnown names place
RefusalIsKnown names (told.RecursiveLocal place) = PlaceIsKnown names place
RefusalIsKnown names (told.SetName place) = PlaceIsKnown names place
RefusalIsKnown names (told.SetRecursion m f) = FunctionIsKnown names m f
RefusalIsKnown names (told.TypeClash m f) = FunctionIsKnown names m f
RefusalIsKnown names (told.Signature m f) = FunctionIsKnown names m f
RefusalIsKnown names (told.TypeArity place) = PlaceIsKnown names place
RefusalIsKnown names (told.SynonymCycle id) = IsKnown names id
RefusalIsKnown names told.GoalFunctional = Unit {0}
RefusalIsKnown names (told.TooManyModules id) = IsKnown names id
RefusalIsKnown names (told.TooDeep place) = PlaceIsKnown names place
RefusalIsKnown names (told.TooLong id line) = IsKnown names id
RefusalIsKnown names (told.TreeTooBig m f) = FunctionIsKnown names m f
