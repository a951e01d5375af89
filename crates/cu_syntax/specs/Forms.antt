-- Which symbols of the grammar stand for what kind of syntax.
use Rattle.std.specs.Prelude.{Bool, false, ◌||◌, List, [], ◌∷◌}
use denote.Enum.Bare.{sameb}
use Rattle.cu_syntax.specs.contracts.symbol.Symbol as symbols
use Rattle.cu_syntax.specs.declared.symbol.Symbol.{Symbol}
use Rattle.cu_syntax.specs.declared.symbol.Symbol.TheVariants as symbol

abbrev pub is_among : List Symbol → Symbol → Bool
is_among [] s = false
is_among (t ∷ ts) s = sameb symbols.the_type t s || is_among ts s

-- whether a symbol's tree is a type that is more than another type in parentheses
abbrev pub is_type_node : Symbol → Bool
is_type_node =
    is_among (symbol.TypeExp ∷ symbol.TypeApplication ∷ symbol.QConId ∷ symbol.VarId ∷ symbol.Unit
    ∷ symbol.TupleType ∷ symbol.ListType ∷ [])

abbrev pub is_type : Symbol → Bool
is_type s = is_among (symbol.BType ∷ symbol.AType ∷ []) s || is_type_node s

-- whether a symbol's tree is a pattern that is more than another pattern in parentheses
abbrev pub is_pattern_node : Symbol → Bool
is_pattern_node =
    is_among (symbol.Pat ∷ symbol.NegativePat ∷ symbol.ConApplication ∷ symbol.AliasPat
    ∷ symbol.VarId ∷ symbol.Underscore ∷ symbol.Literal ∷
    symbol.QCon ∷ symbol.Unit ∷ symbol.TuplePat ∷ symbol.ListPat ∷ [])

abbrev pub is_pattern : Symbol → Bool
is_pattern s = is_among (symbol.ConPat ∷ symbol.APat ∷ []) s || is_pattern_node s

-- whether a symbol's tree is an expression that is more than another expression in parentheses
abbrev pub is_expression_node : Symbol → Bool
is_expression_node =
    is_among (symbol.Exp ∷ symbol.Lambda ∷ symbol.LetExp ∷ symbol.IfExp ∷ symbol.CaseExp
    ∷ symbol.Application ∷ symbol.Literal ∷ symbol.QVar ∷
    symbol.QCon ∷ symbol.Unit ∷ symbol.TupleCon ∷ symbol.RightSection ∷ symbol.LeftSection
    ∷ symbol.Tuple ∷ symbol.EmptyList ∷ symbol.FromThen ∷ symbol.From ∷
    symbol.Comprehension ∷ symbol.ListExp ∷ [])

abbrev pub is_expression : Symbol → Bool
is_expression s = is_among (symbol.Operand ∷ symbol.Atom ∷ []) s || is_expression_node s

abbrev pub is_declaration : Symbol → Bool
is_declaration = is_among (symbol.FreeDecl ∷ symbol.Signature ∷ symbol.Rule ∷ symbol.TopRule ∷ [])

abbrev pub is_rule : Symbol → Bool
is_rule = is_among (symbol.Rule ∷ symbol.TopRule ∷ [])

-- whether a symbol's tree is an item that is no import
abbrev pub is_item_node : Symbol → Bool
is_item_node =
    is_among (symbol.FixityDecl ∷ symbol.DataDecl ∷ symbol.SynonymDecl ∷ symbol.Signature
    ∷ symbol.TopRule ∷ [])

abbrev pub is_constructor_node : Symbol → Bool
is_constructor_node = is_among (symbol.InfixConDecl ∷ symbol.PrefixConDecl ∷ [])

-- whether a symbol's tree is a left-hand side of a rule, in parentheses or not
abbrev pub is_left_side : Symbol → Bool
is_left_side = is_among (symbol.Lhs ∷ symbol.FunctionLhs ∷ [])

abbrev pub is_left_node : Symbol → Bool
is_left_node = is_among (symbol.InfixLhs ∷ symbol.PrefixLhs ∷ symbol.PatternLhs ∷ [])

-- the symbol of the left-hand sides of a rule
abbrev pub left_of : Symbol → Symbol
left_of symbol.TopRule = symbol.FunctionLhs
left_of s = symbol.Lhs

abbrev pub is_right_node : Symbol → Bool
is_right_node =
    is_among (symbol.PlainRhs ∷ symbol.GuardedRhs ∷ symbol.PlainAlt ∷ symbol.GuardedAlts ∷ [])

abbrev pub is_guard : Symbol → Bool
is_guard = is_among (symbol.GuardedExp ∷ symbol.GuardedAlt ∷ [])

abbrev pub is_qualifier : Symbol → Bool
is_qualifier = is_among (symbol.Generator ∷ symbol.LetQual ∷ symbol.Exp ∷ [])

-- whether a symbol's tree is the right-hand side of a rule or an alternative, without `where`
abbrev pub is_body : Symbol → Bool
is_body = is_among (symbol.RhsBody ∷ symbol.AltBody ∷ [])

-- whether a symbol's tree is a name or an operator, maybe in parentheses or backquotes
abbrev pub is_name : Symbol → Bool
is_name = is_among (symbol.VarId ∷ symbol.ConId ∷ symbol.VarSym ∷ symbol.ConSym ∷ symbol.QVarId
    ∷ symbol.QConId ∷ symbol.QVarSym ∷ symbol.QConSym ∷
    symbol.VarOp ∷ symbol.QuotedVar ∷ symbol.ConOp ∷ symbol.QuotedCon ∷ symbol.QVarOp
    ∷ symbol.QuotedQVar ∷ symbol.QConOp ∷ symbol.QuotedQCon ∷
    symbol.Op ∷ symbol.QOp ∷ symbol.Var ∷ symbol.ParenthesizedVarOp ∷ symbol.Con
    ∷ symbol.ParenthesizedConOp ∷ symbol.QVar ∷
    symbol.ParenthesizedQVarOp ∷ symbol.QCon ∷ symbol.ParenthesizedQConOp ∷ [])
