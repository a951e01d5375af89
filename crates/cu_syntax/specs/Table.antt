-- The grammar of Curry modules and goals (Curry Report, appendix on syntax), as a parsing
-- expression grammar: a rule for each symbol.
use Rattle.std.specs.Prelude.{ℕ, zero, suc, List, [], ◌∷◌, ◌++◌, map, slice_get, unwrap_or}
use Rattle.cu_lex.specs.declared.token.Keyword.TheVariants as keyword
use Rattle.cu_lex.specs.declared.token.Mark.TheVariants as mark
use Rattle.cu_lex.specs.declared.token.ReservedOperator.TheVariants as reserved
use Rattle.cu_lex.specs.declared.token.Special.TheVariants as special
use Rattle.cu_peg.specs.declared.class.Class.{Class}
use Rattle.cu_peg.specs.declared.class.Class.TheVariants as class
use Rattle.cu_peg.specs.declared.class.NameKind.TheVariants as name
use Rattle.cu_peg.specs.declared.row.Row.{Row}
use Rattle.cu_peg.specs.declared.row.Row.TheVariants as row
use Rattle.cu_syntax.specs.declared.symbol.Symbol.{Symbol}
use Rattle.cu_syntax.specs.declared.symbol.Symbol.TheVariants as symbol
use Rattle.cu_syntax.specs.contracts.symbol.Symbol as symbols_type
use denote.Enum.Declared.{tag_of}

-- a parsing expression over symbols
pub data Rule : Type 0 where
  Token : Class → Rule
  -- these symbols, one after another
  Sequence : List Symbol → Rule
  -- the first of these symbols that matches
  Choice : List Symbol → Rule
  Optional : Symbol → Rule
  Many : Symbol → Rule
  AtLeastOne : Symbol → Rule
  SeparatedBy : Symbol → Symbol → Rule
  Ahead : Symbol → Rule
  NotAhead : Symbol → Rule

-- a row of so many commas
abbrev commas : ℕ → List Symbol
commas zero = []
commas (suc n) = symbol.Comma ∷ commas n

-- a symbol, and so many times a comma and the symbol again
abbrev with_commas : ℕ → Symbol → List Symbol
with_commas zero s = s ∷ []
with_commas (suc n) s = s ∷ symbol.Comma ∷ with_commas n s

abbrev pub rule_of : Symbol → Rule
-- tokens
rule_of symbol.VarId = Token (class.Unqualified name.VarId)
rule_of symbol.ConId = Token (class.Unqualified name.ConId)
rule_of symbol.VarSym = Token (class.Unqualified name.VarOp)
rule_of symbol.ConSym = Token (class.Unqualified name.ConOp)
rule_of symbol.QVarId = Token (class.Name name.VarId)
rule_of symbol.QConId = Token (class.Name name.ConId)
rule_of symbol.QVarSym = Token (class.Name name.VarOp)
rule_of symbol.QConSym = Token (class.Name name.ConOp)
rule_of symbol.Qualified = Token (class.Special special.Qualified)
rule_of symbol.As = Token (class.Special special.As)
rule_of symbol.Hiding = Token (class.Special special.Hiding)
rule_of symbol.Minus = Token (class.Special special.Minus)
rule_of symbol.Case = Token (class.Keyword keyword.Case)
rule_of symbol.Data = Token (class.Keyword keyword.Data)
rule_of symbol.Else = Token (class.Keyword keyword.Else)
rule_of symbol.Fcase = Token (class.Keyword keyword.Fcase)
rule_of symbol.Free = Token (class.Keyword keyword.Free)
rule_of symbol.If = Token (class.Keyword keyword.If)
rule_of symbol.Import = Token (class.Keyword keyword.Import)
rule_of symbol.In = Token (class.Keyword keyword.In)
rule_of symbol.Infix = Token (class.Keyword keyword.Infix)
rule_of symbol.Infixl = Token (class.Keyword keyword.Infixl)
rule_of symbol.Infixr = Token (class.Keyword keyword.Infixr)
rule_of symbol.Let = Token (class.Keyword keyword.Let)
rule_of symbol.Module = Token (class.Keyword keyword.Module)
rule_of symbol.Newtype = Token (class.Keyword keyword.Newtype)
rule_of symbol.Of = Token (class.Keyword keyword.Of)
rule_of symbol.Then = Token (class.Keyword keyword.Then)
rule_of symbol.Type = Token (class.Keyword keyword.Type)
rule_of symbol.Where = Token (class.Keyword keyword.Where)
rule_of symbol.DotDot = Token (class.Reserved reserved.DotDot)
rule_of symbol.DoubleColon = Token (class.Reserved reserved.DoubleColon)
rule_of symbol.Equals = Token (class.Reserved reserved.Equals)
rule_of symbol.Backslash = Token (class.Reserved reserved.Backslash)
rule_of symbol.Bar = Token (class.Reserved reserved.Bar)
rule_of symbol.LeftArrow = Token (class.Reserved reserved.LeftArrow)
rule_of symbol.RightArrow = Token (class.Reserved reserved.RightArrow)
rule_of symbol.At = Token (class.Reserved reserved.At)
rule_of symbol.OpenParen = Token (class.Mark mark.OpenParen)
rule_of symbol.CloseParen = Token (class.Mark mark.CloseParen)
rule_of symbol.OpenSquare = Token (class.Mark mark.OpenSquare)
rule_of symbol.CloseSquare = Token (class.Mark mark.CloseSquare)
rule_of symbol.OpenBrace = Token (class.Mark mark.OpenBrace)
rule_of symbol.CloseBrace = Token (class.Mark mark.CloseBrace)
rule_of symbol.Comma = Token (class.Mark mark.Comma)
rule_of symbol.Semicolon = Token (class.Mark mark.Semicolon)
rule_of symbol.Backquote = Token (class.Mark mark.Backquote)
rule_of symbol.Underscore = Token (class.Mark mark.Underscore)
rule_of symbol.Int = Token class.Int
rule_of symbol.Digit = Token class.Digit
rule_of symbol.Char = Token class.Char
rule_of symbol.String = Token class.String
-- names and operators
rule_of symbol.VarOp = Choice (symbol.VarSym ∷ symbol.QuotedVar ∷ [])
rule_of symbol.QuotedVar = Sequence (symbol.Backquote ∷ symbol.VarId ∷ symbol.Backquote ∷ [])
rule_of symbol.ConOp = Choice (symbol.ConSym ∷ symbol.QuotedCon ∷ [])
rule_of symbol.QuotedCon = Sequence (symbol.Backquote ∷ symbol.ConId ∷ symbol.Backquote ∷ [])
rule_of symbol.QVarOp = Choice (symbol.QVarSym ∷ symbol.QuotedQVar ∷ [])
rule_of symbol.QuotedQVar = Sequence (symbol.Backquote ∷ symbol.QVarId ∷ symbol.Backquote ∷ [])
rule_of symbol.QConOp = Choice (symbol.QConSym ∷ symbol.QuotedQCon ∷ [])
rule_of symbol.QuotedQCon = Sequence (symbol.Backquote ∷ symbol.QConId ∷ symbol.Backquote ∷ [])
rule_of symbol.Op = Choice (symbol.VarOp ∷ symbol.ConOp ∷ [])
rule_of symbol.QOp = Choice (symbol.QVarOp ∷ symbol.QConOp ∷ [])
rule_of symbol.Var = Choice (symbol.VarId ∷ symbol.ParenthesizedVarOp ∷ [])
rule_of symbol.ParenthesizedVarOp =
    Sequence (symbol.OpenParen ∷ symbol.VarOp ∷ symbol.CloseParen ∷ [])
rule_of symbol.Con = Choice (symbol.ConId ∷ symbol.ParenthesizedConOp ∷ [])
rule_of symbol.ParenthesizedConOp =
    Sequence (symbol.OpenParen ∷ symbol.ConOp ∷ symbol.CloseParen ∷ [])
rule_of symbol.QVar = Choice (symbol.QVarId ∷ symbol.ParenthesizedQVarOp ∷ [])
rule_of symbol.ParenthesizedQVarOp =
    Sequence (symbol.OpenParen ∷ symbol.QVarOp ∷ symbol.CloseParen ∷ [])
rule_of symbol.QCon = Choice (symbol.QConId ∷ symbol.ParenthesizedQConOp ∷ [])
rule_of symbol.ParenthesizedQConOp =
    Sequence (symbol.OpenParen ∷ symbol.QConOp ∷ symbol.CloseParen ∷ [])
rule_of symbol.Literal = Choice (symbol.Int ∷ symbol.Char ∷ symbol.String ∷ [])
-- headers and imports
rule_of symbol.Header =
    Sequence (symbol.Module ∷ symbol.ModuleName ∷ symbol.OptionalExports ∷ symbol.Where ∷ [])
rule_of symbol.ModuleName = Choice (symbol.VarId ∷ symbol.QConId ∷ [])
rule_of symbol.OptionalExports = Optional symbol.Exports
rule_of symbol.Exports =
    Sequence (symbol.OpenParen ∷ symbol.OptionalExportList ∷ symbol.CloseParen ∷ [])
rule_of symbol.OptionalExportList = Optional symbol.ExportList
rule_of symbol.ExportList = SeparatedBy symbol.Export symbol.Comma
rule_of symbol.Export = Choice (symbol.ModuleExport ∷ symbol.Entity ∷ [])
rule_of symbol.ModuleExport = Sequence (symbol.Module ∷ symbol.ModuleName ∷ [])
rule_of symbol.Entity = Choice (symbol.QVar ∷ symbol.TypeEntity ∷ [])
rule_of symbol.TypeEntity = Sequence (symbol.QCon ∷ symbol.OptionalConstructors ∷ [])
rule_of symbol.OptionalConstructors = Optional symbol.Constructors
rule_of symbol.Constructors =
    Sequence (symbol.OpenParen ∷ symbol.ConstructorNames ∷ symbol.CloseParen ∷ [])
rule_of symbol.ConstructorNames = Choice (symbol.DotDot ∷ symbol.OptionalConstructorList ∷ [])
rule_of symbol.OptionalConstructorList = Optional symbol.ConstructorList
rule_of symbol.ConstructorList = SeparatedBy symbol.Con symbol.Comma
rule_of symbol.ImportDecl =
    Sequence (symbol.Import ∷ symbol.OptionalQualified ∷ symbol.ModuleName ∷ symbol.OptionalAlias
    ∷ symbol.OptionalImports ∷ [])
rule_of symbol.OptionalQualified = Optional symbol.Qualified
rule_of symbol.OptionalAlias = Optional symbol.Alias
rule_of symbol.Alias = Sequence (symbol.As ∷ symbol.ModuleName ∷ [])
rule_of symbol.OptionalImports = Optional symbol.Imports
rule_of symbol.Imports =
    Sequence (symbol.OptionalHiding ∷ symbol.OpenParen ∷ symbol.OptionalEntityList
    ∷ symbol.CloseParen ∷ [])
rule_of symbol.OptionalHiding = Optional symbol.Hiding
rule_of symbol.OptionalEntityList = Optional symbol.EntityList
rule_of symbol.EntityList = SeparatedBy symbol.Entity symbol.Comma
-- declarations of a module
rule_of symbol.Item =
    Choice (symbol.FixityDecl ∷ symbol.DataDecl ∷ symbol.SynonymDecl ∷ symbol.Signature
    ∷ symbol.TopRule ∷ [])
rule_of symbol.FixityDecl = Sequence (symbol.FixityWord ∷ symbol.OptionalDigit ∷ symbol.OpList ∷ [])
rule_of symbol.FixityWord = Choice (symbol.Infixl ∷ symbol.Infixr ∷ symbol.Infix ∷ [])
rule_of symbol.OptionalDigit = Optional symbol.Digit
rule_of symbol.OpList = SeparatedBy symbol.Op symbol.Comma
rule_of symbol.DataDecl =
    Sequence (symbol.DataWord ∷ symbol.ConId ∷ symbol.TypeVars ∷ symbol.OptionalConDecls ∷ [])
rule_of symbol.DataWord = Choice (symbol.Data ∷ symbol.Newtype ∷ [])
rule_of symbol.TypeVars = Many symbol.VarId
rule_of symbol.OptionalConDecls = Optional symbol.ConDecls
rule_of symbol.ConDecls = Sequence (symbol.Equals ∷ symbol.ConDeclList ∷ [])
rule_of symbol.ConDeclList = SeparatedBy symbol.ConDecl symbol.Bar
rule_of symbol.ConDecl = Choice (symbol.InfixConDecl ∷ symbol.PrefixConDecl ∷ [])
rule_of symbol.InfixConDecl = Sequence (symbol.BType ∷ symbol.ConOp ∷ symbol.BType ∷ [])
rule_of symbol.PrefixConDecl = Sequence (symbol.Con ∷ symbol.ATypes ∷ [])
rule_of symbol.ATypes = Many symbol.AType
rule_of symbol.SynonymDecl =
    Sequence (symbol.Type ∷ symbol.ConId ∷ symbol.TypeVars ∷ symbol.Equals ∷ symbol.TypeExp ∷ [])
rule_of symbol.Signature = Sequence (symbol.VarList ∷ symbol.DoubleColon ∷ symbol.TypeExp ∷ [])
rule_of symbol.VarList = SeparatedBy symbol.Var symbol.Comma
-- types
rule_of symbol.TypeExp = SeparatedBy symbol.BType symbol.RightArrow
rule_of symbol.BType = Choice (symbol.TypeApplication ∷ symbol.AType ∷ [])
rule_of symbol.TypeApplication = Sequence (symbol.QConId ∷ symbol.TypeArguments ∷ [])
rule_of symbol.TypeArguments = AtLeastOne symbol.AType
rule_of symbol.AType =
    Choice (symbol.QConId ∷ symbol.VarId ∷ symbol.Unit ∷ symbol.TupleType ∷ symbol.ListType ∷ [])
rule_of symbol.Unit = Sequence (symbol.OpenParen ∷ symbol.CloseParen ∷ [])
rule_of symbol.TupleType =
    Sequence (symbol.OpenParen ∷ symbol.NoSixteenTypes ∷ symbol.TypeList ∷ symbol.CloseParen ∷ [])
rule_of symbol.TypeList = SeparatedBy symbol.TypeExp symbol.Comma
rule_of symbol.ListType = Sequence (symbol.OpenSquare ∷ symbol.TypeExp ∷ symbol.CloseSquare ∷ [])
rule_of symbol.NoSixteenTypes = NotAhead symbol.SixteenTypes
rule_of symbol.SixteenTypes = Sequence (with_commas 15 symbol.TypeExp)
-- rules and blocks
rule_of symbol.TopRule = Sequence (symbol.FunctionLhs ∷ symbol.Rhs ∷ [])
rule_of symbol.Rule = Sequence (symbol.Lhs ∷ symbol.Rhs ∷ [])
rule_of symbol.FunctionLhs =
    Choice (symbol.InfixLhs ∷ symbol.ParenthesizedLhs ∷ symbol.PrefixLhs ∷ [])
rule_of symbol.Lhs =
    Choice (symbol.InfixLhs ∷ symbol.ParenthesizedLhs ∷ symbol.PrefixLhs ∷ symbol.PatternLhs ∷ [])
rule_of symbol.InfixLhs = Sequence (symbol.Pat ∷ symbol.VarOp ∷ symbol.Pat ∷ [])
rule_of symbol.ParenthesizedLhs =
    Sequence (symbol.OpenParen ∷ symbol.Lhs ∷ symbol.CloseParen ∷ symbol.PatArguments ∷ [])
rule_of symbol.PrefixLhs = Sequence (symbol.Var ∷ symbol.APats ∷ symbol.RhsAhead ∷ [])
rule_of symbol.APats = Many symbol.APat
rule_of symbol.RhsAhead = Ahead symbol.RhsStart
rule_of symbol.RhsStart = Choice (symbol.Equals ∷ symbol.Bar ∷ [])
rule_of symbol.PatternLhs = Sequence (symbol.Pat ∷ symbol.EqualsAhead ∷ [])
rule_of symbol.EqualsAhead = Ahead symbol.Equals
rule_of symbol.Rhs = Sequence (symbol.RhsBody ∷ symbol.OptionalWhere ∷ [])
rule_of symbol.RhsBody = Choice (symbol.PlainRhs ∷ symbol.GuardedRhs ∷ [])
rule_of symbol.PlainRhs = Sequence (symbol.Equals ∷ symbol.Exp ∷ [])
rule_of symbol.GuardedRhs = AtLeastOne symbol.GuardedExp
rule_of symbol.GuardedExp = Sequence (symbol.Bar ∷ symbol.Exp ∷ symbol.Equals ∷ symbol.Exp ∷ [])
rule_of symbol.OptionalWhere = Optional symbol.WhereBlock
rule_of symbol.WhereBlock = Sequence (symbol.Where ∷ symbol.Block ∷ [])
rule_of symbol.Block = Sequence (symbol.OpenBrace ∷ symbol.DeclList ∷ symbol.CloseBrace ∷ [])
rule_of symbol.DeclList = SeparatedBy symbol.OptionalDecl symbol.Semicolon
rule_of symbol.OptionalDecl = Optional symbol.Decl
rule_of symbol.Decl = Choice (symbol.FreeDecl ∷ symbol.Signature ∷ symbol.Rule ∷ [])
rule_of symbol.FreeDecl = Sequence (symbol.VarIdList ∷ symbol.Free ∷ [])
rule_of symbol.VarIdList = SeparatedBy symbol.VarId symbol.Comma
-- expressions
rule_of symbol.Exp = Sequence (symbol.OptionalMinus ∷ symbol.Operand ∷ symbol.FurtherOperands ∷ [])
rule_of symbol.OptionalMinus = Optional symbol.Minus
rule_of symbol.FurtherOperands = Many symbol.FurtherOperand
rule_of symbol.FurtherOperand = Sequence (symbol.QOp ∷ symbol.OptionalMinus ∷ symbol.Operand ∷ [])
rule_of symbol.Operand =
    Choice (symbol.Lambda ∷ symbol.LetExp ∷ symbol.IfExp ∷ symbol.CaseExp ∷ symbol.Application ∷ [])
rule_of symbol.Lambda =
    Sequence (symbol.Backslash ∷ symbol.PatArguments ∷ symbol.RightArrow ∷ symbol.Exp ∷ [])
rule_of symbol.LetExp = Sequence (symbol.Let ∷ symbol.Block ∷ symbol.In ∷ symbol.Exp ∷ [])
rule_of symbol.IfExp =
    Sequence (symbol.If ∷ symbol.Exp ∷ symbol.Then ∷ symbol.Exp ∷ symbol.Else ∷ symbol.Exp ∷ [])
rule_of symbol.CaseExp =
    Sequence (symbol.CaseWord ∷ symbol.Exp ∷ symbol.Of ∷ symbol.OpenBrace ∷ symbol.AltList
    ∷ symbol.CloseBrace ∷ [])
rule_of symbol.CaseWord = Choice (symbol.Case ∷ symbol.Fcase ∷ [])
rule_of symbol.AltList = SeparatedBy symbol.OptionalAlt symbol.Semicolon
rule_of symbol.OptionalAlt = Optional symbol.Alt
rule_of symbol.Application = AtLeastOne symbol.Atom
rule_of symbol.Alt = Sequence (symbol.Pat ∷ symbol.AltBody ∷ symbol.OptionalWhere ∷ [])
rule_of symbol.AltBody = Choice (symbol.PlainAlt ∷ symbol.GuardedAlts ∷ [])
rule_of symbol.PlainAlt = Sequence (symbol.RightArrow ∷ symbol.Exp ∷ [])
rule_of symbol.GuardedAlts = AtLeastOne symbol.GuardedAlt
rule_of symbol.GuardedAlt = Sequence (symbol.Bar ∷ symbol.Exp ∷ symbol.RightArrow ∷ symbol.Exp ∷ [])
rule_of symbol.Atom =
    Choice (symbol.Literal ∷ symbol.QVar ∷ symbol.QCon ∷ symbol.Unit ∷ symbol.TupleCon
    ∷ symbol.RightSection ∷ symbol.LeftSection ∷ symbol.Tuple ∷ symbol.EmptyList
    ∷ symbol.FromThen ∷ symbol.From ∷ symbol.Comprehension ∷ symbol.ListExp ∷ [])
rule_of symbol.TupleCon =
    Sequence (symbol.OpenParen ∷ symbol.NoFifteenCommas ∷ symbol.Commas ∷ symbol.CloseParen ∷ [])
rule_of symbol.Commas = AtLeastOne symbol.Comma
rule_of symbol.NoFifteenCommas = NotAhead symbol.FifteenCommas
rule_of symbol.FifteenCommas = Sequence (commas 15)
rule_of symbol.RightSection =
    Sequence (symbol.OpenParen ∷ symbol.NoMinus ∷ symbol.QOp ∷ symbol.Exp ∷ symbol.CloseParen ∷ [])
rule_of symbol.NoMinus = NotAhead symbol.Minus
rule_of symbol.LeftSection =
    Sequence (symbol.OpenParen ∷ symbol.Exp ∷ symbol.QOp ∷ symbol.CloseParen ∷ [])
rule_of symbol.Tuple =
    Sequence (symbol.OpenParen ∷ symbol.NoSixteenExps ∷ symbol.ExpList ∷ symbol.CloseParen ∷ [])
rule_of symbol.ExpList = SeparatedBy symbol.Exp symbol.Comma
rule_of symbol.NoSixteenExps = NotAhead symbol.SixteenExps
rule_of symbol.SixteenExps = Sequence (with_commas 15 symbol.Exp)
rule_of symbol.EmptyList = Sequence (symbol.OpenSquare ∷ symbol.CloseSquare ∷ [])
rule_of symbol.FromThen =
    Sequence (symbol.OpenSquare ∷ symbol.Exp ∷ symbol.Comma ∷ symbol.Exp ∷ symbol.DotDot
    ∷ symbol.OptionalExp ∷ symbol.CloseSquare ∷ [])
rule_of symbol.From =
    Sequence (symbol.OpenSquare ∷ symbol.Exp ∷ symbol.DotDot ∷ symbol.OptionalExp
    ∷ symbol.CloseSquare ∷ [])
rule_of symbol.OptionalExp = Optional symbol.Exp
rule_of symbol.Comprehension =
    Sequence (symbol.OpenSquare ∷ symbol.Exp ∷ symbol.Bar ∷ symbol.QualList ∷ symbol.CloseSquare
    ∷ [])
rule_of symbol.QualList = SeparatedBy symbol.Qual symbol.Comma
rule_of symbol.ListExp = Sequence (symbol.OpenSquare ∷ symbol.ExpList ∷ symbol.CloseSquare ∷ [])
rule_of symbol.Qual = Choice (symbol.Generator ∷ symbol.LetQual ∷ symbol.Exp ∷ [])
rule_of symbol.Generator = Sequence (symbol.Pat ∷ symbol.LeftArrow ∷ symbol.Exp ∷ [])
rule_of symbol.LetQual = Sequence (symbol.Let ∷ symbol.Block ∷ symbol.NoIn ∷ [])
rule_of symbol.NoIn = NotAhead symbol.In
-- patterns
rule_of symbol.Pat = Sequence (symbol.ConPat ∷ symbol.FurtherConPats ∷ [])
rule_of symbol.FurtherConPats = Many symbol.FurtherConPat
rule_of symbol.FurtherConPat = Sequence (symbol.ConOp ∷ symbol.ConPat ∷ [])
rule_of symbol.ConPat = Choice (symbol.NegativePat ∷ symbol.ConApplication ∷ symbol.APat ∷ [])
rule_of symbol.NegativePat = Sequence (symbol.Minus ∷ symbol.Int ∷ [])
rule_of symbol.ConApplication = Sequence (symbol.QCon ∷ symbol.PatArguments ∷ [])
rule_of symbol.PatArguments = AtLeastOne symbol.APat
rule_of symbol.APat =
    Choice (symbol.AliasPat ∷ symbol.VarId ∷ symbol.Underscore ∷ symbol.Literal ∷ symbol.QCon
    ∷ symbol.Unit ∷ symbol.TuplePat ∷ symbol.ListPat ∷ [])
rule_of symbol.AliasPat = Sequence (symbol.VarId ∷ symbol.At ∷ symbol.APat ∷ [])
rule_of symbol.TuplePat =
    Sequence (symbol.OpenParen ∷ symbol.NoSixteenPats ∷ symbol.PatList ∷ symbol.CloseParen ∷ [])
rule_of symbol.PatList = SeparatedBy symbol.Pat symbol.Comma
rule_of symbol.NoSixteenPats = NotAhead symbol.SixteenPats
rule_of symbol.SixteenPats = Sequence (with_commas 15 symbol.Pat)
rule_of symbol.ListPat =
    Sequence (symbol.OpenSquare ∷ symbol.OptionalPatList ∷ symbol.CloseSquare ∷ [])
rule_of symbol.OptionalPatList = Optional symbol.PatList
-- goals
rule_of symbol.Goal = Sequence (symbol.Exp ∷ symbol.OptionalGoalWhere ∷ [])
rule_of symbol.OptionalGoalWhere = Optional symbol.GoalWhere
rule_of symbol.GoalWhere =
    Sequence (symbol.Where ∷ symbol.OpenBrace ∷ symbol.FreeDeclList ∷ symbol.CloseBrace ∷ [])
rule_of symbol.FreeDeclList = SeparatedBy symbol.FreeDecl symbol.Semicolon

-- The symbols in the order of their numbers.
abbrev pub tokens : List Symbol
tokens =
    symbol.VarId ∷ symbol.ConId ∷ symbol.VarSym ∷ symbol.ConSym ∷ symbol.QVarId ∷ symbol.QConId
    ∷ symbol.QVarSym ∷
    symbol.QConSym ∷ symbol.Qualified ∷ symbol.As ∷ symbol.Hiding ∷ symbol.Minus ∷ symbol.Case
    ∷ symbol.Data ∷
    symbol.Else ∷ symbol.Fcase ∷ symbol.Free ∷ symbol.If ∷ symbol.Import ∷ symbol.In ∷ symbol.Infix
    ∷ symbol.Infixl ∷
    symbol.Infixr ∷ symbol.Let ∷ symbol.Module ∷ symbol.Newtype ∷ symbol.Of ∷ symbol.Then
    ∷ symbol.Type ∷ symbol.Where ∷
    symbol.DotDot ∷ symbol.DoubleColon ∷ symbol.Equals ∷ symbol.Backslash ∷ symbol.Bar
    ∷ symbol.LeftArrow ∷
    symbol.RightArrow ∷ symbol.At ∷ symbol.OpenParen ∷ symbol.CloseParen ∷ symbol.OpenSquare
    ∷ symbol.CloseSquare ∷
    symbol.OpenBrace ∷ symbol.CloseBrace ∷ symbol.Comma ∷ symbol.Semicolon ∷ symbol.Backquote
    ∷ symbol.Underscore ∷
    symbol.Int ∷ symbol.Digit ∷ symbol.Char ∷ symbol.String ∷ []

abbrev pub names : List Symbol
names =
    symbol.VarOp ∷ symbol.QuotedVar ∷ symbol.ConOp ∷ symbol.QuotedCon ∷ symbol.QVarOp
    ∷ symbol.QuotedQVar ∷
    symbol.QConOp ∷ symbol.QuotedQCon ∷ symbol.Op ∷ symbol.QOp ∷ symbol.Var
    ∷ symbol.ParenthesizedVarOp ∷ symbol.Con ∷
    symbol.ParenthesizedConOp ∷ symbol.QVar ∷ symbol.ParenthesizedQVarOp ∷ symbol.QCon
    ∷ symbol.ParenthesizedQConOp ∷
    symbol.Literal ∷ []

abbrev pub headers : List Symbol
headers =
    symbol.Header ∷ symbol.ModuleName ∷ symbol.OptionalExports ∷ symbol.Exports
    ∷ symbol.OptionalExportList ∷
    symbol.ExportList ∷ symbol.Export ∷ symbol.ModuleExport ∷ symbol.Entity ∷ symbol.TypeEntity ∷
    symbol.OptionalConstructors ∷ symbol.Constructors ∷ symbol.ConstructorNames
    ∷ symbol.OptionalConstructorList ∷
    symbol.ConstructorList ∷ symbol.ImportDecl ∷ symbol.OptionalQualified ∷ symbol.OptionalAlias
    ∷ symbol.Alias ∷
    symbol.OptionalImports ∷ symbol.Imports ∷ symbol.OptionalHiding ∷ symbol.OptionalEntityList
    ∷ symbol.EntityList ∷ []

abbrev pub declarations : List Symbol
declarations =
    symbol.Item ∷ symbol.FixityDecl ∷ symbol.FixityWord ∷ symbol.OptionalDigit ∷ symbol.OpList
    ∷ symbol.DataDecl ∷
    symbol.DataWord ∷ symbol.TypeVars ∷ symbol.OptionalConDecls ∷ symbol.ConDecls
    ∷ symbol.ConDeclList ∷ symbol.ConDecl ∷
    symbol.InfixConDecl ∷ symbol.PrefixConDecl ∷ symbol.ATypes ∷ symbol.SynonymDecl
    ∷ symbol.Signature ∷ symbol.VarList ∷ []

abbrev pub types : List Symbol
types =
    symbol.TypeExp ∷ symbol.BType ∷ symbol.TypeApplication ∷ symbol.TypeArguments ∷ symbol.AType
    ∷ symbol.Unit ∷
    symbol.TupleType ∷ symbol.TypeList ∷ symbol.ListType ∷ symbol.NoSixteenTypes
    ∷ symbol.SixteenTypes ∷ []

abbrev pub blocks : List Symbol
blocks =
    symbol.TopRule ∷ symbol.Rule ∷ symbol.FunctionLhs ∷ symbol.Lhs ∷ symbol.InfixLhs
    ∷ symbol.ParenthesizedLhs ∷
    symbol.PrefixLhs ∷ symbol.APats ∷ symbol.RhsAhead ∷ symbol.RhsStart ∷ symbol.PatternLhs
    ∷ symbol.EqualsAhead ∷
    symbol.Rhs ∷ symbol.RhsBody ∷ symbol.PlainRhs ∷ symbol.GuardedRhs ∷ symbol.GuardedExp
    ∷ symbol.OptionalWhere ∷
    symbol.WhereBlock ∷ symbol.Block ∷ symbol.DeclList ∷ symbol.OptionalDecl ∷ symbol.Decl
    ∷ symbol.FreeDecl ∷
    symbol.VarIdList ∷ []

abbrev pub expressions : List Symbol
expressions =
    symbol.Exp ∷ symbol.OptionalMinus ∷ symbol.FurtherOperands ∷ symbol.FurtherOperand
    ∷ symbol.Operand ∷ symbol.Lambda ∷
    symbol.LetExp ∷ symbol.IfExp ∷ symbol.CaseExp ∷ symbol.CaseWord ∷ symbol.AltList
    ∷ symbol.OptionalAlt ∷
    symbol.Application ∷ symbol.Alt ∷ symbol.AltBody ∷ symbol.PlainAlt ∷ symbol.GuardedAlts
    ∷ symbol.GuardedAlt ∷
    symbol.Atom ∷ symbol.TupleCon ∷ symbol.Commas ∷ symbol.NoFifteenCommas ∷ symbol.FifteenCommas
    ∷ symbol.RightSection ∷
    symbol.NoMinus ∷ symbol.LeftSection ∷ symbol.Tuple ∷ symbol.ExpList ∷ symbol.NoSixteenExps
    ∷ symbol.SixteenExps ∷
    symbol.EmptyList ∷ symbol.FromThen ∷ symbol.From ∷ symbol.OptionalExp ∷ symbol.Comprehension
    ∷ symbol.QualList ∷
    symbol.ListExp ∷ symbol.Qual ∷ symbol.Generator ∷ symbol.LetQual ∷ symbol.NoIn ∷ []

abbrev pub patterns : List Symbol
patterns =
    symbol.Pat ∷ symbol.FurtherConPats ∷ symbol.FurtherConPat ∷ symbol.ConPat ∷ symbol.NegativePat ∷
    symbol.ConApplication ∷ symbol.PatArguments ∷ symbol.APat ∷ symbol.AliasPat ∷ symbol.TuplePat
    ∷ symbol.PatList ∷
    symbol.NoSixteenPats ∷ symbol.SixteenPats ∷ symbol.ListPat ∷ symbol.OptionalPatList ∷ []

abbrev pub goals : List Symbol
goals =
    symbol.Goal ∷ symbol.OptionalGoalWhere ∷ symbol.GoalWhere ∷ symbol.FreeDeclList ∷ []

abbrev pub symbols : List Symbol
symbols = tokens ++ names ++ headers ++ declarations ++ types ++ blocks ++ expressions ++ patterns
    ++ goals

abbrev pub number : Symbol → ℕ
number s = tag_of symbols_type.the_type s

-- the row of a rule, which names symbols by their numbers
abbrev pub row_of : Rule → Row
row_of (Token c) = row.Token c
row_of (Sequence parts) = row.Sequence (map number parts)
row_of (Choice parts) = row.Choice (map number parts)
row_of (Optional part) = row.Optional (number part)
row_of (Many part) = row.Many (number part)
row_of (AtLeastOne part) = row.AtLeastOne (number part)
row_of (SeparatedBy part separator) = row.SeparatedBy (number part) (number separator)
row_of (Ahead part) = row.Ahead (number part)
row_of (NotAhead part) = row.NotAhead (number part)

-- the rows of the grammar, in the order of the numbers of the symbols
abbrev pub rows : List Row
rows = map row_of (map rule_of symbols)

abbrev nth : Rule → Symbol → ℕ → Symbol
nth (Choice parts) s n = unwrap_or (slice_get parts n) s
nth _ s n = s

-- the symbol of the alternative of this number, where a symbol's rule is a choice
abbrev pub alternative : Symbol → ℕ → Symbol
alternative s n = nth (rule_of s) s n
