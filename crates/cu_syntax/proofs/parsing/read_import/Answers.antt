use Rattle.std.proofs.Common.{map}
use Rattle.cu_lex.specs.Reading.{lexeme_of}
use Rattle.cu_syntax.proofs.PartLemmas.{import_allowed, import_asked}
use Rattle.cu_syntax.proofs.parsing.read_import.Goals as goal

pub returns-clause-import : goal.returns-clause-import
returns-clause-import c = λ names.
    import_allowed names c.args.imports (map (lexeme_of names) c.args.tokens.now) c.parse.result c.if-not-imports.false (c.parse.ensures.tree names)

pub returns-clause-none : goal.returns-clause-none
returns-clause-none c = λ names. import_asked c.args.imports (map (lexeme_of names) c.args.tokens.now) c.parse.result (c.parse.ensures.none names)

pub returns-clause-owned : goal.returns-clause-owned
returns-clause-owned c = λ owner names whole. c.parse.ensures.owned owner names whole
