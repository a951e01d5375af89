-- What names and literals of the syntax stand for, under a table of names.
use Rattle.std.specs.Prelude.{ℕ, List}
use Rattle.std.specs.Option.{option_map}
use Rattle.cu_lex.specs.Reading.{position_of}
use Rattle.cu_names.specs.Texts.{text_of}
use Rattle.cu_syntax.specs.declared.name.Literal.{Literal}
use Rattle.cu_syntax.specs.declared.name.Literal.TheVariants as literal
use Rattle.cu_syntax.specs.declared.name.ModuleName.{ModuleName}
use Rattle.cu_syntax.specs.declared.name.Name.{Name}
use Rattle.cu_syntax.specs.Syntax as syntax

abbrev pub name_meaning : List (List ℕ) → Name → syntax.Name
name_meaning table name = record {
  text = text_of table name.text;
  qualifier = option_map (text_of table) name.qualifier;
  base = text_of table name.base;
  at = position_of name.place;
}

abbrev pub module_name_meaning : List (List ℕ) → ModuleName → syntax.ModuleName
module_name_meaning table name =
    record { text = text_of table name.text; at = position_of name.place }

abbrev pub literal_meaning : Literal → syntax.Literal
literal_meaning (literal.Int n) = syntax.Int n
literal_meaning (literal.Char c) = syntax.Char c
literal_meaning (literal.String s) = syntax.String s.now
