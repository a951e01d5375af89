-- The symbols of a module's items.
use Rattle.std.specs.Prelude.{Bool, true, false}
use Rattle.cu_syntax.specs.declared.symbol.Symbol.{Symbol}
use Rattle.cu_syntax.specs.declared.symbol.Symbol.TheVariants as symbol

abbrev pub is_import : Symbol → Bool
is_import symbol.ImportDecl = true
is_import _ = false

-- whether a symbol is that of an import or of another item
abbrev pub is_item : Symbol → Bool
is_item symbol.ImportDecl = true
is_item symbol.Item = true
is_item _ = false
