-- The signature that is found for a name.
use Rattle.std.specs.Prelude.{◌≡◌, IfSome, Option, option_map}
use Rattle.cu_locals.specs.Text.{Text}
use Rattle.cu_syntax.specs.declared.types.TypeTerm as code
use Rattle.cu_syntax.specs.Owners.{TypeIsOf}
use Rattle.cu_syntax.specs.Syntax.{TypeTerm}
use Rattle.cu_syntax.specs.Types.{type_meaning}

-- The declared type that was found, if one was, is the one that the definitions have, and its
-- tokens are those of the text.
pub record IsSignature (t : Text) (declared : Option TypeTerm) (found : Option code.TypeTerm)
    : Type 0 where
  pub meaning : option_map (type_meaning t.names) found ≡ declared
  pub owned : IfSome found (TypeIsOf t.owner t.names)
