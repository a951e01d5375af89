-- Each declaration has a token, and stands there.
use Rattle.std.proofs.Common.{◌∙◌}
use Rattle.cu_syntax.specs.SubtreeMeaning.{tree_of}
use Rattle.cu_syntax.proofs.DeclarationLemmas.{declaration_has_token}
use Rattle.cu_syntax.proofs.PlaceLemmas.{declaration_stands}
use Rattle.cu_syntax.proofs.declarations.Declaration.place.Goals as goal

pub place-requires : goal.place-requires
place-requires c = declaration_has_token c.args.self.tree.symbol c.args.self.is_declaration

pub returns-clause-position : goal.returns-clause-position
returns-clause-position c = λ names.
    let tree = c.args.self.tree in
    c.place.ensures.position names ∙ declaration_stands tree.symbol (tree_of names tree) c.args.self.is_declaration (tree.fits names)
