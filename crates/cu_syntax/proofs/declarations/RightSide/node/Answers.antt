-- The body that was taken is the same right-hand side.
use Rattle.std.proofs.Common.{[], ap, ap₂, ◌∙◌}
use Rattle.cu_lex.specs.Located.{Position}
use Rattle.cu_lex.specs.Reading.{position_of}
use Rattle.cu_syntax.specs.Declarations.{body_meaning, right_of}
use Rattle.cu_syntax.specs.Reading.{where_block}
use Rattle.cu_syntax.specs.SubtreeMeaning.{tree_of}
use Rattle.cu_syntax.specs.Syntax as syntax
use Rattle.cu_syntax.proofs.DeclarationLemmas.{body_choices, right_has_token, right_taken}
use Rattle.cu_syntax.proofs.SizeLemmas.{right_told}
use Rattle.cu_syntax.proofs.declarations.RightSide.node.Goals as goal

pub chosen-body-requires : goal.chosen-body-requires
chosen-body-requires c = body_choices c.args.self.body.symbol c.args.self.is_body

pub place-requires : goal.place-requires
place-requires c =
    right_has_token c.chosen-body.result.symbol
    (right_taken c.args.self.body.symbol (tree_of [] c.args.self.body) c.chosen-body.result.symbol (tree_of [] c.chosen-body.result) c.args.self.is_body (c.args.self.body.fits [])
    (c.chosen-body.ensures.tree [])).is_right

pub body-requires : goal.body-requires
body-requires c =
    (right_taken c.args.self.body.symbol (tree_of [] c.args.self.body) c.chosen-body.result.symbol (tree_of [] c.chosen-body.result) c.args.self.is_body (c.args.self.body.fits [])
    (c.chosen-body.ensures.tree [])).is_right

pub returns-clause-meaning : goal.returns-clause-meaning
returns-clause-meaning c = λ names.
    let whole = tree_of names c.args.self.body in
    let inner = tree_of names c.chosen-body.result in
    let local = where_block (tree_of names c.args.self.local) in
    ap₂ (λ (at : Position) (found : syntax.Declarations). right_of at (body_meaning names c.in_ok-body.field-0) found) (c.place.ensures.position names) (c.in_ok-local.ensures.meaning names)
    ∙ c.in_ok-body.ensures.meaning names local
    ∙ (right_taken c.args.self.body.symbol whole c.chosen-body.result.symbol inner c.args.self.is_body (c.args.self.body.fits names) (c.chosen-body.ensures.tree names)).same local

pub returns-clause-owned : goal.returns-clause-owned
returns-clause-owned c = λ owner names whole. (c.place.ensures.owned owner names (c.chosen-body.ensures.owned owner names whole.0), c.in_ok-body.ensures.owned owner names (c.chosen-body.ensures.owned owner names whole.0), c.in_ok-local.ensures.owned owner names whole.1)

pub returns-clause-smaller : goal.returns-clause-smaller
returns-clause-smaller c =
    let whole = tree_of [] c.args.self.body in
    let inner = tree_of [] c.chosen-body.result in
    let local = where_block (tree_of [] c.args.self.local) in
    let told = right_of (position_of c.place.result) (body_meaning [] c.in_ok-body.field-0) in
    right_told c.args.self (position_of c.place.result) c.in_ok-body.field-0 c.in_ok-local.field-0.items
    (ap told (c.in_ok-local.ensures.meaning []) ∙ ap (λ (at : Position). right_of at (body_meaning [] c.in_ok-body.field-0) local) (c.place.ensures.position []) ∙ c.in_ok-body.ensures.meaning [] local
    ∙ (right_taken c.args.self.body.symbol whole c.chosen-body.result.symbol inner c.args.self.is_body (c.args.self.body.fits []) (c.chosen-body.ensures.tree [])).same local)
