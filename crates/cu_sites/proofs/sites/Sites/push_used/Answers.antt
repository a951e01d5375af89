use Rattle.std.proofs.Common.{rules, ◌≡◌, ◌∷◌, [], ap, length, subst}
use Rattle.cu_lex.specs.Reading.{position_of}
use Rattle.cu_translation.specs.Dependencies.{used_at}
use Rattle.cu_translation.specs.LocalNames.{LocalFunction}
use Rattle.cu_uses.proofs.FoundLemmas.{on_ok}
use Rattle.cu_sites.specs.Meaning.{IsSite}
use Rattle.cu_sites.proofs.UseLemmas.{finds_as, lambda_found}
use Rattle.cu_sites.proofs.sites.Sites.push_used.Goals as goal

pub returns-in-Lambda : goal.returns-in-Lambda
returns-in-Lambda c t n others is =
    let count : c.len.result ≡ length c.in-Lambda.parameters.items = search rules in
    on_ok c.push_function.result
    (lambda_found t c.args.self.now.blocks.items c.args.node.now.site n.site n.spot.scope c.in-Lambda.place c.in-Lambda.parameters c.in-Lambda.field-2
    c.len.result c.args.found.now.items c.push_function.new.found.items is.site c.in-Lambda.is count)
    c.push_function.ensures

pub returns-in-Generated : goal.returns-in-Generated
returns-in-Generated c t n others is =
    let meant = subst (λ x. IsSite t c.args.self.now.blocks.items x n.site) c.in-Generated.is is.site in
    on_ok c.push_function-in-Generated.result
    (finds_as c.args.found.now.items c.push_function-in-Generated.new.found.items (used_at n.spot.scope n.site)
    (LocalFunction (position_of c.in-Generated.place) 1 ∷ []) (ap (used_at n.spot.scope) meant.0))
    c.push_function-in-Generated.ensures
