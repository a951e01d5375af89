use Rattle.std.proofs.Common.{[], ◌∷◌, None, Some, map}
use Rattle.cu_modules.specs.BuiltInEntities.{cons}
use Rattle.cu_modules.specs.Scopes.{binding}
use Rattle.cu_names.specs.Texts.{text_of}
use Rattle.cu_modules.proofs.BroughtLemmas.{first_bound, same_bound}
use Rattle.cu_modules.proofs.binding.own_scope.Goals as goal

pub returns : goal.returns
returns c = λ mine differ known are.
    let names = c.args.names.now in
    let text = text_of names c.args.name in
    let first = first_bound names c.cons.result c.bind.new.self c.cons.ensures
    (λ has. c.in_ok-bind.ensures names [] differ tt has (c.new-scope.ensures names)) in
    let second = same_bound names (binding None cons ∷ []) (Some text) mine c.args.own.now c.bind_all.new.self are (c.in_ok-bind_all.ensures names (binding None cons ∷ []) differ known are.known first) in
    same_bound names (binding None cons ∷ map (binding (Some text)) mine) None mine c.args.own.now c.bind_all-2.new.self are
    (c.in_ok-bind_all-2.ensures names (binding None cons ∷ map (binding (Some text)) mine) differ tt are.known second)
