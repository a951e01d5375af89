use Rattle.std.proofs.Common.{◌∙◌, ◌++◌, ◌-◌, ap, drop, length, take, rules, tests}
use Rattle.std.proofs.lemmas.Iterator.{YieldsList-from_slice}
use Rattle.std.proofs.lemmas.Iterator.Search.{position_from_yields_List}
use Rattle.cu_modules.proofs.PathLemmas.{is_it, met_there, new_there}
use Rattle.cu_modules.proofs.visits.not_met.Goals as goal

pub returns-in_default-clause-new : goal.returns-in_default-clause-new
returns-in_default-clause-new c = λ names differ has known.
    let path = c.args.path.now in
    new_there names path c.args.name c.position.result differ has known
    (position_from_yields_List (is_it c.args.name) _ _ c.position.result c.position.ensures.ran (YieldsList-from_slice path cc) (λ x b q k. search (rules, tests))) c.in_default.is

pub returns-clause-met : goal.returns-clause-met
returns-clause-met c = λ names differ has known.
    let path = c.args.path.now in
    met_there names path c.extend_from_slice.new.self.items c.args.name c.position.result c.in-Some.met differ has known
    (position_from_yields_List (is_it c.args.name) _ _ c.position.result c.position.ensures.ran (YieldsList-from_slice path cc) (λ x b q k. search (rules, tests))) c.in-Some.is
    (c.in_ok-extend_from_slice.ensures.items ∙ ap (λ prefix. prefix ++ take (length path - c.in-Some.met) (drop c.in-Some.met path)) c.new-cycle.ensures.items)
