use Rattle.std.proofs.Common.{◌≡◌, ◌++◌, ℕ, List, length, ap, ◌∙◌, subst, arith}
use Rattle.cu_calculus.specs.Valid.{all_variables}
use Rattle.cu_kernel.specs.TermsOf.{patterns_of, term_of}
use Rattle.cu_kernel.specs.declared.term.Pattern.{Pattern}
use Rattle.cu_types.proofs.RuleLemmas.{rule_walks}
use Rattle.cu_types.specs.Equations.{bind_from, patterns_ask}
use Rattle.cu_types.specs.Inside.Variables.{environment}
use Rattle.cu_types.specs.Inside.Walking.{Walks, heads, scope}
use Rattle.cu_types.proofs.walk.Walk.rule.Goals as goal

pub returns : goal.returns
returns c =
    let a = c.args.self.now in
    let xs : List ℕ = c.push_all_variables.new.variables.items in
    let ps : List Pattern = c.args.rule.now.params.items in
    let count : c.in-Ok.count ≡ length xs = omega (arith, c.in-Ok.ensures, c.push_all_variables.new.variables.ok.0) in
    let are : xs ≡ all_variables (patterns_of ps) =
    c.in_ok-push_all_variables.ensures
    ∙ ap (λ (ys : List ℕ). ys ++ all_variables (patterns_of c.as_slice.result.now)) c.new-variables.ensures.items
    ∙ ap (λ (qs : List Pattern). all_variables (patterns_of qs)) c.as_slice.ensures.value in
    rule_walks a c.take.new.self c.bind_all.new.self c.patterns.new.self c.term.new.self c.undo.new.self xs c.in_ok-bindings.bindings.items
    (patterns_of ps) (term_of c.args.rule.now.body) c.args.first c.args.right c.in_ok-next.next c.in-Ok.count are count
    c.in_ok-next.ensures.first c.in_ok-next.ensures.asks
    (c.in_ok-bindings.ensures.bound ∙ ap (bind_from (scope a) c.in_ok-next.next) c.as_slice-2.ensures.value) c.in_ok-bindings.ensures.before
    (subst (λ (qs : List Pattern). Walks (record { alloc = a.alloc; signing = a.signing; variables = c.bind_all.new.self; asking = c.take.new.self })
    c.patterns.new.self (patterns_ask (heads a) (environment c.bind_all.new.self) c.args.first (patterns_of qs))) c.as_slice-3.ensures.value
    c.in_ok-patterns.ensures)
    c.in_ok-term.ensures c.in_ok-undo.ensures
