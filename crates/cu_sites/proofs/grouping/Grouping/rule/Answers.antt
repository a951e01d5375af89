use Rattle.std.proofs.Common.{Some, true, false, ap, refl, sym, ◌∙◌}
use Rattle.cu_sites.proofs.RuleLemmas.{reads_first, reads_other, reads_same, texts_alike}
use Rattle.cu_sites.proofs.grouping.Grouping.rule.Goals as goal

pub returns-in_default : goal.returns-in_default
returns-in_default c t of rule =
    reads_first t c.args.self.now c.begin.new.self c.args.rule (sym c.in_default.ensures.value) (ap (λ done. done.items) c.begin.ensures.done) c.begin.ensures.last rule

pub returns-then-eq : goal.returns-then-eq
returns-then-eq c t of rule =
    let last = sym c.take.ensures.value ∙ c.in-Some.is in
    reads_same t c.args.self.now (record { done = c.args.self.now.done; last = Some (record { first = c.in-Some.group.first; others = c.push.new.self }) }) c.in-Some.group
    (record { first = c.in-Some.group.first; others = c.push.new.self }) c.args.rule last refl refl refl c.in_ok-push.ensures.items
    (texts_alike t c.args.self.now c.in-Some.group c.args.rule true last of rule (sym c.eq.ensures ∙ c.if-eq.true)) rule

pub returns : goal.returns
returns c t of rule =
    let last = sym c.take.ensures.value ∙ c.in-Some.is in
    reads_other t c.args.self.now c.begin-2.new.self c.in-Some.group c.args.rule last (ap (λ done. done.items) c.begin-2.ensures.done ∙ c.in_ok-push-2.ensures.items) c.begin-2.ensures.last
    (texts_alike t c.args.self.now c.in-Some.group c.args.rule false last of rule (sym c.eq.ensures ∙ c.if-eq.false)) rule
