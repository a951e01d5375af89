use Rattle.std.proofs.Common.{◌∙◌, ap, not, sym}
use Rattle.cu_modules.specs.Scopes.{is_hidden}
use Rattle.cu_modules.proofs.BindingLemmas.{no_entity}
use Rattle.cu_modules.proofs.HidingLemmas.{all_filtered, kept, passed_over}
use Rattle.cu_modules.proofs.hiding.unhidden.Goals as goal

pub entities-preserved-then-is_hidden : goal.entities-preserved-then-is_hidden
entities-preserved-then-is_hidden c = λ names mine is known.
    let es = c.args.entities.now in
    let i = c.entities.entity-index in
    passed_over names (λ e. not (is_hidden mine e)) es i no_entity c.entities.seen.items c.entities-test.true
    (ap not (sym (c.is_hidden.ensures names mine (known i no_entity c.entities-test.true) is) ∙ c.if-is_hidden.true)) (c.entities.invariant names mine is known)

pub entities-preserved : goal.entities-preserved
entities-preserved c = λ names mine is known.
    let es = c.args.entities.now in
    let i = c.entities.entity-index in
    kept names (λ e. not (is_hidden mine e)) es i no_entity c.entities.seen.items c.push.new.self.items c.entities-test.true
    (ap not (sym (c.is_hidden.ensures names mine (known i no_entity c.entities-test.true) is) ∙ c.if-is_hidden.false)) (known i no_entity c.entities-test.true)
    c.in_ok-push.ensures.items (c.entities.invariant names mine is known)

pub returns : goal.returns
returns c = λ names mine imported is are.
    all_filtered names (λ e. not (is_hidden mine e)) c.args.entities.now imported c.entities.entity-index c.entities.seen.items c.entities-test.false are (c.entities.invariant names mine is are.known)
