use Rattle.std.proofs.Common.{◌∙◌, None, refl}
use Rattle.cu_translation.specs.Sites.{with}
use Rattle.cu_uses.specs.Gathered.{patterns_bind}
use Rattle.cu_sites.proofs.PartLemmas.{enters_patterns}
use Rattle.cu_sites.proofs.TopLemmas.{at_top, top, top_written}
use Rattle.cu_sites.proofs.sites.Sites.top_rule.Goals as goal

pub returns : goal.returns
returns c t of =
    let ps = c.args.rule.now.parameters.items in
    top_written c.right_side.result t c.args.self.now c.with.new.self c.push.new.self c.right_side.new.self c.in_ok-inner.inner c.args.rule.now c.in_ok-matched.matched of.parameters
    (c.in_ok-matched.ensures.items ∙ c.as_slice-3.ensures.value)
    (enters_patterns t c.args.self.now c.with.new.self (λ xs. with xs top) ps c.as_slice.result.now c.in_ok-names.names.items c.as_slice-2.result.now c.in_ok-inner.inner c.as_slice.ensures.value of.parameters
    (c.in_ok-names.ensures t) c.as_slice-2.ensures.value (c.in_ok-inner.ensures t top (at_top t c.args.self.now (record { function = None; depth = 0; scope = 0 }) refl)))
    c.in_ok-push.ensures (λ there. c.right_side.ensures t (with (patterns_bind t.names ps) top) there of.right)
