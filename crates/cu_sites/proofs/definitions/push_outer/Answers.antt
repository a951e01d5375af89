use Rattle.std.proofs.Common.{◌∙◌, ap, not, sym}
use Rattle.cu_translation.specs.declared.local_names.Binder.TheVariants as binder
use Rattle.cu_translation.specs.declared.local_names.Local.{Local}
use Rattle.cu_translation.specs.declared.local_names.Local.TheVariants as local
use Rattle.cu_translation.specs.Dependencies.{is_bound_outside}
use Rattle.cu_sites.specs.Numbered.{binders_meaning}
use Rattle.cu_sites.proofs.InsideLemmas.{outer_end, outer_skip, outer_take}
use Rattle.cu_sites.proofs.definitions.push_outer.Goals as goal

pub loop-local-init : goal.loop-local-init
loop-local-init c keys end counted rest = rest

pub loop-local-preserved-then-is_inner : goal.loop-local-preserved-then-is_inner
loop-local-preserved-then-is_inner c keys end counted rest =
    let d : Local = local.Variable (binder.At (record { line = 0; column = 0 })) in
    c.loop-local.invariant keys end counted
    (outer_skip (is_bound_outside (binders_meaning keys)) c.args.used.now c.loop-local.local-index d c.loop-local.found.items end c.loop-local-test.true
    (sym (c.is_inner.ensures keys counted) ∙ ap not c.if-is_inner.true) rest)

pub loop-local-preserved : goal.loop-local-preserved
loop-local-preserved c keys end counted rest =
    let d : Local = local.Variable (binder.At (record { line = 0; column = 0 })) in
    c.loop-local.invariant keys end counted
    (outer_take (is_bound_outside (binders_meaning keys)) c.args.used.now c.loop-local.local-index d c.loop-local.found.items c.push.new.self.items end
    c.loop-local-test.true (sym (c.is_inner.ensures keys counted) ∙ ap not c.if-is_inner.false) c.in_ok-push.ensures.items rest)

pub returns : goal.returns
returns c keys counted =
    c.loop-local.invariant keys c.loop-local.found.items counted
    (outer_end (is_bound_outside (binders_meaning keys)) c.args.used.now c.loop-local.local-index c.loop-local.found.items c.loop-local-test.false)
