use Rattle.std.proofs.Common.{map, refl, subst, sym, ◌∙◌, drop, ◌+◌}
use Rattle.cu_syntax.specs.Names.{name_meaning}
use Rattle.cu_uses.specs.Binders.{missing}
use Rattle.cu_uses.specs.Demands.{Lacks}
use Rattle.cu_uses.specs.Gathered.{names_meaning}
use Rattle.cu_uses.specs.Inside.Worlds.{Told}
use Rattle.cu_uses.proofs.ListLemmas.{missing_prefix_has, missing_prefix_lacks, name_at, no_name}
use Rattle.cu_uses.proofs.lists.tell_missing.Goals.{then-not-has, else-not-has}
use Rattle.cu_uses.proofs.lists.tell_missing.Goals as goal

pub loop-name-preserved : goal.loop-name-preserved
loop-name-preserved c w texts after has all rest =
    let here = all c.loop-name.name-index no_name c.loop-name-test.true in
    c.loop-name.invariant w texts after has all (elim c.if-not-has.branch [
      | then-not-has s ↦ missing_prefix_lacks w texts c.args.names.now c.loop-name.name-index c.loop-name.first s.tell.new.first after c.loop-name-test.true
          (sym (c.has.ensures w.names texts here.text has) ∙ s.if-not-has.true)
          (s.tell.ensures w (Lacks (name_meaning w.names (name_at c.args.names.now c.loop-name.name-index))) here refl)
          (subst (λ f. Told w f (map Lacks (missing texts (names_meaning w.names (drop (c.loop-name.name-index + 1) c.args.names.now)))) after) s.first-is rest)
      | else-not-has s ↦ missing_prefix_has w texts c.args.names.now c.loop-name.name-index c.loop-name.first after c.loop-name-test.true
          (sym (c.has.ensures w.names texts here.text has) ∙ s.if-not-has.false)
          (subst (λ f. Told w f (map Lacks (missing texts (names_meaning w.names (drop (c.loop-name.name-index + 1) c.args.names.now)))) after) s.first-is rest)
    ])
