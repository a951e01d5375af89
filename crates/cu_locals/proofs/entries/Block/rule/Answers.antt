use Rattle.std.proofs.Common.{Some, ap, sym, ◌∙◌}
use Rattle.cu_locals.specs.BegunFound.{begun_for}
use Rattle.cu_locals.specs.declared.entries.Block.{Block}
use Rattle.cu_locals.proofs.EntryLemmas.{brings_nothing, brings_rule}
use Rattle.cu_locals.proofs.entries.Block.rule.Goals.{then-not-goes_on+in_ok-push, else-not-goes_on}
use Rattle.cu_locals.proofs.entries.Block.rule.Goals as goal

pub returns : goal.returns
returns c t known of =
    let after : Block = record { entries = c.if-not-goes_on.self.entries; begun = Some c.begun_by.result } in
    elim c.if-not-goes_on.branch [
      | then-not-goes_on+in_ok-push w ↦
          brings_rule t c.args.self.now after c.args.place c.args.name c.args.parameters.now w.rule_entry.result known.begun of (sym c.goes_on.ensures ∙ w.if-not-goes_on.true) (w.rule_entry.ensures t of)
          (ap (λ (b : Block). b.entries.items) w.self-is ∙ w.in_ok-push.ensures.items) (ap Some (c.begun_by.ensures ∙ ap (λ (b : Block). begun_for b.begun c.args.name c.args.place) w.self-is))
      | else-not-goes_on w ↦
          brings_nothing t c.args.self.now after c.args.place c.args.name c.args.parameters.now known.begun of (sym c.goes_on.ensures ∙ w.if-not-goes_on.false)
          (ap (λ (b : Block). b.entries.items) w.self-is) (ap Some (c.begun_by.ensures ∙ ap (λ (b : Block). begun_for b.begun c.args.name c.args.place) w.self-is))
    ]
