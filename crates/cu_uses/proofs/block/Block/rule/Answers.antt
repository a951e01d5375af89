use Rattle.std.proofs.Common.{ap, refl, sym, ◌∙◌}
use Rattle.cu_uses.proofs.BlockLemmas.{gathers_again, gathers_first, next_function}
use Rattle.cu_uses.proofs.block.Block.rule.Goals.{then-goes_on, else-goes_on}
use Rattle.cu_uses.proofs.block.Block.rule.Goals as goal

pub returns-then-is_function : goal.returns-then-is_function
returns-then-is_function c owner names differ of =
    gathers_again owner names c.args.self.now (record { names = c.push.new.self; once = c.args.self.now.once; function = c.args.self.now.function; signed = c.args.self.now.signed })
    c.args.goes_on c.args.name differ of (sym c.is_function.ensures ∙ c.if-is_function.true) c.in_ok-push.ensures.items refl refl refl

pub returns : goal.returns
returns c owner names differ of =
    gathers_first owner names c.args.self.now (record { names = c.push.new.self; once = c.push-2.new.self; function = c.if-goes_on.self; signed = c.args.self.now.signed })
    c.args.goes_on c.args.name differ of (sym c.is_function.ensures ∙ c.if-is_function.false) c.in_ok-push.ensures.items refl c.in_ok-push-2.ensures.items
    (elim c.if-goes_on.branch [
      | then-goes_on s ↦ s.self-is ∙ ap (λ g. next_function g c.args.name.text) (sym s.if-goes_on.true)
      | else-goes_on s ↦ s.self-is ∙ ap (λ g. next_function g c.args.name.text) (sym s.if-goes_on.false)
    ])
