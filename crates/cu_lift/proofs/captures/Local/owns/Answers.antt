use Rattle.std.proofs.Common.{◌≡◌, ◌∙◌, sym, true, false}
use Rattle.cu_lift.proofs.Noting.{is_key, no_key}
use Rattle.cu_lift.proofs.captures.Local.owns.Goals as goal

true_false : true ≡ false → ⊥
true_false h = cc

pub returns-then-binds : goal.returns-then-binds
returns-then-binds c = record {
  holds = λ h. absurd (true_false (sym h));
  fails = λ h owns. owns.1 (c.binds.ensures.holds c.if-binds.true);
}

pub returns-clause-holds : goal.returns-clause-holds
returns-clause-holds c h =
    (is_key c.args.self.now.uses.keys c.args.x (sym c.contains.ensures ∙ h), c.binds.ensures.fails c.if-binds.false)

pub returns-clause-fails : goal.returns-clause-fails
returns-clause-fails c h owns = no_key c.args.self.now.uses.keys c.args.x (sym c.contains.ensures ∙ h) owns.0
