use Rattle.std.proofs.Common.{◌∙◌, sym}
use Rattle.cu_lift.proofs.Noting.{is_key, no_key}
use Rattle.cu_lift.proofs.captures.Local.binds.Goals as goal

pub returns : goal.returns
returns c = record {
  holds = λ h. is_key c.args.self.now.binds.keys c.args.x (sym c.contains.ensures ∙ h);
  fails = λ h. no_key c.args.self.now.binds.keys c.args.x (sym c.contains.ensures ∙ h);
}
