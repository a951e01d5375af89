use Rattle.std.proofs.Common.{◌∙◌, sym}
use Rattle.cu_lex.specs.Inside.Scanning.{has, left}
use Rattle.cu_lex.proofs.ScanLemmas.{skip-none}
use Rattle.cu_lex.proofs.class.Class.skip.Goals as goal

pub returns : goal.returns
returns c = sym (skip-none (has c.args.self) (left c.loop-self.rest) (sym c.begins.ensures ∙ c.loop-self-test.false)) ∙ c.loop-self.invariant
