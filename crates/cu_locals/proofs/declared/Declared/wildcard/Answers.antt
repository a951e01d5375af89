use Rattle.std.proofs.Common.{refl}
use Rattle.cu_locals.proofs.PatternLemmas.{finds_wildcard}
use Rattle.cu_locals.proofs.declared.Declared.wildcard.Goals as goal

pub returns : goal.returns
returns c t =
    finds_wildcard t c.args.self.now (record { names = c.args.self.now.names; places = c.push.new.self }) c.args.place c.of.result refl c.in_ok-push.ensures.items c.of.ensures
