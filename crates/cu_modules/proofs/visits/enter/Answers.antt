use Rattle.std.proofs.Common.{refl}
use Rattle.cu_modules.proofs.StandsLemmas.{entered}
use Rattle.cu_modules.proofs.visits.enter.Goals as goal

pub returns-clause-enters : goal.returns-clause-enters
returns-clause-enters g c =
    let told = c.in_ok-syntax.ensures in
    entered told.names c.args.progress.now (record { prelude = c.args.progress.now.prelude; path = c.push.new.self; done = c.args.progress.now.done; fetched = c.look_up.new.fetched }) c.args.name c.in_ok-syntax.syntax c.in_ok-imports.imports.items
    told.differ c.requires.stands c.requires.known c.requires.new refl c.in_ok-push.ensures.items refl told.fetched told.few told.owned told.own (λ has prelude. c.in_ok-imports.ensures c.look_up.new.names told.differ has prelude)
