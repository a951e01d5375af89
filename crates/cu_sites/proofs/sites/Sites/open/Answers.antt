use Rattle.std.proofs.Common.{◌++◌, arith}
use Rattle.std.proofs.lemmas.List.{nil_from_length}
use Rattle.cu_sites.proofs.SpotLemmas.{reached_end, reached_more, reached_start}
use Rattle.cu_sites.proofs.sites.Sites.open.Goals as goal

pub loop-entry-init : goal.loop-entry-init
loop-entry-init c t names scope are is = reached_start t c.args.self.now names c.args.names.items c.args.around scope are is

pub loop-entry-preserved : goal.loop-entry-preserved
loop-entry-preserved c t names scope are is =
    reached_more t c.args.self.now c.loop-entry.self c.add.new.self (names ++ scope) c.loop-entry.names.items c.pop.new.self.items c.in-Some.entry c.loop-entry.scope c.in_ok-scope.scope c.in-Some.ensures.items
    (c.loop-entry.invariant t names scope are is) (λ s known at. c.in_ok-scope.ensures t s known at)

pub returns : goal.returns
returns c t names scope are is =
    reached_end t c.args.self.now c.loop-entry.self (names ++ scope) c.loop-entry.names.items c.loop-entry.scope
    (nil_from_length c.loop-entry.names.items (omega (arith, c.loop-entry.names.ok.0, c.in_default.ensures.cases.0))) (c.loop-entry.invariant t names scope are is)
