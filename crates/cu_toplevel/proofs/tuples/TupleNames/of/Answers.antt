use Rattle.std.proofs.Common.{arith, rules}
use Rattle.std.specs.HashMap.{get}
use Rattle.std.specs.Prelude.{nat_eq}
use Rattle.cu_toplevel.proofs.TupleLemmas.{all_found, none_yet, one_more}
use Rattle.cu_toplevel.proofs.tuples.TupleNames.of.Goals as goal

pub names-init : goal.names-init
names-init c = none_yet c.args.names.now (get nat_eq c.new.result) (λ k. search (rules, c.new.ensures.empty))

pub names-preserved : goal.names-preserved
names-preserved c = one_more c.args.names.now c.names.id c.text.result.now (get nat_eq c.names.tuples.by_commas) (get nat_eq c.add.new.self.by_commas) c.text.ensures.text (λ k. c.in_ok-add.ensures k) c.names.invariant

pub returns : goal.returns
returns c = record { each = all_found c.args.names.now c.names.id (get nat_eq c.names.tuples.by_commas) (omega (arith, c.names-test.false, c.count-id-end.ensures.count)) c.names.invariant }
