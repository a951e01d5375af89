use Rattle.cu_types.proofs.GroupSteps.{declared_made, none_declared}
use Rattle.cu_types.specs.Table.{at, shape_of, trees}
use Rattle.std.proofs.Common.{map}
use Rattle.cu_types.proofs.group.Inference.declared_by.Goals as goal

pub returns-in_ok-own-in-Some : goal.returns-in_ok-own-in-Some
returns-in_ok-own-in-Some c =
    declared_made c.args.self.now.program.now c.args.self.now.synonyms.now c.args.declared.now c.in-Some.term
    c.in_ok-shared-in-Some.shared (at (trees (map shape_of c.open-opened.result.types.now)) c.open-opened.result.place) c.in_ok-own-in-Some.own
    c.in-Some.is c.requires.synonyms c.in_ok-shared-in-Some.ensures c.open-opened.ensures.value c.in_ok-own-in-Some.ensures

pub returns-in-None : goal.returns-in-None
returns-in-None c = none_declared c.args.self.now.program.now c.args.declared.now c.in-None.is
