use Rattle.cu_lift.proofs.GroupLaws.{one_list}
use Rattle.cu_lift.proofs.group_laws.groups_are_unique.Goals as goal

pub returns : goal.returns
returns c program first second one two = one_list program first second one two
