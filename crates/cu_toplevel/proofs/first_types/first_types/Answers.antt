use Rattle.cu_toplevel.proofs.FirstTypeLemmas.{first_are}
use Rattle.cu_toplevel.proofs.first_types.first_types.Goals as goal

pub returns : goal.returns
returns c = λ names r has.
    first_are r c.in_ok-lists.lists c.in_ok-types.types.items c.add_tuples.new.types.items c.push.new.self.items c.push-2.new.self.items c.literal_type.result c.literal_type-2.result
    c.in_ok-types.ensures.items (c.in_ok-lists.ensures names r has) (c.in_ok-add_tuples.ensures names r has) c.in_ok-push.ensures.items (c.literal_type.ensures names r has)
    c.in_ok-push-2.ensures.items (c.literal_type-2.ensures names r has)
