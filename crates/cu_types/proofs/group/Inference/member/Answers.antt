use Rattle.std.proofs.Common.{None, length, refl, sym, ap, ◌∙◌}
use Rattle.std.proofs.lemmas.Option.{slice_get_past, slice_get_read}
use Rattle.cu_types.proofs.GroupSteps.{found_mark, member_made, no_mark}
use Rattle.cu_types.specs.Equations.{captured_by, declared_by}
use Rattle.cu_types.proofs.group.Inference.member.Goals as goal

pub returns-in_ok-declared-in-Some : goal.returns-in_ok-declared-in-Some
returns-in_ok-declared-in-Some c =
    let found = c.in-Some.ensures.lookup in
    let ms = c.marks.result.now in
    let p = c.args.self.now.program.now in
    let is = found_mark ms p.marks c.args.f.0 c.in-Some.mark.now c.marks.ensures.marks
    (slice_get_read ms (length ms) c.args.f.0 c.in-Some.mark.now refl found.3.0 found.1) in
    member_made p c.args.first c.args.f c.arity_of-arity.result c.in-Some.mark.now.captured c.in_ok-declared-in-Some.declared
    c.arity_of-arity.ensures (sym (ap captured_by is)) (c.in_ok-declared-in-Some.ensures ∙ sym (ap (declared_by p) is))

pub returns-in-None : goal.returns-in-None
returns-in-None c =
    let ms = c.marks.result.now in
    let p = c.args.self.now.program.now in
    let is = no_mark ms p.marks c.args.f.0 c.marks.ensures.marks (slice_get_past ms c.args.f.0 c.in-None.ensures.lookup.3) in
    member_made p c.args.first c.args.f c.arity_of-arity.result 0 None c.arity_of-arity.ensures (sym (ap captured_by is))
    (sym (ap (declared_by p) is))
