use Rattle.std.proofs.Common.{ap, sym, ◌∙◌}
use Rattle.std.specs.Vec.{vec_len}
use Rattle.cu_kernel.specs.TypesOf.{type_of}
use Rattle.cu_flattext.specs.Inside.Circles.{is_known, some_left}
use Rattle.cu_flattext.specs.TypeTexts.{is_or_passes, some_synonym}
use Rattle.cu_flattext.proofs.CircleLemmas.{first_left, look_found, look_goes_on}
use Rattle.cu_flattext.proofs.ListLemmas.{nothing_left}
use Rattle.cu_flattext.proofs.circles.type_leads.Goals as goal

pub parts-init : goal.parts-init
parts-init c =
    first_left (is_or_passes c.args.goal (is_known c.args.known.now)) c.new-left.result.items c.push.new.self.items c.args.t c.new-left.ensures.items
    c.in_ok-push.ensures.items

pub returns-in_default : goal.returns-in_default
returns-in_default c =
    let test = is_or_passes c.args.goal (is_known c.args.known.now) in
    sym (ap (some_left test) (nothing_left c.parts.left.items c.pop.new.self.items (vec_len c.parts.left) c.in_default.ensures.cases.0 c.in_default.ensures.rest
    c.in_default.ensures.items))
    ∙ c.parts.invariant

pub returns-then-branch : goal.returns-then-branch
returns-then-branch c =
    let test = is_or_passes c.args.goal (is_known c.args.known.now) in
    look_found test c.parts.left.items c.pop.new.self.items c.look.new.left.items c.in-Some.part c.in_ok-look.field-0
    (some_synonym test (type_of c.args.t.now)) c.if-branch.true c.in-Some.ensures.items c.in_ok-look.ensures c.parts.invariant

pub parts-preserved : goal.parts-preserved
parts-preserved c =
    let test = is_or_passes c.args.goal (is_known c.args.known.now) in
    look_goes_on test c.parts.left.items c.pop.new.self.items c.look.new.left.items c.in-Some.part c.in_ok-look.field-0
    (some_synonym test (type_of c.args.t.now)) c.if-branch.false c.in-Some.ensures.items c.in_ok-look.ensures c.parts.invariant
