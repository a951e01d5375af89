use Rattle.std.proofs.Common.{◌∷◌, ◌∙◌, ap, sym}
use Rattle.cu_syntax.specs.Names.{name_meaning}
use Rattle.cu_translation.specs.Around.{referent}
use Rattle.cu_translation.specs.Faults.{is_set_call}
use Rattle.cu_faults.specs.Inside.Uses.{argument_name}
use Rattle.cu_faults.proofs.ToldLemmas.{told_as, told_none}
use Rattle.cu_faults.proofs.UseLemmas.{no_set_name, right_call, wrong_call}
use Rattle.cu_faults.proofs.uses.tell_use.Goals as goal

pub returns-in_default : goal.returns-in_default
returns-in_default g c w local rest tells sees of argument_of size =
    let name = name_meaning w.names c.args.used.name in
    told_as
    (sym (no_set_name c.referent.result (referent w.around local name) name (argument_name w local c.args.used.argument ∷ rest) c.in_default.not-SetFunction (c.referent.ensures w local tells sees of)))
    (told_none w.owner c.args.first.now)

pub returns-then-not-is_set_call : goal.returns-then-not-is_set_call
returns-then-not-is_set_call g c w local rest tells sees of argument_of size =
    let name = name_meaning w.names c.args.used.name in
    let n = c.in-SetFunction.count in
    let wrong = ap (λ r. is_set_call n (r ∷ rest)) (sym (c.in_ok-named.ensures w local tells sees argument_of)) ∙ sym (c.is_set_call.ensures rest size) ∙ c.if-not-is_set_call.true in
    told_as
    (sym (wrong_call c.referent.result (referent w.around local name) n name (argument_name w local c.args.used.argument ∷ rest) c.in-SetFunction.is (c.referent.ensures w local tells sees of) wrong))
    (c.tell.ensures w.owner of.place)

pub returns-else-not-is_set_call : goal.returns-else-not-is_set_call
returns-else-not-is_set_call g c w local rest tells sees of argument_of size =
    let name = name_meaning w.names c.args.used.name in
    let n = c.in-SetFunction.count in
    let right = ap (λ r. is_set_call n (r ∷ rest)) (sym (c.in_ok-named.ensures w local tells sees argument_of)) ∙ sym (c.is_set_call.ensures rest size) ∙ c.if-not-is_set_call.false in
    told_as
    (sym (right_call c.referent.result (referent w.around local name) n name (argument_name w local c.args.used.argument ∷ rest) c.in-SetFunction.is (c.referent.ensures w local tells sees of) right))
    (told_none w.owner c.args.first.now)
