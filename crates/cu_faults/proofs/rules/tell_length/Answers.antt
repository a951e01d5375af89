use Rattle.std.proofs.Common.{refl, sym}
use Rattle.cu_faults.proofs.RuleLemmas.{not_too_long, place_owned, too_long_at}
use Rattle.cu_faults.proofs.ToldLemmas.{told_as, told_none}
use Rattle.cu_faults.proofs.rules.tell_length.Goals as goal

pub returns-in-Some : goal.returns-in-Some
returns-in-Some c owner names of =
    let g = c.args.group.now in
    let rules = c.deref.result.now in
    let r = c.in-Some.rule.now in
    let found = c.in-Some.ensures.lookup in
    told_as (sym (too_long_at names g rules 4095 r refl c.deref.ensures.value found.3.0 found.1))
    (c.tell.ensures owner (place_owned owner names g rules 4095 r of c.deref.ensures.value found.3.0 found.1))

pub returns-in_default : goal.returns-in_default
returns-in_default c owner names of =
    told_as (sym (not_too_long names c.args.group.now c.deref.result.now 4095 refl c.deref.ensures.value c.in_default.ensures.lookup.3)) (told_none owner c.args.first.now)
