use Rattle.std.proofs.Common.{[], arith, drop, refl, subst}
use Rattle.std.proofs.lemmas.List.Elements.{All-head}
use Rattle.std.specs.List.{All}
use Rattle.cu_syntax.specs.Owners.{ExpressionIsOf}
use Rattle.cu_uses.proofs.FoundLemmas.{on_ok}
use Rattle.cu_faults.proofs.ToldLemmas.{told_as}
use Rattle.cu_faults.proofs.UseLemmas.{headed, names_alone, names_counted, nothing_in, used_alone, used_on}
use Rattle.cu_faults.proofs.uses.use_at.Goals as goal

pub returns-in-empty : goal.returns-in-empty
returns-in-empty g c w local tells sees of all =
    let arguments = c.args.applied.arguments.now in
    on_ok c.tell_use.result (told_as (used_alone w local c.args.applied.name arguments (nothing_in arguments c.in-empty.len_below)))
    (c.tell_use.ensures w local [] tells sees of tt refl)

pub returns-in-len1-up : goal.returns-in-len1-up
returns-in-len1-up g c w local tells sees of all =
    let arguments = c.args.applied.arguments.now in
    let e = c.argument-item.result in
    let others = drop 1 arguments in
    let is = headed arguments e c.argument-item.is c.in-len1-up.len_at_least in
    let owned = All-head (ExpressionIsOf w.owner w.names) e others (subst (All (ExpressionIsOf w.owner w.names)) is all) in
    let size = names_counted w local arguments in
    on_ok c.tell_use-in-len1-up.result (told_as (used_on w local c.args.applied.name arguments others e is))
    (c.tell_use-in-len1-up.ensures w local (names_alone w local others) tells sees of owned (omega (arith, size, c.in-len1-up.len_at_least)))
