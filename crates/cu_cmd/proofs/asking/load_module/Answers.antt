use Rattle.std.proofs.Common.{IfOk, subst}
use Rattle.cu_front.specs.RefusalLine.{refusal_line}
use Rattle.cu_front.specs.RefusalMeaning.{refusal_meaning}
use Rattle.cu_front.specs.declared.refusal.Refusal.{Refusal}
use Rattle.cu_cmd.specs.Inside.Conversations.{Says}
use Rattle.cu_cmd.proofs.AskingLemmas.{loaded_says, refused_so}
use Rattle.cu_cmd.proofs.asking.load_module.Goals as goal

pub returns-in-Ok-clause-loads : goal.returns-in-Ok-clause-loads
returns-in-Ok-clause-loads g c =
    loaded_says g.S.Store.content c.say.result c.args.conversation.now c.take_up.new.conversation _ c.args.name.now _ _
    (g.L.Library.holdings c.args.library.now) _ _ c.say.ensures c.take_up.ensures.loaded c.take_up.ensures.limits c.take_up.ensures.question
    c.take_up.ensures.workers c.in_ok-name-in-Ok.ensures.ok c.requires c.in-Ok.ensures.kept c.in-Ok.ensures.loaded c.in-Ok.ensures.count

pub returns-in-Err-Refused-clause-loads : goal.returns-in-Err-Refused-clause-loads
returns-in-Err-Refused-clause-loads g c =
    let said = subst (λ (r : Refusal). IfOk c.say_refusal.result (λ turn. Says turn (refusal_line (refusal_meaning c.load.new.names r))
    c.args.reply.now.items c.say_refusal.new.reply.items)) c.in-Err-Refused.refusal-is c.say_refusal.ensures in
    refused_so g.S.Store.content c.say_refusal.result c.args.conversation.now c.load.new.names c.in-Err-Refused.field-0 c.in-Err-Refused.refusal c.args.name.now _ _
    (g.L.Library.holdings c.args.library.now) _ _ c.in-Err-Refused.field-0-is said c.requires c.in-Err-Refused.ensures.refused
    c.in-Err-Refused.ensures.count
