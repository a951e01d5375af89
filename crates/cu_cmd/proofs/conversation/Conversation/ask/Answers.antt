use Rattle.std.proofs.Common.{ℕ, IfOk, List, string_bytes, sym, subst}
use Rattle.cu_front.specs.AskAnswers.{AskTells}
use Rattle.cu_front.specs.Compiling.{RequestRefused}
use Rattle.cu_front.specs.Loaded.{AreLoaded}
use Rattle.cu_front.specs.RefusalLine.{refusal_line}
use Rattle.cu_front.specs.RefusalMeaning.{refusal_meaning}
use Rattle.cu_front.specs.declared.refusal.Refusal.{Refusal}
use Rattle.cu_cmd.specs.Inside.Conversations.{Says}
use Rattle.cu_cmd.proofs.SessionLemmas.{if_ok, asked_answers, no_module_answers, refused_answers}
use Rattle.cu_cmd.proofs.conversation.Conversation.ask.Goals as goal

pub returns-in_default : goal.returns-in_default
returns-in_default g c =
    if_ok c.say.result (λ turn says.
    no_module_answers g.S.Store.content turn c.args.self.now c.args.text.now _ _ c.in_default.is says c.requires)
    c.say.ensures

pub returns-in-Ok : goal.returns-in-Ok
returns-in-Ok g c =
    let m = c.in-Some.loaded in
    let goal = c.in-Ok.ensures.goal in
    if_ok c.open.result (λ turn opens.
    asked_answers g.S.Store.content turn c.args.self.now _ m c.args.text.now _ c.in-Ok.compiled goal.goal _ _ c.in-Some.is opens c.requires goal.is
    (λ folder held. c.in-Ok.ensures.program folder (string_bytes m.name)
    (subst (λ (n : List (List ℕ)). AreLoaded folder (string_bytes m.name) n m.modules) (sym c.in_ok-names.ensures) held)))
    c.open.ensures

pub returns-in-Err-Refused : goal.returns-in-Err-Refused
returns-in-Err-Refused g c =
    let m = c.in-Some.loaded in
    let said = subst (λ (r : Refusal). IfOk c.say_refusal.result (λ turn. Says turn (refusal_line (refusal_meaning c.ask.new.names r)) c.args.reply.now.items c.say_refusal.new.reply.items))
    c.in-Err-Refused.refusal-is c.say_refusal.ensures in
    if_ok c.say_refusal.result (λ turn says.
    refused_answers g.S.Store.content turn c.args.self.now m c.args.text.now (refusal_meaning c.ask.new.names c.in-Err-Refused.refusal) _ _
    c.in-Some.is says c.requires
    (λ folder held. subst (AskTells c.ask.new.names (RequestRefused folder (string_bytes m.name) c.args.text.now)) c.in-Err-Refused.field-0-is
    (c.in-Err-Refused.ensures.refused folder (string_bytes m.name)
    (subst (λ (n : List (List ℕ)). AreLoaded folder (string_bytes m.name) n m.modules) (sym c.in_ok-names.ensures) held))))
    said
