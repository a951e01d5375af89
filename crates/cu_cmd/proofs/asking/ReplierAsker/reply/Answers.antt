use Rattle.std.proofs.Common.{◌≤◌, ◌-◌, ◌^◌, arith}
use Rattle.cu_session.specs.declared.asker.Turn.TheVariants as turn
use Rattle.cu_words.specs.Requests.{Quit, Unknown}
use Rattle.cu_cmd.proofs.AskingLemmas.{answers_kept, answers_told, gives_told, loads_count, quit_answers, unknown_says}
use Rattle.cu_cmd.proofs.asking.ReplierAsker.reply.Goals as goal

pub returns-in-Load-clause-count : goal.returns-in-Load-clause-count
returns-in-Load-clause-count g c =
    let most : g.L.Library.fault_count c.args.self.now.library.now ≤ 2 ^ 64 - 1 = omega (arith, c.faults-before.ensures) in
    loads_count (λ graph. graph) c.load_module.result (g.L.Library.holdings c.args.self.now.library.now) _ c.args.self.now.conversation.now
    c.load_module.new.conversation _ _ (g.L.Library.fault_count c.args.self.now.library.now) _ c.load_module.ensures.loads c.load_module.ensures.count
    most

pub returns-in-Ask-clause-ready : goal.returns-in-Ask-clause-ready
returns-in-Ask-clause-ready g c =
    answers_kept (λ graph. graph) c.ask.result (g.L.Library.holdings c.args.self.now.library.now) _ c.args.self.now.conversation.now c.ask.new.self _ _
    c.requires.0 c.ask.ensures c.requires.2

pub returns-in-Limit-clause-ready : goal.returns-in-Limit-clause-ready
returns-in-Limit-clause-ready g c =
    answers_kept (λ graph. graph) c.limit.result (g.L.Library.holdings c.args.self.now.library.now) _ c.args.self.now.conversation.now c.limit.new.self _ _
    c.requires.0 c.limit.ensures c.requires.2

pub returns-in_ok-say-in-Quit-clause-told : goal.returns-in_ok-say-in-Quit-clause-told
returns-in_ok-say-in-Quit-clause-told g c = λ s has.
    gives_told (λ graph. graph) (g.L.Library.holdings c.args.self.now.library.now) Quit c.args.line.now turn.Quit c.args.self.now.conversation.now
    c.args.self.now.conversation.now c.args.out.now.items c.say.new.reply.items _ _ s c.in-Quit.ensures.read
    (quit_answers (λ graph. graph) c.args.self.now.conversation.now c.args.out.now.items c.say.new.reply.items c.in_ok-say-in-Quit.ensures.added c.requires.1)
    c.requires.2 has

pub returns-in-Unknown-clause-told : goal.returns-in-Unknown-clause-told
returns-in-Unknown-clause-told g c = λ s has.
    answers_told (λ graph. graph) c.say-in-Unknown.result (g.L.Library.holdings c.args.self.now.library.now) Unknown c.args.line.now
    c.args.self.now.conversation.now c.args.self.now.conversation.now c.args.out.now.items c.say-in-Unknown.new.reply.items _ _ c.in-Unknown.ensures.read
    (unknown_says (λ graph. graph) c.say-in-Unknown.result c.args.self.now.conversation.now c.args.out.now.items c.say-in-Unknown.new.reply.items
    c.say-in-Unknown.ensures c.requires.1) c.requires.2 s has
