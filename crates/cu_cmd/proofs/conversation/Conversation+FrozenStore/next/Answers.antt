use Rattle.std.proofs.Common.{Global, ◌≡◌, ◌∙◌, ℕ, List, None, Some, ap, refl, sym, subst}
use Rattle.std.specs.declared.vec.Vec.{Vec}
use Rattle.cu_machine.specs.Graph.{Graph}
use Rattle.cu_words.specs.Requests.{Next}
use Rattle.cu_cmd.specs.Inside.Conversations.{Answers}
use Rattle.cu_cmd.proofs.SessionLemmas.{if_ok, listed_answers, no_question_answers, ready_question}
use Rattle.cu_cmd.proofs.conversation.Conversation+FrozenStore.next.Goals as goal

pub returns-in_default : goal.returns-in_default
returns-in_default g c =
    let none : c.args.self.now.question ≡ None = sym c.take.ensures.value ∙ c.in_default.is in
    if_ok c.say.result (λ turn says.
    subst (λ q. Answers (λ (graph : Graph). graph) Next turn c.args.self.now (record c.args.self.now { question = q }) c.args.reply.now.items c.say.new.reply.items)
    (none ∙ sym c.take.ensures.after)
    (no_question_answers (λ (graph : Graph). graph) turn c.args.self.now _ _ none says c.requires.ready))
    c.say.ensures

pub returns : goal.returns
returns g c =
    let q = c.in-Some.question in
    let is : c.args.self.now.question ≡ Some q = sym c.take.ensures.value ∙ c.in-Some.is in
    let goes = c.requires.takes_on.lists (record { question = q; reply = c.replace.result }) c.in_ok-listed.listed (ready_question (λ (graph : Graph). graph) c.args.self.now q is c.requires.ready)
    c.in_ok-listed.ensures in
    let same : c.replace.result.items ≡ c.args.reply.now.items = ap (λ (v : Vec ℕ Global). v.items) c.replace.ensures.value in
    if_ok c.say-2.result (λ turn says.
    subst (λ (b : List ℕ). Answers (λ (graph : Graph). graph) Next turn c.args.self.now (record c.args.self.now { question = c.put_question.new.place }) b c.say-2.new.reply.items)
    same
    (listed_answers (λ (graph : Graph). graph) turn c.args.self.now (record c.args.self.now { question = c.put_question.new.place })
    (record { question = q; reply = c.replace.result })
    c.in_ok-listed.listed _ is goes says c.requires.ready refl refl refl c.put_question.ensures))
    c.say-2.ensures
