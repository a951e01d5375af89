use Rattle.std.proofs.Common.{refl}
use Rattle.cu_cmd.proofs.SessionLemmas.{if_ok}
use Rattle.cu_cmd.proofs.conversation.Conversation.open.Goals as goal

pub returns : goal.returns
returns g c =
    if_ok c.say.result (λ turn says. record {
      says = says;
      loaded = refl;
      limits = refl;
      workers = refl;
      question = record {
        names = c.args.names;
        compiled = c.args.compiled;
        paused = c.in_ok-paused.paused;
        workers = c.args.self.now.workers;
      };
      asks = c.put_question.ensures;
      is_open = record {
        workers = c.requires.ready.workers;
        goal = c.requires.goal;
        going = c.in_ok-paused.ensures.going;
      };
      place = c.in_ok-paused.ensures.begun;
    })
    c.say.ensures
