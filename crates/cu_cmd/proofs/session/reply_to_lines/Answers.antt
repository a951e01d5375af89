use Rattle.std.proofs.Common.{ℕ, rules, subst}
use Rattle.cu_session.specs.Ends.{AskerCount}
use Rattle.cu_cmd.proofs.ServeLemmas.{served_held}
use Rattle.cu_cmd.specs.Inside.Conversations.{asking_of}
use Rattle.cu_cmd.proofs.session.reply_to_lines.Goals as goal

pub returns-clause-replies : goal.returns-clause-replies
returns-clause-replies g c =
    served_held (g.L.Library.holdings c.args.library.now) (g.O.Source.remaining c.args.input.now)
    (λ folder. asking_of (λ graph. graph) folder c.args.conversation.now) c.serve.result _ _ _ _ _ (search rules) c.requires.begins
    c.serve.ensures.whole c.serve.ensures.prefix

pub returns-clause-counts : goal.returns-clause-counts
returns-clause-counts g c = record {
  asker = subst (λ (k : ℕ). AskerCount c.serve.result (g.L.Library.fault_count c.args.library.now) k) (search rules)
      c.serve.ensures.asker_stands;
  source = c.serve.ensures.source_count;
  sink = c.serve.ensures.sink_count;
}
