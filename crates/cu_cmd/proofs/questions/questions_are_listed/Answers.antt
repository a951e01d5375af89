use Rattle.cu_cmd.proofs.QuestionLemmas.{lists_question}
use Rattle.cu_cmd.proofs.questions.questions_are_listed.Goals as goal

pub returns : goal.returns
returns c =
    lists_question (record {
      follow = c.rounds_follow.ensures.bytes;
      within = c.rounds_follow.ensures.within;
      last = c.a_round_may_be_last.ensures.bytes;
    })
