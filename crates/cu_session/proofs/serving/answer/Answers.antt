-- A line, its reply, and what follows it.
use Rattle.std.proofs.Common.{◌≡◌, ◌∙◌, ℕ, List, ◌∷◌, subst, sym}
use Rattle.cu_io.specs.Puts.{Puts}
use Rattle.cu_session.proofs.AnswerLemmas.{answered, answered_count, answered_lines, answered_source, answered_stands, none_err}
use Rattle.std.specs.declared.alloc.AllocError.{AllocError}
use Rattle.cu_session.proofs.serving.answer.Goals as goal

pub returns-in_err-turn-clause-told : goal.returns-in_err-turn-clause-told
returns-in_err-turn-clause-told g c = λ state first later is fits is_asked.
    none_err c.from_residual.result g.A.Asker.answers state (first ∷ later) later (g.A.Asker.state c.reply.new.self) (g.A.Asker.fault_count c.args.asker.now) (g.A.Asker.fault_count c.reply.new.self) (g.S.Sink.written c.args.sink.now) c.from_residual.ensures.0

pub returns-clause-told : goal.returns-clause-told
returns-clause-told g c = λ state first later is fits is_asked.
    answered AllocError g.A.Asker.answers state first later c.args.line.now c.new-reply.result.items c.reply.new.out.items c.put_reply-put.result c.in_ok-turn.turn c.ended.result
    (g.A.Asker.state c.reply.new.self) (g.A.Asker.fault_count c.args.asker.now) (g.A.Asker.fault_count c.reply.new.self) (g.S.Sink.written c.args.sink.now) (g.S.Sink.written c.put_reply-put.new.sink)
    c.ended.ensures fits is_asked c.new-reply.ensures.items (c.in_ok-turn.ensures.told state is) (subst (λ (reply : List ℕ). Puts c.put_reply-put.result reply (g.S.Sink.written c.args.sink.now) (g.S.Sink.written c.put_reply-put.new.sink)) c.as_slice.ensures.value c.put_reply-put.ensures.told)

pub returns-clause-lines : goal.returns-clause-lines
returns-clause-lines g c = λ long. answered_lines AllocError c.put_reply-put.result c.in_ok-turn.turn c.ended.result long c.ended.ensures

pub returns-clause-sink_count : goal.returns-clause-sink_count
returns-clause-sink_count g c = answered_count AllocError c.put_reply-put.result c.in_ok-turn.turn c.ended.result _ _ c.ended.ensures c.put_reply-put.ensures.count

pub returns-clause-source_count : goal.returns-clause-source_count
returns-clause-source_count g c = λ count. answered_source AllocError c.put_reply-put.result c.in_ok-turn.turn c.ended.result count c.ended.ensures

pub returns-clause-asker_stands : goal.returns-clause-asker_stands
returns-clause-asker_stands g c =
    answered_stands AllocError c.put_reply-put.result c.in_ok-turn.turn c.ended.result c.new-reply.result.items c.reply.new.out.items _ _ c.ended.ensures c.new-reply.ensures.items
    (λ none. c.put_reply-put.ensures.empty (c.as_slice.ensures.value ∙ none)) c.in_ok-turn.ensures.stands
