use Rattle.std.proofs.Common.{◌≡◌, suc, ◌+◌, ◌-◌, ◌∙◌, Ok, arith, length, map, rules, sym}
use Rattle.cu_kernel.specs.TermsOf.{term_of}
use Rattle.cu_prooftext.specs.Inside.Frames.{begin_term, take_term, term_after, resume}
use Rattle.cu_prooftext.specs.Inside.FramesOf.{part_of, progress_of, term_frame}
use Rattle.cu_prooftext.specs.Inside.Reading.{term_at}
use Rattle.cu_prooftext.proofs.FrameSteps.{closed_done, closed_fails, closed_open, is_done, is_open, none_around}
use Rattle.cu_prooftext.proofs.GivesLaws.{fails_on, goes_err}
use Rattle.cu_prooftext.proofs.TermFrames.{term_frames}
use Rattle.cu_prooftext.proofs.reading_terms.close_terms.Goals as goal

pub returns-in_err-progress : goal.returns-in_err-progress
returns-in_err-progress c =
    let k = c.loop-around in
    let within : c.saturating_sub-within.result ≡ c.args.levels - (length c.pop.new.self.items + 1) = search rules in
    goes_err term_at term_after c.args.levels (resume term_after (c.args.levels - 1) (map term_frame c.args.outer.now.items) (Ok (term_of c.args.read, c.args.bytes.now))) (map term_frame c.pop.new.self.items) (suc (length c.args.bytes.now)) (λ x. (part_of term_of x.0, x.1.now)) c.from_residual.result c.in_err-progress.field-0.0 c.from_residual.ensures.1
    (fails_on c.in_err-progress.field-0.0 (take_term c.saturating_sub-within.result (term_frame c.in-Some.around) (term_of k.term) k.rest.now) (resume term_after (c.args.levels - 1) (map term_frame c.args.outer.now.items) (Ok (term_of c.args.read, c.args.bytes.now)))
    (λ n e. sym (k.invariant.0) ∙ closed_fails term_at term_after begin_term take_term term_frame term_frames c.args.levels c.saturating_sub-within.result k.outer.items c.pop.new.self.items c.in-Some.around (term_of k.term) k.rest.now n within c.in-Some.ensures.items e)
    c.in_err-progress.ensures)

pub loop-around-preserved : goal.loop-around-preserved
loop-around-preserved c =
    let k = c.loop-around in
    let within : c.saturating_sub-within.result ≡ c.args.levels - (length c.pop.new.self.items + 1) = search rules in
    let less = term_frames.take_shorter c.saturating_sub-within.result (term_frame c.in-Some.around) (term_of k.term) k.rest.now (progress_of term_of term_frame c.in_ok-progress.progress) c.in_ok-progress.after.now c.in_ok-progress.ensures in
    let before = k.invariant.1 in (
      sym (closed_done term_at term_after begin_term take_term term_frame term_frames c.args.levels c.saturating_sub-within.result k.outer.items c.pop.new.self.items c.in-Some.around (term_of k.term) (term_of c.in-Done.whole) k.rest.now c.in_ok-progress.after.now within c.in-Some.ensures.items (is_done term_of term_frame c.in_ok-progress.progress c.in-Done.whole (take_term c.saturating_sub-within.result (term_frame c.in-Some.around) (term_of k.term) k.rest.now) c.in_ok-progress.after.now c.in-Done.is c.in_ok-progress.ensures))
          ∙ k.invariant.0,
      omega (arith, less, before),
    )

pub returns-in-Open : goal.returns-in-Open
returns-in-Open c =
    let k = c.loop-around in
    let within : c.saturating_sub-within.result ≡ c.args.levels - (length c.pop.new.self.items + 1) = search rules in
    let less = term_frames.take_shorter c.saturating_sub-within.result (term_frame c.in-Some.around) (term_of k.term) k.rest.now (progress_of term_of term_frame c.in_ok-progress.progress) c.in_ok-progress.after.now c.in_ok-progress.ensures in
    let before = k.invariant.1 in (
      sym (k.invariant.0)
          ∙ closed_open term_at term_after begin_term take_term term_frame term_frames c.args.levels c.saturating_sub-within.result k.outer.items c.pop.new.self.items c.push.new.self.items c.in-Some.around c.in-Open.inner (term_of k.term) k.rest.now c.in_ok-progress.after.now within c.in-Some.ensures.items c.in_ok-push-in-Open.ensures.items (is_open term_of term_frame c.in_ok-progress.progress c.in-Open.inner (take_term c.saturating_sub-within.result (term_frame c.in-Some.around) (term_of k.term) k.rest.now) c.in_ok-progress.after.now c.in-Open.is c.in_ok-progress.ensures),
      omega (arith, less, before),
    )

pub returns : goal.returns
returns c =
    let k = c.loop-around in
    let none : length k.outer.items ≡ 0 = omega (arith, c.in_default.ensures.cases.0, k.outer.ok.0) in
    sym (k.invariant.0) ∙ none_around term_after term_frame (c.args.levels - 1) k.outer.items (Ok (term_of k.term, k.rest.now)) none
