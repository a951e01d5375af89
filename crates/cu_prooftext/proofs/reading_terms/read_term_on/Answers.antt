use Rattle.std.proofs.Common.{◌≡◌, suc, ◌-◌, Ok, arith, length, map, rules}
use Rattle.cu_kernel.specs.TermsOf.{term_of}
use Rattle.cu_prooftext.specs.Inside.Frames.{begin_term, take_term, term_after, resume}
use Rattle.cu_prooftext.specs.Inside.FramesOf.{part_of, progress_of, term_frame}
use Rattle.cu_prooftext.specs.Inside.Reading.{term_at}
use Rattle.cu_prooftext.proofs.FrameSteps.{begun_done, begun_fails, begun_open, is_done, is_open}
use Rattle.cu_prooftext.proofs.GivesLaws.{fails_on, goes_err, goes_weaker}
use Rattle.cu_prooftext.proofs.TermFrames.{term_frames}
use Rattle.cu_prooftext.proofs.reading_terms.read_term_on.Goals as goal

pub returns-in_err-progress : goal.returns-in_err-progress
returns-in_err-progress c =
    let left : c.saturating_sub-left.result ≡ c.args.levels - length c.args.outer.now.items = search rules in
    goes_err term_at term_after c.args.levels (resume term_after (c.args.levels - 1) (map term_frame c.args.outer.now.items) (term_at (c.args.levels - length c.args.outer.now.items) c.args.bytes.now)) (map term_frame c.args.outer.now.items) (length c.args.bytes.now) (λ x. (part_of term_of x.0, x.1.now)) c.from_residual.result c.in_err-progress.field-0.0 c.from_residual.ensures.1
    (fails_on c.in_err-progress.field-0.0 (begin_term c.saturating_sub-left.result c.args.bytes.now) (resume term_after (c.args.levels - 1) (map term_frame c.args.outer.now.items) (term_at (c.args.levels - length c.args.outer.now.items) c.args.bytes.now)) (λ n e. begun_fails term_at term_after begin_term take_term term_frame term_frames c.args.levels c.saturating_sub-left.result c.args.outer.now.items c.args.bytes.now n left e) c.in_err-progress.ensures)

pub returns-in-Done : goal.returns-in-Done
returns-in-Done c =
    let left : c.saturating_sub-left.result ≡ c.args.levels - length c.args.outer.now.items = search rules in
    let less = term_frames.begin_shorter c.saturating_sub-left.result c.args.bytes.now (progress_of term_of term_frame c.in_ok-progress.progress) c.in_ok-progress.rest.now c.in_ok-progress.ensures in
    goes_weaker term_at term_after c.args.levels (resume term_after (c.args.levels - 1) (map term_frame c.args.outer.now.items) (Ok (term_of c.in-Done.term, c.in_ok-progress.rest.now))) (resume term_after (c.args.levels - 1) (map term_frame c.args.outer.now.items) (term_at (c.args.levels - length c.args.outer.now.items) c.args.bytes.now)) (map term_frame c.close_terms.new.outer.items)
    (suc (length c.in_ok-progress.rest.now)) (length c.args.bytes.now) (λ x. (part_of term_of x.0, x.1.now)) c.close_terms.result
    (begun_done term_at term_after begin_term take_term term_frame term_frames c.args.levels c.saturating_sub-left.result c.args.outer.now.items (term_of c.in-Done.term) c.args.bytes.now c.in_ok-progress.rest.now left
    (is_done term_of term_frame c.in_ok-progress.progress c.in-Done.term (begin_term c.saturating_sub-left.result c.args.bytes.now) c.in_ok-progress.rest.now c.in-Done.is c.in_ok-progress.ensures))
    (omega (arith, less)) c.close_terms.ensures

pub returns-in_ok-push-in-Open : goal.returns-in_ok-push-in-Open
returns-in_ok-push-in-Open c =
    let left : c.saturating_sub-left.result ≡ c.args.levels - length c.args.outer.now.items = search rules in
    let less = term_frames.begin_shorter c.saturating_sub-left.result c.args.bytes.now (progress_of term_of term_frame c.in_ok-progress.progress) c.in_ok-progress.rest.now c.in_ok-progress.ensures in (
      begun_open term_at term_after begin_term take_term term_frame term_frames c.args.levels c.saturating_sub-left.result c.args.outer.now.items c.push.new.self.items c.in-Open.inner c.args.bytes.now c.in_ok-progress.rest.now left c.in_ok-push-in-Open.ensures.items
          (is_open term_of term_frame c.in_ok-progress.progress c.in-Open.inner (begin_term c.saturating_sub-left.result c.args.bytes.now) c.in_ok-progress.rest.now c.in-Open.is c.in_ok-progress.ensures),
      less,
    )
