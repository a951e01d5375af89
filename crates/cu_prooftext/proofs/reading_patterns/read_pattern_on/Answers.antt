use Rattle.std.proofs.Common.{◌≡◌, suc, ◌-◌, Ok, arith, length, map, rules}
use Rattle.cu_kernel.specs.TermsOf.{pattern_of}
use Rattle.cu_prooftext.specs.Inside.Frames.{begin_pattern, take_pattern, pattern_after, resume}
use Rattle.cu_prooftext.specs.Inside.FramesOf.{part_of, progress_of, pattern_frame}
use Rattle.cu_prooftext.specs.Inside.Reading.{pattern_at}
use Rattle.cu_prooftext.proofs.FrameSteps.{begun_done, begun_fails, begun_open, is_done, is_open}
use Rattle.cu_prooftext.proofs.GivesLaws.{fails_on, goes_err, goes_weaker}
use Rattle.cu_prooftext.proofs.PatternFrames.{pattern_frames}
use Rattle.cu_prooftext.proofs.reading_patterns.read_pattern_on.Goals as goal

pub returns-in_err-progress : goal.returns-in_err-progress
returns-in_err-progress c =
    let left : c.saturating_sub-left.result ≡ c.args.levels - length c.args.outer.now.items = search rules in
    goes_err pattern_at pattern_after c.args.levels (resume pattern_after (c.args.levels - 1) (map pattern_frame c.args.outer.now.items) (pattern_at (c.args.levels - length c.args.outer.now.items) c.args.bytes.now)) (map pattern_frame c.args.outer.now.items) (length c.args.bytes.now) (λ x. (part_of pattern_of x.0, x.1.now)) c.from_residual.result c.in_err-progress.field-0.0 c.from_residual.ensures.1
    (fails_on c.in_err-progress.field-0.0 (begin_pattern c.saturating_sub-left.result c.args.bytes.now) (resume pattern_after (c.args.levels - 1) (map pattern_frame c.args.outer.now.items) (pattern_at (c.args.levels - length c.args.outer.now.items) c.args.bytes.now)) (λ n e. begun_fails pattern_at pattern_after begin_pattern (λ within. take_pattern) pattern_frame pattern_frames c.args.levels c.saturating_sub-left.result c.args.outer.now.items c.args.bytes.now n left e) c.in_err-progress.ensures)

pub returns-in-Done : goal.returns-in-Done
returns-in-Done c =
    let left : c.saturating_sub-left.result ≡ c.args.levels - length c.args.outer.now.items = search rules in
    let less = pattern_frames.begin_shorter c.saturating_sub-left.result c.args.bytes.now (progress_of pattern_of pattern_frame c.in_ok-progress.progress) c.in_ok-progress.rest.now c.in_ok-progress.ensures in
    goes_weaker pattern_at pattern_after c.args.levels (resume pattern_after (c.args.levels - 1) (map pattern_frame c.args.outer.now.items) (Ok (pattern_of c.in-Done.pattern, c.in_ok-progress.rest.now))) (resume pattern_after (c.args.levels - 1) (map pattern_frame c.args.outer.now.items) (pattern_at (c.args.levels - length c.args.outer.now.items) c.args.bytes.now)) (map pattern_frame c.close_patterns.new.outer.items)
    (suc (length c.in_ok-progress.rest.now)) (length c.args.bytes.now) (λ x. (part_of pattern_of x.0, x.1.now)) c.close_patterns.result
    (begun_done pattern_at pattern_after begin_pattern (λ within. take_pattern) pattern_frame pattern_frames c.args.levels c.saturating_sub-left.result c.args.outer.now.items (pattern_of c.in-Done.pattern) c.args.bytes.now c.in_ok-progress.rest.now left
    (is_done pattern_of pattern_frame c.in_ok-progress.progress c.in-Done.pattern (begin_pattern c.saturating_sub-left.result c.args.bytes.now) c.in_ok-progress.rest.now c.in-Done.is c.in_ok-progress.ensures))
    (omega (arith, less)) (c.close_patterns.ensures c.args.levels)

pub returns-in_ok-push-in-Open : goal.returns-in_ok-push-in-Open
returns-in_ok-push-in-Open c =
    let left : c.saturating_sub-left.result ≡ c.args.levels - length c.args.outer.now.items = search rules in
    let less = pattern_frames.begin_shorter c.saturating_sub-left.result c.args.bytes.now (progress_of pattern_of pattern_frame c.in_ok-progress.progress) c.in_ok-progress.rest.now c.in_ok-progress.ensures in (
      begun_open pattern_at pattern_after begin_pattern (λ within. take_pattern) pattern_frame pattern_frames c.args.levels c.saturating_sub-left.result c.args.outer.now.items c.push.new.self.items c.in-Open.inner c.args.bytes.now c.in_ok-progress.rest.now left c.in_ok-push-in-Open.ensures.items
          (is_open pattern_of pattern_frame c.in_ok-progress.progress c.in-Open.inner (begin_pattern c.saturating_sub-left.result c.args.bytes.now) c.in_ok-progress.rest.now c.in-Open.is c.in_ok-progress.ensures),
      less,
    )
