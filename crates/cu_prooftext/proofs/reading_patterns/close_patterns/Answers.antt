use Rattle.std.proofs.Common.{◌≡◌, suc, ◌+◌, ◌-◌, ◌∙◌, Ok, arith, length, map, refl, sym}
use Rattle.cu_kernel.specs.TermsOf.{pattern_of}
use Rattle.cu_prooftext.specs.Inside.Frames.{begin_pattern, take_pattern, pattern_after, resume}
use Rattle.cu_prooftext.specs.Inside.FramesOf.{part_of, progress_of, pattern_frame}
use Rattle.cu_prooftext.specs.Inside.Reading.{pattern_at}
use Rattle.cu_prooftext.proofs.FrameSteps.{closed_done, closed_fails, closed_open, is_done, is_open, none_around}
use Rattle.cu_prooftext.proofs.GivesLaws.{fails_on, goes_err}
use Rattle.cu_prooftext.proofs.PatternFrames.{pattern_frames}
use Rattle.cu_prooftext.proofs.reading_patterns.close_patterns.Goals as goal

pub returns-in_err-progress : goal.returns-in_err-progress
returns-in_err-progress c =
    let k = c.loop-around in
    λ levels.
    goes_err pattern_at pattern_after levels (resume pattern_after (levels - 1) (map pattern_frame c.args.outer.now.items) (Ok (pattern_of c.args.read, c.args.bytes.now))) (map pattern_frame c.pop.new.self.items) (suc (length c.args.bytes.now)) (λ x. (part_of pattern_of x.0, x.1.now)) c.from_residual.result c.in_err-progress.field-0.0 c.from_residual.ensures.1
    (fails_on c.in_err-progress.field-0.0 (take_pattern (pattern_frame c.in-Some.around) (pattern_of k.pattern) k.rest.now) (resume pattern_after (levels - 1) (map pattern_frame c.args.outer.now.items) (Ok (pattern_of c.args.read, c.args.bytes.now)))
    (λ n e. sym (k.invariant.0 levels) ∙ closed_fails pattern_at pattern_after begin_pattern (λ within. take_pattern) pattern_frame pattern_frames levels (levels - (length c.pop.new.self.items + 1)) k.outer.items c.pop.new.self.items c.in-Some.around (pattern_of k.pattern) k.rest.now n refl c.in-Some.ensures.items e)
    c.in_err-progress.ensures)

pub loop-around-preserved : goal.loop-around-preserved
loop-around-preserved c =
    let k = c.loop-around in
    let less = pattern_frames.take_shorter 0 (pattern_frame c.in-Some.around) (pattern_of k.pattern) k.rest.now (progress_of pattern_of pattern_frame c.in_ok-progress.progress) c.in_ok-progress.after.now c.in_ok-progress.ensures in
    let before = k.invariant.1 in (
      λ levels.
          sym (closed_done pattern_at pattern_after begin_pattern (λ within. take_pattern) pattern_frame pattern_frames levels (levels - (length c.pop.new.self.items + 1)) k.outer.items c.pop.new.self.items c.in-Some.around (pattern_of k.pattern) (pattern_of c.in-Done.whole) k.rest.now c.in_ok-progress.after.now refl c.in-Some.ensures.items (is_done pattern_of pattern_frame c.in_ok-progress.progress c.in-Done.whole (take_pattern (pattern_frame c.in-Some.around) (pattern_of k.pattern) k.rest.now) c.in_ok-progress.after.now c.in-Done.is c.in_ok-progress.ensures))
          ∙ k.invariant.0 levels,
      omega (arith, less, before),
    )

pub returns-in-Open : goal.returns-in-Open
returns-in-Open c =
    let k = c.loop-around in
    let less = pattern_frames.take_shorter 0 (pattern_frame c.in-Some.around) (pattern_of k.pattern) k.rest.now (progress_of pattern_of pattern_frame c.in_ok-progress.progress) c.in_ok-progress.after.now c.in_ok-progress.ensures in
    let before = k.invariant.1 in
    λ levels. (
      sym (k.invariant.0 levels)
          ∙ closed_open pattern_at pattern_after begin_pattern (λ within. take_pattern) pattern_frame pattern_frames levels (levels - (length c.pop.new.self.items + 1)) k.outer.items c.pop.new.self.items c.push.new.self.items c.in-Some.around c.in-Open.inner (pattern_of k.pattern) k.rest.now c.in_ok-progress.after.now refl c.in-Some.ensures.items c.in_ok-push-in-Open.ensures.items (is_open pattern_of pattern_frame c.in_ok-progress.progress c.in-Open.inner (take_pattern (pattern_frame c.in-Some.around) (pattern_of k.pattern) k.rest.now) c.in_ok-progress.after.now c.in-Open.is c.in_ok-progress.ensures),
      omega (arith, less, before),
    )

pub returns : goal.returns
returns c =
    let k = c.loop-around in
    let none : length k.outer.items ≡ 0 = omega (arith, c.in_default.ensures.cases.0, k.outer.ok.0) in
    λ levels. sym (k.invariant.0 levels) ∙ none_around pattern_after pattern_frame (levels - 1) k.outer.items (Ok (pattern_of k.pattern, k.rest.now)) none
