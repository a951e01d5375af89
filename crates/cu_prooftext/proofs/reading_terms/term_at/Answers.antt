use Rattle.std.proofs.Common.{◌∙◌, ◌-◌, length, map, subst, sym}
use Rattle.cu_kernel.specs.TermsOf.{term_of}
use Rattle.cu_prooftext.specs.Inside.Frames.{term_after, resume}
use Rattle.cu_prooftext.specs.Inside.FramesOf.{term_frame}
use Rattle.cu_prooftext.specs.Inside.Gives.{Fails}
use Rattle.cu_prooftext.specs.Inside.Reading.{term_at}
use Rattle.cu_prooftext.proofs.FrameSteps.{goes_from, starts}
use Rattle.cu_prooftext.proofs.GivesLaws.{continues_none, continues_some, gives_err}
use Rattle.cu_prooftext.proofs.reading_terms.term_at.Goals as goal

pub loop-outer-init : goal.loop-outer-init
loop-outer-init c = starts term_at term_after term_frame c.args.levels c.new-outer.result.items c.args.bytes.now c.new-outer.ensures.items

pub returns-in_err-read : goal.returns-in_err-read
returns-in_err-read c =
    let k = c.loop-outer in
    gives_err (λ x. (term_of x.0, x.1.now)) c.from_residual.result c.in_err-read.field-0.0 (term_at c.args.levels c.args.bytes.now) c.from_residual.ensures.1
    (subst (Fails c.in_err-read.field-0.0) k.invariant c.in_err-read.ensures)

pub returns-in-Some : goal.returns-in-Some
returns-in-Some c =
    let k = c.loop-outer in
    sym k.invariant ∙ continues_some term_at term_after term_of c.args.levels (resume term_after (c.args.levels - 1) (map term_frame k.outer.items) (term_at (c.args.levels - length k.outer.items) k.rest.now)) (map term_frame c.read_term_on.new.outer.items) (length k.rest.now) c.in_ok-read.read c.in-Some.term c.in_ok-read.after.now c.in-Some.is c.in_ok-read.ensures

pub loop-outer-smaller : goal.loop-outer-smaller
loop-outer-smaller c =
    let k = c.loop-outer in
    (continues_none term_at term_after term_of c.args.levels (resume term_after (c.args.levels - 1) (map term_frame k.outer.items) (term_at (c.args.levels - length k.outer.items) k.rest.now)) (map term_frame c.read_term_on.new.outer.items) (length k.rest.now) c.in_ok-read.read c.in_ok-read.after.now c.in-None.is c.in_ok-read.ensures).1

pub loop-outer-preserved : goal.loop-outer-preserved
loop-outer-preserved c =
    let k = c.loop-outer in
    sym (goes_from term_at term_after term_frame c.args.levels c.read_term_on.new.outer.items c.in_ok-read.after.now)
    ∙ sym (continues_none term_at term_after term_of c.args.levels (resume term_after (c.args.levels - 1) (map term_frame k.outer.items) (term_at (c.args.levels - length k.outer.items) k.rest.now)) (map term_frame c.read_term_on.new.outer.items) (length k.rest.now) c.in_ok-read.read c.in_ok-read.after.now c.in-None.is c.in_ok-read.ensures).0 ∙ k.invariant
