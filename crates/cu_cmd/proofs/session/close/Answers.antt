use Rattle.std.proofs.Common.{Err, refl}
use Rattle.cu_cmd.specs.declared.fault.RunFault.TheVariants.{Write}
use Rattle.cu_cmd.proofs.ServeLemmas.{at_end, at_failed_load, at_fault, at_long_fault, at_long_line, at_quit, at_read_fault, end_cause, left_cause, load_cause, long_cause, long_fault_cause, memory_cause, read_cause, write_cause}
use Rattle.cu_cmd.proofs.session.close.Goals as goal

pub returns-in_err-end-clause-ends : goal.returns-in_err-end-clause-ends
returns-in_err-end-clause-ends g c = λ folder text earlier later before w rose.
    at_fault c.args.served folder text earlier later before _ w c.from_residual.result c.from_residual.ensures.0

pub returns-in_err-end-clause-cause : goal.returns-in_err-end-clause-cause
returns-in_err-end-clause-cause g c = λ old new h out rose.
    memory_cause c.args.served old new _ h out _ c.from_residual.result c.in_err-end.was c.from_residual.ensures.1

pub returns-in-EndOfInput-clause-ends : goal.returns-in-EndOfInput-clause-ends
returns-in-EndOfInput-clause-ends g c = λ folder text earlier later before w rose.
    at_end c.args.served folder text earlier later before _ w c.in_ok-end.end c.in_ok-end.was c.in-EndOfInput.is

pub returns-in-EndOfInput-clause-cause : goal.returns-in-EndOfInput-clause-cause
returns-in-EndOfInput-clause-cause g c = λ old new h out rose.
    end_cause c.args.served old new _ h out c.in_ok-end.end c.in_ok-end.was c.in-EndOfInput.is

pub returns-then-failed-clause-ends : goal.returns-then-failed-clause-ends
returns-then-failed-clause-ends g c = λ folder text earlier later before w rose.
    at_failed_load c.args.served folder text earlier later before _ w c.in_ok-end.end c.in_ok-end.was c.in-Quit.is

pub returns-then-failed-clause-cause : goal.returns-then-failed-clause-cause
returns-then-failed-clause-cause g c = λ old new h out rose.
    load_cause c.args.served old new _ h out c.in_ok-end.end c.args.failed c.in_ok-end.was c.in-Quit.is c.if-failed.true rose

pub returns-else-failed-clause-ends : goal.returns-else-failed-clause-ends
returns-else-failed-clause-ends g c = λ folder text earlier later before w rose.
    at_quit c.args.served folder text earlier later before _ w c.in_ok-end.end c.args.failed c.in_ok-end.was c.in-Quit.is c.if-failed.false rose

pub returns-else-failed-clause-cause : goal.returns-else-failed-clause-cause
returns-else-failed-clause-cause g c = λ old new h out rose.
    left_cause c.args.served old new _ h out c.in_ok-end.end c.args.failed c.in_ok-end.was c.in-Quit.is c.if-failed.false rose

pub returns-in-ReadFault-clause-ends : goal.returns-in-ReadFault-clause-ends
returns-in-ReadFault-clause-ends g c = λ folder text earlier later before w rose.
    at_read_fault c.args.served folder text earlier later before _ w c.in_ok-end.end c.in_ok-end.was c.in-ReadFault.is

pub returns-in-ReadFault-clause-cause : goal.returns-in-ReadFault-clause-cause
returns-in-ReadFault-clause-cause g c = λ old new h out rose.
    read_cause c.args.served old new _ h out c.in_ok-end.end c.in_ok-end.was c.in-ReadFault.is

pub returns-in-WriteFault-clause-ends : goal.returns-in-WriteFault-clause-ends
returns-in-WriteFault-clause-ends g c = λ folder text earlier later before w rose.
    at_fault c.args.served folder text earlier later before _ w (Err Write) refl

pub returns-in-WriteFault-clause-cause : goal.returns-in-WriteFault-clause-cause
returns-in-WriteFault-clause-cause g c = λ old new h out rose.
    write_cause c.args.served old new _ h out c.in_ok-end.end c.in_ok-end.was c.in-WriteFault.is

pub returns-in_err-write_piece-in-LineTooLong-clause-ends :
    goal.returns-in_err-write_piece-in-LineTooLong-clause-ends
returns-in_err-write_piece-in-LineTooLong-clause-ends g c = λ folder text earlier later before w rose.
    at_long_fault c.args.served folder text earlier later before _ w c.in_ok-end.end _ c.from_residual-in_err-write_piece-in-LineTooLong.result
    c.from_residual-in_err-write_piece-in-LineTooLong.ensures.0 c.in_ok-end.was c.in-LineTooLong.is c.in_err-write_piece-in-LineTooLong.ensures.prefix

pub returns-in_err-write_piece-in-LineTooLong-clause-cause :
    goal.returns-in_err-write_piece-in-LineTooLong-clause-cause
returns-in_err-write_piece-in-LineTooLong-clause-cause g c = λ old new h out rose.
    long_fault_cause c.args.served old new _ _ h out c.in_ok-end.end _ c.from_residual-in_err-write_piece-in-LineTooLong.result c.in_ok-end.was
    c.in-LineTooLong.is c.from_residual-in_err-write_piece-in-LineTooLong.ensures.1 c.in_err-write_piece-in-LineTooLong.ensures.cause

pub returns-in_ok-write_piece-in-LineTooLong-clause-ends : goal.returns-in_ok-write_piece-in-LineTooLong-clause-ends
returns-in_ok-write_piece-in-LineTooLong-clause-ends g c = λ folder text earlier later before w rose.
    at_long_line c.args.served folder text earlier later before _ w c.in_ok-end.end _ c.in_ok-end.was c.in-LineTooLong.is
    c.in_ok-write_piece-in-LineTooLong.ensures.whole

pub returns-in_ok-write_piece-in-LineTooLong-clause-cause : goal.returns-in_ok-write_piece-in-LineTooLong-clause-cause
returns-in_ok-write_piece-in-LineTooLong-clause-cause g c = λ old new h out rose.
    long_cause c.args.served old new _ _ h out c.in_ok-end.end c.in_ok-end.was c.in-LineTooLong.is c.in_ok-write_piece-in-LineTooLong.ensures.cause
