use Rattle.cu_calculus.specs.FlatProgram.{program_of}
use Rattle.cu_flattext.specs.Text.{lowered}
use Rattle.cu_cmd.proofs.ReportLemmas.{done_is_solved, module_refusal_ends, refusal_ends_whole, run_cause, text_ends, text_ends_whole}
use Rattle.cu_words.specs.Words.{Compiling, compile_of}
use Rattle.cu_cmd.proofs.compiling.compile.Goals as goal

pub returns-in-Ok-clause-ends : goal.returns-in-Ok-clause-ends
returns-in-Ok-clause-ends g c =
    text_ends c.write_module.result (compile_of c.args.compile) (g.L.Library.holdings c.args.library.now) _ c.in-Ok.compiled.program
    c.in-Ok.compiled.interface (program_of c.in-Ok.compiled.flat) c.in-Some.id _ _ c.in-Ok.ensures.program c.in-Some.ensures.found c.write_module.ensures.status
    c.write_module.ensures.whole c.write_module.ensures.prefix

pub returns-in-Ok-clause-whole : goal.returns-in-Ok-clause-whole
returns-in-Ok-clause-whole g c =
    text_ends_whole c.write_module.result (compile_of c.args.compile)
    (lowered c.compile_module.new.names c.in-Ok.compiled.program c.in-Ok.compiled.interface c.in-Ok.compiled.flat) c.in-Some.id _ _ _ _ c.write_module.ensures.status
    c.write_module.ensures.whole c.write_module.ensures.cause

pub returns-in-Ok-clause-cause : goal.returns-in-Ok-clause-cause
returns-in-Ok-clause-cause g c = run_cause c.write_module.result _ _ _ _ c.in-Ok.ensures.count c.write_module.ensures.cause

pub returns-in-Err-Refused-clause-ends : goal.returns-in-Err-Refused-clause-ends
returns-in-Err-Refused-clause-ends g c =
    module_refusal_ends c.refuse.result (compile_of c.args.compile) (g.L.Library.holdings c.args.library.now) _ c.in-Err-Refused.field-0
    c.in-Err-Refused.refusal _ _ c.in-Err-Refused.field-0-is c.in-Err-Refused.ensures.refused c.refuse.ensures.status c.refuse.ensures.whole
    c.refuse.ensures.prefix

pub returns-in-Err-Refused-clause-whole : goal.returns-in-Err-Refused-clause-whole
returns-in-Err-Refused-clause-whole g c =
    refusal_ends_whole c.refuse.result (Compiling (compile_of c.args.compile)) _ _ _ _ _ c.refuse.ensures.status c.refuse.ensures.whole c.refuse.ensures.cause

pub returns-in-Ok-clause-solved : goal.returns-in-Ok-clause-solved
returns-in-Ok-clause-solved g c = done_is_solved c.write_module.result c.write_module.ensures.status
