use Rattle.cu_modules.specs.Ordering.{modules_of}
use Rattle.cu_front.specs.Inside.Questions.{RefusesQuestion}
use Rattle.cu_front.proofs.LoadedLemmas.{question_compiles, question_known, question_refused}
use Rattle.cu_front.proofs.asking.ask.Goals as goal

pub returns-in-Ok-clause-program : goal.returns-in-Ok-clause-program
returns-in-Ok-clause-program c held root are =
    question_compiles held root c.args.goal.now c.args.names.now c.in_loaded.new.names c.args.loaded.now c.in-Ok.found are c.in-Ok.ensures.program

pub returns-in-Err-clause-refused : goal.returns-in-Err-clause-refused
returns-in-Err-clause-refused c held root are =
    question_refused held root c.args.goal.now c.args.names.now c.in_loaded.new.names c.args.loaded.now c.in-Err.fault c.of_question.result
    c.of_question.ensures are c.in-Err.ensures.fault

pub returns-in-Err-clause-known : goal.returns-in-Err-clause-known
returns-in-Err-clause-known c =
    let loaded = c.args.loaded.now in
    question_known c.in_loaded.new.names (RefusesQuestion (modules_of c.args.names.now loaded.modules.items) loaded.root c.args.goal.now) c.in-Err.fault
    c.of_question.result c.of_question.ensures c.in-Err.ensures.fault
