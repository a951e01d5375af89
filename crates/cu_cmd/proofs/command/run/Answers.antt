use Rattle.std.proofs.Common.{ap, refl}
use Rattle.cu_cmd.proofs.ReportLemmas.{by_input, command_cause, done_is_solved, no_input, no_outside, not_serving, run_cause, session_whole}
use Rattle.cu_cmd.specs.Checking.{CheckReport}
use Rattle.cu_cmd.specs.Inside.Runs.{Ends}
use Rattle.cu_cmd.specs.Report.{CompileReport, SolveReport}
use Rattle.cu_words.specs.Words.{Checking, Compiling, Solving, Trying, asked, check_of, compile_of, solve_of, trial_of}
use Rattle.cu_cmd.proofs.command.run.Goals as goal

pub returns-in-Solve-clause-ends : goal.returns-in-Solve-clause-ends
returns-in-Solve-clause-ends g c =
    no_input (g.L.Library.holdings c.args.library.now) (g.O.Source.remaining c.args.input.now) (asked c.args.command) (Solving (solve_of c.in-Solve.asked)) c.solve.result
    (g.S.Sink.written c.args.output.now) (g.S.Sink.written c.solve.new.output)
    (λ held. Ends c.solve.result (SolveReport held (solve_of c.in-Solve.asked)) (g.S.Sink.written c.args.output.now) (g.S.Sink.written c.solve.new.output))
    (ap asked c.in-Solve.is) (λ held text ends. ends) c.solve.ensures.ends

pub returns-in-Solve-clause-cause : goal.returns-in-Solve-clause-cause
returns-in-Solve-clause-cause g c = command_cause c.solve.result _ _ _ _ _ c.solve.ensures.cause

pub returns-in-Solve-clause-served : goal.returns-in-Solve-clause-served
returns-in-Solve-clause-served g c =
    not_serving (asked c.args.command) (Solving (solve_of c.in-Solve.asked)) (ap asked c.in-Solve.is) (λ serves. cc)

pub returns-in-Compile-clause-ends : goal.returns-in-Compile-clause-ends
returns-in-Compile-clause-ends g c =
    no_input (g.L.Library.holdings c.args.library.now) (g.O.Source.remaining c.args.input.now) (asked c.args.command) (Compiling (compile_of c.in-Compile.asked)) c.compile.result
    (g.S.Sink.written c.args.output.now) (g.S.Sink.written c.compile.new.output)
    (λ held. Ends c.compile.result (CompileReport held (compile_of c.in-Compile.asked)) (g.S.Sink.written c.args.output.now) (g.S.Sink.written c.compile.new.output))
    (ap asked c.in-Compile.is) (λ held text ends. ends) c.compile.ensures.ends

pub returns-in-Compile-clause-cause : goal.returns-in-Compile-clause-cause
returns-in-Compile-clause-cause g c = command_cause c.compile.result _ _ _ _ _ c.compile.ensures.cause

pub returns-in-Compile-clause-served : goal.returns-in-Compile-clause-served
returns-in-Compile-clause-served g c =
    not_serving (asked c.args.command) (Compiling (compile_of c.in-Compile.asked)) (ap asked c.in-Compile.is) (λ serves. cc)

pub returns-in-Check-clause-ends : goal.returns-in-Check-clause-ends
returns-in-Check-clause-ends g c =
    no_input (g.L.Library.holdings c.args.library.now) (g.O.Source.remaining c.args.input.now) (asked c.args.command) (Checking (check_of c.in-Check.asked)) c.check.result
    (g.S.Sink.written c.args.output.now) (g.S.Sink.written c.check.new.output)
    (λ held. Ends c.check.result (CheckReport held (check_of c.in-Check.asked)) (g.S.Sink.written c.args.output.now) (g.S.Sink.written c.check.new.output))
    (ap asked c.in-Check.is) (λ held text ends. ends) c.check.ensures.ends

pub returns-in-Check-clause-cause : goal.returns-in-Check-clause-cause
returns-in-Check-clause-cause g c = command_cause c.check.result _ _ _ _ _ c.check.ensures.cause

pub returns-in-Check-clause-served : goal.returns-in-Check-clause-served
returns-in-Check-clause-served g c =
    not_serving (asked c.args.command) (Checking (check_of c.in-Check.asked)) (ap asked c.in-Check.is) (λ serves. cc)

pub returns-in-Session-clause-ends : goal.returns-in-Session-clause-ends
returns-in-Session-clause-ends g c =
    by_input (g.L.Library.holdings c.args.library.now) (g.O.Source.remaining c.args.input.now) (asked c.args.command) c.session.result
    (g.S.Sink.written c.args.output.now) (g.S.Sink.written c.session.new.output) (ap asked c.in-Session.is) c.session.ensures.ends

pub returns-in-Session-clause-whole : goal.returns-in-Session-clause-whole
returns-in-Session-clause-whole g c =
    session_whole c.session.result (asked c.args.command) _ _ (ap asked c.in-Session.is) c.session.ensures.status

pub returns-in-Session-clause-solved : goal.returns-in-Session-clause-solved
returns-in-Session-clause-solved g c = done_is_solved c.session.result c.session.ensures.status

pub returns-in-Session-clause-input : goal.returns-in-Session-clause-input
returns-in-Session-clause-input g c = λ none. absurd (none (ap asked c.in-Session.is))

pub returns-in-Trial-clause-ends : goal.returns-in-Trial-clause-ends
returns-in-Trial-clause-ends g c =
    no_outside (g.L.Library.holdings c.args.library.now) (g.O.Source.remaining c.args.input.now) (asked c.args.command) (Trying (trial_of c.in-Trial.trial))
    c.run_trial.result (g.S.Sink.written c.args.output.now) (g.S.Sink.written c.run_trial.new.output) (ap asked c.in-Trial.is)
    (λ held text. c.run_trial.ensures.ends)

pub returns-in-Trial-clause-cause : goal.returns-in-Trial-clause-cause
returns-in-Trial-clause-cause g c = command_cause c.run_trial.result _ _ _ _ _ (run_cause c.run_trial.result _ _ _ _ refl c.run_trial.ensures.cause)

pub returns-in-Trial-clause-served : goal.returns-in-Trial-clause-served
returns-in-Trial-clause-served g c =
    not_serving (asked c.args.command) (Trying (trial_of c.in-Trial.trial)) (ap asked c.in-Trial.is) (λ serves. cc)
