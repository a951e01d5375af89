use Rattle.std.proofs.Common.{codes, map, string_bytes, subst}
use Rattle.cu_cmd.proofs.ReportLemmas.{asks_as, command_whole, command_writes, none_so, reads_so, session_status, status_cause, usage_whole, usage_writes, usage_writes_held}
use Rattle.cu_words.specs.Words.{ReadsAs, Serving, asked}
use Rattle.cu_cmd.proofs.run.top.Goals as goal

pub returns-in-Ok-Some-clause-report : goal.returns-in-Ok-Some-clause-report
returns-in-Ok-Some-clause-report g c =
    rw c.status_after.ensures
    (command_writes c.run.result _ (asked c.in-Ok-Some.command) (g.L.Library.holdings c.args.library.now) (g.O.Source.remaining c.args.input.now) _ _
    (reads_so _ _ _ c.in-Ok-Some.field-0-is c.in-Ok-Some.ensures.read) c.run.ensures.solved c.run.ensures.ends)

pub returns-in-Ok-Some-clause-usage : goal.returns-in-Ok-Some-clause-usage
returns-in-Ok-Some-clause-usage g c = λ outside. absurd (outside (asked c.in-Ok-Some.command, reads_so _ _ _ c.in-Ok-Some.field-0-is c.in-Ok-Some.ensures.read))

pub returns-in-Ok-Some-clause-usage_report : goal.returns-in-Ok-Some-clause-usage_report
returns-in-Ok-Some-clause-usage_report g c = λ outside held text. absurd (outside (asked c.in-Ok-Some.command, reads_so _ _ _ c.in-Ok-Some.field-0-is c.in-Ok-Some.ensures.read))

pub returns-in-Ok-None-clause-report : goal.returns-in-Ok-None-clause-report
returns-in-Ok-None-clause-report g c =
    rw c.status_after-in-Ok-None.ensures
    (usage_writes_held c.write_usage.result _ (g.L.Library.holdings c.args.library.now) (g.O.Source.remaining c.args.input.now) _ _ (none_so _ _ c.in-Ok-None.field-0-is c.in-Ok-None.ensures.refused) c.write_usage.ensures.status c.write_usage.ensures.whole
    c.write_usage.ensures.prefix)

pub returns-in-Ok-None-clause-usage_report : goal.returns-in-Ok-None-clause-usage_report
returns-in-Ok-None-clause-usage_report g c = λ outside held text.
    rw c.status_after-in-Ok-None.ensures
    (usage_writes c.write_usage.result _ held text _ _ outside c.write_usage.ensures.status c.write_usage.ensures.whole c.write_usage.ensures.prefix)

pub returns-in-Ok-Some-clause-whole : goal.returns-in-Ok-Some-clause-whole
returns-in-Ok-Some-clause-whole g c =
    rw c.status_after.ensures
    (command_whole c.run.result _ (asked c.in-Ok-Some.command) _ _ (reads_so _ _ _ c.in-Ok-Some.field-0-is c.in-Ok-Some.ensures.read) c.run.ensures.solved c.run.ensures.whole)

pub returns-in-Ok-None-clause-whole : goal.returns-in-Ok-None-clause-whole
returns-in-Ok-None-clause-whole g c =
    rw c.status_after-in-Ok-None.ensures
    (usage_whole c.write_usage.result _ _ _ _ _ c.write_usage.ensures.status c.write_usage.ensures.whole c.write_usage.ensures.cause)

pub returns-in-Ok-Some-clause-usage_library : goal.returns-in-Ok-Some-clause-usage_library
returns-in-Ok-Some-clause-usage_library g c = λ outside. absurd (outside (asked c.in-Ok-Some.command, reads_so _ _ _ c.in-Ok-Some.field-0-is c.in-Ok-Some.ensures.read))

pub returns-in-Ok-Some-clause-own_library : goal.returns-in-Ok-Some-clause-own_library
returns-in-Ok-Some-clause-own_library g c = λ other reads asks.
    c.run.ensures.library
    (asks_as (asked c.in-Ok-Some.command) other (c.one_reading.ensures _ _ _ (reads_so _ _ _ c.in-Ok-Some.field-0-is c.in-Ok-Some.ensures.read) reads) asks)

pub returns-in-Ok-Some-clause-solutions : goal.returns-in-Ok-Some-clause-solutions
returns-in-Ok-Some-clause-solutions g c = λ held solve reads. c.solutions_are_listed.ensures (held.module_at solve.folder) solve.name solve.goal solve.limits

pub returns-in-Ok-None-clause-solutions : goal.returns-in-Ok-None-clause-solutions
returns-in-Ok-None-clause-solutions g c = λ held solve reads. c.solutions_are_listed.ensures (held.module_at solve.folder) solve.name solve.goal solve.limits

pub returns-in-Err-clause-solutions : goal.returns-in-Err-clause-solutions
returns-in-Err-clause-solutions g c = λ held solve reads. c.solutions_are_listed.ensures (held.module_at solve.folder) solve.name solve.goal solve.limits

pub returns-in-Ok-Some-clause-depth : goal.returns-in-Ok-Some-clause-depth
returns-in-Ok-Some-clause-depth g c = λ held solve reads. c.answers_are_listed_by_depth.ensures (held.module_at solve.folder) solve.name solve.goal solve.limits

pub returns-in-Ok-None-clause-depth : goal.returns-in-Ok-None-clause-depth
returns-in-Ok-None-clause-depth g c = λ held solve reads. c.answers_are_listed_by_depth.ensures (held.module_at solve.folder) solve.name solve.goal solve.limits

pub returns-in-Err-clause-depth : goal.returns-in-Err-clause-depth
returns-in-Err-clause-depth g c = λ held solve reads. c.answers_are_listed_by_depth.ensures (held.module_at solve.folder) solve.name solve.goal solve.limits

pub returns-in-Ok-Some-clause-cause : goal.returns-in-Ok-Some-clause-cause
returns-in-Ok-Some-clause-cause g c = rw c.status_after.ensures (status_cause c.run.result _ _ c.run.ensures.solved c.run.ensures.cause)

pub returns-in-Ok-Some-clause-input : goal.returns-in-Ok-Some-clause-input
returns-in-Ok-Some-clause-input g c = λ none.
    c.run.ensures.input (λ serves. none (subst (ReadsAs (map string_bytes c.args.words.now)) serves (reads_so _ _ _ c.in-Ok-Some.field-0-is c.in-Ok-Some.ensures.read)))

pub returns-in-Ok-Some-clause-session_status : goal.returns-in-Ok-Some-clause-session_status
returns-in-Ok-Some-clause-session_status g c = λ reads.
    rw c.status_after.ensures
    (session_status c.run.result
    (c.run.ensures.served (c.one_reading.ensures _ _ _ (reads_so _ _ _ c.in-Ok-Some.field-0-is c.in-Ok-Some.ensures.read) reads)))

pub returns-in-Ok-None-clause-session_status : goal.returns-in-Ok-None-clause-session_status
returns-in-Ok-None-clause-session_status g c = λ reads. absurd (none_so _ _ c.in-Ok-None.field-0-is c.in-Ok-None.ensures.refused (Serving, reads))

pub returns-in-Ok-Some-clause-listed : goal.returns-in-Ok-Some-clause-listed
returns-in-Ok-Some-clause-listed g c = λ held name text limits reads. c.questions_are_listed.ensures (held.module_at (codes ".")) name text limits

pub returns-in-Ok-None-clause-listed : goal.returns-in-Ok-None-clause-listed
returns-in-Ok-None-clause-listed g c = λ held name text limits reads. c.questions_are_listed.ensures (held.module_at (codes ".")) name text limits

pub returns-in-Err-clause-listed : goal.returns-in-Err-clause-listed
returns-in-Err-clause-listed g c = λ held name text limits reads. c.questions_are_listed.ensures (held.module_at (codes ".")) name text limits

pub returns-in-Ok-Some-clause-session_solutions : goal.returns-in-Ok-Some-clause-session_solutions
returns-in-Ok-Some-clause-session_solutions g c = λ held name text limits reads. c.solutions_are_listed.ensures (held.module_at (codes ".")) name text limits

pub returns-in-Ok-None-clause-session_solutions : goal.returns-in-Ok-None-clause-session_solutions
returns-in-Ok-None-clause-session_solutions g c = λ held name text limits reads. c.solutions_are_listed.ensures (held.module_at (codes ".")) name text limits

pub returns-in-Err-clause-session_solutions : goal.returns-in-Err-clause-session_solutions
returns-in-Err-clause-session_solutions g c = λ held name text limits reads. c.solutions_are_listed.ensures (held.module_at (codes ".")) name text limits
