use Rattle.std.proofs.Common.{codes}
use Rattle.cu_crwl.specs.Meaning.{statement_of}
use Rattle.cu_kernel.specs.TermsOf.{term_of}
use Rattle.cu_prooftext.specs.Inside.Lines.{environment_at, statement_at}
use Rattle.cu_prooftext.specs.Inside.Readers.{word_at}
use Rattle.cu_prooftext.specs.Inside.Reading.{term_at, value_at}
use Rattle.cu_prooftext.proofs.GivesLaws.{fails_on, gives_err}
use Rattle.cu_prooftext.proofs.StatementSteps.{arrow_fails, statement_read, term_fails, value_fails}
use Rattle.cu_prooftext.proofs.lines.statement_at.Goals as goal

pub returns-in_err-term : goal.returns-in_err-term
returns-in_err-term c =
    gives_err (λ x. (statement_of x.0, x.1.now)) c.from_residual-in_err-term.result c.in_err-term.field-0.0 (statement_at c.args.bytes.now) c.from_residual-in_err-term.ensures.1
    (fails_on c.in_err-term.field-0.0 (term_at 16384 c.in_ok-rest.rest.now) (statement_at c.args.bytes.now)
    (λ n e. term_fails environment_at (term_at 16384) value_at c.args.bytes.now c.in_ok-env.rest.now c.in_ok-rest.rest.now c.in_ok-env.env.items n c.in_ok-env.ensures c.in_ok-rest.ensures e) c.in_err-term.ensures)

pub returns-in_err-rest-2 : goal.returns-in_err-rest-2
returns-in_err-rest-2 c =
    gives_err (λ x. (statement_of x.0, x.1.now)) c.from_residual-in_err-rest-2.result c.in_err-rest-2.field-0.0 (statement_at c.args.bytes.now) c.from_residual-in_err-rest-2.ensures.1
    (fails_on c.in_err-rest-2.field-0.0 (word_at (codes " => ") c.in_ok-term.rest.now) (statement_at c.args.bytes.now)
    (λ n e. arrow_fails environment_at (term_at 16384) value_at c.args.bytes.now c.in_ok-env.rest.now c.in_ok-rest.rest.now c.in_ok-term.rest.now c.in_ok-env.env.items (term_of c.in_ok-term.term) n c.in_ok-env.ensures c.in_ok-rest.ensures c.in_ok-term.ensures e) c.in_err-rest-2.ensures)

pub returns-in_err-value : goal.returns-in_err-value
returns-in_err-value c =
    gives_err (λ x. (statement_of x.0, x.1.now)) c.from_residual-in_err-value.result c.in_err-value.field-0.0 (statement_at c.args.bytes.now) c.from_residual-in_err-value.ensures.1
    (fails_on c.in_err-value.field-0.0 (value_at c.in_ok-rest-2.rest.now) (statement_at c.args.bytes.now)
    (λ n e. value_fails environment_at (term_at 16384) value_at c.args.bytes.now c.in_ok-env.rest.now c.in_ok-rest.rest.now c.in_ok-term.rest.now c.in_ok-rest-2.rest.now c.in_ok-env.env.items (term_of c.in_ok-term.term) n c.in_ok-env.ensures c.in_ok-rest.ensures c.in_ok-term.ensures
    c.in_ok-rest-2.ensures e) c.in_err-value.ensures)

pub returns : goal.returns
returns c =
    statement_read environment_at (term_at 16384) value_at c.args.bytes.now c.in_ok-env.rest.now c.in_ok-rest.rest.now c.in_ok-term.rest.now c.in_ok-rest-2.rest.now c.in_ok-value.rest.now c.in_ok-env.env.items (term_of c.in_ok-term.term) c.in_ok-value.value
    c.in_ok-env.ensures c.in_ok-rest.ensures c.in_ok-term.ensures c.in_ok-rest-2.ensures c.in_ok-value.ensures
