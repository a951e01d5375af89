use Rattle.std.proofs.Common.{rules, ◌≡◌, subst}
use Rattle.cu_search.specs.Lines.{end_text}
use Rattle.cu_search.specs.Written.{Adds, AddsPrefix}
use Rattle.cu_search.proofs.WrittenLemmas.{OnErr-always}
use Rattle.cu_cmd.specs.Trials.{answers_line, sum_line}
use Rattle.cu_cmd.proofs.TotalsLemmas.{in_first, in_second, in_third}
use Rattle.cu_cmd.proofs.totals.write_totals.Goals as goal

pub returns-in_err-write_piece-clause-prefix : goal.returns-in_err-write_piece-clause-prefix
returns-in_err-write_piece-clause-prefix g c =
    let written = g.S.Sink.written in
    let first = answers_line c.args.totals.lines in
    let second = sum_line c.args.totals.sum in
    let is : c.as_str.result.now ≡ first = search rules in
    OnErr-always c.from_residual-in_err-write_piece.result
    (in_first first second (end_text c.args.end) (written c.args.output.now) (written c.write_piece.new.sink)
    (subst (AddsPrefix (written c.args.output.now) (written c.write_piece.new.sink)) is c.in_err-write_piece.ensures.prefix))

pub returns-in_err-write_piece-2-clause-prefix : goal.returns-in_err-write_piece-2-clause-prefix
returns-in_err-write_piece-2-clause-prefix g c =
    let written = g.S.Sink.written in
    let first = answers_line c.args.totals.lines in
    let second = sum_line c.args.totals.sum in
    let is : c.as_str.result.now ≡ first = search rules in
    let is_sum : c.as_str-2.result.now ≡ second = search rules in
    OnErr-always c.from_residual-in_err-write_piece-2.result
    (in_second first second (end_text c.args.end) (written c.args.output.now) (written c.write_piece.new.sink) (written c.write_piece-2.new.sink)
    (subst (Adds (written c.args.output.now) (written c.write_piece.new.sink)) is c.in_ok-write_piece.ensures.whole)
    (subst (AddsPrefix (written c.write_piece.new.sink) (written c.write_piece-2.new.sink)) is_sum c.in_err-write_piece-2.ensures.prefix))

pub returns-in_err-write_last_line-clause-prefix : goal.returns-in_err-write_last_line-clause-prefix
returns-in_err-write_last_line-clause-prefix g c =
    let written = g.S.Sink.written in
    let first = answers_line c.args.totals.lines in
    let second = sum_line c.args.totals.sum in
    let is : c.as_str.result.now ≡ first = search rules in
    let is_sum : c.as_str-2.result.now ≡ second = search rules in
    OnErr-always c.from_residual-in_err-write_last_line.result
    (in_third first second (end_text c.args.end) (written c.args.output.now) (written c.write_piece.new.sink) (written c.write_piece-2.new.sink)
    (written c.write_last_line.new.sink)
    (subst (Adds (written c.args.output.now) (written c.write_piece.new.sink)) is c.in_ok-write_piece.ensures.whole)
    (subst (Adds (written c.write_piece.new.sink) (written c.write_piece-2.new.sink)) is_sum c.in_ok-write_piece-2.ensures.whole)
    c.in_err-write_last_line.ensures.prefix)
