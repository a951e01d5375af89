-- A read, and what came.
use Rattle.std.proofs.Common.{ℕ, List, ◌++◌, replicate}
use Rattle.cu_session.specs.Lines.{lines_of}
use Rattle.cu_session.proofs.ReadLemmas.{end_goes, end_lines, fault_goes, read_goes, read_lines, source_same}
use Rattle.cu_session.proofs.serving.take_read.Goals as goal

pub returns-in-Failed-clause-told : goal.returns-in-Failed-clause-told
returns-in-Failed-clause-told g c = λ text state is_text is.
    fault_goes g.A.Asker.answers state (lines_of (c.args.line.now.items ++ text)) text (g.O.Source.remaining c.args.source.now) (g.O.Source.remaining c.read.new.self)
    (g.A.Asker.fault_count c.args.asker.now) (g.A.Asker.fault_count c.args.asker.now) (g.S.Sink.written c.args.sink.now) c.in-Failed.ensures.told.1 is_text

pub returns-in-Bytes-clause-told : goal.returns-in-Bytes-clause-told
returns-in-Bytes-clause-told g c = λ text state is_text is.
    let room : List ℕ = replicate 8192 0 in
    read_goes c.take_piece.result g.A.Asker.answers state c.args.line.now.items c.take_piece.new.line.items room c.read.new.room text c.in-Bytes.count _ _
    (g.A.Asker.state c.take_piece.new.asker) (g.A.Asker.fault_count c.args.asker.now) (g.A.Asker.fault_count c.take_piece.new.asker) (g.S.Sink.written c.args.sink.now) (g.S.Sink.written c.take_piece.new.sink) c.in-Bytes.ensures.told is_text
    (λ rest. c.take_piece.ensures.told state rest is)

pub returns-in-Bytes-clause-lines : goal.returns-in-Bytes-clause-lines
returns-in-Bytes-clause-lines g c = λ text is_text.
    let room : List ℕ = replicate 8192 0 in
    read_lines c.take_piece.result c.args.line.now.items c.take_piece.new.line.items room c.read.new.room text c.in-Bytes.count _ _ c.in-Bytes.ensures.told is_text (λ rest. c.take_piece.ensures.lines rest)

pub returns-in-Bytes-clause-source_count : goal.returns-in-Bytes-clause-source_count
returns-in-Bytes-clause-source_count g c = source_same c.take_piece.result _ _ c.in-Bytes.ensures.count (c.take_piece.ensures.source_count _)

pub returns-in_ok-end-in-Bytes-eq0-clause-told : goal.returns-in_ok-end-in-Bytes-eq0-clause-told
returns-in_ok-end-in-Bytes-eq0-clause-told g c = λ text state is_text is.
    let room : List ℕ = replicate 8192 0 in
    end_goes g.A.Asker.answers state c.args.line.now.items c.deref.result.now room c.read.new.room text c.in-Bytes-eq0.field-0 _ _ c.in_ok-end-in-Bytes-eq0.end _ _ _ _ c.in-Bytes-eq0.field-0-test c.in-Bytes-eq0.ensures.told is_text c.deref.ensures.value
    (c.in_ok-end-in-Bytes-eq0.ensures.told state is)

pub returns-in_ok-end-in-Bytes-eq0-clause-lines : goal.returns-in_ok-end-in-Bytes-eq0-clause-lines
returns-in_ok-end-in-Bytes-eq0-clause-lines g c = λ text is_text.
    let room : List ℕ = replicate 8192 0 in
    end_lines c.args.line.now.items c.deref.result.now room c.read.new.room text c.in-Bytes-eq0.field-0 _ _ c.in_ok-end-in-Bytes-eq0.end c.in-Bytes-eq0.field-0-test c.in-Bytes-eq0.ensures.told is_text c.deref.ensures.value c.in_ok-end-in-Bytes-eq0.ensures.lines
