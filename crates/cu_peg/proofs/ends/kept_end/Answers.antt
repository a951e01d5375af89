use Rattle.std.proofs.Common.{◌∙◌, ◌-◌, Bool, ap, length, map}
use Rattle.cu_lex.specs.Reading.{lexeme_of}
use Rattle.cu_peg.specs.Inside.Ends.{end_at, row_end}
use Rattle.cu_peg.specs.Inside.Reached.{kept_row}
use Rattle.cu_peg.specs.Result.{has_at}
use Rattle.cu_peg.proofs.ends.kept_end.Goals as goal

pub returns-then-not-is_marked : goal.returns-then-not-is_marked
returns-then-not-is_marked c = λ names.
    ap (λ (b : Bool). row_end (λ k. has_at (map (lexeme_of names) c.args.place.tokens.now) k (length c.args.place.tokens.now - c.args.place.left)) (end_at c.args.table.now.columns) (kept_row b c.args.row.now) c.args.number c.args.place.left) c.if-not-is_marked.ensures

pub returns : goal.returns
returns c = λ names.
    c.row_end.ensures names
    ∙ ap (λ (b : Bool). row_end (λ k. has_at (map (lexeme_of names) c.args.place.tokens.now) k (length c.args.place.tokens.now - c.args.place.left)) (end_at c.args.table.now.columns) (kept_row b c.args.row.now) c.args.number c.args.place.left) c.if-not-is_marked.ensures
