use Rattle.std.proofs.Common.{◌≡◌, ◌∙◌, sym, ap, subst, map, true}
use Rattle.std.specs.Prelude.{All}
use Rattle.cu_names.proofs.Growth.{extends-trans}
use Rattle.cu_lex.specs.Reading.{is_written, lexeme_of, IsTokenOf, Tells}
use Rattle.cu_lex.specs.Inside.Scanning.{left}
use Rattle.cu_lex.specs.Tokens.{lexemes, tokens}
use Rattle.cu_lex.proofs.TokenLemmas.{err-from, all-found, before, ended-lexemes, next-lexemes, next-shorter, not-text, owned-more, of-text, tells, too-big}
use Rattle.cu_lex.proofs.UnderscoreLemmas.{underscore-kept}
use Rattle.cu_lex.proofs.WrittenLemmas.{natural-found, written-more}
use Rattle.cu_lex.proofs.lexer.lex.Goals as goal

pub returns-then-bytes-gt-MAX_TEXT_BYTES-clause-fault : goal.returns-then-bytes-gt-MAX_TEXT_BYTES-clause-fault
returns-then-bytes-gt-MAX_TEXT_BYTES-clause-fault c = too-big c.args.bytes.now c.if-bytes-gt-MAX_TEXT_BYTES.true

pub returns-in-Err-clause-fault : goal.returns-in-Err-clause-fault
returns-in-Err-clause-fault c = not-text c.args.bytes.now c.in_ok-offset-in-Err.offset c.if-bytes-gt-MAX_TEXT_BYTES.false c.in-Err.ensures.cases.0 c.in_ok-offset-in-Err.ensures

pub loop-first-smaller : goal.loop-first-smaller
loop-first-smaller c = next-shorter _ _ _ c.in_ok-kind.ensures.lexes.piece

pub returns-clause-tokens : goal.returns-clause-tokens
returns-clause-tokens c =
    of-text c.args.bytes.now c.if-bytes-gt-MAX_TEXT_BYTES.false c.in-Ok.ensures.cases.1 ∙ c.loop-first.invariant.tokens
    ∙ all-found (map (lexeme_of c.loop-first.names) c.loop-first.tokens.items) (lexemes (left c.loop-first.rest)) (ended-lexemes (left c.loop-first.rest) (sym c.peek.ensures ∙ c.in_default.is))

pub returns-in_err-kind-clause-fault : goal.returns-in_err-kind-clause-fault
returns-in_err-kind-clause-fault c =
    let is = of-text c.args.bytes.now c.if-bytes-gt-MAX_TEXT_BYTES.false c.in-Ok.ensures.cases.1 ∙ c.loop-first.invariant.tokens in
    let h = subst (Tells c.args.module c.in_err-kind.field-0.0) (sym is) (tells c.args.module (left c.loop-first.rest) (map (lexeme_of c.loop-first.names) c.loop-first.tokens.items) c.in-Some.first c.in_err-kind.field-0.0 (sym c.peek.ensures ∙ c.in-Some.is) c.in_err-kind.ensures.lexes) in
    err-from (Tells c.args.module) c.from_residual-in_err-kind.result c.in_err-kind.field-0.0 (tokens c.args.bytes.now) c.from_residual-in_err-kind.ensures.1 h

pub loop-first-preserved : goal.loop-first-preserved
loop-first-preserved c =
    let added = c.in_ok-add_token.ensures.ok in
    record {
      tokens = c.loop-first.invariant.tokens
          ∙ next-lexemes c.args.module c.loop-first.names c.piece.new.names c.loop-first.tokens.items c.in_ok-kind.kind c.place.result (left c.loop-first.rest) (left c.in_ok-kind.next) c.in-Some.first c.in_ok-kind.ensures.names c.loop-first.invariant.owned
          (sym c.peek.ensures ∙ c.in-Some.is) c.place.ensures.at c.in_ok-kind.ensures.lexes.piece
          ∙ ap (λ ts. before (map (lexeme_of c.piece.new.names) ts) (lexemes (left c.in_ok-kind.next))) (sym added);
      owned = subst (All (IsTokenOf c.args.module c.piece.new.names)) (sym added)
          (owned-more c.args.module c.loop-first.names c.piece.new.names c.loop-first.tokens.items c.in_ok-kind.kind c.place.result c.in_ok-kind.ensures.names c.loop-first.invariant.owned c.place.ensures.owner c.in_ok-kind.ensures.lexes.known
          (natural-found c.in_ok-kind.kind (left c.loop-first.rest) (left c.in_ok-kind.next) c.piece.new.names c.in_ok-kind.ensures.lexes.piece));
      written = subst (All (λ t. is_written t.kind ≡ true)) (sym added) (written-more c.loop-first.tokens.items c.in_ok-kind.kind c.place.result (left c.loop-first.rest) (left c.in_ok-kind.next) c.piece.new.names c.loop-first.invariant.written c.in_ok-kind.ensures.lexes.piece);
      names = extends-trans c.loop-first.invariant.names c.in_ok-kind.ensures.names;
      underscore = underscore-kept c.piece.new.names (left c.loop-first.rest) (left c.in_ok-kind.next) c.in-Some.first c.in_ok-kind.kind c.is_lone_underscore-after_underscore.result (sym c.peek.ensures ∙ c.in-Some.is) c.in_ok-kind.ensures.lexes.piece c.is_lone_underscore-after_underscore.ensures;
      differ = λ h. c.in_ok-kind.ensures.differ (c.loop-first.invariant.differ h);
    }
