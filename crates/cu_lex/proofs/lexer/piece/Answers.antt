use Rattle.std.proofs.Common.{◌≡◌, ◌∙◌, Some, sym, refl, rules}
use Rattle.cu_lex.specs.Inside.Scanning.{first_of, left}
use Rattle.cu_lex.proofs.NamedLemmas.{plain-named, qualified-named, separator-piece}
use Rattle.cu_lex.proofs.UnderscoreLemmas.{mark-at-underscore}
use Rattle.cu_lex.proofs.lexer.piece.Goals as goal

pub mark_at-requires-clause-plain : goal.mark_at-requires-clause-plain
mark_at-requires-clause-plain c =
    let at : Some 95 ≡ first_of (left c.args.start) = search rules in
    (mark-at-underscore (left c.args.start) at (c.requires c.if-after_underscore.true)).plain

pub mark_at-requires-clause-words : goal.mark_at-requires-clause-words
mark_at-requires-clause-words c =
    let at : Some 95 ≡ first_of (left c.args.start) = search rules in
    (mark-at-underscore (left c.args.start) at (c.requires c.if-after_underscore.true)).words

pub returns-then-eq-clause-lexes : goal.returns-then-eq-clause-lexes
returns-then-eq-clause-lexes c = c.mark_at.ensures c.args.names.now

pub returns-then-begins-clause-lexes : goal.returns-then-begins-clause-lexes
returns-then-begins-clause-lexes c = record { piece = separator-piece (left c.args.start) (left c.after.result) (sym c.begins.ensures ∙ c.if-begins.true) c.after.ensures.left; known = tt }

pub name-requires : goal.name-requires
name-requires c = qualified-named (left c.args.start) c.qualified_at.result (sym c.begins-2.ensures ∙ c.if-begins-2.true) c.qualified_at.ensures

pub returns-then-begins-3-clause-lexes : goal.returns-then-begins-3-clause-lexes
returns-then-begins-3-clause-lexes c = c.int.ensures c.args.names.now

pub returns-then-begins-4-clause-lexes : goal.returns-then-begins-4-clause-lexes
returns-then-begins-4-clause-lexes c = c.character.ensures c.args.names.now

pub returns-then-begins-5-clause-lexes : goal.returns-then-begins-5-clause-lexes
returns-then-begins-5-clause-lexes c = c.string.ensures c.args.names.now

pub returns-then-opens_comment-clause-lexes : goal.returns-then-opens_comment-clause-lexes
returns-then-opens_comment-clause-lexes c = c.comment.ensures c.args.names.now

pub returns-in-None-clause-lexes : goal.returns-in-None-clause-lexes
returns-in-None-clause-lexes c = c.mark_at-in-None.ensures c.args.names.now

pub name-requires-in-Some : goal.name-requires-in-Some
name-requires-in-Some c = plain-named _ refl (record {
  separator = sym c.begins.ensures ∙ c.if-begins.false;
  capital = sym c.begins-2.ensures ∙ c.if-begins-2.false;
  digit = sym c.begins-3.ensures ∙ c.if-begins-3.false;
  quote = sym c.begins-4.ensures ∙ c.if-begins-4.false;
  quotes = sym c.begins-5.ensures ∙ c.if-begins-5.false;
}) c.in-Some.ensures
