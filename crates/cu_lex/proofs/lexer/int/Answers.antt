use Rattle.std.proofs.Common.{◌∙◌, sym, subst, rules}
use Rattle.std.proofs.lemmas.Int.{to_z-of_z}
use mir.Syntax.{w128}
use mir.Val.{SFits}
use Rattle.cu_lex.specs.Kind.Kind.{Int}
use Rattle.cu_lex.specs.Inside.Lexing.{IsPiece}
use Rattle.cu_lex.specs.Pieces.Piece.{Token}
use Rattle.cu_lex.specs.Inside.Scanning.{left}
use Rattle.cu_lex.proofs.LexLemmas.{no-number-piece, number-scan, int-piece, int-fault}
use Rattle.cu_lex.proofs.lexer.int.Goals as goal

pub returns-in_default : goal.returns-in_default
returns-in_default c = λ names. (c.place.ensures.owner, no-number-piece (left c.args.start) c.requires c.in_default.ensures, c.place.ensures.at)

pub returns-in-Some-int_value : goal.returns-in-Some-int_value
returns-in-Some-int_value c = λ names.
    let s = number-scan (left c.args.start) c.in-Some.found.value (left c.in-Some.found.end) c.requires c.in-Some.ensures in
    let is = sym c.in-Some-int_value.is ∙ c.int_value.ensures s.number s.held_as in
    let fits : SFits w128 c.in-Some-int_value.value = search rules in
    record {
      piece = subst (λ v. IsPiece (left c.args.start) (Token (Int v)) (left c.in-Some.found.end)) (sym (to_z-of_z w128 c.in-Some-int_value.value fits))
          (int-piece (left c.args.start) c.in-Some.found.value (left c.in-Some.found.end) c.in-Some-int_value.value s is);
      known = tt;
    }

pub returns-in-None : goal.returns-in-None
returns-in-None c = λ names.
    let s = number-scan (left c.args.start) c.in-Some.found.value (left c.in-Some.found.end) c.requires c.in-Some.ensures in
    (c.place-in-None.ensures.owner, left c.in-Some.found.end, int-fault (left c.args.start) c.in-Some.found.value (left c.in-Some.found.end) _ c.requires c.place-in-None.ensures.at s (sym c.in-None.is ∙ c.int_value.ensures s.number s.held_as))
