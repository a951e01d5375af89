-- Reading expressions takes bytes away.
use Rattle.std.proofs.Common.{ℕ, zero, suc, ◌-◌, ◌≤◌, ◌<◌, ◌^◌, List, Err, codes, decimal, length, negsuc, pos, ap, inl, inr, arith}
use lib.Utf8.{scalar}
use Rattle.std.proofs.lemmas.List.{length-append}
use Rattle.cu_calculus.specs.declared.Lit.TheVariants as lit
use Rattle.cu_flatread.proofs.DecimalLemmas.{given, given_is}
use Rattle.cu_flatread.proofs.NameLemmas.{chosen}
use Rattle.cu_flatread.proofs.RoomLemmas.{Shortens}
use Rattle.cu_flatread.proofs.ShorterLemmas.{entity_shorter, list_shorter, number_shorter, one_of_shorter, word_shorter}
use Rattle.cu_flatread.proofs.SoundLemmas.{bound, decimal_sound, positive_sound}
use Rattle.cu_flatread.specs.Inside.Expressions.{all_branches, all_expressions, branch_at, expression_at, expression_of_form, expression_words, kind_at, kind_of_form, kind_words, missing_at, mode_words, pattern_at, pattern_of_form, pattern_words}
use Rattle.cu_flatread.specs.Inside.Names.{entity_at}
use Rattle.cu_flatread.specs.Inside.Numbers.{character_at, decimal_at, integer_at, literal_at, literal_in, literal_words, negative_at, number_at, numbers_at, positive_at}
use Rattle.cu_flatread.specs.Inside.Words.{Read, ◌>>=◌, after_word, is_at, list_after, list_at, one_of}
use Rattle.cu_flatread.specs.Modules as m
use Rattle.cu_flatread.specs.Modules.{Expression, Pattern}
use Rattle.cu_flatread.specs.Notation.{Entity}
use Rattle.cu_flatread.specs.declared.cells.CombKind.TheVariants as of
use Rattle.cu_flatread.specs.declared.expressions.Form.{Form}
use Rattle.cu_flatread.specs.declared.expressions.Form.TheVariants as form
use Rattle.cu_flatread.specs.declared.expressions.KindForm.{KindForm}
use Rattle.cu_flatread.specs.declared.expressions.KindForm.TheVariants as kind
use Rattle.cu_flatread.specs.declared.expressions.PatternForm.{PatternForm}
use Rattle.cu_flatread.specs.declared.expressions.PatternForm.TheVariants as pattern
use Rattle.cu_flatread.specs.declared.numbers.LiteralForm.{LiteralForm}
use Rattle.cu_flatread.specs.declared.numbers.LiteralForm.TheVariants as literal

decimal_shorter : (most : ℕ) → 9 ≤ most → most < 10 ^ 64 → Shortens (decimal_at most)
decimal_shorter most nine small bytes n rest e =
    let d = decimal_sound most bytes rest n nine small e in
    omega (arith, ap length d.0, length-append (decimal n) rest)

negative_shorter : Shortens negative_at
unfolding negative_at
negative_shorter bytes l rest e =
    let size = bound (positive_at (2 ^ 127) bytes) _ (l, rest) e in
    let close = bound (after_word (codes ")") size.0.1) _ (l, rest) size.2 in
    let same = given_is (lit.Int (negsuc (size.0.0 - 1))) l close.0 rest close.2 in
    let d = positive_sound (2 ^ 127) bytes size.0.1 size.0.0 (omega arith) (omega arith) size.1 in
    omega (
      arith,
      ap length d.0,
      length-append (decimal size.0.0) size.0.1,
      word_shorter (codes ")") size.0.1 close.0 close.1,
      ap length same.1,
    )

integer_shorter : Shortens integer_at
unfolding integer_at
integer_shorter bytes l rest e =
    elim (chosen (is_at 40 bytes) (after_word (codes "(-") bytes >>= λ r. negative_at r)
    (decimal_at (2 ^ 127 - 1) bytes >>= λ n. given (lit.Int (pos n.0)) n.1) (given l rest) e) [
      | inl is ↦
          let opened = bound (after_word (codes "(-") bytes) _ (l, rest) is.1 in
          omega (
            arith,
            word_shorter (codes "(-") bytes opened.0 opened.1,
            negative_shorter opened.0 l rest opened.2,
          )
      | inr other ↦
          let n = bound (decimal_at (2 ^ 127 - 1) bytes) _ (l, rest) other.1 in
          let same = given_is (lit.Int (pos n.0.0)) l n.0.1 rest n.2 in
          omega (
            arith,
            decimal_shorter (2 ^ 127 - 1) (omega arith) (omega arith) bytes n.0.0 n.0.1 n.1,
            ap length same.1,
          )
    ]

character_shorter : Shortens character_at
unfolding character_at
character_shorter bytes l rest e =
    let n = bound (decimal_at 0x10FFFF bytes) _ (l, rest) e in
    let fewer =
    decimal_shorter 0x10FFFF (omega arith) (omega arith) bytes n.0.0 n.0.1 n.1 in
    elim (chosen (scalar n.0.0) (given (lit.Char n.0.0) n.0.1) (Err (length n.0.1)) (given l rest) n.2) [
      | inl is ↦
          let same = given_is (lit.Char n.0.0) l n.0.1 rest is.1 in
          omega (arith, fewer, ap length same.1)
      | inr other ↦ let no : ⊥ = cc in absurd no
    ]

literal_in_shorter : (f : LiteralForm) → Shortens (literal_in f)
literal_in_shorter literal.Integer bytes l rest e = integer_shorter bytes l rest e
literal_in_shorter literal.Char bytes l rest e = character_shorter bytes l rest e

pub literal_shorter : Shortens literal_at
unfolding literal_at
literal_shorter bytes l rest e =
    let f = bound (one_of literal_words bytes) _ (l, rest) e in
    omega (
      arith,
      one_of_shorter literal_words bytes (length bytes) f.0.0 f.0.1 f.1,
      literal_in_shorter f.0.0 f.0.1 l rest f.2,
    )

numbers_shorter : Shortens numbers_at
unfolding list_at
numbers_shorter bytes xs rest e =
    let opened = bound (after_word (codes "[") bytes) _ (xs, rest) e in
    omega (
      arith,
      word_shorter (codes "[") bytes opened.0 opened.1,
      list_shorter number_at number_shorter opened.0 xs rest opened.2,
    )

missing_shorter : Shortens missing_at
unfolding missing_at
missing_shorter bytes n rest e =
    let x = bound (number_at bytes) _ (n, rest) e in
    let close = bound (after_word (codes ") ") x.0.1) _ (n, rest) x.2 in
    let same = given_is x.0.0 n close.0 rest close.2 in
    omega (
      arith,
      number_shorter bytes x.0.0 x.0.1 x.1,
      word_shorter (codes ") ") x.0.1 close.0 close.1,
      ap length same.1,
    )

kind_form_shorter : (f : KindForm) → Shortens (kind_of_form f)
kind_form_shorter kind.Func bytes k rest e =
    let same = given_is of.FuncCall k bytes rest e in omega (arith, ap length same.1)
kind_form_shorter kind.Cons bytes k rest e =
    let same = given_is of.ConsCall k bytes rest e in omega (arith, ap length same.1)
kind_form_shorter kind.FuncPart bytes k rest e =
    let n = bound (missing_at bytes) _ (k, rest) e in
    let same = given_is (of.FuncPartCall n.0.0) k n.0.1 rest n.2 in
    omega (arith, missing_shorter bytes n.0.0 n.0.1 n.1, ap length same.1)
kind_form_shorter kind.ConsPart bytes k rest e =
    let n = bound (missing_at bytes) _ (k, rest) e in
    let same = given_is (of.ConsPartCall n.0.0) k n.0.1 rest n.2 in
    omega (arith, missing_shorter bytes n.0.0 n.0.1 n.1, ap length same.1)

pub kind_shorter : Shortens kind_at
unfolding kind_at
kind_shorter bytes k rest e =
    let f = bound (one_of kind_words bytes) _ (k, rest) e in
    omega (
      arith,
      one_of_shorter kind_words bytes (length bytes) f.0.0 f.0.1 f.1,
      kind_form_shorter f.0.0 f.0.1 k rest f.2,
    )

pattern_form_shorter : (f : PatternForm) → Shortens (pattern_of_form f)
pattern_form_shorter pattern.Built bytes p rest e =
    let x = bound (entity_at bytes) _ (p, rest) e in
    let space = bound (after_word (codes " ") x.0.1) _ (p, rest) x.2 in
    let xs = bound (numbers_at space.0) _ (p, rest) space.2 in
    let same = given_is (m.Built x.0.0 xs.0.0) p xs.0.1 rest xs.2 in
    omega (
      arith,
      entity_shorter bytes x.0.0 x.0.1 x.1,
      word_shorter (codes " ") x.0.1 space.0 space.1,
      numbers_shorter space.0 xs.0.0 xs.0.1 xs.1,
      ap length same.1,
    )
pattern_form_shorter pattern.Exactly bytes p rest e =
    let l = bound (literal_at bytes) _ (p, rest) e in
    let close = bound (after_word (codes ")") l.0.1) _ (p, rest) l.2 in
    let same = given_is (m.Exactly l.0.0) p close.0 rest close.2 in
    omega (
      arith,
      literal_shorter bytes l.0.0 l.0.1 l.1,
      word_shorter (codes ")") l.0.1 close.0 close.1,
      ap length same.1,
    )

pub pattern_shorter : Shortens pattern_at
unfolding pattern_at
pattern_shorter bytes p rest e =
    let f = bound (one_of pattern_words bytes) _ (p, rest) e in
    omega (
      arith,
      one_of_shorter pattern_words bytes (length bytes) f.0.0 f.0.1 f.1,
      pattern_form_shorter f.0.0 f.0.1 p rest f.2,
    )

pub branch_shorter : (inner : List ℕ → Read (Expression Entity)) → Shortens inner
    → Shortens (branch_at inner)
unfolding branch_at
branch_shorter inner shorter bytes b rest e =
    let a = bound (after_word (codes "Branch (") bytes) _ (b, rest) e in
    let p = bound (pattern_at a.0) _ (b, rest) a.2 in
    let c = bound (after_word (codes ") (") p.0.1) _ (b, rest) p.2 in
    let t = bound (inner c.0) _ (b, rest) c.2 in
    let d = bound (after_word (codes ")") t.0.1) _ (b, rest) t.2 in
    let same = given_is (p.0.0, t.0.0) b d.0 rest d.2 in
    omega (
      arith,
      word_shorter (codes "Branch (") bytes a.0 a.1,
      pattern_shorter a.0 p.0.0 p.0.1 p.1,
      word_shorter (codes ") (") p.0.1 c.0 c.1,
      shorter c.0 t.0.0 t.0.1 t.1,
      word_shorter (codes ")") t.0.1 d.0 d.1,
      ap length same.1,
    )

form_shorter : (inner : List ℕ → Read (Expression Entity)) → Shortens inner → (f : Form)
    → Shortens (expression_of_form inner f)
unfolding expression_of_form
form_shorter inner shorter form.Var bytes t rest e =
    let x = bound (number_at bytes) _ (t, rest) e in
    let same = given_is (m.Var x.0.0) t x.0.1 rest x.2 in
    omega (arith, number_shorter bytes x.0.0 x.0.1 x.1, ap length same.1)
form_shorter inner shorter form.Literal bytes t rest e =
    let l = bound (literal_at bytes) _ (t, rest) e in
    let close = bound (after_word (codes ")") l.0.1) _ (t, rest) l.2 in
    let same = given_is (m.Literal l.0.0) t close.0 rest close.2 in
    omega (
      arith,
      literal_shorter bytes l.0.0 l.0.1 l.1,
      word_shorter (codes ")") l.0.1 close.0 close.1,
      ap length same.1,
    )
form_shorter inner shorter form.Comb bytes t rest e =
    let k = bound (kind_at bytes) _ (t, rest) e in
    let x = bound (entity_at k.0.1) _ (t, rest) k.2 in
    let a = bound (after_word (codes " [") x.0.1) _ (t, rest) x.2 in
    let ts = bound (list_after inner a.0) _ (t, rest) a.2 in
    let same = given_is (m.Comb k.0.0 x.0.0 (all_expressions ts.0.0)) t ts.0.1 rest ts.2 in
    omega (
      arith,
      kind_shorter bytes k.0.0 k.0.1 k.1,
      entity_shorter k.0.1 x.0.0 x.0.1 x.1,
      word_shorter (codes " [") x.0.1 a.0 a.1,
      list_shorter inner shorter a.0 ts.0.0 ts.0.1 ts.1,
      ap length same.1,
    )
form_shorter inner shorter form.Let bytes t rest e =
    let x = bound (number_at bytes) _ (t, rest) e in
    let a = bound (after_word (codes ",") x.0.1) _ (t, rest) x.2 in
    let b = bound (inner a.0) _ (t, rest) a.2 in
    let c = bound (after_word (codes ")] (") b.0.1) _ (t, rest) b.2 in
    let d = bound (inner c.0) _ (t, rest) c.2 in
    let f = bound (after_word (codes ")") d.0.1) _ (t, rest) d.2 in
    let same = given_is (m.Let x.0.0 b.0.0 d.0.0) t f.0 rest f.2 in
    omega (
      arith,
      number_shorter bytes x.0.0 x.0.1 x.1,
      word_shorter (codes ",") x.0.1 a.0 a.1,
      shorter a.0 b.0.0 b.0.1 b.1,
      word_shorter (codes ")] (") b.0.1 c.0 c.1,
      shorter c.0 d.0.0 d.0.1 d.1,
      word_shorter (codes ")") d.0.1 f.0 f.1,
      ap length same.1,
    )
form_shorter inner shorter form.Free bytes t rest e =
    let x = bound (number_at bytes) _ (t, rest) e in
    let a = bound (after_word (codes "] (") x.0.1) _ (t, rest) x.2 in
    let b = bound (inner a.0) _ (t, rest) a.2 in
    let c = bound (after_word (codes ")") b.0.1) _ (t, rest) b.2 in
    let same = given_is (m.Free x.0.0 b.0.0) t c.0 rest c.2 in
    omega (
      arith,
      number_shorter bytes x.0.0 x.0.1 x.1,
      word_shorter (codes "] (") x.0.1 a.0 a.1,
      shorter a.0 b.0.0 b.0.1 b.1,
      word_shorter (codes ")") b.0.1 c.0 c.1,
      ap length same.1,
    )
form_shorter inner shorter form.Or bytes t rest e =
    let a = bound (inner bytes) _ (t, rest) e in
    let b = bound (after_word (codes ") (") a.0.1) _ (t, rest) a.2 in
    let c = bound (inner b.0) _ (t, rest) b.2 in
    let d = bound (after_word (codes ")") c.0.1) _ (t, rest) c.2 in
    let same = given_is (m.Or a.0.0 c.0.0) t d.0 rest d.2 in
    omega (
      arith,
      shorter bytes a.0.0 a.0.1 a.1,
      word_shorter (codes ") (") a.0.1 b.0 b.1,
      shorter b.0 c.0.0 c.0.1 c.1,
      word_shorter (codes ")") c.0.1 d.0 d.1,
      ap length same.1,
    )
form_shorter inner shorter form.Case bytes t rest e =
    let mode = bound (one_of mode_words bytes) _ (t, rest) e in
    let a = bound (inner mode.0.1) _ (t, rest) mode.2 in
    let b = bound (after_word (codes ") [") a.0.1) _ (t, rest) a.2 in
    let bs = bound (list_after (branch_at inner) b.0) _ (t, rest) b.2 in
    let same = given_is (m.Case mode.0.0 a.0.0 (all_branches bs.0.0)) t bs.0.1 rest bs.2 in
    omega (
      arith,
      one_of_shorter mode_words bytes (length bytes) mode.0.0 mode.0.1 mode.1,
      shorter mode.0.1 a.0.0 a.0.1 a.1,
      word_shorter (codes ") [") a.0.1 b.0 b.1,
      list_shorter (branch_at inner) (branch_shorter inner shorter) b.0 bs.0.0 bs.0.1 bs.1,
      ap length same.1,
    )

pub expression_shorter : (depth : ℕ) → Shortens (expression_at depth)
unfolding expression_at
expression_shorter zero bytes t rest e = let no : ⊥ = cc in absurd no
expression_shorter (suc depth) bytes t rest e =
    let f = bound (one_of (expression_words (suc depth)) bytes) _ (t, rest) e in
    omega (
      arith,
      one_of_shorter (expression_words (suc depth)) bytes (length bytes) f.0.0 f.0.1 f.1,
      form_shorter (expression_at depth) (expression_shorter depth) f.0.0 f.0.1 t rest f.2,
    )
