use Rattle.std.proofs.Common.{refl, sym, subst}
use Rattle.cu_lex.specs.Inside.Scanning.{left, IsWord, con_id_kind}
use Rattle.cu_lex.proofs.ChainLemmas.{advance, after_dot, reach-further, reach-ends}
use Rattle.cu_lex.proofs.word.qualified_at.Goals as goal

pub loop-next-init : goal.loop-next-init
loop-next-init c =
    let w = c.constructor-word.ensures.word in
    record {
      begins = refl;
      word = w;
      base = rw c.constructor-word.ensures.kind refl;
      plain = λ h. c.constructor-word.ensures.kind;
      most = λ rest reaches. advance (left c.args.start) c.constructor-word.result.kind (left c.constructor-word.result.end) rest w (rw c.constructor-word.ensures.kind refl) reaches;
    }

pub loop-next-preserved : goal.loop-next-preserved
loop-next-preserved c =
    let linked = c.in-Some.ensures.some in
    let w : IsWord (left c.loop-next.base) con_id_kind (left c.loop-next.word.end) = subst (λ k. IsWord (left c.loop-next.base) k (left c.loop-next.word.end)) linked.con_id c.loop-next.invariant.word in
    let at = c.after-base.ensures.left in
    let w' = subst (λ t. IsWord t c.in-Some.next.kind (left c.in-Some.next.end)) (sym at) linked.word in
    record {
      begins = after_dot (left c.args.start) (left c.loop-next.base) (left c.loop-next.word.end) (left c.after-base.result) c.loop-next.dot c.loop-next.invariant.begins w linked.dot at;
      word = w';
      base = linked.base;
      plain = λ h. cc;
      most = λ rest reaches. reach-further c.loop-next.word.kind (left c.loop-next.word.end) (left c.after-base.result) c.in-Some.next.kind (left c.in-Some.next.end) rest at w' linked.base (c.loop-next.invariant.most rest reaches);
    }

pub returns : goal.returns
returns c = record {
  begins = c.loop-next.invariant.begins;
  word = c.loop-next.invariant.word;
  base = c.loop-next.invariant.base;
  plain = c.loop-next.invariant.plain;
  most = λ rest reaches. reach-ends c.loop-next.word.kind (left c.loop-next.word.end) rest (c.in_default.ensures.none refl) (c.loop-next.invariant.most rest reaches);
}
