use Rattle.std.proofs.Common.{◌∙◌, ap, arith, map, subst, sym}
use Rattle.std.proofs.lemmas.List.Elements.{All-get_or}
use Rattle.cu_fixity.specs.Owners.{PartIsOf}
use Rattle.cu_syntax.specs.Owners.{ExpressionIsOf}
use Rattle.cu_forms.specs.Operands.{operator_piece}
use Rattle.cu_forms.proofs.CallLemmas.{pushed_plain, pushed_plain_all}
use Rattle.cu_forms.proofs.operators.pieces.Goals as goal

pub loop-part-preserved : goal.loop-part-preserved
loop-part-preserved g c = record {
  count = omega (arith, c.in_ok-push.ensures.len, c.loop-part.invariant.count);
  meaning = λ w local tells sees all.
      (let P = PartIsOf ExpressionIsOf w.owner w.names in
      let f = operator_piece w local in
      let i = c.loop-part.part-index in
      let x = c.part-item.result in
      let of = subst P (sym c.part-item.is) (All-get_or P c.args.written.now i x c.loop-part-test.true all) in
      pushed_plain f c.args.written.now i x c.loop-part.found.items c.push.new.self.items c.piece.result (map f c.args.written.now) c.loop-part-test.true
      c.in_ok-push.ensures.items (c.piece.ensures w local tells sees of ∙ ap f c.part-item.is) (c.loop-part.invariant.meaning w local tells sees all));
}

pub returns : goal.returns
returns g c = record {
  count = omega arith;
  meaning = λ w local tells sees all.
      pushed_plain_all (operator_piece w local) c.args.written.now c.loop-part.part-index c.loop-part.found.items (map (operator_piece w local) c.args.written.now) c.loop-part-test.false
      (c.loop-part.invariant.meaning w local tells sees all);
}
