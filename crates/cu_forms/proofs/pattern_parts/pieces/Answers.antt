use Rattle.std.proofs.Common.{◌∙◌, ap, arith, map, subst, sym}
use Rattle.std.proofs.lemmas.List.Elements.{All-get_or}
use Rattle.cu_fixity.specs.Owners.{PartIsOf}
use Rattle.cu_syntax.specs.Owners.{PatternIsOf}
use Rattle.cu_forms.specs.Inside.PatternParts.{piece_in}
use Rattle.cu_forms.proofs.CallLemmas.{pushed_plain, pushed_plain_all}
use Rattle.cu_forms.proofs.pattern_parts.pieces.Goals as goal

pub loop-part-preserved : goal.loop-part-preserved
loop-part-preserved g c = record {
  count = omega (arith, c.in_ok-push.ensures.len, c.loop-part.invariant.count);
  meaning = λ w tells all.
      (let P = PartIsOf PatternIsOf w.owner w.names in
      let i = c.loop-part.part-index in
      let x = c.part-item.result in
      let of = subst P (sym c.part-item.is) (All-get_or P c.args.parts.now i x c.loop-part-test.true all) in
      pushed_plain (piece_in w) c.args.parts.now i x c.loop-part.found.items c.push.new.self.items c.piece.result (map (piece_in w) c.args.parts.now) c.loop-part-test.true
      c.in_ok-push.ensures.items (c.piece.ensures w tells of ∙ ap (piece_in w) c.part-item.is) (c.loop-part.invariant.meaning w tells all));
}

pub returns : goal.returns
returns g c = record {
  count = omega arith;
  meaning = λ w tells all.
      pushed_plain_all (piece_in w) c.args.parts.now c.loop-part.part-index c.loop-part.found.items (map (piece_in w) c.args.parts.now) c.loop-part-test.false (c.loop-part.invariant.meaning w tells all);
}
