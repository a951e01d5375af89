use Rattle.std.proofs.Common.{length, refl, subst, sym}
use Rattle.std.proofs.lemmas.Option.{slice_get_read}
use Rattle.cu_cycles.proofs.Places.{one_element}
use Rattle.cu_lift.specs.Groups.{IsIn}
use Rattle.cu_lift.specs.declared.captures.Local.{Local}
use Rattle.cu_lift.proofs.captures.is_bound.Goals as goal

pub returns : goal.returns
returns c =
    let locals = c.args.locals.now in
    let at = slice_get_read locals (length locals) c.args.place c.index-locals-place.result refl c.requires c.index-locals-place.is in record {
      holds = λ h l e.
          subst (λ (y : Local). IsIn y.binds.keys c.args.x) (one_element locals c.args.place c.index-locals-place.result l at e) (c.binds.ensures.holds h);
      fails = λ h l e k.
          c.binds.ensures.fails h
          (subst (λ (y : Local). IsIn y.binds.keys c.args.x) (sym (one_element locals c.args.place c.index-locals-place.result l at e)) k);
    }
