use Rattle.std.proofs.Common.{refl}
use Rattle.cu_sites.proofs.numbers.Numbers.counted.Goals as goal

pub returns : goal.returns
returns c = record {
  binder_keys = c.args.binders.now;
  place_keys = c.args.places.now;
  variables_are = refl;
  functions_are = refl;
  variables_counted = c.in_ok-of.ensures;
  functions_counted = c.in_ok-of-2.ensures;
}
