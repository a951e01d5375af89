use Rattle.std.proofs.Common.{List, subst}
use Rattle.std.specs.List.{All}
use Rattle.cu_syntax.specs.declared.types.TypeTerm.{TypeTerm}
use Rattle.cu_syntax.specs.Owners.{TypeIsOf}
use Rattle.cu_uses.specs.Inside.Tops.{types_ask}
use Rattle.cu_uses.specs.Inside.Worlds.{Told}
use Rattle.cu_uses.proofs.TopLemmas.{fields_end, fields_prefix}
use Rattle.cu_uses.proofs.item_uses.fields_uses.Goals as goal

pub loop-constructor-preserved : goal.loop-constructor-preserved
loop-constructor-preserved c w local names after sees has all rest =
    c.loop-constructor.invariant w local names after sees has all
    (fields_prefix w names c.args.constructors.now c.loop-constructor.constructor-index c.constructor-item.result c.loop-constructor.first c.types_uses.new.first after c.constructor-item.is c.loop-constructor-test.true all
    (λ of. subst (λ (ts : List TypeTerm). All (TypeIsOf w.owner w.names) ts → Told w c.loop-constructor.first (types_ask w.names names ts) c.types_uses.new.first) c.as_slice.ensures.value
    (c.in_ok-types_uses.ensures w local names sees has) of.2) rest)

pub returns : goal.returns
returns c w local names sees has all =
    c.loop-constructor.invariant w local names c.loop-constructor.first sees has all (fields_end w names c.args.constructors.now c.loop-constructor.constructor-index c.loop-constructor.first c.loop-constructor-test.false)
