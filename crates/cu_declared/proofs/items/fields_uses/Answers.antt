use Rattle.std.proofs.Common.{List, subst}
use Rattle.std.specs.List.{All}
use Rattle.cu_syntax.specs.declared.types.TypeTerm.{TypeTerm}
use Rattle.cu_syntax.specs.Owners.{ConstructorDeclarationIsOf, TypeIsOf}
use Rattle.cu_declared.specs.Inside.Gathered.{Adds, in_types}
use Rattle.cu_declared.proofs.ItemLemmas.{fields_end, fields_prefix}
use Rattle.cu_declared.proofs.items.fields_uses.Goals as goal

pub loop-constructor-preserved : goal.loop-constructor-preserved
loop-constructor-preserved c owner names after all rest =
    c.loop-constructor.invariant owner names after all
    (fields_prefix (ConstructorDeclarationIsOf owner names) owner names c.args.constructors.now c.loop-constructor.constructor-index c.constructor-item.result c.loop-constructor.found.items c.types.new.found.items after
    c.constructor-item.is c.loop-constructor-test.true all
    (λ of. subst (λ (ts : List TypeTerm). All (TypeIsOf owner names) ts → Adds owner names c.loop-constructor.found.items (in_types names ts) c.types.new.found.items) c.as_slice.ensures.value
    (c.in_ok-types.ensures owner names) of.2) rest)

pub returns : goal.returns
returns c owner names all =
    c.loop-constructor.invariant owner names c.loop-constructor.found.items all (fields_end owner names c.args.constructors.now c.loop-constructor.constructor-index c.loop-constructor.found.items c.loop-constructor-test.false)
