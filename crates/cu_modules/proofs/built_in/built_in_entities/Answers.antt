use Rattle.std.proofs.Common.{[]}
use Rattle.cu_modules.specs.BuiltInEntities.{prelude_name, set_functions_name}
use Rattle.cu_modules.proofs.EntityLemmas.{none_yet, of_another, of_prelude, of_set_functions, text_is, text_is_not}
use Rattle.cu_modules.proofs.built_in.built_in_entities.Goals as goal

pub add_first-requires-clause-prelude : goal.add_first-requires-clause-prelude
add_first-requires-clause-prelude c = text_is c.args.names.now c.args.owner c.text-text.result.now prelude_name c.eq.result c.text-text.ensures.text c.eq.ensures c.if-eq.true

pub returns-then-eq : goal.returns-then-eq
returns-then-eq c =
    of_prelude c.args.names.now c.args.owner c.add_first.new.entities.items
    (text_is c.args.names.now c.args.owner c.text-text.result.now prelude_name c.eq.result c.text-text.ensures.text c.eq.ensures c.if-eq.true)
    (c.in_ok-add_first.ensures [] (none_yet c.args.names.now c.new-entities.result.items c.new-entities.ensures.items))

pub returns-then-eq-2 : goal.returns-then-eq-2
returns-then-eq-2 c =
    of_set_functions c.args.names.now c.args.owner c.add_set_functions.new.entities.items
    (text_is c.args.names.now c.args.owner c.text-text.result.now set_functions_name c.eq-2.result c.text-text.ensures.text c.eq-2.ensures c.if-eq-2.true)
    (c.in_ok-add_set_functions.ensures [] (none_yet c.args.names.now c.new-entities.result.items c.new-entities.ensures.items))

pub returns : goal.returns
returns c =
    of_another c.args.names.now c.args.owner c.new-entities.result.items
    (text_is_not c.args.names.now c.args.owner c.text-text.result.now prelude_name c.eq.result c.text-text.ensures.text c.eq.ensures c.if-eq.false)
    (text_is_not c.args.names.now c.args.owner c.text-text.result.now set_functions_name c.eq-2.result c.text-text.ensures.text c.eq-2.ensures c.if-eq-2.false)
    c.new-entities.ensures.items
