use Rattle.std.proofs.Common.{◌++◌, [], take_all, subst}
use Rattle.std.specs.List.{flat_map}
use Rattle.cu_modules.specs.BuiltInEntities.{single_type}
use Rattle.cu_modules.specs.Known.{AreEntities, listed_texts}
use Rattle.cu_modules.proofs.EntityLemmas.{single_more, there_at}
use Rattle.cu_modules.proofs.built_in.add_single_types.Goals as goal

pub found-name-requires : goal.found-name-requires
found-name-requires c = there_at c.args.names.now c.args.texts.now c.types.text-index (record { ref_ptr = (0, 0); now = [] }) c.types-test.true c.requires.there

pub types-preserved : goal.types-preserved
types-preserved c = λ before has.
    single_more c.args.names.now before c.args.texts.now c.types.text-index (record { ref_ptr = (0, 0); now = [] }) c.args.owner c.found-name.result c.types.entities.items c.push.new.self.items c.push-in-types.new.self.items
    c.types-test.true c.requires.known c.requires.prelude c.found-name.ensures c.in_ok-push.ensures.items c.in_ok-push-2.ensures.items (c.types.invariant before has)

pub returns : goal.returns
returns c = λ before has.
    subst (λ texts. AreEntities c.args.names.now (before ++ flat_map single_type (listed_texts texts)) c.types.entities.items)
    (take_all c.types.text-index c.args.texts.now c.types-test.false) (c.types.invariant before has)
