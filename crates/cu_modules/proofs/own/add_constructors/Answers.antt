use Rattle.std.proofs.Common.{◌++◌, map, subst, take_all}
use Rattle.cu_modules.specs.Known.{AreEntities}
use Rattle.cu_modules.specs.OwnEntities.{constructors_declared}
use Rattle.cu_names.specs.Texts.{text_of}
use Rattle.cu_syntax.specs.Items.{constructor_meaning}
use Rattle.cu_modules.proofs.OwnLemmas.{constructor_more}
use Rattle.cu_modules.proofs.own.add_constructors.Goals as goal

pub constructors-preserved : goal.constructors-preserved
constructors-preserved c = λ names before known known_type owned has.
    constructor_more names before c.args.constructors.now c.constructors.constructor-index c.constructor-item.result c.args.owner c.args.type_name c.constructors.entities.items c.push.new.self.items
    c.constructors-test.true c.constructor-item.is known known_type owned c.in_ok-push.ensures.items (c.constructors.invariant names before known known_type owned has)

pub returns : goal.returns
returns c = λ names before known known_type owned has.
    subst (λ cs. AreEntities names (before ++ constructors_declared (text_of names c.args.owner) (text_of names c.args.type_name) (map (constructor_meaning names) cs)) c.constructors.entities.items)
    (take_all c.constructors.constructor-index c.args.constructors.now c.constructors-test.false) (c.constructors.invariant names before known known_type owned has)
