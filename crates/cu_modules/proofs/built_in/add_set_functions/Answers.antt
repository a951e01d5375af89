use Rattle.std.proofs.Common.{◌++◌, [], take_all, subst}
use Rattle.cu_modules.specs.BuiltInEntities.{set_functions}
use Rattle.cu_modules.specs.Known.{AreEntities, listed_texts}
use Rattle.cu_names.specs.Texts.{text_of}
use Rattle.cu_modules.proofs.EntityLemmas.{set_more, there_at}
use Rattle.cu_modules.proofs.built_in.add_set_functions.Goals as goal

pub found-name-requires : goal.found-name-requires
found-name-requires c = there_at c.args.names.now c.args.texts.now c.texts.parameters (record { ref_ptr = (0, 0); now = [] }) c.texts-test.true c.requires.there

pub texts-preserved : goal.texts-preserved
texts-preserved c = λ before has.
    set_more c.args.names.now before c.args.texts.now c.texts.parameters (record { ref_ptr = (0, 0); now = [] }) c.args.owner c.found-name.result c.texts.entities.items c.push.new.self.items
    c.texts-test.true c.requires.known c.found-name.ensures c.in_ok-push.ensures.items (c.texts.invariant before has)

pub returns : goal.returns
returns c = λ before has.
    subst (λ texts. AreEntities c.args.names.now (before ++ set_functions (text_of c.args.names.now c.args.owner) 0 (listed_texts texts)) c.texts.entities.items)
    (take_all c.texts.parameters c.args.texts.now c.texts-test.false) (c.texts.invariant before has)
