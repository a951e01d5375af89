use Rattle.std.proofs.Common.{◌++◌, [], map, take_all, subst}
use Rattle.cu_entities.specs.EntityMeaning.{sort_meaning}
use Rattle.cu_modules.specs.BuiltInEntities.{entity}
use Rattle.cu_modules.specs.Known.{AreEntities, listed_texts}
use Rattle.cu_names.specs.Texts.{text_of}
use Rattle.cu_modules.proofs.EntityLemmas.{named_more, there_at}
use Rattle.cu_modules.proofs.built_in.add_named.Goals as goal

pub found-name-requires : goal.found-name-requires
found-name-requires c = there_at c.args.names.now c.args.texts.now c.texts.text-index (record { ref_ptr = (0, 0); now = [] }) c.texts-test.true c.requires.there

pub texts-preserved : goal.texts-preserved
texts-preserved c = λ before has.
    named_more c.args.names.now before c.args.texts.now c.texts.text-index (record { ref_ptr = (0, 0); now = [] }) c.args.owner c.found-name.result c.args.sort c.texts.entities.items c.push.new.self.items
    c.texts-test.true c.requires.known c.requires.sort c.found-name.ensures c.in_ok-push.ensures.items (c.texts.invariant before has)

pub returns : goal.returns
returns c = λ before has.
    subst (λ texts. AreEntities c.args.names.now (before ++ map (entity (text_of c.args.names.now c.args.owner) (sort_meaning c.args.names.now c.args.sort)) (listed_texts texts)) c.texts.entities.items)
    (take_all c.texts.text-index c.args.texts.now c.texts-test.false) (c.texts.invariant before has)
