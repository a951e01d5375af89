use Rattle.std.proofs.Common.{◌∙◌, get_or, sym}
use Rattle.cu_entities.specs.EntityMeaning.{entities_meaning}
use Rattle.cu_syntax.specs.Names.{name_meaning}
use Rattle.cu_modules.proofs.BindingLemmas.{no_entity}
use Rattle.cu_modules.proofs.HidingLemmas.{kept, passed_over}
use Rattle.cu_modules.proofs.ImportFaultLemmas.{all_beside, is_one_of}
use Rattle.cu_modules.proofs.ListLemmas.{beside_by}
use Rattle.cu_modules.proofs.import_faults.constructors_beside.Goals as goal

pub exports-preserved-then-not-is_beside : goal.exports-preserved-then-not-is_beside
exports-preserved-then-not-is_beside c = λ owner names differ own known.
    let es = c.args.exports.now in
    let i = c.exports.entity-index in
    passed_over names (is_one_of (name_meaning names c.args.name.now) (entities_meaning names es)) es i no_entity c.exports.found.items c.exports-test.true
    (sym (c.is_beside.ensures ∙ beside_by owner names c.args.name.now es (get_or es i no_entity) differ own known (known i no_entity c.exports-test.true)) ∙ c.if-not-is_beside.true)
    (c.exports.invariant owner names differ own known)

pub exports-preserved : goal.exports-preserved
exports-preserved c = λ owner names differ own known.
    let es = c.args.exports.now in
    let i = c.exports.entity-index in
    kept names (is_one_of (name_meaning names c.args.name.now) (entities_meaning names es)) es i no_entity c.exports.found.items c.push.new.self.items c.exports-test.true
    (sym (c.is_beside.ensures ∙ beside_by owner names c.args.name.now es (get_or es i no_entity) differ own known (known i no_entity c.exports-test.true)) ∙ c.if-not-is_beside.false)
    (known i no_entity c.exports-test.true) c.in_ok-push.ensures.items (c.exports.invariant owner names differ own known)

pub returns : goal.returns
returns c = λ owner names es differ own are.
    all_beside names (name_meaning names c.args.name.now) c.args.exports.now es c.exports.entity-index c.exports.found.items c.exports-test.false are (c.exports.invariant owner names differ own are.known)
