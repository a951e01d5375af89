use Rattle.std.proofs.Common.{false, get_or, true}
use Rattle.cu_entities.specs.EntityMeaning.{entities_meaning}
use Rattle.cu_syntax.specs.Items.{import_list_meaning}
use Rattle.cu_modules.proofs.BindingLemmas.{no_entity}
use Rattle.cu_modules.proofs.HidingLemmas.{kept, passed_over}
use Rattle.cu_modules.proofs.ListLemmas.{all_chosen, is_taken, left_by}
use Rattle.cu_modules.proofs.lists.chosen.Goals as goal

pub exports-preserved-then-leaves : goal.exports-preserved-then-leaves
exports-preserved-then-leaves c = λ owner names differ own known.
    let es = c.args.exports.now in
    let i = c.exports.entity-index in
    passed_over names (is_taken (import_list_meaning names c.args.list.now) (entities_meaning names es)) es i no_entity c.exports.kept.items c.exports-test.true
    (left_by owner names es (get_or es i no_entity) c.args.list.now c.leaves.result true differ known (known i no_entity c.exports-test.true) own c.leaves.ensures c.if-leaves.true) (c.exports.invariant owner names differ own known)

pub exports-preserved : goal.exports-preserved
exports-preserved c = λ owner names differ own known.
    let es = c.args.exports.now in
    let i = c.exports.entity-index in
    kept names (is_taken (import_list_meaning names c.args.list.now) (entities_meaning names es)) es i no_entity c.exports.kept.items c.push.new.self.items c.exports-test.true
    (left_by owner names es (get_or es i no_entity) c.args.list.now c.leaves.result false differ known (known i no_entity c.exports-test.true) own c.leaves.ensures c.if-leaves.false)
    (known i no_entity c.exports-test.true) c.in_ok-push.ensures.items (c.exports.invariant owner names differ own known)

pub returns : goal.returns
returns c = λ owner names exported differ own are.
    all_chosen names (import_list_meaning names c.args.list.now) c.args.exports.now exported c.exports.entity-index c.exports.kept.items c.exports-test.false are
    (c.exports.invariant owner names differ own are.known)
