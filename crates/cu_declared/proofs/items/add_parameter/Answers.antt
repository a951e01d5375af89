use Rattle.std.proofs.Common.{rules, length, subst}
use Rattle.cu_names.specs.Texts.{text_of}
use Rattle.cu_syntax.specs.declared.items.ItemNode.TheVariants as item
use Rattle.cu_syntax.specs.Owners.{ItemNodeIsOf}
use Rattle.cu_declared.proofs.AddsLemmas.{on_ok}
use Rattle.cu_declared.proofs.ItemLemmas.{counted, parameters_found}
use Rattle.cu_declared.proofs.NumberLemmas.{gains_none}
use Rattle.cu_declared.proofs.items.add_parameter.Goals as goal

pub returns-in-Import : goal.returns-in-Import
returns-in-Import c names differ known is =
    parameters_found names (text_of names c.args.owner) c.args.item.now c.in_ok-node.node (item.Import c.in-Import._import) c.args.numbers.now c.args.numbers.now (c.in_ok-node.ensures.meaning names) c.in-Import.is
    (gains_none names c.args.numbers.now)

pub returns-in-Fixity : goal.returns-in-Fixity
returns-in-Fixity c names differ known is =
    parameters_found names (text_of names c.args.owner) c.args.item.now c.in_ok-node.node (item.Fixity c.in-Fixity.field-0 c.in-Fixity.field-1 c.in-Fixity.field-2 c.in-Fixity._operators) c.args.numbers.now c.args.numbers.now
    (c.in_ok-node.ensures.meaning names) c.in-Fixity.is (gains_none names c.args.numbers.now)

pub returns-in-Declaration : goal.returns-in-Declaration
returns-in-Declaration c names differ known is =
    parameters_found names (text_of names c.args.owner) c.args.item.now c.in_ok-node.node (item.Declaration c.in-Declaration.field-0) c.args.numbers.now c.args.numbers.now
    (c.in_ok-node.ensures.meaning names) c.in-Declaration.is (gains_none names c.args.numbers.now)

pub returns-in-Data : goal.returns-in-Data
returns-in-Data c names differ known is =
    let of = subst (ItemNodeIsOf c.args.owner names) c.in-Data.is (c.in_ok-node.ensures.owned c.args.owner names is) in
    on_ok c.add.result
    (λ gains. parameters_found names (text_of names c.args.owner) c.args.item.now c.in_ok-node.node (item.Data c.in-Data.field-0 c.in-Data.name c.in-Data.parameters c.in-Data._constructors) c.args.numbers.now c.add.new.self
    (c.in_ok-node.ensures.meaning names) c.in-Data.is
    (counted names (text_of names c.args.owner) (text_of names c.in-Data.name.text) c.len.result (length c.in-Data.parameters.items) c.args.numbers.now c.add.new.self (search rules) gains))
    (c.add.ensures names differ known of.1.text)

pub returns-in-Synonym : goal.returns-in-Synonym
returns-in-Synonym c names differ known is =
    let of = subst (ItemNodeIsOf c.args.owner names) c.in-Synonym.is (c.in_ok-node.ensures.owned c.args.owner names is) in
    on_ok c.add-in-Synonym.result
    (λ gains. parameters_found names (text_of names c.args.owner) c.args.item.now c.in_ok-node.node (item.Synonym c.in-Synonym.field-0 c.in-Synonym.name c.in-Synonym.parameters c.in-Synonym.field-3) c.args.numbers.now c.add-in-Synonym.new.self
    (c.in_ok-node.ensures.meaning names) c.in-Synonym.is
    (counted names (text_of names c.args.owner) (text_of names c.in-Synonym.name.text) c.len-in-Synonym.result (length c.in-Synonym.parameters.items) c.args.numbers.now c.add-in-Synonym.new.self (search rules) gains))
    (c.add-in-Synonym.ensures names differ known of.1.text)
