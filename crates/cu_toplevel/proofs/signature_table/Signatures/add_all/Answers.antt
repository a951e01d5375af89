use Rattle.std.proofs.Common.{None, map, subst, take_all}
use Rattle.cu_syntax.specs.declared.name.Name.{Name}
use Rattle.cu_syntax.specs.Names.{name_meaning}
use Rattle.cu_syntax.specs.Types.{type_meaning}
use Rattle.cu_toplevel.specs.Inside.SignatureTables.{AreSignatures, and_several}
use Rattle.cu_toplevel.proofs.SignatureTableLemmas.{name_more, no_name}
use Rattle.cu_toplevel.proofs.signature_table.Signatures.add_all.Goals as goal

pub functions-init : goal.functions-init
functions-init c = λ owner names told differ owned own has. no_name owner names (type_meaning names c.args.declared) told c.args.self.now has

pub functions-preserved : goal.functions-preserved
functions-preserved c = λ owner names told differ owned own has.
    let d : Name = record { text = record { 0 = 0 }; qualifier = None; base = record { 0 = 0 }; place = record { «module» = record { 0 = 0 }; line = 0; column = 0 } } in
    name_more owner names (type_meaning names c.args.declared) told c.args.functions.now c.functions.function-index d c.add.new.self c.functions-test.true
    (c.in_ok-add.ensures owner names _ differ (owned c.functions.function-index d c.functions-test.true).text own (c.functions.invariant owner names told differ owned own has))

pub returns : goal.returns
returns c = λ owner names told differ owned own has.
    subst (λ functions. AreSignatures owner names (and_several (map (name_meaning names) functions) (type_meaning names c.args.declared) told) c.functions.self)
    (take_all c.functions.function-index c.args.functions.now c.functions-test.false) (c.functions.invariant owner names told differ owned own has)
