use Rattle.std.proofs.Common.{◌++◌, None, map, subst, take_all}
use Rattle.cu_syntax.specs.declared.name.Name.{Name}
use Rattle.cu_syntax.specs.Names.{name_meaning}
use Rattle.cu_toplevel.specs.FixityTables.{Declares}
use Rattle.cu_translation.specs.ModuleNames.{declaration}
use Rattle.cu_toplevel.proofs.FixityLemmas.{no_operator, operator_more}
use Rattle.cu_toplevel.proofs.fixities.ModuleFixities.add_all.Goals as goal

pub operators-init : goal.operators-init
operators-init c = λ owner names before differ owned has. no_operator names before c.args.self.now has

pub operators-preserved : goal.operators-preserved
operators-preserved c = λ owner names before differ owned has.
    let d : Name = record { text = record { 0 = 0 }; qualifier = None; base = record { 0 = 0 }; place = record { «module» = record { 0 = 0 }; line = 0; column = 0 } } in
    operator_more owner names before c.args.fixity.side c.args.fixity.level c.args.operators.now c.operators.operator-index d c.operators.self c.add.new.self c.operators-test.true owned
    (λ all known has. c.in_ok-add.ensures names all differ known has) (c.operators.invariant owner names before differ owned has)

pub returns : goal.returns
returns c = λ owner names before differ owned has.
    subst (λ operators. Declares names (before ++ map (declaration c.args.fixity.side c.args.fixity.level) (map (name_meaning names) operators)) c.operators.self)
    (take_all c.operators.operator-index c.args.operators.now c.operators-test.false) (c.operators.invariant owner names before differ owned has)
