use Rattle.std.proofs.Common.{subst, sym}
use Rattle.std.specs.Prelude.{OnOk}
use Rattle.cu_modules.proofs.EntityLemmas.{text_is, text_is_not}
use Rattle.cu_modules.specs.BuiltInEntities.{prelude_name}
use Rattle.cu_names.specs.Texts.{text_of}
use Rattle.cu_toplevel.specs.Declarations.{AreListed, Lists}
use Rattle.cu_toplevel.specs.Inside.Gathering.{and_given}
use Rattle.cu_toplevel.proofs.DeclarationLemmas.{not_given}
use Rattle.cu_toplevel.proofs.declarations.Declarations.add_given.Goals as goal

pub add_first-requires-clause-prelude : goal.add_first-requires-clause-prelude
add_first-requires-clause-prelude c = text_is c.args.names.now c.args.owner c.text.result.now prelude_name c.eq.result c.text.ensures.text c.eq.ensures c.if-eq.true

pub returns-then-eq : goal.returns-then-eq
returns-then-eq c = λ before differ has.
    let is = text_is c.args.names.now c.args.owner c.text.result.now prelude_name c.eq.result c.text.ensures.text c.eq.ensures c.if-eq.true in
    subst (λ text. OnOk c.add_first.result (AreListed c.args.names.now (and_given text before) c.add_first.new.self)) (sym is) (c.add_first.ensures before differ has)

pub returns : goal.returns
returns c = λ before differ has.
    let is = text_is_not c.args.names.now c.args.owner c.text.result.now prelude_name c.eq.result c.text.ensures.text c.eq.ensures c.if-eq.false in
    subst (λ (l : Lists). AreListed c.args.names.now l c.args.self.now) (not_given (text_of c.args.names.now c.args.owner) before is) has
