use Rattle.std.proofs.Common.{◌∙◌, ap, if◌then◌else◌, sym}
use Rattle.cu_fixity.specs.Fixities.{cons}
use Rattle.cu_names.specs.Texts.{text_of}
use Rattle.std.specs.List.{find}
use Rattle.std.specs.Option.{unwrap_or}
use Rattle.cu_fixity.specs.Pieces.{undeclared}
use Rattle.cu_toplevel.specs.FixityTables.{is_named}
use Rattle.cu_translation.specs.ModuleNames.{fixity_declared}
use Rattle.cu_toplevel.proofs.EntityLemmas.{cons_test}
use Rattle.cu_toplevel.proofs.entities.Entities.fixity_of.Goals as goal

pub returns-then-is_cons : goal.returns-then-is_cons
returns-then-is_cons c = λ names modules known_owner known_name has.
    let e = c.args.self.now in
    let test = sym (cons_test names c.args.owner c.args.name e.prelude e.cons has.differ known_owner known_name has.prelude has.cons) ∙ sym c.is_cons.ensures ∙ c.if-is_cons.true in
    sym (ap (λ b. if b then cons else unwrap_or (fixity_declared (text_of names c.args.name) (find (is_named (text_of names c.args.owner)) modules)) undeclared) test)

pub returns : goal.returns
returns c = λ names modules known_owner known_name has.
    let e = c.args.self.now in
    let test = sym (cons_test names c.args.owner c.args.name e.prelude e.cons has.differ known_owner known_name has.prelude has.cons) ∙ sym c.is_cons.ensures ∙ c.if-is_cons.false in
    c.find.ensures names modules known_owner known_name has.fixities
    ∙ sym (ap (λ b. if b then cons else unwrap_or (fixity_declared (text_of names c.args.name) (find (is_named (text_of names c.args.owner)) modules)) undeclared) test)
