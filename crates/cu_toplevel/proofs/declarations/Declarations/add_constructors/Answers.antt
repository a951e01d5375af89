use Rattle.std.proofs.Common.{◌≡◌, ◌++◌, ap, arith, length, map, subst, sym, take, take_all}
use Rattle.cu_names.specs.Texts.{text_of}
use Rattle.cu_syntax.specs.declared.items.ConstructorDeclaration.{ConstructorDeclaration}
use Rattle.cu_syntax.specs.Items.{constructor_meaning}
use Rattle.cu_syntax.specs.Owners.{ConstructorDeclarationIsOf}
use Rattle.cu_toplevel.specs.Declarations.{AreListed, Lists}
use Rattle.cu_toplevel.specs.Inside.Gathering.{and_constructors}
use Rattle.cu_translation.specs.Numbered.{constructor}
use Rattle.cu_toplevel.proofs.DeclarationLemmas.{constructor_more, no_constructor}
use Rattle.cu_toplevel.proofs.declarations.Declarations.add_constructors.Goals as goal

pub constructors-init : goal.constructors-init
constructors-init c = λ names before differ known owned has. subst (λ (l : Lists). AreListed names l c.args.self.now) (no_constructor (text_of names c.args.owner) before) has

pub constructors-preserved : goal.constructors-preserved
constructors-preserved c = λ names before differ known owned has.
    let o = c.args.owner in
    let cs = c.args.constructors.now in
    let i = c.constructors.constructor-index in
    let x = c.constructor-item.result in
    let all = c.constructors.invariant names before differ known owned has in
    let own = subst (λ (x : ConstructorDeclaration). ConstructorDeclarationIsOf o names x) (sym c.constructor-item.is) (owned i x c.constructors-test.true) in
    let counted : c.len.result ≡ length x.fields.items = omega (arith, c.len.ensures) in
    record {
      types = all.types;
      constructors = constructor_more names o before.constructors cs i x c.len.result c.add.new.self c.constructors-test.true c.constructor-item.is counted
          (c.in_ok-add.ensures names (before.constructors ++ map (constructor (text_of names o)) (map (constructor_meaning names) (take i cs))) differ (record { owner = known; name = own.1.text }) all.constructors);
      synonyms = all.synonyms;
      functions = all.functions;
    }

pub returns : goal.returns
returns c = λ names before differ known owned has.
    subst (λ (l : Lists). AreListed names l c.constructors.self)
    (ap (λ cs. and_constructors (text_of names c.args.owner) (map (constructor_meaning names) cs) before) (take_all c.constructors.constructor-index c.args.constructors.now c.constructors-test.false))
    (c.constructors.invariant names before differ known owned has)
