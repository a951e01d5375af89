use Rattle.std.proofs.Common.{◌∷◌, List, None, subst, sym}
use Rattle.cu_entities.specs.declared.entities.Entity.{Entity}
use Rattle.cu_syntax.specs.declared.items.Import.{Import}
use Rattle.cu_names.specs.Texts.{text_of}
use Rattle.cu_modules.specs.BuiltInEntities.{cons}
use Rattle.cu_modules.specs.Inside.Imported.{AreImportsOf}
use Rattle.cu_modules.specs.Known.{AreEntities}
use Rattle.cu_modules.specs.Ordering.{module_of}
use Rattle.cu_modules.specs.Scopes.{binding, imports_of, own_bindings, own_entities}
use Rattle.cu_modules.proofs.checking.scoped.Goals as goal

pub returns : goal.returns
returns c = λ before differ are.
    let names = c.args.names.now in
    let m = c.args.module.now in
    let mine = own_entities (module_of names m) in
    let own = c.in_ok-own.ensures in
    let imports = c.in_ok-imports.ensures differ in
    let first = subst (λ (es : List Entity). AreEntities names mine es) (sym c.as_slice.ensures.value) own in
    let second = subst (λ (es : List Entity). AreEntities names mine es) (sym c.as_slice-2.ensures.value) own in
    record {
      own = own;
      imports = imports;
      bindings = c.in_ok-bind_imports.ensures m.name names mine before (binding None cons ∷ own_bindings (text_of names m.name) mine) (imports_of (module_of names m)) differ
          (subst (λ (is : List Import). AreImportsOf m.name names (imports_of (module_of names m)) is) (sym c.as_slice-3.ensures.value) imports)
          (c.in_ok-visible.ensures names mine differ first) are (c.in_ok-scope.ensures mine differ c.requires.has.known second);
    }
