use Rattle.std.proofs.Common.{◌≡◌, ◌↔◌, Option, Some, length, refl, subst, sym}
use Rattle.std.proofs.lemmas.Option.{slice_get_read}
use Rattle.std.specs.Option.{option_map}
use Rattle.std.specs.Prelude.{IfSome}
use Rattle.cu_entities.specs.declared.entities.Entity.{Entity}
use Rattle.cu_entities.specs.EntityMeaning.{EntityIsKnown, entity_meaning, space_meaning}
use Rattle.cu_modules.specs.Means.{Means}
use Rattle.cu_modules.proofs.ScopingLemmas.{means, only_known, table_known}
use Rattle.cu_modules.proofs.scopes.Scopes.meaning.Goals as goal

pub returns-clause-meaning : goal.returns-clause-meaning
returns-clause-meaning c = λ names modules name entity are named.
    let found = rw c.deref.ensures.value at c.in_ok-table.ensures.lookup in
    let tables = c.args.self.now.tables.items in
    let there = slice_get_read tables (length tables) c.args.module c.in_ok-table.table.now refl found.3.0 found.1 in
    subst (λ (o : Option Entity). (option_map (entity_meaning names) o ≡ Some entity) ↔ Means modules c.args.module (space_meaning c.args.space) name entity) (sym c.alone.ensures)
    (means names modules c.args.self.now c.args.module c.in_ok-table.table.now c.args.qualifier c.args.base c.args.space name c.find.result entity are named there
    (λ bindings key tells. c.find.ensures.meaning names bindings key tells))

pub returns-clause-known : goal.returns-clause-known
returns-clause-known c = λ names modules are.
    let found = rw c.deref.ensures.value at c.in_ok-table.ensures.lookup in
    let tables = c.args.self.now.tables.items in
    let there = slice_get_read tables (length tables) c.args.module c.in_ok-table.table.now refl found.3.0 found.1 in
    let scope = table_known names modules c.args.self.now c.args.module c.in_ok-table.table.now are there in
    subst (λ (o : Option Entity). IfSome o (EntityIsKnown names)) (sym c.alone.ensures) (only_known names c.find.result (c.find.ensures.known names scope.0 scope.1))
