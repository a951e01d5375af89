use Rattle.std.proofs.Common.{◌≡◌, Some, sym, ap, ◌∙◌}
use Rattle.std.proofs.lemmas.Option.{slice_get-map}
use Rattle.std.proofs.lemmas.Slice.Eq.{bytes_eq-Decides}
use Rattle.std.specs.Option.{option_map}
use Rattle.std.specs.String.{string_bytes}
use Rattle.cu_names.specs.Texts.{interned}
use Rattle.cu_names.proofs.TextLemmas.{texts_differ, texts_of, texts-insert, interned-present}
use Rattle.cu_names.proofs.names.Names.intern.Goals as goal

pub returns-in-Some-clause-names : goal.returns-in-Some-clause-names
returns-in-Some-clause-names c = interned-present c.args.self.now c.args.text.now c.in-Some.id.0 c.in-Some.ensures.found

pub returns-clause-id : goal.returns-clause-id
returns-clause-id c =
    let stored = c.in_ok-index.ensures.stored in
    let same : string_bytes c.in_ok-owned.owned ≡ string_bytes stored.0 =
    (bytes_eq-Decides (string_bytes c.in_ok-owned.owned) (string_bytes stored.0)).0 stored.2 in
    slice_get-map string_bytes c.insert_full.new.self.keys c.in_ok-index.index ∙ ap (option_map string_bytes) stored.1
    ∙ ap Some (sym same ∙ c.in_ok-owned.ensures.ok)

pub returns-clause-names : goal.returns-clause-names
returns-clause-names c =
    ap texts_of c.in_ok-index.ensures.keys
    ∙ texts-insert c.self.inside.texts.keys c.in_ok-owned.owned c.args.text.now c.in_ok-owned.ensures.ok
    ∙ ap (λ texts. interned texts c.args.text.now) c.self.view_is

pub returns-clause-differ : goal.returns-clause-differ
returns-clause-differ c = texts_differ c.insert_full.new.self.keys c.in_ok-index.ensures.unique
