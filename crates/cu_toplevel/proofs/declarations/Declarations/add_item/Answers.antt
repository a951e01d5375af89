use Rattle.std.proofs.Common.{◌≡◌, ◌∙◌, ◌++◌, ◌∷◌, List, [], ap, arith, length, map, subst, sym}
use Rattle.std.proofs.lemmas.List.{length-map}
use Rattle.std.specs.List.{All}
use Rattle.std.specs.Prelude.{OnOk}
use Rattle.cu_lex.specs.Reading.{position_of}
use Rattle.cu_names.specs.Texts.{text_of}
use Rattle.cu_syntax.specs.Answer.{item_meaning}
use Rattle.cu_syntax.specs.Items.{constructor_meaning, item_node}
use Rattle.cu_syntax.specs.Names.{name_meaning}
use Rattle.cu_syntax.specs.Owners.{ConstructorDeclarationIsOf, ItemNodeIsOf}
use Rattle.cu_syntax.specs.Types.{type_meaning}
use Rattle.cu_toplevel.specs.Declarations.{AreListed, Lists}
use Rattle.cu_toplevel.specs.Inside.Gathering.{and_constructors}
use Rattle.cu_toplevel.specs.Listings.{IsListing}
use Rattle.cu_translation.specs.Numbered.{Declared, declared}
use Rattle.cu_toplevel.proofs.DeclarationLemmas.{and_synonym, and_type, data_is, other_is, synonym_is}
use Rattle.cu_toplevel.proofs.declarations.Declarations.add_item.Goals as goal

pub returns-in-Data : goal.returns-in-Data
returns-in-Data c = λ names before differ known owned has.
    let o = c.args.owner in
    let own = subst (ItemNodeIsOf o names) c.in-Data.is (c.in_ok-name.ensures.owned o names owned) in
    let name = c.in-Data.name in
    let ps = map (name_meaning names) c.in-Data.parameters.items in
    let cs = map (constructor_meaning names) c.in-Data.constructors.items in
    let is = sym (c.in_ok-name.ensures.meaning names) ∙ ap (item_node names) c.in-Data.is in
    let counted : c.len.result ≡ length c.in-Data.parameters.items = omega (arith, c.len.ensures) in
    let d : declared (text_of names o) (text_of names name.text) c.len.result ≡ declared (text_of names o) (text_of names name.text) (length ps) =
    ap (declared (text_of names o) (text_of names name.text)) (counted ∙ sym (length-map c.in-Data.parameters.items (name_meaning names))) in
    let l = and_type (declared (text_of names o) (text_of names name.text) (length ps)) before in
    let types = subst (λ (d : Declared). IsListing names (before.types ++ d ∷ []) c.add.new.self) d
    (c.in_ok-add-in-Data.ensures names before.types differ (record { owner = known; name = own.1.text }) has.types) in
    let listed : AreListed names l (record { types = c.add.new.self; constructors = c.args.self.now.constructors; synonyms = c.args.self.now.synonyms; functions = c.args.self.now.functions }) =
    record { types = types; constructors = has.constructors; synonyms = has.synonyms; functions = has.functions } in
    let all = subst (All (ConstructorDeclarationIsOf o names)) (sym c.as_slice.ensures.value) own.3 in
    subst (λ (l : Lists). OnOk c.add_constructors.result (AreListed names l c.add_constructors.new.self))
    (ap (λ cs. and_constructors (text_of names o) (map (constructor_meaning names) cs) l) c.as_slice.ensures.value
    ∙ data_is (text_of names o) before (item_meaning names c.args.item.now) (position_of c.in-Data.field-0) (name_meaning names name) ps cs is)
    (c.add_constructors.ensures names l differ known all listed)

pub returns-in-Synonym : goal.returns-in-Synonym
returns-in-Synonym c = λ names before differ known owned has.
    let o = c.args.owner in
    let own = subst (ItemNodeIsOf o names) c.in-Synonym.is (c.in_ok-name.ensures.owned o names owned) in
    let name = c.in-Synonym.name in
    let ps = map (name_meaning names) c.in-Synonym.parameters.items in
    let is = sym (c.in_ok-name.ensures.meaning names) ∙ ap (item_node names) c.in-Synonym.is in
    let counted : c.len-in-Synonym.result ≡ length c.in-Synonym.parameters.items = omega (arith, c.len-in-Synonym.ensures) in
    let d : declared (text_of names o) (text_of names name.text) c.len-in-Synonym.result ≡ declared (text_of names o) (text_of names name.text) (length ps) =
    ap (declared (text_of names o) (text_of names name.text)) (counted ∙ sym (length-map c.in-Synonym.parameters.items (name_meaning names))) in
    let synonyms = subst (λ (d : Declared). IsListing names (before.synonyms ++ d ∷ []) c.add-in-Synonym.new.self) d
    (c.in_ok-add-in-Synonym.ensures names before.synonyms differ (record { owner = known; name = own.1.text }) has.synonyms) in
    let l = and_synonym (declared (text_of names o) (text_of names name.text) (length ps)) before in
    let listed : AreListed names l (record { types = c.args.self.now.types; constructors = c.args.self.now.constructors; synonyms = c.add-in-Synonym.new.self; functions = c.args.self.now.functions }) =
    record { types = has.types; constructors = has.constructors; synonyms = synonyms; functions = has.functions } in
    subst (λ (l : Lists). AreListed names l (record { types = c.args.self.now.types; constructors = c.args.self.now.constructors; synonyms = c.add-in-Synonym.new.self; functions = c.args.self.now.functions }))
    (synonym_is (text_of names o) before (item_meaning names c.args.item.now) (position_of c.in-Synonym.field-0) (name_meaning names name) ps (type_meaning names c.in-Synonym.field-3) is) listed

pub returns : goal.returns
returns c = λ names before differ known owned has.
    subst (λ (l : Lists). AreListed names l c.args.self.now)
    (other_is names (text_of names c.args.owner) before (item_meaning names c.args.item.now) c.in_ok-name.field-0 (c.in_ok-name.ensures.meaning names) c.in_default.not-Data c.in_default.not-Synonym) has
