use Rattle.std.proofs.Common.{◌≡◌, false, slice_get, Some, refl, sym, subst, ◌∙◌, ap, true≢false}
use Rattle.std.specs.List.{list_any}
use Rattle.std.specs.Str.{bytes_eq}
use Rattle.cu_names.specs.Texts.{AllDiffer}
use Rattle.cu_names.proofs.TextLemmas.{texts_differ, text_at_position, contained_at, found_text, not_contained}
use Rattle.cu_names.proofs.names.Names.find.Goals as goal

pub returns-in-Some-clause-found : goal.returns-in-Some-clause-found
returns-in-Some-clause-found c =
    subst (λ texts. slice_get texts c.in-Some.index ≡ Some c.args.text.now) c.self.view_is
    (text_at_position c.self.inside.texts.keys c.args.text.now c.in-Some.index (sym c.in-Some.ensures.index))

pub returns-in-Some-clause-absent : goal.returns-in-Some-clause-absent
returns-in-Some-clause-absent c =
    (λ e. absurd (true≢false e), λ absent. absurd (absent (contained_at c.args.self.now c.args.text.now c.in-Some.index (returns-in-Some-clause-found c))))

pub returns-in-Some-clause-differ : goal.returns-in-Some-clause-differ
returns-in-Some-clause-differ c = subst AllDiffer c.self.view_is (texts_differ c.self.inside.texts.keys c.self.invariant)

pub returns-in-None-clause-absent : goal.returns-in-None-clause-absent
returns-in-None-clause-absent c =
    let none : list_any (bytes_eq c.args.text.now) c.args.self.now ≡ false =
    ap (list_any (bytes_eq c.args.text.now)) (sym c.self.view_is) ∙ found_text c.self.inside.texts.keys c.args.text.now ∙ sym c.in-None.ensures.found in
    (λ _. not_contained c.args.self.now c.args.text.now none, λ _. refl)

pub returns-in-None-clause-differ : goal.returns-in-None-clause-differ
returns-in-None-clause-differ c = subst AllDiffer c.self.view_is (texts_differ c.self.inside.texts.keys c.self.invariant)
