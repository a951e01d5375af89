-- Each step writes one character; the last one passes the end of the list.
use Rattle.std.proofs.Common.{◌≡◌, ℕ, ◌+◌, ◌<◌, List, [], ◌∷◌, ◌++◌, ap, arith, append-nil, drop, get_or, refl, sym, ◌∙◌}
use Rattle.std.specs.String.{string_bytes}
use Rattle.cu_values.specs.declared.cell.Cell.TheVariants.{Bottom}
use Rattle.cu_values.specs.Cells.{arity_of, first, read_all}
use Rattle.cu_values.specs.Display.{characters, string_text}
use Rattle.cu_values.proofs.StringLemmas.{ended, longer, no_parting, string_after, string_on, Ended, Longer}
use Rattle.cu_values.proofs.string.push_string.Goals as goal

pub loop-c-init : goal.loop-c-init
loop-c-init c =
    record {
      from = omega arith;
      within = c.requires.within;
      spelled = c.requires.spelled;
      letters = c.requires.characters;
      others = refl;
      text = rw (no_parting (characters (first (read_all (drop c.args.start c.args.cells.now))))) refl;
    }

pub bounds-cells-at : goal.bounds-cells-at
bounds-cells-at c = c.loop-c.invariant.within

pub bounds-cells-at-in-loop-c : goal.bounds-cells-at-in-loop-c
bounds-cells-at-in-loop-c c =
    let inv = c.loop-c.invariant in
    let more : 0 < arity_of (get_or c.args.cells.now c.loop-c.at Bottom) = omega (arith, c.arity.ensures) in
    let l : Longer c.args.cells.now c.loop-c.at = longer c.args.cells.now c.loop-c.at inv.within inv.spelled more inv.letters in
    omega (arith, l.within)

pub loop-c-preserved : goal.loop-c-preserved
loop-c-preserved c =
    let cells = c.args.cells.now in
    let at = c.loop-c.at in
    let inv = c.loop-c.invariant in
    let more : 0 < arity_of (get_or cells at Bottom) = omega (arith, c.arity.ensures) in
    let l : Longer cells at = longer cells at inv.within inv.spelled more inv.letters in
    let same : l.letter ≡ c.character-c.result = sym l.is ∙ sym c.character-c.ensures in
    let rest = characters (first (read_all (drop (at + 2) cells))) in
    let all : characters (first (read_all (drop at cells))) ≡ c.character-c.result ∷ rest = l.all ∙ ap (λ x. x ∷ rest) same in
    let whole = string_bytes c.args.text.now ++ string_text (characters (first (read_all (drop c.args.start cells)))) in
    let before : string_bytes c.loop-c.text ++ string_after c.loop-c.after_number (c.character-c.result ∷ rest) ≡ whole =
    ap (λ (x : List ℕ). string_bytes c.loop-c.text ++ string_after c.loop-c.after_number x) (sym all) ∙ inv.text in
    record {
      from = omega arith;
      within = l.within;
      spelled = l.spelled;
      letters = l.rest;
      others = l.others ∙ inv.others;
      text = rw (c.is_numeric-after_number.ensures)
          (string_on c.loop-c.after_number c.character-c.result rest (string_bytes c.loop-c.text) (string_bytes c.push_parting.new.text)
          (string_bytes c.push_escaped.new.text) whole c.in_ok-push_parting.ensures c.in_ok-push_escaped.ensures before);
    }

pub returns-clause-text : goal.returns-clause-text
returns-clause-text c =
    let cells = c.args.cells.now in
    let at = c.loop-c.at in
    let inv = c.loop-c.invariant in
    let end : Ended cells at = ended cells at inv.within inv.spelled (omega (arith, c.arity.ensures)) inv.letters in
    let whole = string_bytes c.args.text.now ++ string_text (characters (first (read_all (drop c.args.start cells)))) in
    let left : string_bytes c.loop-c.text ++ [] ≡ whole =
    ap (λ (x : List ℕ). string_bytes c.loop-c.text ++ string_after c.loop-c.after_number x) (sym end.none) ∙ inv.text in
    sym (append-nil (string_bytes c.loop-c.text)) ∙ left

pub returns-clause-spelled : goal.returns-clause-spelled
returns-clause-spelled c =
    let inv = c.loop-c.invariant in
    let end : Ended c.args.cells.now c.loop-c.at =
    ended c.args.cells.now c.loop-c.at inv.within inv.spelled (omega (arith, c.arity.ensures)) inv.letters in
    end.spelled

pub returns-clause-others : goal.returns-clause-others
returns-clause-others c =
    let inv = c.loop-c.invariant in
    let end : Ended c.args.cells.now c.loop-c.at =
    ended c.args.cells.now c.loop-c.at inv.within inv.spelled (omega (arith, c.arity.ensures)) inv.letters in
    end.others ∙ inv.others
