-- The patterns between the brackets, or none.
use Rattle.std.proofs.Common.{Global, Vec, ap, subst, sym, ◌∙◌}
use Rattle.std.specs.List.{All}
use Rattle.cu_lex.specs.Reading.{position_of}
use Rattle.cu_syntax.specs.declared.patterns.Pattern.{Pattern}
use Rattle.cu_syntax.specs.Patterns.{patterns_meaning}
use Rattle.cu_syntax.specs.SubtreeMeaning.{tree_of}
use Rattle.cu_syntax.specs.Syntax as syntax
use Rattle.cu_syntax.specs.Owners.{PatternIsOf}
use Rattle.cu_syntax.proofs.PatternForms.{list_of_none, list_of_patterns}
use Rattle.cu_syntax.proofs.OwnerLemmas.{none_yet}
use Rattle.cu_syntax.proofs.pattern_forms.list.Goals as goal
use Rattle.cu_syntax.proofs.pattern_forms.list.Goals.{in-None, in-Some+in_ok-elements-in-Some}

pub returns-clause-meaning : goal.returns-clause-meaning
returns-clause-meaning c = λ names.
    let tree = tree_of names c.args.tree in
    let part = tree_of names c.part.result in
    let at = position_of c.place.result in
    elim c.match-optional.branch [
      | in-Some+in_ok-elements-in-Some w ↦
          ap (λ (v : Vec Pattern Global). syntax.PatternList at (patterns_meaning names v.items)) w.elements-is
          ∙ list_of_patterns names c.args.tree.symbol tree part (tree_of names w.in-Some.elements) at w.in_ok-elements-in-Some.elements.items c.requires (c.args.tree.fits names)
          (c.place.ensures.position names) (c.part.ensures.tree names) (w.in-Some.ensures.tree names) (w.in_ok-elements-in-Some.ensures.trees names) w.in_ok-elements-in-Some.ensures.symbols
      | in-None w ↦
          ap (λ (v : Vec Pattern Global). syntax.PatternList at (patterns_meaning names v.items)) w.elements-is
          ∙ list_of_none names c.args.tree.symbol tree part at w.new-elements.result.items c.requires (c.args.tree.fits names) (c.place.ensures.position names) (c.part.ensures.tree names)
          (w.in-None.ensures.none names) w.new-elements.ensures.items
    ]

pub returns-clause-owned : goal.returns-clause-owned
returns-clause-owned c = λ owner names whole.
    elim c.match-optional.branch [
      | in-Some+in_ok-elements-in-Some w ↦ (
        c.place.ensures.owned owner names whole,
        subst (λ (v : Vec Pattern Global). All (PatternIsOf owner names) v.items) (sym w.elements-is)
            (w.in_ok-elements-in-Some.ensures.owned owner names (w.in-Some.ensures.owned owner names (c.part.ensures.owned owner names whole))),
      )
      | in-None w ↦ (
        c.place.ensures.owned owner names whole,
        subst (λ (v : Vec Pattern Global). All (PatternIsOf owner names) v.items) (sym w.elements-is) (none_yet (PatternIsOf owner names) w.new-elements.result.items w.new-elements.ensures.items),
      )
    ]
