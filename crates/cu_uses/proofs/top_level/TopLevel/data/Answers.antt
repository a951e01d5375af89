use Rattle.std.proofs.Common.{[], ◌∷◌, ◌∙◌, List, refl, subst}
use Rattle.std.specs.List.{All}
use Rattle.cu_syntax.specs.declared.name.Name.{Name}
use Rattle.cu_syntax.specs.Owners.{NameIsOf}
use Rattle.cu_uses.specs.Binders.{Names}
use Rattle.cu_uses.specs.Inside.Blocks.{Gathers}
use Rattle.cu_uses.specs.Gathered.{names_meaning}
use Rattle.cu_uses.proofs.FoundLemmas.{adds_none, adds_one}
use Rattle.cu_uses.proofs.TopLemmas.{constructors_owned}
use Rattle.cu_uses.proofs.top_level.TopLevel.data.Goals as goal

pub returns : goal.returns
returns c owner names of all = record {
  values = subst (λ (xs : List Name). All (NameIsOf owner names) xs → Gathers owner names c.args.self.now.values (Names (names_meaning names xs) ∷ []) [] c.names.new.self)
      (c.as_slice.ensures.value ∙ c.in_ok-declared.ensures) (c.in_ok-names.ensures owner names) (constructors_owned owner names c.args.constructors.now all);
  types = adds_one owner names c.args.self.now.types.items c.push.new.self.items c.args.name of c.in_ok-push.ensures.items;
  fixed = adds_none owner names c.args.self.now.fixed.items;
}
