use Rattle.std.proofs.Common.{◌<◌, refl, subst, sym}
use Rattle.std.proofs.lemmas.List.{length-map}
use Rattle.cu_modules.specs.Ordering.{module_of, modules_of}
use Rattle.cu_translation.specs.Functions.{goal_name}
use Rattle.cu_translation.specs.ModuleNames.{id_of, names_in}
use Rattle.cu_toplevel.proofs.TopLemmas.{owned_as}
use Rattle.cu_toplevel.proofs.top_names.TopNames.of_goal.Goals as goal

pub returns-clause-tells : goal.returns-clause-tells
returns-clause-tells c =
    let names = c.args.names.now in
    let modules = c.args.modules.now in
    record {
      modules = modules_of names modules;
      entities = c.requires.entities;
      scopes = c.requires.scopes;
      table = refl;
      within = subst (λ n. c.args.root < n) (sym (length-map modules (module_of names))) c.requires.root;
      is = owned_as (names_in names (modules_of names modules) c.args.root) (id_of names goal_name) c.goal_owner-owner.result (sym c.goal_owner-owner.ensures);
    }
