use Rattle.std.proofs.Common.{◌≡◌, None, Option, ap, subst, sym}
use Rattle.std.specs.Map.{lookup}
use Rattle.std.specs.Option.{option_map}
use Rattle.std.specs.Prelude.{IfSome}
use Rattle.indexmap.specs.IndexMap.{get}
use Rattle.cu_names.specs.contracts.names.NameIdPartialEq.TheImpl.{eq-value}
use Rattle.cu_names.specs.declared.names.NameId.{NameId}
use Rattle.cu_syntax.specs.declared.types.TypeTerm.{TypeTerm}
use Rattle.cu_syntax.specs.Owners.{TypeIsOf}
use Rattle.cu_syntax.specs.Types.{type_meaning}
use Rattle.cu_toplevel.proofs.signature_table.Signatures.new.Goals as goal

pub returns : goal.returns
returns c = λ owner names.
    let none : (id : NameId) → get eq-value.it c.new.result id ≡ None = λ id. ap (lookup (eq-value.it id)) c.new.ensures.empty in
    record {
      gives = record {
        each = λ id known. ap (option_map (type_meaning names)) (none id);
        owned = λ id known. subst (λ (o : Option TypeTerm). IfSome o (TypeIsOf owner names)) (sym (none id)) tt;
      };
    }
