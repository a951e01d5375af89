use Rattle.std.proofs.Common.{◌∙◌, Result, ap, subst, sym}
use Rattle.std.specs.declared.alloc.AllocError.{AllocError}
use Rattle.std.specs.Prelude.{OnOk}
use Rattle.cu_syntax.specs.Answer.{item_meaning}
use Rattle.cu_syntax.specs.Items.{item_node}
use Rattle.cu_syntax.specs.Owners.{ItemNodeIsOf}
use Rattle.cu_syntax.specs.Syntax.{Item}
use Rattle.cu_toplevel.specs.declared.signature_table.Signatures.{Signatures}
use Rattle.cu_toplevel.specs.Inside.SignatureTables.{AreSignatures}
use Rattle.cu_translation.specs.LocalFunctions.{or_else}
use Rattle.cu_translation.specs.Parts.{signature_by}
use Rattle.cu_toplevel.proofs.SignatureTableLemmas.{nothing_more, other_item}
use Rattle.cu_toplevel.proofs.signature_table.Signatures.add_item.Goals.{in-Declaration, in_default}
use Rattle.cu_toplevel.proofs.signature_table.Signatures.add_item.Goals as goal

pub returns : goal.returns
returns c = λ owner names told differ owned has.
    let item = item_meaning names c.args.item.now in
    elim c.match-branch-2.branch [
      | in-Declaration w ↦
          let own = subst (ItemNodeIsOf owner names) w.in-Declaration.is (c.in_ok-declaration.ensures.owned owner names owned) in
          let added = subst (λ (i : Item). OnOk w.add_declaration.result (AreSignatures owner names (λ text. or_else (told text) (signature_by text i)) w.add_declaration.new.self))
          (sym (ap (item_node names) w.in-Declaration.is) ∙ c.in_ok-declaration.ensures.meaning names) (w.add_declaration.ensures owner names told differ own has) in
          subst (λ (s : Signatures). OnOk c.match-branch-2.result (AreSignatures owner names (λ text. or_else (told text) (signature_by text item)) s)) (sym w.self-is)
          (subst (λ (made : Result (Unit {0}) AllocError). OnOk made (AreSignatures owner names (λ text. or_else (told text) (signature_by text item)) w.add_declaration.new.self)) (sym w.result-is) added)
      | in_default w ↦
          subst (λ (s : Signatures). OnOk c.match-branch-2.result (AreSignatures owner names (λ text. or_else (told text) (signature_by text item)) s)) (sym w.self-is)
          (subst (λ (made : Result (Unit {0}) AllocError). OnOk made (AreSignatures owner names (λ text. or_else (told text) (signature_by text item)) c.args.self.now)) (sym w.result-is)
          (nothing_more owner names told (λ text. signature_by text item) c.args.self.now
          (λ text. other_item names item c.in_ok-declaration.field-0 text (c.in_ok-declaration.ensures.meaning names) w.in_default.not-Declaration) has))
    ]
