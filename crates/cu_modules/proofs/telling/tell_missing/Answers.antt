use Rattle.std.proofs.Common.{List, get_or, map, refl}
use Rattle.std.specs.List.{list_any}
use Rattle.cu_syntax.specs.Names.{name_meaning}
use Rattle.cu_syntax.specs.Syntax.{Name}
use Rattle.cu_uses.specs.Faults.{Fault}
use Rattle.cu_modules.specs.Faults.{unless}
use Rattle.cu_modules.specs.Scopes.{is_called}
use Rattle.cu_modules.proofs.ToldLemmas.{missing_one, no_name, told_more, told_none, told_whole}
use Rattle.cu_modules.proofs.telling.tell_missing.Goals as goal

pub listed-init : goal.listed-init
listed-init c = λ owner names es differ are owned. told_none owner names c.args.first.now

pub listed-preserved : goal.listed-preserved
listed-preserved c = λ owner names es differ are owned.
    let missing : Name → List Fault = λ (n : Name). unless (list_any (is_called n) es) n in
    let xs = c.args.listed.now in
    let i = c.listed.name-index in
    let x = get_or xs i no_name in
    let own = owned i no_name c.listed-test.true in
    told_more owner names missing (name_meaning names) xs i x no_name c.args.first.now c.listed.first c.tell_unless.new.first c.listed-test.true refl
    (missing_one owner names es c.args.entities.now x c.is_name_of.result c.listed.first c.tell_unless.new.first differ own are c.is_name_of.ensures (c.tell_unless.ensures owner names own))
    (c.listed.invariant owner names es differ are owned)

pub returns : goal.returns
returns c = λ owner names es differ are owned.
    told_whole owner names (λ (n : Name). unless (list_any (is_called n) es) n) (name_meaning names) c.args.listed.now c.listed.name-index (map (name_meaning names) c.args.listed.now) c.args.first.now c.listed.first
    c.listed-test.false refl (c.listed.invariant owner names es differ are owned)
