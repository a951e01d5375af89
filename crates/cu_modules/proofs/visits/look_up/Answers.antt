use Rattle.std.proofs.Common.{◌∙◌, ap}
use Rattle.std.specs.Option.{option_map}
use Rattle.cu_modules.proofs.LookUpLemmas.{built_in_at, built_in_lacks, fetched_found, fetched_lacks, fetched_own, is_fetched, missing_lacks, on_ok, too_many_lack}
use Rattle.cu_names.specs.Texts.{text_of}
use Rattle.cu_modules.proofs.visits.look_up.Goals as goal

pub returns-in-Some-clause-lacking : goal.returns-in-Some-clause-lacking
returns-in-Some-clause-lacking g c =
    let names = c.args.names.now in
    let is = built_in_at names c.args.name c.text.result.now (option_map (λ t. t.now) c.text-2.result) c.text.ensures.text c.text-2.ensures ∙ ap (option_map (λ t. t.now)) c.in-Some.is in
    built_in_lacks names c.read.new.names c.args.name c.in-Some.text.now (g.L.Library.holdings c.args.lib.now) c.args.dir.now c.args.fetched.now c.read.result c.read.ensures.names c.requires.known is
    c.as_bytes.result.now c.as_bytes.ensures.value c.read.ensures.fault

pub returns-then-fetched-eq-MAX_MODULES-clause-lacking : goal.returns-then-fetched-eq-MAX_MODULES-clause-lacking
returns-then-fetched-eq-MAX_MODULES-clause-lacking g c =
    let names = c.args.names.now in
    let none = built_in_at names c.args.name c.text.result.now (option_map (λ t. t.now) c.text-2.result) c.text.ensures.text c.text-2.ensures ∙ ap (option_map (λ t. t.now)) c.in_default.is in
    too_many_lack names c.args.name (g.L.Library.holdings c.args.lib.now) c.args.dir.now c.args.fetched.now none c.if-fetched-eq-MAX_MODULES.true

pub returns-in-Text-clause-own : goal.returns-in-Text-clause-own
returns-in-Text-clause-own g c =
    let names = c.args.names.now in
    let none = built_in_at names c.args.name c.text.result.now (option_map (λ t. t.now) c.text-2.result) c.text.ensures.text c.text-2.ensures ∙ ap (option_map (λ t. t.now)) c.in_default.is in
    fetched_own names c.read-in-Text.new.names c.args.name c.read-in-Text.result c.read-in-Text.ensures.names c.requires.known none

pub returns-in-Text-clause-fetched : goal.returns-in-Text-clause-fetched
returns-in-Text-clause-fetched g c =
    let names = c.args.names.now in
    let none = built_in_at names c.args.name c.text.result.now (option_map (λ t. t.now) c.text-2.result) c.text.ensures.text c.text-2.ensures ∙ ap (option_map (λ t. t.now)) c.in_default.is in
    on_ok _ (is_fetched (text_of names c.args.name) c.args.fetched.now none) c.read-in-Text.result

pub returns-in-Text-clause-found : goal.returns-in-Text-clause-found
returns-in-Text-clause-found g c =
    let names = c.args.names.now in
    let none = built_in_at names c.args.name c.text.result.now (option_map (λ t. t.now) c.text-2.result) c.text.ensures.text c.text-2.ensures ∙ ap (option_map (λ t. t.now)) c.in_default.is in
    fetched_found names c.read-in-Text.new.names c.args.name c.text-3.result.now c.as_slice.result.now (g.L.Library.holdings c.args.lib.now) c.args.dir.now c.args.fetched.now c.in_ok-text.field-0 c.in-Text.text c.read-in-Text.result
    c.read-in-Text.ensures.names c.requires.known c.text-3.ensures.text none c.if-fetched-eq-MAX_MODULES.false c.in-Text.is c.in_ok-text.ensures.told c.as_slice.ensures.value c.read-in-Text.ensures.read

pub returns-in-Text-clause-lacking : goal.returns-in-Text-clause-lacking
returns-in-Text-clause-lacking g c =
    let names = c.args.names.now in
    let none = built_in_at names c.args.name c.text.result.now (option_map (λ t. t.now) c.text-2.result) c.text.ensures.text c.text-2.ensures ∙ ap (option_map (λ t. t.now)) c.in_default.is in
    fetched_lacks names c.read-in-Text.new.names c.args.name c.text-3.result.now c.as_slice.result.now (g.L.Library.holdings c.args.lib.now) c.args.dir.now c.args.fetched.now c.in_ok-text.field-0 c.in-Text.text c.read-in-Text.result
    c.read-in-Text.ensures.names c.requires.known c.text-3.ensures.text none c.if-fetched-eq-MAX_MODULES.false c.in-Text.is c.in_ok-text.ensures.told c.as_slice.ensures.value c.read-in-Text.ensures.fault

pub returns-in-Absent-clause-lacking : goal.returns-in-Absent-clause-lacking
returns-in-Absent-clause-lacking g c =
    let names = c.args.names.now in
    let none = built_in_at names c.args.name c.text.result.now (option_map (λ t. t.now) c.text-2.result) c.text.ensures.text c.text-2.ensures ∙ ap (option_map (λ t. t.now)) c.in_default.is in
    missing_lacks names c.args.name c.text-3.result.now (g.L.Library.holdings c.args.lib.now) c.args.dir.now c.args.fetched.now c.in_ok-text.field-0 c.text-3.ensures.text none c.if-fetched-eq-MAX_MODULES.false c.in-Absent.is c.in_ok-text.ensures.told
