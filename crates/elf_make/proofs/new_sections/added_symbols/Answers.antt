use Rattle.std.proofs.Common.{◌≡◌, ◌∙◌, sym, ap, subst, rules, true, Bool, List, ◌++◌, Option, Some, ℕ}
use Rattle.std.specs.Prelude.{is_some, unwrap_or, if◌then◌else◌}
use Rattle.std.proofs.lemmas.Result.{IfOk-weaker}
use Rattle.rb_bytes.proofs.Tests.{clash}
use Rattle.elf_image.specs.declared.symbol.Symbol.{Symbol}
use Rattle.elf_plan.specs.NewNames.{cold_names}
use Rattle.elf_plan.specs.PairedLists.{GoTogether}
use Rattle.elf_make.specs.declared.names.NameTable.{NameTable}
use Rattle.elf_make.specs.MadeNames.{bytes_of, second_added}
use Rattle.elf_make.specs.NewSymbols.{named_parts}
use Rattle.elf_make.specs.SymbolTable.{IsColdEntry}
use Rattle.elf_make.proofs.new_sections.added_symbols.Goals as goal

pub returns-in-Some-clause-second : goal.returns-in-Some-clause-second
returns-in-Some-clause-second c =
    let source = c.args.source.now in
    let place : Option ℕ = c.args.own.now.symbol_names in
    let old : List ℕ = c.in-Some.table.bytes.items in
    let names : List ℕ = cold_names source.elf.now.symbols.items c.args.code.now.funcs.now source.cold.now in
    let there : is_some place ≡ true = search rules in
    IfOk-weaker c.cold_symbols.result _ _
    (λ entries added. ap (λ (bs : List ℕ). Some bs) (added source.elf.now.symbols.items c.requires.firsts)
    ∙ ap (λ (b : Bool). Some (if b then old ++ names else old)) (sym there)
    ∙ ap (λ (o : Option NameTable). second_added place (bytes_of o) names) (sym c.in-Some.is))
    c.cold_symbols.ensures.names

pub returns-in-Some-clause-entries : goal.returns-in-Some-clause-entries
returns-in-Some-clause-entries c =
    IfOk-weaker c.cold_symbols.result _ _ (λ entries are named. are c.args.source.now.elf.now.symbols.items c.requires.firsts)
    c.cold_symbols.ensures.entries

pub returns-in-None-clause-entries : goal.returns-in-None-clause-entries
returns-in-None-clause-entries c =
    let symbols : List Symbol = c.args.source.now.elf.now.symbols.items in
    let code = c.args.code.now in
    let table : List ℕ = c.cold_symbols-in-None.new.table.bytes.items in
    IfOk-weaker c.cold_symbols-in-None.result _ _
    (λ entries are named. subst (λ (ts : List ℕ). GoTogether (IsColdEntry ts symbols code.funcs.now code.map.now code.section)
    (named_parts symbols code.funcs.now c.args.source.now.cold.now) entries.items)
    (sym (ap (λ (o : Option NameTable). unwrap_or (bytes_of o) table) c.in-None.is)) (are symbols c.requires.firsts))
    c.cold_symbols-in-None.ensures.entries

pub returns-in-Some-clause-none : goal.returns-in-Some-clause-none
returns-in-Some-clause-none c =
    let there : is_some c.args.own.now.symbol_names ≡ true = search rules in
    IfOk-weaker c.cold_symbols.result _ _ (λ entries are none. absurd (clash _ there (ap is_some none))) c.cold_symbols.ensures.entries

pub returns-in-None-clause-none : goal.returns-in-None-clause-none
returns-in-None-clause-none c =
    let there : is_some c.args.own.now.symbol_names ≡ true = search rules in
    IfOk-weaker c.cold_symbols-in-None.result _ _ (λ entries are none. absurd (clash _ there (ap is_some none)))
    c.cold_symbols-in-None.ensures.entries
