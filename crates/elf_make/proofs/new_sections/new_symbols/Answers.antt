use Rattle.std.proofs.Common.{◌≡◌, ◌∙◌, sym, ap, subst, refl, rules, ℕ, List, ◌++◌, Option, Some, None, length, get_or, slice_get}
use Rattle.std.specs.Prelude.{IfSome}
use Rattle.std.proofs.lemmas.List.{append-nil}
use Rattle.std.proofs.lemmas.Result.{IfOk-weaker}
use Rattle.elf_image.specs.declared.section.SectionHeader.{SectionHeader}
use Rattle.elf_image.specs.declared.symbol.Symbol.{Symbol}
use Rattle.elf_parts.specs.declared.spell.SymbolEntry.{SymbolEntry}
use Rattle.elf_plan.specs.NewNames.{cold_names}
use Rattle.elf_make.specs.MadeNames.{bytes_of, first_added, second_added, symbol_texts}
use Rattle.elf_make.specs.NewSymbols.{new_info}
use Rattle.elf_make.specs.SymbolTable.{HasTable, IsTableOf, SaysInfo}
use Rattle.elf_make.proofs.AddedNames.{no_names}
use Rattle.elf_make.proofs.new_sections.new_symbols.Goals as goal
use Rattle.elf_make.proofs.new_sections.new_symbols.Goals.{then-index-headers, else-index-headers}

pub returns-in_default-clause-first : goal.returns-in_default-clause-first
returns-in_default-clause-first c =
    let source = c.args.source.now in
    let table : List ℕ = c.args.names.now.sections.bytes.items in
    let colds : List ℕ = cold_names source.elf.now.symbols.items source.funcs.now source.cold.now in
    let none : c.args.own.now.symbol_names ≡ None =
    c.requires.own.symbol_names ∙ no_names source.elf.now (sym c.requires.own.symbols ∙ c.in_default.is) in
    sym (append-nil table)
    ∙ ap (λ (o : Option ℕ). table ++ first_added o (bytes_of c.args.names.now.symbols) colds) (sym none)

-- nothing is added to a second table
kept : (second : Option (List ℕ)) (colds : List ℕ) → second ≡ second_added None second colds
kept None colds = refl
kept (Some table) colds = refl

pub returns-in_default-clause-second : goal.returns-in_default-clause-second
returns-in_default-clause-second c =
    let source = c.args.source.now in
    let second : Option (List ℕ) = bytes_of c.args.names.now.symbols in
    let colds : List ℕ = cold_names source.elf.now.symbols.items source.funcs.now source.cold.now in
    let none : c.args.own.now.symbol_names ≡ None =
    c.requires.own.symbol_names ∙ no_names source.elf.now (sym c.requires.own.symbols ∙ c.in_default.is) in
    kept second colds ∙ ap (λ (o : Option ℕ). second_added o second colds) (sym none)

pub returns-clause-symbols : goal.returns-clause-symbols
returns-clause-symbols c =
    let source = c.args.source.now in
    let elf = source.elf.now in
    let k : ℕ = c.in-Some.index in
    let section = c.in_ok-section.section.now in
    let added : List SymbolEntry = c.in_ok-added.added.items in
    let headers : List SectionHeader = c.if-index-headers.headers in
    let texts : List ℕ = symbol_texts c.added_symbols.new.names in
    let at : slice_get elf.sections.items k ≡ Some section = c.in_ok-section.ensures in
    let count : c.len.result ≡ length added = search rules in
    let info : c.in_ok-info.info ≡ new_info elf.symbols.items (length added) section =
    c.in_ok-info.ensures ∙ ap (λ (ss : List Symbol). new_info ss c.len.result section) c.deref.ensures.value
    ∙ ap (λ (n : ℕ). new_info elf.symbols.items n section) count in
    let says : SaysInfo headers k (new_info elf.symbols.items (length added) section) = λ d below.
    elim c.if-index-headers.branch [
      | then-index-headers w ↦
          let is : (get_or headers k d).info ≡ c.in_ok-info.info = search rules in is ∙ info
      | else-index-headers w ↦ absurd (search rules)
    ] in
    IfOk-weaker c.symbol_table.result _ _
    (λ bytes is. subst (λ (o : Option ℕ). IfSome o (λ i. HasTable elf source.funcs.now source.map.now source.cold.now
    c.args.own.now.symbol_names c.args.text i texts bytes.items (SaysInfo headers i))) (sym c.in-Some.is) (record {
      section = section;
      at = at;
      added = added;
      named = c.in_ok-added.ensures.entries;
      none = c.in_ok-added.ensures.none;
      table = subst (λ (es : List SymbolEntry). IsTableOf elf section source.funcs.now source.map.now c.args.text es bytes.items)
          c.deref-2.ensures.value is;
      info = says;
    })) c.symbol_table.ensures
