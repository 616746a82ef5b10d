use Rattle.std.proofs.Common.{◌≡◌, ◌∙◌, sym, ap, subst, rules, ℕ, ◌+◌, List, [], ◌∷◌, ◌++◌, None, length, take, slice_index_or}
use Rattle.std.proofs.lemmas.List.{take_all}
use Rattle.elf_parts.specs.declared.spell.SymbolEntry.{SymbolEntry}
use Rattle.elf_plan.specs.PairedLists.{GoTogether}
use Rattle.elf_make.specs.declared.names.NameTable.{NameTable}
use Rattle.elf_make.specs.NewSymbols.{named_parts}
use Rattle.elf_make.specs.SymbolTable.{IsColdEntry, IsColdPlace}
use Rattle.elf_make.proofs.SymbolsPut.{names-left, names-taken, part-left, part-taken}
use Rattle.elf_make.proofs.symbols.cold_symbols.Goals as goal
use Rattle.elf_make.proofs.symbols.cold_symbols.Goals.{in-Some+in_ok-name+in_ok-ok_or+in_ok-push, in_default}

pub loop-address-preserved : goal.loop-address-preserved
loop-address-preserved c = (
  λ symbols are.
      let code = c.args.code.now in
      let cold : List ℕ = c.args.cold.now in
      let i : ℕ = c.loop-address.address-index in
      let start : List ℕ = c.args.table.now.bytes.items in
      let table : List ℕ = c.loop-address.table.bytes.items in
      let more : List ℕ = c.match-named_around.table.bytes.items in
      let before = c.loop-address.invariant.0 symbols are in
      elim c.match-named_around.branch [
        | in-Some+in_ok-name+in_ok-ok_or+in_ok-push w ↦
            names-taken symbols code.funcs.now code.map.now code.section cold i start table more w.in-Some.symbol
            c.loop-address-test.true before (sym (c.named_around.ensures symbols are) ∙ w.in-Some.is)
            (ap (λ (t : NameTable). t.bytes.items) w.table-is ∙ w.in_ok-name.ensures.bytes)
        | in_default w ↦
            let none : c.named_around.result ≡ None = search rules in
            ap (λ (t : NameTable). t.bytes.items) w.table-is
            ∙ names-left symbols code.funcs.now code.map.now code.section cold i start table c.loop-address-test.true before
            (sym (c.named_around.ensures symbols are) ∙ none)
      ],
  λ symbols are.
      let code = c.args.code.now in
      let cold : List ℕ = c.args.cold.now in
      let i : ℕ = c.loop-address.address-index in
      let table : List ℕ = c.loop-address.table.bytes.items in
      let entries : List SymbolEntry = c.loop-address.entries.items in
      let before = c.loop-address.invariant.1 symbols are in
      let now = c.match-named_around in
      let Are : List ℕ → List SymbolEntry → Type 0 =
      λ ts es. GoTogether (IsColdEntry ts symbols code.funcs.now code.map.now code.section)
      (named_parts symbols code.funcs.now (take (i + 1) cold)) es in
      elim c.match-named_around.branch [
        | in-Some+in_ok-name+in_ok-ok_or+in_ok-push w ↦
            let e : SymbolEntry = w.in_ok-ok_or.field-0 in
            let same : now.entries.items ≡ entries ++ e ∷ [] = search rules in
            let at : e.name ≡ length table = search rules in
            let place : IsColdPlace code.funcs.now code.map.now code.section (slice_index_or cold i 0) e = search rules in
            subst (Are now.table.bytes.items) (sym same)
            (part-taken symbols code.funcs.now code.map.now code.section cold i table now.table.bytes.items entries w.in-Some.symbol e
            c.loop-address-test.true before (sym (c.named_around.ensures symbols are) ∙ w.in-Some.is) at place
            (ap (λ (t : NameTable). t.bytes.items) w.table-is ∙ w.in_ok-name.ensures.bytes))
        | in_default w ↦
            let same : now.entries.items ≡ entries = search rules in
            let none : c.named_around.result ≡ None = search rules in
            subst (Are now.table.bytes.items) (sym same)
            (subst (λ (ts : List ℕ). Are ts entries) (sym (ap (λ (t : NameTable). t.bytes.items) w.table-is))
            (part-left symbols code.funcs.now code.map.now code.section cold i table entries c.loop-address-test.true before
            (sym (c.named_around.ensures symbols are) ∙ none)))
      ],
)

pub returns-clause-entries : goal.returns-clause-entries
returns-clause-entries c = λ symbols are.
    let code = c.args.code.now in
    subst (λ (parts : List ℕ). GoTogether
    (IsColdEntry c.loop-address.table.bytes.items symbols code.funcs.now code.map.now code.section)
    (named_parts symbols code.funcs.now parts) c.loop-address.entries.items)
    (take_all c.loop-address.address-index c.args.cold.now c.loop-address-test.false) (c.loop-address.invariant.1 symbols are)
