use Rattle.std.proofs.Common.{◌≡◌, ◌∙◌, sym, ap, subst, List, ◌++◌, ℕ, ◌+◌, ◌<◌, ◌≤◌, ◌⊎◌, inl, inr, length, get_or, arith, rules}
use Rattle.std.proofs.lemmas.Bool.{cases_lt}
use Rattle.std.proofs.lemmas.Grind.{common_steps}
use Rattle.std.proofs.lemmas.List.{append-nil, get_or_default}
use Rattle.elf_parts.specs.declared.spell.SymbolEntry.{SymbolEntry}
use Rattle.elf_parts.specs.Spellings.{SymbolFits}
use Rattle.elf_make.proofs.SymbolEntries.{entry_tables, symbol_entries-none}
use Rattle.elf_make.proofs.symbols.put_all.Goals as goal

pub loop-entry-init : goal.loop-entry-init
loop-entry-init c = (
  sym (ap (λ (xs : List ℕ). c.args.bytes.now.items ++ xs) symbol_entries-none ∙ append-nil c.args.bytes.now.items),
  λ k d below. absurd (omega (arith, below)),
)

pub loop-entry-preserved : goal.loop-entry-preserved
loop-entry-preserved c = (grind (arith, common_steps, entry_tables), fits)
  where
    fits : (k : ℕ) (d : SymbolEntry) → k < c.loop-entry.entry-index + 1 → SymbolFits (get_or c.args.entries.now k d)
    fits k d below = cases (cases_lt k c.loop-entry.entry-index)
      where
        cases : (k < c.loop-entry.entry-index) ⊎ (c.loop-entry.entry-index ≤ k) → SymbolFits (get_or c.args.entries.now k d)
        cases (inl low) = c.loop-entry.invariant.1 k d low
        cases (inr high) =
            let inside : c.loop-entry.entry-index < length c.args.entries.now = search rules in
            let at : c.loop-entry.entry-index ≡ k = omega arith in
            let here : SymbolFits (get_or c.args.entries.now c.loop-entry.entry-index d) = subst (λ (e : SymbolEntry). SymbolFits e)
            (get_or_default c.args.entries.now c.loop-entry.entry-index _ d inside) c.in_ok-put_symbol.ensures.fits in
            subst (λ (j : ℕ). SymbolFits (get_or c.args.entries.now j d)) at here
