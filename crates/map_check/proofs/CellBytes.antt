-- Bytes of code cells that share no byte: of the cells that start at or below an address, only the last can have its byte.
use Rattle.std.proofs.Common.{◌≡◌, ◌∙◌, ◌+◌, ◌-◌, ◌<◌, ◌≤◌, ◌⊎◌, ℕ, Bool, false, List, inl, inr, ⊎_elim, arith, get_or}
use Rattle.std.proofs.Common.{length, refl, ap, sym}
use Rattle.std.specs.Prelude.{nat_le, nat_lt}
use Rattle.std.specs.List.{list_any}
use Rattle.std.proofs.lemmas.Bool.{and_parts, cases_lt, false_from_ne_true, leb-true, ltb-true}
use Rattle.std.proofs.lemmas.List.Recursion.{or_is}
use Rattle.rv_code.specs.declared.cell.CodeCell.{CodeCell}
use Rattle.rv_code.specs.declared.cell.CellKind.TheVariants.{Abs}
use Rattle.elf_image.specs.memory.LoadedBytes.{is_in_range}
use Rattle.sym_machine.specs.SymStart.{code_cell_range}
use Rattle.map_check.specs.internal.Cells.{AreApart}

abbrev pub no_cell : CodeCell
no_cell = record { addr = 0; width = 0; kind = Abs 0 }

module _ (a : ℕ) where
  has : CodeCell → Bool
  has c = is_in_range a (code_cell_range c)

  -- a cell that starts above the address, and one that ends at or below it
  not_in : (c : CodeCell) → (a < c.addr) ⊎ (c.addr + c.width ≤ a) → has c ≡ false
  unfolding has
  not_in c out = false_from_ne_true (is_in_range a (code_cell_range c)) (λ is.
      let parts = and_parts (nat_le c.addr a) (nat_lt a (c.addr + c.width)) is in
      let low = leb-true c.addr a parts.0 in
      let high = ltb-true a (c.addr + c.width) parts.1 in
      ⊎_elim (λ (above : a < c.addr). omega arith) (λ (below : c.addr + c.width ≤ a). omega arith) out)

  module _ (cells : List CodeCell) (above : ℕ)
      (past : (k : ℕ) (d : CodeCell) → above ≤ k → k < length cells → a < (get_or cells k d).addr) where
    pub none_up : (d : CodeCell) → above ≡ 0 → false ≡ list_any (λ c. is_in_range a (code_cell_range c)) cells
    unfolding has
    none_up d none =
        or_is (list_any has) has refl (λ _ _. refl) cells d false (λ never. absurd (cc))
        (λ _ k within. not_in (get_or cells k d) (inl (past k d (omega arith) within)))

    pub last_only : AreApart cells → (d : CodeCell) (b : Bool) → 0 < above → above ≤ length cells →
        ((k : ℕ) (e : CodeCell) → k < above → (get_or cells k e).addr ≤ a) →
        b ≡ is_in_range a (code_cell_range (get_or cells (above - 1) d)) →
        b ≡ list_any (λ c. is_in_range a (code_cell_range c)) cells
    unfolding has
    last_only are d b some bound low is =
        or_is (list_any has) has refl (λ _ _. refl) cells d b (λ found. (above - 1, omega arith, sym is ∙ found)) missing
      where
        missing : b ≡ false → (k : ℕ) → k < length cells → has (get_or cells k d) ≡ false
        missing none k within = ⊎_elim
            (λ (before : k < above - 1).
            let apart = are.apart k (above - 1) d before (omega arith) in
            let last = low (above - 1) d (omega arith) in
            not_in (get_or cells k d) (inr (omega (arith, apart, last))))
            (λ (from : above - 1 ≤ k). ⊎_elim
            (λ (same : k < above).
            let at : k ≡ above - 1 = omega arith in
            ap (λ (j : ℕ). has (get_or cells j d)) at ∙ sym is ∙ none)
            (λ (beyond : above ≤ k). not_in (get_or cells k d) (inl (past k d beyond within)))
            (cases_lt k above))
            (cases_lt k (above - 1))
