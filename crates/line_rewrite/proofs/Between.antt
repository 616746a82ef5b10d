-- The rows in force up to the next row.
use Rattle.std.proofs.Common.{◌≡◌, ◌<◌, ◌≤◌, ◌+◌, ◌∙◌, ℕ, Bool, true, false, cond, List, [], ◌∷◌, Option, Some, None, refl, sym, ap, arith}
use Rattle.std.proofs.Common.{◌⊎◌, inl, inr, nat_le, nat_lt, drop, get_or, length}
use Rattle.std.proofs.lemmas.Bool.Decides.{nat_tests}
use Rattle.std.proofs.lemmas.List.{drop_more}
use Rattle.std.proofs.lemmas.Grind.{common_steps}
use Rattle.line_rewrite.specs.declared.registers.Registers.{Registers}
use Rattle.line_rewrite.specs.LineMachine.{in_force, reached, greatest_address}
use Rattle.line_rewrite.specs.Walks.{Ascends, next_above}
use Rattle.line_rewrite.proofs.InForce.{at_address, none_reached}

abbrev Row : ℕ → ℕ → ℕ → Type 0
Row a x y = ((a < y) × (nat_lt a y ≡ true)) ⊎ ((nat_lt a y ≡ false) × (nat_le y a ≡ true) × (nat_le y x ≡ true))

row_cases : (a x y : ℕ) → a ≤ x → Row a x y
row_cases a x y h = grind (arith, nat_tests)

-- the next row, if the first one isn't above the address
by_first : (a : ℕ) (r : Registers) (rows : List Registers) (t : Bool) → nat_lt a r.address ≡ t →
    next_above a (r ∷ rows) ≡ cond t (Some r.address) (next_above a rows)
unfolding next_above
by_first a r rows t e = ap (λ (b : Bool). cond b (Some r.address) (next_above a rows)) e

reached_alike : (from a x : ℕ) (rows : List Registers) → a ≤ x → Ascends from rows →
    ((next : ℕ) → next_above a rows ≡ Some next → x < next) → reached x rows ≡ reached a rows
reached_alike from a x [] h up before = refl
reached_alike from a x (r ∷ rows) h up before =
    elim (row_cases a x r.address h) [
      | inl past ↦
          let low : x < r.address = before r.address (by_first a r rows true past.1) in
          none_reached r.address x (r ∷ rows) (omega arith, up.1) low
          ∙ sym (none_reached r.address a (r ∷ rows) (omega arith, up.1) past.0)
      | inr on ↦
          rw (on.1, on.2) (ap (λ (l : List Registers). r ∷ l)
          (reached_alike r.address a x rows h up.1 (λ next e. before next (by_first a r rows false on.0 ∙ e))))
    ]

pub rows_alike : (a x : ℕ) (rows : List Registers) → a ≤ x → Ascends 0 rows →
    ((next : ℕ) → next_above a rows ≡ Some next → x < next) → in_force x rows ≡ in_force a rows
unfolding in_force
rows_alike a x rows h up before =
    ap (λ (l : List Registers). at_address (greatest_address l) l) (reached_alike 0 a x rows h up before)

-- the rows from an index on

module _ (a i : ℕ) (rows : List Registers) (whole : Option ℕ) (inv : next_above a (drop i rows) ≡ whole) where
  pub above_done : length rows ≤ i → None ≡ whole
  unfolding next_above
  above_done h =
      let none : drop i rows ≡ [] = grind (arith, common_steps) in
      sym (ap (next_above a) none) ∙ inv

  module _ (d : Registers) (here : i < length rows) where
    pub above_there : a < (get_or rows i d).address → Some (get_or rows i d).address ≡ whole
    above_there h =
        let t : nat_lt a (get_or rows i d).address ≡ true = grind (arith, nat_tests) in
        sym (ap (next_above a) (drop_more rows i d here) ∙ by_first a (get_or rows i d) (drop (i + 1) rows) true t) ∙ inv

    pub above_more : (get_or rows i d).address ≤ a → next_above a (drop (i + 1) rows) ≡ whole
    above_more h =
        let t : nat_lt a (get_or rows i d).address ≡ false = grind (arith, nat_tests) in
        sym (ap (next_above a) (drop_more rows i d here) ∙ by_first a (get_or rows i d) (drop (i + 1) rows) false t) ∙ inv
