-- Rounding heights to levels: if heights hold for the costs of raising and lowering, their levels hold for the cost 1.
use Rattle.std.proofs.Common.{◌≡◌, ◌+◌, ◌-◌, ◌<◌, ◌≤◌, ℕ, ℤ, pos, List, [], ◌∷◌, ◌++◌, refl, ap, ◌∙◌, subst, arith}
use Rattle.std.proofs.Common.{get_or, length, ⊎_elim}
use Rattle.std.specs.Prelude.{◌-ℤ◌}
use Rattle.std.proofs.lemmas.Bool.{cases_lt}
use Rattle.std.proofs.lemmas.List.{get_or_append_left, get_or-append_right}
use Rattle.flow_infer.specs.declared.flow.Link.{Link}
use Rattle.flow_infer.specs.Heights.{HoldsBetween, HoldsFor, IsLevel, level, lower_cost, raise_cost}

levels_rise : (a b : ℕ) → IsLevel a → IsLevel b → b ≤ a + raise_cost → level b ≤ level a + 1
levels_rise a b x y h = let p = x.1 in let q = y.0 in omega (arith, h, p, q)

level_above : (a b : ℕ) → b ≡ a + raise_cost → level b ≡ level a + 1
level_above a b h = omega (arith, h)

level_below : (a b : ℕ) → IsLevel b → b + lower_cost ≡ a → level b + 1 ≡ level a
level_below a b y h = let q = y.1 in omega (arith, h, q)

level_unused : (a b : ℕ) → b + lower_cost ≤ a → level b + 1 ≤ level a
level_unused a b h = omega (arith, h)

level_kept : (a b : ℕ) → IsLevel a → IsLevel b → a ≤ b + lower_cost → level a ≤ level b + 1
level_kept a b x y h = let p = x.0 in let q = y.1 in omega (arith, h, p, q)

pub levelled : (a b : ℕ) (l : Link) → IsLevel a → IsLevel b → HoldsBetween a b l → HoldsFor 1 1 (level a) (level b) l
levelled a b l x y holds = record {
  most = levels_rise a b x y holds.most;
  above = λ p. level_above a b (holds.above p);
  below = λ p q. level_below a b y (holds.below p q);
  unused = λ p q. level_unused a b (holds.unused p q);
  kept = λ p q. level_kept a b x y (holds.kept p q);
}

-- Prices of the first blocks, from the levels of the nodes below n.
abbrev pub ArePricesBelow : List ℕ → ℕ → List ℤ → Type 0
ArePricesBelow heights n prices = (length prices + 1 ≡ n)
    × ((k : ℕ) → k + 1 < n → get_or prices k (pos 0) ≡ pos (level (get_or heights (k + 1) 0)) -ℤ pos (level (get_or heights 0 0)))
    × ((k : ℕ) → k < n → IsLevel (get_or heights k 0))

pub prices_next : (heights : List ℕ) (prices new : List ℤ) (n : ℕ) (p : ℤ) → new ≡ prices ++ p ∷ []
    → p ≡ pos (level (get_or heights n 0)) -ℤ pos (level (get_or heights 0 0)) → IsLevel (get_or heights n 0) → length new ≡ length prices + 1
    → ArePricesBelow heights n prices → ArePricesBelow heights (n + 1) new
prices_next heights prices new n p pushed is near long (count, priced, levels) = (omega arith, all, all_levels)
  where
    all : (k : ℕ) → k + 1 < n + 1 → get_or new k (pos 0) ≡ pos (level (get_or heights (k + 1) 0)) -ℤ pos (level (get_or heights 0 0))
    all k within = ⊎_elim
        (λ (low : k + 1 < n). ap (λ (l : List ℤ). get_or l k (pos 0)) pushed
        ∙ get_or_append_left prices (p ∷ []) (pos 0) k (omega arith) ∙ priced k low)
        (λ (high : n ≤ k + 1).
        let at : k ≡ length prices = omega arith in
        let next : n ≡ k + 1 = omega arith in
        ap (λ (l : List ℤ). get_or l k (pos 0)) pushed
        ∙ get_or-append_right prices (p ∷ []) (length prices) k (pos 0) refl (omega arith)
        ∙ ap (λ (j : ℕ). get_or (p ∷ []) j (pos 0)) (let z : k - length prices ≡ 0 = omega arith in z)
        ∙ is ∙ ap (λ (j : ℕ). pos (level (get_or heights j 0)) -ℤ pos (level (get_or heights 0 0))) next)
        (cases_lt (k + 1) n)

    all_levels : (k : ℕ) → k < n + 1 → IsLevel (get_or heights k 0)
    all_levels k within = ⊎_elim (λ (low : k < n). levels k low)
        (λ (high : n ≤ k). subst (λ (j : ℕ). IsLevel (get_or heights j 0)) (let e : n ≡ k = omega arith in e) near)
        (cases_lt k n)
