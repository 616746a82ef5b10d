-- The cost of a flow on one link, and that no other flow on it costs less than prices say.
use Rattle.std.proofs.Common.{◌≡◌, ◌+◌, ◌-◌, ◌*◌, ◌<◌, ◌≤◌, ℕ, ⊎_elim, ap, ◌∙◌, arith, eq-zero-or-pos, add-mul, mul-add, mul-zero}
use Rattle.std.proofs.Common.{mul-le-mul_left, mul-le-mul_right, subst, sym}
use Rattle.std.proofs.lemmas.Bool.{cases_lt}

-- the cost of changing a count c to a flow f, for these costs of a change by one
abbrev pub cost : ℕ → ℕ → ℕ → ℕ → ℕ
cost raise lower f c = raise * (f - c) + lower * (c - f)

-- Prices hold at a link: `a` and `b` are the positive and the negative part of the gain.
pub record IsPriced (raise lower a b f c : ℕ) : Type 0 where
  pub most : a ≤ b + raise
  pub above : c < f → a ≡ b + raise
  pub below : f < c → 0 < f → a + lower ≡ b
  pub unused : f ≡ 0 → 0 < c → a + lower ≤ b
  pub kept : f ≡ c → 0 < f → b ≤ a + lower

module _ (raise lower c : ℕ) where
  -- d more, from a flow at or above the count
  raised_cost : (f d : ℕ) → c ≤ f → cost raise lower (f + d) c ≡ cost raise lower f c + raise * d
  raised_cost f d above =
      let a : raise * (f + d - c) ≡ raise * (f - c) + raise * d =
      let e : f + d - c ≡ (f - c) + d = omega arith in ap (λ (j : ℕ). raise * j) e ∙ mul-add raise (f - c) d in
      let b : lower * (c - (f + d)) ≡ 0 =
      let e : c - (f + d) ≡ 0 = omega arith in ap (λ (j : ℕ). lower * j) e ∙ mul-zero lower in
      let b' : lower * (c - f) ≡ 0 = let e : c - f ≡ 0 = omega arith in ap (λ (j : ℕ). lower * j) e ∙ mul-zero lower in
      omega (arith, a, b, b')

  -- d less, to a flow below the count
  lowered_cost : (x d : ℕ) → x + d ≤ c → cost raise lower x c ≡ cost raise lower (x + d) c + lower * d
  lowered_cost x d below =
      let a : lower * (c - x) ≡ lower * (c - (x + d)) + lower * d =
      let e : c - x ≡ (c - (x + d)) + d = omega arith in ap (λ (j : ℕ). lower * j) e ∙ mul-add lower (c - (x + d)) d in
      let b : raise * (x - c) ≡ 0 = let e : x - c ≡ 0 = omega arith in ap (λ (j : ℕ). raise * j) e ∙ mul-zero raise in
      let b' : raise * (x + d - c) ≡ 0 = let e : x + d - c ≡ 0 = omega arith in ap (λ (j : ℕ). raise * j) e ∙ mul-zero raise in
      omega (arith, a, b, b')

  -- d more, or d less, costs at most d times the cost of a change by one
  raised_at_most : (x d : ℕ) → cost raise lower (x + d) c ≤ cost raise lower x c + raise * d
  raised_at_most x d =
      let a : raise * (x + d - c) ≤ raise * ((x - c) + d) =
      let e : x + d - c ≤ (x - c) + d = omega arith in mul-le-mul_left raise e in
      let b : raise * ((x - c) + d) ≡ raise * (x - c) + raise * d = mul-add raise (x - c) d in
      let m : lower * (c - (x + d)) ≤ lower * (c - x) = let e : c - (x + d) ≤ c - x = omega arith in mul-le-mul_left lower e in
      omega (arith, a, b, m)

  lowered_at_most : (f d : ℕ) → cost raise lower f c ≤ cost raise lower (f + d) c + lower * d
  lowered_at_most f d =
      let a : lower * (c - f) ≤ lower * ((c - (f + d)) + d) =
      let e : c - f ≤ (c - (f + d)) + d = omega arith in mul-le-mul_left lower e in
      let b : lower * ((c - (f + d)) + d) ≡ lower * (c - (f + d)) + lower * d = mul-add lower (c - (f + d)) d in
      let m : raise * (f - c) ≤ raise * (f + d - c) = let e : f - c ≤ f + d - c = omega arith in mul-le-mul_left raise e in
      omega (arith, a, b, m)

  -- The prices compared with d more flow, or with d less.

  least_above : (a b f d : ℕ) → IsPriced raise lower a b f c →
      cost raise lower f c + a * (f + d) + b * f ≤ cost raise lower (f + d) c + a * f + b * (f + d)
  least_above a b f d priced =
      let p : a * (f + d) ≡ a * f + a * d = mul-add a f d in
      let q : b * (f + d) ≡ b * f + b * d = mul-add b f d in
      ⊎_elim
      (λ (below : f < c).
      let under : a + lower ≤ b = ⊎_elim (λ (z : f ≡ 0). priced.unused z (omega arith))
      (λ (some : 0 < f). let e : a + lower ≡ b = priced.below below some in omega arith) (eq-zero-or-pos f) in
      let m : (a + lower) * d ≤ b * d = mul-le-mul_right d under in
      let s : (a + lower) * d ≡ a * d + lower * d = add-mul a lower d in
      omega (arith, p, q, m, s, lowered_at_most f d))
      (λ (above : c ≤ f).
      let m : a * d ≤ (b + raise) * d = mul-le-mul_right d priced.most in
      let s : (b + raise) * d ≡ b * d + raise * d = add-mul b raise d in
      omega (arith, p, q, m, s, raised_cost f d above))
      (cases_lt f c)

  least_below : (a b x d : ℕ) → 0 < d → IsPriced raise lower a b (x + d) c →
      cost raise lower (x + d) c + a * x + b * (x + d) ≤ cost raise lower x c + a * (x + d) + b * x
  least_below a b x d some priced =
      let p : a * (x + d) ≡ a * x + a * d = mul-add a x d in
      let q : b * (x + d) ≡ b * x + b * d = mul-add b x d in
      ⊎_elim
      (λ (above : c < x + d).
      let e : a ≡ b + raise = priced.above above in
      let m : a * d ≡ b * d + raise * d = ap (λ (j : ℕ). j * d) e ∙ add-mul b raise d in
      omega (arith, p, q, m, raised_at_most x d))
      (λ (below : x + d ≤ c).
      let high : b ≤ a + lower = ⊎_elim
      (λ (less : x + d < c). let e : a + lower ≡ b = priced.below less (omega arith) in omega arith)
      (λ (not_less : c ≤ x + d). let e : x + d ≡ c = omega arith in priced.kept e (omega arith))
      (cases_lt (x + d) c) in
      let m : b * d ≤ (a + lower) * d = mul-le-mul_right d high in
      let s : (a + lower) * d ≡ a * d + lower * d = add-mul a lower d in
      omega (arith, p, q, m, s, lowered_cost x d below))
      (cases_lt c (x + d))

  -- Another flow x on a link costs at least what the prices say.
  pub least_at : (a b f x : ℕ) → IsPriced raise lower a b f c →
      cost raise lower f c + a * x + b * f ≤ cost raise lower x c + a * f + b * x
  least_at a b f x priced = ⊎_elim
      (λ (less : x < f).
      let d : ℕ = f - x in
      let e : x + d ≡ f = omega arith in
      subst (λ (j : ℕ). cost raise lower j c + a * x + b * j ≤ cost raise lower x c + a * j + b * x) e
      (least_below a b x d (omega arith) (subst (λ (j : ℕ). IsPriced raise lower a b j c) (sym e) priced)))
      (λ (more : f ≤ x).
      let d : ℕ = x - f in
      let e : f + d ≡ x = omega arith in
      subst (λ (j : ℕ). cost raise lower f c + a * j + b * f ≤ cost raise lower j c + a * f + b * j) e (least_above a b f d priced))
      (cases_lt x f)
