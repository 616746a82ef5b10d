-- Units and clusters in order.
use Rattle.std.proofs.Common.{append_assoc, ℕ, ◌≡◌, ◌≢◌, ◌⊎◌, ◌<◌, ◌≤◌, ◌+◌, ◌*◌, ◌&&◌, ◌||◌, inl, inr, ⊎_elim, Bool}
use Rattle.std.proofs.Common.{true, false, cond, List, [], ◌∷◌, ◌++◌, arith, refl, sym, ◌∙◌, ap}
use Rattle.std.specs.Prelude.{◌==◌, nat_lt, filter}
use Rattle.std.specs.List.{range_with_len}
use Rattle.std.specs.Cmp.{IsStrictWeakOrder}
use Rattle.std.specs.Ordering.{is_lt, nat_cmp, ordering_then}
use Rattle.std.proofs.lemmas.Grind.{common_steps}
use Rattle.std.proofs.lemmas.Bool.{cases_eq, cases_lt}
use Rattle.std.proofs.lemmas.List.{map-id, append-nil}
use Rattle.std.proofs.lemmas.List.FromFn.{filter_of_map_range_with_len_more}
use Rattle.std.proofs.Math.Nat.{mul-le-mul_right}
use Rattle.func_place.specs.declared.ranks.Rank.{Rank}
use Rattle.func_place.specs.Ranks.{denser_by}

-- one more unit passes a test or doesn't
pub filter_more : (p : ℕ → Bool) (n : ℕ) →
    filter p (range_with_len 0 (n + 1)) ≡ filter p (range_with_len 0 n) ++ cond (p n) (n ∷ []) []
filter_more p n =
    let h = filter_of_map_range_with_len_more p (λ x. x) 0 n n (omega arith) in
    rw (map-id (range_with_len 0 (n + 1)), map-id (range_with_len 0 n)) at h

pub is_lt-pair : (a b u v : ℕ) → is_lt (ordering_then (nat_cmp a b) (nat_cmp u v)) ≡ (nat_lt a b || ((a == b) && nat_lt u v))
is_lt-pair a b u v = grind (arith, common_steps)

pub less_no : (a b u v : ℕ) → (nat_lt a b || ((a == b) && nat_lt u v)) ≡ false → (b < a) ⊎ ((a ≡ b) × (v ≤ u))
less_no a b u v h = ⊎_elim (λ (lt : b < a). inl lt)
    (λ (le : a ≤ b). ⊎_elim (λ (e : a ≡ b). inr (e, grind (arith, common_steps)))
    (λ (ne : a ≢ b). absurd (grind (arith, common_steps))) (cases_eq a b)) (cases_lt b a)

pub less_not : (a b u v : ℕ) → (b < a) ⊎ ((a ≡ b) × (v ≤ u)) → (nat_lt a b || ((a == b) && nat_lt u v)) ≡ false
less_not a b u v (inl h) = grind (arith, common_steps)
less_not a b u v (inr h) = let e = h.0 in let le = h.1 in grind (arith, common_steps)

pub less_once : (a b u v : ℕ) → (nat_lt a b || ((a == b) && nat_lt u v)) ≡ true → (nat_lt b a || ((b == a) && nat_lt v u)) ≡ false
less_once a b u v h = grind (arith, common_steps)

-- ratios, by cross products
chain_lt : (h s k t m u : ℕ) → 0 < t → 0 < u → h * t < k * s → k * u ≤ m * t → h * u < m * s
chain_lt h s k t m u ts us a b = ⊎_elim (λ lt. lt) (λ (le : m * s ≤ h * u).
    let c : m * s * t ≤ h * u * t = mul-le-mul_right t le in
    let d : (h * t + 1) * u ≤ k * s * u = mul-le-mul_right u (omega arith) in
    let e : k * u * s ≤ m * t * s = mul-le-mul_right s b in
    absurd (omega arith)) (cases_lt (h * u) (m * s))

lt_chain : (h s k t m u : ℕ) → 0 < t → 0 < s → h * t ≤ k * s → k * u < m * t → h * u < m * s
lt_chain h s k t m u ts ss a b = ⊎_elim (λ lt. lt) (λ (le : m * s ≤ h * u).
    let c : m * s * t ≤ h * u * t = mul-le-mul_right t le in
    let d : h * t * u ≤ k * s * u = mul-le-mul_right u a in
    let e : (k * u + 1) * s ≤ m * t * s = mul-le-mul_right s (omega arith) in
    absurd (omega arith)) (cases_lt (h * u) (m * s))

chain_le : (h s k t m u : ℕ) → 0 < t → h * t ≤ k * s → k * u ≤ m * t → h * u ≤ m * s
chain_le h s k t m u ts a b = ⊎_elim (λ (lt : m * s < h * u).
    let c : (m * s + 1) * t ≤ h * u * t = mul-le-mul_right t (omega arith) in
    let d : h * t * u ≤ k * s * u = mul-le-mul_right u a in
    let e : k * u * s ≤ m * t * s = mul-le-mul_right s b in
    absurd (omega arith)) (λ le. le) (cases_lt (m * s) (h * u))

chain : (h s x k t y m u z : ℕ) → 0 < s → 0 < t → 0 < u
    → (h * t < k * s) ⊎ ((k * s ≡ h * t) × (y ≤ x)) → (k * u < m * t) ⊎ ((m * t ≡ k * u) × (z ≤ y))
    → (h * u < m * s) ⊎ ((m * s ≡ h * u) × (z ≤ x))
chain h s x k t y m u z ss ts us (inl a) (inl b) = inl (chain_lt h s k t m u ts us a (omega arith))
chain h s x k t y m u z ss ts us (inl a) (inr b) = inl (chain_lt h s k t m u ts us a (let e = b.0 in omega arith))
chain h s x k t y m u z ss ts us (inr a) (inl b) = inl (lt_chain h s k t m u ts ss (let e = a.0 in omega arith) b)
chain h s x k t y m u z ss ts us (inr a) (inr b) =
    let e = a.0 in let f = b.0 in let g = a.1 in let i = b.1 in
    let one : h * u ≤ m * s = chain_le h s k t m u ts (omega arith) (omega arith) in
    let two : m * s ≤ h * u = chain_le m u k t h s ts (omega arith) (omega arith) in
    inr (omega arith, omega arith)

pub denser_order : IsStrictWeakOrder {X = Rank} (λ a b. denser_by a.heat a.size a.unit b.heat b.size b.unit)
denser_order = record {
  one_way = λ a b h. less_once (b.heat * a.size) (a.heat * b.size) a.unit b.unit h;
  chain = λ a b c h k. less_not (c.heat * a.size) (a.heat * c.size) a.unit c.unit
      (chain a.heat a.size a.unit b.heat b.size b.unit c.heat c.size c.unit a.some b.some c.some
      (less_no (b.heat * a.size) (a.heat * b.size) a.unit b.unit h)
      (less_no (c.heat * b.size) (b.heat * c.size) b.unit c.unit k));
}

pub passes_more : (p : ℕ → Bool) (n : ℕ) (xs ys : List ℕ) → p n ≡ true → xs ≡ filter p (range_with_len 0 n) → ys ≡ xs ++ n ∷ [] →
    ys ≡ filter p (range_with_len 0 (n + 1))
passes_more p n xs ys h is more = more ∙ sym (filter_more p n ∙ rw (h, is) refl)

pub fails_more : (p : ℕ → Bool) (n : ℕ) (xs : List ℕ) → p n ≡ false → xs ≡ filter p (range_with_len 0 n) →
    xs ≡ filter p (range_with_len 0 (n + 1))
fails_more p n xs h is = is ∙ sym (filter_more p n ∙ rw h (append-nil (filter p (range_with_len 0 n))))

pub above_zero : (n : ℕ) → 0 < n → nat_lt 0 n ≡ true
above_zero n h = grind (arith, common_steps)

pub no_more : (n : ℕ) → n ≤ 0 → nat_lt 0 n ≡ false
no_more n h = grind (arith, common_steps)

-- units are appended to other units
pub passes_after : (p : ℕ → Bool) (n : ℕ) (before line : List ℕ) → p n ≡ true → line ≡ before ++ filter p (range_with_len 0 n) →
    line ++ n ∷ [] ≡ before ++ filter p (range_with_len 0 (n + 1))
passes_after p n before line h is = rw (is, filter_more p n, h) (append_assoc before (filter p (range_with_len 0 n)) (n ∷ []))

pub fails_after : (p : ℕ → Bool) (n : ℕ) (before line : List ℕ) → p n ≡ false → line ≡ before ++ filter p (range_with_len 0 n) →
    line ≡ before ++ filter p (range_with_len 0 (n + 1))
fails_after p n before line h is =
    rw (is, filter_more p n, h) (ap (λ (xs : List ℕ). before ++ xs) (sym (append-nil (filter p (range_with_len 0 n)))))

pub is_zero : (n : ℕ) → n ≡ 0 → (n == 0) ≡ true
is_zero n h = grind (arith, common_steps)

pub is_some : (n : ℕ) → n ≢ 0 → (n == 0) ≡ false
is_some n h = grind (arith, common_steps)
