-- A form that doesn't reach still doesn't reach after other forms grew.
use Rattle.std.proofs.Common.{◌≡◌, ℕ, zero, suc, ◌+◌, ◌-◌, ◌<◌, ◌≤◌, List, length, Option, Some, None, true, false, refl}
use Rattle.std.proofs.Common.{subst, arith, inl, inr}
use Rattle.std.specs.Prelude.{nat_lt, nat_le}
use Rattle.std.specs.Option.{option_map_or}
use Rattle.std.proofs.lemmas.Bool.{and_parts, and_from, leb-true, ltb-true, le-leb, lt-ltb, cases_lt, cases_order}
use Rattle.std.proofs.lemmas.Bool.{false_from_ne_true, both_ways}
use Rattle.rv_code.specs.declared.layout.Form.{Form}
use Rattle.branch_fixup.specs.declared.growth.BlockEnd.{BlockEnd}
use Rattle.branch_fixup.specs.Distances.{reaches}
use Rattle.branch_fixup.specs.Growth.{end_at, block_length, from_at, to_at, form_reach, is_enough, AreBlockEnds, block_offset}

pub reach_if : (reach f t : ℕ) → t < f + reach → f ≤ t + reach → reaches reach f t ≡ true
reach_if reach f t h k = and_from (nat_lt t (f + reach)) (nat_le f (t + reach)) (lt-ltb t (f + reach) h) (le-leb f (t + reach) k)

-- a longer way, ahead or back
pub data IsFarther (f t g u : ℕ) : Type 0 where
  ahead : f ≤ t → g ≤ u → t + g ≤ u + f → IsFarther f t g u
  back : t ≤ f → u ≤ g → f + u ≤ g + t → IsFarther f t g u

pub short_more : (reach f t g u : ℕ) → IsFarther f t g u → reaches reach f t ≡ false → reaches reach g u ≡ false
short_more reach f t g u (ahead a b c) h =
    false_from_ne_true (reaches reach g u) (λ k.
    let p = and_parts (nat_lt u (g + reach)) (nat_le g (u + reach)) k in
    let x = ltb-true u (g + reach) p.0 in
    both_ways (reaches reach f t) h (reach_if reach f t (omega (arith, a, b, c, x)) (omega (arith, a))))
short_more reach f t g u (back a b c) h =
    false_from_ne_true (reaches reach g u) (λ k.
    let p = and_parts (nat_lt u (g + reach)) (nat_le g (u + reach)) k in
    let x = leb-true g (u + reach) p.1 in
    let y = ltb-true u (g + reach) p.0 in
    both_ways (reaches reach f t) h (reach_if reach f t (omega (arith, a, b, c, x, y)) (omega (arith, a, b, c, x))))

-- forms that are at least as long
pub record IsBelow (ts : List BlockEnd) (xs ys : List Form) : Type 0 where
  pub each : (k : ℕ) → block_length ts xs k ≤ block_length ts ys k

pub gap : (ts : List BlockEnd) (xs ys : List Form) → IsBelow ts xs ys → (a n : ℕ) →
    block_offset ts xs (n + a) + block_offset ts ys a ≤ block_offset ts ys (n + a) + block_offset ts xs a
gap ts xs ys b a zero = let z : 0 + a ≡ a = omega arith in rw z (omega arith)
gap ts xs ys b a (suc n) =
    let z : suc n + a ≡ suc (n + a) = omega arith in
    let more = b.each (n + a) in
    let rest = gap ts xs ys b a n in
    rw z (omega (arith, more, rest))

pub rises : (ts : List BlockEnd) (xs : List Form) (a n : ℕ) → block_offset ts xs a ≤ block_offset ts xs (n + a)
rises ts xs a zero = let z : 0 + a ≡ a = omega arith in rw z (omega arith)
rises ts xs a (suc n) =
    let z : suc n + a ≡ suc (n + a) = omega arith in
    let rest = rises ts xs a n in
    rw z (omega (arith, rest))

-- the way from k ahead to t, and back
ahead_gap : (ts : List BlockEnd) (xs ys : List Form) → IsBelow ts xs ys → (k t : ℕ) → k < t →
    (block_offset ts xs k + (end_at ts k).before ≤ block_offset ts xs t)
    × (block_offset ts ys k + (end_at ts k).before ≤ block_offset ts ys t) ×
    (block_offset ts xs t + block_offset ts ys k ≤ block_offset ts ys t + block_offset ts xs k)
ahead_gap ts xs ys b k t h =
    let z : t - suc k + suc k ≡ t = omega (arith, h) in
    let w : t - k + k ≡ t = omega (arith, h) in
    let up : block_offset ts xs (suc k) ≤ block_offset ts xs t =
    subst (λ (j : ℕ). block_offset ts xs (suc k) ≤ block_offset ts xs j) z
    (rises ts xs (suc k) (t - suc k)) in
    let up_2 : block_offset ts ys (suc k) ≤ block_offset ts ys t =
    subst (λ (j : ℕ). block_offset ts ys (suc k) ≤ block_offset ts ys j) z
    (rises ts ys (suc k) (t - suc k)) in
    let g : block_offset ts xs t + block_offset ts ys k ≤ block_offset ts ys t + block_offset ts xs k =
    subst (λ (j : ℕ). block_offset ts xs j + block_offset ts ys k
    ≤ block_offset ts ys j + block_offset ts xs k) w (gap ts xs ys b k (t - k)) in
    (omega (arith, up), omega (arith, up_2), g)

pub farther : (ts : List BlockEnd) (xs ys : List Form) → AreBlockEnds ts → IsBelow ts xs ys → (k : ℕ) → k < length ts →
    IsFarther (from_at ts xs k) (to_at ts xs k) (from_at ts ys k) (to_at ts ys k)
farther ts xs ys block_ends b k k_in = by (end_at ts k).to refl
  where
    inside : (end_at ts k).offset ≤ (end_at ts (end_at ts k).to).before
    inside = block_ends.to_inside k k_in

    by : (t : ℕ) → (end_at ts k).to ≡ t → IsFarther (from_at ts xs k) (block_offset ts xs t + (end_at ts k).offset)
        (from_at ts ys k) (block_offset ts ys t + (end_at ts k).offset)
    by t e = elim (cases_order k t) [
      | inl same ↦ elim (cases_lt (end_at ts k).before (end_at ts k).offset) [
        | inl less ↦ subst (λ (j : ℕ). IsFarther (from_at ts xs k) (block_offset ts xs j + (end_at ts k).offset)
            (from_at ts ys k) (block_offset ts ys j + (end_at ts k).offset)) same
            (ahead (omega (arith, less)) (omega (arith, less)) (omega arith))
        | inr more ↦ subst (λ (j : ℕ). IsFarther (from_at ts xs k) (block_offset ts xs j + (end_at ts k).offset)
            (from_at ts ys k) (block_offset ts ys j + (end_at ts k).offset)) same
            (back (omega (arith, more)) (omega (arith, more)) (omega arith))
      ]
      | inr apart ↦ elim apart [
        | inl before ↦ let g = ahead_gap ts xs ys b k t before in let x = g.0 in let y = g.1 in let z = g.2 in
            ahead (omega (arith, x)) (omega (arith, y)) (omega (arith, z))
        | inr after ↦
            let g = ahead_gap ts xs ys b t k after in let x = g.0 in let y = g.1 in let z = g.2 in
            let within : (end_at ts k).offset ≤ (end_at ts t).before =
            subst (λ (j : ℕ). (end_at ts k).offset ≤ (end_at ts j).before) e inside in
            back (omega (arith, x, within)) (omega (arith, y, within)) (omega (arith, z))
      ]
    ]

pub not_enough_more : (ts : List BlockEnd) (xs ys : List Form) → AreBlockEnds ts → IsBelow ts xs ys → (k : ℕ) (f : Form) →
    k < length ts → is_enough ts xs k f ≡ false → is_enough ts ys k f ≡ false
not_enough_more ts xs ys block_ends b k f k_in h = by (form_reach f) h
  where
    by : (o : Option ℕ) → option_map_or (λ reach. reaches reach (from_at ts xs k) (to_at ts xs k)) o true ≡ false →
        option_map_or (λ reach. reaches reach (from_at ts ys k) (to_at ts ys k)) o true ≡ false
    by None h = h
    by (Some reach) h = short_more reach (from_at ts xs k) (to_at ts xs k) (from_at ts ys k) (to_at ts ys k)
        (farther ts xs ys block_ends b k k_in) h
