-- Marks as numbers with one bit for each halfword.
use Rattle.std.proofs.Common.{◌≡◌, ◌≢◌, ◌+◌, ◌*◌, ◌<◌, ◌≤◌, ◌/◌, ◌%◌, ◌^◌, ◌∙◌, ℕ, List, Bool, true, false, cond}
use Rattle.std.proofs.Common.{map, length, take, drop, get_or, slice_set, bit_and, arith, refl, ap, ⊎_elim, below_more}
use Rattle.std.proofs.Common.{length-drop, get_or-set_other, get_or-set_same}
use Rattle.std.specs.Prelude.{◌==◌, replicate, min}
use Rattle.std.specs.Simd.Lanes.{mask_l, zip2}
use Rattle.std.proofs.Math.ListN.{get_or-map}
use Rattle.std.proofs.Math.Pow.{pow_mono}
use Rattle.std.proofs.lemmas.Bool.{cases_lt}
use Rattle.std.proofs.lemmas.Grind.{common_steps}
use Rattle.std.proofs.lemmas.List.{length-map, get_or-take, get_or-drop, get_or_past, take_min, drop_min, drop-drop}
use Rattle.std.proofs.lemmas.Nat.{and_mask}
use Rattle.std.proofs.lemmas.Simd.{mask_l-lt, bit_mask_l, map-map, zip2_splat}
use Rattle.rb_lanes.specs.Marks.{ends_in_ones, is_marked, marks_of}

-- The halfwords of group k.
abbrev pub halves_at : List ℕ → ℕ → List ℕ
halves_at halves k = take 64 (drop (64 * k) halves)

-- The first `count` groups have the marks of their halfwords.
abbrev pub AreMarks : List ℕ → List ℕ → ℕ → Type 0
AreMarks groups halves count = (k : ℕ) → k < count → get_or groups k 0 ≡ marks_of (halves_at halves k)

-- There is room for one more mark as long as the first halfword is not marked.
pub mask_below : (marks i : ℕ) (halves : List ℕ) → marks ≡ marks_of (drop i halves) → 0 < i → length halves ≤ 64
    → marks < 2 ^ 63
mask_below marks i halves e some short =
    let ms = map ends_in_ones (drop i halves) in
    let few : length ms ≤ 63 = omega (arith, length-map (drop i halves) ends_in_ones, length-drop i halves) in
    let lt : mask_l ms < 2 ^ length ms = mask_l-lt ms in
    let le : 2 ^ length ms ≤ 2 ^ 63 = pow_mono few in
    omega arith

-- The lanes after a bitwise AND with 3.
pub low_lanes : (xs : List ℕ) (n : ℕ) → length xs ≡ n
    → map (λ x. x == 3) (zip2 bit_and xs (replicate n 3)) ≡ map ends_in_ones xs
low_lanes xs n e =
    ap (map (λ x. x == 3)) (zip2_splat bit_and xs n 3 e)
    ∙ map-map (λ x. x == 3) (λ x. bit_and x 3) xs
    ∙ (λ i. map (λ x. and_mask x 2 i == 3) xs)

-- A bit at its place in its group.
marked : (groups halves : List ℕ) (i : ℕ) → get_or groups (i / 64) 0 ≡ marks_of (halves_at halves (i / 64))
    → is_marked groups i ≡ ends_in_ones (get_or halves i 0)
marked groups halves i e =
    let here = halves_at halves (i / 64) in
    let k = i % 64 in
    let lt : k < 64 = omega arith in
    let at : 64 * (i / 64) + k ≡ i = omega arith in
    let half : get_or here k 0 ≡ get_or halves i 0
    = get_or-take 64 (drop (64 * (i / 64)) halves) k 0 lt
    ∙ get_or-drop (64 * (i / 64)) halves k 0
    ∙ ap (λ j. get_or halves j 0) at in
    let mark : get_or (map ends_in_ones here) k false ≡ ends_in_ones (get_or halves i 0)
    = get_or-map ends_in_ones here k 0 ∙ ap ends_in_ones half in
    is_set (ends_in_ones (get_or halves i 0)) _
    (ap (λ w. w / 2 ^ k % 2) e ∙ bit_mask_l (map ends_in_ones here) k ∙ ap (λ b. cond b 1 0) mark)
  where
    is_set : (b : Bool) (n : ℕ) → n ≡ cond b 1 0 → (n == 1) ≡ b
    is_set true n e = rw e refl
    is_set false n e = rw e refl

-- The halfwords that are split off for group i.
pub front_of : (i n : ℕ) (halves rest front : List ℕ) → rest ≡ drop (64 * i) halves → n ≡ min 64 (length rest)
    → front ≡ take n rest
    → front ≡ halves_at halves i
front_of i n halves rest front r m f = f ∙ ap (λ k. take k rest) m ∙ take_min 64 rest ∙ ap (take 64) r

-- The halfwords left for the groups after group i.
pub back_of : (i n : ℕ) (halves rest back : List ℕ) → rest ≡ drop (64 * i) halves → n ≡ min 64 (length rest) → back ≡ drop n rest
    → back ≡ drop (64 * (i + 1)) halves
back_of i n halves rest back r m b =
    b
    ∙ ap (λ k. drop k rest) m
    ∙ drop_min 64 rest
    ∙ ap (drop 64) r
    ∙ drop-drop 64 (64 * i) halves
    ∙ ap (λ k. drop k halves) (omega arith)

-- One more group is done.
pub marks_more : (groups halves : List ℕ) (i group : ℕ) → i < length groups → AreMarks groups halves i
    → group ≡ marks_of (halves_at halves i)
    → AreMarks (slice_set groups i group) halves (i + 1)
marks_more groups halves i group lt before here =
    below_more _ _
    (λ k below. let ne : k ≢ i = omega arith in rw get_or-set_other (before k below))
    (rw get_or-set_same here)

-- All groups are done.
pub marks_all : (groups halves : List ℕ) → length halves ≤ 64 * length groups → AreMarks groups halves (length groups) → (i : ℕ)
    → is_marked groups i ≡ ends_in_ones (get_or halves i 0)
marks_all groups halves room each i =
    ⊎_elim
    (λ (lt : i / 64 < length groups). marked groups halves i (each (i / 64) lt))
    (λ (le : length groups ≤ i / 64).
    let past : length halves ≤ i = omega arith in
    rw (get_or_past groups (i / 64) 0 le, get_or_past halves i 0 past) (grind (arith, common_steps)))
    (cases_lt (i / 64) (length groups))
