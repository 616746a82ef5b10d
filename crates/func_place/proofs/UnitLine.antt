-- The line of units contains each unit exactly once, and bands split this line.
use Rattle.std.proofs.Common.{subst, ℕ, ◌≡◌, ◌≢◌, ◌<◌, ◌≤◌, ◌+◌, ◌-◌, ⊎_elim, Bool, true, false, List, [], ◌∷◌, ◌++◌, length}
use Rattle.std.proofs.Common.{take, drop, arith, refl, sym, ◌∙◌, ap, append_assoc}
use Rattle.std.specs.Prelude.{◌==◌, nat_lt, All, sum_by, slice_index}
use Rattle.std.specs.List.{fold, range_with_len, flat_map}
use Rattle.std.proofs.lemmas.Grind.{common_steps}
use Rattle.std.proofs.lemmas.Bool.{cases_eq, cases_lt, cases_Bool}
use Rattle.std.proofs.lemmas.List.{append-nil, flat_map_more, take-append-le, drop-append-le, drop_at, get_or_append_left}
use Rattle.std.proofs.lemmas.List.{get_or-append_right, get_or_past, length-append, length-drop, drop-drop}
use Rattle.std.proofs.lemmas.List.Elements.{All-nil, All-push, All-head, All-tail}
use Rattle.std.proofs.lemmas.List.Sums.{sum_by-cons, sum_by-append, sum_by_push, sum_by-take-le, sum_by-take-drop}
use Rattle.func_place.specs.declared.calls.UnitCall.{UnitCall}
use Rattle.func_place.specs.Calls.{heaviest_caller, hot_units}
use Rattle.rv_code.specs.layout.WorstSizes.{near_limit}
use Rattle.func_place.specs.Clusters.{alone, total}
use Rattle.func_place.specs.Bands.{Bands, put_unit, bands_of, blocks_of, order_of}
use Rattle.func_place.specs.UnitOrder.{IsUnitOrder, cold_units, unit_clusters}
use Rattle.func_place.proofs.ClusterParts.{IsClustered, alone_clustered, folded_clustered, ranked_warm, ranked_cold}
use Rattle.func_place.proofs.OnlyHeaviest.{caller_in}
use Rattle.func_place.proofs.Times.{times, times-nil, times-cons, times-same, times-append, times-flat_map, times-filter_in}
use Rattle.func_place.proofs.Times.{times-filter_out, times-range_in, times-get_or, times-IsPermutation, sum-plus}

-- The line of units.

abbrev warm_of : List ℕ → ℕ → Bool
warm_of heats u = nat_lt 0 (slice_index heats u)

warm_some : (heats : List ℕ) (u : ℕ) → 0 < slice_index heats u → warm_of heats u ≡ true
warm_some heats u h = grind (arith, common_steps)

warm_inside : (heats : List ℕ) (u : ℕ) → warm_of heats u ≡ true → u < length heats
warm_inside heats u h = ⊎_elim (λ (lt : u < length heats). lt)
    (λ (ge : length heats ≤ u). let past = get_or_past heats u 0 ge in absurd (cold_there (slice_index heats u) past h))
    (cases_lt u (length heats))
  where
    cold_there : (n : ℕ) → n ≡ 0 → nat_lt 0 n ≡ true → ⊥
    cold_there n e h = grind (arith, common_steps)

not_cold : (n : ℕ) → nat_lt 0 n ≡ true → (n == 0) ≡ false
not_cold n h = grind (arith, common_steps)

is_cold : (n : ℕ) → nat_lt 0 n ≡ false → (n == 0) ≡ true
is_cold n h = grind (arith, common_steps)

abbrev pub line_of : {sizes heats : List ℕ} {calls : List UnitCall} {hot cold : ℕ → List ℕ} {order : List ℕ} →
    IsUnitOrder sizes heats calls hot cold order → List ℕ
line_of {sizes} {heats} {calls} o = flat_map (unit_clusters sizes heats calls o.taken) o.ranked ++ cold_units heats

pub line_times : {sizes heats : List ℕ} {calls : List UnitCall} {hot cold : ℕ → List ℕ} {order : List ℕ}
    (o : IsUnitOrder sizes heats calls hot cold order) (w : ℕ) → times w (line_of o) ≡ times w (range_with_len 0 (length heats))
line_times {sizes} {heats} {calls} o w =
    let n = length heats in
    let taken = o.taken in
    let cluster = unit_clusters sizes heats calls taken in
    let count : (u : ℕ) → times u taken ≡ times u (hot_units heats) =
    λ u. times-IsPermutation u (hot_units heats) taken o.taken_is.each in
    let all : (u : ℕ) → 0 < times u taken → warm_of heats u ≡ true = λ u some. ⊎_elim
    (λ (h : warm_of heats u ≡ true). h)
    (λ (h : warm_of heats u ≡ false).
    let z = times-filter_out (warm_of heats) u (range_with_len 0 n) h in
    let c = count u in
    absurd (omega arith))
    (cases_Bool (warm_of heats u)) in
    let once : (u : ℕ) → warm_of heats u ≡ true → times u taken ≡ 1 =
    λ u h. count u ∙ times-filter_in (warm_of heats) u (range_with_len 0 n) h ∙ times-range_in u n (warm_inside heats u h) in
    let c : IsClustered (warm_of heats) cluster = folded_clustered (warm_of heats) sizes (heaviest_caller heats calls)
    (λ u v e. warm_some heats v (caller_in heats calls u v e).hot) taken alone all (alone_clustered (warm_of heats)) in
    times-append w (flat_map cluster o.ranked) (cold_units heats) ∙ ⊎_elim
    (λ (h : warm_of heats w ≡ true).
    let one = ranked_warm c taken o.ranked w o.ranked_is.each once h in
    let none = times-filter_out (λ u. slice_index heats u == 0) w (range_with_len 0 n) (not_cold (slice_index heats w) h) in
    let there = times-range_in w n (warm_inside heats w h) in
    let e : times w (flat_map cluster o.ranked) + times w (cold_units heats) ≡ times w (range_with_len 0 n) = omega arith in e)
    (λ (h : warm_of heats w ≡ false).
    let none = ranked_cold c taken o.ranked w o.ranked_is.each all h in
    let one = times-filter_in (λ u. slice_index heats u == 0) w (range_with_len 0 n) (is_cold (slice_index heats w) h) in
    let e : times w (flat_map cluster o.ranked) + times w (cold_units heats) ≡ times w (range_with_len 0 n) = omega arith in e)
    (cases_Bool (warm_of heats w))

-- Bands.

abbrev pub flat : List (List ℕ) → List ℕ
flat bands = flat_map (λ b. b) bands

record AreBands (sizes us : List ℕ) (bands : Bands) : Type 0 where
  line : flat bands.0 ++ bands.1 ≡ us
  low : All (λ b. total sizes b ≤ near_limit) bands.0
  last : total sizes bands.1 ≤ near_limit

over : (n : ℕ) → nat_lt near_limit n ≡ false → n ≤ near_limit
over n h = grind (arith, common_steps)

bands_step : (sizes us : List ℕ) (u : ℕ) (bands : Bands) → slice_index sizes u ≤ near_limit → AreBands sizes us bands →
    AreBands sizes (us ++ u ∷ []) (put_unit sizes bands u)
bands_step sizes us u bands small a = ⊎_elim
    (λ (h : nat_lt near_limit (total sizes bands.1 + slice_index sizes u) ≡ true). rw h (record {
      line = ap (λ (xs : List ℕ). xs ++ u ∷ []) (sym (flat_map_more (λ (b : List ℕ). b) [] bands.0 bands.1) ∙ a.line);
      low = All-push (λ (b : List ℕ). total sizes b ≤ near_limit) bands.0 bands.1 a.low a.last;
      last = let one = sum_by-cons (λ (x : ℕ). slice_index sizes x) u [] in omega arith;
    }))
    (λ (h : nat_lt near_limit (total sizes bands.1 + slice_index sizes u) ≡ false). rw h (record {
      line = sym (append_assoc (flat bands.0) bands.1 (u ∷ [])) ∙ ap (λ (xs : List ℕ). xs ++ u ∷ []) a.line;
      low = a.low;
      last =
          let one = sum_by_push (λ (x : ℕ). slice_index sizes x) bands.1 u in
          let le = over (total sizes bands.1 + slice_index sizes u) h in omega arith;
    }))
    (cases_Bool (nat_lt near_limit (total sizes bands.1 + slice_index sizes u)))

bands_all : (sizes us done : List ℕ) (bands : Bands) → ((u : ℕ) → slice_index sizes u ≤ near_limit) → AreBands sizes done bands →
    AreBands sizes (done ++ us) (fold (put_unit sizes) bands us)
bands_all sizes [] done bands small a = subst (λ (xs : List ℕ). AreBands sizes xs bands) (sym (append-nil done)) a
bands_all sizes (u ∷ us) done bands small a =
    subst (λ (xs : List ℕ). AreBands sizes xs (fold (put_unit sizes) (put_unit sizes bands u) us)) (append_assoc done (u ∷ []) us)
    (bands_all sizes us (done ++ u ∷ []) (put_unit sizes bands u) small (bands_step sizes done u bands (small u) a))

-- a line that is split into bands
pub record AreCut (sizes : List ℕ) (hot cold : ℕ → List ℕ) (line order : List ℕ) : Type 0 where
  pub bands : List (List ℕ)
  pub line_is : flat bands ≡ line
  pub low : All (λ b. total sizes b ≤ near_limit) bands
  pub order_is : order ≡ flat_map (blocks_of hot cold) bands

pub cut_of : (sizes : List ℕ) (hot cold : ℕ → List ℕ) (line : List ℕ) → ((u : ℕ) → slice_index sizes u ≤ near_limit) →
    AreCut sizes hot cold line (order_of sizes hot cold line)
cut_of sizes hot cold line small =
    let bands = bands_of sizes line in
    let a = bands_all sizes line [] ([], []) small
    (record { line = refl; low = All-nil (λ (b : List ℕ). total sizes b ≤ near_limit); last = omega arith }) in
    record {
      bands = bands.0 ++ bands.1 ∷ [];
      line_is = sym (flat_map_more (λ (b : List ℕ). b) [] bands.0 bands.1) ∙ a.line;
      low = All-push (λ (b : List ℕ). total sizes b ≤ near_limit) bands.0 bands.1 a.low a.last;
      order_is = flat_map_more (blocks_of hot cold) [] bands.0 bands.1;
    }

-- How often a block is in bands.

pub blocks_times : (hot cold : ℕ → List ℕ) (k : ℕ) (band : List ℕ) →
    times k (blocks_of hot cold band) ≡ sum_by (λ u. times k (hot u) + times k (cold u)) band
blocks_times hot cold k band =
    times-append k (flat_map hot band) (flat_map cold band)
    ∙ (let a = times-flat_map k hot band in let b = times-flat_map k cold band in let e : times k (flat_map hot band) + times k
    (flat_map cold band) ≡ sum_by (λ u. times k (hot u)) band + sum_by (λ u. times k (cold u)) band = omega arith in e)
    ∙ sym (sum-plus (λ u. times k (hot u)) (λ u. times k (cold u)) band)

pub order_times : (hot cold : ℕ → List ℕ) (k : ℕ) (bands : List (List ℕ)) →
    times k (flat_map (blocks_of hot cold) bands) ≡ sum_by (λ u. times k (hot u) + times k (cold u)) (flat bands)
order_times hot cold k [] = times-nil k
order_times hot cold k (b ∷ bs) =
    let t : ℕ → ℕ = λ u. times k (hot u) + times k (cold u) in
    let here = blocks_times hot cold k b in
    let rest = order_times hot cold k bs in
    times-append k (blocks_of hot cold b) (flat_map (blocks_of hot cold) bs)
    ∙ (let e : times k (blocks_of hot cold b) + times k (flat_map (blocks_of hot cold) bs)
    ≡ sum_by t b + sum_by t (flat bs) = omega arith in e)
    ∙ sym (sum_by-append t b (flat bs))

-- Blocks of one unit are near each other.

-- the conditions on parts, if each block has a unit and a size
pub record AreOwned (owner weight : ℕ → ℕ) (sizes : List ℕ) (hot cold : ℕ → List ℕ) : Type 0 where
  pub hot_own : (u k : ℕ) → 0 < times k (hot u) → owner k ≡ u
  pub cold_own : (u k : ℕ) → 0 < times k (cold u) → owner k ≡ u
  pub size : (u : ℕ) → sum_by weight (hot u) + sum_by weight (cold u) ≤ slice_index sizes u

pub sum_some : (f : ℕ → ℕ) (xs : List ℕ) → 0 < sum_by f xs → (x : ℕ) × (0 < times x xs) × (0 < f x)
sum_some f [] some = absurd (omega arith)
sum_some f (x ∷ xs) some = ⊎_elim
    (λ (z : f x ≡ 0).
    let c = sum_by-cons f x xs in
    let r = sum_some f xs (omega arith) in
    (r.0, (let t = times-cons r.0 x xs in let s = r.1 in omega arith), r.2))
    (λ (nz : f x ≢ 0). (x, (let t = times-same x xs in omega arith), omega arith))
    (cases_eq (f x) 0)

in_band : {owner weight : ℕ → ℕ} {sizes : List ℕ} {hot cold : ℕ → List ℕ} → AreOwned owner weight sizes hot cold →
    (k : ℕ) (band : List ℕ) → 0 < times k (blocks_of hot cold band) → 0 < times (owner k) band
in_band {owner} {weight} {sizes} {hot} {cold} a k band some =
    let e = blocks_times hot cold k band in
    let s = sum_some (λ u. times k (hot u) + times k (cold u)) band (omega arith) in
    let u = s.0 in
    let there = s.1 in
    let both = s.2 in
    let is : owner k ≡ u = ⊎_elim
    (λ (z : times k (hot u) ≡ 0). a.cold_own u k (omega arith))
    (λ (nz : times k (hot u) ≢ 0). a.hot_own u k (omega arith))
    (cases_eq (times k (hot u)) 0) in
    subst (λ (w : ℕ). 0 < times w band) (sym is) there

in_bands : {owner weight : ℕ → ℕ} {sizes : List ℕ} {hot cold : ℕ → List ℕ} → AreOwned owner weight sizes hot cold →
    (k : ℕ) (bands : List (List ℕ)) → 0 < times k (flat_map (blocks_of hot cold) bands) → 0 < times (owner k) (flat bands)
in_bands a k [] some = absurd (let z = times-nil k in omega arith)
in_bands {owner} {weight} {sizes} {hot} {cold} a k (b ∷ bs) some =
    let e = times-append k (blocks_of hot cold b) (flat_map (blocks_of hot cold) bs) in
    let t = times-append (owner k) b (flat bs) in
    ⊎_elim
    (λ (z : times k (blocks_of hot cold b) ≡ 0). let r = in_bands a k bs (omega arith) in omega arith)
    (λ (nz : times k (blocks_of hot cold b) ≢ 0). let r = in_band a k b (omega arith) in omega arith)
    (cases_eq (times k (blocks_of hot cold b)) 0)

band_parts : {owner weight : ℕ → ℕ} {sizes : List ℕ} {hot cold : ℕ → List ℕ} → AreOwned owner weight sizes hot cold →
    (band : List ℕ) → sum_by weight (flat_map hot band) + sum_by weight (flat_map cold band) ≤ total sizes band
band_parts a [] = omega arith
band_parts {owner} {weight} {sizes} {hot} {cold} a (u ∷ us) =
    let rest = band_parts a us in
    let here = a.size u in
    let x = sum_by-append weight (hot u) (flat_map hot us) in
    let y = sum_by-append weight (cold u) (flat_map cold us) in
    let z = sum_by-cons (λ (w : ℕ). slice_index sizes w) u us in
    omega arith

segment_le : (weight : ℕ → ℕ) (xs : List ℕ) (i n : ℕ) → sum_by weight (take n (drop i xs)) ≤ sum_by weight xs
segment_le weight xs i n =
    let a = sum_by-take-le weight (drop i xs) n in
    let b = sum_by-take-drop weight xs i in
    omega arith

-- a stretch at the front of two concatenated lists
segment_front : (xs ys : List ℕ) (i n : ℕ) → i + n ≤ length xs → take n (drop i (xs ++ ys)) ≡ take n (drop i xs)
segment_front xs ys i n le =
    let count = length-drop i xs in
    ap (take n) (drop-append-le i xs ys (omega arith)) ∙ take-append-le n (drop i xs) ys (omega arith)

segment_back : (xs ys : List ℕ) (i n : ℕ) → length xs ≤ i → take n (drop i (xs ++ ys)) ≡ take n (drop (i - length xs) ys)
segment_back xs ys i n le =
    let split : drop i (xs ++ ys) ≡ drop (i - length xs) (drop (length xs) (xs ++ ys)) =
    sym (drop-drop (i - length xs) (length xs) (xs ++ ys) ∙ ap (λ (m : ℕ). drop m (xs ++ ys)) (omega arith)) in
    ap (take n) (split ∙ ap (drop (i - length xs)) (drop_at xs ys (length xs) refl))

pub units_near : {owner weight : ℕ → ℕ} {sizes : List ℕ} {hot cold : ℕ → List ℕ} → AreOwned owner weight sizes hot cold →
    (bands : List (List ℕ)) → All (λ b. total sizes b ≤ near_limit) bands → ((u : ℕ) → times u (flat bands) ≤ 1) → (i j : ℕ) →
    i ≤ j →
    j < length (flat_map (blocks_of hot cold) bands) →
    owner (slice_index (flat_map (blocks_of hot cold) bands) i) ≡ owner (slice_index (flat_map (blocks_of hot cold) bands) j) →
    sum_by weight (take (j + 1 - i) (drop i (flat_map (blocks_of hot cold) bands))) ≤ near_limit
units_near a [] low once i j le lt same = absurd (omega arith)
units_near {owner} {weight} {sizes} {hot} {cold} a (b ∷ bs) low once i j le lt same =
    let xs = blocks_of hot cold b in
    let ys = flat_map (blocks_of hot cold) bs in
    let all = length-append xs ys in
    ⊎_elim
    (λ (front : j < length xs).
    let parts = band_parts a b in
    let sum = sum_by-append weight (flat_map hot b) (flat_map cold b) in
    let small = All-head (λ (band : List ℕ). total sizes band ≤ near_limit) b bs low in
    let part = segment_le weight xs i (j + 1 - i) in
    rw (segment_front xs ys i (j + 1 - i) (omega arith)) (omega arith))
    (λ (late : length xs ≤ j). ⊎_elim
    (λ (early : i < length xs).
    let x_is : slice_index (xs ++ ys) i ≡ slice_index xs i = get_or_append_left xs ys 0 i early in
    let y_is : slice_index (xs ++ ys) j ≡ slice_index ys (j - length xs) = get_or-append_right xs ys (length xs) j 0 refl late in
    let in_front = in_band a (slice_index xs i) b (times-get_or xs i 0 early) in
    let behind = in_bands a (slice_index ys (j - length xs)) bs (times-get_or ys (j - length xs) 0 (omega arith)) in
    let u = owner (slice_index xs i) in
    let as_one : owner (slice_index ys (j - length xs)) ≡ u = ap owner (sym y_is) ∙ sym same ∙ ap owner x_is in
    let there : 0 < times u (flat bs) = subst (λ (w : ℕ). 0 < times w (flat bs)) as_one behind in
    let t = times-append u b (flat bs) in
    let o = once u in
    absurd (omega arith))
    (λ (back : length xs ≤ i).
    let i_is : slice_index (xs ++ ys) i ≡ slice_index ys (i - length xs) = get_or-append_right xs ys (length xs) i 0 refl back in
    let j_is : slice_index (xs ++ ys) j ≡ slice_index ys (j - length xs) = get_or-append_right xs ys (length xs) j 0 refl late in
    let rest = units_near a bs (All-tail (λ (band : List ℕ). total sizes band ≤ near_limit) b bs low)
    (λ u. let t = times-append u b (flat bs) in let o = once u in omega arith) (i - length xs) (j - length xs) (omega arith)
    (omega arith) (ap owner (sym i_is) ∙ same ∙ ap owner j_is) in
    let n_is : j - length xs + 1 - (i - length xs) ≡ j + 1 - i = omega arith in
    rw (segment_back xs ys i (j + 1 - i) back)
    (subst (λ (n : ℕ). sum_by weight (take n (drop (i - length xs) ys)) ≤ near_limit) n_is rest))
    (cases_lt i (length xs)))
    (cases_lt j (length xs))
