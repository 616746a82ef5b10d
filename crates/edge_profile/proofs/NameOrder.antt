-- Names in order, each written backwards: names with the same suffix are next to each other.
use Rattle.std.proofs.Common.{◌≡◌, ◌<◌, ◌≤◌, ◌+◌, ◌∙◌, ℕ, zero, suc, Bool, true, false, cond, List, [], ◌∷◌, ◌++◌, ap, refl, sym}
use Rattle.std.proofs.Common.{length, take, get_or, arith, nat_lt, Ordering}
use Rattle.std.proofs.lemmas.Bool.{ltb-false}
use Rattle.std.proofs.lemmas.Cmp.{nat_cmp_total, tied_itself}
use Rattle.std.specs.Prelude.{◌==◌}
use Rattle.std.specs.Ordering.{is_lt, nat_cmp, ordering_then}
use Rattle.std.specs.Cmp.Lexicographic.{slice_cmp}
use Rattle.edge_profile.specs.NameEnds.{code_at}

same_head : (a b : ℕ) (xs ys : List ℕ) → a ∷ xs ≡ b ∷ ys → a ≡ b
same_head a b xs ys same = ap (λ (l : List ℕ). get_or l 0 0) same

same_tail : (a b : ℕ) (xs ys : List ℕ) → a ∷ xs ≡ b ∷ ys → xs ≡ ys
same_tail a b xs ys same = ap (λ (l : List ℕ). tail l) same
  where
    tail : List ℕ → List ℕ
    tail [] = []
    tail (x ∷ l) = l

no_item : {G : Type 0} (a : ℕ) (xs : List ℕ) → [] ≡ a ∷ xs → G
no_item a xs same = absurd (let l = ap length same in omega (arith, l))

-- A list begins with w followed by b exactly if it begins with w and has b after it.

pub begins_more : (w x : List ℕ) (b : ℕ) → take (length w) x ≡ w → code_at (length w) x ≡ suc b →
    take (suc (length w)) x ≡ w ++ b ∷ []
begins_more [] [] b begins code = absurd (omega (arith, code))
begins_more [] (c ∷ x) b begins code = let same : c ≡ b = omega (arith, code) in ap (λ (k : ℕ). k ∷ []) same
begins_more (a ∷ w) [] b begins code = no_item a w begins
begins_more (a ∷ w) (c ∷ x) b begins code =
    ap (λ (k : ℕ). k ∷ take (suc (length w)) x) (same_head c a (take (length w) x) w begins)
    ∙ ap (λ (l : List ℕ). a ∷ l) (begins_more w x b (same_tail c a (take (length w) x) w begins) code)

pub begins_less : (w x : List ℕ) (b : ℕ) → take (suc (length w)) x ≡ w ++ b ∷ [] →
    (take (length w) x ≡ w) × (code_at (length w) x ≡ suc b)
begins_less [] [] b begins = no_item b [] begins
begins_less [] (c ∷ x) b begins = (refl, ap suc (same_head c b [] [] begins))
begins_less (a ∷ w) [] b begins = no_item a (w ++ b ∷ []) begins
begins_less (a ∷ w) (c ∷ x) b begins =
    let rest = begins_less w x b (same_tail c a (take (suc (length w)) x) (w ++ b ∷ []) begins) in
    let head = same_head c a (take (suc (length w)) x) (w ++ b ∷ []) begins in
    (ap (λ (k : ℕ). k ∷ take (length w) x) head ∙ ap (λ (l : List ℕ). a ∷ l) rest.0, rest.1)

-- Two lists in order with the same beginning.

clash : {G : Type 0} → true ≡ false → G
clash e = absurd (cc)

heads_rise : (a b : ℕ) (o : Ordering) → is_lt (ordering_then (nat_cmp b a) o) ≡ false → a ≤ b
heads_rise a b o up = by (nat_lt b a) refl
  where
    by : (t : Bool) → nat_lt b a ≡ t → a ≤ b
    by true less =
        clash
        (sym (ap (λ (s : Bool). is_lt (ordering_then (cond s Ordering.Less (cond (b == a) Ordering.Equal Ordering.Greater)) o)) less)
        ∙ up)
    by false at_least = ltb-false b a at_least

tails_rise : (a b : ℕ) (x y : List ℕ) → a ≡ b → is_lt (slice_cmp nat_cmp (b ∷ y) (a ∷ x)) ≡ false →
    is_lt (slice_cmp nat_cmp y x) ≡ false
tails_rise a b x y same up =
    sym (ap (λ (o : Ordering). is_lt (ordering_then o (slice_cmp nat_cmp y x))) (tied b a (sym same))) ∙ up
  where
    tied : (b a : ℕ) → b ≡ a → nat_cmp b a ≡ Ordering.Equal
    tied b a same = ap (nat_cmp b) (sym same) ∙ tied_itself nat_cmp_total b

-- the bytes after the common beginning ascend
pub codes_rise : (w x y : List ℕ) → is_lt (slice_cmp nat_cmp y x) ≡ false → take (length w) x ≡ w → take (length w) y ≡ w →
    code_at (length w) x ≤ code_at (length w) y
codes_rise [] [] y up begins_x begins_y = omega arith
codes_rise [] (a ∷ x) [] up begins_x begins_y = clash up
codes_rise [] (a ∷ x) (b ∷ y) up begins_x begins_y = let rise = heads_rise a b (slice_cmp nat_cmp y x) up in omega (arith, rise)
codes_rise (c ∷ w) [] y up begins_x begins_y = no_item c w begins_x
codes_rise (c ∷ w) (a ∷ x) [] up begins_x begins_y = no_item c w begins_y
codes_rise (c ∷ w) (a ∷ x) (b ∷ y) up begins_x begins_y =
    codes_rise w x y
    (tails_rise a b x y (same_head a c (take (length w) x) w begins_x ∙ sym (same_head b c (take (length w) y) w begins_y)) up)
    (same_tail a c (take (length w) x) w begins_x) (same_tail b c (take (length w) y) w begins_y)

-- if the later list equals the common beginning, so does the earlier one
pub first_is_whole : (w x y : List ℕ) → is_lt (slice_cmp nat_cmp y x) ≡ false → take (length w) x ≡ w → y ≡ w → x ≡ w
first_is_whole [] [] y up begins is = refl
first_is_whole [] (a ∷ x) [] up begins is = clash up
first_is_whole [] (a ∷ x) (b ∷ y) up begins is = no_item b y (sym is)
first_is_whole (c ∷ w) [] y up begins is = no_item c w begins
first_is_whole (c ∷ w) (a ∷ x) [] up begins is = no_item c w is
first_is_whole (c ∷ w) (a ∷ x) (b ∷ y) up begins is =
    let head = same_head a c (take (length w) x) w begins in
    let tail = first_is_whole w x y (tails_rise a b x y (head ∙ sym (same_head b c y w is)) up)
    (same_tail a c (take (length w) x) w begins) (same_tail b c y w is) in
    ap (λ (k : ℕ). k ∷ x) head ∙ ap (λ (l : List ℕ). c ∷ l) tail

-- The code at an index is the byte there plus 1, and 0 past the end.

pub code-within : (xs : List ℕ) (i d : ℕ) → i < length xs → code_at i xs ≡ get_or xs i d + 1
code-within [] i d within = absurd (omega (arith, within))
code-within (x ∷ xs) zero d within = omega arith
code-within (x ∷ xs) (suc i) d within = code-within xs i d (omega (arith, within))

pub code-past : (xs : List ℕ) (i : ℕ) → length xs ≤ i → code_at i xs ≡ 0
code-past [] i past = refl
code-past (x ∷ xs) zero past = absurd (omega (arith, past))
code-past (x ∷ xs) (suc i) past = code-past xs i (omega (arith, past))
