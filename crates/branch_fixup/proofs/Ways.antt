-- Ways that become longer while forms grow one at a time.
use Rattle.std.proofs.Common.{◌≡◌, ℕ, zero, suc, ◌+◌, ◌-◌, ◌^◌, ◌<◌, ◌≤◌, List, length, Option, Some, None, Bool, true, false}
use Rattle.std.proofs.Common.{refl, sym, ap, subst, arith, inl, inr}
use Rattle.std.specs.Prelude.{slice_index, slice_set, nat_lt, nat_le, ◌&&◌, ◌||◌, if◌then◌else◌, MatchBool, sum_by}
use Rattle.std.specs.Option.{option_map_or}
use Rattle.std.proofs.lemmas.Bool.{and_parts, leb-true, ltb-true, ltb-false, cases_eq, cases_order}
use Rattle.std.proofs.lemmas.List.{get_or-set_same, get_or-set_other}
use Rattle.rv_code.specs.declared.layout.Form.{Form}
use Rattle.branch_fixup.specs.declared.growth.BlockEnd.{BlockEnd}
use Rattle.branch_fixup.specs.Pieces.{piece_length}
use Rattle.branch_fixup.specs.Growth.{end_at, form_at, block_length, longer, is_enough, from_at, to_at, form_reach, left_of, block_offset}
use Rattle.branch_fixup.specs.Growth.{AreBlockEnds, AreGrown}
use Rattle.branch_fixup.specs.Distances.{reaches}
use Rattle.branch_fixup.specs.Ways.{crosses, is_enough_by, AreStarts, IsLonger, AreLonger, AreLongerOver}
use Rattle.branch_fixup.proofs.Grown.{IsBelow, ahead, back, gap, rises, short_more}
use Rattle.branch_fixup.proofs.Rounds.{at_other, at_same, below_grow, grow_step, place_low}
use Rattle.rb_bytes.proofs.ListLemmas.{zeros}

-- The starts that forms give are possible starts.

pub apart_of : (ts : List BlockEnd) (fs : List Form) (i j : ℕ) → i < j →
    block_offset ts fs i + (end_at ts i).before ≤ block_offset ts fs j
apart_of ts fs i j less =
    let z : j - suc i + suc i ≡ j = omega (arith, less) in
    let up : block_offset ts fs (suc i) ≤ block_offset ts fs j =
    subst (λ (m : ℕ). block_offset ts fs (suc i) ≤ block_offset ts fs m) z
    (rises ts fs (suc i) (j - suc i)) in
    omega (arith, up)

pub are_starts : (ts : List BlockEnd) (fs : List Form) (places : List ℕ) → AreBlockEnds ts → length places ≡ length ts + 1 →
    ((i : ℕ) → i ≤ length ts → slice_index places i ≡ block_offset ts fs i) → AreStarts ts places
are_starts ts fs places block_ends len at = record {
  len = len;
  apart = λ i j less within.
      let a = at i (omega (arith, less, within)) in
      let b = at j within in
      let h = apart_of ts fs i j less in
      omega (arith, a, b, h);
  low = λ i within. let a = at i within in let l = place_low ts fs block_ends i within in omega (arith, a, l);
}

-- A form that doesn't reach by a lower bound of its way doesn't reach.

back_in : (ts : List BlockEnd) (at : ℕ → ℕ) (t k o : ℕ) → t ≤ k → (t < k → at t + (end_at ts t).before ≤ at k) →
    o ≤ (end_at ts t).before → at t + o ≤ at k + (end_at ts k).before
back_in ts at t k o le apart o_in = elim (cases_order t k) [
  | inl same ↦ subst (λ (j : ℕ). at t + o ≤ at j + (end_at ts j).before) same (omega (arith, o_in))
  | inr other ↦ elim other [
    | inl less ↦ let h = apart less in omega (arith, h, o_in)
    | inr more ↦ absurd (omega (arith, le, more))
  ]
]

pub not_enough_by : (ts : List BlockEnd) (places : List ℕ) (fs : List Form) (k more : ℕ) (f : Form) → AreBlockEnds ts →
    AreStarts ts places → k < length ts → IsLonger ts places fs k more → is_enough_by ts places more k f ≡ false →
    is_enough ts fs k f ≡ false
not_enough_by ts places fs k more f block_ends starts k_in l h = by (form_reach f) h
  where
    split : (reach : ℕ) (b : Bool) → nat_lt k (end_at ts k).to ≡ b →
        (if b then reaches reach (slice_index places k + (end_at ts k).before)
        (slice_index places (end_at ts k).to + (end_at ts k).offset + more)
        else reaches reach (slice_index places k + (end_at ts k).before + more)
        (slice_index places (end_at ts k).to + (end_at ts k).offset)) ≡ false →
        reaches reach (from_at ts fs k) (to_at ts fs k) ≡ false
    split reach true e h =
        let less = ltb-true k (end_at ts k).to e in
        let to_in = block_ends.to_block k k_in in
        let p = starts.apart k (end_at ts k).to less (omega (arith, to_in)) in
        let q = apart_of ts fs k (end_at ts k).to less in
        let m = l.ahead (omega (arith, less)) in
        short_more reach (slice_index places k + (end_at ts k).before)
        (slice_index places (end_at ts k).to + (end_at ts k).offset + more) (from_at ts fs k) (to_at ts fs k)
        (ahead (omega (arith, p)) (omega (arith, q)) (omega (arith, m))) h
    split reach false e h =
        let le = ltb-false k (end_at ts k).to e in
        let inside = block_ends.to_inside k k_in in
        let p = back_in ts (λ j. slice_index places j) (end_at ts k).to k (end_at ts k).offset le
        (λ less. starts.apart (end_at ts k).to k less (omega (arith, k_in))) inside in
        let q = back_in ts (block_offset ts fs) (end_at ts k).to k (end_at ts k).offset le
        (apart_of ts fs (end_at ts k).to k) inside in
        let m = l.back le in
        short_more reach (slice_index places k + (end_at ts k).before + more)
        (slice_index places (end_at ts k).to + (end_at ts k).offset) (from_at ts fs k) (to_at ts fs k)
        (back (omega (arith, p)) (omega (arith, q)) (omega (arith, m))) h

    by : (o : Option ℕ) → option_map_or (λ reach.
        if nat_lt k (end_at ts k).to
        then reaches reach (slice_index places k + (end_at ts k).before)
        (slice_index places (end_at ts k).to + (end_at ts k).offset + more)
        else reaches reach (slice_index places k + (end_at ts k).before + more)
        (slice_index places (end_at ts k).to + (end_at ts k).offset)) o true ≡ false →
        option_map_or (λ reach. reaches reach (from_at ts fs k) (to_at ts fs k)) o true ≡ false
    by None h = h
    by (Some reach) h = split reach (nat_lt k (end_at ts k).to) refl h

-- The lower bound is below the size of all code.
pub longer_low : (ts : List BlockEnd) (places : List ℕ) (fs : List Form) (k more : ℕ) → AreBlockEnds ts → AreStarts ts places →
    k < length ts → IsLonger ts places fs k more → more < 2 ^ 62
longer_low ts places fs k more block_ends starts k_in l = elim (cases_order k (end_at ts k).to) [
  | inl same ↦
      let m = l.ahead (omega (arith, same)) in
      let a = ap (block_offset ts fs) same in
      let b = ap (slice_index places) same in
      omega (arith, m, a, b)
  | inr other ↦ elim other [
    | inl less ↦
        let m = l.ahead (omega (arith, less)) in
        let p = starts.apart k (end_at ts k).to less (omega (arith, to_in)) in
        let low = place_low ts fs block_ends (end_at ts k).to (omega (arith, to_in)) in
        omega (arith, m, p, low)
    | inr less ↦
        let m = l.back (omega (arith, less)) in
        let p = starts.apart (end_at ts k).to k less (omega (arith, k_in)) in
        let low = place_low ts fs block_ends k (omega (arith, k_in)) in
        omega (arith, m, p, low)
  ]
]
  where
    to_in : (end_at ts k).to < length ts
    to_in = block_ends.to_block k k_in

-- One form grows.

place_before : (ts : List BlockEnd) (fs : List Form) (p : ℕ) (x : Form) (i : ℕ) → i ≤ p →
    block_offset ts (slice_set fs p x) i ≡ block_offset ts fs i
place_before ts fs p x zero h = refl
place_before ts fs p x (suc i) h =
    let rest = place_before ts fs p x i (omega (arith, h)) in
    let here : block_length ts (slice_set fs p x) i ≡ block_length ts fs i =
    ap (λ (f : Form). (end_at ts i).before + piece_length (end_at ts i).len f)
    (at_other fs p i x (λ e. absurd (omega (arith, e, h)))) in
    omega (arith, rest, here)

place_after : (ts : List BlockEnd) (fs : List Form) (p : ℕ) (x : Form) (bytes : ℕ) → p < length fs →
    bytes + piece_length (end_at ts p).len (form_at fs p) ≡ piece_length (end_at ts p).len x → (i : ℕ) → p < i →
    block_offset ts (slice_set fs p x) i ≡ block_offset ts fs i + bytes
place_after ts fs p x bytes p_in e zero h = absurd (omega (arith, h))
place_after ts fs p x bytes p_in e (suc i) h = elim (cases_eq i p) [
  | inl same ↦
      let rest = place_before ts fs p x i (omega (arith, same)) in
      let new : piece_length (end_at ts i).len (form_at (slice_set fs p x) i) ≡ piece_length (end_at ts p).len x =
      rw (same, at_same fs p x p_in) refl in
      let old : piece_length (end_at ts i).len (form_at fs i) ≡ piece_length (end_at ts p).len (form_at fs p) =
      rw same refl in
      omega (arith, rest, new, old, e)
  | inr other ↦
      let rest = place_after ts fs p x bytes p_in e i (omega (arith, h, other)) in
      let here : block_length ts (slice_set fs p x) i ≡ block_length ts fs i =
      ap (λ (f : Form). (end_at ts i).before + piece_length (end_at ts i).len f) (at_other fs p i x other) in
      omega (arith, rest, here)
]

gap_to : (ts : List BlockEnd) (xs ys : List Form) → IsBelow ts xs ys → (i j : ℕ) → i ≤ j →
    block_offset ts xs j + block_offset ts ys i ≤ block_offset ts ys j + block_offset ts xs i
gap_to ts xs ys b i j le =
    let z : j - i + i ≡ j = omega (arith, le) in
    subst (λ (m : ℕ). block_offset ts xs m + block_offset ts ys i
    ≤ block_offset ts ys m + block_offset ts xs i) z (gap ts xs ys b i (j - i))

one_of : (a b : Bool) → (a || b) ≡ true → (P : Type 0) → (a ≡ true → P) → (b ≡ true → P) → P
one_of true b h P f g = f refl
one_of false b h P f g = g h

module _ (ts : List BlockEnd) (places : List ℕ) (fs : List Form) (p : ℕ) (p_in : p < length fs) where
  abbrev grown : List Form
  grown = slice_set fs p (longer (form_at fs p))

  -- ways don't become shorter
  pub still_longer : (k more : ℕ) → IsLonger ts places fs k more → IsLonger ts places grown k more
  still_longer k more l = record {
    ahead = λ le.
        let m = l.ahead le in
        let g = gap_to ts fs grown (below_grow ts fs p p_in) k (end_at ts k).to le in
        omega (arith, m, g);
    back = λ le.
        let m = l.back le in
        let g = gap_to ts fs grown (below_grow ts fs p p_in) (end_at ts k).to k le in
        omega (arith, m, g);
  }

  -- ways over the block become longer
  pub longer_over : (k more bytes : ℕ) →
      bytes + piece_length (end_at ts p).len (form_at fs p) ≡ piece_length (end_at ts p).len (longer (form_at fs p)) →
      crosses ts k p ≡ true → IsLonger ts places fs k more → IsLonger ts places grown k (more + bytes)
  longer_over k more bytes e over l =
      one_of (nat_le k p && nat_lt p (end_at ts k).to) (nat_le (end_at ts k).to p && nat_lt p k) over
      (IsLonger ts places grown k (more + bytes))
      (λ h.
      let (le, less) = and_parts (nat_le k p) (nat_lt p (end_at ts k).to) h in
      let low = leb-true k p le in
      let high = ltb-true p (end_at ts k).to less in
      let x = place_before ts fs p (longer (form_at fs p)) k low in
      let y = place_after ts fs p (longer (form_at fs p)) bytes p_in e (end_at ts k).to high in
      record {
        ahead = λ way. let m = l.ahead way in omega (arith, m, x, y);
        back = λ way. absurd (omega (arith, way, low, high));
      })
      (λ h.
      let (le, less) = and_parts (nat_le (end_at ts k).to p) (nat_lt p k) h in
      let low = leb-true (end_at ts k).to p le in
      let high = ltb-true p k less in
      let x = place_before ts fs p (longer (form_at fs p)) (end_at ts k).to low in
      let y = place_after ts fs p (longer (form_at fs p)) bytes p_in e k high in
      record {
        ahead = λ way. absurd (omega (arith, way, low, high));
        back = λ way. let m = l.back way in omega (arith, m, x, y);
      })

  pub grown_sound : AreBlockEnds ts → is_enough ts fs p (form_at fs p) ≡ false → AreGrown ts fs → AreGrown ts grown
  grown_sound block_ends short sound =
      let one = sound.one_each in
      let r = grow_step ts fs fs p block_ends (omega (arith, p_in, one)) short (record {
        len = sound.one_each;
        rest = λ k le. refl;
        below = record { each = λ k. omega arith };
        needed = sound.needed;
        fits = sound.fits;
      }) in
      record { one_each = r.len; needed = r.needed; fits = r.fits }

-- A step of the loop over blocks: the way of one block becomes longer by `bytes`.

pub add_longer : (ts : List BlockEnd) (places : List ℕ) (fs : List Form) (mores : List ℕ) (p bytes k : ℕ) →
    length mores ≡ length ts → k < length ts → crosses ts k p ≡ true → AreLonger ts places fs mores →
    AreLongerOver ts places fs mores p bytes k →
    AreLonger ts places fs (slice_set mores k (slice_index mores k + bytes))
add_longer ts places fs mores p bytes k len k_in over l more j j_in = elim (cases_eq j k) [
  | inl same ↦
      subst (λ (m : ℕ). IsLonger ts places fs m (slice_index (slice_set mores k (slice_index mores k + bytes)) m)) (sym same)
      (rw (get_or-set_same mores k (slice_index mores k + bytes) 0 (omega (arith, len, k_in)))
      (more k (omega arith) k_in over))
  | inr other ↦ rw (get_or-set_other mores k j (slice_index mores k + bytes) 0 other) (l j j_in)
]

pub rest_over : (ts : List BlockEnd) (places : List ℕ) (fs : List Form) (mores : List ℕ) (p bytes k x : ℕ) →
    AreLongerOver ts places fs mores p bytes k → AreLongerOver ts places fs (slice_set mores k x) p bytes (k + 1)
rest_over ts places fs mores p bytes k x more j le j_in over =
    rw (get_or-set_other mores k j x 0 (λ e. absurd (omega (arith, e, le)))) (more j (omega (arith, le)) j_in over)

pub later_over : (ts : List BlockEnd) (places : List ℕ) (fs : List Form) (mores : List ℕ) (p bytes k : ℕ) →
    AreLongerOver ts places fs mores p bytes k → AreLongerOver ts places fs mores p bytes (k + 1)
later_over ts places fs mores p bytes k more j le j_in over = more j (omega (arith, le)) j_in over

-- The forms that are left to grow.

pub fewer_yes : (grew : Bool) (olds fs news : List Form) →
    MatchBool grew (sum_by left_of fs < sum_by left_of olds) (fs ≡ olds) → sum_by left_of news < sum_by left_of fs →
    sum_by left_of news < sum_by left_of olds
fewer_yes true olds fs news h less = omega (arith, h, less)
fewer_yes false olds fs news h less = let e = ap (sum_by left_of) h in omega (arith, e, less)

pub fewer_no : (grew : Bool) (olds fs news : List Form) → news ≡ fs →
    MatchBool grew (sum_by left_of fs < sum_by left_of olds) (fs ≡ olds) →
    MatchBool grew (sum_by left_of news < sum_by left_of olds) (news ≡ olds)
fewer_no grew olds fs news e h =
    subst (λ (l : List Form). MatchBool grew (sum_by left_of l < sum_by left_of olds) (l ≡ olds)) (sym e) h

-- At the start no way is known to be longer.
pub none_longer : (ts : List BlockEnd) (places : List ℕ) (fs : List Form) (mores : List ℕ) → AreBlockEnds ts →
    ((i : ℕ) → i ≤ length ts → slice_index places i ≡ block_offset ts fs i) → ((i : ℕ) → slice_index mores i ≡ 0) →
    AreLonger ts places fs mores
none_longer ts places fs mores block_ends at zeros k k_in =
    let to_in = block_ends.to_block k k_in in
    let here = at k (omega (arith, k_in)) in
    let there = at (end_at ts k).to (omega (arith, to_in)) in
    let z = zeros k in
    record {
      ahead = λ le. omega (arith, here, there, z);
      back = λ le. omega (arith, here, there, z);
    }
