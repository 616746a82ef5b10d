-- Rounds of growing.
use Rattle.std.proofs.Common.{◌≡◌, ◌≢◌, ℕ, zero, suc, ◌+◌, ◌-◌, ◌^◌, ◌<◌, ◌≤◌, List, [], ◌∷◌, ◌++◌, length, Option, Some, None}
use Rattle.std.proofs.Common.{Bool, true, false, refl, sym, ap, ◌∙◌, subst, arith, inl, inr, ⊎_elim, get_or, take, add-one}
use borrow.Author.Count.{below_more}
use Rattle.std.specs.Prelude.{slice_set, IfSome, map, sum_by, MatchBool}
use Rattle.std.proofs.lemmas.Bool.{cases_lt, cases_eq, eq-eqb}
use Rattle.std.proofs.lemmas.List.Sums.{sum_by-set, sum_by_more, sum_by-take-le}
use Rattle.std.proofs.lemmas.List.{get_or_append_left, get_or-append_right, get_or-set_same, get_or-set_other, set-get_or}
use Rattle.std.proofs.lemmas.List.{set-set, length-set}
use Rattle.rv_code.specs.declared.layout.Form.{Form}
use Rattle.rv_code.specs.declared.layout.Form.TheVariants as form
use Rattle.rv_code.specs.declared.layout.Size.TheVariants.{Half, Full, Long}
use Rattle.branch_fixup.specs.declared.growth.BlockEnd.{BlockEnd}
use Rattle.branch_fixup.specs.Endings.{End, end_of_form}
use Rattle.branch_fixup.specs.Pieces.{piece_length}
use Rattle.branch_fixup.specs.Forms.{shorter, FitsLength}
use Rattle.branch_fixup.specs.Growth.{end_at, form_at, block_length, longer, left_of, most_of, is_enough, AreBlockEnds, IsNeeded}
use Rattle.branch_fixup.specs.Growth.{block_offset}
use Rattle.branch_fixup.proofs.Grown.{IsBelow, not_enough_more}

pub form_length : (len : ℕ) (f : Form) → len ≤ 4 → piece_length len f ≤ 12
form_length len form.Plain h = omega (arith, h)
form_length len form.Jump h = omega (arith, h)
form_length len (form.Branch inverted Half true) h = omega arith
form_length len (form.Branch inverted Half false) h = omega arith
form_length len (form.Branch inverted Full true) h = omega arith
form_length len (form.Branch inverted Full false) h = omega arith
form_length len (form.Branch inverted Long true) h = omega arith
form_length len (form.Branch inverted Long false) h = omega arith
form_length len (form.Goto true) h = omega arith
form_length len (form.Goto false) h = omega arith
form_length len form.Dropped h = omega arith

pub place-more : (ts : List BlockEnd) (fs : List Form) (k : ℕ) →
    block_offset ts fs (k + 1) ≡ block_offset ts fs k + block_length ts fs k
place-more ts fs k = rw (add-one k) refl

-- all starts are low
place_most : (ts : List BlockEnd) (fs : List Form) → AreBlockEnds ts → (i : ℕ) → i ≤ length ts →
    block_offset ts fs i ≤ sum_by most_of (take i ts)
place_most ts fs block_ends zero within = omega arith
place_most ts fs block_ends (suc i) within =
    let rest = place_most ts fs block_ends i (omega (arith, within)) in
    let more = sum_by_more most_of ts i (record { before = 0; len = 0; to = 0; offset = 0 }) (omega (arith, within)) in
    let e : sum_by most_of (take (suc i) ts) ≡ sum_by most_of (take (i + 1) ts) =
    ap (λ (j : ℕ). sum_by most_of (take j ts)) (sym (add-one i)) in
    let short = block_ends.short i (omega (arith, within)) in
    let l = form_length (end_at ts i).len (form_at fs i) short in
    omega (arith, rest, more, e, l)

pub place_low : (ts : List BlockEnd) (fs : List Form) → AreBlockEnds ts → (i : ℕ) → i ≤ length ts → block_offset ts fs i < 2 ^ 62
place_low ts fs block_ends i within =
    let most = place_most ts fs block_ends i within in
    let part = sum_by-take-le most_of ts i in
    let low = block_ends.low in
    omega (arith, most, part, low)

pub pushed : (ts : List BlockEnd) (fs : List Form) (v w : List ℕ) (k at : ℕ) → length v ≡ k + 1 →
    ((i : ℕ) → i ≤ k → get_or v i 0 ≡ block_offset ts fs i) → at ≡ block_offset ts fs (k + 1) → w ≡ v ++ at ∷ [] → (i : ℕ) →
    i ≤ k + 1 → get_or w i 0 ≡ block_offset ts fs i
pushed ts fs v w k at len old e is i h = rw is (elim (cases_lt i (k + 1)) [
  | inl below ↦ get_or_append_left v (at ∷ []) 0 i (omega (arith, len, below)) ∙ old i (omega (arith, below))
  | inr above ↦
      let same : i ≡ k + 1 = omega (arith, h, above) in
      let first : i - (k + 1) ≡ 0 = omega (arith, same) in
      get_or-append_right v (at ∷ []) (k + 1) i 0 len above ∙ ap (λ (j : ℕ). get_or (at ∷ []) j 0) first ∙ e
      ∙ ap (block_offset ts fs) (sym same)
])

-- A form that doesn't reach grows by one step, and its next shorter form is then the old one.
pub record GrowsBy (len : ℕ) (f : Form) : Type 0 where
  pub back : shorter len (longer f) ≡ Some f
  pub one_less : left_of (longer f) + 1 ≡ left_of f
  pub fits : FitsLength len (longer f)

pub grows : (ts : List BlockEnd) (fs : List Form) (k len : ℕ) (f : Form) → FitsLength len f → is_enough ts fs k f ≡ false →
    GrowsBy len f
grows ts fs k len (form.Branch inverted Half jump) fits h = record {
  back = rw (eq-eqb len 2 fits) refl;
  one_less = refl;
  fits = tt;
}
grows ts fs k len (form.Branch inverted Full jump) fits h = record { back = refl; one_less = refl; fits = tt }
grows ts fs k len (form.Branch inverted Long jump) fits h = absurd (cc)
grows ts fs k len (form.Goto true) fits h = record { back = rw (eq-eqb len 2 fits) refl; one_less = refl; fits = tt }
grows ts fs k len (form.Goto false) fits h = absurd (cc)
grows ts fs k len form.Plain fits h = absurd (cc)
grows ts fs k len form.Jump fits h = absurd (cc)
grows ts fs k len form.Dropped fits h = absurd (cc)

pub longer_length : (len : ℕ) (f : Form) → piece_length len f ≤ piece_length len (longer f)
longer_length len (form.Branch inverted Half jump) = omega arith
longer_length len (form.Branch inverted Full jump) = omega arith
longer_length len (form.Branch inverted Long jump) = omega arith
longer_length len (form.Goto true) = omega arith
longer_length len (form.Goto false) = omega arith
longer_length len form.Plain = omega arith
longer_length len form.Jump = omega arith
longer_length len form.Dropped = omega arith

pub at_same : (fs : List Form) (i : ℕ) (x : Form) → i < length fs → form_at (slice_set fs i x) i ≡ x
at_same fs i x h = get_or-set_same fs i x form.Plain h

pub at_other : (fs : List Form) (i k : ℕ) (x : Form) → k ≢ i → form_at (slice_set fs i x) k ≡ form_at fs k
at_other fs i k x ne = get_or-set_other fs i k x form.Plain ne

below_trans : (ts : List BlockEnd) (xs ys zs : List Form) → IsBelow ts xs ys → IsBelow ts ys zs → IsBelow ts xs zs
below_trans ts xs ys zs a b = record { each = λ k. let x = a.each k in let y = b.each k in omega (arith, x, y) }

below_set : (ts : List BlockEnd) (xs ys : List Form) (i : ℕ) (x y : Form) → i < length xs → i < length ys →
    IsBelow ts xs ys → piece_length (end_at ts i).len x ≤ piece_length (end_at ts i).len y →
    IsBelow ts (slice_set xs i x) (slice_set ys i y)
below_set ts xs ys i x y h k b le = record {
  each = λ j. ⊎_elim
      (λ (same : j ≡ i). rw (same, at_same xs i x h, at_same ys i y k) (omega (arith, le)))
      (λ (ne : j ≢ i). let e = b.each j in rw (at_other xs i j x ne, at_other ys i j y ne) e)
      (cases_eq j i);
}

set_itself : (fs : List Form) (i : ℕ) → slice_set fs i (form_at fs i) ≡ fs
set_itself fs i = set-get_or fs i form.Plain

-- a form that grows makes no block shorter
pub below_grow : (ts : List BlockEnd) (fs : List Form) (i : ℕ) → i < length fs →
    IsBelow ts fs (slice_set fs i (longer (form_at fs i)))
below_grow ts fs i h = record {
  each = λ j. ⊎_elim
      (λ (same : j ≡ i). let l = longer_length (end_at ts i).len (form_at fs i) in
      rw (same, at_same fs i (longer (form_at fs i)) h) (omega (arith, l)))
      (λ (ne : j ≢ i). rw (at_other fs i j (longer (form_at fs i)) ne) (omega arith))
      (cases_eq j i);
}

-- In a round, before block i.
pub record IsRound (ts : List BlockEnd) (olds fs : List Form) (i : ℕ) : Type 0 where
  pub len : length fs ≡ length ts
  pub rest : (k : ℕ) → i ≤ k → form_at fs k ≡ form_at olds k
  pub below : IsBelow ts olds fs
  pub needed : (k : ℕ) → k < length ts → IsNeeded ts fs k
  pub fits : (k : ℕ) → k < length ts → FitsLength (end_at ts k).len (form_at fs k)

pub grow_step : (ts : List BlockEnd) (olds fs : List Form) (i : ℕ) → AreBlockEnds ts → i < length ts →
    is_enough ts olds i (form_at olds i) ≡ false → IsRound ts olds fs i →
    IsRound ts olds (slice_set fs i (longer (form_at fs i))) (i + 1)
grow_step ts olds fs i block_ends i_in short r =
    let f : Form = form_at fs i in
    let new : List Form = slice_set fs i (longer f) in
    let in_fs : i < length fs = let l = r.len in omega (arith, i_in, l) in
    let same_f : form_at olds i ≡ f = sym (r.rest i (omega arith)) in
    let short_old : is_enough ts olds i f ≡ false = subst (λ (x : Form). is_enough ts olds i x ≡ false) same_f short in
    let short_now : is_enough ts fs i f ≡ false = not_enough_more ts olds fs block_ends r.below i f i_in short_old in
    let g = grows ts olds i (end_at ts i).len f (r.fits i i_in) short_old in
    let here : form_at new i ≡ longer f = at_same fs i (longer f) in_fs in
    let up : IsBelow ts fs new = below_grow ts fs i in_fs in
    record {
      len = length-set fs i (longer f) ∙ r.len;
      rest = λ k le. at_other fs i k (longer f) (λ e. absurd (omega (arith, le, e))) ∙ r.rest k (omega (arith, le));
      below = below_trans ts olds fs new r.below up;
      needed = λ k k_in. ⊎_elim
          (λ (same : k ≡ i).
          let back : slice_set new i f ≡ fs = set-set fs i (longer f) f ∙ set_itself fs i in
          rw (same, here, g.back, back) short_now)
          (λ (ne : k ≢ i). rw (at_other fs i k (longer f) ne) (more k k_in (form_at fs k)
          (shorter (end_at ts k).len (form_at fs k)) (r.needed k k_in)))
          (cases_eq k i);
      fits = λ k k_in. ⊎_elim
          (λ (same : k ≡ i). rw (same, here) g.fits)
          (λ (ne : k ≢ i). rw (at_other fs i k (longer f) ne) (r.fits k k_in))
          (cases_eq k i);
    }
  where
    more : (k : ℕ) → k < length ts → (y : Form) (o : Option Form) → IfSome o
        (λ x. is_enough ts (slice_set fs k x) k x ≡ false) → IfSome o (λ x.
        is_enough ts (slice_set (slice_set fs i (longer (form_at fs i))) k x) k x ≡ false)
    more k k_in y None h = tt
    more k k_in y (Some x) h =
        let l = r.len in
        let new_len = length-set fs i (longer (form_at fs i)) in
        not_enough_more ts (slice_set fs k x) (slice_set (slice_set fs i (longer (form_at fs i))) k x) block_ends
        (below_set ts fs (slice_set fs i (longer (form_at fs i))) k x x (omega (arith, k_in, l))
        (omega (arith, k_in, l, new_len)) (below_grow ts fs i (omega (arith, l, i_in))) (omega arith)) k x k_in h

pub stay_step : (ts : List BlockEnd) (olds fs : List Form) (i : ℕ) → IsRound ts olds fs i → IsRound ts olds fs (i + 1)
stay_step ts olds fs i r = record {
  len = r.len;
  rest = λ k le. r.rest k (omega (arith, le));
  below = r.below;
  needed = r.needed;
  fits = r.fits;
}

pub left-grow : (ts : List BlockEnd) (olds fs : List Form) (i : ℕ) → i < length fs →
    GrowsBy (end_at ts i).len (form_at fs i) → sum_by left_of (slice_set fs i (longer (form_at fs i))) + 1 ≡ sum_by
    left_of fs
left-grow ts olds fs i h g = let e = sum_by-set left_of fs i (longer (form_at fs i)) form.Plain h in let o =
    g.one_less in omega (arith, e, o)

pub no_more_left : (grew : Bool) (olds fs : List Form) (Q : Type 0) → MatchBool grew
    (sum_by left_of fs < sum_by left_of olds) ((fs ≡ olds) × Q) → sum_by left_of fs ≤ sum_by left_of olds
no_more_left true olds fs Q h = omega arith
no_more_left false olds fs Q h = let e : sum_by left_of fs ≡ sum_by left_of olds = ap (sum_by left_of) h.0 in omega arith

pub enough_more : (grew : Bool) (A B : Type 0) (P : ℕ → Type 0) (i : ℕ) → P i →
    MatchBool grew A (B × ((k : ℕ) → k < i → P k)) → MatchBool grew A (B × ((k : ℕ) → k < i + 1 → P k))
enough_more true A B P i here h = h
enough_more false A B P i here h = (h.0, below_more P i h.1 here)

-- growing doesn't change the ending of a block

end_longer : (f : Form) → end_of_form (longer f) ≡ end_of_form f
end_longer (form.Branch inverted Half jump) = refl
end_longer (form.Branch inverted Full jump) = refl
end_longer (form.Branch inverted Long jump) = refl
end_longer (form.Goto true) = refl
end_longer (form.Goto false) = refl
end_longer form.Plain = refl
end_longer form.Jump = refl
end_longer form.Dropped = refl

pub same_ends : (fs : List Form) (i : ℕ) → i < length fs → map end_of_form
    (slice_set fs i (longer (form_at fs i))) ≡ map end_of_form fs
same_ends [] i h = absurd (omega (arith, h))
same_ends (f ∷ fs) zero h = ap (λ (e : End). e ∷ map end_of_form fs) (end_longer f)
same_ends (f ∷ fs) (suc i) h = ap (λ (es : List End). end_of_form f ∷ es) (same_ends fs i (omega (arith, h)))
