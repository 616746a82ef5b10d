-- The owner of a byte, from columns in the order of new addresses.
use Rattle.std.proofs.Common.{◌≡◌, ◌+◌, ◌-◌, ◌*◌, ◌^◌, ◌<◌, ◌≤◌, ◌∙◌, ◌⊎◌, ℕ, zero, suc, Bool, true, false, List, [], ◌∷◌}
use Rattle.std.proofs.Common.{Some, None, inl, map, length, get_or, arith, refl, ap, ⊎_elim}
use Rattle.std.specs.Prelude.{AllPairs, slice_get}
use Rattle.std.proofs.lemmas.Bool.{cases_lt}
use Rattle.std.proofs.lemmas.Grind.{common_steps, get_or_default_zero}
use Rattle.std.proofs.lemmas.List.{length-map}
use Rattle.std.proofs.lemmas.Option.{slice_get-get_or}
use Rattle.rb_lanes.specs.Ranks.{rank}
use Rattle.addr_map.specs.internal.Columns.{IsAscending}
use Rattle.addr_map.specs.internal.Orders.{IsByNew, IsHolder, column_spans}
use Rattle.addr_map.specs.Spans.{ShareNoByte, has_byte, owner}
use Rattle.addr_map.specs.declared.span.Span.{Span}
use Rattle.addr_map.proofs.Columns.{IsRank, rank_at}

-- The span with index i in the columns.
abbrev pub span_at : List ℕ → List ℕ → List ℕ → ℕ → Span
span_at outs lens inputs i = record { out = get_or outs i 0; len = get_or lens i 0; input = get_or inputs i 0 }

pub length_spans : (outs lens inputs : List ℕ) → length lens ≡ length outs → length inputs ≡ length outs
    → length (column_spans outs lens inputs) ≡ length outs
length_spans [] lens inputs a b = refl
length_spans (out ∷ outs) [] inputs a b = absurd (omega arith)
length_spans (out ∷ outs) (len ∷ lens) [] a b = absurd (omega arith)
length_spans (out ∷ outs) (len ∷ lens) (input ∷ inputs) a b = ap suc (length_spans outs lens inputs (omega arith) (omega arith))

pub get_spans : (outs lens inputs : List ℕ) (i : ℕ) (d : Span) → length lens ≡ length outs → length inputs ≡ length outs
    → i < length outs
    → get_or (column_spans outs lens inputs) i d ≡ span_at outs lens inputs i
get_spans [] lens inputs i d a b lt = absurd (omega arith)
get_spans (out ∷ outs) [] inputs i d a b lt = absurd (omega arith)
get_spans (out ∷ outs) (len ∷ lens) [] i d a b lt = absurd (omega arith)
get_spans (out ∷ outs) (len ∷ lens) (input ∷ inputs) zero d a b lt = refl
get_spans (out ∷ outs) (len ∷ lens) (input ∷ inputs) (suc i) d a b lt = get_spans outs lens inputs i d (omega arith)
    (omega arith) (omega arith)

pub slice_get_spans : (outs lens inputs : List ℕ) (i : ℕ) → length lens ≡ length outs → length inputs ≡ length outs
    → i < length outs
    → slice_get (column_spans outs lens inputs) i ≡ Some (span_at outs lens inputs i)
slice_get_spans outs lens inputs i a b lt =
    let d = span_at outs lens inputs 0 in
    slice_get-get_or (column_spans outs lens inputs) i d (rw (length_spans outs lens inputs a b) lt)
    ∙ ap Some (get_spans outs lens inputs i d a b lt)

-- The index of a line is inside the columns.
pub inside_columns : {outs lens inputs holders : List ℕ} {lines : List Span} {i : ℕ} → IsByNew outs lens inputs holders
    → column_spans outs lens inputs ≡ lines → i < length lines
    → i < length outs
inside_columns {outs} {lens} {inputs} {holders} {lines} {i} m e lt =
    omega (arith, ap length e, length_spans outs lens inputs m.lens_count m.inputs_count)

-- The columns of some spans have these spans.
pub spans_parts : (spans : List Span)
    → column_spans (map (λ s. s.out) spans) (map (λ s. s.len) spans) (map (λ s. s.input) spans) ≡ spans
spans_parts [] = refl
spans_parts (s ∷ spans) = ap (λ ss. s ∷ ss) (spans_parts spans)

pub by_new_parts : (spans : List Span) (outs lens inputs holders : List ℕ) → outs ≡ map (λ s. s.out) spans
    → lens ≡ map (λ s. s.len) spans → inputs ≡ map (λ s. s.input) spans → 24 * length spans < 2 ^ 63
    → IsAscending (map (λ s. s.out) spans) → AllPairs ShareNoByte spans
    → length holders ≡ length lens → ((i : ℕ) → i < length lens → IsHolder lens i (get_or holders i 0))
    → IsByNew outs lens inputs holders
by_new_parts spans outs lens inputs holders o l n few up disjoint count held =
    let a : length outs ≡ length spans = ap length o ∙ length-map spans (λ s. s.out) in
    let b : length lens ≡ length spans = ap length l ∙ length-map spans (λ s. s.len) in
    let c : length inputs ≡ length spans = ap length n ∙ length-map spans (λ s. s.input) in
    record {
      few = omega (arith, few, a);
      ascending = rw o up;
      lens_count = omega arith;
      inputs_count = omega arith;
      holders_count = omega arith;
      held = λ i lt. held i (omega arith);
      disjoint = rw (o, l, n, spans_parts spans) disjoint;
    }

-- Tests of bytes.
pub has : (p : ℕ) (s : Span) → s.out ≤ p → p < s.out + s.len → has_byte p s ≡ true
has p s le lt = grind (arith, common_steps)

pub has_bounds : (p : ℕ) (s : Span) → has_byte p s ≡ true → (s.out ≤ p) × (p < s.out + s.len)
has_bounds p s e = grind (arith, common_steps)

has_not : (p : ℕ) (s : Span) → (s.out ≤ p → p < s.out + s.len → ⊥) → has_byte p s ≡ false
has_not p s never = or_not (has_byte p s) refl
  where
    or_not : (b : Bool) → has_byte p s ≡ b → has_byte p s ≡ false
    or_not true e = let h = has_bounds p s e in absurd (never h.0 h.1)
    or_not false e = e

-- A byte that no span has.
owner_none : (outs lens inputs : List ℕ) (p : ℕ) → length lens ≡ length outs → length inputs ≡ length outs
    → ((i : ℕ) → i < length outs → has_byte p (span_at outs lens inputs i) ≡ false)
    → owner (column_spans outs lens inputs) p ≡ None
owner_none [] lens inputs p a b none = refl
owner_none (out ∷ outs) [] inputs p a b none = absurd (omega arith)
owner_none (out ∷ outs) (len ∷ lens) [] p a b none = absurd (omega arith)
owner_none (out ∷ outs) (len ∷ lens) (input ∷ inputs) p a b none =
    let here : has_byte p (record { out = out; len = len; input = input }) ≡ false = none 0 (omega arith) in
    let rest : owner (column_spans outs lens inputs) p ≡ None
    = owner_none outs lens inputs p (omega arith) (omega arith) (λ i lt. none (suc i) (omega arith)) in
    rw here rest

-- A byte of a span, which no earlier span has.
owner_at : (outs lens inputs : List ℕ) (p i : ℕ) → length lens ≡ length outs → length inputs ≡ length outs → i < length outs
    → has_byte p (span_at outs lens inputs i) ≡ true
    → ((j : ℕ) → j < i → has_byte p (span_at outs lens inputs j) ≡ false)
    → owner (column_spans outs lens inputs) p ≡ Some (get_or inputs i 0)
owner_at [] lens inputs p i a b lt here before = absurd (omega arith)
owner_at (out ∷ outs) [] inputs p i a b lt here before = absurd (omega arith)
owner_at (out ∷ outs) (len ∷ lens) [] p i a b lt here before = absurd (omega arith)
owner_at (out ∷ outs) (len ∷ lens) (input ∷ inputs) p zero a b lt here before = rw here refl
owner_at (out ∷ outs) (len ∷ lens) (input ∷ inputs) p (suc i) a b lt here before =
    let first : has_byte p (record { out = out; len = len; input = input }) ≡ false = before 0 (omega arith) in
    let rest : owner (column_spans outs lens inputs) p ≡ Some (get_or inputs i 0)
    = owner_at outs lens inputs p i (omega arith) (omega arith) (omega arith) here (λ j less. before (suc j) (omega arith)) in
    rw first rest

-- No byte is in two spans.
apart : (outs lens inputs holders : List ℕ) (i j p : ℕ) → IsByNew outs lens inputs holders → i < j → j < length outs
    → has_byte p (span_at outs lens inputs i) ≡ true → has_byte p (span_at outs lens inputs j) ≡ true → ⊥
apart outs lens inputs holders i j p m lt inside x y =
    let a = m.lens_count in
    let b = m.inputs_count in
    let d = span_at outs lens inputs 0 in
    let s = get_spans outs lens inputs i d a b (omega arith) in
    let t = get_spans outs lens inputs j d a b inside in
    let long : j < length (column_spans outs lens inputs) = rw (length_spans outs lens inputs a b) inside in
    m.disjoint i j d lt long p (rw s x) (rw t y)

-- The holders, computed from the first span on.

-- The last span with bytes before index i, or 0.
pub record IsHolderBefore (lens : List ℕ) (i holder : ℕ) : Type 0 where
  pub within : holder ≤ i
  pub last : (j : ℕ) → holder < j → j < i → get_or lens j 0 ≡ 0
  pub has : (0 < get_or lens holder 0) ⊎ (holder ≡ 0)

pub holder_here : (lens : List ℕ) (i : ℕ) → 0 < get_or lens i 0 → IsHolder lens i i
holder_here lens i some = record { within = omega arith; last = λ j lt le. absurd (omega arith); has = inl some }

pub holder_none : (lens : List ℕ) (i holder : ℕ) → IsHolderBefore lens i holder → get_or lens i 0 ≡ 0 → IsHolder lens i holder
holder_none lens i holder h none = record {
  within = h.within;
  last = λ j lt le. ⊎_elim
      (λ (before : j < i). h.last j lt before)
      (λ (after : i ≤ j). let at : j ≡ i = omega arith in rw at none)
      (cases_lt j i);
  has = h.has;
}

pub holder_next : (lens : List ℕ) (i holder : ℕ) → IsHolder lens i holder → IsHolderBefore lens (i + 1) holder
holder_next lens i holder h = record {
  within = omega (arith, h.within);
  last = λ j lt below. h.last j lt (omega arith);
  has = h.has;
}

-- The result for the last new address up to a byte.
pub owner_low : {outs lens inputs holders : List ℕ} (p : ℕ) → IsByNew outs lens inputs holders → rank outs p ≡ 0
    → owner (column_spans outs lens inputs) p ≡ None
owner_low {outs} {lens} {inputs} {holders} p m none =
    let r : IsRank outs p (rank outs p) = rank_at outs p m.ascending in
    owner_none outs lens inputs p m.lens_count m.inputs_count (λ i lt.
    let above : p < get_or outs i 0 = r.high i (omega arith) lt in
    has_not p (span_at outs lens inputs i) (λ le less. omega arith))

-- A byte, the last new address up to it, and the holder of that index.
pub record IsHeld (outs lens inputs holders : List ℕ) (p i holder : ℕ) : Type 0 where
  pub by_new : IsByNew outs lens inputs holders
  pub count : rank outs p ≡ i + 1
  pub holder_is : holder ≡ get_or holders i 0

pub held_at : {outs lens inputs holders : List ℕ} {p count holder : ℕ} → IsByNew outs lens inputs holders → count ≡ rank outs p
    → (count ≡ 0 → ⊥) → holder ≡ get_or holders (count - 1) holder
    → IsHeld outs lens inputs holders p (count - 1) holder
held_at {outs} {lens} {inputs} {holders} {p} {count} {holder} m e some is =
    let r : IsRank outs p (rank outs p) = rank_at outs p m.ascending in
    let within = r.within in
    let long = m.holders_count in
    let inside : count - 1 < length holders = omega arith in
    record {
      by_new = m;
      count = omega arith;
      holder_is = is ∙ get_or_default_zero holders (count - 1) holder inside;
    }

place_inside : {outs lens inputs holders : List ℕ} {p i holder : ℕ} → IsHeld outs lens inputs holders p i holder → i < length outs
place_inside {outs} {lens} {inputs} {holders} {p} {i} {holder} h =
    let r : IsRank outs p (rank outs p) = rank_at outs p h.by_new.ascending in
    omega (arith, r.within, h.count)

holds : {outs lens inputs holders : List ℕ} {p i holder : ℕ} → IsHeld outs lens inputs holders p i holder → IsHolder lens i holder
holds {outs} {lens} {inputs} {holders} {p} {i} {holder} h =
    rw (h.holder_is) (h.by_new.held i (place_inside h))

pub holder_inside : {outs lens inputs holders : List ℕ} {p i holder : ℕ} → IsHeld outs lens inputs holders p i holder
    → holder < length outs
holder_inside {outs} {lens} {inputs} {holders} {p} {i} {holder} h =
    let inside = place_inside h in
    let held = holds h in
    omega (arith, held.within)

pub holder_low : {outs lens inputs holders : List ℕ} {p i holder : ℕ} → IsHeld outs lens inputs holders p i holder
    → get_or outs holder 0 ≤ p
holder_low {outs} {lens} {inputs} {holders} {p} {i} {holder} h =
    let r : IsRank outs p (rank outs p) = rank_at outs p h.by_new.ascending in
    let held = holds h in
    r.low holder (omega (arith, held.within, h.count))

pub owner_here : {outs lens inputs holders : List ℕ} {p i holder : ℕ} → IsHeld outs lens inputs holders p i holder
    → p < get_or outs holder 0 + get_or lens holder 0
    → owner (column_spans outs lens inputs) p ≡ Some (get_or inputs holder 0)
owner_here {outs} {lens} {inputs} {holders} {p} {i} {holder} h lt =
    let m = h.by_new in
    let inside = holder_inside h in
    let here : has_byte p (span_at outs lens inputs holder) ≡ true
    = has p (span_at outs lens inputs holder) (holder_low h) lt in
    owner_at outs lens inputs p holder m.lens_count m.inputs_count inside here (λ j less.
    has_not p (span_at outs lens inputs j) (λ low below.
    apart outs lens inputs holders j holder p m less inside (has p (span_at outs lens inputs j) low below) here))

pub owner_other : {outs lens inputs holders : List ℕ} {p i holder : ℕ} → IsHeld outs lens inputs holders p i holder
    → get_or outs holder 0 + get_or lens holder 0 ≤ p
    → owner (column_spans outs lens inputs) p ≡ None
owner_other {outs} {lens} {inputs} {holders} {p} {i} {holder} h le =
    let m = h.by_new in
    let r : IsRank outs p (rank outs p) = rank_at outs p h.by_new.ascending in
    let count = h.count in
    let inside = holder_inside h in
    let held = holds h in
    let low_holder = holder_low h in
    owner_none outs lens inputs p m.lens_count m.inputs_count (λ j lt.
    has_not p (span_at outs lens inputs j) (λ low below. ⊎_elim
    (λ (before : j < holder). before_holder j before low below)
    (λ (from : holder ≤ j). ⊎_elim
    (λ (later : i < j). let above : p < get_or outs j 0 = r.high j (omega arith) lt in omega arith)
    (λ (up_to : j ≤ i). ⊎_elim
    (λ (between : holder < j). let empty : get_or lens j 0 ≡ 0 = held.last j between up_to in omega arith)
    (λ (least : j ≤ holder). let at : j ≡ holder = omega arith in
    let less : p < get_or outs holder 0 + get_or lens holder 0 = rw at at below in omega arith)
    (cases_lt holder j))
    (cases_lt i j))
    (cases_lt j holder)))
  where
    before_holder : (j : ℕ) → j < holder → get_or outs j 0 ≤ p → p < get_or outs j 0 + get_or lens j 0 → ⊥
    before_holder j before low below =
        let m = h.by_new in
        let inside = holder_inside h in
        let held = holds h in
        let q = get_or outs holder 0 in
        let some : 0 < get_or lens holder 0
        = ⊎_elim (λ (yes : 0 < get_or lens holder 0). yes) (λ (first : holder ≡ 0). absurd (omega arith)) held.has in
        let rises : get_or outs j 0 ≤ q = h.by_new.ascending j holder (omega arith) inside in
        let low_holder : q ≤ p = holder_low h in
        apart outs lens inputs holders j holder q m before inside
        (has q (span_at outs lens inputs j) rises (omega arith))
        (has q (span_at outs lens inputs holder) (omega arith) (omega arith))
