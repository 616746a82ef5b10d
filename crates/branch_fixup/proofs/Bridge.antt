-- The map and growing give blocks the same starts, so forms that are needed are locally the shortest.
use Rattle.std.proofs.Common.{◌≡◌, ℕ, zero, suc, ◌+◌, ◌^◌, ◌<◌, ◌≤◌, List, [], ◌∷◌, ◌++◌, length, Option, Some, None, Bool, true}
use Rattle.std.proofs.Common.{false, refl, sym, ap, ◌∙◌, subst, arith, get_or, drop, length-set, drop-cons}
use Rattle.std.specs.Prelude.{map, IfSome, slice_set, ◌==◌, if◌then◌else◌, nat_lt, nat_le}
use Rattle.std.specs.List.{list_all}
use Rattle.std.specs.Option.{option_map_or}
use Rattle.std.proofs.lemmas.Bool.{and_parts, leb-true, ltb-true, false_from_ne_true, both_ways}
use Rattle.rv_code.specs.declared.layout.Form.{Form}
use Rattle.rv_code.specs.declared.layout.Form.TheVariants as form
use Rattle.rv_code.specs.declared.layout.Size.TheVariants.{Half, Full, Long}
use Rattle.rv_code.specs.declared.placed.Placed.{Placed}
use Rattle.addr_map.specs.Spans.{new}
use Rattle.branch_fixup.specs.declared.growth.BlockEnd.{BlockEnd}
use Rattle.branch_fixup.specs.Pieces.{Piece, PlacedFrom, as_it_is, length_of, piece_length, end_from}
use Rattle.branch_fixup.specs.Distances.{new_target, reaches, lands, main_leap}
use Rattle.branch_fixup.specs.Endings.{End, Branches, Goes, end_of_form}
use Rattle.branch_fixup.specs.Forms.{shorter, FallsShort, IsLeast}
use Rattle.branch_fixup.specs.Growth.{end_at, form_at, from_at, to_at, form_reach, is_enough, IsNeeded, block_offset}
use Rattle.branch_fixup.specs.Strips.{Strip, first_in, pieces_of, pieces_of_strip, spans_of}
use Rattle.rv_code.proofs.lists.Follows.{before_of}
use Rattle.branch_fixup.proofs.Laid.{AreOnce, placed_from}
use Rattle.branch_fixup.proofs.Grown.{reach_if}

pub split_placed : (f : ℕ → ℕ) (a : ℕ) (xs ys : List Piece) → PlacedFrom f a (xs ++ ys) →
    PlacedFrom f a xs × PlacedFrom f (end_from a xs) ys
split_placed f a [] ys h = (tt, h)
split_placed f a (x ∷ xs) ys h = let k = split_placed f (a + length_of x) xs ys h.1 in ((h.0, k.0), k.1)

pub end_of_inner : (a : ℕ) (ps : List Placed) (rest : List Piece) → end_from a (map as_it_is ps ++ rest) ≡ end_from
    (a + before_of ps) rest
end_of_inner a [] rest = let e : a ≡ a + 0 = omega arith in ap (λ (n : ℕ). end_from n rest) e
end_of_inner a (p ∷ ps) rest = end_of_inner (a + p.len) ps rest ∙ ap (λ (n : ℕ). end_from n rest)
    (let e : a + p.len + before_of ps ≡ a + (p.len + before_of ps) = omega arith in e)

-- the new addresses of a block's first and last instruction
pub record StripAt (f : ℕ → ℕ) (a : ℕ) (s : Strip) : Type 0 where
  pub first : f (first_in s.inner s.last) ≡ a
  pub last : f s.last.addr ≡ a + before_of s.inner

strip_at : (f : ℕ → ℕ) (a : ℕ) (s : Strip) (x : Form) → PlacedFrom f a (pieces_of_strip s x) → StripAt f a s
strip_at f a s x h = record {
  first = first s.inner h;
  last = (split_placed f a (map as_it_is s.inner) (record { placed = s.last; form = x } ∷ []) h).1.0 ∙ inner_end a s.inner;
}
  where
    inner_end : (a : ℕ) (ps : List Placed) → end_from a (map as_it_is ps) ≡ a + before_of ps
    inner_end a [] = omega arith
    inner_end a (p ∷ ps) = let e = inner_end (a + p.len) ps in omega (arith, e)

    first : (ps : List Placed) → PlacedFrom f a (map as_it_is ps ++ record { placed = s.last; form = x } ∷ []) →
        f (first_in ps s.last) ≡ a
    first [] h = h.0
    first (p ∷ ps) h = h.0

-- the end of each block, as growing has it
pub record AreBlockEndsOf (ts : List BlockEnd) (ss : List Strip) : Type 0 where
  pub one_each : length ts ≡ length ss
  pub before : (k : ℕ) (d : Strip) → k < length ss → (end_at ts k).before ≡ before_of (get_or ss k d).inner
  pub len : (k : ℕ) (d : Strip) → k < length ss → (end_at ts k).len ≡ (get_or ss k d).last.len

-- pieces from block k on
pub placed_at : (f : ℕ → ℕ) (ts : List BlockEnd) (ss : List Strip) (fs : List Form) (base : ℕ) (d : Strip) →
    AreBlockEndsOf ts ss → length fs ≡ length ss → PlacedFrom f base (pieces_of ss fs) → (k : ℕ) → k ≤ length ss →
    PlacedFrom f (base + block_offset ts fs k) (pieces_of (drop k ss) (drop k fs))
placed_at f ts ss fs base d block_ends len h zero le = let e : base ≡ base + 0 = omega arith in
    subst (λ (a : ℕ). PlacedFrom f a (pieces_of ss fs)) e h
placed_at f ts ss fs base d block_ends len h (suc k) le =
    let s : Strip = get_or ss k d in
    let x : Form = form_at fs k in
    let here = placed_at f ts ss fs base d block_ends len h k (omega (arith, le)) in
    let both : PlacedFrom f (base + block_offset ts fs k) (pieces_of (s ∷ drop (suc k) ss) (x ∷ drop (suc k) fs)) =
    subst (λ (l : List Form). PlacedFrom f (base + block_offset ts fs k) (pieces_of (s ∷ drop (suc k) ss) l))
    (drop-cons fs k form.Plain (omega (arith, le, len)))
    (subst (λ (l : List Strip). PlacedFrom f (base + block_offset ts fs k) (pieces_of l (drop k fs)))
    (drop-cons ss k d (omega (arith, le))) here) in
    let rest = (split_placed f (base + block_offset ts fs k) (pieces_of_strip s x)
    (pieces_of (drop (suc k) ss) (drop (suc k) fs)) both).1 in
    let ends = end_of_inner (base + block_offset ts fs k) s.inner (record { placed = s.last; form = x } ∷ []) in
    let b = block_ends.before k d (omega (arith, le)) in
    let l : piece_length (end_at ts k).len x ≡ piece_length s.last.len x = ap (λ (n : ℕ). piece_length n x)
    (block_ends.len k d (omega (arith, le))) in
    subst (λ (a : ℕ). PlacedFrom f a (pieces_of (drop (suc k) ss) (drop (suc k) fs))) (ends ∙ omega (arith, b, l)) rest

pub block_placed : (f : ℕ → ℕ) (ts : List BlockEnd) (ss : List Strip) (fs : List Form) (base : ℕ) (d : Strip) →
    AreBlockEndsOf ts ss → length fs ≡ length ss → PlacedFrom f base (pieces_of ss fs) → (k : ℕ) → k < length ss →
    PlacedFrom f (base + block_offset ts fs k) (pieces_of_strip (get_or ss k d) (form_at fs k))
block_placed f ts ss fs base d block_ends len h k lt =
    let s : Strip = get_or ss k d in
    let x : Form = form_at fs k in
    let here = placed_at f ts ss fs base d block_ends len h k (omega (arith, lt)) in
    let both : PlacedFrom f (base + block_offset ts fs k) (pieces_of (s ∷ drop (suc k) ss) (x ∷ drop (suc k) fs)) =
    subst (λ (l : List Form). PlacedFrom f (base + block_offset ts fs k) (pieces_of (s ∷ drop (suc k) ss) l))
    (drop-cons fs k form.Plain (omega (arith, lt, len)))
    (subst (λ (l : List Strip). PlacedFrom f (base + block_offset ts fs k) (pieces_of l (drop k fs)))
    (drop-cons ss k d lt) here) in
    (split_placed f (base + block_offset ts fs k) (pieces_of_strip s x) (pieces_of (drop (suc k) ss) (drop (suc k) fs)) both).0

pub block_at : (f : ℕ → ℕ) (ts : List BlockEnd) (ss : List Strip) (fs : List Form) (base : ℕ) (d : Strip) →
    AreBlockEndsOf ts ss → length fs ≡ length ss → PlacedFrom f base (pieces_of ss fs) → (k : ℕ) → k < length ss →
    StripAt f (base + block_offset ts fs k) (get_or ss k d)
block_at f ts ss fs base d block_ends len h k lt = strip_at f (base + block_offset ts fs k) (get_or ss k d) (form_at fs k)
    (block_placed f ts ss fs base d block_ends len h k lt)

-- moving both ends by the same distance doesn't change whether it reaches
shifted_short : (reach b f t : ℕ) → reaches reach f t ≡ false → reaches reach (b + f) (b + t) ≡ false
shifted_short reach b f t h = false_from_ne_true (reaches reach (b + f) (b + t)) (λ k.
    let p = and_parts (nat_lt (b + t) (b + f + reach)) (nat_le (b + f) (b + t + reach)) k in
    let x = ltb-true (b + t) (b + f + reach) p.0 in
    let y = leb-true (b + f) (b + t + reach) p.1 in
    both_ways (reaches reach f t) h (reach_if reach f t (omega (arith, x)) (omega (arith, y))))

-- the target of the branch or jump of a form
abbrev pub leads_to : (ℕ → ℕ) → Placed → Form → ℕ
leads_to f p (form.Branch true size jump) = f (p.addr + p.len)
leads_to f p _ = new_target f p

leap_short : (f : ℕ → ℕ) (p : Placed) (ts : List BlockEnd) (fs : List Form) (base k : ℕ) (g : Form) →
    f p.addr ≡ base + from_at ts fs k → leads_to f p g ≡ base + to_at ts fs k → is_enough ts fs k g ≡ false →
    list_all lands (main_leap f (f p.addr) p g) ≡ false
leap_short f p ts fs base k (form.Branch true Half jump) a t h = rw (
  a,
  t,
  shifted_short (2 ^ 8) base (from_at ts fs k) (to_at ts fs k) h,
) refl
leap_short f p ts fs base k (form.Branch false Half jump) a t h = rw (
  a,
  t,
  shifted_short (2 ^ 8) base (from_at ts fs k) (to_at ts fs k) h,
) refl
leap_short f p ts fs base k (form.Branch true Full jump) a t h = rw (
  a,
  t,
  shifted_short (2 ^ 12) base (from_at ts fs k) (to_at ts fs k) h,
) refl
leap_short f p ts fs base k (form.Branch false Full jump) a t h = rw (
  a,
  t,
  shifted_short (2 ^ 12) base (from_at ts fs k) (to_at ts fs k) h,
) refl
leap_short f p ts fs base k (form.Goto true) a t h = rw (
  a,
  t,
  shifted_short (2 ^ 11) base (from_at ts fs k)
      (to_at ts fs k) h,
) refl
leap_short f p ts fs base k (form.Branch inverted Long jump) a t h = absurd (cc)
leap_short f p ts fs base k (form.Goto false) a t h = absurd (cc)
leap_short f p ts fs base k form.Plain a t h = absurd (cc)
leap_short f p ts fs base k form.Jump a t h = absurd (cc)
leap_short f p ts fs base k form.Dropped a t h = absurd (cc)

-- each block whose form can grow leads to the target that its end has, for all sizes
abbrev pub LeadAsBlockEnds : List BlockEnd → List Strip → ℕ → (ℕ → End) → Type 0
LeadAsBlockEnds ts ss base kinds = (k reach : ℕ) (d : Strip) (fs : List Form) (g : Form) → form_reach g ≡ Some reach →
    k < length ss → length fs ≡ length ss → end_of_form g ≡ kinds k → leads_to (new (spans_of ss base fs))
    (get_or ss k d).last g ≡ base + to_at ts fs k

has_reach : (ts : List BlockEnd) (fs : List Form) (k : ℕ) (g : Form) → is_enough ts fs k g ≡ false →
    (reach : ℕ) × (form_reach g ≡ Some reach)
has_reach ts fs k g h = by (form_reach g) refl h
  where
    by : (o : Option ℕ) → form_reach g ≡ o → option_map_or (λ reach. reaches reach (from_at ts fs k) (to_at ts fs k)) o
        true ≡ false → (reach : ℕ) × (form_reach g ≡ Some reach)
    by None e h = absurd (cc)
    by (Some reach) e h = (reach, e)

-- the next shorter form has the same ending
shorter_kind : (n : ℕ) (f g : Form) → shorter n f ≡ Some g → end_of_form g ≡ end_of_form f
shorter_kind n (form.Branch inverted Long jump) g e = let k : form.Branch inverted Full jump ≡ g = cc in ap end_of_form (sym k)
shorter_kind n (form.Branch inverted Full jump) g e = by (n == 2) e
  where
    by : (b : Bool) → (if b then Some (form.Branch inverted Half jump) else None) ≡ Some g →
        end_of_form g ≡ Branches inverted jump
    by true e = let k : form.Branch inverted Half jump ≡ g = cc in ap end_of_form (sym k)
    by false e = absurd (cc)
shorter_kind n (form.Branch inverted Half jump) g e = absurd (cc)
shorter_kind n (form.Goto false) g e = by (n == 2) e
  where
    by : (b : Bool) → (if b then Some (form.Goto true) else None) ≡ Some g → end_of_form g ≡ Goes
    by true e = let k : form.Goto true ≡ g = cc in ap end_of_form (sym k)
    by false e = absurd (cc)
shorter_kind n (form.Goto true) g e = absurd (cc)
shorter_kind n form.Plain g e = absurd (cc)
shorter_kind n form.Jump g e = absurd (cc)
shorter_kind n form.Dropped g e = absurd (cc)

pub are_least : (ts : List BlockEnd) (ss : List Strip) (base : ℕ) (kinds : ℕ → End) (fs : List Form) (d : Strip) →
    AreBlockEndsOf ts ss → LeadAsBlockEnds ts ss base kinds → ((gs : List Form) → AreOnce (pieces_of ss gs)) →
    length fs ≡ length ss → ((k : ℕ) → k < length ss → end_of_form (form_at fs k) ≡ kinds k) → (k : ℕ) → k < length ss →
    IsNeeded ts fs k → IsLeast ss base fs k (get_or ss k d) (form_at fs k)
are_least ts ss base kinds fs d block_ends leads once len are k lt needed =
    subst (λ (n : ℕ). IfSome (shorter n (form_at fs k)) (λ g. FallsShort (spans_of ss base (slice_set fs k g))
    (get_or ss k d).last g)) (block_ends.len k d lt)
    (by (shorter (end_at ts k).len (form_at fs k)) refl needed)
  where
    by : (o : Option Form) → shorter (end_at ts k).len (form_at fs k) ≡ o →
        IfSome o (λ g. is_enough ts (slice_set fs k g) k g ≡ false) → IfSome o
        (λ g. FallsShort (spans_of ss base (slice_set fs k g)) (get_or ss k d).last g)
    by None e h = tt
    by (Some g) e h =
        let gs : List Form = slice_set fs k g in
        let len_g : length gs ≡ length ss = length-set fs k g ∙ len in
        let at = block_at (new (spans_of ss base gs)) ts ss gs base d block_ends len_g
        (placed_from base (pieces_of ss gs) (once gs)) k lt in
        let b = block_ends.before k d lt in
        let from = at.last in
        leap_short (new (spans_of ss base gs)) (get_or ss k d).last ts gs base k g (omega (arith, from, b))
        (leads k (has_reach ts gs k g h).0 d gs g (has_reach ts gs k g h).1 lt len_g
        (shorter_kind (end_at ts k).len (form_at fs k) g e ∙ are k lt)) h
