-- Spans one after another are a map, if the pieces' instructions differ and their lengths are even.
use Rattle.std.proofs.Common.{◌≡◌, ◌≢◌, ℕ, suc, ◌+◌, ◌%◌, ◌<◌, ◌≤◌, List, [], ◌∷◌, true, false, refl, sym, ap, arith, inl, inr, All}
use Rattle.std.specs.Prelude.{◌==◌, nat_le, nat_lt, Any, Contains, AllPairs}
use Rattle.std.proofs.lemmas.Bool.{ne_eqb, eq-eqb, and_parts, leb-true, ltb-true, cases_lt}
use Rattle.std.proofs.lemmas.List.Elements.{All-cons, All-nil, All-weaker}
use Rattle.std.proofs.lemmas.List.Kept.{AllPairs-cons}
use Rattle.rb_bytes.proofs.Members.{Contains-cons_cases}
use Rattle.addr_map.specs.declared.span.Span.{Span}
use Rattle.addr_map.specs.Spans.{has_byte, new, IsPlaced, ShareNoByte}
use Rattle.addr_map.proofs.Owners.{has}
use Rattle.branch_fixup.specs.Pieces.{Piece, PlacedFrom, length_of, laid_from, end_from}

-- no piece has the instruction at address a
abbrev pub IsFresh : ℕ → List Piece → Type 0
IsFresh a [] = Unit {0}
IsFresh a (q ∷ qs) = (q.placed.addr ≢ a) × IsFresh a qs

abbrev pub AreOnce : List Piece → Type 0
AreOnce [] = Unit {0}
AreOnce (p ∷ ps) = IsFresh p.placed.addr ps × AreOnce ps

abbrev pub AreEven : List Piece → Type 0
AreEven [] = Unit {0}
AreEven (p ∷ ps) = (length_of p % 2 ≡ 0) × AreEven ps

placed_more : (s : Span) (rest : List Span) (a : ℕ) (qs : List Piece) → IsFresh s.input qs →
    PlacedFrom (new rest) a qs → PlacedFrom (new (s ∷ rest)) a qs
placed_more s rest a [] f h = tt
placed_more s rest a (q ∷ qs) f h =
    let other : s.input == q.placed.addr ≡ false = ne_eqb s.input q.placed.addr (λ e. f.0 (sym e)) in
    (rw other h.0, placed_more s rest (a + length_of q) qs f.1 h.1)

-- the new addresses by the map
pub placed_from : (a : ℕ) (ps : List Piece) → AreOnce ps → PlacedFrom (new (laid_from a ps)) a ps
placed_from a [] once = tt
placed_from a (p ∷ ps) once = (
  rw (eq-eqb p.placed.addr p.placed.addr refl) refl,
  placed_more (record {
    out = a;
    len = length_of p;
    input = p.placed.addr;
  }) (laid_from (a + length_of p) ps) (a + length_of p) ps once.0
      (placed_from (a + length_of p) ps once.1),
)

-- The clauses of a valid map.

pub laid_above : (a : ℕ) (ps : List Piece) → All (λ s. a ≤ s.out) (laid_from a ps)
laid_above a [] = All-nil (λ s. a ≤ s.out)
laid_above a (p ∷ ps) =
    All-cons (λ (s : Span). a ≤ s.out) (record { out = a; len = length_of p; input = p.placed.addr })
    (laid_from (a + length_of p) ps) (omega arith)
    (All-weaker (λ (s : Span). a + length_of p ≤ s.out) (λ (s : Span). a ≤ s.out) (λ s h. omega (arith, h))
    (laid_from (a + length_of p) ps) (laid_above (a + length_of p) ps))

fresh_spans : (x a : ℕ) (ps : List Piece) → IsFresh x ps → All (λ t. x ≢ t.input) (laid_from a ps)
fresh_spans x a [] f = All-nil (λ (t : Span). x ≢ t.input)
fresh_spans x a (p ∷ ps) f = All-cons (λ (t : Span). x ≢ t.input) (record {
  out = a;
  len = length_of p;
  input = p.placed.addr;
}) (laid_from (a + length_of p) ps) (λ e. f.0 (sym e))
    (fresh_spans x (a + length_of p) ps f.1)

pub once_each : (a : ℕ) (ps : List Piece) → AreOnce ps → AllPairs (λ s t. s.input ≢ t.input) (laid_from a ps)
once_each a [] once = λ i j d h k. absurd (omega (arith, k))
once_each a (p ∷ ps) once = AllPairs-cons (λ (s t : Span). s.input ≢ t.input)
    (record { out = a; len = length_of p; input = p.placed.addr }) (laid_from (a + length_of p) ps)
    (fresh_spans p.placed.addr (a + length_of p) ps once.0) (once_each (a + length_of p) ps once.1)

apart : (s t : Span) → s.out + s.len ≤ t.out → ShareNoByte s t
apart s t h p in_s in_t =
    let x = and_parts (nat_le s.out p) (nat_lt p (s.out + s.len)) in_s in
    let y = and_parts (nat_le t.out p) (nat_lt p (t.out + t.len)) in_t in
    let below = ltb-true p (s.out + s.len) x.1 in
    let above = leb-true t.out p y.0 in
    absurd (omega (arith, h, below, above))

pub disjoint : (a : ℕ) (ps : List Piece) → AllPairs ShareNoByte (laid_from a ps)
disjoint a [] = λ i j d h k. absurd (omega (arith, k))
disjoint a (p ∷ ps) =
    let s : Span = record { out = a; len = length_of p; input = p.placed.addr } in
    AllPairs-cons ShareNoByte s (laid_from (a + length_of p) ps)
    (All-weaker (λ (t : Span). a + length_of p ≤ t.out) (ShareNoByte s) (λ t h. apart s t h)
    (laid_from (a + length_of p) ps) (laid_above (a + length_of p) ps))
    (disjoint (a + length_of p) ps)

pub even_sum : (a b : ℕ) → a % 2 ≡ 0 → b % 2 ≡ 0 → (a + b) % 2 ≡ 0
even_sum a b h k = omega (arith, h, k)

pub are_placed : (a : ℕ) (ps : List Piece) → a % 2 ≡ 0 → 0 < a → AreEven ps → All IsPlaced (laid_from a ps)
are_placed a [] h k even = All-nil IsPlaced
are_placed a (p ∷ ps) h k even =
    All-cons IsPlaced (record { out = a; len = length_of p; input = p.placed.addr }) (laid_from (a + length_of p) ps) (inr (h, k))
    (are_placed (a + length_of p) ps (even_sum a (length_of p) h even.0) (omega (arith, k)) even.1)

-- a piece has its span
pub laid_has : (a : ℕ) (ps : List Piece) (p : Piece) → Contains ps p →
    Any (λ s. (s.input ≡ p.placed.addr) × (length_of p ≤ s.len)) (laid_from a ps)
laid_has a [] p c = let l = c.1 in absurd (omega (arith, l))
laid_has a (q ∷ qs) p c = elim (Contains-cons_cases q qs p c) [
  | inl same ↦ (
    0,
    record { out = a; len = length_of q; input = q.placed.addr },
    omega arith,
    refl,
    (
      ap (λ (x : Piece). x.placed.addr) same,
      let e : length_of q ≡ length_of p =
          ap (λ (x : Piece). length_of x) same in omega (arith, e),
    ),
  )
  | inr later ↦ let (k, s, within, is, h) = laid_has (a + length_of q) qs p later in (suc k, s, omega (arith, within), is, h)
]

pub end_above : (a : ℕ) (ps : List Piece) → a ≤ end_from a ps
end_above a [] = omega arith
end_above a (p ∷ ps) = let h = end_above (a + length_of p) ps in omega (arith, h)

-- the spans fill one stretch
pub stretch : (a : ℕ) (ps : List Piece) (x : ℕ) → a ≤ x → x < end_from a ps → Any (λ s. has_byte x s ≡ true) (laid_from a ps)
stretch a [] x h k = absurd (omega (arith, h, k))
stretch a (p ∷ ps) x h k = elim (cases_lt x (a + length_of p)) [
  | inl below ↦ (
    0,
    record { out = a; len = length_of p; input = p.placed.addr },
    omega arith,
    refl,
    has x (record { out = a; len = length_of p; input = p.placed.addr }) h below,
  )
  | inr above ↦ let (i, s, within, is, e) = stretch (a + length_of p) ps x above k in (suc i, s, omega (arith, within), is, e)
]

pub inside : (a : ℕ) (ps : List Piece) → All (λ s. s.out + s.len ≤ end_from a ps) (laid_from a ps)
inside a [] = All-nil (λ (s : Span). s.out + s.len ≤ a)
inside a (p ∷ ps) = All-cons (λ (s : Span). s.out + s.len ≤ end_from (a + length_of p) ps)
    (record { out = a; len = length_of p; input = p.placed.addr }) (laid_from (a + length_of p) ps)
    (end_above (a + length_of p) ps) (inside (a + length_of p) ps)
