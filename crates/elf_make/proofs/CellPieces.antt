-- Pieces of code cells: each is a part of its cell, no two share a byte, and a cell holds what its pieces hold.
use Rattle.std.proofs.Common.{◌≡◌, ◌∙◌, sym, ap, subst, refl, ℕ, zero, suc, ◌+◌, ◌*◌, ◌/◌, ◌%◌, ◌^◌, ◌≤◌, ◌<◌, ◌⊎◌, inl, inr, List, []}
use Rattle.std.proofs.Common.{◌∷◌, Option, Some, None, Bool, true, false, arith, get_or}
use Rattle.std.specs.Prelude.{All, AllPairs, Contains, IfSome, if◌then◌else◌, option_map}
use Rattle.std.proofs.lemmas.List.Elements.{All-contains}
use Rattle.std.proofs.lemmas.List.Kept.{AllPairs-cons}
use Rattle.std.proofs.lemmas.Option.{same_Some}
use Rattle.std.proofs.Math.Nat.{pow-suc}
use Rattle.rb_bytes.proofs.ListLemmas.{all_of, from_flat, in_flat, only_one, pairs_flat}
use Rattle.rb_bytes.proofs.Members.{Contains-cons_cases, Contains-nil}
use Rattle.rv_code.specs.machine.Machine.{little}
use Rattle.rv_code.specs.machine.MemoryNumbers.{and_more, bytes_in, number_in}
use Rattle.elf_image.specs.declared.elf.Elf.{Elf}
use Rattle.elf_image.specs.declared.segment.Segment.{Segment}
use Rattle.elf_image.specs.memory.LoadedBytes.{file_offset, IsInHeaders}
use Rattle.elf_make.specs.CellNumbers.{byte_cells, is_whole, pieces, pieces_of}
use Rattle.elf_make.specs.WrittenFile.{AreApart, CanHold}

abbrev Cell : Type 0
Cell = ℕ × ℕ × ℕ

-- The bytes of a cell.

record IsByte (a n : ℕ) (p : Cell) : Type 0 where
  index : ℕ
  below : index < n
  place : p.0 ≡ a + index
  width : p.1 ≡ 1
  fits : p.2 < 256

a_byte : (a n v : ℕ) (p : Cell) → Contains (byte_cells a n v) p → IsByte a n p
unfolding byte_cells
a_byte a zero v p is_in = absurd (Contains-nil p is_in)
a_byte a (suc n) v p is_in = cases (Contains-cons_cases (a, 1, v % 256) (byte_cells (a + 1) n (v / 256)) p is_in)
    (λ later. a_byte (a + 1) n (v / 256) p later)
  where
    cases : ((a, 1, v % 256) ≡ p) ⊎ Contains (byte_cells (a + 1) n (v / 256)) p →
        (Contains (byte_cells (a + 1) n (v / 256)) p → IsByte (a + 1) n p) → IsByte a (suc n) p
    cases (inl same) rest =
        subst (IsByte a (suc n)) same
        (record { index = 0; below = omega arith; place = omega arith; width = refl; fits = omega arith })
    cases (inr later) rest =
        let is = rest later in
        let below = is.below in
        let place = is.place in
        record { index = suc is.index; below = omega arith; place = omega arith; width = is.width; fits = is.fits }

bytes_apart : (a n v : ℕ) → AllPairs AreApart (byte_cells a n v)
unfolding byte_cells
bytes_apart a zero v = λ i j d less within. absurd (omega arith)
bytes_apart a (suc n) v =
    AllPairs-cons AreApart (a, 1, v % 256) (byte_cells (a + 1) n (v / 256))
    (all_of (AreApart (a, 1, v % 256)) (byte_cells (a + 1) n (v / 256)) (λ p is_in.
    let is = a_byte (a + 1) n (v / 256) p is_in in
    let place = is.place in
    inl (omega arith)))
    (bytes_apart (a + 1) n (v / 256))

joined : (first : Option ℕ) (rest : Option (List ℕ)) (b x : ℕ) → first ≡ Some b → option_map little rest ≡ Some x →
    option_map little (and_more first rest) ≡ Some (b + 256 * x)
unfolding little
joined None rest b x is_first is_rest = absurd (cc)
joined (Some c) None b x is_first is_rest = absurd (cc)
joined (Some c) (Some bs) b x is_first is_rest =
    let low : c ≡ b = same_Some c b is_first in
    let high : little bs ≡ x = same_Some (little bs) x is_rest in
    ap (λ (n : ℕ). Some n) (omega (arith, low, high))

single : (first : Option ℕ) (b : ℕ) → option_map little (and_more first (Some [])) ≡ Some b → first ≡ Some b
unfolding little
single None b is = absurd (cc)
single (Some c) b is = let one : c + 256 * 0 ≡ b = same_Some (c + 256 * 0) b is in ap (λ (n : ℕ). Some n) (omega (arith, one))

module _ (memory : ℕ → Option ℕ) where
  abbrev Holds : Cell → Type 0
  Holds c = number_in memory c.0 c.1 ≡ Some c.2

  bytes_hold : (a n v : ℕ) → v < 256 ^ n → ((p : Cell) → Contains (byte_cells a n v) p → Holds p) →
      number_in memory a n ≡ Some v
  unfolding bytes_in byte_cells little
  bytes_hold a zero v fits hold = ap (λ (n : ℕ). Some n) (omega arith)
  bytes_hold a (suc n) v fits hold =
      let first : memory a ≡ Some (v % 256) = single (memory a) (v % 256) (hold (a, 1, v % 256) (zero, omega arith, refl)) in
      let power : 256 ^ suc n ≡ 256 ^ n * 256 = pow-suc 256 n in
      let rest : number_in memory (a + 1) n ≡ Some (v / 256) =
      bytes_hold (a + 1) n (v / 256) (omega (arith, power, fits)) (λ p (k, within, is). hold p (suc k, omega arith, is)) in
      joined (memory a) (bytes_in memory (a + 1) n) (v % 256) (v / 256) first rest
      ∙ ap (λ (n : ℕ). Some n) (omega arith)

-- A piece is a part of its cell.

pub record IsPart (cell p : Cell) : Type 0 where
  pub low : cell.0 ≤ p.0
  pub high : p.0 + p.1 ≤ cell.0 + cell.1

-- what a cell can hold is what a piece can
pub record CanHoldPiece (elf : Elf) (p : Cell) : Type 0 where
  pub some : 0 < p.1
  pub fits : p.2 < 256 ^ p.1
  pub no_header : (i : ℕ) → i < p.1 →
      IfSome (file_offset elf.segments.items (p.0 + i)) (λ offset. IsInHeaders elf offset → ⊥)

pub wide : (n : ℕ) → (n ≡ 4) ⊎ (n ≡ 8) → 0 < n
wide n (inl e) = omega arith
wide n (inr e) = omega arith

module _ (segments : List Segment) where
  part_of : (c p : Cell) → Contains (pieces_of segments c) p → IsPart c p
  part_of c p = by (is_whole segments c)
    where
      by : (b : Bool) → Contains (if b then c ∷ [] else byte_cells c.0 c.1 c.2) p → IsPart c p
      by true is_in = subst (IsPart c) (only_one c p is_in) (record { low = omega arith; high = omega arith })
      by false is_in =
          let is = a_byte c.0 c.1 c.2 p is_in in
          let below = is.below in
          let place = is.place in
          let width = is.width in
          record { low = omega arith; high = omega arith }

  pub piece_part : (cells : List Cell) (p : Cell) → Contains (pieces segments cells) p →
      (c : Cell) × Contains cells c × IsPart c p
  piece_part cells p is_in =
      let (c, c_in, p_in) = from_flat (pieces_of segments) cells p is_in in (c, c_in, part_of c p p_in)

  own_apart : (c : Cell) → AllPairs AreApart (pieces_of segments c)
  own_apart c = by (is_whole segments c)
    where
      by : (b : Bool) → AllPairs AreApart (if b then c ∷ [] else byte_cells c.0 c.1 c.2)
      by true = λ i j d less within. absurd (omega arith)
      by false = bytes_apart c.0 c.1 c.2

  parts_apart : (c d p q : Cell) → AreApart c d → IsPart c p → IsPart d q → AreApart p q
  parts_apart c d p q (inl before) first second =
      let a = first.high in let b = second.low in inl (omega arith)
  parts_apart c d p q (inr behind) first second =
      let a = second.high in let b = first.low in inr (omega arith)

  pub pieces_apart : (cells : List Cell) → AllPairs AreApart cells → AllPairs AreApart (pieces segments cells)
  pieces_apart cells apart =
      pairs_flat AreApart (pieces_of segments) cells (λ c c_in. own_apart c)
      (λ i j d less within p q p_in q_in. parts_apart (get_or cells i d) (get_or cells j d) p q (apart i j d less within)
      (part_of (get_or cells i d) p p_in) (part_of (get_or cells j d) q q_in))

  -- what the pieces hold
  pub pieces_hold : (memory : ℕ → Option ℕ) (cells : List Cell) → All (λ c. c.2 < 256 ^ c.1) cells →
      All (Holds memory) (pieces segments cells) → All (Holds memory) cells
  pieces_hold memory cells fits hold =
      all_of (Holds memory) cells (λ c c_in. by c c_in (is_whole segments c)
      (λ p p_in. All-contains (Holds memory) (pieces segments cells) p hold (in_flat (pieces_of segments) cells c p c_in p_in)))
    where
      by : (c : Cell) → Contains cells c → (b : Bool) →
          ((p : Cell) → Contains (if b then c ∷ [] else byte_cells c.0 c.1 c.2) p → Holds memory p) → Holds memory c
      by c c_in true each = each c (zero, omega arith, refl)
      by c c_in false each = bytes_hold memory c.0 c.1 c.2 (All-contains (λ c. c.2 < 256 ^ c.1) cells c fits c_in) each

pub pieces_can : (elf : Elf) (cells : List Cell) → All (CanHold elf) cells →
    All (CanHoldPiece elf) (pieces elf.segments.items cells)
pieces_can elf cells can =
    all_of (CanHoldPiece elf) (pieces elf.segments.items cells) (λ p is_in.
    let (c, c_in, p_in) = from_flat (pieces_of elf.segments.items) cells p is_in in
    by c p (All-contains (CanHold elf) cells c can c_in) (is_whole elf.segments.items c) p_in)
  where
    by : (c p : Cell) → CanHold elf c → (b : Bool) → Contains (if b then c ∷ [] else byte_cells c.0 c.1 c.2) p → CanHoldPiece elf p
    by c p can true is_in =
        subst (CanHoldPiece elf) (only_one c p is_in)
        (record { some = wide c.1 can.width; fits = can.fits; no_header = can.no_header })
    by c p can false is_in =
        let is = a_byte c.0 c.1 c.2 p is_in in
        let below = is.below in
        let place = is.place in
        let width = is.width in
        let low = is.fits in
        record {
          some = omega arith;
          fits = subst (λ (n : ℕ). p.2 < 256 ^ n) (sym width) (omega arith);
          no_header = λ i inside.
              let at : c.0 + is.index ≡ p.0 + i = omega arith in
              subst (λ (a : ℕ). IfSome (file_offset elf.segments.items a) (λ offset. IsInHeaders elf offset → ⊥)) at
              (can.no_header is.index below);
        }
