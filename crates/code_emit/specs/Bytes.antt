-- The bytes of the new code, and the instructions in them.
use Rattle.std.specs.Prelude.{◌≡◌, ℕ, ◌+◌, ◌*◌, ◌/◌, ◌%◌, ◌^◌, ◌<◌, ◌≤◌, ◌==◌, if◌then◌else◌, List, [], ◌∷◌, Option}
use Rattle.std.specs.Prelude.{Some, length, slice_index}
use Rattle.rv_code.specs.declared.inst.Inst.{Inst}
use Rattle.rv_code.specs.declared.placed.Width.{Width}
use Rattle.rv_code.specs.isa.InstBytes.{Decodes}
use Rattle.rv_code.specs.declared.placed.Width.TheVariants as width
use Rattle.rv_encode.specs.InstWords.{bytes}
use Rattle.rv_encode.specs.FittingOperands.{Fits}
use Rattle.branch_fixup.specs.Pieces.{Piece, PlacedFrom, end_from}
use Rattle.code_emit.specs.NewInsts.{Made, made_from}

-- the bytes of a halfword, and of a word
abbrev pub half_bytes : ℕ → List ℕ
half_bytes h = h % 256 ∷ h / 256 ∷ []

abbrev pub full_bytes : ℕ → List ℕ
full_bytes w = w % 256 ∷ w / 256 % 256 ∷ w / 65536 % 256 ∷ w / 16777216 ∷ []

-- the halfword at an offset in a list of bytes
abbrev pub half_in : List ℕ → ℕ → ℕ
half_in code o = slice_index code o + 256 * slice_index code (o + 1)

-- the bytes from offset o on are an instruction, for any bytes after it
pub record StandsIn (code : List ℕ) (o : ℕ) (m : Made) : Type 0 where
  pub within : o + m.bytes ≤ length code
  pub some : 2 ≤ m.bytes
  pub decodes : (next : Option ℕ) → (m.bytes ≡ 4 → next ≡ Some (half_in code (o + 2))) →
      Decodes (half_in code o) next m.inst m.bytes

abbrev pub AllStandIn : List ℕ → ℕ → List Made → Type 0
AllStandIn code o [] = Unit {0}
AllStandIn code o (m ∷ ms) = StandsIn code o m × AllStandIn code (o + m.bytes) ms

abbrev pub after_made : ℕ → List Made → ℕ
after_made o [] = o
after_made o (m ∷ ms) = after_made (o + m.bytes) ms

-- Exactly these instructions were appended to code.
pub record Adds (old new : List ℕ) (ms : List Made) : Type 0 where
  pub keeps : (i : ℕ) → i < length old → slice_index new i ≡ slice_index old i
  pub length_is : length new ≡ after_made (length old) ms
  pub stand : AllStandIn new (length old) ms

-- The encoder finds bytes for the instruction: it fits the width, or some halfword, or some pair of halfwords, decodes
-- as it.
abbrev pub IsEncodable : Width → Inst → Type 0
IsEncodable want inst =
    (Fits want inst → ⊥) → ((half : ℕ) (next : Option ℕ) → Decodes half next inst (bytes want) → ⊥) → ⊥

-- the width of an instruction of n bytes, two or four
abbrev pub width_of_bytes : ℕ → Width
width_of_bytes n = if n == 2 then width.Half else width.Full

pub record CanBeEncoded (m : Made) : Type 0 where
  pub encodable : IsEncodable (width_of_bytes m.bytes) m.inst
  pub length_is : bytes (width_of_bytes m.bytes) ≡ m.bytes

abbrev pub AllCanBeEncoded : List Made → Type 0
AllCanBeEncoded [] = Unit {0}
AllCanBeEncoded (m ∷ ms) = CanBeEncoded m × AllCanBeEncoded ms

-- pieces from an address on: the map has them there, they can be encoded there, and they end far below the limit
pub record CanBePut (new : ℕ → ℕ) (at : ℕ) (pieces : List Piece) : Type 0 where
  pub placed : PlacedFrom new at pieces
  pub can : AllCanBeEncoded (made_from new at pieces)
  pub low : end_from at pieces < 2 ^ 61
