-- The new code, instruction by instruction: the form of each, its length, and its address.
use Rattle.std.specs.Prelude.{◌≡◌, ℕ, ◌+◌, if◌then◌else◌, Bool, List, [], ◌∷◌}
use Rattle.rv_code.specs.declared.layout.Form.{Form}
use Rattle.rv_code.specs.declared.layout.Form.TheVariants.{Plain, Jump, Branch, Goto, Dropped}
use Rattle.rv_code.specs.declared.layout.Size.{Size}
use Rattle.rv_code.specs.declared.layout.Size.TheVariants.{Half, Full, Long}
use Rattle.rv_code.specs.declared.placed.Placed.{Placed}
use Rattle.addr_map.specs.declared.span.Span.{Span}

-- An instruction of the input, and its form in the new code. The form is `Plain` if the instruction doesn't end a
-- block.
pub record Piece : Type 0 where
  pub placed : Placed
  pub form : Form

abbrev pub as_it_is : Placed → Piece
as_it_is p = record { placed = p; form = Plain }

-- Lengths in bytes.

abbrev pub bytes_of_size : Size → ℕ
bytes_of_size Half = 2
bytes_of_size Full = 4
bytes_of_size Long = 8

-- the length of an added JAL, if there is one
abbrev pub bytes_of_jump : Bool → ℕ
bytes_of_jump jump = if jump then 4 else 0

-- the length of an instruction that has `len` bytes in the input, with the jump that is added after it
abbrev pub piece_length : ℕ → Form → ℕ
piece_length len Plain = len
piece_length len Jump = len + 4
piece_length len (Branch inverted size jump) = bytes_of_size size + bytes_of_jump jump
piece_length len (Goto half) = if half then 2 else 4
piece_length len Dropped = 0

abbrev pub length_of : Piece → ℕ
length_of p = piece_length p.placed.len p.form

-- The spans of pieces, one after another from an address on. A jump that is left out has an empty span, at the address
-- of the next piece.
abbrev pub laid_from : ℕ → List Piece → List Span
laid_from a [] = []
laid_from a (p ∷ ps) = record { out = a; len = length_of p; input = p.placed.addr } ∷ laid_from (a + length_of p) ps

-- A map gives each piece's instruction the address after the pieces before it.
abbrev pub PlacedFrom : (ℕ → ℕ) → ℕ → List Piece → Type 0
PlacedFrom new a [] = Unit {0}
PlacedFrom new a (p ∷ ps) = (new p.placed.addr ≡ a) × PlacedFrom new (a + length_of p) ps

-- the address after the last piece
abbrev pub end_from : ℕ → List Piece → ℕ
end_from a [] = a
end_from a (p ∷ ps) = end_from (a + length_of p) ps
