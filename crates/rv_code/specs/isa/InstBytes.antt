-- How bytes encode instructions. ISA manual, section 1.5.
use Rattle.std.specs.Prelude.{◌≡◌, ◌≢◌, ◌⊎◌, ℕ, ◌+◌, ◌*◌, ◌^◌, Option, IsSomeAnd}
use Rattle.rv_code.specs.isa.Bits.{field}
use Rattle.rv_code.specs.isa.FullRows.{IsFull}
use Rattle.rv_code.specs.isa.HalfRows.{IsHalf}
use Rattle.rv_code.specs.declared.inst.Inst.{Inst}

-- A two-byte instruction: the low two bits aren't 11.
pub record DecodesHalf (half : ℕ) (inst : Inst) (bytes : ℕ) : Type 0 where
  pub is_half : field half 0 2 ≢ 3
  pub two_bytes : bytes ≡ 2
  pub row : IsHalf half inst

-- A four-byte instruction: the low two bits are 11, and the next halfword exists and is the upper half of the word.
pub record DecodesFull (half : ℕ) (next : Option ℕ) (inst : Inst) (bytes : ℕ) : Type 0 where
  pub is_full : field half 0 2 ≡ 3
  pub four_bytes : bytes ≡ 4
  pub row : IsSomeAnd next (λ upper. IsFull (upper * 2 ^ 16 + half) inst)

-- `half` and, if it exists, the halfword `next` after it encode `inst`, which has `bytes` bytes. Both halfwords are
-- below 2^16. Longer instructions, whose low five bits are 11111, have no row: no opcode ends with these bits.
abbrev pub Decodes : ℕ → Option ℕ → Inst → ℕ → Type 0
Decodes half next inst bytes = DecodesHalf half inst bytes ⊎ DecodesFull half next inst bytes
