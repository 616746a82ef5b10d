-- Bytes that an input loads and a rewrite keeps, in the terms of the code.
use Rattle.std.specs.Prelude.{◌≡◌, ℕ, ◌-◌, ◌<◌, ◌≤◌, slice_index_or, IsTrue, Bool, false, List, Option, Some, None}
use Rattle.std.specs.Option.{option_map_or}
use Rattle.elf_image.specs.declared.elf.Elf.{Elf}
use Rattle.elf_image.specs.declared.segment.Segment.{Segment}
use Rattle.elf_image.specs.declared.segment.TheConstants.{PF_R, PF_W, PF_X}
use Rattle.elf_image.specs.memory.Image.{has_flag, loads_address}
use Rattle.elf_image.specs.memory.LoadedBytes.{is_in_range}
use Rattle.elf_image.specs.memory.Executables.{executable_read}
use Rattle.move_law.specs.Rewrite.{Rewrite}
use Rattle.map_check.specs.FirstFalse.{IsKept}
use Rattle.map_check.specs.declared.changes.Changes.{Changes}
use Rattle.map_check.specs.internal.Headers.{AreHeadersOf}

-- the files of a rewrite
pub record AreBytesOf (r : Rewrite) (input output : Elf) : Type 0 where
  pub input_is : r.input ≡ input
  pub output_is : r.output ≡ executable_read output

-- the bytes that may change in a rewrite
pub record AreChangesOf (r : Rewrite) (m : Changes) : Type 0 where
  pub cells : r.code.cells ≡ m.cells.now
  pub headers : AreHeadersOf r.input r.tight m.headers

abbrev pub SameFlags : Segment → Segment → Type 0
SameFlags p q =
    (has_flag PF_R p ≡ has_flag PF_R q) × (has_flag PF_W p ≡ has_flag PF_W q) × (has_flag PF_X p ≡ has_flag PF_X q)

abbrev pub in_entry : Option ℕ → ℕ → Bool
in_entry entry a = option_map_or (λ start. is_in_range a (record { start = start; size = 8 })) entry false

-- the first place of a range at which Holds is false, if there is one
abbrev pub IsFirstIn : (ℕ → Type 0) → ℕ → ℕ → Option ℕ → Type 0
IsFirstIn Holds start end None = (q : ℕ) → start ≤ q → q < end → Holds q
IsFirstIn Holds start end (Some p) =
    (start ≤ p) × (p < end) × (Holds p → ⊥) × ((q : ℕ) → start ≤ q → q < p → Holds q)

-- both segments have a zero at address a, after the bytes that they load from their files
abbrev pub AreZeros : ℕ → Segment → Segment → Type 0
AreZeros a p q = (p.filesz ≤ a - p.vaddr) × (q.filesz ≤ a - q.vaddr)

-- a segment loads address a, whose byte isn't kept
abbrev pub IsChangedIn : Rewrite → Segment → ℕ → Type 0
IsChangedIn r p a = IsTrue (loads_address a p) × (IsKept r a → ⊥)

-- the segment with index k loads address a, whose byte isn't kept
abbrev pub ChangedAt : Rewrite → List Segment → ℕ → ℕ → Type 0
ChangedAt r segments k a = (d : Segment) → IsChangedIn r (slice_index_or segments k d) a
