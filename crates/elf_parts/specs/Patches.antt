-- Bytes of a file after others were put over some of them, and bytes that are in a file.
use Rattle.std.specs.Prelude.{◌≡◌, ◌⊎◌, ℕ, ◌+◌, ◌-◌, ◌<◌, ◌≤◌, List, ◌++◌, take, drop, length, slice_index, fold}

-- the bytes from an offset on are these, and all others as they were
abbrev pub put : ℕ → List ℕ → List ℕ → List ℕ
put offset bytes file = take offset file ++ (bytes ++ drop (offset + length bytes) file)

-- bytes that are put at an offset
pub record Patch : Type 0 where
  pub offset : ℕ
  pub bytes : List ℕ

abbrev pub put_patch : List ℕ → Patch → List ℕ
put_patch file p = put p.offset p.bytes file

-- patches put one after another, so that later ones win
abbrev pub put_all : List ℕ → List Patch → List ℕ
put_all file patches = fold put_patch file patches

-- a byte that a patch leaves as it is
abbrev pub IsBeside : ℕ → Patch → Type 0
IsBeside k p = (k < p.offset) ⊎ (p.offset + length p.bytes ≤ k)

abbrev pub AreApart : Patch → Patch → Type 0
AreApart p q = (p.offset + length p.bytes ≤ q.offset) ⊎ (q.offset + length q.bytes ≤ p.offset)

abbrev pub IsWithin : ℕ → Patch → Type 0
IsWithin size p = p.offset + length p.bytes ≤ size

-- the bytes are in the file at an offset
pub record Stands (file : List ℕ) (offset : ℕ) (bytes : List ℕ) : Type 0 where
  pub within : offset + length bytes ≤ length file
  pub same : (j : ℕ) → j < length bytes → slice_index file (offset + j) ≡ slice_index bytes j

-- a patch leaves the byte b at an offset: it is beside it, or puts the same byte there
abbrev pub Leaves : ℕ → ℕ → Patch → Type 0
Leaves k b p = IsBeside k p ⊎ ((p.offset ≤ k) × (slice_index p.bytes (k - p.offset) ≡ b))
