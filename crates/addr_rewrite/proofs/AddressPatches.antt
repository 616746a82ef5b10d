-- The new addresses of a table, one after another.
use Rattle.std.proofs.Common.{◌≡◌, ◌∙◌, ◌<◌, ◌+◌, ◌-◌, ℕ, zero, suc, List, [], ◌∷◌, refl, ap, arith, drop}
use Rattle.std.specs.Prelude.{unwrap_or}
use Rattle.byteorder.specs.Endian.{little_number, little_bytes}
use Rattle.dw_unit.specs.Changes.{Patch, address_patches}
use Rattle.dw_unit.specs.EntryMoves.{Moves, moved_address}

abbrev pub address_patch : Moves → ℕ → List ℕ → Patch
address_patch m place left =
    record { place = place; bytes = little_bytes 8 (unwrap_or (moved_address m (little_number 8 left)) (little_number 8 left)) }

step : (m : Moves) (n place : ℕ) (left : List ℕ) → address_patches m (suc n) place left ≡ address_patch m place left
    ∷ address_patches m n (place + 8) (drop 8 left)
unfolding address_patches
step m n place left = refl

pub address_step : (m : Moves) (n count place : ℕ) (left : List ℕ) → count < n →
    address_patches m (n - count) place left ≡ address_patch m place left ∷ address_patches m (n - (count + 1)) (place + 8) (drop 8 left)
address_step m n count place left h =
    let less : n - count ≡ suc (n - (count + 1)) = omega arith in
    ap (λ (k : ℕ). address_patches m k place left) less ∙ step m (n - (count + 1)) place left

pub address_end : (m : Moves) (n place : ℕ) (left : List ℕ) → n ≡ 0 → address_patches m n place left ≡ []
unfolding address_patches
address_end m zero place left h = refl
address_end m (suc n) place left h = absurd (omega arith)
