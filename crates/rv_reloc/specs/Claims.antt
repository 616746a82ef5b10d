-- The claims to roles as a list. The first claim at each address counts.
use Rattle.std.specs.Prelude.{◌≡◌, ◌⊎◌, ◌<◌, ◌≤◌, ℕ, List, Contains, AllPairs, slice_index_or, ◌==◌, if◌then◌else◌}
use Rattle.rv_code.specs.declared.placed.Role.{Role}
use Rattle.rv_code.specs.declared.placed.Role.TheVariants.{AbsHi, AbsLo}
use Rattle.elf_image.specs.declared.elf.Elf.{Elf}
use Rattle.elf_image.specs.declared.relocation.TheConstants.{R_RISCV_HI20}
use Rattle.elf_code.specs.Relocations.{Relocation}
use Rattle.elf_code.specs.Roles.{Claims}
use Rattle.rv_reloc.specs.declared.records.Record.{Record}
use Rattle.rv_reloc.specs.declared.roles.Claim.{Claim}
use Rattle.rv_reloc.specs.Records.{seen}

-- The lower type comes first, and of one type the lower key.
abbrev pub IsUpTo : ℕ → ℕ → ℕ → ℕ → Type 0
IsUpTo kind key kind' key' = (kind < kind') ⊎ ((kind ≡ kind') × (key ≤ key'))

abbrev pub IsClaimUpTo : Claim → Claim → Type 0
IsClaimUpTo c d = (c.at < d.at) ⊎ ((c.at ≡ d.at) × IsUpTo c.kind c.key d.kind d.key)

-- All claims of one type and key to the instruction at `a` are to the same role.
abbrev pub IsSure : Elf → ℕ → ℕ → ℕ → Role → Type 0
IsSure elf kind a key role = (r : Relocation) (role' : Role) → r.kind ≡ kind → Claims elf r a key role' → role' ≡ role

-- Relocation `r` makes the claim to the instruction at `a`.
pub record IsClaimOf (elf : Elf) (r : Relocation) (a : ℕ) (c : Claim) : Type 0 where
  pub at_is : c.at ≡ a
  pub kind_is : c.kind ≡ r.kind
  pub claims : Claims elf r a c.key c.role
  pub sure : IsSure elf r.kind a c.key c.role

-- A relocation makes the claim.
pub record IsClaim (elf : Elf) (c : Claim) : Type 0 where
  pub source : Relocation
  pub is_claim : IsClaimOf elf source c.at c

-- Claims of relocations, sorted. For each claim of a relocation the list has one that isn't later in the order.
pub record AreClaims (elf : Elf) (claims : List Claim) : Type 0 where
  pub ordered : AllPairs IsClaimUpTo claims
  pub sound : (c : Claim) → Contains claims c → IsClaim elf c
  pub cover : (r : Relocation) (a key : ℕ) (role : Role) → Claims elf r a key role →
      (c : Claim) × Contains claims c × (c.at ≡ a) × IsUpTo c.kind c.key r.kind key

-- No claim before index `k` is for the same address.
abbrev pub IsFirstClaim : List Claim → ℕ → Type 0
IsFirstClaim claims k = (j : ℕ) (d : Claim) → j < k → (slice_index_or claims j d).at < (slice_index_or claims k d).at

abbrev pub absolute_role : ℕ → ℕ → Role
absolute_role kind target = if kind == R_RISCV_HI20 then AbsHi target else AbsLo target

-- The claims of some relocations.
pub record AreClaimsOf (elf : Elf) (records : List Record) (claims : List Claim) : Type 0 where
  pub sound : (c : Claim) → Contains claims c → IsClaim elf c
  pub cover : (r : Record) → Contains records r → (a key : ℕ) (role : Role) → Claims elf (seen r) a key role →
      (c : Claim) × Contains claims c × (c.at ≡ a) × (c.kind ≡ r.kind) × (c.key ≡ key)
