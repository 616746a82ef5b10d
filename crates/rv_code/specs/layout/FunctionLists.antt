-- Properties of every list of a file's functions: they ascend by address and don't overlap, and the instructions of
-- each follow one another without a gap.
use Rattle.std.specs.Prelude.{◌≡◌, ◌⊎◌, ℕ, ◌+◌, ◌%◌, ◌<◌, ◌≤◌, List, [], ◌∷◌, All, AllPairs}
use Rattle.rv_code.specs.declared.placed.Placed.{Placed}
use Rattle.rv_code.specs.declared.placed.Func.{Func}

-- Code of an accepted file is below this address, so that each pair of upper and lower part can reach it.
abbrev pub address_end : ℕ
address_end = 0x7fff0000

-- Instructions follow one another from one address to another.
abbrev pub Follow : ℕ → List Placed → ℕ → Type 0
Follow a [] end = a ≡ end
Follow a (p ∷ ps) end = (p.addr ≡ a) × Follow (a + p.len) ps end

-- An instruction has two or four bytes. ISA manual, section 1.5.
abbrev pub HasLength : Placed → Type 0
HasLength p = (p.len ≡ 2) ⊎ (p.len ≡ 4)

pub record IsLaidOut (func : Func) : Type 0 where
  pub has_bytes : func.start < func.end
  pub even : func.start % 2 ≡ 0
  pub follow : Follow func.start func.insts.items func.end
  pub lengths : All HasLength func.insts.items

-- Functions that ascend by address and don't overlap.
pub record AreLaidOut (funcs : List Func) : Type 0 where
  pub each : All IsLaidOut funcs
  pub apart : AllPairs (λ f g. f.end ≤ g.start) funcs
  pub low : All (λ f. f.end ≤ address_end) funcs
