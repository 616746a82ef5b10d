-- The reach of branches and jumps. ISA manual, sections 2.5 and 26.4.
use Rattle.std.specs.Prelude.{ℕ, ◌+◌, ◌^◌, ◌==◌, ◌&&◌, nat_lt, nat_le, if◌then◌else◌, Bool, IsTrue, List, [], ◌∷◌, ◌++◌}
use Rattle.std.specs.Option.{option_map_or}
use Rattle.std.specs.List.{list_all}
use Rattle.rv_code.specs.declared.layout.Form.{Form}
use Rattle.rv_code.specs.declared.layout.Form.TheVariants as form
use Rattle.rv_code.specs.declared.layout.Size.{Size}
use Rattle.rv_code.specs.declared.layout.Size.TheVariants.{Half, Full, Long}
use Rattle.rv_code.specs.declared.placed.Placed.{Placed}
use Rattle.rv_code.specs.layout.Flow.{action_at, target_of, is_branch}
use Rattle.branch_fixup.specs.Pieces.{Piece, length_of, bytes_of_size}

-- an offset whose sign bit has the value `reach` can hold the distance between two addresses
abbrev pub reaches : ℕ → ℕ → ℕ → Bool
reaches reach from to = nat_lt to (from + reach) && nat_le from (to + reach)

-- the value of the offset's sign bit in a branch or jump of the input that has 2 or 4 bytes
abbrev pub reach_of : ℕ → Placed → ℕ
reach_of bytes p =
    if is_branch (action_at p)
    then (if bytes == 2 then 2 ^ 8 else 2 ^ 12)
    else (if bytes == 2 then 2 ^ 11 else 2 ^ 20)

-- a branch or jump of the new code: the value of its offset's sign bit, its address, and its target
pub record Leap : Type 0 where
  pub reach : ℕ
  pub from : ℕ
  pub to : ℕ

abbrev pub lands : Leap → Bool
lands l = reaches l.reach l.from l.to

abbrev pub jal : ℕ → ℕ → Leap
jal from to = record { reach = 2 ^ 20; from = from; to = to }

-- the target of a branch or jump of the input in the new code; `new` gives the new address of an address
abbrev pub new_target : (ℕ → ℕ) → Placed → ℕ
new_target new p = option_map_or new (target_of p) 0

-- The branch or jump of the new code at address a for an instruction p: none if p isn't a branch or jump, or if it is
-- left out. In the long form it is the JAL after the branch, which skips it.
abbrev pub main_leap : (ℕ → ℕ) → ℕ → Placed → Form → List Leap
main_leap new a p (form.Branch inverted size jump) = by size
  where
    to : ℕ
    to = if inverted then new (p.addr + p.len) else new_target new p

    by : Size → List Leap
    by Half = record { reach = 2 ^ 8; from = a; to = to } ∷ []
    by Full = record { reach = 2 ^ 12; from = a; to = to } ∷ []
    by Long = jal (a + 4) to ∷ []
main_leap new a p (form.Goto half) = record { reach = if half then 2 ^ 11 else 2 ^ 20; from = a; to = new_target new p }
    ∷ []
main_leap new a p form.Dropped = []
main_leap new a p _ = option_map_or (λ t. record { reach = reach_of p.len p; from = a; to = new t } ∷ [])
    (target_of p) []

-- the jump that is added after the instruction
abbrev pub added_leap : (ℕ → ℕ) → ℕ → Placed → Form → List Leap
added_leap new a p form.Jump = jal (a + p.len) (new (p.addr + p.len)) ∷ []
added_leap new a p (form.Branch inverted size jump) =
    if jump then jal (a + bytes_of_size size) (new (p.addr + p.len)) ∷ [] else []
added_leap new a p _ = []

-- all branches and jumps of pieces reach, for pieces from address a on
abbrev pub AllLand : (ℕ → ℕ) → ℕ → List Piece → Type 0
AllLand new a [] = Unit {0}
AllLand new a (p ∷ ps) =
    IsTrue (list_all lands (main_leap new a p.placed p.form ++ added_leap new a p.placed p.form))
    × AllLand new (a + length_of p) ps
