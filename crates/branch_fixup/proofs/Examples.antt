-- A loop, three times round, with its second and third blocks exchanged, from 10090 on:
--   10078 addi a0,x0,3
--   1007c beq a0,x0,10088
--   10080 addi a0,a0,-1
--   10084 jal x0,1007c
--   10088 addi a7,x0,93
--   1008c ecall
use Rattle.std.specs.Prelude.{◌≡◌, ℕ, true, false, List, [], ◌∷◌, Some, None, refl, pos, negsuc}
use Rattle.rv_code.specs.declared.inst.Inst.{Inst}
use Rattle.rv_code.specs.declared.inst.Inst.TheVariants.{Addi, Beq, Jal, Ecall}
use Rattle.rv_code.specs.declared.layout.Form.{Form}
use Rattle.rv_code.specs.declared.layout.Form.TheVariants as form
use Rattle.rv_code.specs.declared.layout.Size.TheVariants.{Full, Long}
use Rattle.rv_code.specs.declared.placed.Placed.{Placed}
use Rattle.rv_code.specs.declared.placed.Role.TheVariants as role
use Rattle.addr_map.specs.declared.span.Span.{Span}
use Rattle.addr_map.specs.Spans.{new}
use Rattle.branch_fixup.specs.Forms.{EndByTable, FallsShort, IsLeast}
use Rattle.branch_fixup.specs.Distances.{AllLand}
use Rattle.branch_fixup.specs.Strips.{Strip, pieces_of, spans_of}

abbrev at : ℕ → Inst → Placed
at a inst = record { addr = a; len = 4; inst = inst; role = role.Plain }

abbrev branch : Strip
branch = record { inner = []; last = at 0x1007c (Beq 10 0 (pos 12)); whole = false; fall = Some 0x10080 }

abbrev strips : List Strip
strips =
    record { inner = []; last = at 0x10078 (Addi 10 0 (pos 3)); whole = false; fall = Some 0x1007c }
    ∷ record { inner = at 0x10080 (Addi 10 10 (negsuc 0)) ∷ []; last = at 0x10084 (Jal 0 (negsuc 7)); whole = false; fall = None }
    ∷ branch
    ∷ record { inner = at 0x10088 (Addi 17 0 (pos 93)) ∷ []; last = at 0x1008c Ecall; whole = false; fall = None } ∷ []

-- a jump is added to the first block, the jump back is left out, and the branch goes back
abbrev forms : List Form
forms = form.Jump ∷ form.Dropped ∷ form.Branch true Full false ∷ form.Plain ∷ []

abbrev span : ℕ → ℕ → ℕ → Span
span out len input = record { out = out; len = len; input = input }

spans_are : spans_of strips 0x10090 forms ≡ span 0x10090 8 0x10078 ∷ span 0x10098 4 0x10080 ∷ span 0x1009c 0 0x10084 ∷
    span 0x1009c 4 0x1007c ∷ span 0x100a0 4 0x10088 ∷ span 0x100a4 4 0x1008c ∷ []
spans_are = refl

by_table : EndByTable strips forms
by_table = (refl, tt, (refl, tt, (refl, tt, (refl, tt, tt))))

all_land : AllLand (new (spans_of strips 0x10090 forms)) 0x10090 (pieces_of strips forms)
all_land = (refl, (refl, (refl, (refl, (refl, (refl, tt))))))

is_least : IsLeast strips 0x10090 forms 2 branch (form.Branch true Full false)
is_least = tt

-- With the jump back kept, the block doesn't end by the table.
kept_jump : EndByTable strips (form.Jump ∷ form.Goto false ∷ form.Branch true Full false ∷ form.Plain ∷ []) → ⊥
kept_jump h = let wrong = h.2.0 in absurd (cc)

-- The branch in its long form isn't the shortest: four bytes reach.
long_branch : IsLeast strips 0x10090 (form.Jump ∷ form.Dropped ∷ form.Branch true Long false ∷ form.Plain ∷ []) 2 branch
    (form.Branch true Long false) → ⊥
long_branch h =
    let reaches : FallsShort (spans_of strips 0x10090 forms) (at 0x1007c (Beq 10 0 (pos 12))) (form.Branch true Full false) = h in
    let wrong : true ≡ false = reaches in
    absurd (cc)
