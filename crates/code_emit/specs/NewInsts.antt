-- The instructions of the new code for one instruction of the input.
use Rattle.std.specs.Prelude.{ℕ, ◌+◌, if◌then◌else◌, ℤ, pos, Bool, not, List, [], ◌∷◌, ◌++◌}
use Rattle.std.specs.Option.{option_map_or}
use Rattle.rv_code.specs.declared.inst.Inst.{Inst}
use Rattle.rv_code.specs.declared.inst.Inst.TheVariants.{Jal, Beq, Bne, Blt, Bge, Bltu, Bgeu}
use Rattle.rv_code.specs.declared.layout.Form.{Form}
use Rattle.rv_code.specs.declared.layout.Form.TheVariants as form
use Rattle.rv_code.specs.declared.layout.Size.{Size}
use Rattle.rv_code.specs.declared.layout.Size.TheVariants.{Half, Full, Long}
use Rattle.rv_code.specs.declared.placed.Placed.{Placed}
use Rattle.rv_code.specs.declared.cell.CellKind.{CellKind}
use Rattle.rv_code.specs.declared.cell.CellKind.TheVariants.{Abs, Diff}
use Rattle.rv_code.specs.isa.TwosComplement.{unsigned64}
use Rattle.rv_code.specs.layout.Flow.{target_of}
use Rattle.move_law.specs.RelocatedValues.{distance}
use Rattle.move_law.specs.FaithfulRewrite.{made_anew}
use Rattle.branch_fixup.specs.Pieces.{Piece, length_of, bytes_of_size}
use Rattle.branch_fixup.specs.Distances.{new_target}

-- The instruction with another distance, if it is a branch or a JAL.
abbrev pub with_distance : Inst → ℤ → Inst
with_distance (Jal rd imm) z = Jal rd z
with_distance (Beq rs1 rs2 imm) z = Beq rs1 rs2 z
with_distance (Bne rs1 rs2 imm) z = Bne rs1 rs2 z
with_distance (Blt rs1 rs2 imm) z = Blt rs1 rs2 z
with_distance (Bge rs1 rs2 imm) z = Bge rs1 rs2 z
with_distance (Bltu rs1 rs2 imm) z = Bltu rs1 rs2 z
with_distance (Bgeu rs1 rs2 imm) z = Bgeu rs1 rs2 z
with_distance inst z = inst

-- the branch with the opposite condition
abbrev pub opposite_of : Inst → Inst
opposite_of (Beq rs1 rs2 imm) = Bne rs1 rs2 imm
opposite_of (Bne rs1 rs2 imm) = Beq rs1 rs2 imm
opposite_of (Blt rs1 rs2 imm) = Bge rs1 rs2 imm
opposite_of (Bge rs1 rs2 imm) = Blt rs1 rs2 imm
opposite_of (Bltu rs1 rs2 imm) = Bgeu rs1 rs2 imm
opposite_of (Bgeu rs1 rs2 imm) = Bltu rs1 rs2 imm
opposite_of inst = inst

abbrev pub turned : Bool → Inst → Inst
turned b inst = if b then opposite_of inst else inst

-- an instruction in the new code, with its length
pub record Made : Type 0 where
  pub inst : Inst
  pub bytes : ℕ

-- an instruction that keeps its width, at address a: a branch or jump goes to its target, and a part of an address is
-- computed again
abbrev pub kept : (ℕ → ℕ) → ℕ → Placed → Inst
kept new a p = option_map_or (λ t. with_distance p.inst (distance (new t) a)) (target_of p)
    (made_anew new p.addr p.role p.inst)

abbrev pub jump_to : ℕ → ℕ → Made
jump_to t a = record { inst = Jal 0 (distance t a); bytes = 4 }

-- a branch to t at address a; `inverted` says that it has the opposite condition
abbrev pub branch_to : ℕ → Inst → Bool → Size → ℕ → List Made
branch_to t inst inverted Half a = record { inst = with_distance (turned inverted inst) (distance t a); bytes = 2 } ∷ []
branch_to t inst inverted Full a = record { inst = with_distance (turned inverted inst) (distance t a); bytes = 4 } ∷ []
branch_to t inst inverted Long a =
    record { inst = with_distance (turned (not inverted) inst) (pos 8); bytes = 4 } ∷ jump_to t (a + 4) ∷ []

abbrev pub added : (ℕ → ℕ) → Placed → Bool → ℕ → List Made
added new p jump a = if jump then jump_to (new (p.addr + p.len)) a ∷ [] else []

-- the new code at address a for an instruction in a form
abbrev pub made : (ℕ → ℕ) → ℕ → Placed → Form → List Made
made new a p form.Plain = record { inst = kept new a p; bytes = p.len } ∷ []
made new a p form.Jump = record { inst = kept new a p; bytes = p.len } ∷ jump_to (new (p.addr + p.len)) (a + p.len) ∷ []
made new a p (form.Branch inverted size jump) =
    branch_to (if inverted then new (p.addr + p.len) else new_target new p) p.inst inverted size a
    ++ added new p jump (a + bytes_of_size size)
made new a p (form.Goto half) = record { inst = Jal 0 (distance (new_target new p) a); bytes = if half then 2 else 4 }
    ∷ []
made new a p form.Dropped = []

-- the new code for pieces from address a on
abbrev pub made_from : (ℕ → ℕ) → ℕ → List Piece → List Made
made_from new a [] = []
made_from new a (p ∷ ps) = made new a p.placed p.form ++ made_from new (a + length_of p) ps

-- the new number of a code cell, before it is reduced to the cell's width
abbrev pub cell_number : (ℕ → ℕ) → CellKind → ℕ
cell_number new (Abs to) = new to
cell_number new (Diff to from) = unsigned64 (distance (new to) (new from))
