-- A faithful rewrite: what the output has for each instruction of the input, and for each other loaded byte. These
-- facts suffice for the output to keep the input's runs.
use Rattle.std.specs.Prelude.{◌≡◌, ℕ, zero, suc, ◌%◌, ◌^◌, ◌≤◌, ◌==◌, ◌||◌, if◌then◌else◌, ℤ, pos, Bool, true, false}
use Rattle.std.specs.Prelude.{not, IsTrue, IsFalse, IsSome, IfSome, Option, Some, All, Any, length, option_map}
use Rattle.std.specs.List.{list_any}
use Rattle.rv_code.specs.declared.inst.Inst.{Inst}
use Rattle.rv_code.specs.declared.inst.Inst.TheVariants.{Lui, Auipc, Jal, Jalr, Lb, Lh, Lw, Ld, Lbu, Lhu, Lwu, Sb, Sh}
use Rattle.rv_code.specs.declared.inst.Inst.TheVariants.{Sw, Sd, Addi}
use Rattle.rv_code.specs.declared.action.Test.{Test}
use Rattle.rv_code.specs.declared.action.Action.{Action}
use Rattle.rv_code.specs.declared.action.Action.TheVariants.{Branch, Jump, JumpTo}
use Rattle.rv_code.specs.declared.placed.Placed.{Placed}
use Rattle.rv_code.specs.declared.placed.Role.{Role}
use Rattle.rv_code.specs.declared.placed.Role.TheVariants as role
use Rattle.rv_code.specs.declared.cell.CodeCell.{CodeCell}
use Rattle.rv_code.specs.isa.Action.{action_of}
use Rattle.rv_code.specs.layout.ProgramCode.{is_code_address, IsNamed}
use Rattle.rv_code.specs.layout.Flow.{insts_of, placed_at, action_at, is_call, next_of}
use Rattle.rv_code.specs.isa.HiLo.{hi20, lo12}
use Rattle.rv_code.specs.machine.Machine.{plus}
use Rattle.rv_code.specs.isa.TwosComplement.{unsigned64}
use Rattle.elf_image.specs.declared.segment.TheConstants.{PF_R, PF_W, PF_X}
use Rattle.elf_image.specs.memory.Image.{is_loaded_with}
use Rattle.elf_image.specs.memory.LoadedBytes.{byte_at, is_in_range, address_of}
use Rattle.rv_code.specs.machine.MemoryNumbers.{number_in}
use Rattle.elf_image.specs.memory.Break.{break_start, break_bound, table_address}
use Rattle.addr_map.specs.Spans.{IsMap}
use Rattle.elf_image.specs.memory.HiddenFields.{e_entry_field, is_hidden_field, is_in_entry_field}
use Rattle.sym_machine.specs.SymStart.{code_cell_range, symbol_of}
use Rattle.move_law.specs.Rewrite.{Rewrite, width_at, out, inst_end, HasAt, Goes}
use Rattle.elf_image.specs.memory.Executables.{memory_of, AreCodeBytes}
use Rattle.move_law.specs.RelocatedValues.{distance, number_of_symbol}

-- The map.

abbrev pub IsMapOf : Rewrite → Type 0
IsMapOf r = IsMap (λ a. IsTrue (is_code_address r.code.funcs a)) (IsNamed r.code) r.spans

-- Instructions. L relates two addresses p and q of the output if control gets from p to q; in a faithful rewrite L is
-- `Goes`.

-- The address of the instruction that follows: after an instruction that saves a return address, the next one of its
-- function; after any other, the one that starts where it ends, in any function. There may be none.
abbrev pub next : Rewrite → Placed → Option ℕ
next r p =
    if is_call (action_at p)
    then next_of r.code.funcs p.addr
    else option_map (λ q. q.addr) (placed_at r.code.funcs (plus p.addr p.len))

-- control gets from an address of the output to the new address of the instruction that follows p, if one does
abbrev pub GetsToNext : Rewrite → (ℕ → ℕ → Type 0) → Placed → ℕ → Type 0
GetsToNext r L p from = IfSome (next r p) (λ a. L from (out r a))

-- the instruction with another immediate, if its immediate can be a part of an address
abbrev pub with_immediate : Inst → ℤ → Inst
with_immediate (Lui rd imm) z = Lui rd z
with_immediate (Auipc rd imm) z = Auipc rd z
with_immediate (Addi rd rs1 imm) z = Addi rd rs1 z
with_immediate (Jalr rd rs1 imm) z = Jalr rd rs1 z
with_immediate (Lb rd rs1 imm) z = Lb rd rs1 z
with_immediate (Lh rd rs1 imm) z = Lh rd rs1 z
with_immediate (Lw rd rs1 imm) z = Lw rd rs1 z
with_immediate (Ld rd rs1 imm) z = Ld rd rs1 z
with_immediate (Lbu rd rs1 imm) z = Lbu rd rs1 z
with_immediate (Lhu rd rs1 imm) z = Lhu rd rs1 z
with_immediate (Lwu rd rs1 imm) z = Lwu rd rs1 z
with_immediate (Sb rs1 rs2 imm) z = Sb rs1 rs2 z
with_immediate (Sh rs1 rs2 imm) z = Sh rs1 rs2 z
with_immediate (Sw rs1 rs2 imm) z = Sw rs1 rs2 z
with_immediate (Sd rs1 rs2 imm) z = Sd rs1 rs2 z
with_immediate inst z = inst

-- The instruction at address a with a role, with its immediate computed from the new addresses of code. An upper or a
-- lower part of a distance is a part of the distance from its AUIPC to its target.
abbrev pub made_anew : (ℕ → ℕ) → ℕ → Role → Inst → Inst
made_anew new a role.Plain inst = inst
made_anew new a (role.CallHi target) inst = with_immediate inst (hi20 (distance (new target) (new a)))
made_anew new a (role.CallLo hi target) inst = with_immediate inst (lo12 (distance (new target) (new hi)))
made_anew new a (role.Hi target) inst = with_immediate inst (hi20 (distance (new target) (new a)))
made_anew new a (role.Lo hi target) inst = with_immediate inst (lo12 (distance (new target) (new hi)))
made_anew new a (role.AbsHi target) inst = with_immediate inst (hi20 (pos (new target)))
made_anew new a (role.AbsLo target) inst = with_immediate inst (lo12 (pos (new target)))

-- The output has this instruction at the new address of p, within the span of p.
pub record HasInSpan (r : Rewrite) (p : Placed) (inst : Inst) : Type 0 where
  pub has : HasAt r.output (out r p.addr) inst
  pub inside : Any (λ s. (s.input ≡ p.addr) × (width_at r.output (out r p.addr) ≤ s.len)) r.spans

-- A JAL that saves a return address is in the output, and its target is the new address of its old target.
pub record KeepsCall (r : Rewrite) (p : Placed) (rd : ℕ) (target : ℕ) : Type 0 where
  pub imm : ℤ
  pub has : HasInSpan r p (Jal rd imm)
  pub goes_to : plus (out r p.addr) (unsigned64 imm) ≡ out r target

-- A conditional branch is in the output, on the same registers, with its condition or with the opposite one. If the
-- condition holds, control gets to the new address of its target, otherwise to the instruction that follows.
pub data KeepsBranch (r : Rewrite) (L : ℕ → ℕ → Type 0) (p : Placed) (test : Test) (wanted : Bool)
    (rs1 rs2 target : ℕ) : Type 0 where
  same : (inst : Inst) (imm : ℤ) → HasInSpan r p inst → action_of inst ≡ Branch test wanted rs1 rs2 imm →
      L (plus (out r p.addr) (unsigned64 imm)) (out r target) → GetsToNext r L p (inst_end r p.addr) →
      KeepsBranch r L p test wanted rs1 rs2 target
  opposite : (inst : Inst) (imm : ℤ) → HasInSpan r p inst → action_of inst ≡ Branch test (not wanted) rs1 rs2 imm →
      L (inst_end r p.addr) (out r target) → GetsToNext r L p (plus (out r p.addr) (unsigned64 imm)) →
      KeepsBranch r L p test wanted rs1 rs2 target

-- By the instruction's action: a JAL that saves no return address may be left out, if control gets from its new address
-- to the new address of its target. Any instruction other than a JAL or a branch is in the output, with its immediate
-- computed from the new addresses.
abbrev pub KeepsAction : Rewrite → (ℕ → ℕ → Type 0) → Placed → Action → Type 0
KeepsAction r L p (Jump zero imm) = L (out r p.addr) (out r (plus p.addr (unsigned64 imm)))
KeepsAction r L p (Jump (suc rd) imm) = KeepsCall r p (suc rd) (plus p.addr (unsigned64 imm))
KeepsAction r L p (Branch test wanted rs1 rs2 imm) = KeepsBranch r L p test wanted rs1 rs2
    (plus p.addr (unsigned64 imm))
KeepsAction r L p action = HasInSpan r p (made_anew (out r) p.addr p.role p.inst)

abbrev pub KeepsInst : Rewrite → (ℕ → ℕ → Type 0) → Placed → Type 0
KeepsInst r L p = KeepsAction r L p (action_at p)

-- Control goes on at the end of the instruction. It doesn't after a jump that saves no return address; for a branch,
-- KeepsBranch says where it goes.
abbrev pub goes_on : Action → Bool
goes_on (Jump rd imm) = not (rd == 0)
goes_on (JumpTo rd rs1 imm) = not (rd == 0)
goes_on (Branch test wanted rs1 rs2 imm) = false
goes_on action = true

abbrev pub GoesOn : Rewrite → (ℕ → ℕ → Type 0) → Placed → Type 0
GoesOn r L p = IsTrue (goes_on (action_at p)) → GetsToNext r L p (inst_end r p.addr)

-- Memory.

-- an address that a segment loads with the same rights in both files
abbrev pub SameRight : Rewrite → ℕ → ℕ → Type 0
SameRight r flag a = is_loaded_with flag r.input.segments.items a ≡ is_loaded_with flag r.output.segments a

pub record SameRights (r : Rewrite) (a : ℕ) : Type 0 where
  pub reads : SameRight r PF_R a
  pub writes : SameRight r PF_W a
  pub executes : SameRight r PF_X a

-- the bytes that may change: bytes of code cells, of the entry point's field, and of hidden fields
abbrev pub may_change : Rewrite → ℕ → Bool
may_change r a =
    list_any (λ cell. is_in_range a (code_cell_range cell)) r.code.cells || is_in_entry_field r.input a
    || is_hidden_field r.input
    r.tight a

-- a byte that the input loads
pub record KeepsByte (r : Rewrite) (a byte : ℕ) : Type 0 where
  pub is_loaded : IsSome (memory_of r.output a)
  pub rights : SameRights r a
  pub same : IsFalse (may_change r a) → memory_of r.output a ≡ Some byte

-- a code cell holds the new number of its symbol, reduced to the cell's width
abbrev pub KeepsCell : Rewrite → CodeCell → Type 0
KeepsCell r cell =
    number_in (memory_of r.output) cell.addr cell.width
    ≡ Some (number_of_symbol r (symbol_of cell.kind) % 256 ^ cell.width)

-- all code cells hold their new numbers, and the entry point's field holds the new entry point if it is loaded
pub record KeepsCells (r : Rewrite) : Type 0 where
  pub each : All (KeepsCell r) r.code.cells
  pub entry : IfSome (address_of r.input e_entry_field) (λ a. number_in (memory_of r.output) a 8 ≡ Some r.output.entry)

-- The table of program headers, as a program finds it: at the same address, with the same number of headers.
pub record KeepsTable (r : Rewrite) : Type 0 where
  pub place : table_address r.input.file.now ≡ table_address r.output.file
  pub count : length r.input.segments.items ≡ length r.output.segments

-- The layout of the file, as a program finds it. In a tight file the table of program headers moves.
pub record KeepsLayout (r : Rewrite) : Type 0 where
  pub table : r.tight ≡ false → KeepsTable r
  pub break_start_is : break_start r.input.segments.items ≡ break_start r.output.segments
  pub break_bound_is : break_bound r.input.segments.items ≡ break_bound r.output.segments

-- The rewrite.

pub record IsFaithful (r : Rewrite) : Type 0 where
  pub map : IsMapOf r
  pub span_bytes : All (λ s. AreCodeBytes r.output s.out s.len) r.spans
  pub insts : All (KeepsInst r (Goes r.output)) (insts_of r.code.funcs)
  pub goes_on : All (GoesOn r (Goes r.output)) (insts_of r.code.funcs)
  pub entry : r.output.entry ≡ out r r.input.entry
  pub bytes : (a byte : ℕ) → byte_at r.input a ≡ Some byte → KeepsByte r a byte
  pub cells : KeepsCells r
  pub layout : KeepsLayout r
