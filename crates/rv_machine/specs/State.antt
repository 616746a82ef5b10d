-- The state that a `Machine` represents.
use Rattle.std.specs.Prelude.{ℕ, ◌<◌, ◌≤◌, List, slice_index}
use Rattle.rv_code.specs.machine.Step.{ByteState}
use Rattle.rv_code.specs.declared.action.Action.{Action}
use Rattle.rv_code.specs.declared.action.Action.TheVariants.{Compute, Branch, Jump, JumpTo, Upper, UpperPc}
use Rattle.rv_code.specs.declared.action.Action.TheVariants.{Load, Store, Fence, SystemCall, Breakpoint}
use Rattle.rv_memory.specs.Memory.{memory_of, space_in}
use Rattle.rv_machine.specs.declared.machine.Machine.{Machine}

abbrev pub registers_of : Machine → ℕ → ℕ
registers_of m r = slice_index m.registers r

-- the state of machine `m` with `input` as the bytes that are still to be read
abbrev pub state_of : Machine → List ℕ → ByteState
state_of m input = record {
  pc = m.pc;
  registers = registers_of m;
  memory = memory_of m.memory;
  space = space_in m.memory;
  program_break = m.memory.program_break;
  input = input;
}

-- the action writes one of the 32 registers, if any, and stores at most 8 bytes
abbrev pub HasRegisters : Action → Type 0
HasRegisters (Compute op rd left right) = rd < 32
HasRegisters (Branch test wanted rs1 rs2 imm) = Unit {0}
HasRegisters (Jump rd imm) = rd < 32
HasRegisters (JumpTo rd rs1 imm) = rd < 32
HasRegisters (Upper rd imm) = rd < 32
HasRegisters (UpperPc rd imm) = rd < 32
HasRegisters (Load extension rd rs1 imm) = rd < 32
HasRegisters (Store bytes rs1 rs2 imm) = bytes ≤ 8
HasRegisters Fence = Unit {0}
HasRegisters SystemCall = Unit {0}
HasRegisters Breakpoint = Unit {0}
