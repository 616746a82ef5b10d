-- What the readers of instructions and entries answer.
use Rattle.cfi_rows.specs.declared.failed.Failed.{Failed}
use Rattle.cfi_rows.specs.declared.failed.Failed.TheVariants.{Memory, Malformed}
use Rattle.cfi_rows.specs.declared.factors.Factors.{Factors}
use Rattle.cfi_rows.specs.FrameInstructions.{Context}

-- nothing is read for want of memory, or since the bytes there are malformed
abbrev pub Fails : Failed → Type 0 → Type 0
Fails Memory P = Unit {0}
Fails Malformed P = P

abbrev pub context_of : Factors → Context
context_of f = record { code = f.code; «data» = f.«data»; encoding = f.encoding; end = f.end }
