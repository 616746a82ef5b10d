-- Kinds of refusal: their numbers and names.
use Rattle.std.specs.Prelude.{ℕ, List, codes}
use Rattle.rb_bytes.specs.declared.fault.Fault.{Fault}
use Rattle.rb_bytes.specs.declared.fault.FaultKind.{FaultKind}
use Rattle.rb_bytes.specs.declared.fault.FaultKind.TheVariants.{NotElf, Truncated, Flags, NotStatic, ExecSegments}
use Rattle.rb_bytes.specs.declared.fault.FaultKind.TheVariants.{WritableCode, HighAddress, CompressedSection, RelocType}
use Rattle.rb_bytes.specs.declared.fault.FaultKind.TheVariants.{RelocMismatch, LoMismatch, NarrowDiff, IfuncOrPlt}
use Rattle.rb_bytes.specs.declared.fault.FaultKind.TheVariants.{AlreadyMoved, BadEntry, BadInstruction, BareAuipc}
use Rattle.rb_bytes.specs.declared.fault.FaultKind.TheVariants.{BadTarget, UnitTooLong, KeptBranch, RegisteredFrames}
use Rattle.rb_bytes.specs.declared.fault.FaultKind.TheVariants.{FrameFault, DwarfVersion, DwarfForm, HighPcForm}
use Rattle.rb_bytes.specs.declared.fault.FaultKind.TheVariants.{DwarfFault, LineFault, NoRoom, TooLarge}

-- The number of a kind. Two kinds share the number 16.
abbrev pub number_of : FaultKind → ℕ
number_of NotElf = 1
number_of Truncated = 2
number_of Flags = 3
number_of NotStatic = 4
number_of ExecSegments = 5
number_of WritableCode = 6
number_of HighAddress = 7
number_of CompressedSection = 8
number_of RelocType = 9
number_of RelocMismatch = 10
number_of LoMismatch = 11
number_of NarrowDiff = 12
number_of IfuncOrPlt = 13
number_of AlreadyMoved = 14
number_of BadEntry = 15
number_of BadInstruction = 16
number_of BareAuipc = 16
number_of BadTarget = 17
number_of UnitTooLong = 18
number_of KeptBranch = 19
number_of RegisteredFrames = 20
number_of FrameFault = 21
number_of DwarfVersion = 22
number_of DwarfForm = 23
number_of HighPcForm = 24
number_of DwarfFault = 25
number_of LineFault = 26
number_of NoRoom = 27
number_of TooLarge = 28

-- The name of a kind, in ASCII.
abbrev pub name_of : FaultKind → List ℕ
name_of NotElf = codes "NotElf"
name_of Truncated = codes "Truncated"
name_of Flags = codes "Flags"
name_of NotStatic = codes "NotStatic"
name_of ExecSegments = codes "ExecSegments"
name_of WritableCode = codes "WritableCode"
name_of HighAddress = codes "HighAddress"
name_of CompressedSection = codes "CompressedSection"
name_of RelocType = codes "RelocType"
name_of RelocMismatch = codes "RelocMismatch"
name_of LoMismatch = codes "LoMismatch"
name_of NarrowDiff = codes "NarrowDiff"
name_of IfuncOrPlt = codes "IfuncOrPlt"
name_of AlreadyMoved = codes "AlreadyMoved"
name_of BadEntry = codes "BadEntry"
name_of BadInstruction = codes "BadInstruction"
name_of BareAuipc = codes "BareAuipc"
name_of BadTarget = codes "BadTarget"
name_of UnitTooLong = codes "UnitTooLong"
name_of KeptBranch = codes "KeptBranch"
name_of RegisteredFrames = codes "RegisteredFrames"
name_of FrameFault = codes "FrameFault"
name_of DwarfVersion = codes "DwarfVersion"
name_of DwarfForm = codes "DwarfForm"
name_of HighPcForm = codes "HighPcForm"
name_of DwarfFault = codes "DwarfFault"
name_of LineFault = codes "LineFault"
name_of NoRoom = codes "NoRoom"
name_of TooLarge = codes "TooLarge"

-- A fault with no need and no room.
abbrev pub fault_at : FaultKind → ℕ → Fault
fault_at kind place = record { kind = kind; place = place; need = 0; room = 0 }
