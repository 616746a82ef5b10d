-- Searches for four-byte instructions.
use Rattle.std.proofs.Common.{◌≡◌, ℕ, List, arith}
use Rattle.rv_code.specs.declared.inst.Inst.{Inst}
use Rattle.elf_image.specs.declared.elf.Elf.{Elf}
use Rattle.elf_code.specs.Parts.{IsStart}
use Rattle.elf_code.specs.Roles.{IsFullAt}
use Rattle.code_starts.specs.declared.parts.Part.{Part}
use Rattle.code_starts.specs.Parts.{AreCodeParts, HoldsAddress, IsInstBefore}
use Rattle.code_starts.proofs.StartLists.{starts_inside}

pub start_held : (elf : Elf) (parts : List Part) (a : ℕ) → AreCodeParts elf parts → (is : IsStart elf a) →
    HoldsAddress parts a (record { start = is.start; end = is.end })
start_held elf parts a are is =
    let inside = starts_inside elf is.start is.end a is.is_start.starts in
    record { listed = are.each (record { start = is.start; end = is.end }) is.is_start.part; above = inside.0; below = inside.1 }

abbrev pub full_start : (elf : Elf) (a : ℕ) (inst : Inst) → IsFullAt elf a inst → IsStart elf a
full_start elf a inst full = record { start = full.start; end = full.end; is_start = full.has.starts }

pub full_there : (elf : Elf) (a end : ℕ) (inst : Inst) → (is : IsStart elf a) → is.end ≡ end → IsInstBefore elf end a inst 4 →
    IsFullAt elf a inst
full_there elf a end inst is same full =
    let within = full.inside in
    record { start = is.start; end = is.end; has = record { starts = is.is_start; is_inst = full.is_inst; inside = omega arith } }

pub full_before : (elf : Elf) (a end : ℕ) (inst : Inst) → (full : IsFullAt elf a inst) → full.end ≡ end →
    IsInstBefore elf end a inst 4
full_before elf a end inst full same = let within = full.has.inside in record { is_inst = full.has.is_inst; inside = omega arith }
