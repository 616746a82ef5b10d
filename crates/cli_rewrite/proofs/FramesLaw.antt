-- In a rewritten file, the functions at each byte of new code are the functions at its owner.
use Rattle.rb_bytes.specs.FirstFault.{IsFree}
use Rattle.elf_image.specs.declared.elf.Elf.{Elf}
use Rattle.table_set.specs.TableFaults.{HasDebugFault}
use Rattle.table_set.proofs.ElfReading.{lines_free, units_free}
use Rattle.bolt_core.proofs.TableRefusals.{debug_free}
use Rattle.inline_frames.proofs.Law.{frames_carried}
use Rattle.cli_rewrite.specs.FramesLaw.{FramesLaw}

pub law : FramesLaw
law file profile written spans counts made p o owned =
    let i : Elf = made.program.elf in
    let f : Elf = made.tables.new in
    let old : IsFree (HasDebugFault i) = debug_free i made.stands.moves.carried in
    let new : IsFree (HasDebugFault f) = λ kind place has. made.answers.sound kind place has.1 in
    frames_carried spans made.answers.lists i f made.answers.kept (units_free i old) (units_free f new) (lines_free i old)
    (lines_free f new) p o (made.answers.answers p o owned)
