-- An accepted file has code: its entry point is an instruction.
use Rattle.std.proofs.Common.{◌≡◌, ◌∙◌, refl, sym, ◌<◌, Bool, true, false, List, inr, get_or, arith}
use Rattle.std.proofs.lemmas.List.Sums.{get_or-le-sum_by}
use Rattle.std.proofs.lemmas.Option.{slice_get_within, get_or_from_slice_get}
use Rattle.rb_bytes.specs.declared.fault.FaultKind.TheVariants.{BadEntry}
use Rattle.rv_code.specs.declared.placed.Block.{Block}
use Rattle.rv_code.specs.layout.Blocks.{AreBlocks}
use Rattle.rv_code.specs.layout.FunctionLists.{AreLaidOut}
use Rattle.rv_code.specs.layout.ProgramCode.{IsNamed, ProgramCode, by_entry, is_code_address}
use Rattle.rv_code.specs.layout.WorstSizes.{worst_size_of_block}
use Rattle.elf_image.specs.declared.elf.Elf.{Elf}
use Rattle.move_law.specs.Laws.{IsAcceptedCode}
use Rattle.move_law.proofs.code.InstLists.{function_code}
use Rattle.branch_fixup.proofs.Covered.{covers}
use Rattle.branch_fixup.proofs.Falls.{code_at}
use Rattle.rv_code.proofs.lists.Blocks.{blocks_of_functions}
use Rattle.func_place.proofs.WorstPositive.{worst_some}
use Rattle.area_room.specs.Need.{code_need}

module _ (elf : Elf) (code : ProgramCode) (accepted : IsAcceptedCode elf code) where
  entry_code : is_code_address code.funcs elf.entry ≡ true
  entry_code = by (is_code_address code.funcs elf.entry) refl
    where
      by : (b : Bool) → is_code_address code.funcs elf.entry ≡ b → b ≡ true
      by true e = refl
      by false e = absurd (accepted.no_fault BadEntry elf.entry (inr (record {
        is_entry = refl;
        no_code = λ c.
            let t = function_code elf accepted.tabled code accepted.code_is c.start c.end elf.entry c.function c.starts in
            absurd (let k : false ≡ true = sym e ∙ t in cc);
      })))

  pub entry_named : IsNamed code elf.entry
  entry_named = record { code_address = entry_code; held = by_entry accepted.code_is.entry }

  pub some_need : AreLaidOut code.funcs → (blocks : List Block) → AreBlocks code blocks → 0 < code_need code.funcs blocks
  some_need laid blocks are =
      let c = code_at code.funcs elf.entry entry_code in
      let v = covers code blocks are c.f c.i c.func c.at_func (slice_get_within c.func.insts.items c.i c.p c.at_inst) in
      let within = slice_get_within blocks v.m v.b v.at in
      let is : get_or blocks v.m v.b ≡ v.b = get_or_from_slice_get blocks v.m v.b v.b v.at in
      let some : 0 < worst_size_of_block code.funcs (get_or blocks v.m v.b) =
      worst_some code.funcs (get_or blocks v.m v.b) laid (blocks_of_functions code blocks are v.m v.b within) in
      let most = get_or-le-sum_by (worst_size_of_block code.funcs) blocks v.m v.b within in
      omega (arith, some, most)
