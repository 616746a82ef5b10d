-- The functions of a file without faults ascend by address without overlap, are below the end of addresses, and their
-- instructions follow one another at even addresses.
use Rattle.std.proofs.Common.{◌≡◌, ◌∙◌, sym, ap, refl, ℕ, ◌+◌, ◌-◌, ◌%◌, ◌<◌, ◌≤◌, inl, inr, ⊎_elim, true, List, [], ◌∷◌, Some}
use Rattle.std.proofs.Common.{All, length, slice_index_or, arith}
use Rattle.std.specs.Prelude.{Any, Contains, IsTrue, slice_get}
use Rattle.std.proofs.lemmas.Bool.{and_parts, cases_lt}
use Rattle.std.proofs.lemmas.List.Elements.{All-cons, All-nil, Contains-get_or}
use Rattle.std.proofs.lemmas.Option.{slice_get_read}
use Rattle.rb_bytes.specs.declared.fault.FaultKind.TheVariants.{BadInstruction, ExecSegments, HighAddress}
use Rattle.rv_code.specs.declared.placed.Placed.{Placed}
use Rattle.rv_code.specs.declared.placed.Func.{Func}
use Rattle.rv_code.specs.layout.FunctionLists.{Follow, HasLength, IsLaidOut, AreLaidOut, address_end}
use Rattle.elf_image.specs.declared.elf.Elf.{Elf}
use Rattle.elf_image.specs.declared.section.Section.{Section}
use Rattle.elf_image.specs.declared.segment.TheConstants.{PF_X}
use Rattle.elf_code.specs.Functions.{AreInsts, AreFunctions}
use Rattle.elf_code.specs.Parts.{IsPart, IsInstAt, at_start}
use Rattle.elf_image.specs.faults.FileFaults.{IsSound}
use Rattle.rb_bytes.specs.FirstFault.{IsFree}
use Rattle.elf_code.specs.FunctionFaults.{HasFunctionFault}
use Rattle.elf_image.specs.faults.SegmentLayout.{LiesInCode}
use Rattle.elf_image.specs.file.Header.{segment}
use Rattle.elf_image.specs.file.ParsedFile.{IsElfOf, IsSectionAt}
use Rattle.elf_image.specs.file.Sections.{section_header, section_place, holds_code}
use Rattle.elf_image.specs.memory.Image.{has_flag, is_load}
use Rattle.elf_image.proofs.LoadLemmas.{loads-from_parts}
use Rattle.func_find.proofs.Judged.{IsCodePart-function}
use Rattle.rb_bytes.proofs.ListLemmas.{all_of}
use Rattle.rb_bytes.proofs.Stable.{stable_equal}

stable_upto : (a b : ℕ) → ((a ≤ b → ⊥) → ⊥) → a ≤ b
stable_upto a b h = ⊎_elim (λ (past : b < a). absurd (h (λ upto. omega arith))) (λ (upto : a ≤ b). upto) (cases_lt b a)

-- Instructions.

length_of_inst : (elf : Elf) (a : ℕ) (p : Placed) → IsInstAt elf a p.inst p.len → HasLength p
length_of_inst elf a p (inl half) = inl half.two_bytes
length_of_inst elf a p (inr full) = inr full.four_bytes

follow_of : (elf : Elf) (a end : ℕ) (ps : List Placed) → AreInsts elf a ps end → Follow a ps end
follow_of elf a end [] are = are
follow_of elf a end (p ∷ ps) are = (are.0, follow_of elf (a + p.len) end ps are.3)

lengths_of : (elf : Elf) (a end : ℕ) (ps : List Placed) → AreInsts elf a ps end → All HasLength ps
lengths_of elf a end [] are = All-nil HasLength
lengths_of elf a end (p ∷ ps) are =
    All-cons HasLength p ps (length_of_inst elf a p are.1) (lengths_of elf (a + p.len) end ps are.3)

-- Parts.

module _ (elf : Elf) (file : List ℕ) (read : IsElfOf file elf) (sound : IsSound file) where
  -- A section with code is inside an executable segment.
  section_lies : (k : ℕ) (s : Section) → slice_get elf.sections.items k ≡ Some s → k < length elf.sections.items →
      holds_code s.flags ≡ true → 0 < s.size → (LiesInCode file s.addr (s.addr + s.size) → ⊥) → ⊥
  section_lies k s is within holds some stray = by (read.sections.each k s is)
    where
      by : IsSectionAt file k s → ⊥
      by h =
          let count = read.sections.count_is in
          let size_is = h.size in
          let code_is : holds_code (section_header file k).flags ≡ true = sym (ap holds_code h.flags) ∙ holds in
          sound ExecSegments (section_place file k)
          (inr (inr (inr (
            k,
            omega arith,
            (
              (
                code_is,
                (λ none. absurd (omega arith)),
                (λ lies. stray (rw (h.addr, h.size) lies)),
              ),
              refl,
            ),
          ))))

  -- An executable segment ends below the end of addresses.
  segment_low : (start end : ℕ) → LiesInCode file start end → start < end → end ≤ address_end
  segment_low start end (j, is, low, high) some =
      let kind = and_parts (is_load (segment file j)) (has_flag PF_X (segment file j)) is.1 in
      ⊎_elim
      (λ (below : end - 1 < address_end). omega arith)
      (λ (above : address_end ≤ end - 1).
      absurd (sound HighAddress (end - 1)
      (j, is.0, (loads-from_parts (end - 1) (segment file j) kind.0 (omega arith) (omega arith), above))))
      (cases_lt (end - 1) address_end)

  part_low : (start end : ℕ) → IsPart elf start end → end ≤ address_end
  part_low start end part = by part.in_code
    where
      by : Any (λ s. IsTrue (holds_code s.flags) × (s.addr ≤ start) × (start < s.addr + s.size)) elf.sections.items →
          end ≤ address_end
      by (k, s, within, at, (holds, low, high)) = stable_upto end address_end (λ not_low.
          section_lies k s (slice_get_read elf.sections.items (length elf.sections.items) k s refl within
          (sym at)) within holds (omega arith)
          (λ lies.
          let last = segment_low s.addr (s.addr + s.size) lies (omega arith) in
          not_low (⊎_elim
          (λ (inside : s.addr + s.size < end).
          absurd (part.neighbours (s.addr + s.size) high inside (inr (k, s, within, at, (holds, inr (refl, omega arith))))))
          (λ (upto : end ≤ s.addr + s.size). omega arith)
          (cases_lt (s.addr + s.size) end))))

  -- Functions.

  module _ (tabled : List (ℕ × ℕ)) (funcs : List Func) (are : AreFunctions elf tabled funcs) (free : IsFree
      (HasFunctionFault elf tabled)) where
    part_of_func : (f : Func) → Contains funcs f → IsPart elf f.start f.end
    part_of_func f f_in = (IsCodePart-function elf tabled f.start f.end (are.only f f_in).part).part

    func_laid_out : (f : Func) → Contains funcs f → IsLaidOut f
    func_laid_out f f_in =
        let part = part_of_func f f_in in
        let insts = (are.only f f_in).insts in
        record {
          has_bytes = part.has_bytes;
          even = stable_equal (f.start % 2) 0 (λ odd. free BadInstruction f.start (record {
            start = f.start;
            end = f.end;
            function = (are.only f f_in).part;
            starts = at_start part.has_bytes;
            invalid = λ inst bytes valid. odd valid.even;
          }));
          follow = follow_of elf f.start f.end f.insts.items insts;
          lengths = lengths_of elf f.start f.end f.insts.items insts;
        }

    pub AreLaidOut-functions : AreLaidOut funcs
    AreLaidOut-functions = record {
      each = all_of IsLaidOut funcs func_laid_out;
      apart = λ i j d less inside.
          let f = slice_index_or funcs i d in
          let g = slice_index_or funcs j d in
          let part = part_of_func f (Contains-get_or funcs i d (omega arith)) in
          let part' = part_of_func g (Contains-get_or funcs j d inside) in
          let before = are.ordered i j d less inside in
          ⊎_elim
          (λ (within : g.start < f.end). absurd (part.neighbours g.start before within part'.starts))
          (λ (past : f.end ≤ g.start). past)
          (cases_lt g.start f.end);
      low = all_of (λ f. f.end ≤ address_end) funcs (λ f f_in. part_low f.start f.end (part_of_func f f_in));
    }
