-- Frame tables that are read of a file.
use Rattle.std.proofs.Common.{◌≡◌, ◌∙◌, ℕ, Bool, List, [], ◌∷◌, Option, Some, None, sym, ap, Bor}
use Rattle.std.specs.Prelude.{Contains, ◌↔◌, is_some}
use Rattle.std.specs.Option.{option_copied}
use Rattle.rb_bytes.specs.FirstFault.{IsFree}
use Rattle.elf_image.specs.declared.elf.Elf.{Elf}
use Rattle.elf_image.specs.file.Cuts.{IsCutAddress}
use Rattle.elf_image.proofs.CutLists.{IsCutAddress-from_lists, lists-from_IsCutAddress}
use Rattle.answer_runs.specs.Choices.{unless_any}
use Rattle.table_core.specs.Sections.{Held}
use Rattle.cfi_rows.specs.declared.frame_table.Frames.{Frames as Kept}
use Rattle.cfi_rows.specs.Entries.{Fde, Frames}
use Rattle.cfi_rows.specs.Frames.{frames_of}
use Rattle.cfi_rows.specs.ReadFrames.{read_as, section_held}
use Rattle.frame_rewrite.specs.FrameAnswers.{answer_at, is_marked_by, cuts_of}
use Rattle.frame_rewrite.specs.Faults.{IsFrameFault}
use Rattle.frame_rewrite.specs.Tables.{answers}
use Rattle.frame_rewrite.proofs.CutMarks.{same-marks}

pub no-fault : (t : Frames) → t.bad ≡ None → IsFree (IsFrameFault t)
no-fault t e = λ kind place h. let p = h.1 in absurd (cc)

pub read-of : (t : Kept) (debug : Bool) (section : Held) → t.debug ≡ debug → section_held t ≡ section →
    read_as t ≡ frames_of debug section
read-of t debug section e f = ap (λ d. frames_of d (section_held t)) e ∙ ap (frames_of debug) f

pub means-so : (m n : Fde → Bool) (f g : Frames) → g ≡ f → g.bad ≡ None → n ≡ m → answers m f ≡ Some (answer_at n g.list)
means-so m n f g e b h =
    ap (answers m) (sym e) ∙ ap (λ o. unless_any (o ∷ []) (answer_at m g.list)) b
    ∙ ap (λ k. Some (answer_at k g.list)) (sym h)

pub cut-marks : (elf : Elf) (cuts : List ℕ) →
    ((a : ℕ) → Contains cuts a ↔ IsCutAddress elf.symbols.items elf.sections.items a) →
    is_marked_by cuts ≡ is_marked_by (cuts_of elf)
cut-marks elf cuts h = same-marks cuts (cuts_of elf) (λ a. (
  λ c. lists-from_IsCutAddress elf.symbols.items elf.sections.items a ((h a).0 c),
  λ c. (h a).1 (IsCutAddress-from_lists elf.symbols.items elf.sections.items a c),
))

pub copied-there : {X : Type 0} (r : Option (Bor X)) (o : Option X) → option_copied r ≡ o → is_some r ≡ is_some o
copied-there None o e = ap is_some e
copied-there (Some x) o e = ap is_some e
