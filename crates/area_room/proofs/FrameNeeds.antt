-- The need of an unwind table, by its entries in the terms of the code.
use Rattle.std.proofs.Common.{◌≡◌, ℕ, ◌+◌, ◌*◌, ◌∙◌, Bool, true, Option, Some, None, List, [], ◌∷◌, length, map, ap, arith, sym, Bor, codes}
use Rattle.std.specs.Prelude.{flat_map, sum_by, is_some, if◌then◌else◌}
use Rattle.std.specs.Option.{option_copied}
use Rattle.std.proofs.lemmas.List.Folds.{flat_map-map}
use Rattle.rv_code.specs.declared.placed.Block.{Block}
use Rattle.rv_code.specs.declared.placed.Func.{Func}
use Rattle.elf_image.specs.declared.elf.Elf.{Elf}
use Rattle.elf_image.specs.declared.section.Section.{Section}
use Rattle.elf_image.specs.file.SectionNames.{section_called}
use Rattle.cfi_rows.specs.declared.frame_table.Fde.{Fde as ReadFde}
use Rattle.cfi_rows.specs.declared.listed.Listed.{Listed}
use Rattle.cfi_rows.specs.Entries.{Fde, Frames}
use Rattle.cfi_rows.specs.FrameNeed.{bound_count, frame_need, is_block_in, need_of, piece_count, piece_size}
use Rattle.cfi_rows.specs.Frames.{eh_frames}
use Rattle.cfi_rows.specs.ReadEntries.{fde_of}
use Rattle.cfi_rows.specs.KeptTables.{SaidFrames, said, said_of}
use Rattle.area_room.specs.EntryNeeds.{bounds_of, entries_need, is_strictly_between, pieces_of, size_of}
use Rattle.file_room.specs.Numbers.{capped}
use Rattle.rb_bytes.proofs.RangeCounts.{count}
use Rattle.rb_bytes.proofs.ListLemmas.{sum_by-map}
use Rattle.area_room.proofs.EntrySums.{count_bounds}

module _ (funcs : List Func) (blocks : List Block) (list : List Fde) where
  bounds_are : bounds_of (map fde_of list) ≡ flat_map (λ (f : Fde). f.start ∷ f.end ∷ []) list
  bounds_are = flat_map-map (λ (f : ReadFde). f.start ∷ f.end ∷ []) fde_of list

  bounds_counted : (f : Fde) → count (is_strictly_between f.start f.end) (bounds_of (map fde_of list)) ≡ bound_count list f
  bounds_counted f =
      ap (λ (ns : List ℕ). count (is_strictly_between f.start f.end) ns) bounds_are
      ∙ count_bounds (λ (g : Fde). g.start) (λ (g : Fde). g.end) (is_strictly_between f.start f.end) list

  one : (f : Fde) →
      pieces_of funcs blocks (bounds_of (map fde_of list)) (fde_of f) * size_of (fde_of f)
      ≡ piece_count funcs blocks list f * piece_size f
  one f = ap (λ (n : ℕ). (count (is_block_in funcs f) blocks + length f.rows + n) * piece_size f) (bounds_counted f)

  pub entries_are : entries_need funcs blocks (bounds_of (map fde_of list)) (map fde_of list)
      ≡ sum_by (λ f. piece_count funcs blocks list f * piece_size f) list
  entries_are =
      sum_by-map
      (λ (f : ReadFde). pieces_of funcs blocks (bounds_of (map fde_of list)) f * size_of f) fde_of list
      ∙ ap (λ (g : Fde → ℕ). sum_by g list) (λ i f. one f i)

-- sums of saturating sums
capped_sum : (cies entries : ℕ) → capped (capped (capped (cies * 64) + 64) + capped entries) ≡ capped (64 + 64 * cies + entries)
capped_sum cies entries = omega arith

pub table_need : (funcs : List Func) (blocks : List Block) (t : Frames) (items : List ReadFde) (cies entries : ℕ) →
    items ≡ map fde_of t.list → cies ≡ t.cies → entries ≡ capped (entries_need funcs blocks (bounds_of items) items) →
    capped (capped (capped (cies * 64) + 64) + entries) ≡ capped (need_of funcs blocks t)
table_need funcs blocks t items cies entries items_are cies_are entries_is =
    let e : entries ≡ capped (sum_by (λ f. piece_count funcs blocks t.list f * piece_size f) t.list) =
    entries_is ∙ ap (λ (fs : List ReadFde). capped (entries_need funcs blocks (bounds_of fs) fs)) items_are
    ∙ ap capped (entries_are funcs blocks t.list) in
    ap (λ (n : ℕ). capped (capped (capped (n * 64) + 64) + entries)) cies_are
    ∙ ap (λ (n : ℕ). capped (capped (capped (t.cies * 64) + 64) + n)) e
    ∙ capped_sum t.cies (sum_by (λ f. piece_count funcs blocks t.list f * piece_size f) t.list)

some_copied : (o : Option (Bor Section)) (s : Option Section) → option_copied o ≡ s → is_some o ≡ true → is_some s ≡ true
some_copied None s e f = absurd (cc)
some_copied (Some x) s e f = ap (λ (p : Option Section). is_some p) (sym e)

-- the need of a file that has the section
module _ (elf : Elf) (funcs : List Func) (blocks : List Block) (found : Option (Bor Section)) (t : Listed) (entries : ℕ)
    (called : option_copied found ≡ section_called elf.sections.items (codes ".eh_frame")) (there : is_some found ≡ true)
    (read : said (eh_frames elf) ≡ said_of t)
    (entries_is : entries ≡ capped (entries_need funcs blocks (bounds_of t.list.items) t.list.items)) where
  all : frame_need elf funcs blocks ≡ need_of funcs blocks (eh_frames elf)
  all =
      ap (λ (b : Bool). if b then need_of funcs blocks (eh_frames elf) else 0)
      (some_copied found (section_called elf.sections.items (codes ".eh_frame")) called there)

  pub frame_need_is : (of_cies with_ends sum : ℕ) → of_cies ≡ capped (t.cies * 64) → with_ends ≡ capped (of_cies + 64) →
      sum ≡ capped (with_ends + entries) → sum ≡ capped (frame_need elf funcs blocks)
  frame_need_is of_cies with_ends sum a b c =
      c ∙ ap (λ (n : ℕ). capped (n + entries)) b ∙ ap (λ (n : ℕ). capped (capped (n + 64) + entries)) a
      ∙ table_need funcs blocks (eh_frames elf) t.list.items t.cies entries (sym (ap (λ (s : SaidFrames). s.list) read))
      (sym (ap (λ (s : SaidFrames). s.cies) read)) entries_is
      ∙ ap capped (sym all)
