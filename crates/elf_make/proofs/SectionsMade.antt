-- The sections of a file that was made are those that it must have, by what is read of it.
use Rattle.std.proofs.Common.{◌≡◌, ◌∙◌, sym, ap, subst, refl, ℕ, zero, suc, ◌+◌, ◌-◌, ◌≤◌, ◌<◌, inl, inr, List, [], Bool}
use Rattle.std.proofs.Common.{true, false, Option, Some, None, String, Vec, length, map, take, drop, get_or, slice_get, arith}
use Rattle.std.specs.Prelude.{All, Contains, IfSome, IsTrue, codes, is_some, ◌==◌, if◌then◌else◌}
use Rattle.std.proofs.lemmas.List.{get_or-map, length-map}
use Rattle.std.proofs.lemmas.List.Elements.{Contains-append_cases, Contains-append_right}
use Rattle.std.proofs.lemmas.Option.{slice_get_within}
use Rattle.elf_image.specs.declared.elf.Elf.{Elf}
use Rattle.elf_image.specs.declared.section.Section.{Section}
use Rattle.elf_image.specs.declared.section.SectionHeader.{SectionHeader}
use Rattle.elf_image.specs.declared.section.TheConstants.{SHF_ALLOC, SHF_EXECINSTR, SHT_NOBITS}
use Rattle.elf_image.specs.faults.FileFaults.{IsSound}
use Rattle.elf_image.specs.file.Header.{e_shstrndx}
use Rattle.elf_image.specs.file.ParsedFile.{IsElfOf}
use Rattle.elf_image.specs.file.Sections.{section_header, text_of}
use Rattle.rv_code.specs.isa.Op.{flag}
use Rattle.elf_parts.specs.Patches.{Stands}
use Rattle.elf_plan.specs.declared.area.Area.{Area}
use Rattle.elf_plan.specs.Area.{area_offset}
use Rattle.elf_plan.specs.AreaStands.{AreaStands}
use Rattle.elf_plan.specs.FileLayout.{added_ranges}
use Rattle.elf_plan.specs.NewSections.{AreNewSections, At, IsAdded, IsInArea, adds_ranges, bytes_called}
use Rattle.rb_bytes.proofs.ListLemmas.{slice_get_found}
use Rattle.elf_make.specs.FileParts.{IsMade}
use Rattle.elf_make.specs.MadeSections.{HasSections}
use Rattle.elf_make.specs.SectionTable.{capped}
use Rattle.elf_make.specs.SetHeaders.{IsNew}
use Rattle.elf_make.specs.Source.{Source}
use Rattle.elf_make.proofs.AddedByIndex.{added-count, frames-added, index-added, ranges-added, text-added}
use Rattle.elf_make.proofs.CellPieces.{CanHoldPiece}
use Rattle.elf_make.proofs.InArea.{in_area}
use Rattle.elf_make.proofs.LayoutRead.{bytes, counted, found, indices}
use Rattle.elf_make.proofs.MadeHeaders.{e_shstrndx-written}
use Rattle.elf_make.proofs.NamesRead.{IsClean, text-there}
use Rattle.elf_make.proofs.PlacedContents.{bytes_at-added}
use Rattle.elf_make.proofs.PlannedOrder.{listed-within}
use Rattle.elf_make.proofs.SectionsFollow.{header-is, says-header, section-follows, sized, taken}
use Rattle.elf_make.proofs.SectionsNamed.{section-called, table-read}
use Rattle.elf_make.proofs.SectionsRead.{SaysHeader, no_header, section-written}

-- what holds of the section at an index that is there
at-some : (sections : List Section) (m : ℕ) (P : Section → Type 0) → m < length sections →
    ((n : Section) → slice_get sections m ≡ Some n → P n) → At sections m P
at-some sections m P below holds =
    let (n, at) = slice_get_found sections m below in
    subst (λ (o : Option Section). IfSome o P) (sym at) (holds n at)

-- two facts of the same address, if there is one
both : (o : Option ℕ) (P Q R : ℕ → Type 0) → ((a : ℕ) → o ≡ Some a → P a → Q a → R a) → IfSome o P → IfSome o Q → IfSome o R
both None P Q R gives p q = tt
both (Some a) P Q R gives p q = gives a refl p q

module _ {Y Z : Type 0} (s : Source) (tight : Bool) (w : List ℕ) (read : IsElfOf s.elf.file.now s.elf)
    (sound : IsSound s.elf.file.now) (made : IsMade s tight w) (can : All (CanHoldPiece s.elf) s.cells)
    (tables : List (String Y × Vec ℕ Z)) (has : HasSections s tables tight w made) (new : Elf) (new_read : IsElfOf w new) where
  abbrev olds : List Section
  olds = s.elf.sections.items

  abbrev area : Area
  area = made.layout.area

  abbrev adds : Bool
  adds = adds_ranges olds tables

  abbrev table : List ℕ
  table = has.put.new.section_names.now

  abbrev after : List SectionHeader
  after = has.put.are_set.after

  abbrev written_at : List ℕ
  written_at = indices s tight w read sound made can tables has new new_read

  all-counted : length new.sections.items ≡ length has.put.set
  all-counted = counted s tight w read sound made can tables has new new_read

  count : length after ≡ (length olds + 1) + (flag (is_some area.frames) + (flag (is_some area.index) + flag adds))
  count =
      added-count table tables area adds has.put.are_set.before after has.put.are_set.added
      ∙ ap (λ (n : ℕ). (n + 1) + (flag (is_some area.frames) + (flag (is_some area.index) + flag adds))) has.put.are_set.begins

  -- only the added table of ranges has contents that are placed
  not-listed : (m : ℕ) → length olds ≤ m → (adds ≡ true → m + 1 < length has.put.set) → Contains written_at m → ⊥
  not-listed m past before_last there =
      elim (Contains-append_cases (map (λ (e : ℕ × ℕ). e.1) has.order) (added_ranges adds (length has.put.set)) m there) [
        | inl front ↦ in_order front
        | inr last ↦ in_added adds refl last
      ]
    where
      in_order : Contains (map (λ (e : ℕ × ℕ). e.1) has.order) m → ⊥
      in_order (j, below, is) =
          let long = length-map has.order (λ (e : ℕ × ℕ). e.1) in
          let inside : j < length has.order = omega (arith, below, long) in
          let low = listed-within olds _ has.order has.arranged.order_is j (0, 0) inside in
          let same : (get_or has.order j (0, 0)).1 ≡ m = sym (get_or-map (λ (e : ℕ × ℕ). e.1) has.order j (0, 0) m inside) ∙ is in
          absurd (omega (arith, low, same, past))

      in_added : (b : Bool) → adds ≡ b → Contains (added_ranges b (length has.put.set)) m → ⊥
      in_added false e (j, below, is) = absurd (omega (arith, below))
      in_added true e (zero, below, is) = let last = before_last e in absurd (omega (arith, last, is))
      in_added true e (suc j, below, is) = absurd (omega (arith, below))

  -- A section after those of the input.
  module _ (m : ℕ) (n : Section) (past : length olds ≤ m) (at_n : slice_get new.sections.items m ≡ Some n) where
    abbrev header : SectionHeader
    header = get_or after m no_header

    inside : m < length has.put.set
    inside = let low = slice_get_within new.sections.items m n at_n in let all = all-counted in omega (arith, low, all)

    name-read : (get_or has.put.placed m no_header).name ≡ header.name → n.name.now ≡ text_of table header.name
    name-read same =
        let low = inside in
        let placed = has.put.are_placed.count in
        let all = has.put.count in
        (new_read.sections.each m n at_n).name
        ∙ ap (λ (ys : List ℕ). text_of ys (section_header w m).name) (table-read s tight w read sound made can tables has new new_read)
        ∙ ap (λ (h : SectionHeader). text_of table h.name)
        (section-written s tight w read sound made can tables has.contents has.order has.headers has.put has.count m no_header
        (omega (arith, low, placed, all))
        ∙ header-is s tight w read sound made can tables has new new_read m low)
        ∙ ap (text_of table) same

    -- in the new area
    module _ (text : List ℕ) (clean : IsClean text) (flags addr size align : ℕ)
        (is : IsNew table text flags addr (area_offset area addr) size align header)
        (before_last : adds ≡ true → m + 1 < length has.put.set) (part : List ℕ) (sized_as : size ≡ length part)
        (stands : Stands w (area_offset area addr) part) where
      placed-as : get_or has.put.placed m no_header ≡ header
      placed-as =
          has.put.are_placed.others m no_header (λ j low here. not-listed m past before_last (j, low, here))
          ∙ has.put.are_set.same m no_header past

      said : SaysHeader (capped (length w) header) n
      said = subst (λ (h : SectionHeader). SaysHeader (capped (length w) h) n) placed-as
          (says-header s tight w read sound made can tables has new new_read m n at_n)

      is-in_area : IsInArea w area text part flags addr align n
      is-in_area = in_area w area text part flags addr align n
          (record {
            name_is =
                name-read (ap (λ (h : SectionHeader). h.name) placed-as) ∙ text-there table text header.name clean is.named;
            kind = said.kind ∙ ap (λ (h : SectionHeader). h.kind) is.is;
            flags_are = said.flags ∙ ap (λ (h : SectionHeader). h.flags) is.is;
            addr_is = said.addr ∙ ap (λ (h : SectionHeader). h.addr) is.is;
            link = said.link ∙ ap (λ (h : SectionHeader). h.link) is.is;
            info = said.info ∙ ap (λ (h : SectionHeader). h.info) is.is;
            align_is = said.align ∙ ap (λ (h : SectionHeader). h.align) is.is;
            entsize = said.entsize ∙ ap (λ (h : SectionHeader). h.entsize) is.is;
          })
          (let at = said.offset in
          let is_at : header.offset ≡ area_offset area addr = ap (λ (h : SectionHeader). h.offset) is.is in
          let within = stands.within in
          omega (arith, at, is_at, within))
          (said.size ∙ ap (λ (h : SectionHeader). h.size) is.is ∙ sized_as) stands

  -- the table of ranges
  module _ (e : adds ≡ true) (n : Section) (at_n : slice_get new.sections.items (length has.put.set - 1) ≡ Some n) where
    abbrev last : ℕ
    last = length has.put.set - 1

    more : length olds ≤ last
    more = let long = has.put.more in omega (arith, long)

    there : Contains written_at last
    there = Contains-append_right (map (λ (f : ℕ × ℕ). f.1) has.order) _ last
        (subst (λ (b : Bool). Contains (added_ranges b (length has.put.set)) last) (sym e) (0, omega arith, refl))

    new-header : IsNew table (codes ".debug_rnglists") 0 0 0 0 1 (get_or after last no_header)
    new-header =
        let all : length after - 1 ≡ last = ap (λ (k : ℕ). k - 1) (sym has.put.are_set.count) in
        subst (λ (k : ℕ). IsNew table (codes ".debug_rnglists") 0 0 0 0 1 (get_or after k no_header)) all
        (ranges-added table tables area adds has.put.are_set.before after has.put.are_set.added e no_header)

    bytes-are : bytes s tight w read sound made can tables has new new_read last ≡ bytes_called tables (codes ".debug_rnglists")
    bytes-are = bytes_at-added has.put.new s.elf has.contents last more ∙ has.put.ranges

    is-ranges : IsAdded w (codes ".debug_rnglists") (bytes_called tables (codes ".debug_rnglists")) 0 0 1 n
    is-ranges =
        let place = found s tight w read sound made can tables has new new_read last n there at_n in
        let said = says-header s tight w read sound made can tables has new new_read last n at_n in
        let set : get_or has.put.set last no_header ≡ get_or after last no_header = has.put.are_set.same last no_header more in
        let is : (f : SectionHeader → ℕ) → (f (get_or has.put.placed last no_header) ≡ f (get_or has.put.set last no_header)) →
        f (get_or has.put.placed last no_header) ≡ f (get_or after last no_header) = λ f same. same ∙ ap f set in
        let new_is = new-header.is in
        let kind = said.kind ∙ is (λ h. h.kind) (ap (λ (h : SectionHeader). h.kind) place.2.same)
        ∙ ap (λ (h : SectionHeader). h.kind) new_is in
        record {
          header = record {
            name_is =
                name-read last n more at_n (is (λ h. h.name) (ap (λ (h : SectionHeader). h.name) place.2.same))
                ∙ text-there table (codes ".debug_rnglists") _ refl new-header.named;
            kind = kind;
            flags_are = said.flags ∙ is (λ h. h.flags) (ap (λ (h : SectionHeader). h.flags) place.2.same)
                ∙ ap (λ (h : SectionHeader). h.flags) new_is;
            addr_is = said.addr ∙ is (λ h. h.addr) (ap (λ (h : SectionHeader). h.addr) place.2.same)
                ∙ ap (λ (h : SectionHeader). h.addr) new_is;
            link = said.link ∙ is (λ h. h.link) (ap (λ (h : SectionHeader). h.link) place.2.same)
                ∙ ap (λ (h : SectionHeader). h.link) new_is;
            info = said.info ∙ is (λ h. h.info) (ap (λ (h : SectionHeader). h.info) place.2.same)
                ∙ ap (λ (h : SectionHeader). h.info) new_is;
            align_is = said.align ∙ is (λ h. h.align) (ap (λ (h : SectionHeader). h.align) place.2.same)
                ∙ ap (λ (h : SectionHeader). h.align) new_is;
            entsize = said.entsize ∙ is (λ h. h.entsize) (ap (λ (h : SectionHeader). h.entsize) place.2.same)
                ∙ ap (λ (h : SectionHeader). h.entsize) new_is;
          };
          contents =
              ap (λ (k : ℕ). if k == SHT_NOBITS then [] else take n.size (drop n.offset w)) kind
              ∙ taken s tight w read sound made can tables has new new_read last n there at_n ∙ bytes-are;
          size = sized s tight w read sound made can tables has new new_read last n there at_n ∙ ap length bytes-are;
        }

  -- All of them, if the area's bytes are in the file.
  module _ (stands : AreaStands area tables s.code w) where
    begins : length has.put.are_set.before ≡ length olds
    begins = has.put.are_set.begins

    code-sized : area.code_end - area.start ≡ length s.code
    code-sized =
        let is = made.laid_out.area in
        let end = ap (λ (a : Area). a.code_end) is in
        let from = ap (λ (a : Area). a.start) is in
        omega (arith, end, from)

    text : At new.sections.items (length olds) (IsInArea w area (codes ".text") s.code (SHF_ALLOC + SHF_EXECINSTR) area.start 16)
    text =
        let sum = count in
        let same = has.put.are_set.count in
        let all = all-counted in
        at-some new.sections.items (length olds) _ (omega (arith, sum, same, all))
        (λ n at_n. is-in_area (length olds) n (omega arith) at_n (codes ".text") refl _ area.start _ 16
        (subst (λ (k : ℕ). IsNew table (codes ".text") (SHF_ALLOC + SHF_EXECINSTR) area.start (area_offset area area.start)
        (area.code_end - area.start) 16 (get_or after k no_header)) begins
        (text-added table tables area adds has.put.are_set.before after has.put.are_set.added no_header))
        (λ e. let one = ap flag e in omega (arith, sum, same, one)) s.code code-sized stands.text)

    frames : IfSome area.frames (λ a. At new.sections.items (length olds + 1)
        (IsInArea w area (codes ".eh_frame") (bytes_called tables (codes ".eh_frame")) SHF_ALLOC a 8))
    frames =
        let sum = count in
        let same = has.put.are_set.count in
        let all = all-counted in
        both area.frames _ _ _
        (λ a some is there. let one = ap (λ (o : Option ℕ). flag (is_some o)) some in
        at-some new.sections.items (length olds + 1) _ (omega (arith, sum, same, all, one))
        (λ n at_n. is-in_area (length olds + 1) n (omega arith) at_n (codes ".eh_frame") refl SHF_ALLOC a _ 8
        (subst (λ (k : ℕ). IsNew table (codes ".eh_frame") SHF_ALLOC a (area_offset area a)
        (length (bytes_called tables (codes ".eh_frame"))) 8 (get_or after (k + 1) no_header)) begins (is no_header))
        (λ e. let last = ap flag e in omega (arith, sum, same, one, last)) _ refl there))
        (frames-added table tables area adds has.put.are_set.before after has.put.are_set.added) stands.frames

    index : IfSome area.index (λ a. At new.sections.items ((length olds + 1) + flag (is_some area.frames))
        (IsInArea w area (codes ".eh_frame_hdr") (bytes_called tables (codes ".eh_frame_hdr")) SHF_ALLOC a 4))
    index =
        let sum = count in
        let same = has.put.are_set.count in
        let all = all-counted in
        both area.index _ _ _
        (λ a some is there. let one = ap (λ (o : Option ℕ). flag (is_some o)) some in
        at-some new.sections.items ((length olds + 1) + flag (is_some area.frames)) _ (omega (arith, sum, same, all, one))
        (λ n at_n. is-in_area ((length olds + 1) + flag (is_some area.frames)) n (omega arith) at_n (codes ".eh_frame_hdr") refl
        SHF_ALLOC a _ 4
        (subst (λ (k : ℕ). IsNew table (codes ".eh_frame_hdr") SHF_ALLOC a (area_offset area a)
        (length (bytes_called tables (codes ".eh_frame_hdr"))) 4 (get_or after ((k + 1) + flag (is_some area.frames)) no_header))
        begins (is no_header))
        (λ e. let last = ap flag e in omega (arith, sum, same, one, last)) _ refl there))
        (index-added table tables area adds has.put.are_set.before after has.put.are_set.added) stands.index

    ranges : IsTrue adds → At new.sections.items (length new.sections.items - 1)
        (IsAdded w (codes ".debug_rnglists") (bytes_called tables (codes ".debug_rnglists")) 0 0 1)
    ranges e =
        let more = has.put.more in
        let all = all-counted in
        subst (λ (k : ℕ). At new.sections.items (k - 1)
        (IsAdded w (codes ".debug_rnglists") (bytes_called tables (codes ".debug_rnglists")) 0 0 1)) (sym all-counted)
        (at-some new.sections.items (length has.put.set - 1) _ (omega (arith, more, all)) (is-ranges e))

    pub sections-read : AreNewSections s.elf new tables area made.layout.shift s.code
    sections-read = record {
      names_at = ap e_shstrndx new_read.file_is ∙ e_shstrndx-written s tight w made;
      count = all-counted ∙ has.put.are_set.count ∙ count;
      called = section-called s tight w read sound made can tables has new new_read;
      follows = section-follows s tight w read sound made can tables has new new_read;
      text = subst (λ (f : List ℕ). At new.sections.items (length olds)
          (IsInArea f area (codes ".text") s.code (SHF_ALLOC + SHF_EXECINSTR) area.start 16)) (sym new_read.file_is) text;
      frames = subst (λ (f : List ℕ). IfSome area.frames (λ a. At new.sections.items (length olds + 1)
          (IsInArea f area (codes ".eh_frame") (bytes_called tables (codes ".eh_frame")) SHF_ALLOC a 8))) (sym new_read.file_is) frames;
      index = subst (λ (f : List ℕ). IfSome area.index (λ a.
          At new.sections.items ((length olds + 1) + flag (is_some area.frames))
          (IsInArea f area (codes ".eh_frame_hdr") (bytes_called tables (codes ".eh_frame_hdr")) SHF_ALLOC a 4)))
          (sym new_read.file_is) index;
      ranges = subst (λ (f : List ℕ). IsTrue adds → At new.sections.items (length new.sections.items - 1)
          (IsAdded f (codes ".debug_rnglists") (bytes_called tables (codes ".debug_rnglists")) 0 0 1)) (sym new_read.file_is) ranges;
    }
