-- The instructions of accepted code are in loaded bytes that may be executed and not written, at even addresses, one after another.
use Rattle.std.proofs.Common.{◌≡◌, ℕ, ◌+◌, ◌-◌, ◌%◌, ◌<◌, ◌≤◌, List, [], ◌∷◌, length, Option, Some, true, false, refl, sym, rules}
use Rattle.std.proofs.Common.{ap, ◌∙◌, subst, arith, inl, inr, ◌⊎◌, get_or}
use Rattle.std.specs.Prelude.{Contains, AllPairs, Any, IsTrue, slice_get}
use Rattle.std.specs.Option.{option_map_or}
use Rattle.std.proofs.lemmas.Bool.{and_parts, cases_lt, false_from_ne_true}
use Rattle.std.proofs.lemmas.List.Elements.{Contains-get_or}
use Rattle.std.proofs.lemmas.List.Kept.{AllPairs-cons}
use Rattle.std.proofs.lemmas.Option.{slice_get_read}
use Rattle.rv_code.specs.declared.placed.Func.{Func}
use Rattle.rv_code.specs.declared.placed.Placed.{Placed}
use Rattle.rv_code.specs.layout.Flow.{insts_of}
use Rattle.rv_code.specs.layout.ProgramCode.{ProgramCode}
use Rattle.rb_bytes.specs.declared.fault.FaultKind.TheVariants.{BadInstruction, ExecSegments, WritableCode}
use Rattle.elf_image.specs.declared.elf.Elf.{Elf}
use Rattle.elf_image.specs.declared.section.Section.{Section}
use Rattle.elf_image.specs.declared.segment.Segment.{Segment}
use Rattle.elf_image.specs.declared.segment.TheConstants.{PF_W, PF_X}
use Rattle.elf_code.specs.Functions.{AreInsts, IsFunctionPart, code, referred, fallen_into}
use Rattle.elf_code.specs.Parts.{IsPart, IsInstAt, StartsIn, at_start, after, length_at}
use Rattle.rv_code.specs.layout.FunctionLists.{address_end}
use Rattle.elf_image.specs.faults.SegmentLayout.{IsCode, LiesInCode}
use Rattle.elf_image.specs.file.Header.{e_phnum, segment, segment_place, segments_of}
use Rattle.elf_image.specs.file.ParsedFile.{IsSectionAt}
use Rattle.elf_image.specs.file.Sections.{section_header, section_place, holds_code}
use Rattle.elf_image.specs.memory.Image.{end_of, has_flag, is_load, loads_address, segment_of}
use Rattle.elf_image.proofs.LoadLemmas.{loads-from_parts}
use Rattle.rb_bytes.proofs.Searches.{find-only}
use Rattle.rb_bytes.proofs.Members.{Contains-cons_cases}
use Rattle.elf_image.proofs.ReadLists.{get_or-segments, length-segments_of}
use Rattle.elf_image.specs.memory.Executables.{executable_read, IsCodeByte}
use Rattle.move_law.specs.Laws.{IsAcceptedCode}
use Rattle.move_law.proofs.code.InstLists.{length_of}
use Rattle.move_law.proofs.files.Executables.{accepted_executable, byte_low, load_once, loaded_byte}
use Rattle.rb_bytes.proofs.ListLemmas.{all_of, from_flat, pairs_flat}
use Rattle.rb_bytes.proofs.Stable.{stable_bool, stable_lt, stable_equal}

-- Instructions that follow one another.

module _ (elf : Elf) where
  pub some_length : (a : ℕ) (p : Placed) → IsInstAt elf a p.inst p.len → 0 < p.len
  some_length a p (inl d) = let e = d.two_bytes in omega (arith, e)
  some_length a p (inr d) = let e = d.four_bytes in omega (arith, e)

  insts_end : (a end : ℕ) (ps : List Placed) → AreInsts elf a ps end → a ≤ end
  insts_end a end [] are = omega (arith, are)
  insts_end a end (p ∷ ps) are = let rest = insts_end (a + p.len) end ps are.3 in omega (arith, rest)

  -- an instruction of the list is within the stretch
  pub record IsBetween (a end : ℕ) (p : Placed) : Type 0 where
    pub from : a ≤ p.addr
    pub to : p.addr + p.len ≤ end
    pub some : 0 < p.len

  insts_between : (a end : ℕ) (ps : List Placed) (p : Placed) → AreInsts elf a ps end → Contains ps p → IsBetween a end p
  insts_between a end [] p are is_in = let l = is_in.1 in absurd (omega (arith, l))
  insts_between a end (q ∷ ps) p are is_in =
      by (Contains-cons_cases q ps p is_in) (λ k. insts_between (a + q.len) end ps p are.3 k)
    where
      here : IsBetween a end q
      here =
          let at = are.0 in
          let rest = insts_end (a + q.len) end ps are.3 in
          record { from = omega (arith, at); to = omega (arith, at, rest); some = some_length a q are.1 }

      by : (q ≡ p) ⊎ Contains ps p → (Contains ps p → IsBetween (a + q.len) end p) → IsBetween a end p
      by (inl same) rest = subst (IsBetween a end) same here
      by (inr k) rest = search rules

  insts_ordered : (a end : ℕ) (ps : List Placed) → AreInsts elf a ps end → AllPairs (λ p q. p.addr + p.len ≤ q.addr) ps
  insts_ordered a end [] are = λ i j d less inside. absurd (omega (arith, inside))
  insts_ordered a end (p ∷ ps) are =
      AllPairs-cons (λ p q. p.addr + p.len ≤ q.addr) p ps
      (all_of (λ q. p.addr + p.len ≤ q.addr) ps (λ q q_in.
      let at = are.0 in
      let from = (insts_between (a + p.len) end ps q are.3 q_in).from in
      omega (arith, at, from)))
      (insts_ordered (a + p.len) end ps are.3)

  -- each instruction starts in the stretch
  insts_start : (start a end : ℕ) (ps : List Placed) (p : Placed) → AreInsts elf a ps end →
      (a < end → StartsIn elf start end a) →
      Contains ps p → StartsIn elf start end p.addr
  insts_start start a end [] p are starts is_in = let l = is_in.1 in absurd (omega (arith, l))
  insts_start start a end (q ∷ ps) p are starts is_in =
      by (Contains-cons_cases q ps p is_in) (λ k. insts_start start (a + q.len) end ps p are.3 next k)
    where
      here : StartsIn elf start end a
      here =
          let some = some_length a q are.1 in
          let rest = insts_end (a + q.len) end ps are.3 in
          starts (omega (arith, some, rest))

      next : a + q.len < end → StartsIn elf start end (a + q.len)
      next below =
          let len : length_at elf a ≡ q.len = length_of elf a q.inst q.len are.1 in
          subst (λ (n : ℕ). a + n < end → StartsIn elf start end (a + n)) len (λ less. after a here less) below

      by : (q ≡ p) ⊎ Contains ps p → (Contains ps p → StartsIn elf start end p.addr) → StartsIn elf start end p.addr
      by (inl same) rest =
          subst (λ (x : Placed). StartsIn elf start end x.addr) same (subst (StartsIn elf start end) (sym are.0) here)
      by (inr k) rest = rest k

part_of : (elf : Elf) (tabled : List (ℕ × ℕ)) {start end : ℕ} → IsFunctionPart elf tabled start end → IsPart elf start end
part_of elf tabled (code start end part some) = part.part
part_of elf tabled (referred start end a nops starts ref) = nops.part
part_of elf tabled (fallen_into start end before a inst bytes nops function has at falls) = nops.part

-- Code is loaded as code.

-- a byte of code, at an address that isn't 0
pub record CodeAt (elf : Elf) (a : ℕ) : Type 0 where
  pub byte : IsCodeByte (executable_read elf) a
  pub above : 0 < a
  pub low : a < address_end

module _ (elf : Elf) (code' : ProgramCode) (accepted : IsAcceptedCode elf code') where
  segment_in : (j : ℕ) → j < e_phnum elf.file.now → Contains elf.segments.items (segment elf.file.now j)
  segment_in j within =
      let count = length-segments_of elf.file.now in
      let h : j < length (segments_of elf.file.now) = omega (arith, count, within) in
      let at = get_or-segments elf.file.now j (segment elf.file.now j) h in
      subst (λ (l : List Segment). Contains l (segment elf.file.now j)) (sym accepted.read.segments)
      (subst (Contains (segments_of elf.file.now)) at.1
      (Contains-get_or (segments_of elf.file.now) j (segment elf.file.now j) h))

  -- what an executable segment loads is code
  segment_code : (j a : ℕ) → IsCode elf.file.now j → (segment elf.file.now j).vaddr ≤ a → a < end_of (segment elf.file.now j) →
      CodeAt elf a
  segment_code j a is from to =
      record {
        byte = (executes, fixed);
        above = above;
        low = let b = loaded_byte (executable_read elf) PF_X a executes in
            byte_low (executable_read elf) (accepted_executable elf code' accepted) a b.0 b.1;
      }
    where
      kind : (is_load (segment elf.file.now j) ≡ true) × (has_flag PF_X (segment elf.file.now j) ≡ true)
      kind = and_parts (is_load (segment elf.file.now j)) (has_flag PF_X (segment elf.file.now j)) is.1

      loads : IsTrue (loads_address a (segment elf.file.now j))
      loads = loads-from_parts a (segment elf.file.now j) kind.0 from to

      found : segment_of elf.segments.items a ≡ Some (segment elf.file.now j)
      found =
          find-only (loads_address a) elf.segments.items (segment elf.file.now j) (segment_in j is.0) loads
          (λ q q_in q_loads. load_once (executable_read elf) (accepted_executable elf code' accepted) a q
          (segment elf.file.now j)
          q_in (segment_in j is.0) q_loads loads)

      flag_is : (flag : ℕ) →
          option_map_or (has_flag flag) (segment_of elf.segments.items a) false ≡ has_flag flag (segment elf.file.now j)
      flag_is flag = ap (λ (o : Option Segment). option_map_or (has_flag flag) o false) found

      executes : option_map_or (has_flag PF_X) (segment_of elf.segments.items a) false ≡ true
      executes = flag_is PF_X ∙ kind.1

      fixed : option_map_or (has_flag PF_W) (segment_of elf.segments.items a) false ≡ false
      fixed = flag_is PF_W ∙ false_from_ne_true (has_flag PF_W (segment elf.file.now j)) (λ writes.
          absurd (accepted.sound WritableCode (segment_place elf.file.now j) (j, is.0, ((is, writes), refl))))

      above : 0 < a
      above = elim (cases_lt 0 a) [
        | inl positive ↦ positive
        | inr zero_is ↦ absurd (
            let vaddr : (segment elf.file.now j).vaddr ≡ 0 = omega (arith, from, zero_is) in
            accepted.sound ExecSegments (segment_place elf.file.now j) (inl (inr (inr (j, is.0, ((is, inl vaddr), refl))))))
      ]

  -- a section with code is in an executable segment
  section_lies : (s : Section) → Contains elf.sections.items s → holds_code s.flags ≡ true → 0 < s.size →
      (LiesInCode elf.file.now s.addr (s.addr + s.size) → ⊥) → ⊥
  section_lies s (k, within, at) holds some stray = by (accepted.read.sections.each k s is)
    where
      is : slice_get elf.sections.items k ≡ Some s
      is = slice_get_read elf.sections.items (length elf.sections.items) k s refl within (sym at)

      by : IsSectionAt elf.file.now k s → ⊥
      by h =
          let count = accepted.read.sections.count_is in
          let size_is = h.size in
          let code_is : holds_code (section_header elf.file.now k).flags ≡ true = sym (ap holds_code h.flags)
          ∙ holds in
          accepted.sound ExecSegments (section_place elf.file.now k)
          (inr (inr (inr (
            k,
            omega (arith, count, within),
            (
              (
                code_is,
                (λ none. absurd (omega (arith, size_is, none, some))),
                (λ lies. stray (rw (h.addr, h.size) lies)),
              ),
              refl,
            ),
          ))))

  section_code : (s : Section) → Contains elf.sections.items s → holds_code s.flags ≡ true → (a : ℕ) → s.addr ≤ a →
      a < s.addr + s.size →
      CodeAt elf a
  section_code s s_in holds a from to = record {
    byte = (
      stable_bool _ true (λ n. lies (λ c. n c.byte.0)),
      stable_bool _ false (λ n. lies (λ c. n c.byte.1)),
    );
    above = stable_lt 0 a (λ n. lies (λ c. n c.above));
    low = stable_lt a address_end (λ n. lies (λ c. n c.low));
  }
    where
      lies : (CodeAt elf a → ⊥) → ⊥
      lies n = section_lies s s_in holds (omega (arith, from, to)) (λ (j, is, low, high).
          n (segment_code j a is (omega (arith, low, from)) (omega (arith, high, to))))

  -- a part ends within its section
  part_code : (start end : ℕ) → IsPart elf start end → (a : ℕ) → start ≤ a → a < end → CodeAt elf a
  part_code start end part a from to = by part.in_code
    where
      by : Any (λ s. IsTrue (holds_code s.flags) × (s.addr ≤ start) × (start < s.addr + s.size)) elf.sections.items → CodeAt elf a
      by (k, s, within, at, (holds, low, high)) = elim (cases_lt a (s.addr + s.size)) [
        | inl inside ↦ section_code s (k, within, at) holds a (omega (arith, low, from)) inside
        | inr past ↦ absurd (
            let last =
            (section_code s (k, within, at) holds (s.addr + s.size - 1) (omega (arith, low, high))
            (omega (arith, low, high))).low in
            part.neighbours (s.addr + s.size) high (omega (arith, past, to))
            (inr (k, s, within, at, (holds, inr (refl, omega (arith, last))))))
      ]

  -- Instructions.

  pub record Lies (p : Placed) : Type 0 where
    pub func : Func
    pub contains : Contains code'.funcs func
    pub in_func : Contains func.insts.items p
    pub between : IsBetween elf func.start func.end p

  pub lies : (p : Placed) → Contains (insts_of code'.funcs) p → Lies p
  lies p is_in =
      let (func, func_in, p_in) = from_flat (λ f. f.insts.items) code'.funcs p is_in in
      let is = accepted.code_is.funcs.only func func_in in
      record {
        func = func;
        contains = func_in;
        in_func = p_in;
        between = insts_between elf func.start func.end func.insts.items p is.insts p_in;
      }

  pub inst_code : (p : Placed) → Contains (insts_of code'.funcs) p → (i : ℕ) → i < p.len → CodeAt elf (p.addr + i)
  inst_code p is_in i inside =
      let l = lies p is_in in
      let is = accepted.code_is.funcs.only l.func l.contains in
      let from = l.between.from in
      let to = l.between.to in
      part_code (l.func).start (l.func).end (part_of elf accepted.tabled is.part) (p.addr + i) (omega (arith, from))
      (omega (arith, to, inside))

  pub inst_even : (p : Placed) → Contains (insts_of code'.funcs) p → p.addr % 2 ≡ 0
  inst_even p is_in = stable_equal (p.addr % 2) 0 (λ odd.
      let l = lies p is_in in
      let is = accepted.code_is.funcs.only l.func l.contains in
      let starts = insts_start elf (l.func).start (l.func).start (l.func).end (l.func).insts.items p is.insts
      (λ below. at_start below) l.in_func in
      accepted.no_fault BadInstruction p.addr (inr (record {
        start = (l.func).start;
        end = (l.func).end;
        function = is.part;
        starts = starts;
        invalid = λ inst bytes valid. odd valid.even;
      })))

  pub ordered : AllPairs (λ p q. p.addr + p.len ≤ q.addr) (insts_of code'.funcs)
  ordered =
      pairs_flat (λ p q. p.addr + p.len ≤ q.addr) (λ f. f.insts.items) code'.funcs
      (λ f f_in. let is = accepted.code_is.funcs.only f f_in in insts_ordered elf f.start f.end f.insts.items is.insts)
      (λ i j d less inside. apart (get_or code'.funcs i d) (get_or code'.funcs j d)
      (Contains-get_or code'.funcs i d (omega (arith, less, inside))) (Contains-get_or code'.funcs j d inside)
      (accepted.code_is.funcs.ordered i j d less inside))
    where
      apart : (f g : Func) → Contains code'.funcs f → Contains code'.funcs g → f.start < g.start →
          (p q : Placed) → Contains f.insts.items p → Contains g.insts.items q → p.addr + p.len ≤ q.addr
      apart f g f_in g_in before p q p_in q_in =
          let is_f = accepted.code_is.funcs.only f f_in in
          let is_g = accepted.code_is.funcs.only g g_in in
          let to = (insts_between elf f.start f.end f.insts.items p is_f.insts p_in).to in
          let from = (insts_between elf g.start g.end g.insts.items q is_g.insts q_in).from in
          elim (cases_lt g.start f.end) [
            | inl inside ↦ absurd ((part_of elf accepted.tabled is_f.part).neighbours g.start before inside
                (part_of elf accepted.tabled is_g.part).starts)
            | inr past ↦ omega (arith, to, from, past)
          ]
