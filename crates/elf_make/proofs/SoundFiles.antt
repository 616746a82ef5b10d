-- What holds of the segments of a file without a fault.
use Rattle.std.proofs.Common.{◌≡◌, ◌∙◌, sym, ap, subst, refl, ℕ, zero, suc, ◌+◌, ◌-◌, ◌*◌, ◌≤◌, ◌<◌, ◌⊎◌, inl, inr, List, [], ◌∷◌}
use Rattle.std.proofs.Common.{Some, None, Bool, true, false, IsTrue, length, get_or, arith}
use Rattle.std.specs.Prelude.{Contains, find, not, cond, ◌&&◌, ◌==◌, nat_lt}
use Rattle.std.specs.List.{list_any, enumerate_from}
use Rattle.std.proofs.lemmas.Bool.{and_parts, and_from, eqb-true, eqb-false, lt-ltb, cases_lt}
use Rattle.std.proofs.lemmas.Option.{same_Some}
use Rattle.std.proofs.lemmas.List.Folds.{list_any_at}
use Rattle.rb_bytes.specs.declared.fault.FaultKind.TheVariants.{ExecSegments, Truncated, WritableCode}
use Rattle.elf_image.specs.declared.segment.Segment.{Segment}
use Rattle.elf_image.specs.declared.segment.TheConstants.{PF_W, PF_X, PHDR_SIZE}
use Rattle.elf_image.specs.file.Header.{e_phnum, e_phoff, segment, segment_place, segments_of}
use Rattle.elf_image.specs.memory.CodeSegment.{executable_segment, is_lowest}
use Rattle.elf_image.specs.memory.Image.{is_load, has_flag, LoadOnce}
use Rattle.elf_image.specs.faults.FileFaults.{IsSound}
use Rattle.elf_image.specs.faults.SegmentLayout.{is_code_segment, IsCode, IsLowestCode, IsFileByte}
use Rattle.elf_image.specs.faults.Truncation.{IsReadable}
use Rattle.elf_image.proofs.LowestPlaces.{IsLowest-none}
use Rattle.elf_image.proofs.ReadableFiles.{lowest-readable}
use Rattle.elf_image.proofs.ReadLists.{length-segments_of, get_or-segments, LoadOnce-apart}
use Rattle.rb_bytes.proofs.Stable.{stable_equal}

-- The first of a list with indices that passes a test.
record IsFirst {X : Type 0} (p : ℕ × X → Bool) (xs : List X) (n i : ℕ) (x : X) : Type 0 where
  from : n ≤ i
  below : i < n + length xs
  is : (d : X) → get_or xs (i - n) d ≡ x
  passes : p (i, x) ≡ true
  first : (j : ℕ) (d : X) → n + j < i → p (n + j, get_or xs j d) ≡ false

find-first : {X : Type 0} (p : ℕ × X → Bool) (xs : List X) (n i : ℕ) (x : X) →
    find p (enumerate_from n xs) ≡ Some (i, x) → IsFirst p xs n i x
find-first p [] n i x e = absurd (cc)
find-first {X} p (y ∷ ys) n i x e = cases (λ rest. find-first p ys (n + 1) i x rest) (p (n, y)) refl
  where
    made : (b : Bool) → p (n, y) ≡ b → cond b (Some (n, y)) (find p (enumerate_from (n + 1) ys)) ≡ Some (i, x)
    made b is = ap (λ (c : Bool). cond c (Some (n, y)) (find p (enumerate_from (n + 1) ys))) (sym is) ∙ e

    fails_at : IsFirst p ys (n + 1) i x → p (n, y) ≡ false → (j : ℕ) (d : X) → n + j < i → p (n + j, get_or (y ∷ ys) j d) ≡ false
    fails_at later fails zero d low = let at : n + zero ≡ n = omega arith in ap (λ (k : ℕ). p (k, y)) at ∙ fails
    fails_at later fails (suc j) d low =
        let at : n + suc j ≡ n + 1 + j = omega arith in
        ap (λ (k : ℕ). p (k, get_or ys j d)) at ∙ later.first j d (omega arith)

    cases : (find p (enumerate_from (n + 1) ys) ≡ Some (i, x) → IsFirst p ys (n + 1) i x) → (b : Bool) → p (n, y) ≡ b →
        IsFirst p (y ∷ ys) n i x
    cases rest true passes =
        let same : ◌≡◌ {A = ℕ × X} (n, y) (i, x) = same_Some (n, y) (i, x) (made true passes) in
        let here : n ≡ i = ap (λ (z : ℕ × X). z.0) same in
        let none_before : i - n ≡ 0 = omega arith in
        record {
          from = omega arith;
          below = omega arith;
          is = λ d. ap (λ (k : ℕ). get_or (y ∷ ys) k d) none_before ∙ ap (λ (z : ℕ × X). z.1) same;
          passes = ap p (sym same) ∙ passes;
          first = λ j d low. absurd (omega arith);
        }
    cases rest false fails =
        let later : IsFirst p ys (n + 1) i x = rest (made false fails) in
        let from : n + 1 ≤ i = later.from in
        let below : i < n + 1 + length ys = later.below in
        let behind : i - n ≡ suc (i - (n + 1)) = omega arith in
        record {
          from = omega arith;
          below = omega arith;
          is = λ d. ap (λ (k : ℕ). get_or (y ∷ ys) k d) behind ∙ later.is d;
          passes = later.passes;
          first = fails_at later fails;
        }

-- What a sound file has.
module _ (file : List ℕ) (sound : IsSound file) where
  abbrev ps : List Segment
  ps = segments_of file

  pub readable : IsReadable file
  readable = lowest-readable file None (IsLowest-none (λ place truncated. sound Truncated place truncated))

  -- no two segments share an address, or a byte of the file
  pub load_once : LoadOnce ps
  load_once = LoadOnce-apart file (λ place shares. sound ExecSegments place (inr (inl (inl shares))))

  -- the header of an index
  pub header-is : (i : ℕ) (p : Segment) → i < length ps → get_or ps i p ≡ p → (i < e_phnum file) × (segment file i ≡ p)
  header-is i p below is = let found = get_or-segments file i p below in (found.0, sym found.1 ∙ is)

  pub alone : (p q : Segment) (k : ℕ) → Contains ps p → Contains ps q → IsFileByte k p → IsFileByte k q → p ≡ q
  alone p q k (i, below_i, is_p) (j, below_j, is_q) in_p in_q = cases (j == i) refl
    where
      p_is : (i < e_phnum file) × (segment file i ≡ p)
      p_is = header-is i p below_i is_p

      q_is : (j < e_phnum file) × (segment file j ≡ q)
      q_is = header-is j q below_j is_q

      cases : (b : Bool) → (j == i) ≡ b → p ≡ q
      cases true e = sym p_is.1 ∙ ap (λ (n : ℕ). segment file n) (sym (eqb-true j i e)) ∙ q_is.1
      cases false e =
          absurd
          (sound ExecSegments (segment_place file i)
          (inr (inl (inr (
            i,
            p_is.0,
            (
              (j, q_is.0, eqb-false j i e, (k, subst (IsFileByte k) (sym p_is.1) in_p, subst (IsFileByte k) (sym q_is.1) in_q)),
              refl,
            ),
          )))))

  -- The executable segment.
  module _ (code : ℕ) (p : Segment) (found : executable_segment ps ≡ Some (code, p)) where
    abbrev test : ℕ × Segment → Bool
    test e = is_code_segment e.1 && is_lowest ps e.1

    first : IsFirst test ps 0 code p
    first = find-first test ps 0 code p found

    pub code-below : code < length ps
    code-below = let b : code < 0 + length ps = first.below in omega arith

    pub code-at : (d : Segment) → get_or ps code d ≡ p
    code-at d = let at : code - 0 ≡ code = omega arith in ap (λ (k : ℕ). get_or ps k d) (sym at) ∙ first.is d

    pub code-there : Contains ps p
    code-there = (code, code-below, code-at p)

    code-is : (code < e_phnum file) × (segment file code ≡ p)
    code-is = header-is code p code-below (code-at p)

    is_code : is_code_segment p ≡ true
    is_code = (and_parts (is_code_segment p) (is_lowest ps p) first.passes).0

    pub code-load : IsTrue (is_load p)
    code-load = (and_parts (is_load p) (has_flag PF_X p) is_code).0

    pub code-executes : has_flag PF_X p ≡ true
    code-executes = (and_parts (is_load p) (has_flag PF_X p) is_code).1

    is_code-file : IsCode file code
    is_code-file = (code-is.0, ap is_code_segment code-is.1 ∙ is_code)

    pub code-whole : p.filesz ≡ p.memsz
    code-whole =
        subst (λ (q : Segment). q.filesz ≡ q.memsz) code-is.1
        (stable_equal (segment file code).filesz (segment file code).memsz
        (λ differ. sound ExecSegments (segment_place file code)
        (inl (inr (inr (code, code-is.0, ((is_code-file, inr differ), refl)))))))

    pub code-unwritable : has_flag PF_W p ≡ false
    code-unwritable = cases (has_flag PF_W p) refl
      where
        cases : (b : Bool) → has_flag PF_W p ≡ b → has_flag PF_W p ≡ false
        cases false e = e
        cases true e = absurd (sound WritableCode (segment_place file code)
            (code, code-is.0, ((is_code-file, ap (has_flag PF_W) code-is.1 ∙ e), refl)))

    -- none of another index is lower, or as low and before it
    lowest : (j : ℕ) → IsCode file j → j < e_phnum file →
        ((segment file code).vaddr < (segment file j).vaddr) ⊎ (((segment file code).vaddr ≡ (segment file j).vaddr) × (code ≤ j))
    lowest j (below, is) also =
        cases (cases_lt (segment file j).vaddr p.vaddr) (cases_lt p.vaddr (segment file j).vaddr) (cases_lt j code)
      where
        inside : j < length ps
        inside = let n = length-segments_of file in omega arith

        here : get_or ps j p ≡ segment file j
        here = (get_or-segments file j p inside).1

        code_place : (segment file code).vaddr ≡ p.vaddr
        code_place = ap (λ (q : Segment). q.vaddr) code-is.1

        lowest_of : ℕ → Bool
        lowest_of low = not (list_any (λ q. is_code_segment q && nat_lt q.vaddr low) ps)

        passes : lowest_of p.vaddr ≡ true
        passes = (and_parts (is_code_segment p) (is_lowest ps p) first.passes).1

        none_lower : (segment file j).vaddr < p.vaddr → ⊥
        none_lower low =
            let lower : (is_code_segment (segment file j) && nat_lt (segment file j).vaddr p.vaddr) ≡ true =
            and_from (is_code_segment (segment file j)) (nat_lt (segment file j).vaddr p.vaddr) is
            (lt-ltb (segment file j).vaddr p.vaddr low) in
            let some : list_any (λ q. is_code_segment q && nat_lt q.vaddr p.vaddr) ps ≡ true =
            list_any_at (λ q. is_code_segment q && nat_lt q.vaddr p.vaddr) ps j p inside
            (ap (λ (q : Segment). is_code_segment q && nat_lt q.vaddr p.vaddr) here ∙ lower) in
            let differ : false ≡ true = ap not (sym some) ∙ passes in
            absurd (cc)

        not_before : (segment file j).vaddr ≡ p.vaddr → j < code → ⊥
        not_before same before =
            let at : 0 + j ≡ j = omega arith in
            let fails : (is_code_segment (get_or ps j p) && is_lowest ps (get_or ps j p)) ≡ false =
            first.first j p (omega arith) in
            let also_lowest : lowest_of (segment file j).vaddr ≡ true = ap lowest_of same ∙ passes in
            let holds : (is_code_segment (segment file j) && is_lowest ps (segment file j)) ≡ true =
            and_from (is_code_segment (segment file j)) (is_lowest ps (segment file j)) is also_lowest in
            let differ : true ≡ false =
            sym holds ∙ ap (λ (q : Segment). is_code_segment q && is_lowest ps q) (sym here) ∙ fails in
            absurd (cc)

        cases : ((segment file j).vaddr < p.vaddr) ⊎ (p.vaddr ≤ (segment file j).vaddr) → (p.vaddr < (segment file j).vaddr)
            ⊎ ((segment file j).vaddr ≤ p.vaddr) → (j < code) ⊎ (code ≤ j) → ((segment file code).vaddr < (segment file j).vaddr)
            ⊎ (((segment file code).vaddr ≡ (segment file j).vaddr) × (code ≤ j))
        cases (inl low) other order = absurd (none_lower low)
        cases (inr from) (inl above) order = inl (omega (arith, code_place))
        cases (inr from) (inr under) (inl before) = absurd (not_before (omega arith) before)
        cases (inr from) (inr under) (inr order) = inr (omega (arith, code_place), order)

    is_lowest-code : IsLowestCode file code
    is_lowest-code = (is_code-file, lowest)

    -- nothing crosses its end in the file
    pub crosses_not : (q : Segment) → Contains ps q → q.offset < p.offset + p.filesz → q.offset + q.filesz ≤ p.offset + p.filesz
    crosses_not q (i, below, is) before = cases (cases_lt (p.offset + p.filesz) (q.offset + q.filesz))
      where
        q_is : (i < e_phnum file) × (segment file i ≡ q)
        q_is = header-is i q below is

        cases : (p.offset + p.filesz < q.offset + q.filesz) ⊎ (q.offset + q.filesz ≤ p.offset + p.filesz) →
            q.offset + q.filesz ≤ p.offset + p.filesz
        cases (inr within) = within
        cases (inl past) =
            absurd
            (sound ExecSegments (segment_place file i)
            (inr (inr (inl (inl (
              i,
              q_is.0,
              (
                (
                  code,
                  is_lowest-code,
                  subst (λ (x : Segment). (segment file i).offset < x.offset + x.filesz) (sym code-is.1)
                      (subst (λ (x : Segment). x.offset < p.offset + p.filesz) (sym q_is.1) before),
                  subst (λ (x : Segment). x.offset + x.filesz < (segment file i).offset + (segment file i).filesz) (sym code-is.1)
                      (subst (λ (x : Segment). p.offset + p.filesz < x.offset + x.filesz) (sym q_is.1) past),
                ),
                refl,
              ),
            ))))))

    pub table_crosses_not : e_phoff file < p.offset + p.filesz → e_phoff file + PHDR_SIZE * e_phnum file ≤ p.offset + p.filesz
    table_crosses_not before = cases (cases_lt (p.offset + p.filesz) (e_phoff file + PHDR_SIZE * e_phnum file))
      where
        cases : (p.offset + p.filesz < e_phoff file + PHDR_SIZE * e_phnum file)
            ⊎ (e_phoff file + PHDR_SIZE * e_phnum file ≤ p.offset + p.filesz) →
            e_phoff file + PHDR_SIZE * e_phnum file ≤ p.offset + p.filesz
        cases (inr within) = within
        cases (inl past) =
            absurd
            (sound ExecSegments (e_phoff file)
            (inr (inr (inl (inr (
              (
                code,
                is_lowest-code,
                subst (λ (x : Segment). e_phoff file < x.offset + x.filesz) (sym code-is.1) before,
                subst (λ (x : Segment). x.offset + x.filesz < e_phoff file + PHDR_SIZE * e_phnum file) (sym code-is.1) past,
              ),
              refl,
            ))))))
