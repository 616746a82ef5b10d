-- Ranges that are extended to the greatest end of the ranges up to each.
use Rattle.std.proofs.Common.{◌≡◌, ◌≢◌, Bool, IsTrue, ◌∙◌, sym, ap, subst, refl, ℕ, ◌+◌, ◌-◌, ◌≤◌, ◌<◌, inl, inr, ⊎_elim, ◌↔◌, rules}
use Rattle.std.proofs.Common.{List, [], ◌∷◌, ◌++◌, length, get_or, length-append, arith}
use Rattle.std.specs.List.Sorted.{IsNonDecreasingBy, IsPermutation}
use Rattle.std.proofs.lemmas.Bool.{cases_lt, and_parts}
use Rattle.std.proofs.lemmas.List.{get_or_default, get_or_append_left, get_or-append_right}
use Rattle.std.proofs.lemmas.List.Elements.{Contains-get_or}
use Rattle.std.proofs.lemmas.List.Sorted.{Contains-permutation, IsPermutation-sym}
use Rattle.elf_image.specs.declared.extent.Extent.{Extent}
use Rattle.elf_image.specs.declared.section.SectionHeader.{SectionHeader}
use Rattle.elf_image.specs.declared.segment.TheConstants.{PF_X}
use Rattle.elf_image.specs.file.Header.{e_phnum, segment, segment_place}
use Rattle.elf_image.specs.memory.Image.{is_load, has_flag, end_of}
use Rattle.elf_image.specs.faults.SegmentLayout.{LiesInCode}
use Rattle.elf_image.specs.file.Sections.{holds_code}
use Rattle.elf_image.specs.internal.SegmentExtents.{AreExtents, IsCodeExtent}
use Rattle.elf_image.specs.internal.Extents.{IsReach, IsInOneExtent}

-- The first n ranges, extended.
pub record AreReaches (extents reaches : List Extent) (n : ℕ) : Type 0 where
  pub count : length reaches ≡ n
  pub start : (k : ℕ) (d : Extent) → k < n → (get_or reaches k d).start ≡ (get_or extents k d).start
  pub reach : (k : ℕ) (d : Extent) → k < n → IsReach extents (k + 1) (get_or reaches k d).end

pub AreReaches-more : (extents old new : List Extent) (n : ℕ) (t e : Extent) → n < length extents →
    t.start ≡ (get_or extents n e).start → IsReach extents (n + 1) t.end → new ≡ old ++ t ∷ [] → AreReaches extents old n →
    AreReaches extents new (n + 1)
AreReaches-more extents old new n t e within start reach is are =
    let count = are.count in
    let old_at : (k : ℕ) (d : Extent) → k < n → get_or new k d ≡ get_or old k d =
    λ k d below. ap (λ (xs : List Extent). get_or xs k d) is ∙ get_or_append_left old (t ∷ []) d k (omega arith) in
    let last_at : (k : ℕ) (d : Extent) → k ≡ n → get_or new k d ≡ t =
    λ k d same. ap (λ (xs : List Extent). get_or xs k d) is
    ∙ (get_or-append_right old (t ∷ []) n k d count (omega arith)
    ∙ ap (λ (j : ℕ). get_or (t ∷ []) j d) (let zero_left : k - n ≡ 0 = omega arith in zero_left)) in
    record {
      count = ap length is ∙ (length-append old (t ∷ []) ∙ omega arith);
      start = λ k d below. elim (cases_lt k n) [
        | inl earlier ↦ ap (λ (s : Extent). s.start) (old_at k d earlier) ∙ are.start k d earlier
        | inr last ↦ let same : k ≡ n = omega arith in
            ap (λ (s : Extent). s.start) (last_at k d same)
            ∙ (start ∙ ap (λ (s : Extent). s.start)
            (get_or_default extents n e d within ∙ ap (λ (j : ℕ). get_or extents j d) (sym same)))
      ];
      reach = λ k d below. elim (cases_lt k n) [
        | inl earlier ↦
            subst (IsReach extents (k + 1)) (ap (λ (s : Extent). s.end) (sym (old_at k d earlier))) (are.reach k d earlier)
        | inr last ↦ let same : k ≡ n = omega arith in
            let Reach : ℕ → Type 0 = λ j. IsReach extents (j + 1) (get_or new k d).end in
            subst Reach (sym same) (subst (IsReach extents (n + 1)) (ap (λ (s : Extent). s.end) (sym (last_at k d same))) reach)
      ];
    }

pub AreReaches-growing : (extents reaches : List Extent) (n : ℕ) → AreReaches extents reaches n →
    IsNonDecreasingBy (λ s. s.end) reaches
AreReaches-growing extents reaches n are i j d before within =
    let count = are.count in
    let here = are.reach i d (omega arith) in
    let there = are.reach j d (omega arith) in
    ⊎_elim (λ (none : (get_or reaches i d).end ≡ 0). omega arith)
    (λ (m, below, end). let far = there.above m d (omega arith) in let same = end d in omega arith) here.reached

-- What an extended range contains, a given range contains.
pub IsCovered-from_reaches : (extents reaches : List Extent) (n a e : ℕ) → n ≡ length extents →
    IsNonDecreasingBy (λ s. s.start) extents → AreReaches extents reaches n → a < e → IsInOneExtent reaches a e →
    IsInOneExtent extents a e
IsCovered-from_reaches extents reaches n a e all rising are some (s, (k, within, is), low, high) =
    let count = are.count in
    let start = are.start k s (omega arith) in
    let at_start = ap (λ (r : Extent). r.start) is in
    let at_end = ap (λ (r : Extent). r.end) is in
    ⊎_elim
    (λ (none : (get_or reaches k s).end ≡ 0). absurd (omega arith))
    (λ (m, below, end). let order = rising m k s (omega arith) (omega arith) in let same = end s in
    (get_or extents m s, Contains-get_or extents m s (omega arith), omega arith, omega arith))
    (are.reach k s (omega arith)).reached

pub IsCovered-to_reaches : (extents reaches : List Extent) (n a e : ℕ) → n ≡ length extents → AreReaches extents reaches n →
    IsInOneExtent extents a e → IsInOneExtent reaches a e
IsCovered-to_reaches extents reaches n a e all are (s, (k, within, is), low, high) = search (rules, get_or, Contains-get_or)

-- If the last range that starts at or below a number contains all numbers up to an end, some range does.
pub IsCovered-from_last : (extents : List Extent) (a e i : ℕ) (d : Extent) → i < length extents → (get_or extents i d).start ≤ a →
    e ≤ (get_or extents i d).end → IsInOneExtent extents a e
IsCovered-from_last extents a e i d within low high = (get_or extents i d, Contains-get_or extents i d within, low, high)

pub IsCovered-by_last : (extents : List Extent) (a e below : ℕ) (d : Extent) → IsNonDecreasingBy (λ s. s.end) extents →
    ((k : ℕ) (f : Extent) → below ≤ k → k < length extents → a < (get_or extents k f).start) →
    IsInOneExtent extents a e → (0 < below)
    × (below ≤ length extents → e ≤ (get_or extents (below - 1) d).end)
IsCovered-by_last extents a e below d growing above (s, (k, within, is), low, high) =
    let at_start = ap (λ (r : Extent). r.start) is in
    let at_end = ap (λ (r : Extent). r.end) (get_or_default extents k d s within ∙ is) in
    let under : k < below =
    elim (cases_lt k below) [ inl less ↦ less | inr more ↦ absurd (let far = above k s more within in omega arith) ] in
    (omega arith, λ bound. let order = growing k (below - 1) d (omega arith) (omega arith) in omega arith)

-- The order of ranges doesn't matter.
pub IsCovered-permutation : (xs ys : List Extent) (a e : ℕ) → IsPermutation xs ys → IsInOneExtent xs a e → IsInOneExtent ys a e
IsCovered-permutation xs ys a e order (s, is_in, low, high) = (s, Contains-permutation xs ys s order is_in, low, high)

-- The ranges of executable segments.
LiesInCode-from_extents : (file : List ℕ) (extents : List Extent) (a e : ℕ) →
    AreExtents (IsCodeExtent file) (e_phnum file) extents → IsInOneExtent extents a e → LiesInCode file a e
LiesInCode-from_extents file extents a e are (s, is_in, low, high) =
    let of = are.each s is_in in
    let is = of.2 in
    let extent = is.1 in
    let start = extent.1 in
    let end = extent.2 in
    (of.0, (of.1, is.0), omega arith, omega arith)

LiesInCode-to_extents : (file : List ℕ) (extents : List Extent) (a e : ℕ) →
    AreExtents (IsCodeExtent file) (e_phnum file) extents → a < e → LiesInCode file a e → IsInOneExtent extents a e
LiesInCode-to_extents file extents a e are some (j, (below, code), low, high) =
    let p = segment file j in
    let s : Extent = record { start = p.vaddr; end = end_of p; place = segment_place file j } in
    (s, are.all j s below (code, ((and_parts (is_load p) (has_flag PF_X p) code).0, refl, refl, omega arith, refl)), low, high)

-- Numbers covered by extended ranges are in an executable segment.
pub IsCovered-in_code : (file : List ℕ) (extents sorted reaches : List Extent) →
    AreExtents (IsCodeExtent file) (e_phnum file) extents →
    IsPermutation extents sorted →
    ((a e : ℕ) → a < e → IsInOneExtent reaches a e ↔ IsInOneExtent sorted a e) → (a e : ℕ) → a < e →
    IsInOneExtent reaches a e ↔ LiesInCode file a e
IsCovered-in_code file extents sorted reaches are order same a e some = (
  (λ covered. LiesInCode-from_extents file extents a e are
      (IsCovered-permutation sorted extents a e (IsPermutation-sym extents sorted order) ((same a e some).0 covered))),
  (λ lies. (same a e some).1
      (IsCovered-permutation extents sorted a e order (LiesInCode-to_extents file extents a e are some lies))),
)

-- A section that is in no range.
pub IsStray-same : (file : List ℕ) (reaches : List Extent) (s : SectionHeader) (stray : Bool) →
    ((a e : ℕ) → a < e → IsInOneExtent reaches a e ↔ LiesInCode file a e) →
    IsTrue stray ↔ (IsTrue (holds_code s.flags) × (s.size ≢ 0) × (IsInOneExtent reaches s.addr (s.addr + s.size) → ⊥)) →
    IsTrue stray ↔ (IsTrue (holds_code s.flags) × (s.size ≢ 0) × (LiesInCode file s.addr (s.addr + s.size) → ⊥))
IsStray-same file reaches s stray same test = (
  (λ is.
      let (code, some, outside) = test.0 is in
      (code, some, λ lies. outside ((same s.addr (s.addr + s.size) (omega arith)).1 lies))),
  (λ (code, some, outside). test.1 (code, some, λ covered. outside ((same s.addr (s.addr + s.size) (omega arith)).0 covered))),
)
