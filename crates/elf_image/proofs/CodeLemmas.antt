-- The executable segments, in the order of their table.
use Rattle.std.proofs.Common.{◌≡◌, ◌∙◌, sym, ap, subst, refl, ℕ, ◌+◌, ◌≤◌, ◌<◌, inl, inr, ◌↔◌, IsTrue, List, Option, Some, rules}
use Rattle.std.proofs.Common.{None, IfSome, IfNone, Any, nat_eq, codes, is_some, Bool, true, false, not, arith}
use Rattle.std.specs.List.{starts_with}
use Rattle.std.proofs.lemmas.Option.{slice_get_cases}
use Rattle.elf_image.specs.declared.section.Section.{Section}
use Rattle.elf_image.specs.declared.segment.Segment.{Segment}
use Rattle.elf_image.specs.file.Header.{segment, segment_place, e_phnum, e_shnum}
use Rattle.elf_image.specs.faults.SegmentLayout.{IsCode, IsSecondCode, IsTooMany, IsOneTooMany, IsLowestCode, IsLowestCodeBelow}
use Rattle.elf_image.specs.faults.SegmentLayout.{HasOldSection, IsCrossed, CrossesEnd}
use Rattle.elf_image.specs.faults.LowestPlace.{IsLowest, SomeBelow}
use Rattle.elf_image.specs.file.ParsedFile.{AreSections}
use Rattle.elf_image.specs.file.Sections.{section_name}
use Rattle.elf_image.proofs.LowestPlaces.{IsLowest-same, IsLowest-none}
use Rattle.elf_image.proofs.SectionLemmas.{section-at}

-- The second executable segment is the next one after the first.
pub IsSecondCode-next : (file : List ℕ) (first i : ℕ) → IsCode file first → ((k : ℕ) → IsCode file k → 0 ≤ k → first ≤ k) →
    IsCode file i → first + 1 ≤ i → ((k : ℕ) → IsCode file k → first + 1 ≤ k → i ≤ k) → IsSecondCode file i
IsSecondCode-next file first i code lowest code_i past next = search rules

-- There is at most one second executable segment.
earlier_second : (file : List ℕ) (i k : ℕ) → IsSecondCode file i → IsSecondCode file k → i < k → ⊥
earlier_second file i k (code, (j, code_j, before, only)) (code_k, (m, code_m, before_m, only_m)) less = search rules

second_only : (file : List ℕ) (i k : ℕ) → IsSecondCode file i → IsSecondCode file k → i ≡ k
second_only file i k one other = search (rules, earlier_second)

pub IsLowest-second : (file : List ℕ) (second : ℕ) (o : Option ℕ) → IsSecondCode file second →
    IsLowest (λ p. IsTooMany file second × (p ≡ segment_place file second)) o →
    IsLowest (SomeBelow (e_phnum file) (IsOneTooMany file)) o
IsLowest-second file second o is lowest =
    IsLowest-same o
    (λ p (many, at). (second, (is.0).0, ((is, many), at)))
    (λ p (i, below, ((other, many), at)).
    let same = second_only file i second other is in
    let Here : ℕ → Type 0 = λ k. IsTooMany file k × (p ≡ segment_place file k) in
    subst Here same (many, at))
    lowest

-- Whether a section was renamed.
pub HasOldSection-same : (file : List ℕ) (sections : List Section) → AreSections file (e_shnum file) sections →
    Any (λ s. IsTrue (starts_with nat_eq s.name.now (codes ".old."))) sections ↔ HasOldSection file
HasOldSection-same file sections are = (
  (λ (k, s, within, is, old).
      let at = section-at file _ sections k s are within in
      let count = are.count_is in
      let name : s.name.now ≡ section_name file k = ap (λ (t : Section). t.name.now) (sym is) ∙ at.name in
      (k, omega arith, ap (λ (n : List ℕ). starts_with nat_eq n (codes ".old.")) (sym name) ∙ old)),
  (λ (i, below, old).
      let count = are.count_is in
      elim (slice_get_cases sections i).1 [
        | inl (s, within, is, there) ↦ (
          i,
          s,
          within,
          there,
          let at = are.each i s is in ap (λ (n : List ℕ). starts_with nat_eq n (codes ".old.")) at.name ∙ old,
        )
        | inr past ↦ absurd (let far = past.0 in omega arith)
      ]),
)

pub IfSome-second : (file : List ℕ) (first : ℕ) (o : Option ℕ) → IsCode file first →
    ((k : ℕ) → IsCode file k → 0 ≤ k → first ≤ k) →
    IfSome o (IsCode file) → IfSome o (λ i. first + 1 ≤ i) → IfSome o (λ i. (k : ℕ) → IsCode file k → first + 1 ≤ k → i ≤ k) →
    IfSome o (IsSecondCode file)
IfSome-second file first None code lowest code_i past next = code_i
IfSome-second file first (Some i) code lowest code_i past next = IsSecondCode-next file first i code lowest code_i past next

-- Whether a segment from an index on is executable.
pub has_code-same : (file : List ℕ) (from : ℕ) (o : Option ℕ) → IfSome o (IsCode file) → IfSome o (λ i. from ≤ i) →
    IfNone o ((k : ℕ) → IsCode file k → from ≤ k → ⊥) → IsTrue (is_some o) ↔ ((k : ℕ) × IsCode file k × (from ≤ k))
has_code-same file from None code past none =
    ((λ is. absurd (let never : false ≡ true = is in cc)), (λ (k, code_k, above). absurd (none k code_k above)))
has_code-same file from (Some i) code past none = ((λ _. (i, code, past)), (λ _. refl))

-- One segment too many, by two tests.
pub IsTooMany-old : (file : List ℕ) (second : ℕ) (old : Bool) → (((k : ℕ) × IsCode file k × (second + 1 ≤ k)) → ⊥) →
    IsTrue old ↔ HasOldSection file → IsTrue (not old) ↔ IsTooMany file second
IsTooMany-old file second true none test = search rules
IsTooMany-old file second false none test = ((λ _. inr (λ is. let never : false ≡ true = test.1 is in cc)), (λ _. refl))

pub IsTooMany-more : (file : List ℕ) (second : ℕ) (more : Bool) → IsTrue more → ((k : ℕ) × IsCode file k × (second + 1 ≤ k)) →
    IsTrue more ↔ IsTooMany file second
IsTooMany-more file second more is (k, code, above) = ((λ _. inl (k, code, omega arith)), (λ _. is))

-- The lowest executable segment among the first ones.

pub IsLowestCodeBelow-begin : (file : List ℕ) (first : ℕ) → IsCode file first → ((k : ℕ) → IsCode file k → first ≤ k) →
    IsLowestCodeBelow file first first
IsLowestCodeBelow-begin file first code lowest = (code, λ j code_j below. absurd (let from = lowest j code_j in omega arith))

pub IsLowestCodeBelow-lower : (file : List ℕ) (k i : ℕ) → IsCode file k → (segment file k).vaddr < (segment file i).vaddr →
    IsLowestCodeBelow file k i → IsLowestCodeBelow file (k + 1) k
IsLowestCodeBelow-lower file k i code lower is = search (rules, segment)

pub IsLowestCodeBelow-same : (file : List ℕ) (k i : ℕ) → (IsCode file k × ((segment file k).vaddr < (segment file i).vaddr) → ⊥) →
    i ≤ k → IsLowestCodeBelow file k i → IsLowestCodeBelow file (k + 1) i
IsLowestCodeBelow-same file k i higher order is = search (rules, segment)

pub IsLowestCodeBelow-all : (file : List ℕ) (n i : ℕ) → e_phnum file ≤ n → IsLowestCodeBelow file n i → IsLowestCode file i
IsLowestCodeBelow-all file n i all is = (is.0, λ j code_j below. is.1 j code_j (omega arith))

-- If no segment is executable, nothing crosses the end of one.
pub crosses_nothing : (file : List ℕ) → ((i : ℕ) → IsCode file i → ⊥) → IsLowest (IsCrossed file) None
crosses_nothing file none = search (rules, IsLowest-none)

-- There is only one lowest executable segment.
lowest_code_same : (file : List ℕ) (c d : ℕ) → IsLowestCode file c → IsLowestCode file d → c ≡ d
lowest_code_same file c d (code_c, least_c) (code_d, least_d) = search rules

-- Whether a range crosses the end of the lowest executable segment.
pub CrossesEnd-of : (file : List ℕ) (code offset size : ℕ) (p : Segment) (crosses : Bool) → IsLowestCode file code →
    p ≡ segment file code →
    IsTrue crosses ↔ ((offset < p.offset + p.filesz) × (p.offset + p.filesz < offset + size)) →
    IsTrue crosses ↔ CrossesEnd file offset size
CrossesEnd-of file code offset size p crosses lowest same test = search (rules, segment, lowest_code_same)
