-- Merging of two lists of runs.
use Rattle.std.proofs.Common.{◌≡◌, ◌∙◌, ap, sym, subst, ℕ, ◌+◌, ◌-◌, ◌≤◌, List, [], ◌∷◌, ◌++◌, arith, length, length-append, append-nil}
use Rattle.std.proofs.Common.{refl}
use Rattle.std.specs.List.Sorted.{IsPermutation}
use Rattle.std.proofs.lemmas.Grind.{flat_map-append}
use Rattle.std.proofs.lemmas.List.Concat.{flat_map-cons}
use Rattle.elf_image.specs.declared.section.Section.{Section}
use Rattle.elf_code.specs.Relocations.{Relocation}
use Rattle.rv_reloc.specs.declared.entry_run.EntryRun.{EntryRun}
use Rattle.rv_reloc.specs.AppliesTo.{sections_of, last_start, first_end, later_start, sooner_end, joined}
use Rattle.rv_reloc.specs.EntryRuns.{run_entries, entries, all_entries, IsPart, IsCommon, IsWholeRun, AreWholeRuns}
use Rattle.rv_reloc.specs.Thinned.{IsThinned}
use Rattle.rv_reloc.proofs.EntrySpans.{span, spans, part-spans, split-two, split-three}
use Rattle.rv_reloc.proofs.SectionBounds.{AreInOrder, has_one, joined-bounds, bounds-thinned}
use Rattle.rv_reloc.proofs.Thinning.{thinned-all, thinned-append, thinned-common, thinned-done, thinned-swapped, thinned-trans}

-- Two runs of which the second starts inside the first, up to the end of the shorter one.
module _ (file : List ℕ) (run next before common behind behind' : EntryRun) (end : ℕ)
    (part : IsPart run run.first next.first before) (both : IsCommon run next next.first end common)
    (part' : IsPart run end run.end behind) (part'' : IsPart next end next.end behind') (phase : run.phase ≡ next.phase)
    (from : run.first ≤ next.first) (within : next.first ≤ end) (to : end ≤ run.end) (to' : end ≤ next.end)
    (of_run : AreInOrder run.applies_to) (of_next : AreInOrder next.applies_to) where
  abbrev mine : List Section
  mine = sections_of run.applies_to

  abbrev other : List Section
  other = sections_of next.applies_to

  abbrev shared : List Section → List Relocation
  shared sections = spans file sections run.phase next.first (end - next.first)

  parts : IsPermutation (run_entries file run) (run_entries file before ++ (shared mine ++ run_entries file behind))
  parts =
      subst (λ (xs : List Relocation). IsPermutation (run_entries file run) (xs ++ (shared mine ++ run_entries file behind)))
      (sym (part-spans file mine run.phase run.first next.first before part.sections_are part.phase_is part.first_is part.end_is))
      (subst (λ (xs : List Relocation). IsPermutation (run_entries file run)
      (spans file mine run.phase run.first (next.first - run.first) ++ (shared mine ++ xs)))
      (sym (part-spans file mine run.phase end run.end behind part'.sections_are part'.phase_is part'.first_is part'.end_is))
      (split-three file mine run.phase run.first next.first end run.end from within to))

  parts' : IsPermutation (run_entries file next) (shared other ++ run_entries file behind')
  parts' =
      subst (λ (xs : List Relocation). IsPermutation (run_entries file next) (shared other ++ xs))
      (sym (part-spans file other next.phase end next.end behind' part''.sections_are part''.phase_is part''.first_is part''.end_is))
      (subst (λ (p : ℕ). IsPermutation (run_entries file next)
      (spans file other p next.first (end - next.first) ++ spans file other next.phase end (next.end - end))) (sym phase)
      (split-two file other next.phase next.first end next.end within to'))

  thinned : IsThinned (shared mine ++ shared other) (run_entries file common)
  thinned =
      let two : 2 ≤ length (mine ++ other) =
      let sum = length-append mine other in
      let one = has_one run.applies_to in
      let one' = has_one next.applies_to in omega (arith, sum, one, one') in
      subst (λ (xs : List Relocation). IsThinned xs (run_entries file common))
      (flat_map-append (span file run.phase next.first (end - next.first)) mine other)
      (subst (λ (xs : List Relocation). IsThinned (shared (mine ++ other)) xs)
      (sym (part-spans file (joined run.applies_to next.applies_to) run.phase next.first end common both.sections_are both.phase_is
      both.first_is both.end_is))
      (bounds-thinned file run.phase next.first (end - next.first) (mine ++ other)
      (later_start (last_start run.applies_to) (last_start next.applies_to))
      (sooner_end (first_end run.applies_to) (first_end next.applies_to))
      (joined-bounds run.applies_to next.applies_to of_run of_next) two))

  -- The part before the second run and the common part are done, and the rest is left.
  pub common-merged : (was mid now left left' right right' : List EntryRun) →
      entries file mid ≡ entries file was ++ run_entries file before →
      entries file now ≡ entries file mid ++ run_entries file common →
      entries file left' ≡ run_entries file behind ++ entries file left →
      entries file right' ≡ run_entries file behind' ++ entries file right →
      IsThinned (all_entries file was (run ∷ left) (next ∷ right)) (all_entries file now left' right')
  common-merged was mid now left left' right right' mid_is now_is left_is right_is =
      let kept = now_is ∙ ap (λ (xs : List Relocation). xs ++ run_entries file common) mid_is in
      let full : all_entries file was (run ∷ left) (next ∷ right)
      ≡ entries file was ++ ((run_entries file run ++ entries file left) ++ (run_entries file next ++ entries file right)) =
      (λ i. entries file was ++ (flat_map-cons (run_entries file) run left i ++ flat_map-cons (run_entries file) next right i)) in
      subst (λ (xs : List Relocation). IsThinned xs (all_entries file now left' right')) (sym full)
      (subst (λ (xs : List Relocation). IsThinned
      (entries file was ++ ((run_entries file run ++ entries file left) ++ (run_entries file next ++ entries file right))) xs)
      (λ i. sym kept i ++ (sym left_is i ++ sym right_is i))
      (thinned-common (entries file was) (run_entries file run) (entries file left) (run_entries file next) (entries file right)
      (run_entries file before) (shared mine) (run_entries file behind) (shared other) (run_entries file behind')
      (run_entries file common) parts parts' thinned))

-- The first run of the left list is done, and the first run of the right list stays.
pub first-merged : (file : List ℕ) (run : EntryRun) (was now left right : List EntryRun) →
    entries file now ≡ entries file was ++ run_entries file run →
    IsThinned (all_entries file was (run ∷ left) right) (all_entries file now left right)
first-merged file run was now left right is =
    subst (λ (xs : List Relocation). IsThinned (entries file was ++ (xs ++ entries file right)) (all_entries file now left right))
    (sym (flat_map-cons (run_entries file) run left))
    (subst (λ (xs : List Relocation). IsThinned (entries file was ++ ((run_entries file run ++ entries file left) ++ entries file right))
    (xs ++ (entries file left ++ entries file right))) (sym is)
    (thinned-done (entries file was) (run_entries file run) (entries file left) (entries file right)))

-- The lists are swapped.
pub swapped-merged : (file : List ℕ) (was now left right left' right' : List EntryRun) →
    IsThinned (all_entries file was right left) (all_entries file now right' left') →
    IsThinned (all_entries file was left right) (all_entries file now left' right')
swapped-merged file was now left right left' right' is =
    thinned-swapped (entries file was) (entries file left) (entries file right) (entries file now) (entries file left')
    (entries file right') is

pub swapped-whole : (size : ℕ) (done left right : List EntryRun) → AreWholeRuns size done right left → AreWholeRuns size done left right
swapped-whole size done left right are =
    record { done_are = are.done_are; left_are = are.right_are; right_are = are.left_are }

-- At first nothing is done, and at last nothing is left.

pub merge-begin : (file : List ℕ) (done left right : List EntryRun) → done ≡ [] →
    IsThinned (entries file left ++ entries file right) (all_entries file done left right)
merge-begin file done left right none =
    subst (λ (runs : List EntryRun). IsThinned (entries file left ++ entries file right) (all_entries file runs left right)) (sym none)
    (thinned-all (entries file left ++ entries file right))

empty : {A : Type 0} (xs : List A) → length xs ≤ 0 → xs ≡ []
empty [] none = refl
empty (x ∷ xs) none = absurd (omega arith)

pub merge-end : (file : List ℕ) (full : List Relocation) (done left right : List EntryRun) →
    length left + length right ≤ 0 → IsThinned full (all_entries file done left right) → IsThinned full (entries file done)
merge-end file full done left right none is =
    let left_is = empty left (omega (arith, none)) in
    let right_is = empty right (omega (arith, none)) in
    subst (IsThinned full) (append-nil (entries file done))
    (subst (λ (rs : List EntryRun). IsThinned full (all_entries file done [] rs)) right_is
    (subst (λ (ls : List EntryRun). IsThinned full (all_entries file done ls right)) left_is is))

-- A list of runs in two parts.
pub merge-parts : (file : List ℕ) (runs first rest left right now : List EntryRun) → runs ≡ first ++ rest →
    IsThinned (entries file first) (entries file left) → IsThinned (entries file rest) (entries file right) →
    IsThinned (entries file left ++ entries file right) (entries file now) → IsThinned (entries file runs) (entries file now)
merge-parts file runs first rest left right now parts is is' both =
    subst (λ (es : List Relocation). IsThinned es (entries file now))
    (sym (ap (entries file) parts ∙ flat_map-append (run_entries file) first rest))
    (thinned-trans (entries file first ++ entries file rest) (entries file left ++ entries file right) (entries file now)
    (thinned-append (entries file first) (entries file left) (entries file rest) (entries file right) is is') both)

-- Runs whose entries are all in a file.

pub whole-part : (size : ℕ) (run part : EntryRun) (first end : ℕ) → IsPart run first end part → end ≤ run.end →
    IsWholeRun size run → IsWholeRun size part
whole-part size run part first end is upto whole =
    let phase_is = is.phase_is in
    let end_is = is.end_is in
    omega (arith, phase_is, end_is, upto, whole)

pub whole-common : (size : ℕ) (run other common : EntryRun) (first end : ℕ) → IsCommon run other first end common → end ≤ run.end →
    IsWholeRun size run → IsWholeRun size common
whole-common size run other common first end is upto whole =
    let phase_is = is.phase_is in
    let end_is = is.end_is in
    omega (arith, phase_is, end_is, upto, whole)
