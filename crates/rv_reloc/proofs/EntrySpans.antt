-- The relocations of runs: the run of a table, lists of runs, and runs in parts.
use Rattle.std.proofs.Common.{◌≡◌, ◌∙◌, ap, sym, refl, ℕ, zero, suc, ◌+◌, ◌-◌, ◌*◌, ◌/◌, ◌%◌, ◌≤◌, ◌<◌, List, [], ◌∷◌, ◌++◌, map}
use Rattle.std.proofs.Common.{arith, Some, None, Option, Bool, true, if◌then◌else◌, subst, length, get_or, take, IfSome, IfNone, append-nil}
use Rattle.std.specs.List.{range_with_len, flat_map, All}
use Rattle.std.specs.List.Sorted.{IsPermutation}
use Rattle.std.specs.Option.{option_to_list}
use Rattle.std.proofs.lemmas.Grind.{flat_map-append}
use Rattle.std.proofs.lemmas.List.{take_more}
use Rattle.std.proofs.lemmas.List.Concat.{flat_map-cons}
use Rattle.std.proofs.lemmas.List.Elements.{All-append, All-nil, All-cons}
use Rattle.std.proofs.lemmas.List.Sorted.{IsPermutation-trans, IsPermutation-append_right}
use Rattle.elf_image.specs.declared.elf.Elf.{Elf}
use Rattle.elf_image.specs.declared.section.Section.{Section}
use Rattle.elf_image.specs.declared.relocation.TheConstants.{RELA_SIZE}
use Rattle.elf_code.specs.Relocations.{Relocation, entries_from, entries_for, entries_of}
use Rattle.rv_reloc.specs.declared.entry_run.EntryRun.{EntryRun}
use Rattle.rv_reloc.specs.AppliesTo.{sections_of}
use Rattle.rv_reloc.specs.EntryRuns.{entry, numbered, run_entries, entries}
use Rattle.rv_reloc.specs.Records.{counts}
use Rattle.rv_reloc.proofs.Thinning.{moved-parts}

-- The relocations with some numbers, for one section and for several.

abbrev pub span : List ℕ → ℕ → ℕ → ℕ → Section → List Relocation
span file phase a n s = map (entry file phase s) (range_with_len a n)

abbrev pub spans : List ℕ → List Section → ℕ → ℕ → ℕ → List Relocation
spans file sections phase a n = flat_map (span file phase a n) sections

-- The relocations of a run for one section, and for two.

pub one-section : (file : List ℕ) (run : EntryRun) (s : Section) → sections_of run.applies_to ≡ s ∷ [] →
    run_entries file run ≡ numbered file run s
one-section file run s one =
    ap (flat_map (numbered file run)) one ∙ flat_map-cons (numbered file run) s [] ∙ append-nil (numbered file run s)

pub two-sections : (file : List ℕ) (run : EntryRun) (s t : Section) → sections_of run.applies_to ≡ s ∷ t ∷ [] →
    run_entries file run ≡ numbered file run s ++ numbered file run t
two-sections file run s t two =
    ap (flat_map (numbered file run)) two ∙ flat_map-cons (numbered file run) s (t ∷ [])
    ∙ ap (λ (es : List Relocation). numbered file run s ++ es)
    (flat_map-cons (numbered file run) t [] ∙ append-nil (numbered file run t))

-- A table.

pub entries-numbered : (file : List ℕ) (section : Section) (phase a n : ℕ) →
    entries_from file section (phase + RELA_SIZE * a) n ≡ span file phase a n section
unfolding entries_from
entries-numbered file section phase a zero = refl
entries-numbered file section phase a (suc n) =
    let next : phase + RELA_SIZE * a + RELA_SIZE ≡ phase + RELA_SIZE * (a + 1) = omega arith in
    ap (λ (o : ℕ). entry file phase section a ∷ entries_from file section o n) next
    ∙ ap (λ (rest : List Relocation). entry file phase section a ∷ rest) (entries-numbered file section phase (a + 1) n)

-- The run of a table that counts.
pub run-entries : (elf : Elf) (table section : Section) → counts section ≡ true →
    let first = table.offset / RELA_SIZE in let many = table.size / RELA_SIZE in
    spans elf.file.now (section ∷ []) (table.offset % RELA_SIZE) first (first + many - first) ≡ entries_for elf table section
run-entries elf table section counted =
    let file = elf.file.now in
    let phase = table.offset % RELA_SIZE in
    let first = table.offset / RELA_SIZE in
    let many = table.size / RELA_SIZE in
    let place : phase + RELA_SIZE * first ≡ table.offset = omega arith in
    let same : first + many - first ≡ many = omega arith in
    flat_map-cons (span file phase first (first + many - first)) section []
    ∙ append-nil (span file phase first (first + many - first) section)
    ∙ ap (λ (n : ℕ). span file phase first n section) same
    ∙ sym (entries-numbered file section phase first many)
    ∙ ap (λ (o : ℕ). entries_from file section o many) place
    ∙ sym (ap (λ (b : Bool). if b then entries_from file section table.offset many else []) counted)

-- One more table, with a run if it counts.
pub runs-more : (elf : Elf) (was now : List EntryRun) (sections : List Section) (i : ℕ) (d : Section) (item : Option EntryRun) →
    i < length sections → now ≡ was ++ option_to_list item →
    IfSome item (λ run. run_entries elf.file.now run ≡ entries_of elf (get_or sections i d)) →
    IfNone item (entries_of elf (get_or sections i d) ≡ []) →
    entries elf.file.now was ≡ flat_map (entries_of elf) (take i sections) →
    entries elf.file.now now ≡ flat_map (entries_of elf) (take (i + 1) sections)
runs-more elf was now sections i d item within is some none same =
    ap (entries elf.file.now) is ∙ flat_map-append (run_entries elf.file.now) was (option_to_list item)
    ∙ ap (λ (es : List Relocation). es ++ entries elf.file.now (option_to_list item)) same
    ∙ ap (λ (es : List Relocation). flat_map (entries_of elf) (take i sections) ++ es) (one item some none)
    ∙ sym (flat_map-append (entries_of elf) (take i sections) (get_or sections i d ∷ []))
    ∙ ap (flat_map (entries_of elf)) (sym (take_more sections i d within))
  where
    one : (item : Option EntryRun) → IfSome item (λ run. run_entries elf.file.now run ≡ entries_of elf (get_or sections i d)) →
        IfNone item (entries_of elf (get_or sections i d) ≡ []) →
        entries elf.file.now (option_to_list item) ≡ flat_map (entries_of elf) (get_or sections i d ∷ [])
    one None some none =
        sym (flat_map-cons (entries_of elf) (get_or sections i d) [] ∙ append-nil (entries_of elf (get_or sections i d)) ∙ none)
    one (Some run) some none =
        flat_map-cons (run_entries elf.file.now) run [] ∙ append-nil (run_entries elf.file.now run) ∙ some
        ∙ sym (flat_map-cons (entries_of elf) (get_or sections i d) [] ∙ append-nil (entries_of elf (get_or sections i d)))

pub whole-more : {A : Type 0} (P : A → Type 0) (was now : List A) (item : Option A) → now ≡ was ++ option_to_list item →
    IfSome item P → All P was → All P now
whole-more {A} P was now item is some all =
    subst (λ (xs : List A). All P xs) (sym is) (All-append P was (option_to_list item) all (one item some))
  where
    one : (item : Option A) → IfSome item P → All P (option_to_list item)
    one None some = All-nil P
    one (Some x) some = All-cons P x [] some (All-nil P)

-- Lists of runs.

pub run-last : (file : List ℕ) (runs now : List EntryRun) (run : EntryRun) → now ≡ runs ++ run ∷ [] →
    entries file now ≡ entries file runs ++ run_entries file run
run-last file runs now run is =
    ap (entries file) is ∙ flat_map-append (run_entries file) runs (run ∷ [])
    ∙ ap (λ (es : List Relocation). entries file runs ++ es)
    (flat_map-cons (run_entries file) run [] ∙ append-nil (run_entries file run))

pub span-next : (file : List ℕ) (phase a end : ℕ) (s : Section) → a < end →
    span file phase a (end - a) s ≡ entry file phase s a ∷ span file phase (a + 1) (end - (a + 1)) s
span-next file phase a end s below =
    let more : end - a ≡ suc (end - (a + 1)) = omega (arith, below) in ap (λ (n : ℕ). span file phase a n s) more

pub span-none : (file : List ℕ) (phase a n : ℕ) (s : Section) → n ≡ 0 → span file phase a n s ≡ []
span-none file phase a n s none = ap (λ (k : ℕ). span file phase a k s) none

-- One more run.
pub entries-next : (file : List ℕ) (runs : List EntryRun) (i : ℕ) (d : EntryRun) → i < length runs →
    entries file (take (i + 1) runs) ≡ entries file (take i runs) ++ run_entries file (get_or runs i d)
entries-next file runs i d within = run-last file (take i runs) (take (i + 1) runs) (get_or runs i d) (take_more runs i d within)

-- Parts of runs.

span-split : (file : List ℕ) (phase a n m : ℕ) (s : Section) →
    span file phase a (n + m) s ≡ span file phase a n s ++ span file phase (a + n) m s
span-split file phase a zero m s =
    let none : 0 + m ≡ m = omega arith in
    let same : a ≡ a + 0 = omega arith in
    ap (λ (n : ℕ). span file phase a n s) none ∙ ap (λ (b : ℕ). span file phase b m s) same
span-split file phase a (suc n) m s =
    let more : suc n + m ≡ suc (n + m) = omega arith in
    let after : a + 1 + n ≡ a + suc n = omega arith in
    ap (λ (n : ℕ). span file phase a n s) more
    ∙ ap (λ (rest : List Relocation). entry file phase s a ∷ rest) (span-split file phase (a + 1) n m s
    ∙ ap (λ (b : ℕ). span file phase (a + 1) n s ++ span file phase b m s) after)

spans-split : (file : List ℕ) (sections : List Section) (phase a n m : ℕ) →
    IsPermutation (spans file sections phase a (n + m)) (spans file sections phase a n ++ spans file sections phase (a + n) m)
spans-split file sections phase a n m =
    let same : span file phase a (n + m) ≡ (λ s. span file phase a n s ++ span file phase (a + n) m s) =
    λ i s. span-split file phase a n m s i in
    subst (λ (f : Section → List Relocation).
    IsPermutation (flat_map f sections) (spans file sections phase a n ++ spans file sections phase (a + n) m)) (sym same)
    (moved-parts (span file phase a n) (span file phase (a + n) m) sections)

pub part-spans : (file : List ℕ) (sections : List Section) (phase first end : ℕ) (part : EntryRun) →
    sections_of part.applies_to ≡ sections → part.phase ≡ phase → part.first ≡ first → part.end ≡ end →
    run_entries file part ≡ spans file sections phase first (end - first)
part-spans file sections phase first end part sections_are phase_is first_is end_is =
    λ i. spans file (sections_are i) (phase_is i) (first_is i) (end_is i - first_is i)

-- A run in two parts and in three, by the numbers at which they start.

pub split-two : (file : List ℕ) (sections : List Section) (phase a b c : ℕ) → a ≤ b → b ≤ c →
    IsPermutation (spans file sections phase a (c - a)) (spans file sections phase a (b - a) ++ spans file sections phase b (c - b))
split-two file sections phase a b c low high =
    let many : (b - a) + (c - b) ≡ c - a = omega (arith, low, high) in
    let at : a + (b - a) ≡ b = omega (arith, low) in
    subst (λ (k : ℕ). IsPermutation (spans file sections phase a k)
    (spans file sections phase a (b - a) ++ spans file sections phase b (c - b))) many
    (subst (λ (o : ℕ). IsPermutation (spans file sections phase a ((b - a) + (c - b)))
    (spans file sections phase a (b - a) ++ spans file sections phase o (c - b))) at
    (spans-split file sections phase a (b - a) (c - b)))

pub split-three : (file : List ℕ) (sections : List Section) (phase a b c d : ℕ) → a ≤ b → b ≤ c → c ≤ d →
    IsPermutation (spans file sections phase a (d - a))
    (spans file sections phase a (b - a) ++ (spans file sections phase b (c - b) ++ spans file sections phase c (d - c)))
split-three file sections phase a b c d low mid high =
    let first = spans file sections phase a (b - a) in
    let rest = spans file sections phase b (d - b) in
    let parts = spans file sections phase b (c - b) ++ spans file sections phase c (d - c) in
    IsPermutation-trans (spans file sections phase a (d - a)) (first ++ rest) (first ++ parts)
    (split-two file sections phase a b d low (omega (arith, mid, high)))
    (IsPermutation-append_right first rest parts (split-two file sections phase b c d mid high))
