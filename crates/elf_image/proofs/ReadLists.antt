-- One more header or symbol at the end of those that were read.
use Rattle.std.proofs.Common.{◌≡◌, ◌∙◌, sym, ap, subst, refl, ℕ, zero, suc, ◌+◌, ◌*◌, List, [], ◌∷◌, ◌++◌, Some, length, rules}
use Rattle.std.proofs.Common.{length-append, arith, ◌<◌, get_or, IsTrue, inl, inr}
use Rattle.std.proofs.lemmas.Option.{same_Some}
use Rattle.std.specs.List.{slice_get}
use Rattle.elf_image.specs.declared.section.Section.{Section}
use Rattle.elf_image.specs.declared.symbol.Symbol.{Symbol}
use Rattle.elf_image.specs.declared.section.SectionHeader.{SectionHeader}
use Rattle.elf_image.specs.declared.segment.TheConstants.{PHDR_SIZE}
use Rattle.elf_image.specs.file.Header.{e_phoff, e_phnum, segment, segment_at, segment_place, segments_from, segments_of}
use Rattle.elf_image.specs.memory.Image.{loads_address, LoadOnce}
use Rattle.elf_image.specs.faults.SegmentLayout.{SharesAddress}
use Rattle.elf_image.specs.faults.LowestPlace.{SomeBelow}
use Rattle.elf_image.specs.declared.segment.Segment.{Segment}
use Rattle.std.proofs.lemmas.Bool.Decides.{eqb_tells}
use Rattle.elf_image.specs.file.ParsedFile.{IsSectionAt, IsSymbolAt, AreSections, AreSymbols}
use Rattle.elf_image.specs.file.Symbols.{symbol_place}

pub segments_from-none : (file : List ℕ) (o : ℕ) → [] ≡ segments_from file o 0
unfolding segments_from
segments_from-none file o = refl

pub segments_from-more : (file : List ℕ) (o n : ℕ) → segments_from file o n
    ++ segment_at file (o + PHDR_SIZE * n) ∷ [] ≡ segments_from file o (n + 1)
unfolding segments_from
segments_from-more file o zero = search (rules, segment_at)
segments_from-more file o (suc n) = search (rules, segment_at, segments_from-more file (o + PHDR_SIZE) n)

-- A property of each element, and of one more.
each_more : {A : Type 0} (P : ℕ → A → Type 0) (xs : List A) (x : A) → ((i : ℕ) (s : A) → slice_get xs i ≡ Some s → P i s) →
    P (length xs) x → (i : ℕ) (s : A) → slice_get (xs ++ x ∷ []) i ≡ Some s → P i s
each_more P [] x each here zero s e = subst (P zero) (same_Some x s e) here
each_more P [] x each here (suc i) s e = absurd (cc)
each_more P (y ∷ ys) x each here zero s e = each zero s e
each_more P (y ∷ ys) x each here (suc i) s e = each_more (λ k. P (suc k)) ys x (λ k. each (suc k)) here i s e

pub AreSections-more : (file : List ℕ) (n : ℕ) (xs : List Section) (x : Section) → AreSections file n xs → IsSectionAt file n x →
    AreSections file (n + 1) (xs ++ x ∷ [])
AreSections-more file n xs x are is = record {
  count_is = length-append xs (x ∷ []) ∙ ap (λ (k : ℕ). k + 1) are.count_is;
  each = each_more (IsSectionAt file) xs x are.each (subst (λ (k : ℕ). IsSectionAt file k x) (sym are.count_is) is);
}

pub AreSymbols-more : (file : List ℕ) (table : SectionHeader) (n : ℕ) (xs : List Symbol) (x : Symbol) →
    AreSymbols file table n xs → IsSymbolAt file table (symbol_place table n) x → AreSymbols file table (n + 1) (xs ++ x ∷ [])
AreSymbols-more file table n xs x are is = record {
  count_is = length-append xs (x ∷ []) ∙ ap (λ (k : ℕ). k + 1) are.count_is;
  each =
      each_more
      (λ k s. IsSymbolAt file table (symbol_place table k) s)
      xs
      x
      are.each
      (subst (λ (k : ℕ). IsSymbolAt file table (symbol_place table k) x) (sym are.count_is) is);
}

-- The segments by index.
pub length-segments_from : (file : List ℕ) (o n : ℕ) → length (segments_from file o n) ≡ n
unfolding segments_from
length-segments_from file o zero = refl
length-segments_from file o (suc n) = let rest = length-segments_from file (o + PHDR_SIZE) n in omega arith

pub get_or-segments_from : (file : List ℕ) (o n k : ℕ) (d : Segment) → k < n →
    get_or (segments_from file o n) k d ≡ segment_at file (o + PHDR_SIZE * k)
unfolding segments_from
get_or-segments_from file o zero k d below = absurd (omega arith)
get_or-segments_from file o (suc n) zero d below =
    let here : o ≡ o + PHDR_SIZE * 0 = omega arith in ap (segment_at file) here
get_or-segments_from file o (suc n) (suc k) d below =
    search (rules, segment_at, get_or-segments_from file (o + PHDR_SIZE) n k d (omega arith))

pub length-segments_of : (file : List ℕ) → length (segments_of file) ≡ e_phnum file
length-segments_of file = length-segments_from file (e_phoff file) (e_phnum file)

pub get_or-segments : (file : List ℕ) (k : ℕ) (d : Segment) → k < length (segments_of file) → (k < e_phnum file)
    × (get_or (segments_of file) k d ≡ segment file k)
get_or-segments file k d within = search (rules, length-segments_of, get_or-segments_from)

-- If no segments share an address, each address is loaded at most once.
pub LoadOnce-apart : (file : List ℕ) → ((place : ℕ) → SomeBelow (e_phnum file) (SharesAddress file) place → ⊥) →
    LoadOnce (segments_of file)
LoadOnce-apart file none a p q (i, within_i, at_i) (j, within_j, at_j) loads_p loads_q =
    let first = get_or-segments file i p within_i in
    let second = get_or-segments file j q within_j in
    let p_is : segment file i ≡ p = sym first.1 ∙ at_i in
    let q_is : segment file j ≡ q = sym second.1 ∙ at_j in
    let Loads : Segment → Type 0 = λ s. IsTrue (loads_address a s) in
    elim (eqb_tells i j) [
      | inl same ↦ sym p_is ∙ ap (segment file) same.1 ∙ q_is
      | inr differ ↦
          absurd
          (none
          (segment_place file i) (
            i,
            first.0,
            ((j, second.0, (λ e. differ.1 (sym e)), (a, subst Loads (sym p_is) loads_p, subst Loads (sym q_is) loads_q)), refl),
          ))
    ]
