-- Contents that were placed one after another are so by what is read of the section headers.
use Rattle.std.proofs.Common.{◌≡◌, ◌∙◌, sym, ap, subst, refl, ℕ, ◌+◌, ◌-◌, ◌<◌, List, [], ◌∷◌, ◌++◌, Option, Some, max}
use Rattle.std.proofs.Common.{length, take, get_or, slice_get, arith, length-append}
use Rattle.std.specs.Prelude.{All, Contains, IsSomeAnd}
use Rattle.std.proofs.lemmas.List.{append-nil, append_assoc, get_or-append_right}
use Rattle.elf_image.specs.declared.section.Section.{Section}
use Rattle.elf_image.specs.declared.section.SectionHeader.{SectionHeader}
use Rattle.elf_image.specs.memory.Break.{rounded_up}
use Rattle.elf_plan.specs.FileLayout.{StandFrom, StandsBehind}
use Rattle.rb_bytes.proofs.ListLemmas.{slice_get_found}
use Rattle.elf_make.specs.PlacedContents.{ArePlaced, IsPlaced, end_behind, ends_behind}
use Rattle.elf_make.proofs.PlacedContents.{fold-more}

take-before : (xs ys : List ℕ) → take (length xs) (xs ++ ys) ≡ xs
take-before [] ys = refl
take-before (x ∷ xs) ys = ap (λ (zs : List ℕ). x ∷ zs) (take-before xs ys)

module _ (sections : List Section) (bytes : ℕ → List ℕ) (base start : ℕ) (tail : List ℕ) (old new : List SectionHeader)
    (d : SectionHeader) (indices : List ℕ) (are : ArePlaced bytes indices base start tail old new)
    (says : (i : ℕ) (n : Section) → Contains indices i → slice_get sections i ≡ Some n → (n.offset ≡ (get_or new i d).offset)
    × (n.size ≡ (get_or new i d).size) × (n.align ≡ (get_or old i d).align))
    (there : All (λ i. i < length sections) indices) where
  abbrev after : List ℕ → ℕ
  after done = ends_behind bytes old d start done

  module _ (done : List ℕ) (i : ℕ) (rest : List ℕ) (is : indices ≡ done ++ i ∷ rest) where
    long : length indices ≡ length done + length (i ∷ rest)
    long = ap length is ∙ length-append done (i ∷ rest)

    here : (e : ℕ) → get_or indices (length done) e ≡ i
    here e =
        let none : length done - length done ≡ 0 = omega arith in
        ap (λ (xs : List ℕ). get_or xs (length done) e) is
        ∙ get_or-append_right done (i ∷ rest) (length done) (length done) e refl (omega arith)
        ∙ ap (λ (k : ℕ). get_or (i ∷ rest) k e) none

    front : take (length done) indices ≡ done
    front = ap (take (length done)) is ∙ take-before done (i ∷ rest)

    placed : IsPlaced base (after done) (bytes i) tail (get_or old i d) (get_or new i d)
    placed =
        subst (λ (k : ℕ). IsPlaced base (after done) (bytes k) tail (get_or old k d) (get_or new k d)) (here 0)
        (subst (λ (xs : List ℕ). IsPlaced base (after xs) (bytes (get_or indices (length done) 0)) tail
        (get_or old (get_or indices (length done) 0) d) (get_or new (get_or indices (length done) 0) d)) front
        (are.placed (length done) d (omega (arith, long))))

    within : i < length sections
    within = subst (λ (k : ℕ). k < length sections) (here 0) (there (length done) 0 (omega (arith, long)))

    behind : StandsBehind sections (after done) i (end_behind bytes old d (after done) i)
    behind =
        let (n, at) = slice_get_found sections i within in
        let said = says i n (length done, omega (arith, long), here i) at in
        let offset : n.offset ≡ rounded_up (max 1 (get_or old i d).align) (after done) = said.0 ∙ placed.offset in
        let size : n.size ≡ length (bytes i) = said.1 ∙ placed.size in
        subst (λ (o : Option Section). IsSomeAnd o (λ n. (n.offset ≡ rounded_up (max 1 n.align) (after done))
        × (end_behind bytes old d (after done) i ≡ n.offset + n.size))) (sym at) (
          offset ∙ ap (λ (a : ℕ). rounded_up (max 1 a) (after done)) (sym said.2),
          omega (arith, offset, size),
        )

  standing : (done rest : List ℕ) → indices ≡ done ++ rest → StandFrom sections (after done) rest (after indices)
  standing done [] is = ap after (is ∙ append-nil done)
  standing done (i ∷ rest) is =
      let next : after (done ++ i ∷ []) ≡ end_behind bytes old d (after done) i =
      fold-more (end_behind bytes old d) start done i in (
        end_behind bytes old d (after done) i,
        (
          behind done i rest is,
          subst (λ (e : ℕ). StandFrom sections e rest (after indices)) next
              (standing (done ++ i ∷ []) rest (is ∙ sym (append_assoc done (i ∷ []) rest))),
        ),
      )

  -- the field `stand` of a file's layout, except for the table of ranges
  pub stand-from : StandFrom sections start indices (after indices)
  stand-from = standing [] indices refl
