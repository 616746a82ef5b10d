-- Contents that are placed one after another.
use Rattle.std.proofs.Common.{◌≡◌, ◌∙◌, sym, ap, subst, refl, ℕ, zero, suc, ◌+◌, ◌-◌, ◌*◌, ◌≤◌, ◌<◌, ◌⊎◌, inl, inr, List, [], ◌∷◌, ◌++◌}
use Rattle.std.proofs.Common.{length, take, get_or, arith, length-append}
use Rattle.std.specs.Prelude.{AllPairs, ◌≢◌, Option, fold, map, max, slice_get}
use Rattle.std.specs.Option.{option_map_or}
use Rattle.std.proofs.lemmas.Option.{slice_get_past}
use Rattle.std.proofs.lemmas.Bool.{cases_lt}
use Rattle.std.proofs.lemmas.Grind.{common_steps}
use Rattle.std.proofs.lemmas.List.{get_or-map, get_or-take, get_or_append_left, get_or-append_right, get_or_default}
use Rattle.std.proofs.lemmas.List.{length-map, map-append, take_more}
use Rattle.elf_image.specs.declared.elf.Elf.{Elf}
use Rattle.elf_image.specs.declared.section.Section.{Section}
use Rattle.elf_image.specs.declared.section.SectionHeader.{SectionHeader}
use Rattle.elf_image.specs.memory.Break.{rounded_up}
use Rattle.elf_image.specs.declared.section.TheConstants.{SHDR_SIZE}
use Rattle.elf_parts.specs.Patches.{Stands}
use Rattle.elf_parts.specs.Spellings.{section_header_bytes, section_table}
use Rattle.elf_parts.proofs.TablesRead.{length-section_header_bytes}
use Rattle.elf_plan.specs.declared.sections.Contents.{Contents}
use Rattle.elf_make.specs.declared.headers.NewContents.{NewContents}
use Rattle.elf_make.specs.PlacedContents.{ArePlaced, IsPlaced, bytes_at, end_behind, ends_behind, written_bytes}

pub fold-more : (f : ℕ → ℕ → ℕ) (a : ℕ) (xs : List ℕ) (x : ℕ) → fold f a (xs ++ x ∷ []) ≡ f (fold f a xs) x
fold-more f a [] x = refl
fold-more f a (y ∷ ys) x = fold-more f (f a y) ys x

take-front : (j : ℕ) (xs : List ℕ) (x : ℕ) → j ≤ length xs → take j (xs ++ x ∷ []) ≡ take j xs
take-front zero xs x within = refl
take-front (suc j) [] x within = absurd (omega arith)
take-front (suc j) (y ∷ ys) x within = ap (λ (zs : List ℕ). y ∷ zs) (take-front j ys x (omega arith))

take-all : (xs : List ℕ) (x : ℕ) → take (length xs) (xs ++ x ∷ []) ≡ xs
take-all [] x = refl
take-all (y ∷ ys) x = ap (λ (zs : List ℕ). y ∷ zs) (take-all ys x)

module _ (bytes : ℕ → List ℕ) (base start : ℕ) (old : List SectionHeader) where
  -- none are placed yet
  pub placed-none : (tail : List ℕ) → base + length tail ≡ start → ArePlaced bytes [] base start tail old old
  placed-none tail at = record {
    count = refl;
    others = λ k d beside. refl;
    placed = λ j d below. absurd (omega arith);
    end = λ d. at;
  }

  -- and one more
  module _ (indices : List ℕ) (i : ℕ) (tail longer : List ℕ) (now new : List SectionHeader)
      (fresh : (j : ℕ) → j < length indices → get_or indices j i ≡ i → ⊥)
      (are : ArePlaced bytes indices base start tail old now) (count : length new ≡ length now)
      (others : (k : ℕ) (d : SectionHeader) → (k ≡ i → ⊥) → get_or new k d ≡ get_or now k d)
      (here : (d : SectionHeader) → IsPlaced base (base + length tail) (bytes i) longer (get_or now i d) (get_or new i d))
      (end : (d : SectionHeader) → base + length longer ≡ (get_or new i d).offset + (get_or new i d).size)
      (keeps : (o : ℕ) (xs : List ℕ) → Stands tail o xs → Stands longer o xs) where
    more : List ℕ
    more = indices ++ i ∷ []

    long : length (indices ++ i ∷ []) ≡ length indices + 1
    long = length-append indices (i ∷ [])

    there : (d : ℕ) → get_or (indices ++ i ∷ []) (length indices) d ≡ i
    there d =
        let none : length indices - length indices ≡ 0 = omega arith in
        get_or-append_right indices (i ∷ []) (length indices) (length indices) d refl (omega arith)
        ∙ ap (λ (k : ℕ). get_or (i ∷ []) k d) none

    front : (j d : ℕ) → j < length indices → get_or (indices ++ i ∷ []) j d ≡ get_or indices j d
    front j d below = get_or_append_left indices (i ∷ []) d j below

    -- the header of the index wasn't changed before
    was : (d : SectionHeader) → get_or now i d ≡ get_or old i d
    was d = are.others i d fresh

    placed-here : (d : SectionHeader) →
        IsPlaced base (ends_behind bytes old d start indices) (bytes i) longer (get_or old i d) (get_or new i d)
    placed-here d =
        subst (λ (e : ℕ). IsPlaced base e (bytes i) longer (get_or old i d) (get_or new i d)) (are.end d)
        (subst (λ (s : SectionHeader). IsPlaced base (base + length tail) (bytes i) longer s (get_or new i d)) (was d) (here d))

    apart : (j : ℕ) → j < length indices → get_or indices j 0 ≡ i → ⊥
    apart j below same = fresh j below (get_or_default indices j i 0 below ∙ same)

    placed-front : (j : ℕ) (d : SectionHeader) → j < length indices →
        IsPlaced base (ends_behind bytes old d start (take j indices)) (bytes (get_or indices j 0)) longer
        (get_or old (get_or indices j 0) d) (get_or new (get_or indices j 0) d)
    placed-front j d below =
        let p = are.placed j d below in
        subst (λ (n : SectionHeader). IsPlaced base (ends_behind bytes old d start (take j indices)) (bytes (get_or indices j 0))
        longer (get_or old (get_or indices j 0) d) n)
        (sym (others (get_or indices j 0) d (apart j below)))
        (record {
          offset = p.offset;
          size = p.size;
          same = p.same;
          stands = keeps _ _ p.stands;
        })

    cases : (j : ℕ) (d : SectionHeader) → (j < length indices) ⊎ (length indices ≤ j) → j < length indices + 1 →
        IsPlaced base (ends_behind bytes old d start (take j (indices ++ i ∷ []))) (bytes (get_or (indices ++ i ∷ []) j 0)) longer
        (get_or old (get_or (indices ++ i ∷ []) j 0) d) (get_or new (get_or (indices ++ i ∷ []) j 0) d)
    cases j d (inl low) below =
        subst (λ (xs : List ℕ). IsPlaced base (ends_behind bytes old d start xs) (bytes (get_or (indices ++ i ∷ []) j 0)) longer
        (get_or old (get_or (indices ++ i ∷ []) j 0) d) (get_or new (get_or (indices ++ i ∷ []) j 0) d))
        (sym (take-front j indices i (omega arith)))
        (subst (λ (k : ℕ). IsPlaced base (ends_behind bytes old d start (take j indices)) (bytes k) longer
        (get_or old k d) (get_or new k d)) (sym (front j 0 low)) (placed-front j d low))
    cases j d (inr high) below =
        let at : length indices ≡ j = omega arith in
        subst (λ (n : ℕ). IsPlaced base (ends_behind bytes old d start (take n (indices ++ i ∷ [])))
        (bytes (get_or (indices ++ i ∷ []) n 0)) longer
        (get_or old (get_or (indices ++ i ∷ []) n 0) d) (get_or new (get_or (indices ++ i ∷ []) n 0) d)) at
        (subst (λ (xs : List ℕ). IsPlaced base (ends_behind bytes old d start xs)
        (bytes (get_or (indices ++ i ∷ []) (length indices) 0)) longer
        (get_or old (get_or (indices ++ i ∷ []) (length indices) 0) d)
        (get_or new (get_or (indices ++ i ∷ []) (length indices) 0) d))
        (sym (take-all indices i))
        (subst (λ (k : ℕ). IsPlaced base (ends_behind bytes old d start indices) (bytes k) longer
        (get_or old k d) (get_or new k d)) (sym (there 0)) (placed-here d)))

    pub placed-more : ArePlaced bytes (indices ++ i ∷ []) base start longer old new
    placed-more = record {
      count = count ∙ are.count;
      others = λ k d beside.
          others k d (λ same. beside (length indices) (omega (arith, long)) (there k ∙ sym same))
          ∙ are.others k d (λ j below is. beside j (omega (arith, long)) (front j k below ∙ is));
      placed = λ j d below. cases j d (cases_lt j (length indices)) (omega (arith, long));
      end = λ d.
          end d
          ∙ ap (λ (n : ℕ). n + (get_or new i d).size) (placed-here d).offset
          ∙ ap (λ (n : ℕ). rounded_up (max 1 (get_or old i d).align) (ends_behind bytes old d start indices) + n) (placed-here d).size
          ∙ sym (fold-more (end_behind bytes old d) start indices i);
    }

-- The entries of an order, of which each has another index.
module _ (order : List (ℕ × ℕ)) (i : ℕ) (d : ℕ × ℕ) (below : i < length order) where
  pub indices-more : map (λ (e : ℕ × ℕ). e.1) (take (i + 1) order)
      ≡ map (λ (e : ℕ × ℕ). e.1) (take i order) ++ (get_or order i d).1 ∷ []
  indices-more =
      ap (map (λ (e : ℕ × ℕ). e.1)) (take_more order i d below)
      ∙ map-append (λ (e : ℕ × ℕ). e.1) (take i order) (get_or order i d ∷ [])

  pub indices-fresh : AllPairs (λ (e f : ℕ × ℕ). e.1 ≢ f.1) order → (j : ℕ) →
      j < length (map (λ (e : ℕ × ℕ). e.1) (take i order)) →
      get_or (map (λ (e : ℕ × ℕ). e.1) (take i order)) j (get_or order i d).1 ≡ (get_or order i d).1 → ⊥
  indices-fresh distinct j inside same =
      let count : length (map (λ (e : ℕ × ℕ). e.1) (take i order)) ≡ length (take i order) =
      length-map (take i order) (λ (e : ℕ × ℕ). e.1) in
      let short : length (take i order) ≡ i = grind (arith, common_steps) in
      let low : j < i = omega (arith, count, short, inside) in
      distinct j i d low below
      (sym (ap (λ (e : ℕ × ℕ). e.1) (get_or-take i order j d low))
      ∙ sym (get_or-map (λ (e : ℕ × ℕ). e.1) (take i order) j d (get_or order i d).1 (omega (arith, short, low)))
      ∙ same)

-- a table of section headers takes 64 bytes for each
pub length-section_table : (ss : List SectionHeader) → length (section_table ss) ≡ SHDR_SIZE * length ss
unfolding section_table
length-section_table [] = refl
length-section_table (s ∷ ss) =
    let rest = length-section_table ss in
    let here = length-section_header_bytes s in
    let both = length-append (section_header_bytes s) (section_table ss) in
    omega (arith, rest, here, both)

-- past the input's sections there is the table of ranges
pub bytes_at-added : (new : NewContents) (elf : Elf) (contents : List Contents) (i : ℕ) → length elf.sections.items ≤ i →
    bytes_at new elf contents i ≡ new.ranges.now
bytes_at-added new elf contents i past =
    ap (λ (o : Option Section). option_map_or
    (λ s. option_map_or (λ c. written_bytes new elf.file.now c s) (slice_get contents i) []) o new.ranges.now)
    (slice_get_past elf.sections.items i past)
