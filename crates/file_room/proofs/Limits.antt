-- The limit of the new area after the executable segment is below each segment at or above an address.
use Rattle.std.proofs.Common.{ℕ, zero, suc, ◌≡◌, ◌≤◌, ◌<◌, refl, List, [], ◌∷◌, Bool, true, false, IsTrue, length, get_or, min, arith}
use Rattle.std.specs.Prelude.{fold, ◌&&◌, nat_le}
use Rattle.std.proofs.lemmas.Bool.{and_from, le-leb}
use Rattle.elf_image.specs.declared.segment.Segment.{Segment}
use Rattle.elf_image.specs.memory.Break.{page_size, rounded_down}
use Rattle.elf_image.specs.memory.Image.{is_load}
use Rattle.file_room.specs.Room.{pages_from}

-- A fold of minima is at most its start value.
pub fold-min-le : (xs : List ℕ) (a : ℕ) → fold min a xs ≤ a
fold-min-le [] a = omega arith
fold-min-le (x ∷ xs) a = let rest : fold min (min a x) xs ≤ min a x = fold-min-le xs (min a x) in omega arith

-- The limit is at or below each segment that starts at or above an address.
pub limit-below : (end : ℕ) (ps : List Segment) (top k : ℕ) (d : Segment) → k < length ps → IsTrue (is_load (get_or ps k d)) →
    end ≤ (get_or ps k d).vaddr → fold min top (pages_from end ps) ≤ (get_or ps k d).vaddr
limit-below end [] top k d below load above = absurd (omega arith)
limit-below end (p ∷ ps) top zero d below load above =
    let passes : (is_load p && nat_le end p.vaddr) ≡ true =
    and_from (is_load p) (nat_le end p.vaddr) load (le-leb end p.vaddr above) in
    let page : rounded_down page_size p.vaddr ≤ p.vaddr = omega arith in
    rw passes
    (let rest : fold min (min top (rounded_down page_size p.vaddr)) (pages_from end ps) ≤ min top
    (rounded_down page_size p.vaddr) = fold-min-le (pages_from end ps) (min top (rounded_down page_size p.vaddr)) in omega arith)
limit-below end (p ∷ ps) top (suc k) d below load above =
    cases (limit-below end ps top k d (omega arith) load above) (λ t. limit-below end ps t k d (omega arith) load above)
    (is_load p && nat_le end p.vaddr) refl
  where
    cases : fold min top (pages_from end ps) ≤ (get_or ps k d).vaddr →
        ((t : ℕ) → fold min t (pages_from end ps) ≤ (get_or ps k d).vaddr) → (b : Bool) → (is_load p && nat_le end p.vaddr) ≡ b →
        fold min top (pages_from end (p ∷ ps)) ≤ (get_or ps k d).vaddr
    cases out within true e = rw e (within (min top (rounded_down page_size p.vaddr)))
    cases out within false e = rw e out
