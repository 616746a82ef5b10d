-- The segment that loads an address, found in a list sorted by address.
use Rattle.std.proofs.Common.{◌≡◌, ◌∙◌, sym, ap, subst, refl, ℕ, ◌-◌, ◌<◌, ◌≤◌, true, false, IsTrue, List, rules}
use Rattle.std.proofs.Common.{length, get_or, Some, None, All, arith, inl, inr, nat_lt}
use Rattle.std.specs.List.{Contains, find, filter}
use Rattle.std.specs.List.Sorted.{IsNonDecreasingBy, IsPermutation}
use Rattle.std.proofs.lemmas.Bool.{and_parts, and_from, leb-true, ltb-true, le-leb, lt-ltb, false_from_ne_true, both_ways, cases_lt}
use Rattle.std.proofs.lemmas.List.{get_or_default}
use Rattle.std.proofs.lemmas.List.Elements.{All-same, filter_passes, Contains-get_or}
use Rattle.std.proofs.lemmas.List.Sorted.{All-permutation, Contains-permutation, IsPermutation-sym}
use Rattle.elf_image.specs.declared.elf.Elf.{Elf}
use Rattle.elf_image.specs.declared.segment.Segment.{Segment}
use Rattle.elf_image.specs.memory.Image.{is_load, end_of, has_memory, loads_address, segment_of, LoadOnce}
use Rattle.rb_bytes.proofs.Searches.{find-found, find-finds, find-none, find-only, Contains-filter, Contains-from_filter}

-- Lists of segments: all segments with memory, in some order.

-- A segment loads an address if it is loaded and contains it.
pub loads-parts : (a : ℕ) (p : Segment) → IsTrue (loads_address a p) → IsTrue (is_load p) × (p.vaddr ≤ a) × (a < end_of p)
loads-parts a p loads = search (rules, and_parts, leb-true, ltb-true)

pub loads-from_parts : (a : ℕ) (p : Segment) → IsTrue (is_load p) → p.vaddr ≤ a → a < end_of p → IsTrue (loads_address a p)
loads-from_parts a p load low high = search (rules, and_from, le-leb, lt-ltb)

pub has_memory-from_loads : (a : ℕ) (p : Segment) → IsTrue (loads_address a p) → IsTrue (has_memory p)
has_memory-from_loads a p loads = search (rules, loads-parts, and_from, lt-ltb)

-- The last address of a segment with memory.
pub loads_last : (p : Segment) → has_memory p ≡ true → IsTrue (loads_address (end_of p - 1) p)
loads_last p has = search (rules, and_parts, ltb-true, le-leb, lt-ltb, and_from)

pub All-order : (segments some loads : List Segment) → some ≡ filter has_memory segments → IsPermutation some loads →
    All (λ p. IsTrue (has_memory p)) loads
All-order segments some loads is order = search (rules, All-permutation, All-same, filter_passes)

Contains-order : (segments some loads : List Segment) → some ≡ filter has_memory segments →
    IsPermutation some loads → (p : Segment) → Contains loads p → Contains segments p
Contains-order segments some loads is order p p_in =
    let here : Contains some p = Contains-permutation loads some p (IsPermutation-sym some loads order) p_in in
    let P : List Segment → Type 0 = λ xs. Contains xs p in
    Contains-from_filter has_memory segments p (subst P is here)

Contains-loads : (segments some loads : List Segment) → some ≡ filter has_memory segments →
    IsPermutation some loads → (p : Segment) → Contains segments p → IsTrue (has_memory p) → Contains loads p
Contains-loads segments some loads is order p p_in loaded =
    let P : List Segment → Type 0 = λ xs. Contains xs p in
    Contains-permutation some loads p order (subst P (sym is) (Contains-filter has_memory segments p p_in loaded))

pub LoadOnce-order : (segments some loads : List Segment) → LoadOnce segments → some ≡ filter has_memory segments →
    IsPermutation some loads → LoadOnce loads
LoadOnce-order segments some loads once is order a p q p_in q_in =
    once a p q (Contains-order segments some loads is order p p_in) (Contains-order segments some loads is order q q_in)

pub segment_of-order : (segments some loads : List Segment) → LoadOnce segments → some ≡ filter has_memory segments →
    IsPermutation some loads → (a : ℕ) → segment_of loads a ≡ segment_of segments a
segment_of-order segments some loads once is order a =
    elim (find (loads_address a) segments) as (λ r. find (loads_address a) segments ≡ r → find (loads_address a) loads ≡ r) [
      | None ↦ λ nowhere. find-none (loads_address a) loads
          (λ p p_in. false_from_ne_true (loads_address a p)
          (λ loads_it. let finds =
          find-finds (loads_address a) segments p (Contains-order segments some loads is order p p_in) loads_it in
          absurd (let both : None ≡ Some finds.0 = sym nowhere ∙ finds.1 in cc)))
      | Some p ↦ λ found.
          let there = find-found (loads_address a) segments p found in
          find-only (loads_address a) loads p
          (Contains-loads segments some loads is order p there.1 (has_memory-from_loads a p there.0)) there.0
          (λ q q_in q_loads. once a q p (Contains-order segments some loads is order q q_in) there.1 q_loads there.0)
    ]
    refl

-- The last segment that starts at or below an address.

-- If there is no such segment, no segment loads the address.
pub segment_of-none_below : (loads : List Segment) (a : ℕ) →
    ((k : ℕ) (d : Segment) → k < length loads → a < (get_or loads k d).vaddr) → segment_of loads a ≡ None
segment_of-none_below loads a above = search (rules, find-none, false_from_ne_true, loads-parts)

-- If this segment loads the address, it is the result.
pub segment_of-last : (loads : List Segment) (a i : ℕ) (d : Segment) → LoadOnce loads → i < length loads →
    IsTrue (loads_address a (get_or loads i d)) → segment_of loads a ≡ Some (get_or loads i d)
segment_of-last loads a i d once within loads_it = search (rules, get_or, Contains-get_or, find-only)

-- A segment that loads the address, and starts at or below a last segment at or below the address, is that segment.
same_as_last : (loads : List Segment) (a : ℕ) (p last : Segment) → LoadOnce loads → Contains loads p → Contains loads last →
    IsTrue (has_memory last) → p.vaddr ≤ last.vaddr → last.vaddr ≤ a → IsTrue (loads_address a p) → p ≡ last
same_as_last loads a p last once p_in last_in memory before below loads_it =
    let parts = loads-parts a p loads_it in
    let loaded = and_parts (is_load last) (nat_lt 0 last.memsz) memory in
    let some : 0 < last.memsz = ltb-true 0 last.memsz loaded.1 in
    let high : a < end_of p = parts.2 in
    once last.vaddr p last p_in last_in
    (loads-from_parts last.vaddr p parts.0 before (omega arith))
    (loads-from_parts last.vaddr last loaded.0 (omega arith) (omega arith))

-- If the last segment doesn't load the address, no segment does.
pub segment_of-none_last : (loads : List Segment) (a i : ℕ) (d : Segment) → LoadOnce loads →
    All (λ p. IsTrue (has_memory p)) loads →
    IsNonDecreasingBy (λ p. p.vaddr) loads → i < length loads → (get_or loads i d).vaddr ≤ a →
    ((k : ℕ) (e : Segment) → i < k → k < length loads → a < (get_or loads k e).vaddr) →
    loads_address a (get_or loads i d) ≡ false → segment_of loads a ≡ None
segment_of-none_last loads a i d once loaded rising within below above fails =
    find-none (loads_address a) loads
    (λ p p_in. false_from_ne_true (loads_address a p)
    (λ loads_it. both_ways (loads_address a (get_or loads i d)) fails
    (let vaddr : Segment → ℕ = λ q. q.vaddr in
    let at : get_or loads p_in.0 d ≡ p = get_or_default loads p_in.0 d p p_in.1 ∙ p_in.2 in
    let low = (loads-parts a p loads_it).1 in
    let not_above : p_in.0 ≤ i = elim (cases_lt i p_in.0)
    [ inl later ↦ absurd (let far = above p_in.0 p later p_in.1 in let same = ap vaddr p_in.2 in omega arith) | inr by ↦ by ] in
    let before = rising p_in.0 i d not_above within in
    let same = ap vaddr at in
    let is_last : p ≡ get_or loads i d =
    same_as_last loads a p (get_or loads i d) once p_in (Contains-get_or loads i d within) (loaded i d within)
    (omega arith) below loads_it in
    ap (loads_address a) (sym is_last) ∙ loads_it)))

-- The segment that loads an address also loads all its other addresses.
pub same_segment : (elf : Elf) (a q : ℕ) (p : Segment) → segment_of elf.segments.items a ≡ Some p → IsTrue (loads_address q p) →
    segment_of elf.segments.items q ≡ Some p
same_segment elf a q p found here =
    let there = find-found (loads_address a) elf.loads.items p (elf.same a ∙ found) in
    sym (elf.same q)
    ∙ find-only (loads_address q) elf.loads.items p there.1 here (λ r r_in r_loads. elf.once q r p r_in there.1 r_loads here)
