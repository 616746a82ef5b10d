-- In a sound file all loaded addresses are low, so there is room above for the break.
use Rattle.std.proofs.Common.{◌≡◌, ◌∙◌, sym, subst, refl, ℕ, ◌+◌, ◌-◌, ◌^◌, ◌<◌, ◌≤◌, zero, true, false, cond, IsTrue, List, []}
use Rattle.std.proofs.Common.{◌∷◌, arith, ⊎_elim, ◌&&◌, max, map, Bool}
use Rattle.std.specs.List.{Contains, filter, fold}
use Rattle.std.specs.Prelude.{◌==◌, if◌then◌else◌, min}
use Rattle.std.proofs.lemmas.Bool.{and_parts, cases_lt, eqb-true}
use Rattle.rb_bytes.specs.declared.fault.FaultKind.TheVariants.{HighAddress}
use Rattle.elf_image.specs.declared.segment.Segment.{Segment}
use Rattle.elf_image.specs.declared.segment.TheConstants.{PF_W, ADDRESS_END}
use Rattle.elf_image.specs.file.Header.{segment, segments_of}
use Rattle.elf_image.specs.memory.Image.{has_memory, has_flag, end_of, loads_address}
use Rattle.elf_image.specs.faults.FileFaults.{IsSound}
use Rattle.elf_image.specs.memory.Break.{writable_end, break_start, break_bound, break_room, pages_above}
use Rattle.rb_bytes.proofs.Members.{Contains-there}
use Rattle.elf_image.proofs.LoadLemmas.{loads_last}
use Rattle.elf_image.proofs.ReadLists.{get_or-segments}

-- Each segment with memory ends at or below the bound.
record EndsBelow (bound : ℕ) (segments : List Segment) : Type 0 where
  each : (p : Segment) → Contains segments p → has_memory p ≡ true → end_of p ≤ bound

ends_below : (bound from : ℕ) (segments : List Segment) → EndsBelow bound segments → from ≤ bound →
    fold max from (map end_of (filter (λ p. has_memory p && has_flag PF_W p) segments)) ≤ bound
ends_below bound from [] ends start = start
ends_below bound from (p ∷ ps) ends start =
    elim (has_memory p && has_flag PF_W p) as
    (λ b. (has_memory p && has_flag PF_W p) ≡ b →
    fold max from
    (map end_of (cond b (p ∷ filter (λ q. has_memory q && has_flag PF_W q) ps)
    (filter (λ q. has_memory q && has_flag PF_W q) ps))) ≤ bound) [
      | true ↦ λ is. let here = ends.each p (zero, omega arith, refl) (and_parts (has_memory p) (has_flag PF_W p) is).0 in
          ends_below bound (max from (end_of p)) ps rest (omega arith)
      | false ↦ λ is. ends_below bound from ps rest start
    ]
    refl
  where
    rest : EndsBelow bound ps
    rest = record { each = λ q is_in. ends.each q (Contains-there p ps q is_in) }

pub low_end : (file : List ℕ) → IsSound file → writable_end (segments_of file) ≤ 2 ^ 63
low_end file sound = ends_below (2 ^ 63) 0 (segments_of file) (record { each = ends }) (omega arith)
  where
    ends : (p : Segment) → Contains (segments_of file) p → has_memory p ≡ true → end_of p ≤ 2 ^ 63
    ends p (i, within, at) has =
        let found = get_or-segments file i p within in
        let p_is : segment file i ≡ p = sym found.1 ∙ at in
        ⊎_elim
        (λ (low : end_of p < ADDRESS_END + 1). omega arith)
        (λ (high : ADDRESS_END + 1 ≤ end_of p).
        absurd (sound HighAddress (end_of p - 1)
        (i, found.0, (subst (λ q. IsTrue (loads_address (end_of p - 1) q)) (sym p_is) (loads_last p has), omega arith))))
        (cases_lt (end_of p) (ADDRESS_END + 1))

pub break_fits : (segments : List Segment) → break_start segments ≤ break_bound segments
break_fits segments = cases (writable_end segments == 0) refl
  where
    cases : (t : Bool) → (writable_end segments == 0) ≡ t →
        break_start segments ≤
        (if t then 0 else max (break_start segments) (fold min (break_start segments + break_room) (pages_above segments)))
    cases false test = omega arith
    cases true test = let none : writable_end segments ≡ 0 = eqb-true (writable_end segments) 0 test in omega arith
