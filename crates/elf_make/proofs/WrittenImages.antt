-- The image of a file that was joined of its parts, got a tail, and was patched.
use Rattle.std.proofs.Common.{◌≡◌, ◌∙◌, sym, subst, ℕ, ◌+◌, ◌-◌, ◌≤◌, ◌<◌, List, ◌++◌, Bool, IsTrue, length, get_or, arith}
use Rattle.std.specs.Prelude.{All, Contains, IsFalse}
use Rattle.std.proofs.lemmas.List.{get_or_append_left}
use Rattle.elf_image.specs.declared.segment.Segment.{Segment}
use Rattle.elf_image.specs.memory.Image.{is_load, LoadOnce}
use Rattle.elf_image.specs.faults.SegmentLayout.{IsFileByte}
use Rattle.elf_parts.specs.declared.parts.Parts.{Parts}
use Rattle.elf_make.specs.CarriedBytes.{CarriesImage}
use Rattle.elf_plan.specs.Area.{moved_by}
use Rattle.elf_plan.specs.NewSegments.{IsNewLoad, CrossesNot}
use Rattle.elf_parts.specs.Parts.{PartsFit, HasParts}
use Rattle.elf_parts.specs.Patches.{Patch, put_all, IsWithin, Leaves}
use Rattle.elf_make.proofs.Images.{image-carried}
use Rattle.elf_parts.proofs.JoinedParts.{front-byte, behind-byte}
use Rattle.elf_make.proofs.Loads.{KeepsLoaded, carries-load, keeps-stretches}
use Rattle.elf_parts.proofs.SameBytes.{get_or-put_all_leaves}

-- All that the input loads is in the parts: what is before the executable segment's end in the front, and the rest
-- between low and high.
pub record FitSegments (parts : Parts) (ps : List Segment) (file_end delta : ℕ) : Type 0 where
  pub enough : file_end ≤ parts.keep
  pub moved : parts.low < parts.high → parts.low + delta ≡ parts.behind_at
  pub apart : (p : Segment) → Contains ps p → IsTrue (is_load p) → CrossesNot file_end p
  pub all : (p : Segment) → Contains ps p → IsTrue (is_load p) → file_end ≤ p.offset → 0 < p.filesz →
      (parts.low ≤ p.offset) × (p.offset + p.filesz ≤ parts.high)

-- each loaded segment is in the written file
abbrev pub AreNewLoads : ℕ → ℕ → List Segment → List Segment → Type 0
AreNewLoads file_end delta ps qs =
    (p : Segment) → Contains ps p → IsTrue (is_load p) → (q : Segment) × Contains qs q × IsNewLoad file_end delta p q

-- the patches leave the loaded bytes alone that don't change
abbrev pub LeavesUnchanged : List ℕ → List Segment → ℕ → ℕ → (ℕ → Bool) → List Patch → Type 0
LeavesUnchanged input ps file_end delta changed patches =
    (p : Segment) → Contains ps p → (k : ℕ) → IsFileByte k p → k - p.offset < p.memsz →
    IsFalse (changed (p.vaddr + (k - p.offset))) → All (Leaves (moved_by file_end delta k) (get_or input k 0)) patches

pub image-written : (input area tail base : List ℕ) (patches : List Patch) (parts : Parts) (ps qs : List Segment)
    (file_end delta : ℕ) (changed : ℕ → Bool) → PartsFit parts (length input) (length area) → HasParts parts input area base →
    FitSegments parts ps file_end delta → AreNewLoads file_end delta ps qs → LoadOnce qs →
    All (IsWithin (length (base ++ tail))) patches → LeavesUnchanged input ps file_end delta changed patches →
    CarriesImage input (put_all (base ++ tail) patches) changed ps qs
image-written input area tail base patches parts ps qs file_end delta changed can has fit new once within leaves =
    image-carried input written changed ps qs once
    (λ p there load.
    let to = new p there load in
    (to.0, to.1, carries-load input written changed ps file_end delta p to.0 keeps there load (fit.apart p there load) to.2))
  where
    written : List ℕ
    written = put_all (base ++ tail) patches

    keep : parts.keep ≤ length input
    keep = can.front

    high : parts.high ≤ length input
    high = can.from_input

    in_front : (k : ℕ) → k < length base → get_or (base ++ tail) k 0 ≡ get_or base k 0
    in_front k below = get_or_append_left base tail 0 k below

    ordered : parts.low ≤ parts.high
    ordered = can.ordered

    base_size : length base ≡ parts.behind_at + (parts.high - parts.low)
    base_size = has.size

    front_size : parts.keep ≤ parts.behind_at
    front_size = let a = can.apart in let b = can.behind in omega arith

    in_base : (p : Segment) → Contains ps p → (k : ℕ) → IsFileByte k p →
        get_or (base ++ tail) (moved_by file_end delta k) 0 ≡ get_or input k 0
    in_base =
        keeps-stretches input (base ++ tail) ps file_end delta parts.low parts.high parts.keep fit.enough
        (λ k below. in_front k (omega (arith, base_size, front_size)) ∙ front-byte parts input area base k has can.front below)
        (λ k from below.
        let moved : parts.low + delta ≡ parts.behind_at = fit.moved (omega arith) in
        in_front (k + delta) (omega (arith, base_size, moved, ordered))
        ∙ behind-byte parts input area base delta k has can.from_input moved from below)
        fit.apart fit.all

    keeps : KeepsLoaded input written ps file_end delta changed
    keeps p there k in_file in_memory kept =
        let same : get_or (base ++ tail) (moved_by file_end delta k) 0 ≡ get_or input k 0 = in_base p there k in_file in
        get_or-put_all_leaves patches (base ++ tail) (moved_by file_end delta k) within
        (λ j d below. subst (λ (b : ℕ). Leaves (moved_by file_end delta k) b (get_or patches j d)) (sym same)
        (leaves p there k in_file in_memory kept j d below))
        ∙ same
