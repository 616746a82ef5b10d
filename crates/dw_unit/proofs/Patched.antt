-- Bytes with numbers written over them.
use Rattle.std.proofs.Common.{◌≡◌, ◌≤◌, ◌+◌, ◌-◌, ◌++◌, ℕ, zero, suc, List, [], ◌∷◌, refl, ap, sym, ◌∙◌, arith, length, take, drop}
use Rattle.std.proofs.Common.{append_assoc}
use Rattle.std.specs.Int.{bytes_low_first, byte_at}
use Rattle.byteorder.specs.Endian.{little_bytes}
use Rattle.std.proofs.lemmas.List.{take_at, drop-drop}
use Rattle.std.proofs.Math.Seq.{take-append-add, drop-append-add}
use Rattle.dw_unit.specs.Changes.{Patch, patched}

-- The first patch is at offset `from` or after it.
abbrev pub From : ℕ → List Patch → Type 0
From k [] = Unit {0}
From k (p ∷ ps) = k ≤ p.place

pub from_less : (k j : ℕ) (ps : List Patch) → j ≤ k → From k ps → From j ps
from_less k j [] h f = f
from_less k j (p ∷ ps) h f = omega arith

-- Bytes before all patches stay.
pub patched-behind : (from to : ℕ) (front rest : List ℕ) (ps : List Patch) → to ≡ from + length front → From to ps →
    patched from ps (front ++ rest) ≡ front ++ patched to ps rest
patched-behind from to front rest [] e f = refl
patched-behind from to front rest (p ∷ ps) e f =
    let n : p.place - from ≡ length front + (p.place - to) = omega arith in
    let m : length front + (p.place - to) + length p.bytes ≡ length front + (p.place - to + length p.bytes) = omega arith in
    ap (λ (k : ℕ). take k (front ++ rest) ++ (p.bytes ++ patched (p.place + length p.bytes) ps
    (drop (k + length p.bytes) (front ++ rest)))) n
    ∙ ap (λ (l : List ℕ). l ++ (p.bytes ++ patched (p.place + length p.bytes) ps
    (drop (length front + (p.place - to) + length p.bytes) (front ++ rest))))
    (take-append-add front rest (p.place - to))
    ∙ ap (λ (k : ℕ). (front ++ take (p.place - to) rest) ++ (p.bytes ++ patched (p.place + length p.bytes) ps (drop k (front ++ rest)))) m
    ∙ ap (λ (l : List ℕ). (front ++ take (p.place - to) rest) ++ (p.bytes ++ patched (p.place + length p.bytes) ps l))
    (drop-append-add front rest (p.place - to + length p.bytes))
    ∙ append_assoc front (take (p.place - to) rest) (p.bytes ++ patched (p.place + length p.bytes) ps
    (drop (p.place - to + length p.bytes) rest))

-- One more patch, over the bytes after some others.
pub patched-over : (from to : ℕ) (lead body rest : List ℕ) (p : Patch) (ps : List Patch) → p.place ≡ from + length lead →
    length p.bytes ≡ length body → to ≡ p.place + length p.bytes →
    patched from (p ∷ ps) (lead ++ (body ++ rest)) ≡ lead ++ (p.bytes ++ patched to ps rest)
patched-over from to lead body rest p ps e size is =
    let n : p.place - from ≡ length lead = omega arith in
    let m : length lead + length p.bytes ≡ length lead + length body = omega arith in
    ap (λ (k : ℕ). take k (lead ++ (body ++ rest)) ++ (p.bytes ++ patched (p.place + length p.bytes) ps
    (drop (k + length p.bytes) (lead ++ (body ++ rest))))) n
    ∙ ap (λ (l : List ℕ). l ++ (p.bytes ++ patched (p.place + length p.bytes) ps
    (drop (length lead + length p.bytes) (lead ++ (body ++ rest)))))
    (take_at lead (body ++ rest) (length lead) refl)
    ∙ ap (λ (k : ℕ). lead ++ (p.bytes ++ patched (p.place + length p.bytes) ps (drop k (lead ++ (body ++ rest))))) m
    ∙ ap (λ (l : List ℕ). lead ++ (p.bytes ++ patched (p.place + length p.bytes) ps l))
    (drop-append-add lead (body ++ rest) (length body) ∙ dropped body rest)
    ∙ ap (λ (k : ℕ). lead ++ (p.bytes ++ patched k ps rest)) (sym is) where
      dropped : (body rest : List ℕ) → drop (length body) (body ++ rest) ≡ rest
      dropped [] rest = refl
      dropped (b ∷ body) rest = dropped body rest

-- The low bytes of a number begin the longer encoding.
bytes-take : (i n m x : ℕ) → n ≤ m → take n (bytes_low_first i m x) ≡ bytes_low_first i n x
bytes-take i zero m x h = refl
bytes-take i (suc n) zero x h = absurd (omega arith)
bytes-take i (suc n) (suc m) x h = ap (λ (l : List ℕ). byte_at i x ∷ l) (bytes-take (suc i) n m x (omega arith))

pub lowest_bytes : (n x : ℕ) → n ≤ 8 → take n (little_bytes 8 x) ≡ little_bytes n x
lowest_bytes n x h = bytes-take 0 n 8 x h

-- The bytes written so far, and the patched bytes after them.
pub patch_put : (old new kept bytes all : List ℕ) (from place len : ℕ) (ps : List Patch) → new ≡ (old ++ kept) ++ bytes →
    kept ≡ take (place - from) (drop from all) →
    length bytes ≡ len → from ≤ place →
    new ++ patched (place + len) ps (drop (place + len) all) ≡ old ++ patched from (record { place = place; bytes = bytes } ∷ ps)
    (drop from all)
patch_put old new kept bytes all from place len ps e k size h =
    let rest : List ℕ = patched (place + len) ps (drop (place + len) all) in
    let n : from + (place - from + len) ≡ place + len = omega arith in
    ap (λ (l : List ℕ). l ++ rest) e ∙ append_assoc (old ++ kept) bytes rest ∙ append_assoc old kept (bytes ++ rest)
    ∙ ap (λ (l : List ℕ). old ++ (l ++ (bytes ++ rest))) k
    ∙ ap (λ (l : List ℕ). old ++ (take (place - from) (drop from all) ++ (bytes ++ patched (place + len) ps l)))
    (sym (drop-drop (place - from + len) from all ∙ ap (λ (k : ℕ). drop k all) n))
    ∙ ap (λ (k : ℕ). old ++ (take (place - from) (drop from all)
    ++ (bytes ++ patched (place + k) ps (drop (place - from + k) (drop from all))))) (sym size)
