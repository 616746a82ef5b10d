-- Where the bytes that a file loads end, and where those after an offset begin.
use Rattle.std.proofs.Common.{◌≡◌, ◌∙◌, sym, ap, refl, ℕ, ◌+◌, ◌≤◌, ◌<◌, ◌⊎◌, inl, inr, List, [], ◌∷◌, Option, Some, None, Bool}
use Rattle.std.proofs.Common.{true, false, IsTrue, arith, max, min, map}
use Rattle.std.specs.Prelude.{Contains, fold, filter, ◌&&◌, nat_le, nat_lt}
use Rattle.std.proofs.lemmas.Bool.{and_from, lt-ltb, le-leb}
use Rattle.elf_image.specs.declared.segment.Segment.{Segment}
use Rattle.elf_image.specs.memory.Image.{is_load}
use Rattle.rb_bytes.proofs.Members.{Contains-cons_cases}
use Rattle.elf_plan.specs.Area.{has_file_bytes, file_end_of, loads_end, lower_start, lowest_behind}

-- the greatest of numbers is where it begins or above, and at each of those that pass or above
pub max-from : (xs : List ℕ) (a : ℕ) → a ≤ fold max a xs
max-from [] a = omega arith
max-from (x ∷ xs) a = let rest : max a x ≤ fold max (max a x) xs = max-from xs (max a x) in omega arith

pub max-above : {X : Type 0} (test : X → Bool) (f : X → ℕ) (xs : List X) (a : ℕ) (x : X) → Contains xs x → test x ≡ true →
    f x ≤ fold max a (map f (filter test xs))
max-above test f [] a x (i, below, is) passes = absurd (omega arith)
max-above {X} test f (y ∷ ys) a x there passes =
    cases (λ b later. max-above test f ys b x later passes) (Contains-cons_cases y ys x there) (test y) refl
  where
    cases : ((b : ℕ) → Contains ys x → f x ≤ fold max b (map f (filter test ys))) → (y ≡ x) ⊎ Contains ys x → (c : Bool) →
        test y ≡ c → f x ≤ fold max a (map f (filter test (y ∷ ys)))
    cases rest (inl here) true e =
        let same : f y ≡ f x = ap f here in
        let from : max a (f y) ≤ fold max (max a (f y)) (map f (filter test ys)) =
        max-from (map f (filter test ys)) (max a (f y)) in
        rw e (omega arith)
    cases rest (inl here) false e = let differ : true ≡ false = sym passes ∙ ap test (sym here) ∙ e in absurd (cc)
    cases rest (inr later) true e = rw e (rest (max a (f y)) later)
    cases rest (inr later) false e = rw e (rest a later)

-- the least start is where it begins or below, and at each of those that pass or below
start-from : (test : Segment → Bool) (ps : List Segment) (low : ℕ) →
    (l : ℕ) × (fold lower_start (Some low) (filter test ps) ≡ Some l) × (l ≤ low)
start-from test [] low = (low, refl, omega arith)
start-from test (p ∷ ps) low = cases (λ b. start-from test ps b) (test p) refl
  where
    cases : ((b : ℕ) → (l : ℕ) × (fold lower_start (Some b) (filter test ps) ≡ Some l) × (l ≤ b)) → (c : Bool) → test p ≡ c →
        (l : ℕ) × (fold lower_start (Some low) (filter test (p ∷ ps)) ≡ Some l) × (l ≤ low)
    cases rest true e =
        let r = rest (min p.offset low) in
        let below : r.0 ≤ min p.offset low = r.2 in
        (r.0, rw e r.1, omega arith)
    cases rest false e = let r = rest low in (r.0, rw e r.1, r.2)

start-below : (test : Segment → Bool) (ps : List Segment) (o : Option ℕ) (p : Segment) → Contains ps p → test p ≡ true →
    (l : ℕ) × (fold lower_start o (filter test ps) ≡ Some l) × (l ≤ p.offset)
start-below test [] o p (i, below, is) passes = absurd (omega arith)
start-below test (q ∷ qs) o p there passes =
    cases (λ b later. start-below test qs b p later passes) (Contains-cons_cases q qs p there) (test q) refl
  where
    begin : (o : Option ℕ) → (l : ℕ) × (fold lower_start (lower_start o q) (filter test qs) ≡ Some l) × (l ≤ q.offset)
    begin None = start-from test qs q.offset
    begin (Some low) =
        let r = start-from test qs (min q.offset low) in
        let below : r.0 ≤ min q.offset low = r.2 in
        (r.0, r.1, omega arith)

    cases : ((b : Option ℕ) → Contains qs p → (l : ℕ) × (fold lower_start b (filter test qs) ≡ Some l) × (l ≤ p.offset)) →
        (q ≡ p) ⊎ Contains qs p → (c : Bool) → test q ≡ c →
        (l : ℕ) × (fold lower_start o (filter test (q ∷ qs)) ≡ Some l) × (l ≤ p.offset)
    cases rest (inl here) true e =
        let r = begin o in
        let below : r.0 ≤ q.offset = r.2 in
        let same : q.offset ≡ p.offset = ap (λ (x : Segment). x.offset) here in
        (r.0, rw e r.1, omega arith)
    cases rest (inl here) false e = let differ : true ≡ false = sym passes ∙ ap test (sym here) ∙ e in absurd (cc)
    cases rest (inr later) true e = let r = rest (lower_start o q) later in (r.0, rw e r.1, r.2)
    cases rest (inr later) false e = let r = rest o later in (r.0, rw e r.1, r.2)

has-bytes : (p : Segment) → IsTrue (is_load p) → 0 < p.filesz → has_file_bytes p ≡ true
has-bytes p load some = and_from (is_load p) (nat_lt 0 p.filesz) load (lt-ltb 0 p.filesz some)

-- a segment's bytes end at or below the end of all
pub ends-below : (ps : List Segment) (p : Segment) → Contains ps p → IsTrue (is_load p) → 0 < p.filesz →
    p.offset + p.filesz ≤ loads_end ps
ends-below ps p there load some = max-above has_file_bytes file_end_of ps 0 p there (has-bytes p load some)

-- and those of one after an offset begin at or after the first of those
pub begins-behind : (offset : ℕ) (ps : List Segment) (p : Segment) → Contains ps p → IsTrue (is_load p) → 0 < p.filesz →
    offset ≤ p.offset → (low : ℕ) × (lowest_behind offset ps ≡ Some low) × (low ≤ p.offset)
begins-behind offset ps p there load some behind =
    start-below (λ q. has_file_bytes q && nat_le offset q.offset) ps None p there
    (and_from (has_file_bytes p) (nat_le offset p.offset) (has-bytes p load some) (le-leb offset p.offset behind))
