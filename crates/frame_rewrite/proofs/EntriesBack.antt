-- Entries that are written one after another are walked again.
use Rattle.std.proofs.Common.{ℕ, zero, suc, ◌+◌, ◌-◌, ◌^◌, ◌≤◌, ◌<◌, ◌≡◌, ◌==◌, List, [], ◌∷◌, ◌++◌, None, ltb, Bool, true, false, refl}
use Rattle.std.proofs.Common.{sym, ◌∙◌, ap, subst, arith, length, take, drop, drop-drop, append_assoc, length-append}
use Rattle.std.proofs.lemmas.List.{append-nil}
use Rattle.std.proofs.lemmas.Bool.Decides.{nat_tests}
use Rattle.std.proofs.lemmas.Grind.{common_steps}
use Rattle.byteorder.specs.Endian.{little_number, little_bytes}
use Rattle.byteorder.specs.Numbers.{little_number-reads_back}
use Rattle.cfi_rows.specs.Entries.{RawEntry, Front, Stands, entry_of, front_of, WalkedEntries, onward, walk, walked_entries}
use Rattle.frame_rewrite.specs.SpelledFrames.{spelled_entry, spelled_entries, end_mark}
use Rattle.frame_rewrite.proofs.NumbersBack.{length-little}

-- a number in front of bytes, and the bytes after it
little-front : (n d : ℕ) (rest : List ℕ) → d < 256 ^ n
    → (little_number n (little_bytes n d ++ rest) ≡ d) × (drop n (little_bytes n d ++ rest) ≡ rest)
little-front n d rest f =
    let l : length (little_bytes n d) ≡ n = length-little n d in
    (little_number-reads_back n d rest f, drop-front n (little_bytes n d) rest l) where
      drop-front : (n : ℕ) (xs ys : List ℕ) → length xs ≡ n → drop n (xs ++ ys) ≡ ys
      drop-front n xs ys e = grind (arith, common_steps)

-- what fits the fields of an entry
pub record EntryFits (e : RawEntry) : Type 0 where
  pub id : e.id < 2 ^ 32
  pub size : length e.body + 4 < 0xffffffff

opened : (debug : Bool) (place n : ℕ) (left tail : List ℕ) → 4 ≤ length left → little_number 4 left ≡ n
    → drop 4 left ≡ tail → 0 < n
    → front_of debug place left ≡ entry_of place n tail
opened true place n left tail l v d h =
    let t : ltb (length left) 4 ≡ false = grind (arith, nat_tests) in
    rw (t, v, d) refl
opened false place n left tail l v d h =
    let t : ltb (length left) 4 ≡ false = grind (arith, nat_tests) in
    let z : (n == 0) ≡ false = grind (arith, nat_tests) in
    rw (t, v, d, z) refl

body-taken : (n : ℕ) (tail body rest : List ℕ) → n ≡ length body → drop 4 tail ≡ body ++ rest → take n (drop 4 tail) ≡ body
body-taken n tail body rest e d = rw d (front n body rest e) where
  front : (n : ℕ) (xs ys : List ℕ) → n ≡ length xs → take n (xs ++ ys) ≡ xs
  front n xs ys e = grind (arith, common_steps)

rest-left : (n : ℕ) (tail body rest : List ℕ) → n ≡ length body + 4 → drop 4 tail ≡ body ++ rest → drop n tail ≡ rest
rest-left n tail body rest e d = let e2 : n ≡ 4 + length body = omega arith in rw
    (e2, sym (drop-drop (length body) 4 tail), d) (behind (length body) body rest refl) where
      behind : (n : ℕ) (xs ys : List ℕ) → n ≡ length xs → drop n (xs ++ ys) ≡ ys
      behind n xs ys e = grind (arith, common_steps)

entered : (place n id : ℕ) (tail body rest : List ℕ) → n ≡ length body + 4 → n < 0xffffffff → little_number 4 tail ≡ id
    → drop 4 tail ≡ body ++ rest → length tail ≡ 4 + length body + length rest
    → entry_of place n tail ≡ Stands (record { place = place; id = id; body = body }) rest
entered place n id tail body rest e f v d l =
    let a : (n == 0xffffffff) ≡ false = grind (arith, nat_tests) in
    let b : ltb n 4 ≡ false = grind (arith, nat_tests) in
    let c : ltb (length tail) n ≡ false = grind (arith, nat_tests) in
    let k : n - 4 ≡ length body = omega arith in
    rw (a, b, c, v, body-taken (n - 4) tail body rest k d, rest-left n tail body rest e d) refl

front-back : (debug : Bool) (e : RawEntry) (rest : List ℕ) → EntryFits e
    → front_of debug e.place (spelled_entry e ++ rest) ≡ Stands e rest
front-back debug e rest f =
    let whole_is : spelled_entry e ++ rest ≡ little_bytes 4 (length e.body + 4)
    ++ (little_bytes 4 e.id ++ (e.body ++ rest)) =
    append_assoc (little_bytes 4 (length e.body + 4)) (little_bytes 4 e.id ++ e.body) rest
    ∙ ap (λ (l : List ℕ). little_bytes 4 (length e.body + 4) ++ l) (append_assoc (little_bytes 4 e.id) e.body rest) in
    let first = little-front 4 (length e.body + 4) (little_bytes 4 e.id ++ (e.body ++ rest)) (omega (arith, f.size)) in
    let second = little-front 4 e.id (e.body ++ rest) (omega (arith, f.id)) in
    ap (front_of debug e.place) whole_is
    ∙ opened debug e.place (length e.body + 4) (little_bytes 4 (length e.body + 4)
    ++ (little_bytes 4 e.id ++ (e.body ++ rest))) (little_bytes 4 e.id ++ (e.body ++ rest))
    (front_long 4 (little_bytes 4 (length e.body + 4)) (little_bytes 4 e.id ++ (e.body ++ rest))
    (length-little 4 (length e.body + 4))) first.0 first.1 (omega arith)
    ∙ entered e.place (length e.body + 4) e.id (little_bytes 4 e.id ++ (e.body ++ rest)) e.body rest refl f.size second.0
    second.1 (long 4 (little_bytes 4 e.id) e.body rest (length-little 4 e.id)) where
      front_long : (n : ℕ) (xs ys : List ℕ) → length xs ≡ n → n ≤ length (xs ++ ys)
      front_long n xs ys e = grind (arith, length-append {A = ℕ})

      long : (n : ℕ) (xs ys zs : List ℕ) → length xs ≡ n → length (xs ++ (ys ++ zs)) ≡ n + length ys + length zs
      long n xs ys zs e = grind (arith, length-append {A = ℕ})

-- entries whose places follow one another, and whose fields fit
abbrev pub AreFrom : ℕ → List RawEntry → Type 0
AreFrom place [] = Unit {0}
AreFrom place (e ∷ es) = (e.place ≡ place) × EntryFits e × AreFrom (place + 8 + length e.body) es

pub spelled-length : (e : RawEntry) (rest : List ℕ) → length (spelled_entry e ++ rest) ≡ 8 + length e.body + length rest
spelled-length e rest = lengths (little_bytes 4 (length e.body + 4)) (little_bytes 4 e.id) e.body rest
    (length-little 4 (length e.body + 4)) (length-little 4 e.id) where
      lengths : (a b c d : List ℕ) → length a ≡ 4 → length b ≡ 4 → length ((a ++ (b ++ c)) ++ d) ≡ 8 + length c + length d
      lengths a b c d e f = grind (arith, length-append {A = ℕ})

walk-step : (debug : Bool) (n place : ℕ) (left rest : List ℕ) (e : RawEntry) (w : WalkedEntries) → 0 < length left
    → length left ≤ n → front_of debug place left ≡ Stands e rest
    → walk debug (n - 1) (place + 8 + length e.body) rest ≡ w
    → walk debug n place left ≡ record { entries = e ∷ w.entries; broken = w.broken }
unfolding walk
walk-step debug n place [] rest e w l m f r = absurd (omega arith)
walk-step debug zero place (b ∷ bs) rest e w l m f r = absurd (omega arith)
walk-step debug (suc n) place (b ∷ bs) rest e w l m f r = let k : suc n - 1 ≡ n = omega arith in
    ap (λ (x : Front). onward place x (walk debug n)) f
    ∙ ap (λ (x : WalkedEntries). record { entries = e ∷ x.entries; broken = x.broken })
    (ap (λ (m : ℕ). walk debug m (place + 8 + length e.body) rest) (sym k) ∙ r)

walk-end : (debug : Bool) (n place : ℕ) → length (end_mark debug) ≤ n
    → walk debug n place (end_mark debug) ≡ record { entries = []; broken = None }
unfolding walk
walk-end true zero place h = refl
walk-end true (suc n) place h = refl
walk-end false zero place h = absurd (omega arith)
walk-end false (suc n) place h = refl

-- entries in front of bytes at which a walk ends
entries-from : (debug : Bool) (last : List ℕ)
    → ((n place : ℕ) → length last ≤ n → walk debug n place last ≡ record { entries = []; broken = None })
    → (n place : ℕ) (es : List RawEntry) → AreFrom place es → length (spelled_entries es ++ last) ≤ n
    → walk debug n place (spelled_entries es ++ last) ≡ record { entries = es; broken = None }
entries-from debug last at_end n place [] a h = at_end n place h
entries-from debug last at_end n place (e ∷ es) a h =
    let s : (spelled_entry e ++ spelled_entries es) ++ last ≡ spelled_entry e ++ (spelled_entries es ++ last) =
    append_assoc (spelled_entry e) (spelled_entries es) last in
    let l : length ((spelled_entry e ++ spelled_entries es) ++ last)
    ≡ 8 + length e.body + length (spelled_entries es ++ last) =
    ap length s ∙ spelled-length e (spelled_entries es ++ last) in
    let f : front_of debug place ((spelled_entry e ++ spelled_entries es) ++ last)
    ≡ Stands e (spelled_entries es ++ last) =
    ap (front_of debug place) s
    ∙ ap (λ (p : ℕ). front_of debug p (spelled_entry e ++ (spelled_entries es ++ last))) (sym a.0)
    ∙ front-back debug e (spelled_entries es ++ last) a.1 in
    walk-step debug n place ((spelled_entry e ++ spelled_entries es) ++ last)
    (spelled_entries es ++ last) e (record { entries = es; broken = None })
    (positive _ _ _ l) h f (entries-from debug last at_end (n - 1) (place + 8 + length e.body) es a.2 (fewer _ _ _ n l h))
  where
    positive : (x y z : ℕ) → x ≡ 8 + y + z → 0 < x
    positive x y z e = omega arith

    fewer : (x y z n : ℕ) → x ≡ 8 + y + z → x ≤ n → z ≤ n - 1
    fewer x y z n e h = omega arith

pub walked-back : (debug : Bool) (es : List RawEntry) → AreFrom 0 es
    → walked_entries debug (spelled_entries es ++ end_mark debug) ≡ record { entries = es; broken = None }
walked-back debug es a =
    entries-from debug (end_mark debug) (walk-end debug) (length (spelled_entries es ++ end_mark debug)) 0 es a (omega arith)

walk-none : (debug : Bool) (n place : ℕ) → 0 ≤ n → walk debug n place [] ≡ record { entries = []; broken = None }
unfolding walk
walk-none debug zero place h = refl
walk-none debug (suc n) place h = refl

-- with nothing after them
pub walked-alone : (debug : Bool) (es : List RawEntry) → AreFrom 0 es
    → walked_entries debug (spelled_entries es) ≡ record { entries = es; broken = None }
walked-alone debug es a =
    subst (λ (bytes : List ℕ). walked_entries debug bytes ≡ record { entries = es; broken = None })
    (append-nil (spelled_entries es))
    (entries-from debug [] (walk-none debug) (length (spelled_entries es ++ [])) 0 es a (omega arith))
