-- The kinds of frames of a table that was read come from its CIEs, so there are no more of them.
use Rattle.std.proofs.Common.{ℕ, suc, ◌+◌, ◌≤◌, ◌<◌, ◌≡◌, ◌==◌, ◌||◌, ◌⊎◌, inl, inr, List, [], ◌∷◌, Option, Some, None, Result, Ok, Err}
use Rattle.std.proofs.Common.{cond, Bool, true, false, refl, sym, ◌∙◌, ap, subst, arith, length, map}
use Rattle.std.specs.Prelude.{All, Contains, slice_get}
use Rattle.std.specs.List.{list_any, position_or_len, IsDistinct, AllByRecursion}
use Rattle.std.proofs.lemmas.Bool.Decides.{nat_tests}
use Rattle.std.proofs.lemmas.Grind.{common_steps}
use Rattle.std.proofs.lemmas.List.Elements.{All-head, All-tail}
use Rattle.std.proofs.lemmas.Map.Steps.{length-le_from_distinct_below}
use Rattle.rb_bytes.proofs.Members.{Contains-nil, Contains-cons_cases, Contains-there}
use Rattle.table_core.specs.ReadSteps.{and_so}
use Rattle.cfi_rows.specs.declared.instruction.Malformed.{Malformed}
use Rattle.cfi_rows.specs.FrameRows.{rows, begins}
use Rattle.cfi_rows.specs.Entries.{RawEntry, Cie, Fde, Frames, frames, frames_from, walked_entries, one_cie, one_fde, is_cie}
use Rattle.cfi_rows.specs.Entries.{cie_in, cie_place, cie_at, end_of, fde_at, fde_made, sound_if}
use Rattle.frame_rewrite.specs.declared.cie_key.CieKey.{CieKey}
use Rattle.frame_rewrite.specs.SpelledFrames.{is_key}
use Rattle.frame_rewrite.proofs.Appends.{pos-true, pos-false}
use Rattle.frame_rewrite.proofs.KeyLists.{key-found, key-itself}
use Rattle.frame_rewrite.proofs.ReadEntries.{IfFde, IfCie, fde-so, fde-read, all-by-cie}

-- the CIEs of entries, as far as they are sound
abbrev with_cie : Result Cie Malformed → List Cie → List Cie
with_cie (Ok c) cs = c ∷ cs
with_cie (Err e) cs = cs

abbrev pub cies_of : (debug : Bool) → ℕ → List RawEntry → List Cie
cies_of debug address [] = []
cies_of debug address (e ∷ es) =
    cond (is_cie debug e) (with_cie (cie_at (end_of address e) e.body) (cies_of debug address es)) (cies_of debug address es)

-- How many there are

cie-count : (e : RawEntry) (r : Result Cie Malformed) (more : Frames) (cs : List Cie) → (one_cie e r more).bad ≡ None
    → (more.bad ≡ None → more.cies ≡ length cs) → (one_cie e r more).cies ≡ length (with_cie r cs)
cie-count e (Ok c) more cs b h = plus more.cies (length cs) (h b) where
  plus : (n m : ℕ) → n ≡ m → n + 1 ≡ suc m
  plus n m e = omega arith
cie-count e (Err x) more cs b h = absurd (some_none e.place b) where
  some_none : (n : ℕ) → ◌≡◌ {A = Option ℕ} (Some n) None → ⊥
  some_none n e = cc

fde-count : (e : RawEntry) (r : Result Fde Malformed) (more : Frames) (n : ℕ) → (one_fde e r more).bad ≡ None
    → (more.bad ≡ None → more.cies ≡ n) → (one_fde e r more).cies ≡ n
fde-count e (Ok f) more n b h = h b
fde-count e (Err x) more n b h = absurd (some_none e.place b) where
  some_none : (n : ℕ) → ◌≡◌ {A = Option ℕ} (Some n) None → ⊥
  some_none n e = cc

either-count : (b : Bool) (x y : Frames) (xs ys : List Cie) → (cond b x y).bad ≡ None → (x.bad ≡ None → x.cies ≡ length xs)
    → (y.bad ≡ None → y.cies ≡ length ys) → (cond b x y).cies ≡ length (cond b xs ys)
either-count true x y xs ys b f g = f b
either-count false x y xs ys b f g = g b

from-count : (debug : Bool) (address : ℕ) (all : List RawEntry) (broken : Option ℕ) (es : List RawEntry)
    → (frames_from debug address all broken es).bad ≡ None
    → (frames_from debug address all broken es).cies ≡ length (cies_of debug address es)
from-count debug address all broken [] b = refl
from-count debug address all broken (e ∷ es) b =
    either-count (is_cie debug e) (one_cie e (cie_at (end_of address e) e.body) (frames_from debug address all broken es))
    (one_fde e (and_so (cie_in debug address all (cie_place debug e)) (λ cie. fde_at cie (end_of address e) e))
    (frames_from debug address all broken es))
    (with_cie (cie_at (end_of address e) e.body) (cies_of debug address es)) (cies_of debug address es) b
    (λ x. cie-count e (cie_at (end_of address e) e.body) (frames_from debug address all broken es) (cies_of debug address es) x
    (from-count debug address all broken es))
    (λ x. fde-count e (and_so (cie_in debug address all (cie_place debug e)) (λ cie. fde_at cie (end_of address e) e))
    (frames_from debug address all broken es)
    (length (cies_of debug address es)) x (from-count debug address all broken es))

-- The CIE of each FDE is among them

here-in : (c : Cie) (b : Bool) (r : Result Cie Malformed) (ks : List Cie) → b ≡ true → r ≡ Ok c → Contains (cond b (with_cie r ks) ks) c
here-in c true (Ok d) ks e f = (0, omega arith, same f) where
  same : ◌≡◌ {A = Result Cie Malformed} (Ok d) (Ok c) → d ≡ c
  same e = cc
here-in c true (Err x) ks e f = absurd (cc)
here-in c false r ks e f = absurd (cc)

there-in : (c : Cie) (b : Bool) (r : Result Cie Malformed) (ks : List Cie) → Contains ks c → Contains (cond b (with_cie r ks) ks) c
there-in c true (Ok d) ks h = Contains-there d ks c h
there-in c true (Err x) ks h = h
there-in c false r ks h = h

cie-in : (debug : Bool) (address : ℕ) (es : List RawEntry) (e : RawEntry) (c : Cie) → Contains es e → is_cie debug e ≡ true
    → cie_at (end_of address e) e.body ≡ Ok c → Contains (cies_of debug address es) c
cie-in debug address [] e c h t r = absurd (Contains-nil e h)
cie-in debug address (x ∷ xs) e c h t r = either (Contains-cons_cases x xs e h) (λ g. cie-in debug address xs e c g t r) where
  either : (x ≡ e) ⊎ Contains xs e → (Contains xs e → Contains (cies_of debug address xs) c) → Contains (cies_of debug address (x ∷ xs)) c
  either (inl same) later =
      here-in c (is_cie debug x) (cie_at (end_of address x) x.body) (cies_of debug address xs) (ap (is_cie debug) same ∙ t)
      (ap (λ (y : RawEntry). cie_at (end_of address y) y.body) same ∙ r)
  either (inr there) later = there-in c (is_cie debug x) (cie_at (end_of address x) x.body) (cies_of debug address xs) (later there)

abbrev pub HasCie : (debug : Bool) → ℕ → List RawEntry → Fde → Type 0
HasCie debug address all f = Contains (cies_of debug address all) f.cie

module _ (debug : Bool) (address : ℕ) (all : List RawEntry) where
  abbrev Among : Cie → Type 0
  Among c = Contains (cies_of debug address all) c

  named : (y : RawEntry) (r : Result Cie Malformed) → cie_at (end_of address y) y.body ≡ r → Contains all y → is_cie debug y ≡ true
      → IfCie Among r
  named y (Ok c) e h t = cie-in debug address all y c h t e
  named y (Err x) e h t = tt

  fde-cie : (c : Cie) (end : ℕ) (e : RawEntry) → Among c → IfFde (HasCie debug address all) (fde_at c end e)
  fde-cie c end e h = fde-read (HasCie debug address all) c end e (λ start size table is.
      fde-so (HasCie debug address all) (sound_if (rows c.known.rules is (begins start c.known)))
      (fde_made c e.place start size table is) (λ rs. h))

pub read-cies : (debug : Bool) (address : ℕ) (table : List ℕ)
    → All (HasCie debug address (walked_entries debug table).entries) (frames debug address table).list
read-cies debug address table =
    all-by-cie (HasCie debug address (walked_entries debug table).entries) (Among debug address (walked_entries debug table).entries)
    debug address table (λ y h t. named debug address (walked_entries debug table).entries y (cie_at (end_of address y) y.body) refl h t)
    (fde-cie debug address (walked_entries debug table).entries)

pub count-cies : (debug : Bool) (address : ℕ) (table : List ℕ) → (frames debug address table).bad ≡ None
    → (frames debug address table).cies ≡ length (cies_of debug address (walked_entries debug table).entries)
count-cies debug address table b = from-count debug address (walked_entries debug table).entries (walked_entries debug table).broken
    (walked_entries debug table).entries b

-- Different keys among some kinds are no more than these

module _ (ys : List CieKey) where
  abbrev at : CieKey → ℕ
  at k = position_or_len (is_key k) ys

at-below : (k : CieKey) (ys : List CieKey) → Contains ys k → at ys k < length ys
at-below k [] h = absurd (Contains-nil k h)
at-below k (y ∷ ys) h = one (is_key k y) refl (Contains-cons_cases y ys k h) (at-below k ys) where
  one : (b : Bool) → is_key k y ≡ b → (y ≡ k) ⊎ Contains ys k → (Contains ys k → at ys k < length ys) → at (y ∷ ys) k < length (y ∷ ys)
  one true t c later = let z : at (y ∷ ys) k ≡ 0 = pos-true (is_key k) y ys t in omega arith
  one false t (inl same) later = absurd (clash (is_key k y) (ap (is_key k) same ∙ key-itself k) t) where
    clash : (b : Bool) → b ≡ true → b ≡ false → ⊥
    clash b e f = cc
  one false t (inr there) later =
      let z : at (y ∷ ys) k ≡ 1 + at ys k = pos-false (is_key k) y ys t in
      let l : at ys k < length ys = later there in
      omega arith

at-once : (ys : List CieKey) (x y : CieKey) → Contains ys x → Contains ys y → at ys x ≡ at ys y → x ≡ y
at-once ys x y h g e = same x y (sym (key-found x ys (at-below x ys h)) ∙ ap (slice_get ys) e ∙ key-found y ys (at-below y ys g)) where
  same : (x y : CieKey) → Some x ≡ Some y → x ≡ y
  same x y e = cc

apart : (e : CieKey → CieKey → Bool) → ((x : CieKey) → e x x ≡ true) → (ys : List CieKey) (x y : CieKey) → Contains ys x → Contains ys y →
    e x y ≡ false
    → (at ys x == at ys y) ≡ false
apart e itself ys x y h g f = one (at ys x == at ys y) refl where
  told : (a b : ℕ) → (a == b) ≡ true → a ≡ b
  told a b t = grind (arith, nat_tests)

  clash : (b : Bool) → b ≡ true → b ≡ false → ⊥
  clash b x y = cc

  one : (b : Bool) → (at ys x == at ys y) ≡ b → b ≡ false
  one true t = absurd (clash (e x y) (ap (e x) (sym (at-once ys x y h g (told _ _ t))) ∙ itself x) f)
  one false t = refl

heads-apart : (e : CieKey → CieKey → Bool) → ((x : CieKey) → e x x ≡ true) → (ys : List CieKey) (x : CieKey) (xs : List CieKey) →
    Contains ys x → All (Contains ys) xs
    → AllByRecursion (λ y. e x y ≡ false) xs → AllByRecursion (λ n. (at ys x == n) ≡ false) (map (at ys) xs)
heads-apart e itself ys x [] h a f = tt
heads-apart e itself ys x (y ∷ xs) h a f =
    (apart e itself ys x y h (All-head (Contains ys) y xs a) f.0, heads-apart e itself ys x xs h (All-tail (Contains ys) y xs a) f.1)

all-apart : (e : CieKey → CieKey → Bool) → ((x : CieKey) → e x x ≡ true) → (ys xs : List CieKey) → All (Contains ys) xs →
    IsDistinct e xs → IsDistinct ◌==◌ (map (at ys) xs)
unfolding IsDistinct
all-apart e itself ys [] a d = tt
all-apart e itself ys (x ∷ xs) a d = (
  heads-apart e itself ys x xs (All-head (Contains ys) x xs a) (All-tail (Contains ys) x xs a) d.0,
  all-apart e itself ys xs
      (All-tail (Contains ys) x xs a) d.1,
)

all-below : (ys xs : List CieKey) → All (Contains ys) xs → (q : ℕ) → list_any (λ n. q == n) (map (at ys) xs) ≡ true → q < length ys
all-below ys [] a q t = absurd (cc)
all-below ys (x ∷ xs) a q t = one (q == at ys x) refl (all-below ys xs (All-tail (Contains ys) x xs a) q) where
  told : (a b : ℕ) → (a == b) ≡ true → a ≡ b
  told a b t = grind (arith, nat_tests)

  one : (b : Bool) → (q == at ys x) ≡ b → (list_any (λ n. q == n) (map (at ys) xs) ≡ true → q < length ys) → q < length ys
  one true e later = subst (λ (n : ℕ). n < length ys) (sym (told q (at ys x) e)) (at-below x ys (All-head (Contains ys) x xs a))
  one false e later = later (sym (ap (λ (b : Bool). b || list_any (λ n. q == n) (map (at ys) xs)) e) ∙ t)

pub few-keys : (e : CieKey → CieKey → Bool) → ((x : CieKey) → e x x ≡ true) → (ys xs : List CieKey) → All (Contains ys) xs →
    IsDistinct e xs → length xs ≤ length ys
few-keys e itself ys xs a d =
    subst (λ (n : ℕ). n ≤ length ys) (mapped xs) (length-le_from_distinct_below (map (at ys) xs) (length ys)
    (all-apart e itself ys xs a d) (all-below ys xs a)) where
      mapped : (xs : List CieKey) → length (map (at ys) xs) ≡ length xs
      mapped xs = grind (arith, common_steps)
