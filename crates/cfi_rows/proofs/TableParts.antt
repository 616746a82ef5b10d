-- A table entry by entry.
use Rattle.std.proofs.Common.{◌≡◌, ◌∙◌, ◌+◌, ◌++◌, ℕ, Bool, false, cond, List, [], ◌∷◌, Result, Ok, Err, Option, Some, None, refl, sym, ap}
use Rattle.std.proofs.Common.{arith, append_assoc, drop, get_or, length, ◌-◌, ◌<◌}
use Rattle.std.proofs.lemmas.List.{drop_more}
use Rattle.std.specs.Prelude.{IsOkAnd, map}
use Rattle.table_core.specs.ReadSteps.{and_so}
use Rattle.cfi_rows.specs.declared.kept_cie.Cie.{Cie as Kept}
use Rattle.cfi_rows.specs.declared.frame_table.Fde.{Fde as ReadFde}
use Rattle.cfi_rows.specs.declared.instruction.Malformed.{Malformed}
use Rattle.cfi_rows.specs.ReadEntries.{fde_of}
use Rattle.cfi_rows.specs.Entries.{Cie, Fde, Frames, RawEntry, cie_at, cie_in, cie_place, end_of, entry_named, fde_at}
use Rattle.cfi_rows.specs.Entries.{frames_from, is_cie, one_cie, one_fde, sound_if}
use Rattle.cfi_rows.specs.KeptCies.{IsKeptCie, cie_of}
use Rattle.cfi_rows.specs.KeptTables.{KeptAs, KeptFor, fde_in, said, joined}

-- FDEs

pub record FoundCie (debug : Bool) (address : ℕ) (es : List RawEntry) (p : ℕ) (k : Kept) : Type 0 where
  pub cie : Cie
  pub cie_is : cie_in debug address es (Some p) ≡ Ok cie
  pub kept : IsKeptCie k cie

found-cie : (k : Kept) (r : Result Cie Malformed) → KeptAs (Some k) r → IsOkAnd r (IsKeptCie k)
found-cie k (Ok c) h = h
found-cie k (Err e) h = absurd h

ok-cie : (debug : Bool) (address : ℕ) (es : List RawEntry) (p : ℕ) (k : Kept) (r : Result Cie Malformed) →
    cie_in debug address es (Some p) ≡ r →
    IsOkAnd r (IsKeptCie k) → FoundCie debug address es p k
ok-cie debug address es p k (Ok c) e h = record { cie = c; cie_is = e; kept = h }
ok-cie debug address es p k (Err x) e h = absurd h

ok-named : (address : ℕ) (k : Kept) (o : Option RawEntry) → KeptFor address (Some (Some k)) o →
    IsOkAnd (and_so (sound_if o) (λ e. cie_at (end_of address e) e.body)) (IsKeptCie k)
ok-named address k None h = absurd h
ok-named address k (Some e) h = found-cie k (cie_at (end_of address e) e.body) h

pub found : (debug : Bool) (address : ℕ) (es : List RawEntry) (p : ℕ) (k : Kept) →
    KeptFor address (Some (Some k)) (entry_named debug es (Some p)) →
    FoundCie debug address es p k
found debug address es p k h = ok-cie debug address es p k (cie_in debug address es (Some p)) refl
    (ok-named address k (entry_named debug es (Some p)) h)

pub fde-is : (debug : Bool) (address : ℕ) (es : List RawEntry) (e : RawEntry) (p : ℕ) (k : Kept) → cie_place debug e ≡ Some p →
    (c : FoundCie debug address es p k) → fde_in debug address es e ≡ fde_at (cie_of k c.cie.instructions c.cie.known)
    (end_of address e) e
fde-is debug address es e p k f c =
    ap (λ o. and_so (cie_in debug address es o) (λ cie. fde_at cie (end_of address e) e)) f
    ∙ ap (λ r. and_so r (λ cie. fde_at cie (end_of address e) e)) c.cie_is
    ∙ ap (λ cie. fde_at cie (end_of address e) e) c.kept.same

-- One entry after another

fde-more : (n : ℕ) (fs : List ReadFde) (e : RawEntry) (more : Frames) (f : ReadFde) (r : Result Fde Malformed) →
    IsOkAnd r (λ x. f ≡ fde_of x) →
    joined n fs (said (one_fde e r more)) ≡ joined n (fs ++ f ∷ []) (said more)
fde-more n fs e more f (Ok x) h = λ i. record {
  cies = n + more.cies;
  list = (ap (λ (y : ReadFde). fs ++ y ∷ map fde_of more.list) (sym h) ∙ sym (append_assoc fs (f ∷ []) (map fde_of more.list))) i;
  bad = more.bad;
}
fde-more n fs e more f (Err x) h = absurd h

branch : (debug : Bool) (address : ℕ) (all : List RawEntry) (broken : Option ℕ) (e : RawEntry) (es : List RawEntry) (n : ℕ)
    (fs : List ReadFde) (b : Bool) →
    is_cie debug e ≡ b →
    joined n fs (said (frames_from debug address all broken (e ∷ es))) ≡
    joined n fs (said (cond b (one_cie e (cie_at (end_of address e) e.body) (frames_from debug address all broken es))
    (one_fde e (fde_in debug address all e) (frames_from debug address all broken es))))
branch debug address all broken e es n fs b h =
    ap (λ b. joined n fs (said (cond b (one_cie e (cie_at (end_of address e) e.body) (frames_from debug address all broken es))
    (one_fde e (fde_in debug address all e) (frames_from debug address all broken es))))) h

pub fde-next : (debug : Bool) (address : ℕ) (all : List RawEntry) (broken : Option ℕ) (e : RawEntry) (es : List RawEntry) (n : ℕ)
    (fs : List ReadFde) (f : ReadFde) →
    is_cie debug e ≡ false → IsOkAnd (fde_in debug address all e) (λ x. f ≡ fde_of x) →
    joined n fs (said (frames_from debug address all broken (e ∷ es))) ≡ joined n (fs ++ f ∷ [])
    (said (frames_from debug address all broken es))
fde-next debug address all broken e es n fs f b h =
    branch debug address all broken e es n fs false b ∙ fde-more n fs e (frames_from debug address all broken es) f
    (fde_in debug address all e) h

-- Loops

pub last-is : {X : Type 0} (xs : List X) (count : ℕ) (d : X) → count < length xs →
    drop (length xs - (count + 1)) xs ≡ get_or xs (length xs - 1 - count) d ∷ drop (length xs - count) xs
last-is xs count d h =
    let a : length xs - (count + 1) ≡ length xs - 1 - count = omega arith in
    let b : length xs - 1 - count + 1 ≡ length xs - count = omega arith in
    let l : length xs - 1 - count < length xs = omega arith in
    ap (λ n. drop n xs) a ∙ drop_more xs (length xs - 1 - count) d l
    ∙ ap (λ n. get_or xs (length xs - 1 - count) d ∷ drop n xs) b
