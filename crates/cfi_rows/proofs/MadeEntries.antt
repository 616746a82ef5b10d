-- The entries that are read are made: their instructions describe their rows.
use Rattle.std.proofs.Common.{◌≡◌, ℕ, ◌+◌, ◌⊎◌, ◌^◌, inl, inr, List, [], ◌∷◌, refl, ap, subst}
use Rattle.std.proofs.Common.{Option, Some, None, Result, Ok, Err, Bool, true, false, cond}
use Rattle.std.specs.Prelude.{Contains, nat_lt}
use Rattle.rb_bytes.specs.Readers.{and_then}
use Rattle.rb_bytes.proofs.Members.{Contains-nil, Contains-cons_cases}
use Rattle.table_core.specs.ReadSteps.{and_so}
use Rattle.cfi_rows.specs.declared.instruction.Malformed.{Malformed}
use Rattle.cfi_rows.specs.declared.instruction.Malformed.TheVariants.{Entry}
use Rattle.cfi_rows.specs.declared.instruction.Instruction.{Instruction}
use Rattle.cfi_rows.specs.FrameInstructions.{instructions_at, pointer_at, stored_at}
use Rattle.cfi_rows.specs.FrameRows.{Known, PlacedRow, rows, begins, known_after, nothing_known}
use Rattle.cfi_rows.specs.Entries.{RawEntry, Cie, Fde, Head, cie_at, cie_by, cie_after, cie_made, head_at, head_context, sound_if}
use Rattle.cfi_rows.specs.Entries.{fde_at, fde_sized, fde_from, fde_by, fde_after, fde_made, fde_context, table_at, size_encoding}
use Rattle.cfi_rows.specs.Entries.{one_cie, one_fde, frames_from, frames, walked_entries, cie_in, entry_named, cie_place, is_cie, end_of}

-- its instructions describe its rows, from the state after its CIE
pub record IsMade (f : Fde) : Type 0 where
  pub rows_are : rows f.cie.known.rules f.instructions (begins f.start f.cie.known) ≡ Some f.rows
  pub cie_known : known_after f.cie.instructions (Some (begins 0 nothing_known)) ≡ Some f.cie.known

record FromSo {E X Y : Type 0} (x : Result X E) (next : X → Result Y E) (y : Y) : Type 0 where
  of : X
  is : x ≡ Ok of
  then_is : next of ≡ Ok y

from_so : {E X Y : Type 0} (x : Result X E) (next : X → Result Y E) (y : Y) → and_so x next ≡ Ok y → FromSo x next y
from_so (Ok a) next y e = record { of = a; is = refl; then_is = e }
from_so (Err z) next y e = absurd (cc)

record FromThen {E X Y : Type 0} (x : Result (X × List ℕ) E) (next : X → List ℕ → Result Y E) (y : Y) : Type 0 where
  of : X
  rest : List ℕ
  then_is : next of rest ≡ Ok y

from_then : {E X Y : Type 0} (x : Result (X × List ℕ) E) (next : X → List ℕ → Result Y E) (y : Y) → and_then x next ≡ Ok y →
    FromThen x next y
from_then (Ok a) next y e = record { of = a.0; rest = a.1; then_is = e }
from_then (Err z) next y e = absurd (cc)

from_sound : {X : Type 0} (o : Option X) (x : X) → sound_if o ≡ Ok x → o ≡ Some x
from_sound (Some a) x e = cc
from_sound None x e = absurd (cc)

abbrev IsKnownCie : Cie → Type 0
IsKnownCie cie = known_after cie.instructions (Some (begins 0 nothing_known)) ≡ Some cie.known

cie_is : (end : ℕ) (body : List ℕ) (cie : Cie) → cie_at end body ≡ Ok cie → IsKnownCie cie
cie_is end body cie e =
    let a = from_so (head_at end body) (cie_by end) cie e in
    let b = from_so (instructions_at (head_context end a.of.0) a.of.1) (cie_after a.of.0) cie a.then_is in
    let c = from_so (sound_if (known_after b.of (Some (begins 0 nothing_known)))) (cie_made a.of.0 b.of) cie b.then_is in
    let k = from_sound (known_after b.of (Some (begins 0 nothing_known))) c.of c.is in
    made a.of.0 b.of c.of k c.then_is
  where
    made : (h : Head) (is : List Instruction) (known : Known) → known_after is (Some (begins 0 nothing_known)) ≡ Some known →
        cie_made h is known ≡ Ok cie → IsKnownCie cie
    made h is known k e =
        let same : record {
          code = h.code;
          «data» = h.«data»;
          ra = h.ra;
          augmentation = h.augmentation;
          instructions = is;
          known = known;
        } ≡ cie = cc in
        subst (λ (c : Cie). IsKnownCie c) same k

fde_is : (cie : Cie) (end : ℕ) (e : RawEntry) (f : Fde) → IsKnownCie cie → fde_at cie end e ≡ Ok f → IsMade f
fde_is cie end e f known eq =
    let a = from_then (pointer_at cie.augmentation.encoding end e.body) (fde_sized cie end e.place) f eq in
    let b = from_then (stored_at (size_encoding cie.augmentation.encoding) a.rest) (fde_from cie end e.place a.of) f a.then_is in
    by a.of b.of b.rest (nat_lt (a.of + b.of) (2 ^ 64)) b.then_is
  where
    made : (start size table : ℕ) (is : List Instruction) (rs : List PlacedRow) →
        rows cie.known.rules is (begins start cie.known) ≡ Some rs → fde_made cie e.place start size table is rs ≡ Ok f → IsMade f
    made start size table is rs k h =
        let same : record {
          place = e.place;
          start = start;
          end = start + size;
          table = table;
          cie = cie;
          instructions = is;
          rows = rs;
        } ≡ f = cc in
        subst (λ (g : Fde). IsMade g) same (record { rows_are = k; cie_known = known })

    by : (start size : ℕ) (left : List ℕ) (b : Bool) →
        cond b (and_then (table_at cie.augmentation end left) (fde_by cie end e.place start size)) (Err Entry) ≡ Ok f → IsMade f
    by start size left false h = absurd (cc)
    by start size left true h =
        let a = from_then (table_at cie.augmentation end left) (fde_by cie end e.place start size) f h in
        let b = from_so (instructions_at (fde_context cie end) a.rest) (fde_after cie e.place start size a.of) f a.then_is in
        let c = from_so (sound_if (rows cie.known.rules b.of (begins start cie.known))) (fde_made cie e.place start size a.of b.of) f
        b.then_is in
        made start size a.of b.of c.of (from_sound (rows cie.known.rules b.of (begins start cie.known)) c.of c.is) c.then_is

cie_found : (debug : Bool) (address : ℕ) (entries : List RawEntry) (place : Option ℕ) (cie : Cie) →
    cie_in debug address entries place ≡ Ok cie →
    IsKnownCie cie
cie_found debug address entries place cie e =
    let a = from_so (sound_if (entry_named debug entries place)) (λ e. cie_at (end_of address e) e.body) cie e in
    cie_is (end_of address a.of) a.of.body cie a.then_is

made_from : (debug : Bool) (address : ℕ) (all : List RawEntry) (broken : Option ℕ) (es : List RawEntry) (f : Fde) →
    Contains (frames_from debug address all broken es).list f → IsMade f
made_from debug address all broken [] f c = absurd (Contains-nil f c)
made_from debug address all broken (e ∷ es) f c = by (made_from debug address all broken es f) (is_cie debug e) c where
  as_cie : (Contains (frames_from debug address all broken es).list f → IsMade f) → (r : Result Cie Malformed) →
      Contains (one_cie e r (frames_from debug address all broken es)).list f → IsMade f
  as_cie more (Ok cie) d = more d
  as_cie more (Err x) d = absurd (Contains-nil f d)

  as_fde : (Contains (frames_from debug address all broken es).list f → IsMade f) → (r : Result Fde Malformed) →
      ((g : Fde) → r ≡ Ok g → IsMade g) → Contains (one_fde e r (frames_from debug address all broken es)).list f → IsMade f
  as_fde more (Err x) made d = absurd (Contains-nil f d)
  as_fde more (Ok g) made d = pick (Contains-cons_cases g (frames_from debug address all broken es).list f d) where
    pick : (g ≡ f) ⊎ Contains (frames_from debug address all broken es).list f → IsMade f
    pick (inl same) = made f (ap (λ (h : Fde). Ok h) same)
    pick (inr k) = more k

  one : (g : Fde) → and_so (cie_in debug address all (cie_place debug e)) (λ cie. fde_at cie (end_of address e) e) ≡ Ok g → IsMade g
  one g h =
      let a = from_so (cie_in debug address all (cie_place debug e)) (λ cie. fde_at cie (end_of address e) e) g h in
      fde_is a.of (end_of address e) e g (cie_found debug address all (cie_place debug e) a.of a.is) a.then_is

  by : (Contains (frames_from debug address all broken es).list f → IsMade f) → (b : Bool) → Contains (cond b
      (one_cie e (cie_at (end_of address e) e.body) (frames_from debug address all broken es))
      (one_fde e (and_so (cie_in debug address all (cie_place debug e)) (λ cie. fde_at cie (end_of address e) e))
      (frames_from debug address all broken es))).list f → IsMade f
  by more true d = as_cie more (cie_at (end_of address e) e.body) d
  by more false d = as_fde more (and_so (cie_in debug address all (cie_place debug e)) (λ cie. fde_at cie (end_of address e) e)) one d

pub are_made : (debug : Bool) (address : ℕ) (table : List ℕ) (f : Fde) → Contains (frames debug address table).list f → IsMade f
are_made debug address table f c =
    made_from debug address (walked_entries debug table).entries (walked_entries debug table).broken (walked_entries debug table).entries
    f c
