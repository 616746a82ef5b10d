-- What holds of each entry that is read, through the readers of entries.
use Rattle.std.proofs.Common.{ℕ, ◌+◌, ◌^◌, ◌≡◌, ◌==◌, List, [], ◌∷◌, Option, Some, None, Result, Ok, Err, cond, Bool, true, false, refl}
use Rattle.std.specs.Prelude.{All, Contains, nat_lt}
use Rattle.std.proofs.lemmas.List.Elements.{All-nil, All-cons}
use Rattle.rb_bytes.specs.Readers.{and_then}
use Rattle.rb_bytes.proofs.Searches.{find-found}
use Rattle.rb_bytes.proofs.Tests.{second_of}
use Rattle.table_core.specs.ReadSteps.{and_so}
use Rattle.cfi_rows.specs.declared.instruction.Instruction.{Instruction}
use Rattle.cfi_rows.specs.declared.instruction.Malformed.{Malformed}
use Rattle.cfi_rows.specs.declared.instruction.Malformed.TheVariants.{Entry}
use Rattle.cfi_rows.specs.FrameInstructions.{instructions_at, pointer_at, stored_at}
use Rattle.cfi_rows.specs.Entries.{RawEntry, Cie, Fde, fde_at, fde_sized, fde_from, fde_by, fde_after, fde_context, size_encoding}
use Rattle.cfi_rows.specs.Entries.{table_at, end_of, is_cie, cie_in, cie_place, cie_at, one_cie, one_fde, Frames, frames_from, frames}
use Rattle.cfi_rows.specs.Entries.{walked_entries, sound_if, entry_named, is_named}

module _ (P : Fde → Type 0) where
  abbrev pub IfFde : Result Fde Malformed → Type 0
  IfFde (Ok f) = P f
  IfFde (Err e) = Unit {0}

  pub fde-so : {X : Type 0} (r : Result X Malformed) (f : X → Result Fde Malformed) → ((x : X) → IfFde (f x)) → IfFde (and_so r f)
  fde-so (Ok x) f h = h x
  fde-so (Err e) f h = tt

  fde-then : {X : Type 0} (r : Result (X × List ℕ) Malformed) (f : X → List ℕ → Result Fde Malformed)
      → ((x : X) (l : List ℕ) → IfFde (f x l)) → IfFde (and_then r f)
  fde-then (Ok x) f h = h x.0 x.1
  fde-then (Err e) f h = tt

  fde-cond : (b : Bool) (r : Result Fde Malformed) → IfFde r → IfFde (cond b r (Err Entry))
  fde-cond true r a = a
  fde-cond false r a = tt

  -- an FDE, by what holds of its instructions' rows
  pub fde-read : (cie : Cie) (end : ℕ) (e : RawEntry)
      → ((start size table : ℕ) (is : List Instruction) → IfFde (fde_after cie e.place start size table is)) → IfFde (fde_at cie end e)
  fde-read cie end e h =
      fde-then (pointer_at cie.augmentation.encoding end e.body) (fde_sized cie end e.place) (λ start l1.
      fde-then (stored_at (size_encoding cie.augmentation.encoding) l1) (fde_from cie end e.place start) (λ size l2.
      fde-cond (nat_lt (start + size) (2 ^ 64)) _ (fde-then (table_at cie.augmentation end l2)
      (fde_by cie end e.place start size) (λ table l3.
      fde-so (instructions_at (fde_context cie end) l3) (fde_after cie e.place start size table) (h start size table)))))

  after-cie : (e : RawEntry) (r : Result Cie Malformed) (more : Frames) → All P more.list → All P (one_cie e r more).list
  after-cie e (Ok c) more a = a
  after-cie e (Err x) more a = All-nil P

  after-fde : (e : RawEntry) (r : Result Fde Malformed) (more : Frames) → IfFde r → All P more.list
      → All P (one_fde e r more).list
  after-fde e (Ok f) more h a = All-cons P f more.list h a
  after-fde e (Err x) more h a = All-nil P

  after-either : (b : Bool) (x y : Frames) → All P x.list → All P y.list → All P (cond b x y).list
  after-either true x y a c = a
  after-either false x y a c = c

  all-from : (debug : Bool) (address : ℕ) (all : List RawEntry) (broken : Option ℕ) (es : List RawEntry)
      → ((e : RawEntry) → IfFde (and_so (cie_in debug address all (cie_place debug e)) (λ cie. fde_at cie (end_of address e) e)))
      → All P (frames_from debug address all broken es).list
  all-from debug address all broken [] h = All-nil P
  all-from debug address all broken (e ∷ es) h =
      let more = all-from debug address all broken es h in
      after-either (is_cie debug e) (one_cie e (cie_at (end_of address e) e.body) (frames_from debug address all broken es))
      (one_fde e (and_so (cie_in debug address all (cie_place debug e)) (λ cie. fde_at cie (end_of address e) e))
      (frames_from debug address all broken es))
      (after-cie e (cie_at (end_of address e) e.body) (frames_from debug address all broken es) more)
      (after-fde e (and_so (cie_in debug address all (cie_place debug e)) (λ cie. fde_at cie (end_of address e) e))
      (frames_from debug address all broken es) (h e) more)

  -- every entry of a table
  pub all-read : (debug : Bool) (address : ℕ) (table : List ℕ)
      → ((e : RawEntry) → IfFde (and_so (cie_in debug address (walked_entries debug table).entries (cie_place debug e))
      (λ cie. fde_at cie (end_of address e) e)))
      → All P (frames debug address table).list
  all-read debug address table h =
      all-from debug address (walked_entries debug table).entries (walked_entries debug table).broken
      (walked_entries debug table).entries h

module _ (Q : Cie → Type 0) where
  abbrev pub IfCie : Result Cie Malformed → Type 0
  IfCie (Ok c) = Q c
  IfCie (Err e) = Unit {0}

  pub cie-so : {X : Type 0} (r : Result X Malformed) (f : X → Result Cie Malformed) → ((x : X) → IfCie (f x)) → IfCie (and_so r f)
  cie-so (Ok x) f h = h x
  cie-so (Err e) f h = tt

-- the CIE entry that is named is one of the entries
named-found : (debug : Bool) (all : List RawEntry) (place : Option ℕ) (y : RawEntry) → entry_named debug all place ≡ Some y
    → Contains all y × (is_cie debug y ≡ true)
named-found debug all None y e = absurd (cc)
named-found debug all (Some place) y e =
    let found = find-found (is_named debug place) all y e in
    (found.1, second_of (y.place == place) (is_cie debug y) found.0)

module _ (P : Fde → Type 0) (Q : Cie → Type 0) where
  by-cie : (end : ℕ) (e : RawEntry) (r : Result Cie Malformed) → IfCie Q r → ((c : Cie) → Q c → IfFde P (fde_at c end e))
      → IfFde P (and_so r (λ cie. fde_at cie end e))
  by-cie end e (Ok c) q h = h c q
  by-cie end e (Err x) q h = tt

  by-entry : (address end : ℕ) (e : RawEntry) (o : Option RawEntry)
      → ((y : RawEntry) → o ≡ Some y → IfCie Q (cie_at (end_of address y) y.body)) → ((c : Cie) → Q c → IfFde P (fde_at c end e))
      → IfFde P (and_so (and_so (sound_if o) (λ y. cie_at (end_of address y) y.body)) (λ cie. fde_at cie end e))
  by-entry address end e None q h = tt
  by-entry address end e (Some y) q h = by-cie end e (cie_at (end_of address y) y.body) (q y refl) h

  -- every entry of a table, by what holds of its CIE
  pub all-by-cie : (debug : Bool) (address : ℕ) (table : List ℕ)
      → ((y : RawEntry) → Contains (walked_entries debug table).entries y → is_cie debug y ≡ true →
      IfCie Q (cie_at (end_of address y) y.body))
      → ((c : Cie) (end : ℕ) (e : RawEntry) → Q c → IfFde P (fde_at c end e)) → All P (frames debug address table).list
  all-by-cie debug address table q h = all-read P debug address table (λ e.
      by-entry address (end_of address e) e (entry_named debug (walked_entries debug table).entries (cie_place debug e))
      (λ y is. let n = named-found debug (walked_entries debug table).entries (cie_place debug e) y is in q y n.0 n.1)
      (λ c. h c (end_of address e) e))
