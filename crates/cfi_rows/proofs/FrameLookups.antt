-- The rows of all entries of a table, in the order of its list.
use Rattle.std.proofs.Common.{◌≡◌, ◌∙◌, ◌+◌, ◌<◌, ◌≤◌, ◌++◌, ℕ, zero, suc, Bool, List, [], ◌∷◌, map, take, length, get_or, Option, Some}
use Rattle.std.proofs.Common.{None, option_map, Result, Ok, Err, refl, sym, ap, subst, arith}
use Rattle.std.specs.Prelude.{slice_get, IfOk, IfErr, IsOkAnd}
use Rattle.std.proofs.lemmas.List.{length-map, take_all}
use Rattle.std.proofs.lemmas.Option.{none-some, same_Some, slice_get-map, slice_get-get_or}
use Rattle.table_core.specs.ReadSteps.{and_so}
use Rattle.table_core.specs.Sections.{Held}
use Rattle.cfi_rows.specs.declared.frame_table.Fde.{Fde as ReadFde}
use Rattle.cfi_rows.specs.declared.instruction.Malformed.{Malformed}
use Rattle.cfi_rows.specs.declared.instruction.Malformed.TheVariants.{Entry}
use Rattle.cfi_rows.specs.declared.failed.Failed.{Failed}
use Rattle.cfi_rows.specs.declared.failed.Failed.TheVariants as failed
use Rattle.cfi_rows.specs.Reads.{Fails}
use Rattle.cfi_rows.specs.Entries.{Cie, Fde, RawEntry, cie_place, end_of, fde_at, sound_if}
use Rattle.cfi_rows.specs.declared.cie_program.CieProgram.{CieProgram}
use Rattle.cfi_rows.specs.declared.program.Program.{Program}
use Rattle.cfi_rows.specs.FramePrograms.{entry_standing, cie_standing, fde_standing, IsCieProgram, IsProgram, rows_of as program_rows}
use Rattle.cfi_rows.specs.FrameRows.{PlacedRow}
use Rattle.cfi_rows.specs.ReadEntries.{fde_of}
use Rattle.cfi_rows.proofs.StandingEntries.{place-at}

take-more : {X : Type 0} (xs : List X) (k : ℕ) (x : X) → slice_get xs k ≡ Some x → take (suc k) xs ≡ take k xs ++ x ∷ []
take-more [] k x e = absurd (cc)
take-more {X} (y ∷ ys) zero x e = ap (λ (z : X). z ∷ []) (same_Some _ _ e)
take-more {X} (y ∷ ys) (suc k) x e = ap (λ (zs : List X). y ∷ zs) (take-more ys k x e)

abbrev rows_of : Fde → List PlacedRow
rows_of f = f.rows

told-rows : (r : Result Fde Malformed) (f : Fde) (rows : List PlacedRow) → r ≡ Ok f → IfOk r (λ f. f.rows ≡ rows) → f.rows ≡ rows
told-rows r f rows e h = subst (λ (r : Result Fde Malformed). IfOk r (λ f. f.rows ≡ rows)) e h

mapped : (xs : List Fde) (f : Fde) → map rows_of (xs ++ f ∷ []) ≡ map rows_of xs ++ f.rows ∷ []
mapped [] f = refl
mapped (x ∷ xs) f = ap (λ (rs : List (List PlacedRow)). x.rows ∷ rs) (mapped xs f)

pub rows-more : (debug : Bool) (t : Held) (fs : List Fde) (list : List ReadFde) (k : ℕ) (d : ReadFde) (rows : List PlacedRow)
    (old new : List (List PlacedRow)) → k < length list → list ≡ map fde_of fs
    → ((i : ℕ) (f : Fde) → slice_get fs i ≡ Some f → fde_standing debug t f.place ≡ Ok f)
    → IfOk (fde_standing debug t (get_or list k d).place) (λ f. f.rows ≡ rows)
    → old ≡ map rows_of (take k fs) → new ≡ old ++ rows ∷ [] → new ≡ map rows_of (take (k + 1) fs)
rows-more debug t fs list k d rows old new l e stands h o n = by (slice_get fs k) refl where
  one : k + 1 ≡ suc k
  one = omega arith

  by : (f : Option Fde) → slice_get fs k ≡ f → new ≡ map rows_of (take (k + 1) fs)
  by None f = absurd (none-some (get_or list k d) (sym (ap (option_map fde_of) f) ∙ sym (slice_get-map fde_of fs k)
      ∙ ap (λ (xs : List ReadFde). slice_get xs k) (sym e) ∙ slice_get-get_or list k d l))
  by (Some f) s =
      let place = place-at fs list k f d (sym e) s in
      let same = told-rows (fde_standing debug t (get_or list k d).place) f rows (ap (fde_standing debug t) place ∙ stands k f s) h in
      n ∙ ap (λ (xs : List (List PlacedRow)). xs ++ rows ∷ []) o
      ∙ ap (λ (x : List PlacedRow). map rows_of (take k fs) ++ x ∷ []) (sym same)
      ∙ sym (mapped (take k fs) f) ∙ ap (map rows_of) (sym (take-more fs k f s)) ∙ ap (λ m. map rows_of (take m fs)) (sym one)

pub rows-all : (fs : List Fde) (list : List ReadFde) (k : ℕ) (all : List (List PlacedRow)) → length list ≤ k → list ≡ map fde_of fs
    → all ≡ map rows_of (take k fs) → all ≡ map rows_of fs
rows-all fs list k all l e h =
    let n = length-map fs fde_of in
    let m = ap length e in
    h ∙ ap (map rows_of) (take_all k fs (omega (arith, l, n, m)))

-- the rows of an FDE that is run
pub rows-run : {E : Type 0} (A : Type 0) (r : Result (List PlacedRow) E) (q : Result Fde Malformed) (p : Program)
    → IfOk r (λ rows. program_rows p ≡ Some rows) → (A → IfOk q (IsProgram p)) → IfOk r (λ rows. A → IfOk q (λ f. f.rows ≡ rows))
rows-run A (Err e) q p h g = tt
rows-run A (Ok rows) q p h g = λ a. by q (g a) where
  by : (q : Result Fde Malformed) → IfOk q (IsProgram p) → IfOk q (λ f. f.rows ≡ rows)
  by (Err e) k = tt
  by (Ok f) k = same_Some _ _ (sym k.rows ∙ h)

-- the FDE at a place, by its CIE
pub program-at : {E : Type 0} (r : Result Program E) (debug : Bool) (t : Held) (place : ℕ) (A : Type 0) (e : RawEntry) (k : CieProgram)
    (end : ℕ)
    (body : List ℕ) → entry_standing debug t.bytes place ≡ Some e
    → (A → IsOkAnd (cie_standing debug t (cie_place debug e)) (IsCieProgram k)) → end ≡ end_of t.address e → e.body ≡ body
    → IfOk r (λ p. (c : Cie) (x : RawEntry) → IsCieProgram k c → x.body ≡ body → IfOk (fde_at c end x) (IsProgram p))
    → IfOk r (λ p. A → IfOk (fde_standing debug t place) (IsProgram p))
program-at (Err x) debug t place A e k end body s g n b h = tt
program-at (Ok p) debug t place A e k end body s g n b h = λ a.
    subst (λ (o : Option RawEntry). IfOk (standing o) (IsProgram p)) (sym s) (by (cie_standing debug t (cie_place debug e)) (g a)) where
      standing : Option RawEntry → Result Fde Malformed
      standing o = and_so (sound_if o) (λ e. and_so (cie_standing debug t (cie_place debug e)) (λ cie. fde_at cie (end_of t.address e) e))

      by : (q : Result Cie Malformed) → IsOkAnd q (IsCieProgram k)
          → IfOk (and_so q (λ cie. fde_at cie (end_of t.address e) e)) (IsProgram p)
      by (Err x) i = tt
      by (Ok c) i = subst (λ (m : ℕ). IfOk (fde_at c m e) (IsProgram p)) n (h c e i b)

-- What fails is no FDE of the table.

abbrev pub IsNone : Result Fde Malformed → Type 0
IsNone r = IfOk r (λ _. ⊥)

standing : (debug : Bool) → Held → Option RawEntry → Result Fde Malformed
standing debug t o =
    and_so (sound_if o) (λ e. and_so (cie_standing debug t (cie_place debug e)) (λ cie. fde_at cie (end_of t.address e) e))

pub no-entry : (debug : Bool) (t : Held) (place : ℕ) → entry_standing debug t.bytes place ≡ None → IsNone (fde_standing debug t place)
unfolding standing
no-entry debug t place s = subst (λ (o : Option RawEntry). IsNone (standing debug t o)) (sym s) tt

pub no-cie : (debug : Bool) (t : Held) (place : ℕ) (e : RawEntry) → entry_standing debug t.bytes place ≡ Some e →
    cie_standing debug t (cie_place debug e) ≡ Err Entry → IsNone (fde_standing debug t place)
unfolding standing
no-cie debug t place e s n =
    subst (λ (o : Option RawEntry). IsNone (standing debug t o)) (sym s)
    (subst (λ (q : Result Cie Malformed). IsNone (and_so q (λ cie. fde_at cie (end_of t.address e) e))) (sym n) tt)

pub no-program : (r : Result Program Failed) (debug : Bool) (t : Held) (place : ℕ) (A : Type 0) (e : RawEntry) (k : CieProgram) (end : ℕ)
    (body : List ℕ) → entry_standing debug t.bytes place ≡ Some e →
    (A → IsOkAnd (cie_standing debug t (cie_place debug e)) (IsCieProgram k)) → end ≡ end_of t.address e → e.body ≡ body →
    ((c : Cie) (x : RawEntry) → IsCieProgram k c → x.body ≡ body → IfErr r (λ z. Fails z (fde_at c end x ≡ Err Entry))) →
    IfErr r (λ z. Fails z (A → IsNone (fde_standing debug t place)))
unfolding standing
no-program (Ok p) debug t place A e k end body s g n b h = tt
no-program (Err failed.Memory) debug t place A e k end body s g n b h = tt
no-program (Err failed.Malformed) debug t place A e k end body s g n b h = λ a.
    subst (λ (o : Option RawEntry). IsNone (standing debug t o)) (sym s) (by (cie_standing debug t (cie_place debug e)) (g a)) where
      by : (q : Result Cie Malformed) → IsOkAnd q (IsCieProgram k) → IsNone (and_so q (λ cie. fde_at cie (end_of t.address e) e))
      by (Err x) i = tt
      by (Ok c) i = subst IsNone (sym (ap (λ (m : ℕ). fde_at c m e) (sym n) ∙ h c e i b)) tt

pub no-rows : (A : Type 0) (r : Result (List PlacedRow) Failed) (q : Result Fde Malformed) (p : Program) →
    IfErr r (λ e. Fails e (program_rows p ≡ None)) → (A → IfOk q (IsProgram p)) → IfErr r (λ e. Fails e (A → IsNone q))
no-rows A (Ok rows) q p h g = tt
no-rows A (Err failed.Memory) q p h g = tt
no-rows A (Err failed.Malformed) q p h g = λ a. by q (g a) where
  by : (q : Result Fde Malformed) → IfOk q (IsProgram p) → IsNone q
  by (Err e) k = tt
  by (Ok f) k = none-some f.rows (sym h ∙ k.rows)

-- one of the list is found
pub is-found : (debug : Bool) (t : Held) (fs : List Fde) (list : List ReadFde) (k : ℕ) (d : ReadFde) → k < length list →
    list ≡ map fde_of fs →
    ((i : ℕ) (f : Fde) → slice_get fs i ≡ Some f → fde_standing debug t f.place ≡ Ok f) →
    IsNone (fde_standing debug t (get_or list k d).place) → ⊥
is-found debug t fs list k d l e stands n = by (slice_get fs k) refl where
  by : (f : Option Fde) → slice_get fs k ≡ f → ⊥
  by None f = none-some (get_or list k d) (sym (ap (option_map fde_of) f) ∙ sym (slice_get-map fde_of fs k)
      ∙ ap (λ (xs : List ReadFde). slice_get xs k) (sym e) ∙ slice_get-get_or list k d l)
  by (Some f) s = subst IsNone (ap (fde_standing debug t) (place-at fs list k f d (sym e) s) ∙ stands k f s) n
