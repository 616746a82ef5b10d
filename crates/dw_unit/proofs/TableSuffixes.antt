-- The table that begins with a declaration of another.
use Rattle.std.proofs.Common.{◌≡◌, ◌≤◌, ◌+◌, ◌-◌, ◌++◌, ℕ, zero, suc, List, ◌∷◌, Bool, true, false, Option, Some, None, Ok, Err}
use Rattle.std.proofs.Common.{refl, ap, sym, ◌∙◌, arith, length, drop, length-append, length-drop}
use Rattle.std.specs.Prelude.{◌==◌, if◌then◌else◌, nat_lt, slice_get}
use Rattle.std.proofs.lemmas.List.{drop_at, drop-drop, drop_all}
use Rattle.rb_bytes.specs.Readers.{and_then, number_read}
use Rattle.rb_bytes.specs.Leb.{uleb_at}
use Rattle.rb_bytes.proofs.Results.{same_ok}
use Rattle.dw_unit.specs.declared.declaration.Spec.{Spec}
use Rattle.dw_unit.specs.Trouble.{Read, whole}
use Rattle.dw_unit.specs.Declarations.{Declaration, Table, specs_at, declaration_at, declaration_or_end, next_declaration, table_within}
use Rattle.dw_unit.specs.Declarations.{table_at}
use Rattle.dw_unit.specs.TableStarts.{table_from}
use Rattle.dw_unit.proofs.Readers.{next_declaration_local, declaration_forward, table_step, table_enough}

-- The offset of a declaration.

then_holds : {X Y : Type 0} (P : Y × List ℕ → Type 0) (r : Read X) (g : X → List ℕ → Read Y) →
    ((x : X) (left : List ℕ) (z : Y × List ℕ) → g x left ≡ Ok z → P z) → (z : Y × List ℕ) → and_then r g ≡ Ok z → P z
then_holds P (Err e) g h z is = absurd (cc)
then_holds P (Ok read) g h z is = h read.0 read.1 z is

abbrev with_specs : ℕ → ℕ → ℕ → ℕ → List Spec → List ℕ → Read Declaration
with_specs place code tag children specs rest =
    Ok (record { place = place; code = code; tag = tag; children = nat_lt 0 children; specs = specs }, rest)

abbrev with_children : ℕ → ℕ → ℕ → ℕ → List ℕ → Read Declaration
with_children place code tag children left = and_then (specs_at left) (with_specs place code tag children)

abbrev with_tag : ℕ → ℕ → ℕ → List ℕ → Read Declaration
with_tag place code tag left = and_then (whole (number_read 1 left)) (with_children place code tag)

declaration_at_place : (place code : ℕ) (left : List ℕ) (z : Declaration × List ℕ) → declaration_at place code left ≡ Ok z →
    z.0.place ≡ place
declaration_at_place place code left =
    let P : Declaration × List ℕ → Type 0 = λ z. z.0.place ≡ place in
    then_holds P (whole (uleb_at left)) (with_tag place code) (λ tag left1.
    then_holds P (whole (number_read 1 left1)) (with_children place code tag) (λ children left2.
    then_holds P (specs_at left2) (with_specs place code tag children)
    (λ specs rest z e. sym (ap (λ (z : Declaration × List ℕ). z.0.place) (same_ok e)))))

abbrev Found : Type 0
Found = Option Declaration × List ℕ

abbrev StandsAt : ℕ → Found → Type 0
StandsAt place z = (d : Declaration) → z.0 ≡ Some d → d.place ≡ place

abbrev found : Declaration → List ℕ → Read (Option Declaration)
found d rest = Ok (Some d, rest)

behind_code : (place code : ℕ) (left : List ℕ) (z : Found) (b : Bool) →
    ◌≡◌ {A = Read (Option Declaration)} (if b then Ok (None, left) else and_then (declaration_at place code left) found) (Ok z) →
    StandsAt place z
behind_code place code left z true e = λ d f. let n : None ≡ z.0 = ap (λ (z : Found). z.0) (same_ok e) in absurd (cc)
behind_code place code left z false e = of (declaration_at place code left) refl e where
  of : (r : Read Declaration) → declaration_at place code left ≡ r → and_then r found ≡ Ok z → StandsAt place z
  of (Err t) is e = absurd (cc)
  of (Ok read) is e = λ d f.
      let s : Some read.0 ≡ z.0 = ap (λ (z : Found). z.0) (same_ok e) in
      let same : read.0 ≡ d = cc in
      ap (λ (d : Declaration). d.place) (sym same) ∙ declaration_at_place place code left read is

declaration_place : (place : ℕ) (left rest : List ℕ) (d : Declaration) → next_declaration place left ≡ Ok (Some d, rest) → d.place ≡ place
declaration_place place left rest d e =
    then_holds (StandsAt place) (whole (uleb_at left)) (declaration_or_end place)
    (λ code left1 z. behind_code place code left1 z (code == 0)) (Some d, rest) e d refl

-- The bytes from an offset on.

abbrev IsRest : List ℕ → List ℕ → Type 0
IsRest section left = left ≡ drop (length section - length left) section

rest_inside : (section left : List ℕ) → IsRest section left → length left ≤ length section
rest_inside section left is = let e = ap length is ∙ length-drop (length section - length left) section in omega arith

rest_of_rest : (section left front rest : List ℕ) → IsRest section left → left ≡ front ++ rest → IsRest section rest
rest_of_rest section left front rest is e =
    let size : length left ≡ length front + length rest = ap length e ∙ length-append front rest in
    let inside = rest_inside section left is in
    let n : length section - length left + length front ≡ length section - length rest = omega arith in
    sym (drop_at front rest (length front) refl) ∙ ap (drop (length front)) (sym e) ∙ ap (drop (length front)) is
    ∙ drop-drop (length front) (length section - length left) section ∙ ap (λ (k : ℕ). drop k section) n

abbrev rest_table : List ℕ → List ℕ → Table
rest_table section left = table_within (length left) (length section) left

abbrev Begins : List ℕ → List ℕ → ℕ → Declaration → Type 0
Begins section left i d = table_at section d.place ≡ table_from i (rest_table section left)

module _ (section : List ℕ) where
  -- A table whose first declaration is known.
  step_is : (left rest : List ℕ) (x : Declaration) → next_declaration (length section - length left) left ≡ Ok (Some x, rest) →
      rest_table section left ≡ record { list = x ∷ (rest_table section rest).list; end = (rest_table section rest).end }
  step_is left rest x e =
      let less = declaration_forward (length section - length left) left rest (Some x) e in
      table_step (length section) left (Ok (Some x, rest)) e
      ∙ ap (λ (t : Table). record { list = x ∷ t.list; end = t.end })
      (table_enough (length left) (length rest) (length section) rest (omega arith) (omega arith))

  first_here : (left rest : List ℕ) (x d : Declaration) → IsRest section left →
      next_declaration (length section - length left) left ≡ Ok (Some x, rest) →
      x ≡ d → Begins section left 0 d
  first_here left rest x d is e same =
      let inside = rest_inside section left is in
      let place : d.place ≡ length section - length left = ap (λ (d : Declaration). d.place) (sym same)
      ∙ declaration_place (length section - length left) left rest x e in
      ap (table_at section) place ∙ ap (table_within (length section) (length section)) (sym is)
      ∙ table_enough (length section) (length left) (length section) left inside (omega arith)

  -- The front decides the first declaration.
  first_of_front : (left : List ℕ) (d : Declaration) → IsRest section left → slice_get (rest_table section left).list 0 ≡ Some d →
      (r : Read (Option Declaration)) → next_declaration (length section - length left) left ≡ r → Begins section left 0 d
  first_of_front left d is e (Err t) f =
      let s : None ≡ Some d = ap (λ (t : Table). slice_get t.list 0) (sym (table_step (length section) left (Err t) f)) ∙ e in absurd (cc)
  first_of_front left d is e (Ok (None, rest)) f =
      let s : None ≡ Some d = ap (λ (t : Table). slice_get t.list 0) (sym (table_step (length section) left (Ok (None, rest)) f)) ∙ e in
      absurd (cc)
  first_of_front left d is e (Ok (Some x, rest)) f =
      let s : Some x ≡ Some d = ap (λ (t : Table). slice_get t.list 0) (sym (step_is left rest x f)) ∙ e in
      first_here left rest x d is f cc

  -- A later declaration of the table.
  by_front : (left : List ℕ) (j : ℕ) (d : Declaration) → IsRest section left → slice_get (rest_table section left).list (suc j) ≡ Some d →
      ((rest : List ℕ) → IsRest section rest → slice_get (rest_table section rest).list j ≡ Some d → Begins section rest j d) →
      (r : Read (Option Declaration)) → next_declaration (length section - length left) left ≡ r → Begins section left (suc j) d
  by_front left j d is e ih (Err t) f =
      let s : None ≡ Some d = ap (λ (t : Table). slice_get t.list (suc j)) (sym (table_step (length section) left (Err t) f)) ∙ e in
      absurd (cc)
  by_front left j d is e ih (Ok (None, rest)) f =
      let s : None ≡ Some d = ap (λ (t : Table). slice_get t.list (suc j)) (sym (table_step (length section) left (Ok (None, rest)) f))
      ∙ e in absurd (cc)
  by_front left j d is e ih (Ok (Some x, rest)) f =
      let t = next_declaration_local (length section - length left) (Some x) left rest f in
      let s : slice_get (rest_table section rest).list j ≡ Some d = ap (λ (t : Table). slice_get t.list (suc j))
      (sym (step_is left rest x f)) ∙ e in
      ih rest (rest_of_rest section left t.front rest is t.is) s ∙ ap (table_from (suc j)) (sym (step_is left rest x f))

  begins : (i : ℕ) (left : List ℕ) (d : Declaration) → IsRest section left → slice_get (rest_table section left).list i ≡ Some d →
      Begins section left i d
  begins zero left d is e = first_of_front left d is e (next_declaration (length section - length left) left) refl
  begins (suc i) left d is e = by_front left i d is e (λ rest. begins i rest d) (next_declaration (length section - length left) left)
      refl

-- The table of an offset within the section.
at_rest : (section : List ℕ) (offset : ℕ) → offset ≤ length section → table_at section offset ≡ rest_table section (drop offset section)
at_rest section offset h =
    let size = length-drop offset section in
    table_enough (length section) (length (drop offset section)) (length section) (drop offset section) (omega arith) (omega arith)

rest_at : (section : List ℕ) (offset : ℕ) → offset ≤ length section → IsRest section (drop offset section)
rest_at section offset h =
    let size = length-drop offset section in
    let n : length section - length (drop offset section) ≡ offset = omega arith in ap (λ (k : ℕ). drop k section) (sym n)

pub table_from_declaration : (section : List ℕ) (offset i : ℕ) (d : Declaration) → offset ≤ length section →
    slice_get (table_at section offset).list i ≡ Some d →
    table_at section d.place ≡ table_from i (table_at section offset)
table_from_declaration section offset i d h e =
    begins section i (drop offset section) d (rest_at section offset h)
    (ap (λ (t : Table). slice_get t.list i) (sym (at_rest section offset h)) ∙ e)
    ∙ ap (table_from i) (sym (at_rest section offset h))

-- An offset past the end.
pub table_past : (section : List ℕ) (offset from : ℕ) → length section ≤ offset → length section ≤ from →
    table_at section offset ≡ table_at section from
table_past section offset from h k = ap (table_within (length section) (length section)) (drop_all offset section h
    ∙ sym (drop_all from section k))
