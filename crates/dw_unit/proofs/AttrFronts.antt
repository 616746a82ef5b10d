-- An attribute's bytes: the bytes of its form after DW_FORM_indirect, and the bytes of its value.
use Rattle.std.proofs.Common.{◌≡◌, ◌+◌, ◌-◌, ◌++◌, ℕ, zero, suc, List, Bool, true, false, Option, Some, None, Ok, Err, Result, refl, ap}
use Rattle.std.proofs.Common.{sym, ◌∙◌, arith, length, length-append}
use Rattle.std.specs.Prelude.{◌==◌, if◌then◌else◌}
use Rattle.rb_bytes.specs.declared.gap.Gap.{Gap}
use Rattle.rb_bytes.specs.Readers.{and_then}
use Rattle.rb_bytes.specs.Leb.{uleb_at}
use Rattle.table_core.specs.ReadSteps.{or_trouble, and_so}
use Rattle.table_core.specs.AttributeForms.{is_form, shape_of, gap_value_at, value_at}
use Rattle.table_core.specs.declared.shape.Shape.{Shape}
use Rattle.table_core.proofs.Numbers.{same_value, same_left}
use Rattle.dw_unit.specs.declared.trouble.Trouble.TheVariants.{Unsound, NoForm}
use Rattle.dw_unit.specs.declared.declaration.Spec.{Spec}
use Rattle.dw_unit.specs.declared.entry.Attr.{Attr}
use Rattle.dw_unit.specs.Trouble.{Read, whole, sound_if}
use Rattle.dw_unit.specs.CompUnits.{form_within, form_at, attr_at}
use Rattle.dw_unit.proofs.Local.{Takes, Local, then_local, ok_local, err_local, cond_local, trouble_local, uleb_local, value_local}

form_within-local : (n d : ℕ) → Local (form_within n d)
unfolding form_within
form_within-local zero d = err_local Unsound
form_within-local (suc n) d =
    then_local (λ left. whole (uleb_at left)) (λ form rest. if form == 22 then form_within n d rest
    else (if form == 33 then Err Unsound else (if is_form form then Ok (form, rest) else Err (NoForm d))))
    (trouble_local Unsound uleb_at uleb_local)
    (λ form. cond_local (form == 22) (form_within n d) _ (form_within-local n d)
    (cond_local (form == 33) _ _ (err_local Unsound) (cond_local (is_form form) _ _ (ok_local form) (err_local (NoForm d)))))

-- The offset of the declaration only matters for unknown forms.
form_within-any : (n d c : ℕ) (left : List ℕ) (r : ℕ × List ℕ) → form_within n d left ≡ Ok r → form_within n c left ≡ Ok r
unfolding form_within
form_within-any zero d c left r e = absurd (cc)
form_within-any (suc n) d c left r e = behind (uleb_at left) (λ more. form_within-any n d c more r) e where
  last : (b : Bool) (x : ℕ) (rest : List ℕ) → ◌≡◌ {A = Read ℕ} (if b then Ok (x, rest) else Err (NoForm d)) (Ok r) →
      ◌≡◌ {A = Read ℕ} (if b then Ok (x, rest) else Err (NoForm c)) (Ok r)
  last true x rest e = e
  last false x rest e = absurd (cc)

  implicit : (b : Bool) (x : ℕ) (rest : List ℕ) →
      ◌≡◌ {A = Read ℕ} (if b then Err Unsound else (if is_form x then Ok (x, rest) else Err (NoForm d))) (Ok r) →
      ◌≡◌ {A = Read ℕ} (if b then Err Unsound else (if is_form x then Ok (x, rest) else Err (NoForm c))) (Ok r)
  implicit true x rest e = absurd (cc)
  implicit false x rest e = last (is_form x) x rest e

  named : (b : Bool) (x : ℕ) (rest : List ℕ) (f g : Read ℕ) → (f ≡ Ok r → g ≡ Ok r) →
      ◌≡◌ {A = Read ℕ} (if b then f else (if x == 33 then Err Unsound else (if is_form x then Ok (x, rest) else Err (NoForm d)))) (Ok r) →
      ◌≡◌ {A = Read ℕ} (if b then g else (if x == 33 then Err Unsound else (if is_form x then Ok (x, rest) else Err (NoForm c)))) (Ok r)
  named true x rest f g same e = same e
  named false x rest f g same e = implicit (x == 33) x rest e

  behind : (found : Result (ℕ × List ℕ) Gap) → ((more : List ℕ) → form_within n d more ≡ Ok r → form_within n c more ≡ Ok r) →
      and_then (whole found) (λ x rest. if x == 22 then form_within n d rest
      else (if x == 33 then Err Unsound else (if is_form x then Ok (x, rest) else Err (NoForm d)))) ≡ Ok r →
      and_then (whole found) (λ x rest. if x == 22 then form_within n c rest
      else (if x == 33 then Err Unsound else (if is_form x then Ok (x, rest) else Err (NoForm c)))) ≡ Ok r
  behind (Err gap) same e = absurd (cc)
  behind (Ok read) same e = named (read.0 == 22) read.0 read.1 (form_within n d read.1) (form_within n c read.1) (same read.1) e

form_step_any : (b : Bool) (d c form : ℕ) (left : List ℕ) (r : ℕ × List ℕ) →
    ◌≡◌ {A = Read ℕ} (if b then form_within (length left) d left else (if is_form form then Ok (form, left) else Err (NoForm d))) (Ok r) →
    ◌≡◌ {A = Read ℕ} (if b then form_within (length left) c left else (if is_form form then Ok (form, left) else Err (NoForm c))) (Ok r)
form_step_any true d c form left r e = form_within-any (length left) d c left r e
form_step_any false d c form left r e = last (is_form form) e where
  last : (b : Bool) → ◌≡◌ {A = Read ℕ} (if b then Ok (form, left) else Err (NoForm d)) (Ok r) →
      ◌≡◌ {A = Read ℕ} (if b then Ok (form, left) else Err (NoForm c)) (Ok r)
  last true e = e
  last false e = absurd (cc)

pub form_any : (d c form : ℕ) (left : List ℕ) (r : ℕ × List ℕ) → form_at d form left ≡ Ok r → form_at c form left ≡ Ok r
form_any d c form left r e = form_step_any (form == 22) d c form left r e

-- The same result for as many other bytes after it.
form_local : (d form : ℕ) → Local (form_at d form)
form_local d form x left rest e = step (form == 22) refl e where
  step : (b : Bool) → (form == 22) ≡ b → ◌≡◌ {A = Read ℕ} (if b then form_within (length left) d left else
      (if is_form form then Ok (form, left) else Err (NoForm d))) (Ok (x, rest)) →
      Takes (form_at d form) x left rest
  step true is e =
      let a : Takes (form_within (length left) d) x left rest = form_within-local (length left) d x left rest e in
      record {
        front = a.front;
        is = a.is;
        takes = λ more h.
            let long : length (a.front ++ more) ≡ length left =
            length-append a.front more ∙ ap (λ (n : ℕ). length a.front + n) h ∙ sym (length-append a.front rest) ∙ sym (ap length a.is) in
            ap (λ (b : Bool). if b then form_within (length (a.front ++ more)) d (a.front ++ more)
            else (if is_form form then Ok (form, a.front ++ more) else Err (NoForm d))) is
            ∙ ap (λ (n : ℕ). form_within n d (a.front ++ more)) long ∙ a.takes more h;
      }
  step false is e =
      let a : Takes (λ left. if is_form form then Ok (form, left) else Err (NoForm d)) x left rest =
      cond_local (is_form form) (λ left. Ok (form, left)) (λ left. Err (NoForm d)) (ok_local form) (err_local (NoForm d)) x left rest e in
      record {
        front = a.front;
        is = a.is;
        takes = λ more h.
            ap (λ (b : Bool). if b then form_within (length (a.front ++ more)) d (a.front ++ more)
            else (if is_form form then Ok (form, a.front ++ more) else Err (NoForm d))) is ∙ a.takes more h;
      }

-- An attribute, and its bytes: its form's and its value's.
pub record IsAttr (end : ℕ) (s : Spec) (a : Attr) (left rest : List ℕ) : Type 0 where
  pub lead : List ℕ
  pub body : List ℕ
  pub shape : Shape
  pub is : left ≡ lead ++ (body ++ rest)
  pub form : (d : ℕ) (more : List ℕ) → length more ≡ length (body ++ rest) → form_at d s.form (lead ++ more) ≡ Ok (a.form, more)
  pub shaped : shape_of a.form ≡ Some shape
  pub value : (more : List ℕ) → length more ≡ length rest → gap_value_at s.implicit shape (body ++ more) ≡ Ok (a.value, more)
  pub name : a.name ≡ s.name
  pub place : a.place ≡ end - length (body ++ rest)
  pub len : a.len ≡ length body

abbrev pub made : ℕ → Spec → ℕ → List ℕ → ℕ → List ℕ → Attr
made end s form left1 value rest =
    record { name = s.name; form = form; place = end - length left1; len = length left1 - length rest; value = value }

abbrev pub attr_of_value : ℕ → Spec → ℕ → List ℕ → Read ℕ → Read Attr
attr_of_value end s form left1 r = and_then r (λ value rest. Ok (made end s form left1 value rest, rest))

abbrev pub attr_of_shape : ℕ → Spec → ℕ → List ℕ → Option Shape → Read Attr
attr_of_shape end s form left1 o = and_so (sound_if o) (λ shape. attr_of_value end s form left1 (value_at Unsound s.implicit shape left1))

abbrev pub attr_of_form : ℕ → Spec → Read ℕ → Read Attr
attr_of_form end s r = and_then r (λ form left1. attr_of_shape end s form left1 (shape_of form))

pub attr_front : (end d : ℕ) (s : Spec) (a : Attr) (left rest : List ℕ) → attr_at end d s left ≡ Ok (a, rest) → IsAttr end s a left rest
attr_front end d s a left rest e = formed (form_at d s.form left) refl e where
  valued : (form : ℕ) (left1 : List ℕ) (shape : Shape) (found : Result (ℕ × List ℕ) Gap) → form_at d s.form left ≡ Ok (form, left1) →
      shape_of form ≡ Some shape → gap_value_at s.implicit shape left1 ≡ found →
      attr_of_value end s form left1 (or_trouble Unsound found) ≡ Ok (a, rest) → IsAttr end s a left rest
  valued form left1 shape (Err gap) f g h e = absurd (cc)
  valued form left1 shape (Ok read) f g h e =
      let is_made : made end s form left1 read.0 read.1 ≡ a = same_value _ _ _ _ e in
      let is_rest : read.1 ≡ rest = same_left _ _ _ _ e in
      let lead : Takes (form_at d s.form) form left left1 = form_local d s.form form left left1 f in
      let body : Takes (gap_value_at s.implicit shape) read.0 left1 read.1 = value_local s.implicit shape read.0 left1 read.1 h in
      let whole_is : left1 ≡ body.front ++ rest = body.is ∙ ap (λ (l : List ℕ). body.front ++ l) is_rest in
      let form_is : form ≡ a.form = ap (λ (a : Attr). a.form) is_made in
      record {
        lead = lead.front;
        body = body.front;
        shape = shape;
        is = lead.is ∙ ap (λ (l : List ℕ). lead.front ++ l) whole_is;
        form = λ c more k. form_any d c s.form (lead.front ++ more) (a.form, more)
            (lead.takes more (k ∙ sym (ap length whole_is)) ∙ ap (λ (x : ℕ). Ok (x, more)) form_is);
        shaped = ap shape_of (sym form_is) ∙ g;
        value = λ more k. body.takes more (k ∙ sym (ap length is_rest)) ∙ ap (λ (a : Attr). Ok (a.value, more)) is_made;
        name = sym (ap (λ (a : Attr). a.name) is_made);
        place = sym (ap (λ (a : Attr). a.place) is_made) ∙ ap (λ (l : List ℕ). end - length l) whole_is;
        len =
            let first : a.len ≡ length left1 - length read.1 = sym (ap (λ (a : Attr). a.len) is_made) in
            let size : length left1 ≡ length body.front + length read.1 = ap length body.is ∙ length-append body.front read.1 in
            omega arith;
      }

  shaped : (form : ℕ) (left1 : List ℕ) (o : Option Shape) → form_at d s.form left ≡ Ok (form, left1) → shape_of form ≡ o →
      attr_of_shape end s form left1 o ≡ Ok (a, rest) →
      IsAttr end s a left rest
  shaped form left1 None f g e = absurd (cc)
  shaped form left1 (Some shape) f g e = valued form left1 shape (gap_value_at s.implicit shape left1) f g refl e

  formed : (found : Read ℕ) → form_at d s.form left ≡ found →
      attr_of_form end s found ≡ Ok (a, rest) →
      IsAttr end s a left rest
  formed (Err t) f e = absurd (cc)
  formed (Ok read) f e = shaped read.0 read.1 (shape_of read.0) f refl e

-- The converse: what is read from such bytes.
pub attr_again : (end d : ℕ) (s : Spec) (form value : ℕ) (shape : Shape) (lead left1 more : List ℕ) →
    form_at d s.form (lead ++ left1) ≡ Ok (form, left1) → shape_of form ≡ Some shape →
    gap_value_at s.implicit shape left1 ≡ Ok (value, more) →
    attr_at end d s (lead ++ left1) ≡ Ok (made end s form left1 value more, more)
attr_again end d s form value shape lead left1 more f g h =
    ap (attr_of_form end s) f ∙ ap (attr_of_shape end s form left1) g
    ∙ ap (λ (r : Result (ℕ × List ℕ) Gap). attr_of_value end s form left1 (or_trouble Unsound r)) h
