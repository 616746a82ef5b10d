-- Attributes that are changed in place are read back changed.
use Rattle.std.proofs.Common.{◌≡◌, ◌<◌, ◌≤◌, ◌+◌, ◌-◌, ◌^◌, ◌++◌, ℕ, List, [], ◌∷◌, Bool, true, false, cond, Option, Some, None, Ok, Err}
use Rattle.std.proofs.Common.{Result, refl, ap, sym, ◌∙◌, arith, length, take, drop, map, is_some, unwrap_or, length-append, append_assoc}
use Rattle.std.specs.Prelude.{◌==◌, ◌||◌, if◌then◌else◌}
use Rattle.std.proofs.lemmas.Bool.Decides.{nat_tests}
use Rattle.std.proofs.lemmas.List.{take-append-drop, length-take-le}
use Rattle.byteorder.specs.Endian.{little_bytes, little_number}
use Rattle.byteorder.specs.Numbers.{little_number-reads_back}
use Rattle.rb_bytes.specs.declared.gap.Gap.{Gap}
use Rattle.rb_bytes.specs.Readers.{number_read}
use Rattle.table_core.specs.AttributeForms.{shape_of, gap_value_at}
use Rattle.table_core.specs.declared.shape.Shape.{Shape}
use Rattle.table_core.specs.declared.shape.Shape.TheVariants.{Number}
use Rattle.dw_unit.specs.declared.declaration.Spec.{Spec}
use Rattle.dw_unit.specs.declared.entry.Attr.{Attr}
use Rattle.dw_unit.specs.Trouble.{Read}
use Rattle.dw_unit.specs.CompUnits.{Entry, form_at, attr_at, attrs_at}
use Rattle.dw_unit.specs.EntryMoves.{Moves, new_list_offset}
use Rattle.dw_unit.specs.Changes.{Patch, patched, number_patch, attr_patches, changed_attr, changed_spec, ranges_specs, ranges_attrs}
use Rattle.dw_unit.specs.Changes.{spec_of, new_name, new_value, new_address, new_list}
use Rattle.dw_unit.proofs.AttrFronts.{IsAttr, attr_front, attr_again}
use Rattle.dw_unit.proofs.Readers.{after_attr, attrs_of_attr}
use Rattle.std.proofs.lemmas.List.{drop_at, nil_from_length}
use Rattle.std.proofs.Common.{nat_lt, length-drop}
use Rattle.byteorder.specs.Numbers.{length-bytes_low_first}
use Rattle.rb_bytes.specs.declared.gap.Gap.TheVariants.{Short}
use Rattle.table_core.proofs.Numbers.{same_value, same_left}
use Rattle.std.proofs.Common.{subst, inl, inr}
use Rattle.dw_unit.proofs.SameBytes.{IsSameAt, same_behind}
use Rattle.std.specs.Prelude.{◌⊎◌}
use Rattle.table_core.specs.AttributeForms.{is_form}
use Rattle.dw_unit.specs.CompUnits.{form_within}
use Rattle.dw_unit.specs.declared.trouble.Trouble.TheVariants.{NoForm}
use Rattle.dw_unit.specs.declared.attribute.TheConstants.{DW_AT_high_pc, DW_AT_ranges, DW_AT_unused_high}
use Rattle.dw_unit.proofs.Patched.{From, from_less, patched-behind, patched-over}

-- Patched bytes: the patches are over the bytes before `rest`, and reading the new bytes gives `attrs`. The values of attributes that
-- satisfy `Stays` don't change.
pub record IsRewritten (Stays : Attr → Type 0) (end : ℕ) (specs : List Spec) (attrs : List Attr) (ps : List Patch)
    (left rest : List ℕ) : Type 0 where
  pub front : List ℕ
  pub old : List ℕ
  pub is : left ≡ old ++ rest
  pub size : length front + length rest ≡ length left
  pub stay : (a : Attr) → Stays a → (more : List ℕ) → IsSameAt (end - length left) a left (front ++ more)
  pub reads : (c : ℕ) (more : List ℕ) → length more ≡ length rest → attrs_at end c specs (front ++ more) ≡ Ok (attrs, more)
  pub starts : (qs : List Patch) → From (end - length rest) qs → From (end - length left) (ps ++ qs)
  pub patches : (after : List ℕ) (qs : List Patch) → From (end - length rest) qs →
      patched (end - length left) (ps ++ qs) (left ++ after) ≡ front ++ patched (end - length rest) qs (rest ++ after)

abbrev pub NoneStays : Attr → Type 0
NoneStays a = ⊥

pub stays_less : (P Q : Attr → Type 0) (end : ℕ) (specs : List Spec) (attrs : List Attr) (ps : List Patch) (left rest : List ℕ) →
    ((a : Attr) → Q a → P a) → IsRewritten P end specs attrs ps left rest → IsRewritten Q end specs attrs ps left rest
stays_less P Q end specs attrs ps left rest f r = record {
  front = r.front;
  old = r.old;
  is = r.is;
  size = r.size;
  stay = λ a q more. r.stay a (f a q) more;
  reads = r.reads;
  starts = r.starts;
  patches = r.patches;
}

-- Attributes one after another.

attrs_last : (end c : ℕ) (specs more : List Spec) (attrs next : List Attr) (a : Attr) (l1 left1 rest : List ℕ)
    (found : Read (List Attr)) →
    attrs_at end c specs l1 ≡ found → after_attr a found ≡ Ok (attrs, left1) →
    ((got : List Attr) → attrs_at end c specs l1 ≡ Ok (got, left1) → attrs_at end c (specs ++ more) l1 ≡ Ok (got ++ next, rest)) →
    after_attr a (attrs_at end c (specs ++ more) l1) ≡ Ok (attrs ++ next, rest)
attrs_last end c specs more attrs next a l1 left1 rest (Err t) is e ih = absurd (cc)
attrs_last end c specs more attrs next a l1 left1 rest (Ok got) is e ih =
    let list_is : a ∷ got.0 ≡ attrs = same_value _ _ _ _ e in
    let left_is : got.1 ≡ left1 = same_left _ _ _ _ e in
    ap (λ (r : Read (List Attr)). after_attr a r) (ih got.0 (is ∙ ap (λ (l : List ℕ). Ok (got.0, l)) left_is))
    ∙ ap (λ (l : List Attr). Ok (l ++ next, rest)) list_is

attrs_behind : (end c : ℕ) (s : Spec) (specs more : List Spec) (attrs next : List Attr) (left left1 rest : List ℕ) (found : Read Attr) →
    attr_at end c s left ≡ found → attrs_of_attr end c specs found ≡ Ok (attrs, left1) →
    ((l1 : List ℕ) (got : List Attr) → attrs_at end c specs l1 ≡ Ok (got, left1) →
    attrs_at end c (specs ++ more) l1 ≡ Ok (got ++ next, rest)) →
    attrs_of_attr end c (specs ++ more) found ≡ Ok (attrs ++ next, rest)
attrs_behind end c s specs more attrs next left left1 rest (Err t) is e ih = absurd (cc)
attrs_behind end c s specs more attrs next left left1 rest (Ok read) is e ih =
    attrs_last end c specs more attrs next read.0 read.1 left1 rest (attrs_at end c specs read.1) refl e (ih read.1)

attrs_append : (end c : ℕ) (specs more : List Spec) (attrs next : List Attr) (left left1 rest : List ℕ) →
    attrs_at end c specs left ≡ Ok (attrs, left1) → attrs_at end c more left1 ≡ Ok (next, rest) →
    attrs_at end c (specs ++ more) left ≡ Ok (attrs ++ next, rest)
attrs_append end c [] more attrs next left left1 rest e f =
    let list_is : [] ≡ attrs = same_value _ _ _ _ e in
    let left_is : left ≡ left1 = same_left _ _ _ _ e in
    ap (attrs_at end c more) left_is ∙ f ∙ ap (λ (l : List Attr). Ok (l ++ next, rest)) list_is
attrs_append end c (s ∷ specs) more attrs next left left1 rest e f =
    attrs_behind end c s specs more attrs next left left1 rest (attr_at end c s left) refl e
    (λ l1 got g. attrs_append end c specs more got next l1 left1 rest g f)

pub rewritten_then : (P Q : Attr → Type 0) (end : ℕ) (specs more : List Spec) (attrs next : List Attr) (ps qs : List Patch)
    (left left1 rest : List ℕ) → length left ≤ end →
    IsRewritten P end specs attrs ps left left1 → IsRewritten Q end more next qs left1 rest →
    IsRewritten (λ x. P x ⊎ Q x) end (specs ++ more) (attrs ++ next) (ps ++ qs) left rest
rewritten_then P Q end specs more attrs next ps qs left left1 rest h a b = record {
  front = a.front ++ b.front;
  old = a.old ++ b.old;
  is = a.is ∙ ap (λ (l : List ℕ). a.old ++ l) b.is ∙ sym (append_assoc a.old b.old rest);
  size = let g = length-append a.front b.front in omega (arith, a.size, b.size);
  stay = λ x k more. stays_in x k more;
  reads = λ c tail k.
      let long : length (b.front ++ tail) ≡ length left1 = let g = length-append b.front tail in omega (arith, b.size) in
      ap (attrs_at end c (specs ++ more)) (append_assoc a.front b.front tail)
      ∙ attrs_append end c specs more attrs next (a.front ++ (b.front ++ tail)) (b.front ++ tail) tail (a.reads c (b.front ++ tail) long)
      (b.reads c tail k);
  starts = λ rs f. ap_from (append_assoc ps qs rs) (a.starts (qs ++ rs) (b.starts rs f));
  patches = λ after rs f.
      ap (λ (l : List Patch). patched (end - length left) l (left ++ after)) (append_assoc ps qs rs)
      ∙ a.patches after (qs ++ rs) (b.starts rs f)
      ∙ ap (λ (l : List ℕ). a.front ++ l) (b.patches after rs f)
      ∙ sym (append_assoc a.front b.front (patched (end - length rest) rs (rest ++ after)));
} where
  ap_from : {xs ys : List Patch} → xs ≡ ys → From (end - length left) ys → From (end - length left) xs
  ap_from e f = rw e f

  stays_in : (x : Attr) → P x ⊎ Q x → (more : List ℕ) → IsSameAt (end - length left) x left ((a.front ++ b.front) ++ more)
  stays_in x (inl k) more =
      subst (λ (l : List ℕ). IsSameAt (end - length left) x left l) (sym (append_assoc a.front b.front more))
      (a.stay x k (b.front ++ more))
  stays_in x (inr k) more =
      let long : length left ≡ length a.old + length left1 = ap length a.is ∙ length-append a.old left1 in
      let same : length a.front ≡ length a.old = omega (arith, a.size) in
      subst (λ (l : List ℕ). IsSameAt (end - length left) x l ((a.front ++ b.front) ++ more)) (sym a.is)
      (subst (λ (l : List ℕ). IsSameAt (end - length left) x (a.old ++ left1) l) (sym (append_assoc a.front b.front more))
      (same_behind (end - length left) (end - length left1) x a.old a.front left1 (b.front ++ more) (omega arith) same (b.stay x k more)))

attrs_one : (end c : ℕ) (s : Spec) (a : Attr) (left rest : List ℕ) → attr_at end c s left ≡ Ok (a, rest) →
    attrs_at end c (s ∷ []) left ≡ Ok (a ∷ [], rest)
attrs_one end c s a left rest e = ap (attrs_of_attr end c []) e

attr_is : (name form value p q l m : ℕ) (more : List ℕ) → p ≡ q → l ≡ m →
    ◌≡◌ {A = Read Attr} (Ok (record { name = name; form = form; place = p; len = l; value = value }, more))
    (Ok (record { name = name; form = form; place = q; len = m; value = value }, more))
attr_is name form value p q l m more e f =
    ap (λ (p : ℕ). Ok (record { name = name; form = form; place = p; len = l; value = value }, more)) e
    ∙ ap (λ (l : ℕ). Ok (record { name = name; form = form; place = q; len = l; value = value }, more)) f

-- An attribute that keeps its value; its name may change.
pub kept_rewritten : (end name : ℕ) (s : Spec) (a : Attr) (left rest : List ℕ) → length left ≤ end → IsAttr end s a left rest →
    IsRewritten (λ x. x ≡ a) end (record { name = name; form = s.form; implicit = s.implicit } ∷ [])
    (record { name = name; form = a.form; place = a.place; len = a.len; value = a.value } ∷ []) [] left rest
kept_rewritten end name s a left rest h i =
    let size_is : length left ≡ length i.lead + (length i.body + length rest) =
    ap length i.is ∙ length-append i.lead (i.body ++ rest) ∙ ap (λ (n : ℕ). length i.lead + n) (length-append i.body rest) in
    let front_is : length (i.lead ++ i.body) ≡ length i.lead + length i.body = length-append i.lead i.body in
    record {
      front = i.lead ++ i.body;
      old = i.lead ++ i.body;
      is = i.is ∙ sym (append_assoc i.lead i.body rest);
      size = omega arith;
      stay = λ x e more. subst (λ (x : Attr). IsSameAt (end - length left) x left ((i.lead ++ i.body) ++ more)) (sym e)
          (value_stays more);
      reads = λ c more k.
          let long : length (i.body ++ more) ≡ length (i.body ++ rest) =
          length-append i.body more ∙ ap (λ (n : ℕ). length i.body + n) k ∙ sym (length-append i.body rest) in
          let wide : length (i.body ++ more) ≡ length i.body + length more = length-append i.body more in
          let len_is : length (i.body ++ more) - length more ≡ a.len = let g = i.len in omega arith in
          let renamed : Spec = record { name = name; form = s.form; implicit = s.implicit } in
          ap (attrs_at end c (renamed ∷ [])) (append_assoc i.lead i.body more)
          ∙ attrs_one end c renamed _ (i.lead ++ (i.body ++ more)) more
          (attr_again end c renamed a.form a.value i.shape i.lead (i.body ++ more) more (i.form c (i.body ++ more) long) i.shaped
          (i.value more k)
          ∙ attr_is name a.form a.value (end - length (i.body ++ more)) a.place (length (i.body ++ more) - length more) a.len more
          (ap (λ (n : ℕ). end - n) long ∙ sym i.place) len_is);
      starts = λ qs f. from_less (end - length rest) (end - length left) qs (omega arith) f;
      patches = λ after qs f.
          ap (patched (end - length left) qs)
          (ap (λ (l : List ℕ). l ++ after) (i.is ∙ sym (append_assoc i.lead i.body rest)) ∙ append_assoc (i.lead ++ i.body) rest after)
          ∙ patched-behind (end - length left) (end - length rest) (i.lead ++ i.body) (rest ++ after) qs (omega arith) f;
    } where
      value_stays : (more : List ℕ) → IsSameAt (end - length left) a left ((i.lead ++ i.body) ++ more)
      value_stays more =
          let size_is : length left ≡ length i.lead + (length i.body + length rest) =
          ap length i.is ∙ length-append i.lead (i.body ++ rest) ∙ ap (λ (n : ℕ). length i.lead + n) (length-append i.body rest) in
          let behind_is : length (i.body ++ rest) ≡ length i.body + length rest = length-append i.body rest in
          let p = i.place in
          record {
            old_front = i.lead;
            new_front = i.lead;
            body = i.body;
            old_rest = rest;
            new_rest = more;
            old_is = i.is;
            new_is = append_assoc i.lead i.body more;
            same = refl;
            place = omega arith;
            len = i.len;
          }

-- Bytes that are the number `v` of `n` bytes.
pub record IsNumber (n v : ℕ) (bytes : List ℕ) : Type 0 where
  pub size : length bytes ≡ n
  pub reads : (more : List ℕ) → number_read n (bytes ++ more) ≡ Ok (v, more)

number_long : (n v x : ℕ) (bytes more : List ℕ) → length bytes ≡ n → x ≡ v →
    ◌≡◌ {A = Result (ℕ × List ℕ) Gap} (cond (nat_lt (length (bytes ++ more)) n) (Err Short) (Ok (x, drop n (bytes ++ more))))
    (Ok (v, more))
number_long n v x bytes more size e =
    let long : nat_lt (length (bytes ++ more)) n ≡ false = let g = length-append bytes more in grind (arith, nat_tests) in
    rw (long, drop_at bytes more n size) (ap (λ (x : ℕ). Ok (x, more)) e)

pub written_number : (n v : ℕ) → v < 256 ^ n → IsNumber n v (little_bytes n v)
written_number n v h = record {
  size = length-bytes_low_first 0 n v;
  reads = λ more. number_long n v (little_number n (little_bytes n v ++ more)) (little_bytes n v) more (length-bytes_low_first 0 n v)
      (little_number-reads_back n v more h);
}

pub number_size : (n x : ℕ) (body rest : List ℕ) → number_read n (body ++ rest) ≡ Ok (x, rest) → length body ≡ n
number_size n x body rest e = step (nat_lt (length (body ++ rest)) n) refl e where
  step : (short : Bool) → nat_lt (length (body ++ rest)) n ≡ short →
      ◌≡◌ {A = Result (ℕ × List ℕ) Gap} (cond short (Err Short) (Ok (little_number n (body ++ rest), drop n (body ++ rest))))
      (Ok (x, rest)) → length body ≡ n
  step true is e = absurd (cc)
  step false is e =
      let enough : n ≤ length (body ++ rest) = grind (arith, nat_tests) in
      let size : length (body ++ rest) ≡ length body + length rest = length-append body rest in
      let left : length (body ++ rest) - n ≡ length rest = sym (length-drop n (body ++ rest)) ∙ ap length (same_left _ _ _ _ e) in
      omega arith

number_shape : (n : ℕ) (shape : Shape) (form : ℕ) → shape_of form ≡ Some shape → shape_of form ≡ Some (Number n) → shape ≡ Number n
number_shape n shape form e f = shape_by (sym e ∙ f) where
  or_leb : Option Shape → Shape
  or_leb (Some s) = s
  or_leb None = Number n

  shape_by : Some shape ≡ Some (Number n) → shape ≡ Number n
  shape_by e = ap or_leb e

pub number_len : (end n : ℕ) (s : Spec) (a : Attr) (left rest : List ℕ) → IsAttr end s a left rest → shape_of a.form ≡ Some (Number n) →
    a.len ≡ n
number_len end n s a left rest i is =
    let shape_is : i.shape ≡ Number n = number_shape n i.shape a.form i.shaped is in
    let old : number_read n (i.body ++ rest) ≡ Ok (a.value, rest) =
    sym (ap (λ (k : Shape). gap_value_at s.implicit k (i.body ++ rest)) shape_is) ∙ i.value rest refl in
    i.len ∙ number_size n a.value i.body rest old

-- An attribute whose number is rewritten.
pub number_rewritten : (end name n v : ℕ) (s : Spec) (a : Attr) (left rest bytes : List ℕ) → length left ≤ end →
    IsAttr end s a left rest →
    shape_of a.form ≡ Some (Number n) → IsNumber n v bytes →
    IsRewritten NoneStays end (record { name = name; form = s.form; implicit = s.implicit } ∷ [])
    (record { name = name; form = a.form; place = a.place; len = a.len; value = v } ∷ [])
    (record { place = a.place; bytes = bytes } ∷ []) left rest
number_rewritten end name n v s a left rest bytes h i is w =
    let size_is : length left ≡ length i.lead + (length i.body + length rest) =
    ap length i.is ∙ length-append i.lead (i.body ++ rest) ∙ ap (λ (n : ℕ). length i.lead + n) (length-append i.body rest) in
    let shape_is : i.shape ≡ Number n = number_shape n i.shape a.form i.shaped is in
    let old : number_read n (i.body ++ rest) ≡ Ok (a.value, rest) =
    sym (ap (λ (k : Shape). gap_value_at s.implicit k (i.body ++ rest)) shape_is) ∙ i.value rest refl in
    let body_is : length i.body ≡ n = number_size n a.value i.body rest old in
    let bytes_are : length bytes ≡ n = w.size in
    let front_is : length (i.lead ++ bytes) ≡ length i.lead + length bytes = length-append i.lead bytes in
    let behind_is : length (i.body ++ rest) ≡ length i.body + length rest = length-append i.body rest in
    record {
      front = i.lead ++ bytes;
      old = i.lead ++ i.body;
      is = i.is ∙ sym (append_assoc i.lead i.body rest);
      size = omega arith;
      stay = λ x none more. absurd none;
      reads = λ c more k.
          let wide : length (bytes ++ more) ≡ length bytes + length more = length-append bytes more in
          let long : length (bytes ++ more) ≡ length (i.body ++ rest) = omega arith in
          let len_is : length (bytes ++ more) - length more ≡ a.len = let g = i.len in omega arith in
          let renamed : Spec = record { name = name; form = s.form; implicit = s.implicit } in
          ap (attrs_at end c (renamed ∷ [])) (append_assoc i.lead bytes more)
          ∙ attrs_one end c renamed _ (i.lead ++ (bytes ++ more)) more
          (attr_again end c renamed a.form v (Number n) i.lead (bytes ++ more) more (i.form c (bytes ++ more) long) is (w.reads more)
          ∙ attr_is name a.form v (end - length (bytes ++ more)) a.place (length (bytes ++ more) - length more) a.len more
          (ap (λ (n : ℕ). end - n) long ∙ sym i.place) len_is);
      starts = λ qs f. let p = i.place in omega arith;
      patches = λ after qs f.
          let p = i.place in
          ap (patched (end - length left) (record { place = a.place; bytes = bytes } ∷ qs))
          (ap (λ (l : List ℕ). l ++ after) i.is ∙ append_assoc i.lead (i.body ++ rest) after
          ∙ ap (λ (l : List ℕ). i.lead ++ l) (append_assoc i.body rest after))
          ∙ patched-over (end - length left) (end - length rest) i.lead i.body (rest ++ after) (record { place = a.place; bytes = bytes })
          qs (omega arith) (omega arith) (omega arith)
          ∙ sym (append_assoc i.lead bytes (patched (end - length rest) qs (rest ++ after)));
    }

-- A number at the front, of a form that isn't after DW_FORM_indirect.
front_rewritten : (end name form n v place : ℕ) (body rest bytes : List ℕ) → length (body ++ rest) ≤ end →
    ((c : ℕ) (left : List ℕ) → form_at c form left ≡ Ok (form, left)) → shape_of form ≡ Some (Number n) → IsNumber n v bytes →
    length body ≡ n → place ≡ end - length (body ++ rest) →
    IsRewritten NoneStays end (spec_of name form ∷ []) (record { name = name; form = form; place = place; len = n; value = v } ∷ [])
    (record { place = place; bytes = bytes } ∷ []) (body ++ rest) rest
front_rewritten end name form n v place body rest bytes h formed shaped w body_is place_is =
    let bytes_are : length bytes ≡ n = w.size in
    let behind_is : length (body ++ rest) ≡ length body + length rest = length-append body rest in
    record {
      front = bytes;
      old = body;
      is = refl;
      size = omega arith;
      stay = λ x none more. absurd none;
      reads = λ c more k.
          let wide : length (bytes ++ more) ≡ length bytes + length more = length-append bytes more in
          let long : length (bytes ++ more) ≡ length (body ++ rest) = omega arith in
          let len_is : length (bytes ++ more) - length more ≡ n = omega arith in
          attrs_one end c (spec_of name form) _ (bytes ++ more) more
          (attr_again end c (spec_of name form) form v (Number n) [] (bytes ++ more) more (formed c (bytes ++ more)) shaped (w.reads more)
          ∙ attr_is name form v (end - length (bytes ++ more)) place (length (bytes ++ more) - length more) n more
          (ap (λ (n : ℕ). end - n) long ∙ sym place_is) len_is);
      starts = λ qs f. omega arith;
      patches = λ after qs f.
          ap (patched (end - length (body ++ rest)) (record { place = place; bytes = bytes } ∷ qs)) (append_assoc body rest after)
          ∙ patched-over (end - length (body ++ rest)) (end - length rest) [] body (rest ++ after)
          (record { place = place; bytes = bytes }) qs (omega arith) (omega arith) (omega arith);
    }

-- The bytes before a value are empty, unless the form is DW_FORM_indirect.
lead_none : (form x : ℕ) (lead more : List ℕ) → (form == 22) ≡ false → form_at 0 form (lead ++ more) ≡ Ok (x, more) → lead ≡ []
lead_none form x lead more direct e =
    step (is_form form) (ap (λ (b : Bool). if b then form_within (length (lead ++ more)) 0 (lead ++ more) else
    (if is_form form then Ok (form, lead ++ more) else Err (NoForm 0))) (sym direct) ∙ e) where
      step : (b : Bool) → ◌≡◌ {A = Read ℕ} (if b then Ok (form, lead ++ more) else Err (NoForm 0)) (Ok (x, more)) → lead ≡ []
      step false e = absurd (cc)
      step true e =
          let same : lead ++ more ≡ more = same_left _ _ _ _ e in
          let size : length lead + length more ≡ length more = sym (length-append lead more) ∙ ap length same in
          nil_from_length lead (omega arith)

direct_form : (form x : ℕ) (lead more : List ℕ) → (form == 22) ≡ false → form_at 0 form (lead ++ more) ≡ Ok (x, more) → form ≡ x
direct_form form x lead more direct e =
    step (is_form form) (ap (λ (b : Bool). if b then form_within (length (lead ++ more)) 0 (lead ++ more) else
    (if is_form form then Ok (form, lead ++ more) else Err (NoForm 0))) (sym direct) ∙ e) where
      step : (b : Bool) → ◌≡◌ {A = Read ℕ} (if b then Ok (form, lead ++ more) else Err (NoForm 0)) (Ok (x, more)) → form ≡ x
      step false e = absurd (cc)
      step true e = same_value _ _ _ _ e

-- A high address of `n` bytes in the entry.
pub record IsHigh (n end : ℕ) (a : Attr) (left rest : List ℕ) : Type 0 where
  pub body : List ℕ
  pub is : left ≡ body ++ rest
  pub size : length body ≡ n
  pub len : a.len ≡ n
  pub place : a.place ≡ end - length (body ++ rest)

pub high_at : (n end : ℕ) (s : Spec) (a : Attr) (left rest : List ℕ) → IsAttr end s a left rest → (s.form == 22) ≡ false →
    shape_of s.form ≡ Some (Number n) → IsHigh n end a left rest
high_at n end s a left rest i direct shaped =
    let formed : form_at 0 s.form (i.lead ++ (i.body ++ rest)) ≡ Ok (a.form, i.body ++ rest) = i.form 0 (i.body ++ rest) refl in
    let none : i.lead ≡ [] = lead_none s.form a.form i.lead (i.body ++ rest) direct formed in
    let form_is : s.form ≡ a.form = direct_form s.form a.form i.lead (i.body ++ rest) direct formed in
    let shape_is : i.shape ≡ Number n = number_shape n i.shape a.form i.shaped (ap shape_of (sym form_is) ∙ shaped) in
    let old : number_read n (i.body ++ rest) ≡ Ok (a.value, rest) =
    sym (ap (λ (k : Shape). gap_value_at s.implicit k (i.body ++ rest)) shape_is) ∙ i.value rest refl in
    let body_is : length i.body ≡ n = number_size n a.value i.body rest old in
    record {
      body = i.body;
      is = i.is ∙ ap (λ (l : List ℕ). l ++ (i.body ++ rest)) none;
      size = body_is;
      len = i.len ∙ body_is;
      place = i.place;
    }

pub high4_rewritten : (end v : ℕ) (a : Attr) (left rest bytes : List ℕ) → length left ≤ end → IsHigh 4 end a left rest →
    IsNumber 4 v bytes →
    IsRewritten NoneStays end (spec_of DW_AT_ranges 23 ∷ []) (record
    { name = DW_AT_ranges; form = 23; place = a.place; len = 4; value = v } ∷ [])
    (record { place = a.place; bytes = bytes } ∷ []) left rest
high4_rewritten end v a left rest bytes h i w =
    subst (λ (l : List ℕ). IsRewritten NoneStays end (spec_of DW_AT_ranges 23 ∷ [])
    (record { name = DW_AT_ranges; form = 23; place = a.place; len = 4; value = v } ∷ [])
    (record { place = a.place; bytes = bytes } ∷ []) l rest) (sym i.is)
    (front_rewritten end DW_AT_ranges 23 4 v a.place i.body rest bytes (let g = ap length i.is in omega arith)
    (λ c left. refl) refl w i.size i.place)

pub high8_rewritten : (end v : ℕ) (a : Attr) (left rest bytes zeros : List ℕ) → length left ≤ end → IsHigh 8 end a left rest →
    IsNumber 4 v bytes → IsNumber 4 0 zeros →
    IsRewritten NoneStays end (spec_of DW_AT_ranges 23 ∷ spec_of DW_AT_unused_high 6 ∷ [])
    (record { name = DW_AT_ranges; form = 23; place = a.place; len = 4; value = v } ∷
    record { name = DW_AT_unused_high; form = 6; place = a.place + 4; len = 4; value = 0 } ∷ [])
    (record { place = a.place; bytes = bytes } ∷ record { place = a.place + 4; bytes = zeros } ∷ []) left rest
high8_rewritten end v a left rest bytes zeros h i w z =
    let first : List ℕ = take 4 i.body in
    let second : List ℕ = drop 4 i.body in
    let size : length i.body ≡ 8 = i.size in
    let first_is : length first ≡ 4 = length-take-le 4 i.body (omega arith) in
    let second_is : length second ≡ 4 = length-drop 4 i.body ∙ ap (λ (n : ℕ). n - 4) size in
    let body_is : i.body ++ rest ≡ first ++ (second ++ rest) =
    ap (λ (l : List ℕ). l ++ rest) (sym (take-append-drop 4 i.body)) ∙ append_assoc first second rest in
    let left_is : left ≡ first ++ (second ++ rest) = i.is ∙ body_is in
    let size1 : length (first ++ (second ++ rest)) ≡ length first + length (second ++ rest) = length-append first (second ++ rest) in
    let size2 : length (second ++ rest) ≡ length second + length rest = length-append second rest in
    let long : length left ≡ length (first ++ (second ++ rest)) = ap length left_is in
    let place_is : a.place ≡ end - length (first ++ (second ++ rest)) = i.place ∙ ap (λ (l : List ℕ). end - length l) body_is in
    subst (λ (l : List ℕ). IsRewritten NoneStays end (spec_of DW_AT_ranges 23 ∷ spec_of DW_AT_unused_high 6 ∷ [])
    (record { name = DW_AT_ranges; form = 23; place = a.place; len = 4; value = v } ∷
    record { name = DW_AT_unused_high; form = 6; place = a.place + 4; len = 4; value = 0 } ∷ [])
    (record { place = a.place; bytes = bytes } ∷ record { place = a.place + 4; bytes = zeros } ∷ []) l rest) (sym left_is)
    (stays_less (λ x. NoneStays x ⊎ NoneStays x) NoneStays end _ _ _ _ _ (λ x none. inl none)
    (rewritten_then NoneStays NoneStays end (spec_of DW_AT_ranges 23 ∷ []) (spec_of DW_AT_unused_high 6 ∷ [])
    (record { name = DW_AT_ranges; form = 23; place = a.place; len = 4; value = v } ∷ [])
    (record { name = DW_AT_unused_high; form = 6; place = a.place + 4; len = 4; value = 0 } ∷ [])
    (record { place = a.place; bytes = bytes } ∷ []) (record { place = a.place + 4; bytes = zeros } ∷ [])
    (first ++ (second ++ rest)) (second ++ rest) rest (omega arith)
    (front_rewritten end DW_AT_ranges 23 4 v a.place first (second ++ rest) bytes (omega arith) (λ c left. refl) refl w first_is place_is)
    (front_rewritten end DW_AT_unused_high 6 4 0 (a.place + 4) second rest zeros (omega arith) (λ c left. refl) refl z second_is
    (omega arith))))

-- The conditions under which the change of an attribute is read back: a high address is a number in the entry, and new numbers fit in their
-- bytes.
pub record IsChangeable (m : Moves) (own first : Bool) (e : Entry) (s : Spec) (a : Attr) : Type 0 where
  pub high : (s.name == DW_AT_high_pc) ≡ true → (s.form ≡ 6) ⊎ ((s.form ≡ 7) ⊎ (s.form ≡ 1))
  pub fits : (v : ℕ) → new_value m own first e a ≡ Some v → v < 256 ^ a.len
  pub ranges : unwrap_or (new_list_offset m.lists e.place DW_AT_ranges) 0 < 256 ^ 4

module _ (m : Moves) (own first : Bool) (e : Entry) (s : Spec) (a : Attr) where
  abbrev pub spec_by : Bool → List Spec
  spec_by b = if b then ranges_specs s.form
      else record { name = new_name own e.declaration s.name; form = s.form; implicit = s.implicit } ∷ []

  abbrev pub attr_by : Bool → Option ℕ → List Attr
  attr_by b nv = if b then ranges_attrs m e a else record {
    name = new_name own e.declaration a.name;
    form = a.form;
    place = a.place;
    len = a.len;
    value = unwrap_or nv a.value;
  } ∷ []

  abbrev pub patch_by : Bool → Option ℕ → List Patch
  patch_by b nv = if b || is_some nv then map number_patch (attr_by b nv) else []

  -- A number that changes has eight bytes or four.
  of_size : (end n : ℕ) (left rest : List ℕ) → IsAttr end s a left rest → shape_of a.form ≡ Some (Number n) →
      shape_of a.form ≡ Some (Number a.len)
  of_size end n left rest i is = is ∙ ap (λ (k : ℕ). Some (Number k)) (sym (number_len end n s a left rest i is))

  eq_of : (x y : ℕ) → (x == y) ≡ true → x ≡ y
  eq_of x y e = grind (arith, nat_tests)

  sized_by : (end : ℕ) (left rest : List ℕ) → IsAttr end s a left rest → (b d : Bool) (o p : Option ℕ) (v : ℕ) → (a.form == 1) ≡ b →
      (a.form == 23) ≡ d →
      ◌≡◌ {A = Option ℕ} (if b then o else (if d then p else None)) (Some v) → shape_of a.form ≡ Some (Number a.len)
  sized_by end left rest i true d o p v e f g = of_size end 8 left rest i (ap shape_of (eq_of a.form 1 e))
  sized_by end left rest i false true o p v e f g = of_size end 4 left rest i (ap shape_of (eq_of a.form 23 f))
  sized_by end left rest i false false o p v e f g = absurd (cc)

  sized : (end v : ℕ) (left rest : List ℕ) → IsAttr end s a left rest → new_value m own first e a ≡ Some v →
      shape_of a.form ≡ Some (Number a.len)
  sized end v left rest i f = sized_by end left rest i (a.form == 1) (a.form == 23) (new_address m own e a)
      (new_list m first e a) v refl refl f

  high8_by : (end form : ℕ) (left rest : List ℕ) → length left ≤ end → IsAttr end s a left rest → IsChangeable m own first e s a →
      s.form ≡ form → (form == 22) ≡ false → shape_of form ≡ Some (Number 8) → ranges_specs form ≡ ranges_specs 7 →
      IsRewritten NoneStays end (ranges_specs s.form) (ranges_attrs m e a) (map number_patch (ranges_attrs m e a)) left rest
  high8_by end form left rest h i c is direct shaped specs =
      let high : IsHigh 8 end a left rest =
      high_at 8 end s a left rest i (ap (λ (x : ℕ). x == 22) is ∙ direct) (ap shape_of is ∙ shaped) in
      let v : ℕ = unwrap_or (new_list_offset m.lists e.place DW_AT_ranges) 0 in
      let done = high8_rewritten end v a left rest (little_bytes 4 v) (little_bytes 4 0) h high (written_number 4 v c.ranges)
      (written_number 4 0 (omega arith)) in
      subst (λ (l : List Spec). IsRewritten NoneStays end l (ranges_attrs m e a) (map number_patch (ranges_attrs m e a)) left rest)
      (sym (ap ranges_specs is ∙ specs))
      (subst (λ (n : ℕ). IsRewritten NoneStays end (ranges_specs 7)
      (record { name = DW_AT_ranges; form = 23; place = a.place; len = 4; value = v }
      ∷ (if n == 8 then record { name = DW_AT_unused_high; form = 6; place = a.place + 4; len = 4; value = 0 } ∷ [] else []))
      (map number_patch (record { name = DW_AT_ranges; form = 23; place = a.place; len = 4; value = v }
      ∷ (if n == 8 then record { name = DW_AT_unused_high; form = 6; place = a.place + 4; len = 4; value = 0 } ∷ [] else []))) left
      rest)
      (sym high.len) done)

  high_by : (end : ℕ) (left rest : List ℕ) → length left ≤ end → IsAttr end s a left rest → IsChangeable m own first e s a →
      (s.form ≡ 6) ⊎ ((s.form ≡ 7) ⊎ (s.form ≡ 1)) → (nv : Option ℕ) →
      IsRewritten NoneStays end (ranges_specs s.form) (ranges_attrs m e a) (map number_patch (ranges_attrs m e a)) left rest
  high_by end left rest h i c (inl f) nv =
      let high : IsHigh 4 end a left rest = high_at 4 end s a left rest i (ap (λ (x : ℕ). x == 22) f) (ap shape_of f) in
      let v : ℕ = unwrap_or (new_list_offset m.lists e.place DW_AT_ranges) 0 in
      let bytes : List ℕ = little_bytes 4 v in
      let done = high4_rewritten end v a left rest bytes h high (written_number 4 v c.ranges) in
      subst (λ (x : ℕ). IsRewritten NoneStays end (ranges_specs x) (ranges_attrs m e a) (map number_patch (ranges_attrs m e a)) left rest)
      (sym f)
      (subst (λ (n : ℕ). IsRewritten NoneStays end (ranges_specs 6)
      (record { name = DW_AT_ranges; form = 23; place = a.place; len = 4; value = v }
      ∷ (if n == 8 then record { name = DW_AT_unused_high; form = 6; place = a.place + 4; len = 4; value = 0 } ∷ [] else []))
      (map number_patch (record { name = DW_AT_ranges; form = 23; place = a.place; len = 4; value = v }
      ∷ (if n == 8 then record { name = DW_AT_unused_high; form = 6; place = a.place + 4; len = 4; value = 0 } ∷ [] else []))) left
      rest)
      (sym high.len) done)
  high_by end left rest h i c (inr (inl f)) nv = high8_by end 7 left rest h i c f refl refl refl
  high_by end left rest h i c (inr (inr f)) nv = high8_by end 1 left rest h i c f refl refl refl

  renamed : (P : Attr → Type 0) (end : ℕ) (attrs : List Attr → List Patch) (value : ℕ) (left rest : List ℕ) → a.name ≡ s.name →
      IsRewritten P end (spec_by false) (record {
        name = new_name own e.declaration s.name;
        form = a.form;
        place = a.place;
        len = a.len;
        value = value;
      } ∷ [])
      (attrs (record { name = new_name own e.declaration s.name; form = a.form; place = a.place; len = a.len; value = value } ∷ [])) left
      rest →
      IsRewritten P end (spec_by false) (record {
        name = new_name own e.declaration a.name;
        form = a.form;
        place = a.place;
        len = a.len;
        value = value;
      } ∷ [])
      (attrs (record { name = new_name own e.declaration a.name; form = a.form; place = a.place; len = a.len; value = value } ∷ [])) left
      rest
  renamed P end attrs value left rest c r =
      subst (λ (x : ℕ). IsRewritten P end (spec_by false) (record { name = x; form = a.form; place = a.place; len = a.len; value = value }
      ∷ [])
      (attrs (record { name = x; form = a.form; place = a.place; len = a.len; value = value } ∷ [])) left rest)
      (sym (ap (λ (n : ℕ). new_name own e.declaration n) c)) r

  -- A value that isn't rewritten stays.
  abbrev pub StaysOf : Bool → Option ℕ → Attr → Type 0
  StaysOf b nv x = (x ≡ a) × (b ≡ false) × (nv ≡ None)

  differ : true ≡ false → ⊥
  differ k = cc

  given : (v : ℕ) → Some v ≡ None → ⊥
  given v k = cc

  by_cases : (end : ℕ) (left rest : List ℕ) → length left ≤ end → IsAttr end s a left rest → IsChangeable m own first e s a →
      (b : Bool) (nv : Option ℕ) → (s.name == DW_AT_high_pc) ≡ b → new_value m own first e a ≡ nv →
      IsRewritten (StaysOf b nv) end (spec_by b) (attr_by b nv) (patch_by b nv) left rest
  by_cases end left rest h i c true nv is f =
      stays_less NoneStays (StaysOf true nv) end _ _ _ left rest (λ x k. differ k.1) (high_by end left rest h i c (c.high is) nv)
  by_cases end left rest h i c false None is f =
      stays_less (λ x. x ≡ a) (StaysOf false None) end _ _ _ left rest (λ x k. k.0)
      (renamed (λ x. x ≡ a) end (λ attrs. []) a.value left rest i.name
      (kept_rewritten end (new_name own e.declaration s.name) s a left rest h i))
  by_cases end left rest h i c false (Some v) is f =
      stays_less NoneStays (StaysOf false (Some v)) end _ _ _ left rest (λ x k. given v k.2)
      (renamed NoneStays end (map number_patch) v left rest i.name
      (number_rewritten end (new_name own e.declaration s.name) a.len v s a left rest (little_bytes a.len v) h i
      (sized end v left rest i f)
      (written_number a.len v (c.fits v f))))

-- An attribute is read back with its changes.
pub attr_rewritten : (m : Moves) (own first : Bool) (e : Entry) (s : Spec) (a : Attr) (end d : ℕ) (left rest : List ℕ) →
    length left ≤ end →
    attr_at end d s left ≡ Ok (a, rest) → IsChangeable m own first e s a →
    IsRewritten (StaysOf m own first e s a (a.name == DW_AT_high_pc) (new_value m own first e a)) end (changed_spec own e.declaration s)
    (changed_attr m own first e a) (attr_patches m own first e a) left rest
attr_rewritten m own first e s a end d left rest h read c =
    let i : IsAttr end s a left rest = attr_front end d s a left rest read in
    subst (λ (n : ℕ). IsRewritten (StaysOf m own first e s a (a.name == DW_AT_high_pc) (new_value m own first e a)) end
    (spec_by m own first e s a (n == DW_AT_high_pc)) (changed_attr m own first e a) (attr_patches m own first e a) left rest) i.name
    (by_cases m own first e s a end left rest h i c (a.name == DW_AT_high_pc) (new_value m own first e a)
    (ap (λ (n : ℕ). n == DW_AT_high_pc) (sym i.name)) refl)
