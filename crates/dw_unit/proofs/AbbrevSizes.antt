-- A table of abbreviations takes at most three times the bytes that it was read from.
use Rattle.std.proofs.Common.{◌≡◌, ◌<◌, ◌≤◌, ◌+◌, ◌-◌, ◌*◌, ◌^◌, ◌++◌, ◌∙◌, ℕ, ℤ, zero, suc, pos, negsuc, List, [], ◌∷◌, Bool, true}
use Rattle.std.proofs.Common.{false, cond, Option, Some, None, Ok, Err, Result, refl, ap, sym, subst, arith, length, drop, map, take}
use Rattle.std.proofs.Common.{nat_lt, not, length-append, length-drop, ⊎_elim, inl, inr}
use Rattle.std.specs.Prelude.{◌==◌, ◌&&◌, ◌||◌, ◌⊎◌, if◌then◌else◌, filter, flat_map, sum_by, unwrap_or, FitsSigned}
use Rattle.std.specs.List.{list_any, range_with_len}
use Rattle.std.specs.Int.{w64, cast_signed, cast_unsigned}
use Rattle.std.proofs.lemmas.Int.{ints, to_z-of_z}
use Rattle.std.proofs.lemmas.Bool.{eqb-true}
use Rattle.std.proofs.lemmas.Bool.Decides.{nat_tests}
use Rattle.std.proofs.lemmas.Grind.{flat_map-append}
use Rattle.std.proofs.lemmas.List.Sums.{sum_by-cons}
use Rattle.std.proofs.lemmas.Option.{same_Some}
use Rattle.rb_bytes.specs.declared.gap.Gap.{Gap}
use Rattle.rb_bytes.specs.declared.gap.Gap.TheVariants.{Short, Wide}
use Rattle.rb_bytes.specs.Readers.{and_then, number_read}
use Rattle.rb_bytes.specs.Leb.{uleb, uleb_at, sleb, sleb_at, fits_i64, leb_length, sleb_value}
use Rattle.rb_bytes.proofs.UnsignedLeb.{IsShortestUleb-uleb}
use Rattle.rb_bytes.proofs.SignedLeb.{IsShortestSleb-sleb}
use Rattle.table_core.specs.ReadSteps.{oks, or_trouble}
use Rattle.table_core.specs.DebugUnits.{Walked, walked}
use Rattle.table_core.specs.declared.shape.Shape.TheVariants.{SignedLeb}
use Rattle.table_core.specs.AttributeForms.{value_at}
use Rattle.table_core.proofs.Numbers.{same_value, same_left}
use Rattle.dw_unit.specs.declared.trouble.Trouble.{Trouble}
use Rattle.dw_unit.specs.declared.trouble.Trouble.TheVariants.{Unsound}
use Rattle.dw_unit.specs.declared.declaration.Spec.{Spec}
use Rattle.dw_unit.specs.AbbrevWeight.{abbrev_weight, table_weight}
use Rattle.dw_unit.specs.Trouble.{Read, whole}
use Rattle.dw_unit.specs.CompUnits.{Sections, Unit, unit_of, units}
use Rattle.dw_unit.specs.Declarations.{Declaration, implicit_at, spec_at, specs_at, specs_within, add_spec, declaration_at}
use Rattle.dw_unit.specs.Declarations.{declaration_or_end, next_declaration, table_within, table_at, table_behind, has_spec}
use Rattle.dw_unit.specs.Changes.{changed_abbrevs, changed_spec, declaration_bytes, flag, is_own, keeps_low, new_name}
use Rattle.dw_unit.specs.Changes.{ranges_specs, spec_bytes, table_bytes}
use Rattle.dw_unit.proofs.Forms.{uleb_forward}
use Rattle.dw_unit.proofs.NamedOffsets.{ends_inside}
use Rattle.dw_unit.proofs.Readers.{spec_behind}
use Rattle.dw_unit.proofs.SpellableTables.{made_spec, uleb_small}
use Rattle.dw_unit.proofs.Spelled.{behind_form, behind_implicit, bytes_of_table, implicit_bytes, of_tag, of_children, of_specs}
use Rattle.dw_unit.proofs.Spelled.{some_declaration}
use Rattle.dw_unit.proofs.UnitsRead.{IsRead, unit_read}

-- Numbers in LEB128

uleb_size : (x : ℕ) (bytes rest : List ℕ) → uleb_at bytes ≡ Ok (x, rest) → length (uleb x) + length rest ≤ length bytes
uleb_size x bytes rest e = (IsShortestUleb-uleb x (uleb_small x bytes rest e)).shortest bytes rest e

one_byte : (x : ℕ) → x < 2 ^ 64 → uleb_at (x ∷ []) ≡ Ok (x, []) → length (uleb x) ≤ 1
one_byte x h e = let n = (IsShortestUleb-uleb x h).shortest (x ∷ []) [] e in omega arith

two_bytes : (x a b : ℕ) → x < 2 ^ 64 → uleb_at (a ∷ b ∷ []) ≡ Ok (x, []) → length (uleb x) ≤ 2
two_bytes x a b h e = let n = (IsShortestUleb-uleb x h).shortest (a ∷ b ∷ []) [] e in omega arith

fits_is : (z : ℤ) → fits_i64 z ≡ true → FitsSigned w64 z
fits_is (pos n) f = let g : n < 2 ^ 63 = grind (arith, nat_tests) in omega (arith, ints)
fits_is (negsuc n) f = let g : n < 2 ^ 63 = grind (arith, nat_tests) in omega (arith, ints)

sleb_fits_by : (short fits : Bool) (v z : ℤ) (n : ℕ) (bytes rest : List ℕ) → fits_i64 v ≡ fits →
    ◌≡◌ {A = Result (ℤ × List ℕ) Gap} (cond short (Err Short) (cond fits (Ok (v, drop n bytes)) (Err Wide))) (Ok (z, rest)) →
    FitsSigned w64 z
sleb_fits_by true fits v z n bytes rest f e = absurd (cc)
sleb_fits_by false false v z n bytes rest f e = absurd (cc)
sleb_fits_by false true v z n bytes rest f e = let g : v ≡ z = same_value _ _ _ _ e in subst (λ (k : ℤ). FitsSigned w64 k) g (fits_is v f)

sleb_fits : (z : ℤ) (bytes rest : List ℕ) → sleb_at bytes ≡ Ok (z, rest) → FitsSigned w64 z
sleb_fits z bytes rest e =
    sleb_fits_by (nat_lt (length bytes) (leb_length bytes)) (fits_i64 (sleb_value (take (leb_length bytes) bytes)))
    (sleb_value (take (leb_length bytes) bytes)) z
    (leb_length bytes) bytes rest refl e

signed_size : (x : ℕ) (bytes rest : List ℕ) → value_at Unsound 0 SignedLeb bytes ≡ Ok (x, rest) →
    length (sleb (cast_signed w64 x)) + length rest ≤ length bytes
signed_size x bytes rest e = step (sleb_at bytes) refl e where
  step : (found : Result (ℤ × List ℕ) Gap) → sleb_at bytes ≡ found →
      ◌≡◌ {A = Read ℕ} (or_trouble Unsound (and_then found (λ z rest. Ok (cast_unsigned w64 z, rest)))) (Ok (x, rest)) →
      length (sleb (cast_signed w64 x)) + length rest ≤ length bytes
  step (Err gap) is e = absurd (cc)
  step (Ok read) is e =
      let g : cast_unsigned w64 read.0 ≡ x = same_value _ _ _ _ e in
      let h : read.1 ≡ rest = same_left _ _ _ _ e in
      let fits : FitsSigned w64 read.0 = sleb_fits read.0 bytes read.1 is in
      let back : cast_signed w64 x ≡ read.0 = ap (cast_signed w64) (sym g) ∙ to_z-of_z w64 read.0 fits in
      let size : length (sleb read.0) + length read.1 ≤ length bytes = (IsShortestSleb-sleb read.0 fits).shortest bytes read.1 is in
      let same = ap (λ (z : ℤ). length (sleb z)) back in
      let left = ap length h in
      omega arith

-- Pairs

-- The bytes of a pair when it was read, and of its form and value.
record IsSized (s : Spec) (left rest : List ℕ) : Type 0 where
  size : length (uleb s.name) + length (uleb s.form) + length (implicit_bytes (s.form == 33) s) + length rest ≤ length left
  less : 1 + length (uleb s.form) + length (implicit_bytes (s.form == 33) s) + length rest ≤ length left
  two : 2 + length rest ≤ length left

abbrev spec : ℕ → ℕ → ℕ → Spec
spec name form implicit = record { name = name; form = form; implicit = implicit }

implicit_size : (name form implicit : ℕ) (b : Bool) (left rest : List ℕ) → (form == 33) ≡ b →
    ◌≡◌ {A = Read ℕ} (if b then value_at Unsound 0 SignedLeb left else Ok (0, left)) (Ok (implicit, rest)) →
    length (implicit_bytes b (spec name form implicit)) + length rest ≤ length left
implicit_size name form implicit true left rest is e = signed_size implicit left rest e
implicit_size name form implicit false left rest is e = let n = ap length (same_left _ _ _ _ e) in omega arith

module _ (left left1 left2 rest : List ℕ) (name form : ℕ) (s : Spec) (named : uleb_at left ≡ Ok (name, left1))
    (formed : uleb_at left1 ≡ Ok (form, left2)) where
  by_read : (r : Read ℕ) → implicit_at form left2 ≡ r → behind_implicit name form r ≡ Ok (Some s, rest) → IsSized s left rest
  by_read (Err t) is e = absurd (cc)
  by_read (Ok read) is e =
      let rest_is : read.1 ≡ rest = same_left _ _ _ _ e in
      let n = uleb_size name left left1 named in
      let f = uleb_size form left1 left2 formed in
      let a = uleb_forward left left1 name named in
      let b = uleb_forward left1 left2 form formed in
      let i = implicit_size name form read.0 (form == 33) left2 read.1 refl is in
      subst (λ (l : List ℕ). IsSized s left l) rest_is
      (subst (λ (x : Spec). IsSized x left read.1) (made_spec name form read.0 read.1 rest s e)
      (record { size = omega arith; less = omega arith; two = omega arith }))

  by_zeros : (b : Bool) →
      ◌≡◌ {A = Read (Option Spec)} (if b then Ok (None, left2) else behind_implicit name form (implicit_at form left2))
      (Ok (Some s, rest)) → IsSized s left rest
  by_zeros true e = let g : None ≡ Some s = same_value _ _ _ _ e in absurd (cc)
  by_zeros false e = by_read (implicit_at form left2) refl e

by_form : (name : ℕ) (left left1 rest : List ℕ) (s : Spec) (found : Result (ℕ × List ℕ) Gap) → uleb_at left ≡ Ok (name, left1) →
    uleb_at left1 ≡ found →
    behind_form name (whole found) ≡ Ok (Some s, rest) → IsSized s left rest
by_form name left left1 rest s (Err gap) named is e = absurd (cc)
by_form name left left1 rest s (Ok read) named is e = by_zeros left left1 read.1 rest name read.0 s named is (name == 0 && read.0 == 0) e

spec_sized : (left rest : List ℕ) (s : Spec) → spec_at left ≡ Ok (Some s, rest) → IsSized s left rest
spec_sized left rest s e = by_name (uleb_at left) refl e where
  by_name : (found : Result (ℕ × List ℕ) Gap) → uleb_at left ≡ found → and_then (whole found) spec_behind ≡ Ok (Some s, rest) →
      IsSized s left rest
  by_name (Err gap) is e = absurd (cc)
  by_name (Ok read) is e = by_form read.0 left read.1 rest s (uleb_at read.1) is refl e

-- The two zeros.
zeros_behind : (name : ℕ) (left left1 rest : List ℕ) (found : Result (ℕ × List ℕ) Gap) → length left1 < length left →
    uleb_at left1 ≡ found →
    behind_form name (whole found) ≡ Ok (None, rest) → 2 + length rest ≤ length left
zeros_behind name left left1 rest (Err gap) h is e = absurd (cc)
zeros_behind name left left1 rest (Ok read) h is e = by_zeros_of (name == 0 && read.0 == 0) e where
  by_implicit : (r : Read ℕ) → behind_implicit name read.0 r ≡ Ok (None, rest) → 2 + length rest ≤ length left
  by_implicit (Err t) f = absurd (cc)
  by_implicit (Ok got) f = let g : Some (spec name read.0 got.0) ≡ None = same_value _ _ _ _ f in absurd (cc)

  by_zeros_of : (b : Bool) → ◌≡◌ {A = Read (Option Spec)} (if b then Ok (None, read.1) else behind_implicit name read.0
      (implicit_at read.0 read.1)) (Ok (None, rest)) →
      2 + length rest ≤ length left
  by_zeros_of true f =
      let g = ap length (same_left _ _ _ _ f) in
      let k = uleb_forward left1 read.1 read.0 is in
      omega arith
  by_zeros_of false f = by_implicit (implicit_at read.0 read.1) f

zeros_sized : (left rest : List ℕ) → spec_at left ≡ Ok (None, rest) → 2 + length rest ≤ length left
zeros_sized left rest e = by_name (uleb_at left) refl e where
  by_name : (found : Result (ℕ × List ℕ) Gap) → uleb_at left ≡ found → and_then (whole found) spec_behind ≡ Ok (None, rest) →
      2 + length rest ≤ length left
  by_name (Err gap) is e = absurd (cc)
  by_name (Ok read) is e = zeros_behind read.0 left read.1 rest (uleb_at read.1) (uleb_forward left read.1 read.0 is) refl e

-- With changes

module _ (own : Bool) (d : Declaration) where
  spec_size : (name form implicit : ℕ) → length (spec_bytes (spec name form implicit)) ≡ length (uleb name) + length (uleb form) + length
      (implicit_bytes (form == 33) (spec name form implicit))
  spec_size name form implicit =
      length-append (uleb name ++ uleb form) (implicit_bytes (form == 33) (spec name form implicit))
      ∙ ap (λ (n : ℕ). n + length (implicit_bytes (form == 33) (spec name form implicit))) (length-append (uleb name) (uleb form))

  one_size : (s : Spec) → length (flat_map spec_bytes (s ∷ [])) ≡ length (spec_bytes s)
  one_size s = let e = length-append (spec_bytes s) [] in omega arith

  abbrev named_by : ℕ → Bool → Bool → Bool → ℕ
  named_by name m e t = if m then (if e then 16145 else 82) else (if t then 16146 else name)

  named_size : (name : ℕ) (m e t : Bool) → length (uleb (named_by name m e t)) ≤ 2 ⊎ (named_by name m e t ≡ name)
  named_size name true true t = inl (two_bytes 16145 145 126 (omega arith) refl)
  named_size name true false t = let n = one_byte 82 (omega arith) refl in inl (omega arith)
  named_size name false e true = inl (two_bytes 16146 146 126 (omega arith) refl)
  named_size name false e false = inr refl

  renamed_size : (s : Spec) (left rest : List ℕ) (name : ℕ) → IsSized s left rest → length (uleb name) ≤ 2 ⊎ (name ≡ s.name) →
      length (flat_map spec_bytes (spec name s.form s.implicit ∷ [])) + 3 * length rest ≤ 3 * length left
  renamed_size s left rest name i small =
      let a = one_size (spec name s.form s.implicit) in
      let b = spec_size name s.form s.implicit in
      ⊎_elim
      (λ (h : length (uleb name) ≤ 2). let x = i.less in omega arith)
      (λ (h : name ≡ s.name). let x = i.size in let y = ap (λ (n : ℕ). length (uleb n)) h in omega arith)
      small

  ranges_size : (b : Bool) → length (flat_map spec_bytes (spec 85 23 0 ∷ (if b then [] else spec 16144 6 0 ∷ []))) ≤ 5
  ranges_size true =
      let x = one_byte 85 (omega arith) refl in
      let y = one_byte 23 (omega arith) refl in
      let a = one_size (spec 85 23 0) in
      let b = spec_size 85 23 0 in
      omega arith
  ranges_size false =
      let x = one_byte 85 (omega arith) refl in
      let y = one_byte 23 (omega arith) refl in
      let z = two_bytes 16144 144 126 (omega arith) refl in
      let w = one_byte 6 (omega arith) refl in
      let a = length-append (spec_bytes (spec 85 23 0)) (flat_map spec_bytes (spec 16144 6 0 ∷ [])) in
      let b = spec_size 85 23 0 in
      let c = one_size (spec 16144 6 0) in
      let e = spec_size 16144 6 0 in
      omega arith

  changed_by : (s : Spec) (left rest : List ℕ) (b : Bool) → IsSized s left rest →
      length (flat_map spec_bytes (if b then ranges_specs s.form else spec (new_name own d s.name) s.form s.implicit ∷ [])) + 3 * length
      rest ≤ 3 * length left
  changed_by s left rest true i = let n = ranges_size (s.form == 6) in let m = i.two in omega arith
  changed_by s left rest false i =
      renamed_size s left rest (new_name own d s.name) i
      (named_size s.name (s.name == 17 && has_spec 18 d && not (keeps_low own d)) (has_spec 82 d) (s.name == 121 || s.name == 8503))

  abbrev changed_bytes : List Spec → List ℕ
  changed_bytes specs = flat_map spec_bytes (flat_map (changed_spec own d) specs)

  more_size : (s : Spec) (specs : List Spec) → length (changed_bytes (s ∷ specs)) ≡ length (flat_map spec_bytes (changed_spec own d s)) +
      length (changed_bytes specs)
  more_size s specs =
      ap length (flat_map-append spec_bytes (changed_spec own d s) (flat_map (changed_spec own d) specs))
      ∙ length-append (flat_map spec_bytes (changed_spec own d s)) (changed_bytes specs)

  abbrev after_spec : Spec → Read (List Spec) → Read (List Spec)
  after_spec s r = and_then r (λ specs rest. Ok (s ∷ specs, rest))

  abbrev AreSized : List Spec → List ℕ → List ℕ → Type 0
  AreSized specs left rest = length (changed_bytes specs) + 2 + 3 * length rest ≤ 3 * length left

by_rest : (own : Bool) (d : Declaration) (s : Spec) (specs : List Spec) (left left1 rest : List ℕ) (r : Read (List Spec)) →
    ((specs : List Spec) (rest : List ℕ) → r ≡ Ok (specs, rest) → AreSized own d specs left1 rest) → IsSized s left left1 →
    after_spec own d s r ≡ Ok (specs, rest) → AreSized own d specs left rest
by_rest own d s specs left left1 rest (Err t) ih i e = absurd (cc)
by_rest own d s specs left left1 rest (Ok read) ih i e =
    let h = ih read.0 read.1 refl in
    let c = changed_by own d s left left1 (s.name == 18) i in
    let m = more_size own d s read.0 in
    let whole : AreSized own d (s ∷ read.0) left read.1 = omega arith in
    subst (λ (l : List ℕ). AreSized own d specs left l) (same_left _ _ _ _ e)
    (subst (λ (xs : List Spec). AreSized own d xs left read.1) (same_value _ _ _ _ e) whole)

none_sized : (own : Bool) (d : Declaration) (specs : List Spec) (left left1 rest : List ℕ) → spec_at left ≡ Ok (None, left1) →
    ◌≡◌ {A = Read (List Spec)} (Ok ([], left1)) (Ok (specs, rest)) → AreSized own d specs left rest
none_sized own d specs left left1 rest is e =
    let z = zeros_sized left left1 is in
    let whole : AreSized own d [] left left1 = omega arith in
    subst (λ (l : List ℕ). AreSized own d specs left l) (same_left _ _ _ _ e)
    (subst (λ (xs : List Spec). AreSized own d xs left left1) (same_value _ _ _ _ e) whole)

by_spec : (own : Bool) (d : Declaration) (n : ℕ) (left rest : List ℕ) (specs : List Spec) (r : Read (Option Spec)) →
    ((left rest : List ℕ) (specs : List Spec) → specs_within n left ≡ Ok (specs, rest) → AreSized own d specs left rest) →
    spec_at left ≡ r →
    and_then r (add_spec (specs_within n)) ≡ Ok (specs, rest) → AreSized own d specs left rest
by_spec own d n left rest specs (Err t) ih is e = absurd (cc)
by_spec own d n left rest specs (Ok (None, left1)) ih is e = none_sized own d specs left left1 rest is e
by_spec own d n left rest specs (Ok (Some s, left1)) ih is e =
    by_rest own d s specs left left1 rest (specs_within n left1) (λ specs rest f. ih left1 rest specs f) (spec_sized left left1 s is) e

specs_sized : (own : Bool) (d : Declaration) (n : ℕ) (left rest : List ℕ) (specs : List Spec) → specs_within n left ≡ Ok (specs, rest) →
    AreSized own d specs left rest
unfolding specs_within
specs_sized own d zero left rest specs e = absurd (cc)
specs_sized own d (suc n) left rest specs e =
    by_spec own d n left rest specs (spec_at left) (λ left rest specs e. specs_sized own d n left rest specs e) refl e

-- Declarations

byte_size_by : (short : Bool) (v x : ℕ) (bytes rest : List ℕ) → nat_lt (length bytes) 1 ≡ short →
    ◌≡◌ {A = Result (ℕ × List ℕ) Gap} (cond short (Err Short) (Ok (v, drop 1 bytes))) (Ok (x, rest)) → 1 + length rest ≤ length bytes
byte_size_by true v x bytes rest is e = absurd (cc)
byte_size_by false v x bytes rest is e =
    let g = ap length (same_left _ _ _ _ e) in
    let h : 1 ≤ length bytes = grind (arith, nat_tests) in
    omega (arith, length-drop 1 bytes)

byte_size : (x : ℕ) (bytes rest : List ℕ) → number_read 1 bytes ≡ Ok (x, rest) → 1 + length rest ≤ length bytes
byte_size x bytes rest e = byte_size_by (nat_lt (length bytes) 1) _ x bytes rest refl e

declaration_size : (own : Bool) (d : Declaration) →
    length (declaration_bytes own d) ≡ length (uleb d.code) + length (uleb d.tag) + 1 + length (changed_bytes own d d.specs) + 2
declaration_size own d =
    let body : List ℕ = changed_bytes own d d.specs in
    let a = length-append (uleb d.code ++ uleb d.tag) (flag d.children ∷ (body ++ 0 ∷ 0 ∷ [])) in
    let b = length-append (uleb d.code) (uleb d.tag) in
    let c = length-append body (0 ∷ 0 ∷ []) in
    omega arith

abbrev IsSmall : Bool → Declaration → List ℕ → List ℕ → Type 0
IsSmall own d left rest = length (declaration_bytes own d) + 3 * length rest ≤ 3 * length left

module _ (place code : ℕ) (own : Bool) (d : Declaration) (left left1 rest : List ℕ) (coded : uleb_at left ≡ Ok (code, left1)) where
  made_small : (tag : ℕ) (children : Bool) (left2 left3 more : List ℕ) (specs : List Spec) → uleb_at left1 ≡ Ok (tag, left2) →
      1 + length left3 ≤ length left2 →
      specs_at left3 ≡ Ok (specs, more) → IsSmall own (record {
        place = place;
        code = code;
        tag = tag;
        children = children;
        specs = specs;
      }) left more
  made_small tag children left2 left3 more specs tagged byte is =
      let x : Declaration = record { place = place; code = code; tag = tag; children = children; specs = specs } in
      let s = specs_sized own x (length left3) left3 more specs is in
      let n = uleb_size code left left1 coded in
      let t = uleb_size tag left1 left2 tagged in
      let z = declaration_size own x in
      omega arith

  by_specs : (tag : ℕ) (children : Bool) (left2 left3 : List ℕ) (r : Read (List Spec)) → uleb_at left1 ≡ Ok (tag, left2) →
      1 + length left3 ≤ length left2 →
      specs_at left3 ≡ r → of_specs place code tag children r ≡ Ok (d, rest) → IsSmall own d left rest
  by_specs tag children left2 left3 (Err t) tagged byte is e = absurd (cc)
  by_specs tag children left2 left3 (Ok read) tagged byte is e =
      subst (λ (l : List ℕ). IsSmall own d left l) (same_left _ _ _ _ e)
      (subst (λ (x : Declaration). IsSmall own x left read.1) (same_value _ _ _ _ e)
      (made_small tag children left2 left3 read.1 read.0 tagged byte is))

  by_children : (tag : ℕ) (left2 : List ℕ) (r : Result (ℕ × List ℕ) Gap) → uleb_at left1 ≡ Ok (tag, left2) → number_read 1 left2 ≡ r →
      of_children place code tag (whole r) ≡ Ok (d, rest) → IsSmall own d left rest
  by_children tag left2 (Err gap) tagged is e = absurd (cc)
  by_children tag left2 (Ok read) tagged is e =
      by_specs tag (nat_lt 0 read.0) left2 read.1 (specs_at read.1) tagged (byte_size read.0 left2 read.1 is) refl e

  by_tag : (r : Result (ℕ × List ℕ) Gap) → uleb_at left1 ≡ r → of_tag place code (whole r) ≡ Ok (d, rest) → IsSmall own d left rest
  by_tag (Err gap) is e = absurd (cc)
  by_tag (Ok read) is e = by_children read.0 read.1 (number_read 1 read.1) is refl e

module _ (place code : ℕ) (own : Bool) (d : Declaration) (left left1 rest : List ℕ) (coded : uleb_at left ≡ Ok (code, left1)) where
  some_of : (x : Declaration) → Some x ≡ Some d → x ≡ d
  some_of x f = ap or_declaration f where
    or_declaration : Option Declaration → Declaration
    or_declaration (Some x) = x
    or_declaration None = d

  by_some : (r : Read Declaration) → declaration_at place code left1 ≡ r → some_declaration r ≡ Ok (Some d, rest) →
      IsSmall own d left rest
  by_some (Err t) is e = absurd (cc)
  by_some (Ok read) is e =
      subst (λ (l : List ℕ). IsSmall own d left l) (same_left _ _ _ _ e)
      (subst (λ (x : Declaration). IsSmall own x left read.1) (some_of read.0 (same_value _ _ _ _ e))
      (by_tag place code own read.0 left left1 read.1 coded (uleb_at left1) refl is))

  by_end : (b : Bool) → ◌≡◌ {A = Read (Option Declaration)} (if b then Ok (None, left1) else some_declaration
      (declaration_at place code left1)) (Ok (Some d, rest)) →
      IsSmall own d left rest
  by_end true e = let g : None ≡ Some d = same_value _ _ _ _ e in absurd (cc)
  by_end false e = by_some (declaration_at place code left1) refl e

declaration_small : (place : ℕ) (own : Bool) (left rest : List ℕ) (d : Declaration) → next_declaration place left ≡ Ok (Some d, rest) →
    IsSmall own d left rest
declaration_small place own left rest d e = by_code (uleb_at left) refl e where
  by_code : (found : Result (ℕ × List ℕ) Gap) → uleb_at left ≡ found →
      and_then (whole found) (declaration_or_end place) ≡ Ok (Some d, rest) → IsSmall own d left rest
  by_code (Err gap) is e = absurd (cc)
  by_code (Ok read) is e = by_end place read.0 own d left read.1 rest is (read.0 == 0) e

end_size : (place : ℕ) (left rest : List ℕ) → next_declaration place left ≡ Ok (None, rest) → 1 + length rest ≤ length left
end_size place left rest e = by_code (uleb_at left) refl e where
  by_some : (r : Read Declaration) → some_declaration r ≡ Ok (None, rest) → 1 + length rest ≤ length left
  by_some (Err t) f = absurd (cc)
  by_some (Ok read) f = let g : Some read.0 ≡ None = same_value _ _ _ _ f in absurd (cc)

  by_zero : (code : ℕ) (left1 : List ℕ) (b : Bool) → uleb_at left ≡ Ok (code, left1) →
      ◌≡◌ {A = Read (Option Declaration)} (if b then Ok (None, left1) else some_declaration (declaration_at place code left1))
      (Ok (None, rest)) → 1 + length rest ≤ length left
  by_zero code left1 true is f =
      let g = ap length (same_left _ _ _ _ f) in
      let h = uleb_forward left left1 code is in
      omega arith
  by_zero code left1 false is f = by_some (declaration_at place code left1) f

  by_code : (found : Result (ℕ × List ℕ) Gap) → uleb_at left ≡ found →
      and_then (whole found) (declaration_or_end place) ≡ Ok (None, rest) → 1 + length rest ≤ length left
  by_code (Err gap) is f = absurd (cc)
  by_code (Ok read) is f = by_zero read.0 read.1 (read.0 == 0) is f

-- Tables

table_size : (own : Declaration → Bool) (n size : ℕ) (left : List ℕ) (end : ℕ) → length left ≤ size →
    (table_within n size left).end ≡ Some end →
    length (bytes_of_table own (table_within n size left).list) + 1 + 3 * size ≤ 3 * length left + 3 * end
unfolding table_within
table_size own zero size left end h e = absurd (cc)
table_size own (suc n) size left end h e =
    step (next_declaration (size - length left) left) refl (λ rest end h f. table_size own n size rest end h f) e where
      step : (r : Read (Option Declaration)) → next_declaration (size - length left) left ≡ r →
          ((rest : List ℕ) (end : ℕ) → length rest ≤ size → (table_within n size rest).end ≡ Some end →
          length (bytes_of_table own (table_within n size rest).list) + 1 + 3 * size ≤ 3 * length rest + 3 * end) →
          (table_behind (table_within n size) size r).end ≡ Some end →
          length (bytes_of_table own (table_behind (table_within n size) size r).list) + 1 + 3 * size ≤ 3 * length left + 3 * end
      step (Err t) is ih f = absurd (cc)
      step (Ok (None, rest)) is ih f =
          let g : size - length rest ≡ end = same_Some (size - length rest) end f in
          let k = end_size (size - length left) left rest is in
          omega arith
      step (Ok (Some d, rest)) is ih f =
          let s = declaration_small (size - length left) (own d) left rest d is in
          let k = ih rest end (omega arith) f in
          let a = length-append (declaration_bytes (own d) d) (bytes_of_table own (table_within n size rest).list) in
          omega arith

table_bytes_size : (s : Sections) (offset end : ℕ) → (table_at s.abbrevs offset).end ≡ Some end →
    length (table_bytes s offset) ≤ table_weight s offset
table_bytes_size s offset end e =
    let inside = ends_inside s.abbrevs offset end e in
    let l = length-drop offset s.abbrevs in
    let t = table_size (is_own s) (length s.abbrevs) (length s.abbrevs) (drop offset s.abbrevs) end (omega arith) e in
    let a = length-append (bytes_of_table (is_own s) (table_at s.abbrevs offset).list) (0 ∷ []) in
    let w = ap (λ (o : Option ℕ). 3 * (unwrap_or o offset - offset)) e in
    omega arith

-- The table of a unit that can be read ends.
named_ends : (abbrevs : List ℕ) (o : ℕ) (ws : List Walked) → list_any (λ (u : Unit). u.abbrev_offset == o)
    (oks (map (unit_of abbrevs) ws)) ≡ true →
    (end : ℕ) × ((table_at abbrevs o).end ≡ Some end)
named_ends abbrevs o [] e = absurd (cc)
named_ends abbrevs o (w ∷ ws) e = by_unit (unit_of abbrevs w) refl e (named_ends abbrevs o ws) where
  by_test : (u : Unit) (b : Bool) → unit_of abbrevs w ≡ Ok u → (u.abbrev_offset == o) ≡ b →
      (b || list_any (λ (u : Unit). u.abbrev_offset == o) (oks (map (unit_of abbrevs) ws))) ≡ true →
      (list_any (λ (u : Unit). u.abbrev_offset == o) (oks (map (unit_of abbrevs) ws)) ≡ true →
      (end : ℕ) × ((table_at abbrevs o).end ≡ Some end)) →
      (end : ℕ) × ((table_at abbrevs o).end ≡ Some end)
  by_test u true is f e ih =
      let r : IsRead abbrevs w u = unit_read abbrevs w u is in
      subst (λ (x : ℕ). (end : ℕ) × ((table_at abbrevs x).end ≡ Some end)) (eqb-true u.abbrev_offset o f) (r.end, r.ends)
  by_test u false is f e ih = ih e

  by_unit : (r : Result Unit Trouble) → unit_of abbrevs w ≡ r →
      list_any (λ (u : Unit). u.abbrev_offset == o) (oks (r ∷ map (unit_of abbrevs) ws)) ≡ true →
      (list_any (λ (u : Unit). u.abbrev_offset == o) (oks (map (unit_of abbrevs) ws)) ≡ true →
      (end : ℕ) × ((table_at abbrevs o).end ≡ Some end)) →
      (end : ℕ) × ((table_at abbrevs o).end ≡ Some end)
  by_unit (Err t) is e ih = ih e
  by_unit (Ok u) is e ih = by_test u (u.abbrev_offset == o) is refl e ih

sum_size : (f : ℕ → List ℕ) (w : ℕ → ℕ) (p : ℕ → Bool) (os : List ℕ) → ((o : ℕ) → p o ≡ true → length (f o) ≤ w o) →
    length (flat_map f (filter p os)) ≤ sum_by w (filter p os)
sum_size f w p [] each = omega arith
sum_size f w p (o ∷ os) each = by_test (p o) refl (sum_size f w p os each) where
  by_test : (b : Bool) → p o ≡ b → length (flat_map f (filter p os)) ≤ sum_by w (filter p os) →
      length (flat_map f (if b then o ∷ filter p os else filter p os)) ≤ sum_by w (if b then o ∷ filter p os else filter p os)
  by_test true is ih =
      let a = length-append (f o) (flat_map f (filter p os)) in
      let h = each o is in
      let both : length (f o ++ flat_map f (filter p os)) ≤ w o + sum_by w (filter p os) = omega arith in
      subst (λ (n : ℕ). length (f o ++ flat_map f (filter p os)) ≤ n) (sym (sum_by-cons w o (filter p os))) both
  by_test false is ih = ih

-- The weight of the written `.debug_abbrev` bounds its size.
pub abbrevs_size : (s : Sections) → length (changed_abbrevs s) ≤ abbrev_weight s
abbrevs_size s =
    sum_size (table_bytes s) (table_weight s) (λ o. list_any (λ (u : Unit). u.abbrev_offset == o) (units s))
    (range_with_len 0 (length s.abbrevs))
    (λ o t. let n = named_ends s.abbrevs o (walked 5 s.info) t in table_bytes_size s o n.0 n.1)
