-- Declarations that were read can be spelled, with or without changes.
use Rattle.std.proofs.Common.{◌≡◌, ◌≢◌, ◌<◌, ◌-◌, ◌^◌, ◌∙◌, ℕ, ℤ, zero, suc, List, [], ◌∷◌, ◌++◌, Bool, true, false, cond, Option, Some}
use Rattle.std.proofs.Common.{None, Ok, Err, Result, refl, ap, sym, subst, arith, length, drop, take, nat_lt, pos, negsuc}
use Rattle.std.specs.Prelude.{⊤, ◌==◌, ◌&&◌, ◌||◌, not, if◌then◌else◌, flat_map}
use Rattle.std.specs.Int.{w64, cast_unsigned}
use Rattle.std.proofs.lemmas.Int.{ints}
use Rattle.std.proofs.lemmas.Bool.Decides.{nat_tests}
use Rattle.rb_bytes.specs.declared.gap.Gap.{Gap}
use Rattle.rb_bytes.specs.declared.gap.Gap.TheVariants.{Short, Wide}
use Rattle.rb_bytes.specs.Readers.{and_then, number_read}
use Rattle.rb_bytes.specs.Leb.{uleb_at, sleb_at, fits_i64, leb_length, uleb_value, sleb_value}
use Rattle.table_core.specs.ReadSteps.{or_trouble}
use Rattle.table_core.specs.declared.shape.Shape.TheVariants.{SignedLeb}
use Rattle.table_core.specs.AttributeForms.{value_at}
use Rattle.table_core.proofs.Numbers.{same_value}
use Rattle.dw_unit.specs.declared.trouble.Trouble.TheVariants.{Unsound}
use Rattle.dw_unit.specs.declared.declaration.Spec.{Spec}
use Rattle.dw_unit.specs.Trouble.{Read, whole}
use Rattle.dw_unit.specs.Declarations.{Declaration, implicit_at, spec_at, specs_at, specs_within, add_spec, declaration_at}
use Rattle.dw_unit.specs.Declarations.{declaration_or_end, next_declaration, table_within, table_at, table_behind, has_spec}
use Rattle.dw_unit.specs.Changes.{new_name, keeps_low, changed_spec, ranges_specs}
use Rattle.dw_unit.proofs.Readers.{spec_behind}
use Rattle.dw_unit.proofs.Spelled.{IsSpellable, AreSpellable, CanSpellAll, behind_form, behind_implicit, of_tag, of_children, of_specs}
use Rattle.dw_unit.proofs.Spelled.{some_declaration}

uleb_small_by : (short fits : Bool) (v n x : ℕ) (bytes rest : List ℕ) → nat_lt v (2 ^ 64) ≡ fits →
    ◌≡◌ {A = Result (ℕ × List ℕ) Gap} (cond short (Err Short) (cond fits (Ok (v, drop n bytes)) (Err Wide))) (Ok (x, rest)) → x < 2 ^ 64
uleb_small_by true fits v n x bytes rest f e = absurd (cc)
uleb_small_by false false v n x bytes rest f e = absurd (cc)
uleb_small_by false true v n x bytes rest f e = let g : v ≡ x = same_value _ _ _ _ e in
    subst (λ (k : ℕ). k < 2 ^ 64) g (grind (arith, nat_tests))

-- A number in LEB128 that was read is of 64 bits.
pub uleb_small : (x : ℕ) (bytes rest : List ℕ) → uleb_at bytes ≡ Ok (x, rest) → x < 2 ^ 64
uleb_small x bytes rest e =
    uleb_small_by (nat_lt (length bytes) (leb_length bytes)) (nat_lt (uleb_value (take (leb_length bytes) bytes)) (2 ^ 64))
    (uleb_value (take (leb_length bytes) bytes))
    (leb_length bytes) x bytes rest refl e

cast_small : (z : ℤ) → fits_i64 z ≡ true → cast_unsigned w64 z < 2 ^ 64
cast_small (pos n) f = let g : n < 2 ^ 63 = grind (arith, nat_tests) in omega (arith, ints)
cast_small (negsuc n) f = let g : n < 2 ^ 63 = grind (arith, nat_tests) in omega (arith, ints)

sleb_small_by : (short fits : Bool) (v z : ℤ) (n : ℕ) (bytes rest : List ℕ) → fits_i64 v ≡ fits →
    ◌≡◌ {A = Result (ℤ × List ℕ) Gap} (cond short (Err Short) (cond fits (Ok (v, drop n bytes)) (Err Wide))) (Ok (z, rest)) →
    cast_unsigned w64 z < 2 ^ 64
sleb_small_by true fits v z n bytes rest f e = absurd (cc)
sleb_small_by false false v z n bytes rest f e = absurd (cc)
sleb_small_by false true v z n bytes rest f e = let g : v ≡ z = same_value _ _ _ _ e in
    subst (λ (k : ℤ). cast_unsigned w64 k < 2 ^ 64) g (cast_small v f)

sleb_small : (z : ℤ) (bytes rest : List ℕ) → sleb_at bytes ≡ Ok (z, rest) → cast_unsigned w64 z < 2 ^ 64
sleb_small z bytes rest e =
    sleb_small_by (nat_lt (length bytes) (leb_length bytes)) (fits_i64 (sleb_value (take (leb_length bytes) bytes)))
    (sleb_value (take (leb_length bytes) bytes)) z
    (leb_length bytes) bytes rest refl e

signed_small : (x : ℕ) (bytes rest : List ℕ) → value_at Unsound 0 SignedLeb bytes ≡ Ok (x, rest) → x < 2 ^ 64
signed_small x bytes rest e = step (sleb_at bytes) refl e where
  step : (found : Result (ℤ × List ℕ) Gap) → sleb_at bytes ≡ found →
      ◌≡◌ {A = Read ℕ} (or_trouble Unsound (and_then found (λ z rest. Ok (cast_unsigned w64 z, rest)))) (Ok (x, rest)) → x < 2 ^ 64
  step (Err gap) is e = absurd (cc)
  step (Ok read) is e =
      let g : cast_unsigned w64 read.0 ≡ x = same_value _ _ _ _ e in
      subst (λ (k : ℕ). k < 2 ^ 64) g (sleb_small read.0 bytes read.1 is)

-- Pairs

pub made_spec : (name form implicit : ℕ) (rest left : List ℕ) (s : Spec) →
    ◌≡◌ {A = Read (Option Spec)} (Ok (Some (record { name = name; form = form; implicit = implicit }), rest)) (Ok (Some s, left)) →
    record { name = name; form = form; implicit = implicit } ≡ s
made_spec name form implicit rest left s e = some_of (same_value _ _ _ _ e) where
  or_spec : Option Spec → Spec
  or_spec (Some x) = x
  or_spec None = s

  some_of : Some (record { name = name; form = form; implicit = implicit }) ≡ Some s →
      record { name = name; form = form; implicit = implicit } ≡ s
  some_of f = ap or_spec f

module _ (name form : ℕ) (name_small : name < 2 ^ 64) (form_small : form < 2 ^ 64) (zeros : (name == 0 && form == 0) ≡ false) where
  by_implicit : (b : Bool) (left rest : List ℕ) (implicit : ℕ) → (form == 33) ≡ b →
      ◌≡◌ {A = Read ℕ} (if b then value_at Unsound 0 SignedLeb left else Ok (0, left)) (Ok (implicit, rest)) →
      IsSpellable (record { name = name; form = form; implicit = implicit })
  by_implicit true left rest implicit is e = record {
    name = name_small;
    form = form_small;
    implicit = signed_small implicit left rest e;
    some = zeros;
    none = λ f. let g : true ≡ false = sym is ∙ f in absurd (cc);
  }
  by_implicit false left rest implicit is e =
      let g : 0 ≡ implicit = same_value _ _ _ _ e in
      record {
        name = name_small;
        form = form_small;
        implicit = subst (λ (k : ℕ). k < 2 ^ 64) g (omega arith);
        some = zeros;
        none = λ f. sym g;
      }

  by_read : (r : Read ℕ) (left rest : List ℕ) (s : Spec) → implicit_at form left ≡ r →
      behind_implicit name form r ≡ Ok (Some s, rest) → IsSpellable s
  by_read (Err t) left rest s is e = absurd (cc)
  by_read (Ok read) left rest s is e =
      subst IsSpellable (made_spec name form read.0 read.1 rest s e) (by_implicit (form == 33) left read.1 read.0 refl is)

module _ (name form : ℕ) (name_small : name < 2 ^ 64) (form_small : form < 2 ^ 64) (left2 rest : List ℕ) (s : Spec) where
  by_zeros : (b : Bool) → (name == 0 && form == 0) ≡ b →
      ◌≡◌ {A = Read (Option Spec)} (if b then Ok (None, left2)
      else behind_implicit name form (implicit_at form left2)) (Ok (Some s, rest)) → IsSpellable s
  by_zeros true is e = let g : None ≡ Some s = same_value _ _ _ _ e in absurd (cc)
  by_zeros false is e = by_read name form name_small form_small is (implicit_at form left2) left2 rest s refl e

by_form : (name : ℕ) (left1 rest : List ℕ) (s : Spec) (found : Result (ℕ × List ℕ) Gap) → name < 2 ^ 64 → uleb_at left1 ≡ found →
    behind_form name (whole found) ≡ Ok (Some s, rest) → IsSpellable s
by_form name left1 rest s (Err gap) small is e = absurd (cc)
by_form name left1 rest s (Ok read) small is e =
    by_zeros name read.0 small (uleb_small read.0 left1 read.1 is) read.1 rest s (name == 0 && read.0 == 0) refl e

pub spec_spellable : (left rest : List ℕ) (s : Spec) → spec_at left ≡ Ok (Some s, rest) → IsSpellable s
spec_spellable left rest s e = by_name (uleb_at left) refl e where
  by_name : (found : Result (ℕ × List ℕ) Gap) → uleb_at left ≡ found →
      and_then (whole found) spec_behind ≡ Ok (Some s, rest) → IsSpellable s
  by_name (Err gap) is e = absurd (cc)
  by_name (Ok read) is e = by_form read.0 read.1 rest s (uleb_at read.1) (uleb_small read.0 left read.1 is) refl e

abbrev after_spec : Spec → Read (List Spec) → Read (List Spec)
after_spec s r = and_then r (λ specs rest. Ok (s ∷ specs, rest))

specs_spellable : (n : ℕ) (left rest : List ℕ) (specs : List Spec) → specs_within n left ≡ Ok (specs, rest) → AreSpellable specs
unfolding specs_within
specs_spellable zero left rest specs e = absurd (cc)
specs_spellable (suc n) left rest specs e = by_spec (spec_at left) (λ left rest specs e. specs_spellable n left rest specs e) refl e where
  by_rest : (s : Spec) (r : Read (List Spec)) → ((specs : List Spec) (rest : List ℕ) → r ≡ Ok (specs, rest) → AreSpellable specs) →
      IsSpellable s →
      after_spec s r ≡ Ok (specs, rest) → AreSpellable specs
  by_rest s (Err t) ih i e = absurd (cc)
  by_rest s (Ok read) ih i e = subst AreSpellable (same_value _ _ _ _ e) (i, ih read.0 read.1 refl)

  by_spec : (r : Read (Option Spec)) → ((left rest : List ℕ) (specs : List Spec) → specs_within n left ≡ Ok (specs, rest) →
      AreSpellable specs) → spec_at left ≡ r →
      and_then r (add_spec (specs_within n)) ≡ Ok (specs, rest) → AreSpellable specs
  by_spec (Err t) ih is e = absurd (cc)
  by_spec (Ok (None, left1)) ih is e = subst AreSpellable (same_value _ _ _ _ e) tt
  by_spec (Ok (Some s, left1)) ih is e = by_rest s (specs_within n left1) (λ specs rest f. ih left1 rest specs f)
      (spec_spellable left left1 s is) e

-- Declarations

pub record IsPlain (d : Declaration) : Type 0 where
  pub code : d.code < 2 ^ 64
  pub some : d.code ≢ 0
  pub tag : d.tag < 2 ^ 64
  pub specs : AreSpellable d.specs

module _ (place code : ℕ) (code_small : code < 2 ^ 64) (some : code ≢ 0) (d : Declaration) where
  by_specs : (tag children : ℕ) (left2 rest : List ℕ) (r : Read (List Spec)) → tag < 2 ^ 64 → specs_at left2 ≡ r →
      of_specs place code tag (nat_lt 0 children) r ≡ Ok (d, rest) → IsPlain d
  by_specs tag children left2 rest (Err t) small is e = absurd (cc)
  by_specs tag children left2 rest (Ok read) small is e = subst IsPlain (same_value _ _ _ _ e)
      (record { code = code_small; some = some; tag = small; specs = specs_spellable (length left2) left2 read.1 read.0 is })

  by_children : (tag : ℕ) (left1 rest : List ℕ) (r : Read ℕ) → tag < 2 ^ 64 → of_children place code tag r ≡ Ok (d, rest) → IsPlain d
  by_children tag left1 rest (Err t) small e = absurd (cc)
  by_children tag left1 rest (Ok read) small e = by_specs tag read.0 read.1 rest (specs_at read.1) small refl e

  by_tag : (left rest : List ℕ) (found : Result (ℕ × List ℕ) Gap) → uleb_at left ≡ found →
      of_tag place code (whole found) ≡ Ok (d, rest) → IsPlain d
  by_tag left rest (Err gap) is e = absurd (cc)
  by_tag left rest (Ok read) is e = by_children read.0 read.1 rest (whole (number_read 1 read.1)) (uleb_small read.0 left read.1 is) e

module _ (place code : ℕ) (code_small : code < 2 ^ 64) (left rest : List ℕ) (d : Declaration) where
  declaration_by : (r : Read Declaration) → declaration_at place code left ≡ r → code ≢ 0 → some_declaration r ≡ Ok (Some d, rest) →
      IsPlain d
  declaration_by (Err t) is some e = absurd (cc)
  declaration_by (Ok read) is some e =
      subst IsPlain (some_of (same_value _ _ _ _ e)) (by_tag place code code_small some read.0 left read.1 (uleb_at left) refl is) where
        or_declaration : Option Declaration → Declaration
        or_declaration (Some x) = x
        or_declaration None = d

        some_of : {x : Declaration} → Some x ≡ Some d → x ≡ d
        some_of f = ap or_declaration f

  by_end : (b : Bool) → (code == 0) ≡ b → ◌≡◌ {A = Read (Option Declaration)}
      (if b then Ok (None, left) else some_declaration (declaration_at place code left))
      (Ok (Some d, rest)) → IsPlain d
  by_end true is e = let g : None ≡ Some d = same_value _ _ _ _ e in absurd (cc)
  by_end false is e = declaration_by (declaration_at place code left) refl (λ f. not_zero f is) e where
    not_zero : code ≡ 0 → (code == 0) ≡ false → ⊥
    not_zero f g = grind (arith, nat_tests)

declaration_plain : (place : ℕ) (left rest : List ℕ) (d : Declaration) → next_declaration place left ≡ Ok (Some d, rest) → IsPlain d
declaration_plain place left rest d e = by_code (uleb_at left) refl e where
  by_code : (found : Result (ℕ × List ℕ) Gap) → uleb_at left ≡ found →
      and_then (whole found) (declaration_or_end place) ≡ Ok (Some d, rest) → IsPlain d
  by_code (Err gap) is e = absurd (cc)
  by_code (Ok read) is e = by_end place read.0 (uleb_small read.0 left read.1 is) read.1 rest d (read.0 == 0) refl e

abbrev pub ArePlain : List Declaration → Type 0
ArePlain [] = ⊤
ArePlain (d ∷ ds) = IsPlain d × ArePlain ds

table_plain : (n size : ℕ) (left : List ℕ) → ArePlain (table_within n size left).list
unfolding table_within
table_plain zero size left = tt
table_plain (suc n) size left = step (next_declaration (size - length left) left) refl (λ rest. table_plain n size rest) where
  step : (r : Read (Option Declaration)) → next_declaration (size - length left) left ≡ r →
      ((rest : List ℕ) → ArePlain (table_within n size rest).list) →
      ArePlain (table_behind (table_within n size) size r).list
  step (Err t) is ih = tt
  step (Ok (None, rest)) is ih = tt
  step (Ok (Some d, rest)) is ih = (declaration_plain (size - length left) left rest d is, ih rest)

-- With changes

module _ (own : Bool) (d : Declaration) where
  constant : (name form : ℕ) → name < 2 ^ 64 → form < 2 ^ 64 → (name == 0 && form == 0) ≡ false →
      IsSpellable (record { name = name; form = form; implicit = 0 })
  constant name form n f some = record { name = n; form = f; implicit = omega arith; some = some; none = λ e. refl }

  both : (specs more : List Spec) → AreSpellable specs → AreSpellable more → AreSpellable (specs ++ more)
  both [] more a b = b
  both (s ∷ specs) more a b = (a.0, both specs more a.1 b)

  abbrev named_by : ℕ → Bool → Bool → Bool → ℕ
  named_by name m e t = if m then (if e then 16145 else 82) else (if t then 16146 else name)

  renamed : (s : Spec) (m e t : Bool) → IsSpellable s → IsSpellable
      (record { name = named_by s.name m e t; form = s.form; implicit = s.implicit })
  renamed s true true t i = record { name = omega arith; form = i.form; implicit = i.implicit; some = refl; none = i.none }
  renamed s true false t i = record { name = omega arith; form = i.form; implicit = i.implicit; some = refl; none = i.none }
  renamed s false e true i = record { name = omega arith; form = i.form; implicit = i.implicit; some = refl; none = i.none }
  renamed s false e false i = i

  ranges_spellable : (b : Bool) → AreSpellable (record { name = 85; form = 23; implicit = 0 }
      ∷ (if b then [] else record { name = 16144; form = 6; implicit = 0 } ∷ []))
  ranges_spellable true = (constant 85 23 (omega arith) (omega arith) refl, tt)
  ranges_spellable false = (constant 85 23 (omega arith) (omega arith) refl, (constant 16144 6 (omega arith) (omega arith) refl, tt))

  changed_by : (s : Spec) (b : Bool) → IsSpellable s →
      AreSpellable (if b then ranges_specs s.form else record { name = new_name own d s.name; form = s.form; implicit = s.implicit } ∷ [])
  changed_by s true i = ranges_spellable (s.form == 6)
  changed_by s false i = (
    renamed s (s.name == 17 && has_spec 18 d && not (keeps_low own d)) (has_spec 82 d)
        (s.name == 121 || s.name == 8503) i,
    tt,
  )

  changed_spellable : (specs : List Spec) → AreSpellable specs → AreSpellable (flat_map (changed_spec own d) specs)
  changed_spellable [] a = tt
  changed_spellable (s ∷ specs) a =
      both (changed_spec own d s) (flat_map (changed_spec own d) specs) (changed_by s (s.name == 18) a.0) (changed_spellable specs a.1)

all_spellable : (own : Declaration → Bool) (ds : List Declaration) → ArePlain ds → CanSpellAll own ds
all_spellable own [] p = tt
all_spellable own (d ∷ ds) p =
    let i : IsPlain d = p.0 in (
      record { code = i.code; some = i.some; tag = i.tag; specs_can = changed_spellable (own d) d d.specs i.specs },
      all_spellable own ds
          p.1,
    )

-- The declarations of a table can be spelled.
pub table_spellable : (own : Declaration → Bool) (section : List ℕ) (offset : ℕ) → CanSpellAll own (table_at section offset).list
table_spellable own section offset = all_spellable own (table_at section offset).list
    (table_plain (length section) (length section) (drop offset section))
