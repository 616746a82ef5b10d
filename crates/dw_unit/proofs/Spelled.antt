-- Tables of abbreviations that are spelled are read back.
use Rattle.std.proofs.Common.{◌≡◌, ◌≢◌, ◌<◌, ◌+◌, ◌-◌, ◌*◌, ◌^◌, ◌++◌, ℕ, suc, List, [], ◌∷◌, Bool, true, false, cond, Option, Some, None}
use Rattle.std.proofs.Common.{Ok, Err, Result, refl, ap, sym, ◌∙◌, arith, subst, ℤ, length, drop, nat_lt, append_assoc}
use Rattle.std.specs.Prelude.{◌==◌, ◌&&◌, if◌then◌else◌, flat_map, FitsSigned}
use Rattle.std.specs.Int.{w64, cast_signed, cast_unsigned}
use Rattle.std.specs.List.{find}
use Rattle.std.proofs.lemmas.Int.{ints, of_z-to_z}
use Rattle.std.proofs.lemmas.Bool.Decides.{nat_tests}
use Rattle.rb_bytes.specs.declared.gap.Gap.{Gap}
use Rattle.rb_bytes.specs.declared.gap.Gap.TheVariants.{Short}
use Rattle.byteorder.specs.Endian.{little_number}
use Rattle.rb_bytes.specs.Readers.{and_then, number_read}
use Rattle.rb_bytes.specs.Leb.{uleb, uleb_at, sleb}
use Rattle.rb_bytes.proofs.UnsignedLeb.{IsShortestUleb-uleb, uleb-last}
use Rattle.rb_bytes.proofs.SignedLeb.{IsShortestSleb-sleb}
use Rattle.table_core.specs.ReadSteps.{or_trouble}
use Rattle.table_core.specs.declared.shape.Shape.TheVariants.{SignedLeb}
use Rattle.table_core.specs.AttributeForms.{value_at}
use Rattle.dw_unit.specs.declared.trouble.Trouble.TheVariants.{Unsound}
use Rattle.dw_unit.specs.declared.declaration.Spec.{Spec}
use Rattle.dw_unit.specs.Trouble.{Read, whole}
use Rattle.dw_unit.specs.Declarations.{Declaration, spec_at, specs_at, implicit_at, declaration_at, declaration_or_end}
use Rattle.dw_unit.specs.Declarations.{next_declaration, table_within}
use Rattle.dw_unit.specs.Changes.{spec_bytes, flag, declaration_bytes, changed_specs}
use Rattle.dw_unit.proofs.Walks.{with_front, with_before}
use Rattle.dw_unit.proofs.Readers.{spec_behind, specs_more, specs_end, table_more, table_ends}

-- A pair whose numbers have 64 bits, not two zeros, and with value 0 unless the form is DW_FORM_implicit_const.
pub record IsSpellable (s : Spec) : Type 0 where
  pub name : s.name < 2 ^ 64
  pub form : s.form < 2 ^ 64
  pub implicit : s.implicit < 2 ^ 64
  pub some : (s.name == 0 && s.form == 0) ≡ false
  pub none : (s.form == 33) ≡ false → s.implicit ≡ 0

abbrev pub AreSpellable : List Spec → Type 0
AreSpellable [] = Unit {0}
AreSpellable (s ∷ specs) = IsSpellable s × AreSpellable specs

uleb_read : (n : ℕ) (rest : List ℕ) → n < 2 ^ 64 → whole (uleb_at (uleb n ++ rest)) ≡ Ok (n, rest)
uleb_read n rest h = ap (or_trouble Unsound) ((IsShortestUleb-uleb n h).reads_back rest)

zero_read : (rest : List ℕ) → whole (uleb_at (0 ∷ rest)) ≡ Ok (0, rest)
zero_read rest = ap (λ (l : List ℕ). whole (uleb_at (l ++ rest))) (sym (uleb-last 0 (omega arith))) ∙ uleb_read 0 rest (omega arith)

signed_fits : (n : ℕ) → n < 2 ^ 64 → FitsSigned w64 (cast_signed w64 n)
signed_fits n h = omega (arith, ints)

signed_read : (n : ℕ) (rest : List ℕ) → n < 2 ^ 64 → value_at Unsound 0 SignedLeb (sleb (cast_signed w64 n) ++ rest) ≡ Ok (n, rest)
signed_read n rest h =
    ap (λ (r : Result (ℤ × List ℕ) Gap). or_trouble Unsound (and_then r (λ z rest. Ok (cast_unsigned w64 z, rest))))
    ((IsShortestSleb-sleb (cast_signed w64 n) (signed_fits n h)).reads_back rest)
    ∙ ap (λ (k : ℕ). Ok (k, rest)) (of_z-to_z w64 n h)

abbrev pub implicit_bytes : Bool → Spec → List ℕ
implicit_bytes b s = if b then sleb (cast_signed w64 s.implicit) else []

implicit_by : (s : Spec) (rest : List ℕ) → IsSpellable s → (b : Bool) → (s.form == 33) ≡ b →
    ◌≡◌ {A = Read ℕ} (if b then value_at Unsound 0 SignedLeb (implicit_bytes b s ++ rest) else Ok (0, implicit_bytes b s ++ rest))
    (Ok (s.implicit, rest))
implicit_by s rest h false e = ap (λ (n : ℕ). Ok (n, rest)) (sym (h.none e))
implicit_by s rest h true e = signed_read s.implicit rest h.implicit

implicit_read : (s : Spec) (rest : List ℕ) → IsSpellable s → implicit_at s.form (implicit_bytes (s.form == 33) s ++ rest) ≡ Ok
    (s.implicit, rest)
implicit_read s rest h = implicit_by s rest h (s.form == 33) refl

abbrev pub behind_form : ℕ → Read ℕ → Read (Option Spec)
behind_form name r = and_then r (λ form left2.
    if name == 0 && form == 0 then Ok (None, left2)
    else and_then (implicit_at form left2) (λ implicit rest. Ok (Some (record { name = name; form = form; implicit = implicit }), rest)))

abbrev pub behind_implicit : ℕ → ℕ → Read ℕ → Read (Option Spec)
behind_implicit name form r = and_then r (λ implicit rest. Ok (Some (record { name = name; form = form; implicit = implicit }), rest))

spec_read : (s : Spec) (rest : List ℕ) → IsSpellable s → spec_at (spec_bytes s ++ rest) ≡ Ok (Some s, rest)
spec_read s rest h =
    let own : List ℕ = implicit_bytes (s.form == 33) s in
    ap spec_at (append_assoc (uleb s.name ++ uleb s.form) own rest ∙ append_assoc (uleb s.name) (uleb s.form) (own ++ rest))
    ∙ ap (λ (r : Read ℕ). and_then r spec_behind) (uleb_read s.name (uleb s.form ++ (own ++ rest)) h.name)
    ∙ ap (behind_form s.name) (uleb_read s.form (own ++ rest) h.form)
    ∙ ap (λ (b : Bool). if b then Ok (None, own ++ rest) else behind_implicit s.name s.form (implicit_at s.form (own ++ rest))) h.some
    ∙ ap (behind_implicit s.name s.form) (implicit_read s rest h)

end_read : (rest : List ℕ) → spec_at (0 ∷ (0 ∷ rest)) ≡ Ok (None, rest)
end_read rest = ap (λ (r : Read ℕ). and_then r spec_behind) (zero_read (0 ∷ rest)) ∙ ap (behind_form 0) (zero_read rest)

front_none : (r : Read (List Spec)) → r ≡ with_front [] r
front_none (Ok read) = refl
front_none (Err t) = refl

specs_read : (specs : List Spec) (rest : List ℕ) → AreSpellable specs →
    specs_at (flat_map spec_bytes specs ++ (0 ∷ (0 ∷ rest))) ≡ Ok (specs, rest)
specs_read [] rest h = front_none (specs_at (0 ∷ (0 ∷ rest))) ∙ specs_end [] (0 ∷ (0 ∷ rest)) rest (end_read rest)
specs_read (s ∷ specs) rest h =
    let more : List ℕ = flat_map spec_bytes specs ++ (0 ∷ (0 ∷ rest)) in
    ap specs_at (append_assoc (spec_bytes s) (flat_map spec_bytes specs) (0 ∷ (0 ∷ rest)))
    ∙ front_none (specs_at (spec_bytes s ++ more))
    ∙ sym (specs_more [] s (spec_bytes s ++ more) more (spec_read s more h.0))
    ∙ ap (with_front (s ∷ [])) (specs_read specs rest h.1)

byte_by : (b : ℕ) (xs : List ℕ) (short : Bool) → nat_lt (suc (length xs)) 1 ≡ short →
    ◌≡◌ {A = Result (ℕ × List ℕ) Gap} (cond short (Err Short) (Ok (little_number 1 (b ∷ xs), drop 1 (b ∷ xs)))) (Ok (b, xs))
byte_by b xs true e = absurd (grind (arith, nat_tests))
byte_by b xs false e = let n : b + 256 * 0 ≡ b = omega arith in ap (λ (k : ℕ). Ok (k, xs)) n

byte_read : (b : ℕ) (xs : List ℕ) → whole (number_read 1 (b ∷ xs)) ≡ Ok (b, xs)
byte_read b xs = ap (or_trouble Unsound) (byte_by b xs (nat_lt (suc (length xs)) 1) refl)

flag_read : (b : Bool) → nat_lt 0 (flag b) ≡ b
flag_read true = refl
flag_read false = refl

-- What a declaration needs to be spelled, changed or not.
pub record CanSpell (specs : List Spec) (d : Declaration) : Type 0 where
  pub code : d.code < 2 ^ 64
  pub some : d.code ≢ 0
  pub tag : d.tag < 2 ^ 64
  pub specs_can : AreSpellable specs

abbrev pub of_tag : ℕ → ℕ → Read ℕ → Read Declaration
of_tag place code r = and_then r (λ tag left1. and_then (whole (number_read 1 left1))
    (λ children left2. and_then (specs_at left2) (λ specs rest.
    Ok (record { place = place; code = code; tag = tag; children = nat_lt 0 children; specs = specs }, rest))))

abbrev pub of_children : ℕ → ℕ → ℕ → Read ℕ → Read Declaration
of_children place code tag r = and_then r (λ children left2. and_then (specs_at left2) (λ specs rest.
    Ok (record { place = place; code = code; tag = tag; children = nat_lt 0 children; specs = specs }, rest)))

abbrev pub of_specs : ℕ → ℕ → ℕ → Bool → Read (List Spec) → Read Declaration
of_specs place code tag children r = and_then r (λ specs rest.
    Ok (record { place = place; code = code; tag = tag; children = children; specs = specs }, rest))

abbrev pub some_declaration : Read Declaration → Read (Option Declaration)
some_declaration r = and_then r (λ d rest. Ok (Some d, rest))

declaration_read : (own : Bool) (d : Declaration) (place : ℕ) (rest : List ℕ) → CanSpell (changed_specs own d) d →
    next_declaration place (declaration_bytes own d ++ rest)
    ≡ Ok (Some (record { place = place; code = d.code; tag = d.tag; children = d.children; specs = changed_specs own d }), rest)
declaration_read own d place rest h =
    let specs : List Spec = changed_specs own d in
    let body : List ℕ = flat_map spec_bytes specs in
    let tail : List ℕ = body ++ (0 ∷ (0 ∷ rest)) in
    let code_test : (d.code == 0) ≡ false = let n = h.some in grind (arith, nat_tests) in
    ap (next_declaration place) (append_assoc (uleb d.code ++ uleb d.tag) (flag d.children ∷ (body ++ (0 ∷ (0 ∷ [])))) rest
    ∙ append_assoc (uleb d.code) (uleb d.tag) ((flag d.children ∷ (body ++ (0 ∷ (0 ∷ [])))) ++ rest)
    ∙ ap (λ (l : List ℕ). uleb d.code ++ (uleb d.tag ++ (flag d.children ∷ l))) (append_assoc body (0 ∷ (0 ∷ [])) rest))
    ∙ ap (λ (r : Read ℕ). and_then r (declaration_or_end place)) (uleb_read d.code (uleb d.tag ++ (flag d.children ∷ tail)) h.code)
    ∙ ap (λ (b : Bool). if b then Ok (None, uleb d.tag ++ (flag d.children ∷ tail)) else some_declaration
    (declaration_at place d.code (uleb d.tag ++ (flag d.children ∷ tail)))) code_test
    ∙ ap (λ (r : Read ℕ). some_declaration (of_tag place d.code r)) (uleb_read d.tag (flag d.children ∷ tail) h.tag)
    ∙ ap (λ (r : Read ℕ). some_declaration (of_children place d.code d.tag r)) (byte_read (flag d.children) tail)
    ∙ ap (λ (b : Bool). some_declaration (of_specs place d.code d.tag b (specs_at tail))) (flag_read d.children)
    ∙ ap (λ (r : Read (List Spec)). some_declaration (of_specs place d.code d.tag d.children r)) (specs_read specs rest h.specs_can)

-- Tables

module _ (own : Declaration → Bool) where
  -- A declaration and its changed one, whose offset is another.
  pub record IsChangedDeclaration (old new : Declaration) : Type 0 where
    pub code : new.code ≡ old.code
    pub tag : new.tag ≡ old.tag
    pub children : new.children ≡ old.children
    pub specs : new.specs ≡ changed_specs (own old) old

  abbrev pub AreChangedDeclarations : List Declaration → List Declaration → Type 0
  AreChangedDeclarations [] [] = Unit {0}
  AreChangedDeclarations [] (n ∷ new) = ⊥
  AreChangedDeclarations (o ∷ old) [] = ⊥
  AreChangedDeclarations (o ∷ old) (n ∷ new) = IsChangedDeclaration o n × AreChangedDeclarations old new

  abbrev pub CanSpellAll : List Declaration → Type 0
  CanSpellAll [] = Unit {0}
  CanSpellAll (d ∷ ds) = CanSpell (changed_specs (own d) d) d × CanSpellAll ds

  abbrev pub bytes_of_table : List Declaration → List ℕ
  bytes_of_table ds = flat_map (λ d. declaration_bytes (own d) d) ds

  pub record IsTableRead (size : ℕ) (ds : List Declaration) (left rest : List ℕ) : Type 0 where
    pub new : List Declaration
    pub is : table_within (length left) size left ≡ record { list = new; end = Some (size - length rest) }
    pub changed : AreChangedDeclarations ds new

  -- The changed declarations are read back in order, up to the closing zero.
  pub table_read : (size : ℕ) (ds : List Declaration) (rest : List ℕ) → CanSpellAll ds →
      IsTableRead size ds (bytes_of_table ds ++ (0 ∷ rest)) rest
  table_read size [] rest h = record {
    new = [];
    is = table_ends [] size (0 ∷ rest) rest
        (ap (λ (r : Read ℕ). and_then r (declaration_or_end (size - length (0 ∷ rest)))) (zero_read rest));
    changed = tt;
  }
  table_read size (d ∷ ds) rest h =
      let more : List ℕ = bytes_of_table ds ++ (0 ∷ rest) in
      let r : IsTableRead size ds more rest = table_read size ds rest h.1 in
      let left : List ℕ = declaration_bytes (own d) d ++ more in
      let new : Declaration = record {
        place = size - length left;
        code = d.code;
        tag = d.tag;
        children = d.children;
        specs = changed_specs (own d) d;
      } in
      let left_is : bytes_of_table (d ∷ ds) ++ (0 ∷ rest) ≡ left = append_assoc (declaration_bytes (own d) d) (bytes_of_table ds)
      (0 ∷ rest) in
      record {
        new = new ∷ r.new;
        is =
            ap (λ (l : List ℕ). table_within (length l) size l) left_is
            ∙ sym (table_more [] new size left more (declaration_read (own d) d (size - length left) more h.0))
            ∙ ap (with_before (new ∷ [])) r.is;
        changed = (record { code = refl; tag = refl; children = refl; specs = refl }, r.changed);
      }

  -- What a code means in the new table.
  pub record IsFound (old : Declaration) (new : List Declaration) (code : ℕ) : Type 0 where
    pub d : Declaration
    pub is : find (λ d. d.code == code) new ≡ Some d
    pub changed : IsChangedDeclaration old d

  found_step : (code : ℕ) (d o n : Declaration) (old new : List Declaration) (b : Bool) → (o.code == code) ≡ b → (n.code == code) ≡ b →
      IsChangedDeclaration o n →
      (if b then Some o else find (λ d. d.code == code) old) ≡ Some d →
      (find (λ d. d.code == code) old ≡ Some d → IsFound d new code) → IsFound d (n ∷ new) code
  found_step code d o n old new true e f c g ih =
      let same : o ≡ d = ap (or_old o) g in
      record {
        d = n;
        is = ap (λ (b : Bool). if b then Some n else find (λ d. d.code == code) new) f;
        changed = subst (λ (x : Declaration). IsChangedDeclaration x n) same c;
      } where
        or_old : Declaration → Option Declaration → Declaration
        or_old o (Some x) = x
        or_old o None = o
  found_step code d o n old new false e f c g ih =
      let r : IsFound d new code = ih g in
      record { d = r.d; is = ap (λ (b : Bool). if b then Some n else find (λ d. d.code == code) new) f ∙ r.is; changed = r.changed }

  pub found : (code : ℕ) (d : Declaration) (old new : List Declaration) → AreChangedDeclarations old new →
      find (λ d. d.code == code) old ≡ Some d → IsFound d new code
  found code d [] new c g = absurd (cc)
  found code d (o ∷ old) [] c g = absurd c
  found code d (o ∷ old) (n ∷ new) c g =
      found_step code d o n old new (o.code == code) refl (ap (λ (k : ℕ). k == code) c.0.code) c.0 g (λ h. found code d old new c.1 h)
