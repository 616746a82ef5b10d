-- Reading declarations and attributes goes forward, and gives the same result whatever bytes of the same number follow.
use Rattle.std.proofs.Common.{◌≡◌, ◌<◌, ◌≤◌, ◌+◌, ◌-◌, ◌++◌, ℕ, zero, suc, List, [], ◌∷◌, Option, Some, None, Ok, Err, Result, refl, ap}
use Rattle.std.proofs.Common.{sym, ◌∙◌, arith, length, length-append, append_assoc}
use Rattle.std.specs.Prelude.{◌==◌, ◌&&◌, if◌then◌else◌, nat_lt}
use Rattle.rb_bytes.specs.declared.gap.Gap.{Gap}
use Rattle.rb_bytes.specs.Readers.{and_then, number_read}
use Rattle.rb_bytes.specs.Leb.{uleb_at}
use Rattle.table_core.specs.declared.shape.Shape.TheVariants.{SignedLeb}
use Rattle.table_core.specs.AttributeForms.{gap_value_at, value_at}
use Rattle.dw_unit.specs.declared.trouble.Trouble.{Trouble}
use Rattle.dw_unit.specs.declared.trouble.Trouble.TheVariants.{Unsound}
use Rattle.dw_unit.specs.declared.declaration.Spec.{Spec}
use Rattle.dw_unit.specs.declared.entry.Attr.{Attr}
use Rattle.dw_unit.specs.Trouble.{Read, whole}
use Rattle.dw_unit.specs.Declarations.{Declaration, spec_at, specs_at, specs_within, add_spec, implicit_at, declaration_at}
use Rattle.dw_unit.specs.Declarations.{declaration_or_end, next_declaration, table_within, table_behind, Table}
use Rattle.dw_unit.specs.CompUnits.{attr_at, attrs_at}
use Rattle.std.proofs.Common.{drop, length-drop}
use Rattle.std.proofs.lemmas.List.{append-nil}
use Rattle.dw_unit.specs.Declarations.{table_at}
use Rattle.dw_unit.proofs.Forms.{uleb_forward}
use Rattle.dw_unit.proofs.Local.{Takes, Local, then_local, ok_local, err_local, cond_local, trouble_local, uleb_local, number_local}
use Rattle.dw_unit.proofs.Local.{value_local}
use Rattle.dw_unit.proofs.AttrFronts.{attr_front}
use Rattle.dw_unit.proofs.Walks.{with_front, with_before}

pub takes_less : {X E : Type 0} {f : List ℕ → Result (X × List ℕ) E} {x : X} {left rest : List ℕ} → Takes f x left rest →
    length rest ≤ length left
takes_less {f = f} {left = left} {rest = rest} t = let g = ap length t.is ∙ length-append t.front rest in omega arith

-- A number in LEB128, and then a reading that may take no bytes.
leb_then : {Y : Type 0} (g : ℕ → List ℕ → Result (Y × List ℕ) Trouble) → ((x : ℕ) → Local (g x)) → (left rest : List ℕ) (y : Y) →
    and_then (whole (uleb_at left)) g ≡ Ok (y, rest) → length rest < length left
leb_then {Y = Y} g l left rest y e = step (uleb_at left) refl e where
  step : (found : Result (ℕ × List ℕ) Gap) → uleb_at left ≡ found → and_then (whole found) g ≡ Ok (y, rest) → length rest < length left
  step (Err gap) is e = absurd (cc)
  step (Ok read) is e =
      let less : length read.1 < length left = uleb_forward left read.1 read.0 is in
      let more : length rest ≤ length read.1 = takes_less (l read.0 y read.1 rest e) in
      omega arith

-- Pairs.

implicit_local : (form : ℕ) → Local (implicit_at form)
implicit_local form = cond_local (form == 33) (value_at Unsound 0 SignedLeb) (λ left. Ok (0, left))
    (trouble_local Unsound (gap_value_at 0 SignedLeb) (value_local 0 SignedLeb)) (ok_local 0)

abbrev pub spec_behind : ℕ → List ℕ → Read (Option Spec)
spec_behind name left1 = and_then (whole (uleb_at left1)) (λ form left2.
    if name == 0 && form == 0 then Ok (None, left2)
    else and_then (implicit_at form left2) (λ implicit rest. Ok (Some (record { name = name; form = form; implicit = implicit }), rest)))

spec_behind-local : (name : ℕ) → Local (spec_behind name)
spec_behind-local name = then_local (λ left. whole (uleb_at left)) (λ form left2.
    if name == 0 && form == 0 then Ok (None, left2)
    else and_then (implicit_at form left2) (λ implicit rest. Ok (Some (record { name = name; form = form; implicit = implicit }), rest)))
    (trouble_local Unsound uleb_at uleb_local)
    (λ form. cond_local (name == 0 && form == 0) (λ left. Ok (None, left))
    (λ left2. and_then (implicit_at form left2) (λ implicit rest. Ok
    (Some (record { name = name; form = form; implicit = implicit }), rest)))
    (ok_local None)
    (then_local (implicit_at form) (λ implicit rest. Ok (Some (record { name = name; form = form; implicit = implicit }), rest))
    (implicit_local form)
    (λ implicit. ok_local (Some (record { name = name; form = form; implicit = implicit })))))

spec_local : Local spec_at
spec_local = then_local (λ left. whole (uleb_at left)) spec_behind (trouble_local Unsound uleb_at uleb_local) spec_behind-local

pub spec_forward : (left rest : List ℕ) (o : Option Spec) → spec_at left ≡ Ok (o, rest) → length rest < length left
spec_forward left rest o e = leb_then spec_behind spec_behind-local left rest o e

behind_same : (n m : ℕ) (left : List ℕ) (found : Read (Option Spec)) → spec_at left ≡ found →
    ((rest : List ℕ) → length rest < length left → specs_within n rest ≡ specs_within m rest) →
    and_then found (add_spec (specs_within n)) ≡ and_then found (add_spec (specs_within m))
behind_same n m left (Err e) is same = refl
behind_same n m left (Ok (None, rest)) is same = refl
behind_same n m left (Ok (Some s, rest)) is same =
    ap (λ (r : Read (List Spec)). and_then r (λ specs rest. Ok (s ∷ specs, rest))) (same rest (spec_forward left rest (Some s) is))

specs_enough : (n m : ℕ) (left : List ℕ) → length left ≤ n → length left ≤ m → specs_within n left ≡ specs_within m left
unfolding specs_within
specs_enough zero zero left h k = refl
specs_enough zero (suc m) [] h k = refl
specs_enough zero (suc m) (b ∷ left) h k = absurd (omega arith)
specs_enough (suc n) zero [] h k = refl
specs_enough (suc n) zero (b ∷ left) h k = absurd (omega arith)
specs_enough (suc n) (suc m) left h k =
    behind_same n m left (spec_at left) refl (λ rest s. specs_enough n m rest (omega arith) (omega arith))

abbrev pub specs_by : List ℕ → Read (Option Spec) → Read (List Spec)
specs_by left found = and_then found (add_spec (specs_within (length left)))

pub specs_step : (left : List ℕ) (found : Read (Option Spec)) → spec_at left ≡ found → specs_at left ≡ specs_by left found
unfolding specs_within
specs_step [] found e = ap (λ (r : Read (Option Spec)). specs_by [] r) e
specs_step (b ∷ left) found e =
    behind_same (length left) (length (b ∷ left)) (b ∷ left) (spec_at (b ∷ left)) refl
    (λ rest s. specs_enough (length left) (length (b ∷ left)) rest (omega arith) (omega arith))
    ∙ ap (λ (r : Read (Option Spec)). specs_by (b ∷ left) r) e

pub specs_more : (xs : List Spec) (s : Spec) (left rest : List ℕ) → spec_at left ≡ Ok (Some s, rest) →
    with_front (xs ++ s ∷ []) (specs_at rest) ≡ with_front xs (specs_at left)
specs_more xs s left rest e =
    let less : length rest < length left = spec_forward left rest (Some s) e in
    step (specs_at rest)
    ∙ ap (λ (r : Read (List Spec)). with_front xs (and_then r (λ specs rest. Ok (s ∷ specs, rest))))
    (specs_enough (length rest) (length left) rest (omega arith) (omega arith))
    ∙ sym (ap (with_front xs) (specs_step left (Ok (Some s, rest)) e)) where
      step : (r : Read (List Spec)) → with_front (xs ++ s ∷ []) r ≡ with_front xs (and_then r (λ specs rest. Ok (s ∷ specs, rest)))
      step (Ok read) = ap (λ (l : List Spec). Ok (l, read.1)) (append_assoc xs (s ∷ []) read.0)
      step (Err t) = refl

pub specs_end : (xs : List Spec) (left rest : List ℕ) → spec_at left ≡ Ok (None, rest) →
    with_front xs (specs_at left) ≡ Ok (xs ++ [], rest)
specs_end xs left rest e = ap (with_front xs) (specs_step left (Ok (None, rest)) e)

pub specs_trouble : (xs : List Spec) (left : List ℕ) (t : Trouble) → spec_at left ≡ Err t → with_front xs (specs_at left) ≡ Err t
specs_trouble xs left t e = ap (with_front xs) (specs_step left (Err t) e)

-- The same result for as many other bytes after it.
specs_within-local : (n : ℕ) → Local (specs_within n)
unfolding specs_within
specs_within-local zero = err_local Unsound
specs_within-local (suc n) = then_local spec_at (add_spec (specs_within n)) spec_local (added (specs_within-local n)) where
  added : Local (specs_within n) → (o : Option Spec) → Local (add_spec (specs_within n) o)
  added l None = ok_local []
  added l (Some s) = then_local (specs_within n) (λ specs rest. Ok (s ∷ specs, rest)) l (λ specs. ok_local (s ∷ specs))

specs_local : Local specs_at
specs_local specs left rest e =
    let t : Takes (specs_within (length left)) specs left rest = specs_within-local (length left) specs left rest e in
    record {
      front = t.front;
      is = t.is;
      takes = λ more h.
          let long : length (t.front ++ more) ≡ length left =
          length-append t.front more ∙ ap (λ (n : ℕ). length t.front + n) h ∙ sym (length-append t.front rest) ∙ sym (ap length t.is) in
          ap (λ (n : ℕ). specs_within n (t.front ++ more)) long ∙ t.takes more h;
    }

-- Declarations.

pub declaration_local : (place code : ℕ) → Local (declaration_at place code)
declaration_local place code =
    then_local (λ left. whole (uleb_at left)) (λ tag left1. and_then (whole (number_read 1 left1))
    (λ children left2. and_then (specs_at left2) (λ specs rest.
    Ok (record { place = place; code = code; tag = tag; children = nat_lt 0 children; specs = specs }, rest))))
    (trouble_local Unsound uleb_at uleb_local)
    (λ tag. then_local (λ left. whole (number_read 1 left)) (λ children left2. and_then (specs_at left2) (λ specs rest.
    Ok (record { place = place; code = code; tag = tag; children = nat_lt 0 children; specs = specs }, rest)))
    (trouble_local Unsound (number_read 1) (number_local 1))
    (λ children. then_local specs_at (λ specs rest. Ok (
      record {
        place = place;
        code = code;
        tag = tag;
        children = nat_lt 0 children;
        specs = specs;
      },
      rest,
    )) specs_local
    (λ specs. ok_local (record { place = place; code = code; tag = tag; children = nat_lt 0 children; specs = specs }))))

declaration_or_end-local : (place code : ℕ) → Local (declaration_or_end place code)
declaration_or_end-local place code = cond_local (code == 0) (λ left. Ok (None, left))
    (λ left. and_then (declaration_at place code left) (λ d rest. Ok (Some d, rest)))
    (ok_local None) (then_local (declaration_at place code) (λ d rest. Ok (Some d, rest)) (declaration_local place code)
    (λ d. ok_local (Some d)))

pub declaration_forward : (place : ℕ) (left rest : List ℕ) (o : Option Declaration) → next_declaration place left ≡ Ok (o, rest) →
    length rest < length left
declaration_forward place left rest o e = leb_then (declaration_or_end place) (declaration_or_end-local place) left rest o e

-- Tables.

table_same : (n m size : ℕ) (left : List ℕ) (found : Read (Option Declaration)) → next_declaration (size - length left) left ≡ found →
    ((rest : List ℕ) → length rest < length left → table_within n size rest ≡ table_within m size rest) →
    table_behind (table_within n size) size found ≡ table_behind (table_within m size) size found
table_same n m size left (Err t) is same = refl
table_same n m size left (Ok (None, rest)) is same = refl
table_same n m size left (Ok (Some d, rest)) is same =
    ap (λ (t : Table). with_before (d ∷ []) t) (same rest (declaration_forward (size - length left) left rest (Some d) is))

pub table_enough : (n m size : ℕ) (left : List ℕ) → length left ≤ n → length left ≤ m →
    table_within n size left ≡ table_within m size left
unfolding table_within
table_enough zero zero size left h k = refl
table_enough zero (suc m) size [] h k = refl
table_enough zero (suc m) size (b ∷ left) h k = absurd (omega arith)
table_enough (suc n) zero size [] h k = refl
table_enough (suc n) zero size (b ∷ left) h k = absurd (omega arith)
table_enough (suc n) (suc m) size left h k =
    table_same n m size left (next_declaration (size - length left) left) refl
    (λ rest s. table_enough n m size rest (omega arith) (omega arith))

pub table_step : (size : ℕ) (left : List ℕ) (found : Read (Option Declaration)) → next_declaration (size - length left) left ≡ found →
    table_within (length left) size left ≡ table_behind (table_within (length left) size) size found
unfolding table_within
table_step size [] found e = ap (table_behind (table_within zero size) size) e
table_step size (b ∷ left) found e =
    table_same (length left) (length (b ∷ left)) size (b ∷ left) (next_declaration (size - length (b ∷ left)) (b ∷ left)) refl
    (λ rest s. table_enough (length left) (length (b ∷ left)) size rest (omega arith) (omega arith))
    ∙ ap (table_behind (table_within (length (b ∷ left)) size) size) e

-- Attributes.

pub attr_less : (end d : ℕ) (s : Spec) (l1 l2 : List ℕ) (a : Attr) → attr_at end d s l1 ≡ Ok (a, l2) → length l2 ≤ length l1
attr_less end d s l1 l2 a e =
    let i = attr_front end d s a l1 l2 e in
    let g : length l1 ≡ length i.lead + (length i.body + length l2) =
    ap length i.is ∙ length-append i.lead (i.body ++ l2) ∙ ap (λ (n : ℕ). length i.lead + n) (length-append i.body l2) in
    omega arith

-- One more declaration.

pub table_more : (ds : List Declaration) (d : Declaration) (size : ℕ) (left rest : List ℕ) →
    next_declaration (size - length left) left ≡ Ok (Some d, rest) →
    with_before (ds ++ d ∷ []) (table_within (length rest) size rest) ≡ with_before ds (table_within (length left) size left)
table_more ds d size left rest e =
    let less : length rest < length left = declaration_forward (size - length left) left rest (Some d) e in
    ap (λ (t : Table). with_before (ds ++ d ∷ []) t) (table_enough (length rest) (length left) size rest (omega arith) (omega arith))
    ∙ step (table_within (length left) size rest)
    ∙ sym (ap (with_before ds) (table_step size left (Ok (Some d, rest)) e)) where
      step : (t : Table) → with_before (ds ++ d ∷ []) t ≡ with_before ds (with_before (d ∷ []) t)
      step t = ap (λ (l : List Declaration). record { list = l; end = t.end }) (append_assoc ds (d ∷ []) t.list)

pub table_ends : (ds : List Declaration) (size : ℕ) (left rest : List ℕ) → next_declaration (size - length left) left ≡ Ok (None, rest) →
    with_before ds (table_within (length left) size left) ≡ record { list = ds; end = Some (size - length rest) }
table_ends ds size left rest e =
    ap (with_before ds) (table_step size left (Ok (None, rest)) e)
    ∙ ap (λ (l : List Declaration). record { list = l; end = Some (size - length rest) }) (append-nil ds)

pub table_breaks : (ds : List Declaration) (size : ℕ) (left : List ℕ) (t : Trouble) → next_declaration (size - length left) left ≡ Err t →
    with_before ds (table_within (length left) size left) ≡ record { list = ds; end = None }
table_breaks ds size left t e =
    ap (with_before ds) (table_step size left (Err t) e)
    ∙ ap (λ (l : List Declaration). record { list = l; end = None }) (append-nil ds)

pub table_starts : (section : List ℕ) (offset : ℕ) → with_before []
    (table_within (length (drop offset section)) (length section) (drop offset section)) ≡ table_at section offset
table_starts section offset = table_enough (length (drop offset section)) (length section) (length section) (drop offset section)
    (omega arith) (let g = length-drop offset section in omega arith)

-- One more attribute.

abbrev pub after_attr : Attr → Read (List Attr) → Read (List Attr)
after_attr a r = and_then r (λ attrs rest. Ok (a ∷ attrs, rest))

abbrev pub attrs_of_attr : ℕ → ℕ → List Spec → Read Attr → Read (List Attr)
attrs_of_attr end c specs r = and_then r (λ a left1. after_attr a (attrs_at end c specs left1))

pub next_declaration_local : (place : ℕ) → Local (next_declaration place)
next_declaration_local place = then_local (λ left. whole (uleb_at left)) (declaration_or_end place)
    (trouble_local Unsound uleb_at uleb_local) (declaration_or_end-local place)
