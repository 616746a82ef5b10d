-- A unit's header, with another abbreviation offset.
use Rattle.std.proofs.Common.{◌≡◌, ◌+◌, ◌-◌, ◌++◌, ℕ, List, ◌∷◌, Bool, true, false, Ok, Err, Result, refl, ap, sym, ◌∙◌, arith, length}
use Rattle.std.proofs.Common.{length-append, append_assoc}
use Rattle.std.specs.Prelude.{◌==◌, ◌&&◌}
use Rattle.rb_bytes.specs.declared.gap.Gap.{Gap}
use Rattle.rb_bytes.specs.Readers.{bytes_at, number_read, and_then}
use Rattle.table_core.specs.ReadSteps.{or_trouble}
use Rattle.table_core.proofs.Numbers.{same_value, same_left}
use Rattle.dw_unit.specs.declared.trouble.Trouble.TheVariants.{Unsound}
use Rattle.dw_unit.specs.Trouble.{Read, whole, when}
use Rattle.dw_unit.specs.CompUnits.{header_at, type_fields, is_type}
use Rattle.dw_unit.proofs.Local.{Takes, Local, trouble_local, number_local, bytes_local}
use Rattle.dw_unit.specs.Changes.{Patch, patched}
use Rattle.dw_unit.proofs.Patched.{From, patched-behind, patched-over}
use Rattle.dw_unit.proofs.Rewrites.{IsNumber, number_size}

-- The first result, and the one made from it.
pub record Split {X Y : Type 0} (f : List ℕ → Read X) (g : X → List ℕ → Read Y) (y : Y) (left rest : List ℕ) : Type 0 where
  pub x : X
  pub mid : List ℕ
  pub read : f left ≡ Ok (x, mid)
  pub front : Takes f x left mid
  pub then : g x mid ≡ Ok (y, rest)

split_then : {X Y : Type 0} (f : List ℕ → Read X) (g : X → List ℕ → Read Y) → Local f → (y : Y) (left rest : List ℕ) →
    and_then (f left) g ≡ Ok (y, rest) → Split f g y left rest
split_then {X = X} {Y = Y} f g l y left rest e = step (f left) refl e where
  step : (found : Read X) → f left ≡ found → and_then found g ≡ Ok (y, rest) → Split f g y left rest
  step (Err t) is e = absurd (cc)
  step (Ok read) is e = record { x = read.0; mid = read.1; read = is; front = l read.0 left read.1 is; then = e }

abbrev pub number : ℕ → List ℕ → Read ℕ
number n left = whole (number_read n left)

abbrev pub fields : ℕ → List ℕ → Read (List ℕ)
fields type left = whole (bytes_at (type_fields type) left)

abbrev pub with_fields : ℕ → ℕ → ℕ → List ℕ → List ℕ → Read ℕ
with_fields type size offset _ rest = when (is_type type && size == 8) (offset, rest)

abbrev pub with_offset : ℕ → ℕ → ℕ → List ℕ → Read ℕ
with_offset type size offset left = and_then (fields type left) (with_fields type size offset)

abbrev pub with_size : ℕ → ℕ → List ℕ → Read ℕ
with_size type size left = and_then (number 4 left) (with_offset type size)

abbrev pub with_type : ℕ → List ℕ → Read ℕ
with_type type left = and_then (number 1 left) (with_size type)

abbrev pub with_version : ℕ → List ℕ → Read ℕ
with_version _ left = and_then (number 1 left) with_type

number_is : (n x : ℕ) (left rest : List ℕ) → number n left ≡ Ok (x, rest) → (t : Takes (number n) x left rest) → length t.front ≡ n
number_is n x left rest e t = number_size n x t.front rest (plain (number_read n (t.front ++ rest)) refl (t.takes rest refl)) where
  plain : (r : Result (ℕ × List ℕ) Gap) → number_read n (t.front ++ rest) ≡ r → ◌≡◌ {A = Read ℕ} (or_trouble Unsound r) (Ok (x, rest)) →
      number_read n (t.front ++ rest) ≡ Ok (x, rest)
  plain (Err gap) is f = absurd (cc)
  plain (Ok read) is f = is ∙ ap (λ (x : ℕ). Ok (x, read.1)) (same_value _ _ _ _ f) ∙ ap (λ (l : List ℕ). Ok (x, l)) (same_left _ _ _ _ f)

-- A header's bytes: the first four, the offset, the type unit's fields, and the entries after them.
pub record IsHeader (bytes left : List ℕ) : Type 0 where
  pub lead : List ℕ
  pub old : List ℕ
  pub tail : List ℕ
  pub is : bytes ≡ lead ++ (old ++ (tail ++ left))
  pub lead_size : length lead ≡ 4
  pub old_size : length old ≡ 4
  pub reads : (new : ℕ) (offset more : List ℕ) → IsNumber 4 new offset → length more ≡ length left →
      header_at (lead ++ (offset ++ (tail ++ more))) ≡ Ok (new, more)

known : (b : Bool) (offset x : ℕ) (mid rest : List ℕ) → ◌≡◌ {A = Read ℕ} (when b (x, mid)) (Ok (offset, rest)) → (b ≡ true) × (mid ≡ rest)
known true offset x mid rest e = (refl, same_left _ _ _ _ e)
known false offset x mid rest e = absurd (cc)

pub header_front : (bytes left : List ℕ) (offset : ℕ) → header_at bytes ≡ Ok (offset, left) → IsHeader bytes left
header_front bytes left offset e =
    let a : Split (number 2) with_version offset bytes left = split_then (number 2) with_version
    (trouble_local Unsound (number_read 2) (number_local 2)) offset bytes left e in
    let b : Split (number 1) with_type offset a.mid left = split_then (number 1) with_type
    (trouble_local Unsound (number_read 1) (number_local 1)) offset a.mid left a.then in
    let c : Split (number 1) (with_size b.x) offset b.mid left = split_then (number 1) (with_size b.x)
    (trouble_local Unsound (number_read 1) (number_local 1)) offset b.mid left b.then in
    let o : Split (number 4) (with_offset b.x c.x) offset c.mid left = split_then (number 4) (with_offset b.x c.x)
    (trouble_local Unsound (number_read 4) (number_local 4)) offset c.mid left c.then in
    let t : Split (fields b.x) (with_fields b.x c.x o.x) offset o.mid left =
    split_then (fields b.x) (with_fields b.x c.x o.x) (trouble_local Unsound (bytes_at (type_fields b.x)) (bytes_local (type_fields b.x)))
    offset o.mid left o.then in
    let k = known (is_type b.x && c.x == 8) offset o.x t.mid left t.then in
    let fa : List ℕ = a.front.front in
    let fb : List ℕ = b.front.front in
    let fc : List ℕ = c.front.front in
    let fo : List ℕ = o.front.front in
    let ft : List ℕ = t.front.front in
    let na : length fa ≡ 2 = number_is 2 a.x bytes a.mid a.read a.front in
    let nb : length fb ≡ 1 = number_is 1 b.x a.mid b.mid b.read b.front in
    let nc : length fc ≡ 1 = number_is 1 c.x b.mid c.mid c.read c.front in
    let no4 : length fo ≡ 4 = number_is 4 o.x c.mid o.mid o.read o.front in
    let lt : o.mid ≡ ft ++ left = t.front.is ∙ ap (λ (l : List ℕ). ft ++ l) k.1 in
    let lo : c.mid ≡ fo ++ (ft ++ left) = o.front.is ∙ ap (λ (l : List ℕ). fo ++ l) lt in
    let lc : b.mid ≡ fc ++ (fo ++ (ft ++ left)) = c.front.is ∙ ap (λ (l : List ℕ). fc ++ l) lo in
    let lb : a.mid ≡ fb ++ (fc ++ (fo ++ (ft ++ left))) = b.front.is ∙ ap (λ (l : List ℕ). fb ++ l) lc in
    let joined : (tail : List ℕ) → (fa ++ (fb ++ fc)) ++ tail ≡ fa ++ (fb ++ (fc ++ tail)) = λ tail.
    append_assoc fa (fb ++ fc) tail ∙ ap (λ (l : List ℕ). fa ++ l) (append_assoc fb fc tail) in
    record {
      lead = fa ++ (fb ++ fc);
      old = fo;
      tail = ft;
      is = a.front.is ∙ ap (λ (l : List ℕ). fa ++ l) lb ∙ sym (joined (fo ++ (ft ++ left)));
      lead_size = length-append fa (fb ++ fc) ∙ ap (λ (n : ℕ). length fa + n) (length-append fb fc) ∙ (omega arith);
      old_size = no4;
      reads = λ new offset more w h.
          let s1 : length (ft ++ more) ≡ length o.mid = length-append ft more ∙ ap (λ (n : ℕ). length ft + n) h
          ∙ sym (length-append ft left) ∙ sym (ap length lt) in
          let s2 : length (offset ++ (ft ++ more)) ≡ length c.mid =
          length-append offset (ft ++ more) ∙ ap (λ (n : ℕ). n + length (ft ++ more)) (w.size ∙ sym no4)
          ∙ ap (λ (n : ℕ). length fo + n) s1 ∙ sym (length-append fo o.mid) ∙ sym (ap length o.front.is) in
          let s3 : length (fc ++ (offset ++ (ft ++ more))) ≡ length b.mid =
          length-append fc (offset ++ (ft ++ more)) ∙ ap (λ (n : ℕ). length fc + n) s2 ∙ sym (length-append fc c.mid)
          ∙ sym (ap length c.front.is) in
          let s4 : length (fb ++ (fc ++ (offset ++ (ft ++ more)))) ≡ length a.mid =
          length-append fb (fc ++ (offset ++ (ft ++ more))) ∙ ap (λ (n : ℕ). length fb + n) s3 ∙ sym (length-append fb b.mid)
          ∙ sym (ap length b.front.is) in
          let s5 : length more ≡ length t.mid = h ∙ sym (ap length k.1) in
          ap header_at (joined (offset ++ (ft ++ more)))
          ∙ ap (λ (r : Read ℕ). and_then r with_version) (a.front.takes (fb ++ (fc ++ (offset ++ (ft ++ more)))) s4)
          ∙ ap (λ (r : Read ℕ). and_then r with_type) (b.front.takes (fc ++ (offset ++ (ft ++ more))) s3)
          ∙ ap (λ (r : Read ℕ). and_then r (with_size b.x)) (c.front.takes (offset ++ (ft ++ more)) s2)
          ∙ ap (λ (r : Result (ℕ × List ℕ) Gap). and_then (whole r) (with_offset b.x c.x)) (w.reads (ft ++ more))
          ∙ ap (λ (r : Read (List ℕ)). and_then r (with_fields b.x c.x new)) (t.front.takes more s5)
          ∙ ap (λ (b : Bool). when b (new, more)) k.0;
    }

-- A whole unit, after its length: its patches, and any patches and bytes after it.
pub unit_patched : (place end : ℕ) (size bytes left new : List ℕ) (offset : List ℕ) (ps : List Patch) (i : IsHeader bytes left) →
    length size ≡ 4 →
    end ≡ place + 4 + length bytes → length offset ≡ 4 →
    ((qs : List Patch) → From end qs → From (end - length left) (ps ++ qs)) →
    ((after : List ℕ) (qs : List Patch) → From end qs → patched (end - length left) (ps ++ qs) (left ++ after) ≡ new
    ++ patched end qs after) →
    (after : List ℕ) (qs : List Patch) → From end qs →
    patched place ((record { place = place + 8; bytes = offset } ∷ ps) ++ qs) ((size ++ bytes) ++ after)
    ≡ (size ++ (i.lead ++ (offset ++ (i.tail ++ new)))) ++ patched end qs after
unit_patched place end size bytes left new offset ps i s4 end_is o4 starts are after qs g =
    let p : Patch = record { place = place + 8; bytes = offset } in
    let last : List ℕ = patched end qs after in
    let n1 : length bytes ≡ length i.lead + (length i.old + (length i.tail + length left)) =
    ap length i.is ∙ length-append i.lead (i.old ++ (i.tail ++ left))
    ∙ ap (λ (n : ℕ). length i.lead + n) (length-append i.old (i.tail ++ left)
    ∙ ap (λ (n : ℕ). length i.old + n) (length-append i.tail left)) in
    let n2 : length (size ++ i.lead) ≡ length size + length i.lead = length-append size i.lead in
    let l4 : length i.lead ≡ 4 = i.lead_size in
    let q4 : length i.old ≡ 4 = i.old_size in
    let list_is : (size ++ bytes) ++ after ≡ (size ++ i.lead) ++ (i.old ++ (i.tail ++ (left ++ after))) =
    ap (λ (l : List ℕ). (size ++ l) ++ after) i.is
    ∙ append_assoc size (i.lead ++ (i.old ++ (i.tail ++ left))) after
    ∙ ap (λ (l : List ℕ). size ++ l) (append_assoc i.lead (i.old ++ (i.tail ++ left)) after
    ∙ ap (λ (l : List ℕ). i.lead ++ l) (append_assoc i.old (i.tail ++ left) after
    ∙ ap (λ (l : List ℕ). i.old ++ l) (append_assoc i.tail left after)))
    ∙ sym (append_assoc size i.lead (i.old ++ (i.tail ++ (left ++ after)))) in
    ap (patched place (p ∷ (ps ++ qs))) list_is
    ∙ patched-over place (place + 12) (size ++ i.lead) i.old (i.tail ++ (left ++ after)) p (ps ++ qs) (omega arith) (omega arith)
    (omega arith)
    ∙ ap (λ (l : List ℕ). (size ++ i.lead) ++ (offset ++ l))
    (patched-behind (place + 12) (end - length left) i.tail (left ++ after) (ps ++ qs) (omega arith) (starts qs g)
    ∙ ap (λ (l : List ℕ). i.tail ++ l) (are after qs g) ∙ sym (append_assoc i.tail new last))
    ∙ append_assoc size i.lead (offset ++ ((i.tail ++ new) ++ last))
    ∙ ap (λ (l : List ℕ). size ++ (i.lead ++ l)) (sym (append_assoc offset (i.tail ++ new) last))
    ∙ ap (λ (l : List ℕ). size ++ l) (sym (append_assoc i.lead (offset ++ (i.tail ++ new)) last))
    ∙ sym (append_assoc size (i.lead ++ (offset ++ (i.tail ++ new))) last)
