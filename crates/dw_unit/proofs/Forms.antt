-- Forms after DW_FORM_indirect.
use Rattle.std.proofs.Common.{◌≡◌, ◌≢◌, ◌<◌, ◌≤◌, ◌-◌, ℕ, zero, suc, List, [], ◌∷◌, Bool, true, false, cond, Ok, Err, Result, refl, ap}
use Rattle.std.proofs.Common.{sym, ◌∙◌, arith, length, drop, length-drop}
use Rattle.std.specs.Prelude.{◌==◌, if◌then◌else◌}
use Rattle.std.proofs.lemmas.Bool.Decides.{nat_tests}
use Rattle.rb_bytes.specs.declared.gap.Gap.{Gap}
use Rattle.rb_bytes.specs.declared.gap.Gap.TheVariants.{Short, Wide}
use Rattle.rb_bytes.specs.Readers.{and_then}
use Rattle.rb_bytes.specs.Leb.{uleb_at, leb_length}
use Rattle.table_core.proofs.Numbers.{same_left}
use Rattle.table_core.specs.AttributeForms.{is_form}
use Rattle.dw_unit.specs.declared.trouble.Trouble.TheVariants.{Unsound, NoForm}
use Rattle.dw_unit.specs.Trouble.{Read, whole}
use Rattle.dw_unit.specs.CompUnits.{form_at, form_within}

uleb_by : (bytes rest : List ℕ) (n x : ℕ) (short fits : Bool) (v : ℕ) → 0 < n → (short ≡ false → n ≤ length bytes) →
    ◌≡◌ {A = Result (ℕ × List ℕ) Gap} (cond short (Err Short) (cond fits (Ok (v, drop n bytes)) (Err Wide))) (Ok (x, rest)) →
    length rest < length bytes
uleb_by bytes rest n x true fits v p h e = absurd (cc)
uleb_by bytes rest n x false false v p h e = absurd (cc)
uleb_by bytes rest n x false true v p h e =
    let i : n ≤ length bytes = h refl in
    let f : drop n bytes ≡ rest = same_left _ _ _ _ e in
    let g : length rest ≡ length bytes - n = ap length (sym f) ∙ length-drop n bytes in
    omega arith

-- A number in LEB128 takes a byte at least.
pub uleb_forward : (bytes rest : List ℕ) (x : ℕ) → uleb_at bytes ≡ Ok (x, rest) → length rest < length bytes
uleb_forward bytes rest x e =
    uleb_by bytes rest (leb_length bytes) x _ _ _ (omega arith) (λ s. grind (arith, nat_tests)) e

-- The result after the form.
abbrev pub form_of : (List ℕ → Read ℕ) → ℕ → Result (ℕ × List ℕ) Gap → Read ℕ
form_of more declaration read = and_then (whole read) (λ form rest.
    if form == 22 then more rest
    else (if form == 33 then Err Unsound
    else (if is_form form then Ok (form, rest) else Err (NoForm declaration))))

same_behind : (more most : List ℕ → Read ℕ) (d x : ℕ) (rest : List ℕ) → more rest ≡ most rest →
    form_of more d (Ok (x, rest)) ≡ form_of most d (Ok (x, rest))
same_behind more most d x rest e =
    ap (λ (r : Read ℕ). if x == 22 then r else (if x == 33 then Err Unsound else (if is_form x then Ok (x, rest) else Err (NoForm d)))) e

form_same : (n m d : ℕ) (left : List ℕ) (read : Result (ℕ × List ℕ) Gap) → uleb_at left ≡ read →
    ((rest : List ℕ) → length rest < length left → form_within n d rest ≡ form_within m d rest) →
    form_of (form_within n d) d read ≡ form_of (form_within m d) d read
form_same n m d left (Err gap) e same = refl
form_same n m d left (Ok read) e same =
    same_behind (form_within n d) (form_within m d) d read.0 read.1 (same read.1 (uleb_forward left read.1 read.0 e))

-- Any limit that is at least the number of bytes left gives the same result.
pub form_within-enough : (n m d : ℕ) (left : List ℕ) → length left ≤ n → length left ≤ m → form_within n d left ≡ form_within m d left
unfolding form_within
form_within-enough zero zero d left h k = refl
form_within-enough zero (suc m) d [] h k = refl
form_within-enough zero (suc m) d (b ∷ left) h k = absurd (omega arith)
form_within-enough (suc n) zero d [] h k = refl
form_within-enough (suc n) zero d (b ∷ left) h k = absurd (omega arith)
form_within-enough (suc n) (suc m) d left h k =
    form_same n m d left (uleb_at left) refl (λ rest s. form_within-enough n m d rest (omega arith) (omega arith))

form_read : (d x : ℕ) (rest : List ℕ) → x ≢ 33 → form_of (form_within (length rest) d) d (Ok (x, rest)) ≡ form_at d x rest
form_read d x rest h = let f : (x == 33) ≡ false = grind (arith, nat_tests) in
    ap (λ (b : Bool). if x == 22 then form_within (length rest) d rest else
    (if b then Err Unsound else (if is_form x then Ok (x, rest) else Err (NoForm d)))) f

-- One more form.
pub form_step : (d x : ℕ) (left rest : List ℕ) → uleb_at left ≡ Ok (x, rest) → x ≢ 33 → form_at d 22 left ≡ form_at d x rest
unfolding form_within
form_step d x [] rest e h = absurd (cc)
form_step d x (b ∷ left) rest e h =
    let less : length rest < length (b ∷ left) = uleb_forward (b ∷ left) rest x e in
    ap (form_of (form_within (length left) d) d) e
    ∙ same_behind (form_within (length left) d) (form_within (length rest) d) d x rest
    (form_within-enough (length left) (length rest) d rest (omega arith) (omega arith))
    ∙ form_read d x rest h

pub form_gap : (d : ℕ) (left : List ℕ) (gap : Gap) → uleb_at left ≡ Err gap → form_at d 22 left ≡ Err Unsound
unfolding form_within
form_gap d [] gap e = refl
form_gap d (b ∷ left) gap e = ap (form_of (form_within (length left) d) d) e

pub form_implicit : (d : ℕ) (left rest : List ℕ) → uleb_at left ≡ Ok (33, rest) → form_at d 22 left ≡ Err Unsound
unfolding form_within
form_implicit d [] rest e = refl
form_implicit d (b ∷ left) rest e = ap (form_of (form_within (length left) d) d) e
