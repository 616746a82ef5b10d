-- A changed declaration names no attribute twice.
use Rattle.std.proofs.Common.{◌≡◌, ◌≢◌, ◌≤◌, ℕ, List, [], ◌∷◌, ◌++◌, Bool, true, false, not, refl, ap, sym, ◌∙◌, arith, subst, nat_le}
use Rattle.std.specs.Prelude.{◌==◌, ◌&&◌, ◌||◌, if◌then◌else◌, flat_map}
use Rattle.std.specs.List.{list_any}
use Rattle.std.proofs.lemmas.List.Folds.{list_any-append}
use Rattle.std.proofs.lemmas.Bool.Decides.{nat_tests}
use Rattle.std.proofs.lemmas.Bool.{or_parts, or_from, and_parts, and_from, or_left}
use Rattle.dw_unit.specs.declared.declaration.Spec.{Spec}
use Rattle.dw_unit.specs.Declarations.{Declaration, is_named, has_spec}
use Rattle.dw_unit.specs.CompUnits.{may_repeat, are_named_once}
use Rattle.dw_unit.specs.Changes.{changed_spec, changed_specs, ranges_specs, new_name, keeps_low}

abbrev pub named : ℕ → List Spec → Bool
named n ss = list_any (is_named n) ss

or_not : (a b : Bool) → a ≡ false → (a || not b) ≡ true → b ≡ false
or_not true b e f = absurd (cc)
or_not false true e f = absurd (cc)
or_not false false e f = refl

right_or : (a b : Bool) → b ≡ false → (a || not b) ≡ true
right_or true b e = refl
right_or false true e = absurd (cc)
right_or false false e = refl

by_bool : {P : Type 0} (b : Bool) → (b ≡ true → P) → (b ≡ false → P) → P
by_bool true f g = f refl
by_bool false f g = g refl

differ : {P : Type 0} (b : Bool) → b ≡ true → b ≡ false → P
differ true e f = absurd (cc)
differ false e f = absurd (cc)

not_equal : (k n : ℕ) → k ≢ n → (k == n) ≡ false
not_equal k n ne = grind (arith, nat_tests)

equal : (k n : ℕ) → k ≡ n → (k == n) ≡ true
equal k n e = grind (arith, nat_tests)

own_repeats : (k : ℕ) → 16144 ≤ k → k ≤ 16146 → may_repeat k ≡ true
own_repeats k h g = and_from (nat_le 16144 k) (nat_le k 16146) (grind (arith, nat_tests)) (grind (arith, nat_tests))

not_own : (k n : ℕ) → 16144 ≤ k → k ≤ 16146 → may_repeat n ≡ false → (k == n) ≡ false
not_own k n h g e = not_equal k n (λ same. differ (may_repeat n) (subst (λ (x : ℕ). may_repeat x ≡ true) same (own_repeats k h g)) e)

module _ (own : Bool) (d : Declaration) where
  abbrev pub moved : ℕ → Bool
  moved name = name == 17 && has_spec 18 d && not (keeps_low own d)

  moved_low : (name : ℕ) → moved name ≡ true → (name == 17) ≡ true
  moved_low name e = (and_parts (name == 17) (has_spec 18 d) (and_parts (name == 17 && has_spec 18 d) (not (keeps_low own d)) e).0).0

  abbrev pub name_by : ℕ → Bool → Bool → Bool → ℕ
  name_by name m e t = if m then (if e then 16145 else 82) else (if t then 16146 else name)

  name_absent : (n name : ℕ) (m e t : Bool) → may_repeat n ≡ false → (name == n) ≡ false → (m ≡ true → e ≡ false → n ≢ 82) →
      (name_by name m e t == n) ≡ false
  name_absent n name true true t r a f = not_own 16145 n (omega arith) (omega arith) r
  name_absent n name true false t r a f = not_equal 82 n (λ same. f refl refl (sym same))
  name_absent n name false e true r a f = not_own 16146 n (omega arith) (omega arith) r
  name_absent n name false e false r a f = a

  spec_absent : (n : ℕ) (s : Spec) (b c : Bool) → (s.name == 18) ≡ b → (s.form == 6) ≡ c → may_repeat n ≡ false → (s.name == n) ≡ false →
      (n ≡ 85 → (s.name == 18) ≡ false) → (n ≡ 82 → has_spec 82 d ≡ false → (s.name == 17) ≡ false) →
      named n (if b then ranges_specs s.form else record { name = new_name own d s.name; form = s.form; implicit = s.implicit } ∷ []) ≡
      false
  spec_absent n s true c is is6 r a high low =
      let ranges : (85 == n) ≡ false = not_equal 85 n (λ same. differ (s.name == 18) is (high (sym same))) in
      or_from (85 == n) (named n (if s.form == 6 then [] else record { name = 16144; form = 6; implicit = 0 } ∷ [])) ranges
      (rest (s.form == 6)) where
        rest : (c : Bool) → named n (if c then [] else record { name = 16144; form = 6; implicit = 0 } ∷ []) ≡ false
        rest true = refl
        rest false = or_from (16144 == n) false (not_own 16144 n (omega arith) (omega arith) r) refl
  spec_absent n s false c is is6 r a high low =
      or_from (new_name own d s.name == n) false
      (name_absent n s.name (moved s.name) (has_spec 82 d) (s.name == 121 || s.name == 8503) r a
      (λ m e same. differ (s.name == 17) (moved_low s.name m) (low same e))) refl

  absent : (n : ℕ) (ss : List Spec) → may_repeat n ≡ false → named n ss ≡ false → (n ≡ 85 → named 18 ss ≡ false) →
      (n ≡ 82 → has_spec 82 d ≡ false → named 17 ss ≡ false) → named n (flat_map (changed_spec own d) ss) ≡ false
  absent n [] r a high low = refl
  absent n (s ∷ ss) r a high low =
      let p = or_parts (s.name == n) (named n ss) a in
      list_any-append (is_named n) (changed_spec own d s) (flat_map (changed_spec own d) ss)
      ∙ or_from (named n (changed_spec own d s)) (named n (flat_map (changed_spec own d) ss))
      (spec_absent n s (s.name == 18) (s.form == 6) refl refl r p.0
      (λ e. (or_parts (s.name == 18) (named 18 ss) (high e)).0) (λ e f. (or_parts (s.name == 17) (named 17 ss) (low e f)).0))
      (absent n ss r p.1 (λ e. (or_parts (s.name == 18) (named 18 ss) (high e)).1)
      (λ e f. (or_parts (s.name == 17) (named 17 ss) (low e f)).1))

  -- No declaration has a high address and ranges.
  module _ (apart : has_spec 18 d ≡ true → has_spec 85 d ≡ false) where
    abbrev pub Within : List Spec → Type 0
    Within ss = (n : ℕ) → named n d.specs ≡ false → named n ss ≡ false

    head_once : (s : Spec) (ss : List Spec) (rest : List Spec) → Within (s ∷ ss) → (may_repeat s.name || not (named s.name ss)) ≡ true →
        rest ≡ flat_map (changed_spec own d) ss → are_named_once rest ≡ true → (b : Bool) → (s.name == 18) ≡ b →
        are_named_once ((if b then ranges_specs s.form else record { name = new_name own d s.name; form = s.form; implicit = s.implicit }
        ∷ []) ++ rest) ≡ true
    head_once s ss rest within once is tail true is_high =
        let high : has_spec 18 d ≡ true = by_bool (has_spec 18 d) (λ e. e)
        (λ e. differ (s.name == 18) is_high (or_parts (s.name == 18) (named 18 ss) (within 18 e)).0) in
        let no_ranges : named 85 ss ≡ false = (or_parts (s.name == 85) (named 85 ss) (within 85 (apart high))).1 in
        let name_is : s.name ≡ 18 = grind (arith, nat_tests) in
        let once18 : (may_repeat 18 || not (named 18 ss)) ≡ true = subst (λ (x : ℕ). (may_repeat x || not (named x ss)) ≡ true) name_is
        once in
        let none : named 85 rest ≡ false = ap (named 85) is ∙ absent 85 ss refl no_ranges
        (λ e. or_not (may_repeat 18) (named 18 ss) refl once18) (λ e. absurd (omega arith)) in
        by_form (s.form == 6) none where
          by_form : (c : Bool) → named 85 rest ≡ false →
              are_named_once ((record { name = 85; form = 23; implicit = 0 }
              ∷ (if c then [] else record { name = 16144; form = 6; implicit = 0 } ∷ [])) ++ rest) ≡ true
          by_form true none = and_from (may_repeat 85 || not (named 85 rest)) (are_named_once rest)
              (right_or (may_repeat 85) (named 85 rest) none) tail
          by_form false none = and_from (may_repeat 85 || not (named 85 (record { name = 16144; form = 6; implicit = 0 } ∷ rest)))
              (are_named_once (record { name = 16144; form = 6; implicit = 0 } ∷ rest))
              (right_or (may_repeat 85) (named 85 (record { name = 16144; form = 6; implicit = 0 } ∷ rest)) none) tail
    head_once s ss rest within once is tail false is_high =
        and_from (may_repeat (new_name own d s.name) || not (named (new_name own d s.name) rest)) (are_named_once rest)
        (by_name (moved s.name) (has_spec 82 d) (s.name == 121 || s.name == 8503) refl refl) tail where
          stays : (b : Bool) → may_repeat s.name ≡ b → (may_repeat s.name || not (named s.name rest)) ≡ true
          stays true r = or_left (may_repeat s.name) (not (named s.name rest)) r
          stays false r =
              right_or (may_repeat s.name) (named s.name rest) (ap (named s.name) is
              ∙ absent s.name ss r (or_not (may_repeat s.name) (named s.name ss) r once)
              (λ e. by_bool (named 18 ss)
              (λ t. differ (s.name == 85) (equal s.name 85 e) (or_parts (s.name == 85) (named 85 ss)
              (within 85 (apart (by_bool (has_spec 18 d) (λ x. x)
              (λ x. differ (named 18 ss) t (or_parts (s.name == 18) (named 18 ss) (within 18 x)).1))))).0)
              (λ f. f))
              (λ e f. differ (s.name == 82) (equal s.name 82 e) (or_parts (s.name == 82) (named 82 ss) (within 82 f)).0))

          by_name : (m e t : Bool) → moved s.name ≡ m → has_spec 82 d ≡ e →
              (may_repeat (name_by s.name m e t) || not (named (name_by s.name m e t) rest)) ≡ true
          by_name true true t f g = refl
          by_name true false t f g =
              let name_is : s.name ≡ 17 = let l = moved_low s.name f in grind (arith, nat_tests) in
              let once17 : (may_repeat 17 || not (named 17 ss)) ≡ true = subst (λ (x : ℕ). (may_repeat x || not (named x ss)) ≡ true)
              name_is once in
              right_or (may_repeat 82) (named 82 rest) (ap (named 82) is
              ∙ absent 82 ss refl (or_parts (s.name == 82) (named 82 ss) (within 82 g)).1
              (λ e. absurd (omega arith)) (λ e f. or_not (may_repeat 17) (named 17 ss) refl once17))
          by_name false e true f g = refl
          by_name false e false f g = stays (may_repeat s.name) refl

    pub named_once : (ss : List Spec) → Within ss → are_named_once ss ≡ true → are_named_once (flat_map (changed_spec own d) ss) ≡ true
    named_once [] within e = refl
    named_once (s ∷ ss) within e =
        let p = and_parts (may_repeat s.name || not (named s.name ss)) (are_named_once ss) e in
        head_once s ss (flat_map (changed_spec own d) ss) within p.0 refl
        (named_once ss (λ n f. (or_parts (s.name == n) (named n ss) (within n f)).1) p.1) (s.name == 18) refl

-- No name comes twice after the change, if none did before.
pub names_stay_single : (own : Bool) (d : Declaration) → (has_spec 18 d ≡ true → has_spec 85 d ≡ false) → are_named_once d.specs ≡ true →
    are_named_once (changed_specs own d) ≡ true
names_stay_single own d apart e = named_once own d apart d.specs (λ n f. f) e
