-- The meaning of the class of a type.
use Rattle.std.proofs.Common.{◌≡◌, ◌≢◌, ◌∙◌, sym, ap, refl, ℕ, ◌+◌, ◌⊎◌, inl, inr, ⊎_elim, ◌↔◌, Bool, true, false, ◌==◌, ◌||◌}
use Rattle.std.proofs.Common.{IsTrue, Option, Some, None, arith, eq-eqb}
use Rattle.std.proofs.lemmas.Bool.{cases_eq, or_cases, eqb-true, ne_eqb}
use Rattle.elf_code.specs.Cells.{same_width}
use Rattle.elf_code.specs.Relocations.{Width, Bits, Uleb128, plus_width, minus_width, is_call_pair, is_pcrel_hi}
use Rattle.rv_reloc.specs.Index.{class, class_by, class_beside, plus_class, minus_class, call_class, upper_class, width_code}

-- The class of a type with a width, and of a type without one.

pub class-plus : (kind : ℕ) (width : Width) → Some width ≡ plus_width kind → plus_class width ≡ class kind
unfolding class
class-plus kind width is =
    ap (λ (plus : Option Width). class_by plus (minus_width kind) (is_call_pair kind) (is_pcrel_hi kind)) is

pub class-minus : (kind : ℕ) (width : Width) → None ≡ plus_width kind → Some width ≡ minus_width kind →
    minus_class width ≡ class kind
unfolding class
class-minus kind width none is =
    ap (λ (minus : Option Width). class_by None minus (is_call_pair kind) (is_pcrel_hi kind)) is
    ∙ ap (λ (plus : Option Width). class_by plus (minus_width kind) (is_call_pair kind) (is_pcrel_hi kind)) none

pub class-beside : (kind : ℕ) → None ≡ plus_width kind → None ≡ minus_width kind → class_beside kind ≡ class kind
unfolding class
class-beside kind none none' =
    ap (λ (minus : Option Width). class_by None minus (is_call_pair kind) (is_pcrel_hi kind)) none'
    ∙ ap (λ (plus : Option Width). class_by plus (minus_width kind) (is_call_pair kind) (is_pcrel_hi kind)) none

-- Calls and upper parts.

by_call : (plus minus : Option Width) (call upper : Bool) → class_by plus minus call upper ≡ call_class → IsTrue call
by_call (Some w) minus call upper e = absurd (omega arith)
by_call None (Some w) call upper e = absurd (omega arith)
by_call None None true upper e = refl
by_call None None false true e = absurd (omega arith)
by_call None None false false e = absurd (omega arith)

by_upper : (plus minus : Option Width) (call upper : Bool) → class_by plus minus call upper ≡ upper_class → IsTrue upper
by_upper (Some w) minus call upper e = absurd (omega arith)
by_upper None (Some w) call upper e = absurd (omega arith)
by_upper None None true upper e = absurd (omega arith)
by_upper None None false true e = refl
by_upper None None false false e = absurd (omega arith)

at_constant : (kind n c : ℕ) → kind == n ≡ true → class n ≡ c → class kind ≡ c
at_constant kind n c is known = ap class (eqb-true kind n is) ∙ known

pub call-class : (kind : ℕ) → (class kind ≡ call_class) ↔ IsTrue (is_call_pair kind)
unfolding class
call-class kind = (
  by_call (plus_width kind) (minus_width kind) (is_call_pair kind) (is_pcrel_hi kind),
  λ is. ⊎_elim (λ a. at_constant kind 18 0 a refl) (λ a. at_constant kind 19 0 a refl) (or_cases (kind == 18) (kind == 19) is),
)

pub upper-class : (kind : ℕ) → (class kind ≡ upper_class) ↔ IsTrue (is_pcrel_hi kind)
unfolding class
upper-class kind = (
  by_upper (plus_width kind) (minus_width kind) (is_call_pair kind) (is_pcrel_hi kind),
  λ is. ⊎_elim
      (λ a. ⊎_elim
      (λ b. ⊎_elim (λ d. at_constant kind 20 1 d refl) (λ d. at_constant kind 21 1 d refl) (or_cases (kind == 20) (kind == 21) b))
      (λ b. at_constant kind 22 1 b refl)
      (or_cases (kind == 20 || kind == 21) (kind == 22) a))
      (λ a. at_constant kind 23 1 a refl)
      (or_cases (kind == 20 || kind == 21 || kind == 22) (kind == 23) is),
)

-- Labels.

eqb_same : (a b c d : ℕ) → (a ≡ b → c ≡ d) → (c ≡ d → a ≡ b) → a == b ≡ c == d
eqb_same a b c d to from =
    ⊎_elim
    (λ (same : a ≡ b). eq-eqb a b same ∙ sym (eq-eqb c d (to same)))
    (λ (differ : a ≢ b). ne_eqb a b differ ∙ sym (ne_eqb c d (λ e. differ (from e))))
    (cases_eq a b)

same_code : (v w : Width) → same_width w (Some v) ≡ width_code v == width_code w
same_code (Bits n) (Bits m) = eqb_same m n (n + 1) (m + 1) (λ e. omega arith) (λ e. omega arith)
same_code (Bits n) Uleb128 = sym (ne_eqb (n + 1) 0 (λ e. omega arith))
same_code Uleb128 (Bits m) = sym (ne_eqb 0 (m + 1) (λ e. omega arith))
same_code Uleb128 Uleb128 = refl

none : (w : Width) → same_width w None ≡ false
none (Bits n) = refl
none Uleb128 = refl

by_plus : (plus minus : Option Width) (call upper : Bool) (w : Width) →
    same_width w plus ≡ class_by plus minus call upper == plus_class w
by_plus (Some v) minus call upper w =
    same_code v w ∙ eqb_same (width_code v) (width_code w) (plus_class v) (plus_class w) (λ e. omega arith) (λ e. omega arith)
by_plus None (Some v) call upper w = none w ∙ sym (ne_eqb (minus_class v) (plus_class w) (λ e. omega arith))
by_plus None None true upper w = none w ∙ sym (ne_eqb 0 (plus_class w) (λ e. omega arith))
by_plus None None false true w = none w ∙ sym (ne_eqb 1 (plus_class w) (λ e. omega arith))
by_plus None None false false w = none w ∙ sym (ne_eqb 2 (plus_class w) (λ e. omega arith))

by_minus : (plus minus : Option Width) (call upper : Bool) (w : Width) → (plus ≡ None) ⊎ (minus ≡ None) →
    same_width w minus ≡ class_by plus minus call upper == minus_class w
by_minus (Some v) (Some u) call upper w (inl e) = absurd (cc)
by_minus (Some v) (Some u) call upper w (inr e) = absurd (cc)
by_minus (Some v) None call upper w one = none w ∙ sym (ne_eqb (plus_class v) (minus_class w) (λ e. omega arith))
by_minus None (Some v) call upper w one =
    same_code v w ∙ eqb_same (width_code v) (width_code w) (minus_class v) (minus_class w) (λ e. omega arith) (λ e. omega arith)
by_minus None None true upper w one = none w ∙ sym (ne_eqb 0 (minus_class w) (λ e. omega arith))
by_minus None None false true w one = none w ∙ sym (ne_eqb 1 (minus_class w) (λ e. omega arith))
by_minus None None false false w one = none w ∙ sym (ne_eqb 2 (minus_class w) (λ e. omega arith))

at_kind : (kind n : ℕ) → kind ≡ n → minus_width n ≡ None → (plus_width kind ≡ None) ⊎ (minus_width kind ≡ None)
at_kind kind n e known = inr (ap minus_width e ∙ known)

-- No type both adds and subtracts a label.
pub one_width : (kind : ℕ) → (plus_width kind ≡ None) ⊎ (minus_width kind ≡ None)
one_width kind =
    ⊎_elim (λ (e : kind ≡ 53). at_kind kind 53 e refl) (λ (n53 : kind ≢ 53).
    ⊎_elim (λ (e : kind ≡ 33). at_kind kind 33 e refl) (λ (n33 : kind ≢ 33).
    ⊎_elim (λ (e : kind ≡ 54). at_kind kind 54 e refl) (λ (n54 : kind ≢ 54).
    ⊎_elim (λ (e : kind ≡ 34). at_kind kind 34 e refl) (λ (n34 : kind ≢ 34).
    ⊎_elim (λ (e : kind ≡ 55). at_kind kind 55 e refl) (λ (n55 : kind ≢ 55).
    ⊎_elim (λ (e : kind ≡ 35). at_kind kind 35 e refl) (λ (n35 : kind ≢ 35).
    ⊎_elim (λ (e : kind ≡ 56). at_kind kind 56 e refl) (λ (n56 : kind ≢ 56).
    ⊎_elim (λ (e : kind ≡ 36). at_kind kind 36 e refl) (λ (n36 : kind ≢ 36).
    ⊎_elim (λ (e : kind ≡ 60). at_kind kind 60 e refl) (λ (n60 : kind ≢ 60).
    inl (rw (
      ne_eqb kind 53 n53,
      ne_eqb kind 33 n33,
      ne_eqb kind 54 n54,
      ne_eqb kind 34 n34,
      ne_eqb kind 55 n55,
      ne_eqb kind 35 n35,
      ne_eqb kind 56 n56,
      ne_eqb kind 36 n36,
      ne_eqb kind 60 n60,
    ) refl)) (cases_eq kind 60)) (cases_eq kind 36)) (cases_eq kind 56)) (cases_eq kind 35)) (cases_eq kind 55))
    (cases_eq kind 34)) (cases_eq kind 54)) (cases_eq kind 33)) (cases_eq kind 53)

pub plus-class : (kind : ℕ) (width : Width) → same_width width (plus_width kind) ≡ class kind == plus_class width
unfolding class
plus-class kind width = by_plus (plus_width kind) (minus_width kind) (is_call_pair kind) (is_pcrel_hi kind) width

pub minus-class : (kind : ℕ) (width : Width) → same_width width (minus_width kind) ≡ class kind == minus_class width
unfolding class
minus-class kind width =
    by_minus (plus_width kind) (minus_width kind) (is_call_pair kind) (is_pcrel_hi kind) width (one_width kind)
