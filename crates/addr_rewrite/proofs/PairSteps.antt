-- Pairs of a table of `.debug_aranges`, read one by one.
use Rattle.std.proofs.Common.{◌≡◌, ◌<◌, ◌≤◌, ◌+◌, ◌++◌, ◌∙◌, ℕ, zero, suc, List, [], ◌∷◌, Bool, true, false, cond, Option, Some, None}
use Rattle.std.proofs.Common.{Ok, Err, Result, refl, ap, sym, arith, length, drop, nat_lt, length-drop, append_assoc}
use Rattle.std.specs.Prelude.{◌==◌, ◌&&◌, if◌then◌else◌}
use Rattle.std.proofs.lemmas.Bool.Decides.{nat_tests}
use Rattle.rb_bytes.specs.declared.gap.Gap.{Gap}
use Rattle.rb_bytes.specs.declared.gap.Gap.TheVariants.{Short}
use Rattle.rb_bytes.specs.Readers.{and_then, number_read}
use Rattle.answer_runs.specs.declared.range.Range.{Range}
use Rattle.table_core.specs.ReadSteps.{with_head}
use Rattle.table_core.proofs.Numbers.{same_left}
use Rattle.dw_unit.specs.declared.trouble.Trouble.{Trouble}
use Rattle.dw_unit.specs.declared.trouble.Trouble.TheVariants.{Unsound}
use Rattle.dw_unit.specs.Trouble.{Read, whole}
use Rattle.addr_rewrite.specs.Aranges.{pairs_within}
use Rattle.addr_rewrite.specs.ArangesReading.{pair_at}

abbrev Ranges : Type 0
Ranges = Result (List Range) Trouble

abbrev pub all_pairs : List ℕ → Ranges
all_pairs left = pairs_within (length left) left

-- The pairs after one, or the end.
abbrev pub by_pair : (List ℕ → Ranges) → Read (Option Range) → Ranges
by_pair more (Err t) = Err t
by_pair more (Ok (None, rest)) = Ok []
by_pair more (Ok (Some r, rest)) = with_head r (more rest)

pub unfold_pairs : (n : ℕ) (left : List ℕ) → pairs_within (suc n) left ≡ by_pair (pairs_within n) (pair_at left)
unfolding pairs_within
unfold_pairs n left = by_address (number_read 8 left) where
  by_zeros : (b : Bool) (r : Range) (rest : List ℕ) →
      ◌≡◌ {A = Ranges} (if b then Ok [] else with_head r (pairs_within n rest))
      (by_pair (pairs_within n) (Ok ((if b then None else Some r), rest)))
  by_zeros true r rest = refl
  by_zeros false r rest = refl

  by_size : (a : ℕ) (found : Result (ℕ × List ℕ) Gap) →
      ◌≡◌ {A = Ranges} (and_then (whole found) (λ size rest. if a == 0 && size == 0 then Ok [] else with_head
      (record { low = a; high = a + size }) (pairs_within n rest)))
      (by_pair (pairs_within n) (and_then (whole found) (λ size rest. Ok
      ((if a == 0 && size == 0 then None else Some (record { low = a; high = a + size })), rest))))
  by_size a (Err gap) = refl
  by_size a (Ok read) = by_zeros (a == 0 && read.0 == 0) (record { low = a; high = a + read.0 }) read.1

  by_address : (found : Result (ℕ × List ℕ) Gap) →
      ◌≡◌ {A = Ranges} (and_then (whole found) (λ a left1. and_then (whole (number_read 8 left1)) (λ size rest.
      if a == 0 && size == 0 then Ok [] else with_head (record { low = a; high = a + size }) (pairs_within n rest))))
      (by_pair (pairs_within n) (and_then (whole found) (λ a left1. and_then (whole (number_read 8 left1)) (λ size rest.
      Ok ((if a == 0 && size == 0 then None else Some (record { low = a; high = a + size })), rest)))))
  by_address (Err gap) = refl
  by_address (Ok read) = by_size read.0 (number_read 8 read.1)

-- `pair_at` takes 16 bytes.
number_forward_by : (short : Bool) (v x : ℕ) (bytes rest : List ℕ) → nat_lt (length bytes) 8 ≡ short →
    ◌≡◌ {A = Result (ℕ × List ℕ) Gap} (cond short (Err Short) (Ok (v, drop 8 bytes))) (Ok (x, rest)) → length rest < length bytes
number_forward_by true v x bytes rest is e = absurd (cc)
number_forward_by false v x bytes rest is e =
    let g = ap length (same_left _ _ _ _ e) in
    let h : 8 ≤ length bytes = grind (arith, nat_tests) in
    omega (arith, length-drop 8 bytes)

number_forward : (x : ℕ) (bytes rest : List ℕ) → number_read 8 bytes ≡ Ok (x, rest) → length rest < length bytes
number_forward x bytes rest e = number_forward_by (nat_lt (length bytes) 8) _ x bytes rest refl e

pub pair_forward : (left rest : List ℕ) (o : Option Range) → pair_at left ≡ Ok (o, rest) → length rest < length left
pair_forward left rest o e = by_address (number_read 8 left) refl e where
  by_size : (a : ℕ) (left1 : List ℕ) (found : Result (ℕ × List ℕ) Gap) → length left1 < length left → number_read 8 left1 ≡ found →
      ◌≡◌ {A = Read (Option Range)} (and_then (whole found) (λ size rest. Ok
      ((if a == 0 && size == 0 then None else Some (record { low = a; high = a + size })), rest))) (Ok (o, rest)) →
      length rest < length left
  by_size a left1 (Err gap) h is f = absurd (cc)
  by_size a left1 (Ok read) h is f =
      let g = ap length (same_left _ _ _ _ f) in
      let k = number_forward read.0 left1 read.1 is in
      omega arith

  by_address : (found : Result (ℕ × List ℕ) Gap) → number_read 8 left ≡ found →
      ◌≡◌ {A = Read (Option Range)} (and_then (whole found) (λ a left1. and_then (whole (number_read 8 left1)) (λ size rest.
      Ok ((if a == 0 && size == 0 then None else Some (record { low = a; high = a + size })), rest)))) (Ok (o, rest)) →
      length rest < length left
  by_address (Err gap) is f = absurd (cc)
  by_address (Ok read) is f = by_size read.0 read.1 (number_read 8 read.1) (number_forward read.0 left read.1 is) refl f

-- Any limit that is at least the number of bytes left gives the same result.
none_there : (m : ℕ) (left : List ℕ) → length left ≤ 0 → pairs_within m left ≡ Err Unsound
unfolding pairs_within
none_there zero left h = refl
none_there (suc m) [] h = refl
none_there (suc m) (b ∷ left) h = absurd (omega arith)

pairs_enough : (n m : ℕ) (left : List ℕ) → length left ≤ n → length left ≤ m → pairs_within n left ≡ pairs_within m left
pairs_enough zero m left h k = none_there zero left h ∙ sym (none_there m left h)
pairs_enough (suc n) zero left h k = none_there (suc n) left k ∙ sym (none_there zero left k)
pairs_enough (suc n) (suc m) left h k =
    unfold_pairs n left ∙ step (pair_at left) refl (λ rest i. pairs_enough n m rest (omega arith) (omega arith))
    ∙ sym (unfold_pairs m left) where
      step : (r : Read (Option Range)) → pair_at left ≡ r → ((rest : List ℕ) → length rest < length left →
          pairs_within n rest ≡ pairs_within m rest) →
          by_pair (pairs_within n) r ≡ by_pair (pairs_within m) r
      step (Err t) is ih = refl
      step (Ok (None, rest)) is ih = refl
      step (Ok (Some r, rest)) is ih = ap (with_head r) (ih rest (pair_forward left rest (Some r) is))

-- One step, with the number of bytes left as the limit.
pairs_step : (left : List ℕ) (r : Read (Option Range)) → pair_at left ≡ r → all_pairs left ≡ by_pair all_pairs r
pairs_step left r is = pairs_enough (length left) (suc (length left)) left (omega arith) (omega arith) ∙ unfold_pairs (length left) left
    ∙ enough r is where
      enough : (r : Read (Option Range)) → pair_at left ≡ r → by_pair (pairs_within (length left)) (pair_at left) ≡ by_pair all_pairs r
      enough (Err t) is = ap (by_pair (pairs_within (length left))) is
      enough (Ok (None, rest)) is = ap (by_pair (pairs_within (length left))) is
      enough (Ok (Some r, rest)) is =
          let h = pair_forward left rest (Some r) is in
          ap (by_pair (pairs_within (length left))) is ∙ ap (with_head r)
          (pairs_enough (length left) (length rest) rest (omega arith) (omega arith))

-- The pairs read, followed by those left.
abbrev pub with_pairs : List Range → Ranges → Ranges
with_pairs rs (Ok more) = Ok (rs ++ more)
with_pairs rs (Err t) = Err t

pub pairs_more : (rs : List Range) (r : Range) (left rest : List ℕ) → pair_at left ≡ Ok (Some r, rest) →
    with_pairs (rs ++ r ∷ []) (all_pairs rest) ≡ with_pairs rs (all_pairs left)
pairs_more rs r left rest e = step (all_pairs rest) ∙ sym (ap (with_pairs rs) (pairs_step left (Ok (Some r, rest)) e)) where
  step : (more : Ranges) → with_pairs (rs ++ r ∷ []) more ≡ with_pairs rs (with_head r more)
  step (Ok more) = ap (λ (l : List Range). Ok l) (append_assoc rs (r ∷ []) more)
  step (Err t) = refl

pub pairs_end : (rs : List Range) (left rest : List ℕ) → pair_at left ≡ Ok (None, rest) → with_pairs rs (all_pairs left) ≡ Ok (rs ++ [])
pairs_end rs left rest e = ap (with_pairs rs) (pairs_step left (Ok (None, rest)) e)

pub pairs_trouble : (rs : List Range) (left : List ℕ) (t : Trouble) → pair_at left ≡ Err t → with_pairs rs (all_pairs left) ≡ Err t
pairs_trouble rs left t e = ap (with_pairs rs) (pairs_step left (Err t) e)

pub front_pairs : (r : Ranges) → with_pairs [] r ≡ r
front_pairs (Ok rs) = refl
front_pairs (Err t) = refl
