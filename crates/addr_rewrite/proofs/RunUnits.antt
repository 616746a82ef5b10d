-- The units of runs, in any order of their stretches.
use Rattle.std.proofs.Common.{◌≡◌, ◌∙◌, ◌<◌, ◌≤◌, ◌+◌, ◌^◌, ℕ, Bool, true, false, cond, List, [], ◌∷◌, Option, Some, None, refl}
use Rattle.std.proofs.Common.{sym, ap, arith, map, nat_le, nat_lt}
use Rattle.std.specs.Prelude.{◌||◌, All, find, if◌then◌else◌}
use Rattle.std.specs.List.{list_any}
use Rattle.std.specs.List.Sorted.{IsPermutation}
use Rattle.std.specs.Option.{option_or}
use Rattle.std.proofs.lemmas.Bool.{and_right}
use Rattle.std.proofs.lemmas.Bool.Decides.{nat_tests}
use Rattle.std.proofs.lemmas.List.Elements.{All-cons, All-nil, All-head, All-tail, All-map, All-weaker}
use Rattle.std.proofs.lemmas.List.Sorted.{All-permutation, list_any-IsPermutation}
use Rattle.answer_runs.specs.AddressRanges.{holds_address}
use Rattle.answer_runs.specs.AnswerRuns.{IsWithin, run_at}
use Rattle.answer_runs.specs.declared.run.Run.{Run}
use Rattle.addr_rewrite.specs.WrittenAranges.{stretch_of}
use Rattle.addr_rewrite.specs.declared.stretch.Stretch.{Stretch}
use Rattle.addr_rewrite.specs.declared.unit_range.UnitRange.{UnitRange}
use Rattle.addr_rewrite.proofs.FlatTables.{holds, unit_of}
use Rattle.addr_rewrite.proofs.TablesBack.{IsWritten, range_of}

-- A stretch as a range of its unit.
abbrev pub entry_of : Stretch → UnitRange
entry_of s = record { range = range_of s; unit = s.unit }

abbrev has : ℕ → Stretch → Bool
has a s = holds_address a (range_of s)

-- Runs, at an address

ends_low : (lo hi : ℕ) (rs : List (Run ℕ)) → IsWithin lo rs hi → lo ≤ hi
ends_low lo hi [] w = w
ends_low lo hi (r ∷ rs) w =
    let a : lo ≤ r.start = w.0 in
    let b : r.start + r.len ≤ hi = ends_low (r.start + r.len) hi rs w.2 in
    omega arith

-- The run with an address gives its unit.
abbrev Says : ℕ → ℕ → List (Run ℕ) → Run ℕ → Type 0
Says lo a rs r = has a (stretch_of r) ≡ true → (lo ≤ a) × (run_at rs a ≡ Some r.answer)

run_here : (r : Run ℕ) (rs : List (Run ℕ)) (a : ℕ) (b : Bool) → has a (stretch_of r) ≡ b →
    run_at (r ∷ rs) a ≡ option_or (if b then Some r.answer else None) (run_at rs a)
run_here r rs a b e = ap (λ (t : Bool). option_or (if t then Some r.answer else None) (run_at rs a)) e

low_of : (r : Run ℕ) (a : ℕ) → has a (stretch_of r) ≡ true → r.start ≤ a
low_of r a e = grind (arith, nat_tests)

pub past : (r : Run ℕ) (a : ℕ) → r.start + r.len ≤ a → has a (stretch_of r) ≡ false
past r a h = let t : nat_lt a (r.start + r.len) ≡ false = grind (arith, nat_tests) in
    and_right (nat_le r.start a) (nat_lt a (r.start + r.len)) t

pub runs_say : (lo hi a : ℕ) (rs : List (Run ℕ)) → IsWithin lo rs hi → All (Says lo a rs) rs
runs_say lo hi a [] w = All-nil (Says lo a [])
runs_say lo hi a (r ∷ rs) w =
    All-cons (Says lo a (r ∷ rs)) r rs
    (λ e. let l : r.start ≤ a = low_of r a e in let m : lo ≤ r.start = w.0 in (omega arith, run_here r rs a true e))
    (All-weaker (Says (r.start + r.len) a rs) (Says lo a (r ∷ rs))
    (λ s says e.
    let l = (says e).0 in
    let m : lo ≤ r.start = w.0 in
    let n : r.start + r.len ≤ a = l in
    (omega (arith, m, n), run_here r rs a false (past r a n) ∙ (says e).1)) rs
    (runs_say (r.start + r.len) hi a rs w.2))

runs_none : (a : ℕ) (rs : List (Run ℕ)) → list_any (λ (r : Run ℕ). has a (stretch_of r)) rs ≡ false → run_at rs a ≡ None
runs_none a [] e = refl
runs_none a (r ∷ rs) e = by (has a (stretch_of r)) refl (runs_none a rs) e where
  by : (b : Bool) → has a (stretch_of r) ≡ b → (list_any (λ (r : Run ℕ). has a (stretch_of r)) rs ≡ false → run_at rs a ≡ None) →
      (b || list_any (λ (r : Run ℕ). has a (stretch_of r)) rs) ≡ false → run_at (r ∷ rs) a ≡ None
  by true t more e = absurd (cc)
  by false t more e = run_here r rs a false t ∙ more e

-- Stretches of runs, in another order

find_says : (a : ℕ) (v : Option ℕ) (ss : List Stretch) → All (λ (s : Stretch). has a s ≡ true → v ≡ Some s.unit) ss →
    (list_any (has a) ss ≡ false → v ≡ None) → unit_of a (find (holds a) (map entry_of ss)) ≡ v
find_says a v [] says none = sym (none refl)
find_says a v (s ∷ ss) says none = by (has a s) refl none (find_says a v ss
    (All-tail (λ (s : Stretch). has a s ≡ true → v ≡ Some s.unit) s ss says)) where
      by : (b : Bool) → has a s ≡ b → ((b || list_any (has a) ss) ≡ false → v ≡ None) →
          ((list_any (has a) ss ≡ false → v ≡ None) → unit_of a (find (holds a) (map entry_of ss)) ≡ v) →
          unit_of a (cond b (Some (entry_of s)) (find (holds a) (map entry_of ss))) ≡ v
      by true e none more = sym (All-head (λ (s : Stretch). has a s ≡ true → v ≡ Some s.unit) s ss says e)
      by false e none more = more none

any_map : (p : Stretch → Bool) (rs : List (Run ℕ)) → list_any p (map stretch_of rs) ≡ list_any (λ (r : Run ℕ). p (stretch_of r)) rs
any_map p [] = refl
any_map p (r ∷ rs) = ap (λ (b : Bool). p (stretch_of r) || b) (any_map p rs)

pub unit_said : (hi a : ℕ) (rs : List (Run ℕ)) (ss : List Stretch) → IsWithin 0 rs hi → IsPermutation (map stretch_of rs) ss →
    unit_of a (find (holds a) (map entry_of ss)) ≡ run_at rs a
unit_said hi a rs ss w p =
    find_says a (run_at rs a) ss
    (All-permutation (λ (s : Stretch). has a s ≡ true → run_at rs a ≡ Some s.unit) (map stretch_of rs) ss p
    (All-map (λ (s : Stretch). has a s ≡ true → run_at rs a ≡ Some s.unit) stretch_of rs
    (All-weaker (Says 0 a rs) (λ (r : Run ℕ). has a (stretch_of r) ≡ true → run_at rs a ≡ Some r.answer)
    (λ r says e. (says e).1) rs (runs_say 0 hi a rs w))))
    (λ e. runs_none a rs (sym (any_map (has a) rs) ∙ list_any-IsPermutation (has a) (map stretch_of rs) ss p ∙ e))

-- What runs give the writer

module _ (wanted : ℕ → Option ℕ) where
  here_wanted : (r : Run ℕ) (rs : List (Run ℕ)) → 0 < r.len → run_at (r ∷ rs) r.start ≡ Some r.answer
  here_wanted r rs some = run_here r rs r.start true (grind (arith, nat_tests))

  behind_wanted : (r : Run ℕ) (rs : List (Run ℕ)) (lo : ℕ) → lo ≤ r.start → ((p : ℕ) → lo ≤ p → run_at (r ∷ rs) p ≡ wanted p) →
      (p : ℕ) → r.start + r.len ≤ p → run_at rs p ≡ wanted p
  behind_wanted r rs lo l is p h = sym (run_here r rs p false (past r p h)) ∙ is p (omega arith)

  pub answers_small : (n lo hi : ℕ) (rs : List (Run ℕ)) → ((p u : ℕ) → wanted p ≡ Some u → u < n) → IsWithin lo rs hi →
      ((p : ℕ) → lo ≤ p → run_at rs p ≡ wanted p) → All (λ (r : Run ℕ). r.answer < n) rs
  answers_small n lo hi [] small w is = All-nil (λ (r : Run ℕ). r.answer < n)
  answers_small n lo hi (r ∷ rs) small w is =
      All-cons (λ (r : Run ℕ). r.answer < n) r rs
      (small r.start r.answer (sym (is r.start w.0) ∙ here_wanted r rs w.1))
      (answers_small n (r.start + r.len) hi rs small w.2 (behind_wanted r rs lo w.0 is))

  pub no_runs : (lo hi : ℕ) (rs : List (Run ℕ)) → ((p : ℕ) → wanted p ≡ None) → IsWithin lo rs hi →
      ((p : ℕ) → run_at rs p ≡ wanted p) → rs ≡ []
  no_runs lo hi [] none w is = refl
  no_runs lo hi (r ∷ rs) none w is =
      let e : Some r.answer ≡ None = sym (here_wanted r rs w.1) ∙ is r.start ∙ none r.start in absurd (cc)

runs_written : (lo hi : ℕ) (rs : List (Run ℕ)) → hi < 2 ^ 64 → IsWithin lo rs hi → All (λ (r : Run ℕ). r.answer < 2 ^ 32) rs →
    All (λ (r : Run ℕ). IsWritten (stretch_of r)) rs
runs_written lo hi [] h w small = All-nil (λ (r : Run ℕ). IsWritten (stretch_of r))
runs_written lo hi (r ∷ rs) h w small =
    let e : r.start + r.len ≤ hi = ends_low (r.start + r.len) hi rs w.2 in
    All-cons (λ (r : Run ℕ). IsWritten (stretch_of r)) r rs
    (record { start = omega arith; some = w.1; len = omega arith }, All-head (λ (r : Run ℕ). r.answer < 2 ^ 32) r rs small)
    (runs_written (r.start + r.len) hi rs h w.2 (All-tail (λ (r : Run ℕ). r.answer < 2 ^ 32) r rs small))

pub all_written : (hi : ℕ) (rs : List (Run ℕ)) (ss : List Stretch) → hi < 2 ^ 64 → IsWithin 0 rs hi →
    All (λ (r : Run ℕ). r.answer < 2 ^ 32) rs → IsPermutation (map stretch_of rs) ss → All IsWritten ss
all_written hi rs ss h w small p =
    All-permutation IsWritten (map stretch_of rs) ss p (All-map IsWritten stretch_of rs (runs_written 0 hi rs h w small))
