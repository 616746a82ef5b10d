-- Runs that ascend, and the first ones among them.
use Rattle.std.proofs.Common.{ℕ, zero, suc, ◌+◌, ◌^◌, ◌≤◌, ◌<◌, ◌≡◌, ◌&&◌, List, [], ◌∷◌, Option, Some, None, cond, leb, ltb, Bool, true}
use Rattle.std.proofs.Common.{false, refl, sym, ◌∙◌, ap, arith, take, drop}
use Rattle.std.specs.Prelude.{All}
use Rattle.std.specs.Option.{option_or}
use Rattle.std.proofs.lemmas.Bool.Decides.{nat_tests}
use Rattle.std.proofs.lemmas.List.Elements.{All-nil, All-cons, All-head, All-tail}
use Rattle.std.proofs.lemmas.Option.{same_Some}
use Rattle.rb_bytes.proofs.Options.{not_found}
use Rattle.answer_runs.specs.declared.run.Run.{Run}
use Rattle.answer_runs.specs.AnswerRuns.{IsWithin, answer_over, run_at}
use Rattle.cfi_rows.specs.FrameRows.{RowValue, row_at}
use Rattle.frame_rewrite.specs.FrameAnswers.{FrameAnswer}
use Rattle.frame_rewrite.specs.SpelledFits.{RowFits, EndFits}
use Rattle.frame_rewrite.specs.SpelledFrames.{last_end}
use Rattle.frame_rewrite.proofs.RowsBack.{placed, Follow}

abbrev Runs : Type 0
Runs = List (Run FrameAnswer)

within-le : (lo : ℕ) (rs : Runs) (hi : ℕ) → IsWithin lo rs hi → lo ≤ hi
within-le lo [] hi w = w
within-le lo (r ∷ rs) hi w = let h : r.start + r.len ≤ hi = within-le (r.start + r.len) rs hi w.2 in let a : lo
    ≤ r.start = w.0 in omega arith

pub within-take : (k lo : ℕ) (rs : Runs) (hi : ℕ) → IsWithin lo rs hi → IsWithin lo (take k rs) hi
within-take zero lo rs hi w = within-le lo rs hi w
within-take (suc k) lo [] hi w = w
within-take (suc k) lo (r ∷ rs) hi w = (w.0, w.1, within-take k (r.start + r.len) rs hi w.2)

pub within-drop : (k lo : ℕ) (rs : Runs) (hi : ℕ) → IsWithin lo rs hi → IsWithin (last_end lo (take k rs)) (drop k rs) hi
within-drop zero lo rs hi w = w
within-drop (suc k) lo [] hi w = w
within-drop (suc k) lo (r ∷ rs) hi w = within-drop k (r.start + r.len) rs hi w.2

pub last-le : (lo : ℕ) (rs : Runs) (hi : ℕ) → IsWithin lo rs hi → last_end lo rs ≤ hi
last-le lo [] hi w = w
last-le lo (r ∷ rs) hi w = last-le (r.start + r.len) rs hi w.2

pub le-last : (lo : ℕ) (rs : Runs) (hi : ℕ) → IsWithin lo rs hi → lo ≤ last_end lo rs
le-last lo [] hi w = omega arith
le-last lo (r ∷ rs) hi w = let h : r.start + r.len ≤ last_end (r.start + r.len) rs = le-last (r.start + r.len) rs hi
    w.2 in let a : lo ≤ r.start = w.0 in omega arith

pub within-low : (lo low : ℕ) (rs : Runs) (hi : ℕ) → low ≤ lo → IsWithin lo rs hi → IsWithin low rs hi
within-low lo low [] hi l w = omega arith
within-low lo low (r ∷ rs) hi l w = (omega arith, w.1, w.2)

pub ends-fit : (lo : ℕ) (rs : Runs) (hi : ℕ) → hi < 2 ^ 64 → IsWithin lo rs hi → All EndFits rs
ends-fit lo [] hi h w = All-nil EndFits
ends-fit lo (r ∷ rs) hi h w =
    let l : r.start + r.len ≤ hi = within-le (r.start + r.len) rs hi w.2 in
    All-cons EndFits r rs (omega arith) (ends-fit (r.start + r.len) rs hi h w.2)

pub starts-fit : (lo : ℕ) (rs : Runs) (hi : ℕ) → hi < 2 ^ 64 → IsWithin lo rs hi
    → All (λ (r : Run FrameAnswer). r.start < 2 ^ 64) rs
starts-fit lo [] hi h w = All-nil (λ (r : Run FrameAnswer). r.start < 2 ^ 64)
starts-fit lo (r ∷ rs) hi h w =
    let l : r.start + r.len ≤ hi = within-le (r.start + r.len) rs hi w.2 in
    All-cons (λ (r : Run FrameAnswer). r.start < 2 ^ 64) r rs (omega arith) (starts-fit (r.start + r.len) rs hi h w.2)

-- the rows of runs can follow one another
pub follow : (at lo : ℕ) (rs : Runs) (hi : ℕ) → at ≤ lo → hi < 2 ^ 64 → IsWithin lo rs hi
    → All (λ (q : Run FrameAnswer). RowFits q.answer.row) rs → Follow at rs
follow at lo [] hi l h w f = tt
follow at lo (r ∷ rs) hi l h w f =
    let e : r.start + r.len ≤ hi = within-le (r.start + r.len) rs hi w.2 in
    let a : lo ≤ r.start = w.0 in (
      omega arith,
      omega arith,
      (All-head (λ (q : Run FrameAnswer). RowFits q.answer.row) r rs f).rules,
      follow r.start (r.start + r.len) rs hi (omega arith) h w.2
          (All-tail (λ (q : Run FrameAnswer). RowFits q.answer.row) r rs f),
    )

-- Which run has a byte

over-out : (start len p : ℕ) (a : FrameAnswer) → (leb start p && ltb p (start + len)) ≡ false
    → answer_over start len a p ≡ None
over-out start len p a t = rw t refl

pub at-before : (lo : ℕ) (rs : Runs) (hi p : ℕ) → IsWithin lo rs hi → p < lo → run_at rs p ≡ None
at-before lo [] hi p w h = refl
at-before lo (r ∷ rs) hi p w h =
    let a : lo ≤ r.start = w.0 in
    let t : (leb r.start p && ltb p (r.start + r.len)) ≡ false = grind (arith, nat_tests) in
    rw (over-out r.start r.len p r.answer t) (at-before (r.start + r.len) rs hi p w.2 (omega arith))

-- a byte after the first runs is a byte of a later run
pub at-behind : (k lo : ℕ) (rs : Runs) (hi p : ℕ) → IsWithin lo rs hi → last_end lo (take k rs) ≤ p
    → run_at rs p ≡ run_at (drop k rs) p
at-behind zero lo rs hi p w h = refl
at-behind (suc k) lo [] hi p w h = refl
at-behind (suc k) lo (r ∷ rs) hi p w h =
    let l : r.start + r.len ≤ last_end (r.start + r.len) (take k rs) = le-last (r.start + r.len) (take k rs) hi
    (within-take k (r.start + r.len) rs hi w.2) in
    let g : r.start + r.len ≤ p = omega arith in
    let t : (leb r.start p && ltb p (r.start + r.len)) ≡ false = grind (arith, nat_tests) in
    rw (over-out r.start r.len p r.answer t) (at-behind k (r.start + r.len) rs hi p w.2 h)

-- before the end of the first runs, a byte is one of them
pub at-among : (k lo : ℕ) (rs : Runs) (hi p : ℕ) → IsWithin lo rs hi → p < last_end lo (take k rs)
    → run_at rs p ≡ run_at (take k rs) p
at-among zero lo rs hi p w h = at-before lo rs hi p w h
at-among (suc k) lo [] hi p w h = refl
at-among (suc k) lo (r ∷ rs) hi p w h = ap (option_or (answer_over r.start r.len r.answer p))
    (at-among k (r.start + r.len) rs hi p w.2 h)

-- Which row holds at a byte

rows-before : (lo : ℕ) (rs : Runs) (hi p : ℕ) (found : Option RowValue) → IsWithin lo rs hi → p < lo
    → row_at p (placed rs) found ≡ found
rows-before lo [] hi p found w h = refl
rows-before lo (r ∷ rs) hi p found w h =
    let a : lo ≤ r.start = w.0 in
    let t : leb r.start p ≡ false = grind (arith, nat_tests) in
    ap (λ (b : Bool). row_at p (placed rs) (cond b (Some r.answer.row) found)) t
    ∙ rows-before (r.start + r.len) rs hi p found w.2 (omega arith)

-- the row of the run that has the byte
pub rows-at : (lo : ℕ) (rs : Runs) (hi p : ℕ) (found : Option RowValue) (a : FrameAnswer) → IsWithin lo rs hi
    → run_at rs p ≡ Some a
    → row_at p (placed rs) found ≡ Some a.row
rows-at lo [] hi p found a w e = absurd (not_found {A = FrameAnswer} None a refl e)
rows-at lo (r ∷ rs) hi p found a w e =
    one (leb r.start p && ltb p (r.start + r.len)) refl
    (rows-at (r.start + r.len) rs hi p (cond (leb r.start p) (Some r.answer.row) found) a w.2) where
      starts : (s n : ℕ) → (leb s p && ltb p (s + n)) ≡ true → leb s p ≡ true
      starts s n t = grind (arith, nat_tests)

      ends : (s n : ℕ) → (leb s p && ltb p (s + n)) ≡ true → p < s + n
      ends s n t = grind (arith, nat_tests)

      one : (b : Bool) → (leb r.start p && ltb p (r.start + r.len)) ≡ b
          → (run_at rs p ≡ Some a → row_at p (placed rs) (cond (leb r.start p) (Some r.answer.row) found) ≡ Some a.row)
          → row_at p (placed (r ∷ rs)) found ≡ Some a.row
      one true t later =
          let same : r.answer ≡ a = same_Some r.answer a
          (sym (ap (λ (b : Bool). option_or (cond b (Some r.answer) None) (run_at rs p)) t) ∙ e) in
          ap (λ (b : Bool). row_at p (placed rs) (cond b (Some r.answer.row) found)) (starts r.start r.len t)
          ∙ rows-before (r.start + r.len) rs hi p (Some r.answer.row) w.2 (ends r.start r.len t)
          ∙ ap (λ (x : FrameAnswer). Some x.row) same
      one false t later = later
          (sym (ap (λ (b : Bool). option_or (cond b (Some r.answer) None) (run_at rs p)) t) ∙ e)
