-- A table that is written answers at each address what its runs do.
use Rattle.std.proofs.Common.{ℕ, zero, suc, ◌+◌, ◌≤◌, ◌<◌, ◌≡◌, ◌==◌, ◌&&◌, List, [], ◌∷◌, Option, Some, None, cond, leb, ltb, Bool, true}
use Rattle.std.proofs.Common.{false, refl, sym, ◌∙◌, ap, subst, arith, length, take, drop, option_map, ⊎_elim}
use Rattle.std.specs.Prelude.{All, IsTrue, IsSome}
use Rattle.std.specs.Bool.{beq}
use Rattle.std.specs.Option.{option_or}
use Rattle.std.proofs.lemmas.Bool.Decides.{nat_tests}
use Rattle.std.proofs.lemmas.Grind.{common_steps}
use Rattle.std.proofs.lemmas.List.Elements.{All-nil, All-cons, All-head, All-tail, All-take, All-drop}
use Rattle.std.proofs.lemmas.Bool.{and_parts, cases_lt, ltb-true, ltb-false}
use Rattle.rb_bytes.proofs.Tests.{bool_is}
use Rattle.addr_map.specs.declared.span.Span.{Span}
use Rattle.addr_map.specs.Spans.{new}
use Rattle.answer_runs.specs.declared.run.Run.{Run}
use Rattle.answer_runs.specs.AnswerRuns.{IsWithin, run_at}
use Rattle.answer_runs.specs.CarriedAnswers.{Agree}
use Rattle.cfi_rows.specs.FrameRows.{RowValue, row_at}
use Rattle.cfi_rows.specs.Entries.{Fde, is_in_range}
use Rattle.frame_rewrite.specs.FrameAnswers.{FrameAnswer, answer_of, answer_at}
use Rattle.frame_rewrite.specs.declared.form.Form.{Form}
use Rattle.frame_rewrite.specs.CarriedFrames.{IsCarriedFrame}
use Rattle.frame_rewrite.specs.SpelledFits.{IsReached}
use Rattle.frame_rewrite.specs.SpelledFrames.{key_of, is_alike, count_on, more_count, start_of, last_end, fde_body}
use Rattle.frame_rewrite.proofs.FdeBack.{fde_of}
use Rattle.frame_rewrite.proofs.RowsBack.{placed}
use Rattle.frame_rewrite.proofs.RunGroups.{within-take, within-drop, at-before, at-behind, at-among, rows-at}
use Rattle.frame_rewrite.proofs.TableBack.{made, Before}

abbrev Runs : Type 0
Runs = List (Run FrameAnswer)

-- The runs of one group

-- what an entry says of each of its runs alike
pub record IsLike (spans : List Span) (r : Run FrameAnswer) (x : FrameAnswer) : Type 0 where
  pub ra : r.answer.ra ≡ x.ra
  pub handler : r.answer.handler ≡ x.handler
  pub indirect : r.answer.indirect ≡ x.indirect
  pub table : r.answer.table ≡ x.table
  pub signal : r.answer.signal ≡ x.signal
  pub start : IsTrue x.marked → start_of spans r ≡ new spans x.start

pub record Continues (r q : Run FrameAnswer) : Type 0 where
  pub marked : r.answer.marked ≡ q.answer.marked
  pub start : r.answer.start ≡ q.answer.start
  pub table : r.answer.table ≡ q.answer.table
  pub ra : r.answer.ra ≡ q.answer.ra
  pub handler : r.answer.handler ≡ q.answer.handler
  pub indirect : r.answer.indirect ≡ q.answer.indirect
  pub signal : r.answer.signal ≡ q.answer.signal

parts : (a b c d e f g : Bool) → (a && b && c && d && e && f && g) ≡ true
    → (a ≡ true) × (b ≡ true) × (c ≡ true) × (d ≡ true) × (e ≡ true) × (f ≡ true) × (g ≡ true)
parts true true true true true true true t = (refl, refl, refl, refl, refl, refl, refl)
parts true true true true true true false t = absurd (cc)
parts true true true true true false g t = absurd (cc)
parts true true true true false f g t = absurd (cc)
parts true true true false e f g t = absurd (cc)
parts true true false d e f g t = absurd (cc)
parts true false c d e f g t = absurd (cc)
parts false b c d e f g t = absurd (cc)

same-numbers : (a b : ℕ) → (a == b) ≡ true → a ≡ b
same-numbers a b e = grind (arith, nat_tests)

continues-so : (r q : Run FrameAnswer) → is_alike r q ≡ true → Continues r q
continues-so r q t =
    let p = parts (beq r.answer.marked q.answer.marked) (r.answer.start == q.answer.start) (r.answer.table == q.answer.table)
    (r.answer.ra == q.answer.ra) (r.answer.handler == q.answer.handler)
    (beq r.answer.indirect q.answer.indirect) (beq r.answer.signal q.answer.signal) t in
    record {
      marked = bool_is r.answer.marked q.answer.marked p.0;
      start = same-numbers r.answer.start q.answer.start p.1;
      table = same-numbers r.answer.table q.answer.table p.2;
      ra = same-numbers r.answer.ra q.answer.ra p.3;
      handler = same-numbers r.answer.handler q.answer.handler p.4;
      indirect = bool_is r.answer.indirect q.answer.indirect p.5;
      signal = bool_is r.answer.signal q.answer.signal p.6;
    }

-- runs that touch one another, from an address on
abbrev pub Touch : ℕ → Runs → Type 0
Touch end [] = Unit {0}
Touch end (q ∷ qs) = (q.start ≡ end) × Touch (q.start + q.len) qs

pub group-so : (end : ℕ) (r : Run FrameAnswer) (rs : Runs)
    → All (Continues r) (take (count_on end r rs) rs) × Touch end (take (count_on end r rs) rs)
group-so end r [] = (All-nil (Continues r), tt)
group-so end r (q ∷ qs) = one ((q.start == end) && is_alike r q) refl (group-so (q.start + q.len) r qs) where
  one : (b : Bool) → ((q.start == end) && is_alike r q) ≡ b
      → All (Continues r) (take (count_on (q.start + q.len) r qs) qs)
      × Touch (q.start + q.len) (take (count_on (q.start + q.len) r qs) qs)
      → All (Continues r) (take (count_on end r (q ∷ qs)) (q ∷ qs)) × Touch end (take (count_on end r (q ∷ qs)) (q ∷ qs))
  one true e more =
      let both = and_parts (q.start == end) (is_alike r q) e in
      rw e (
        All-cons (Continues r) q (take (count_on (q.start + q.len) r qs) qs) (continues-so r q both.1) more.0,
        (same-numbers q.start end both.0, more.1),
      )
  one false e more = rw e (All-nil (Continues r), tt)

pub group-continues : (r : Run FrameAnswer) (rs : Runs) → All (Continues r) (take (more_count r rs) rs)
group-continues r rs = (group-so (r.start + r.len) r rs).0

start-marked : (spans : List Span) (x : Run FrameAnswer) → IsTrue x.answer.marked
    → start_of spans x ≡ new spans x.answer.start
start-marked spans x e = rw e refl

pub like-itself : (spans : List Span) (r : Run FrameAnswer) → IsLike spans r r.answer
like-itself spans r = record {
  ra = refl;
  handler = refl;
  indirect = refl;
  table = refl;
  signal = refl;
  start = λ m. start-marked spans r m;
}

like-next : (spans : List Span) (r q : Run FrameAnswer) → Continues r q → IsLike spans r q.answer
like-next spans r q c =
    record {
      ra = c.ra;
      handler = c.handler;
      indirect = c.indirect;
      table = c.table;
      signal = c.signal;
      start = λ m. start-marked spans r (c.marked ∙ m) ∙ ap (new spans) c.start;
    }

-- what holds of the answers of all runs holds of that at a byte
pub at-all : (P : FrameAnswer → Type 0) (rs : Runs) (p : ℕ) (a : FrameAnswer)
    → All (λ (q : Run FrameAnswer). P q.answer) rs → run_at rs p ≡ Some a → P a
at-all P [] p a f e = absurd (cc)
at-all P (r ∷ rs) p a f e = one (leb r.start p && ltb p (r.start + r.len)) refl
    (at-all P rs p a (All-tail (λ (q : Run FrameAnswer). P q.answer) r rs f)) where
      some-same : (x y : FrameAnswer) → Some x ≡ Some y → x ≡ y
      some-same x y e = cc

      one : (b : Bool) → (leb r.start p && ltb p (r.start + r.len)) ≡ b → (run_at rs p ≡ Some a → P a) → P a
      one true t later =
          subst P (some-same r.answer a (sym (ap (λ (b : Bool). option_or (cond b (Some r.answer) None) (run_at rs p)) t)
          ∙ e)) (All-head (λ (q : Run FrameAnswer). P q.answer) r rs f)
      one false t later = later (sym (ap (λ (b : Bool). option_or (cond b (Some r.answer) None) (run_at rs p)) t) ∙ e)

-- the range of an entry has only bytes that runs have
group-filled : (spans : List Span) (all : Runs) (r : Run FrameAnswer) (end : ℕ) (more : Runs) → Touch end more
    → All (IsReached spans all) more
    → ((p : ℕ) → start_of spans r ≤ p → p < end → IsSome (run_at all p)) → (p : ℕ) → start_of spans r ≤ p
    → p < last_end end more → IsSome (run_at all p)
group-filled spans all r end [] c f h p a b = h p a b
group-filled spans all r end (q ∷ qs) c f h p a b =
    group-filled spans all r (q.start + q.len) qs c.1 (All-tail (IsReached spans all) q qs f)
    (λ x l m. ⊎_elim (λ (less : x < end). h x l less)
    (λ (le : end ≤ x). (All-head (IsReached spans all) q qs f).filled x
    (least (start_of spans q) q.start end x (All-head (IsReached spans all) q qs f).before c.0 le) m) (cases_lt x end)) p a b where
      least : (s a e x : ℕ) → s ≤ a → a ≡ e → e ≤ x → s ≤ x
      least s a e x h i j = omega arith

-- If no run has a byte

no-some : (o : Option FrameAnswer) → o ≡ None → IsSome o → ⊥
no-some None e s = cc
no-some (Some x) e s = cc

past-entry : (is_marked : Fde → Bool) (f : Fde) (fs : List Fde) (p : ℕ) → is_in_range f p ≡ false
    → answer_at is_marked (f ∷ fs) p ≡ answer_at is_marked fs p
past-entry is_marked f fs p e = rw e refl

in-entry : (is_marked : Fde → Bool) (f : Fde) (fs : List Fde) (p : ℕ) → is_in_range f p ≡ true
    → answer_at is_marked (f ∷ fs) p ≡ answer_of is_marked f p
in-entry is_marked f fs p e = rw e refl

pub ranged : (s p e : ℕ) → (leb s p && ltb p e) ≡ true → (s ≤ p) × (p < e)
ranged s p e t = (grind (arith, nat_tests), grind (arith, nat_tests))

pub none-made : (form : Form) (is_marked : Fde → Bool) (spans : List Span) (all : Runs) (n place : ℕ) (rs : Runs) (p : ℕ)
    → All (IsReached spans all) rs → run_at all p ≡ None
    → answer_at is_marked (made form spans n place rs) p ≡ None
unfolding made
none-made form is_marked spans all n place [] p f e = refl
none-made form is_marked spans all zero place (r ∷ rs) p f e = refl
none-made form is_marked spans all (suc n) place (r ∷ rs) p f e =
    past-entry is_marked _ _ p (out (is_in_range (fde_of form spans (key_of spans r.answer) place r
    (take (more_count r rs) rs)) p) refl)
    ∙ none-made form is_marked spans all n (place + 8 + length (fde_body form place spans r (take (more_count r rs) rs)))
    (drop (more_count r rs) rs) p
    (All-drop (IsReached spans all) (more_count r rs) rs (All-tail (IsReached spans all) r rs f)) e where
      out : (b : Bool) → (leb (start_of spans r) p && ltb p (last_end (r.start + r.len) (take (more_count r rs) rs))) ≡ b
          → b ≡ false
      out true t =
          let h = ranged (start_of spans r) p (last_end (r.start + r.len) (take (more_count r rs) rs)) t in
          absurd (no-some (run_at all p) e (group-filled spans all r (r.start + r.len) (take (more_count r rs) rs)
          (group-so (r.start + r.len) r rs).1
          (All-take (IsReached spans all) (more_count r rs) rs (All-tail (IsReached spans all) r rs f))
          (All-head (IsReached spans all) r rs f).filled p h.0 h.1))
      out false t = refl

-- If a run has the byte

-- the entry of a group answers at a byte of one of its runs
group-answer : (form : Form) (is_marked : Fde → Bool) (spans : List Span) (place lo hi p : ℕ) (r : Run FrameAnswer) (more : Runs)
    (a : FrameAnswer) → IsWithin lo (r ∷ more) hi → Before spans r
    → All (Continues r) more → run_at (r ∷ more) p ≡ Some a → r.start ≤ p
    → Agree (IsCarriedFrame spans) (Some a) (answer_of is_marked (fde_of form spans (key_of spans r.answer) place r more) p)
group-answer form is_marked spans place lo hi p r more a w before c e l =
    let s : leb (start_of spans r) p ≡ true = least (start_of spans r) r.start before l in
    let like : IsLike spans r a = at-all (IsLike spans r) (r ∷ more) p a
    (All-cons (λ (q : Run FrameAnswer). IsLike spans r q.answer) r more (like-itself spans r) (likes more c)) e in
    let row : row_at p (record { start = start_of spans r; row = r.answer.row } ∷ placed more) None ≡ Some a.row =
    ap (λ (b : Bool). row_at p (placed more) (cond b (Some r.answer.row) None)) s
    ∙ ap (λ (b : Bool). row_at p (placed more) (cond b (Some r.answer.row) None))
    (sym (least r.start r.start (omega arith) l))
    ∙ rows-at lo (r ∷ more) hi p None a w e in
    subst (λ (o : Option RowValue). Agree (IsCarriedFrame spans) (Some a) (option_map (λ (row : RowValue). answer row) o))
    (sym row)
    (record {
      row = refl;
      ra = like.ra;
      handler = ap (new spans) like.handler;
      indirect = like.indirect;
      table = like.table;
      signal = like.signal;
      start = like.start;
    }) where
      least : (s q : ℕ) → s ≤ q → q ≤ p → leb s p ≡ true
      least s q h g = grind (arith, nat_tests)

      started : (q : ℕ) → leb r.start p ≡ true
      started q = grind (arith, nat_tests)

      likes : (qs : Runs) → All (Continues r) qs → All (λ (q : Run FrameAnswer). IsLike spans r q.answer) qs
      likes [] f = All-nil (λ (q : Run FrameAnswer). IsLike spans r q.answer)
      likes (q ∷ qs) f = All-cons (λ (q : Run FrameAnswer). IsLike spans r q.answer) q qs
          (like-next spans r q (All-head (Continues r) q qs f)) (likes qs (All-tail (Continues r) q qs f))

      answer : RowValue → FrameAnswer
      answer row = record {
        row = row;
        ra = r.answer.ra;
        handler = new spans r.answer.handler;
        indirect = r.answer.indirect;
        table = r.answer.table;
        signal = r.answer.signal;
        start = start_of spans r;
        marked = is_marked (fde_of form spans (key_of spans r.answer) place r more);
      }

pub from-first : (lo hi p : ℕ) (r : Run FrameAnswer) (rs : Runs) (a : FrameAnswer) → IsWithin lo (r ∷ rs) hi
    → run_at (r ∷ rs) p ≡ Some a → r.start ≤ p
from-first lo hi p r rs a w e = one (leb r.start p) refl where
  clash : (o : Option FrameAnswer) → o ≡ None → o ≡ Some a → ⊥
  clash None x y = absurd (cc)
  clash (Some b) x y = absurd (cc)

  before : leb r.start p ≡ false → p < r.start
  before t = grind (arith, nat_tests)

  after : leb r.start p ≡ true → r.start ≤ p
  after t = grind (arith, nat_tests)

  low : (n : ℕ) → n ≤ n
  low n = omega arith

  one : (b : Bool) → leb r.start p ≡ b → r.start ≤ p
  one true t = after t
  one false t = absurd (clash (run_at (r ∷ rs) p) (at-before r.start (r ∷ rs) hi p (low r.start, w.1, w.2) (before t)) e)

is_in : (s q p end : ℕ) → s ≤ q → q ≤ p → ltb p end ≡ true → (leb s p && ltb p end) ≡ true
is_in s q p end a b t = grind (arith, nat_tests)

is_out : (s p end : ℕ) → ltb p end ≡ false → (leb s p && ltb p end) ≡ false
is_out s p end t = grind (arith, nat_tests)

shorter : (k : ℕ) (rs : Runs) (n : ℕ) → suc (length rs) ≤ suc n → length (drop k rs) ≤ n
shorter k rs n h = grind (arith, common_steps)

-- the first group has the byte, or a later one does
split-made : (form : Form) (is_marked : Fde → Bool) (spans : List Span) (n place lo hi : ℕ) (r : Run FrameAnswer) (rs : Runs) (p : ℕ)
    (a : FrameAnswer) → IsWithin lo (r ∷ rs) hi
    → All (Before spans) (r ∷ rs) → run_at (r ∷ rs) p ≡ Some a
    → (run_at (drop (more_count r rs) rs) p ≡ Some a
    → Agree (IsCarriedFrame spans) (Some a) (answer_at is_marked
    (made form spans n (place + 8 + length (fde_body form place spans r (take (more_count r rs) rs))) (drop (more_count r rs) rs)) p))
    → Agree (IsCarriedFrame spans) (Some a) (answer_at is_marked (made form spans (suc n) place (r ∷ rs)) p)
unfolding made
split-made form is_marked spans n place lo hi r rs p a w before e further = one
    (ltb p (last_end (r.start + r.len) (take (more_count r rs) rs))) refl where
      first : r.start ≤ p
      first = from-first lo hi p r rs a w e

      here : Fde
      here = fde_of form spans (key_of spans r.answer) place r (take (more_count r rs) rs)

      rest : List Fde
      rest = made form spans n (place + 8 + length (fde_body form place spans r (take (more_count r rs) rs))) (drop (more_count r rs) rs)

      one : (b : Bool) → ltb p (last_end (r.start + r.len) (take (more_count r rs) rs)) ≡ b
          → Agree (IsCarriedFrame spans) (Some a) (answer_at is_marked
          (fde_of form spans (key_of spans r.answer) place r (take (more_count r rs) rs)
          ∷ made form spans n (place + 8 + length (fde_body form place spans r (take (more_count r rs) rs))) (drop (more_count r rs) rs)) p)
      one true t =
          let among = sym (at-among (suc (more_count r rs)) lo (r ∷ rs) hi p w
          (ltb-true p (last_end (r.start + r.len) (take (more_count r rs) rs)) t)) ∙ e in
          subst (Agree (IsCarriedFrame spans) (Some a)) (sym (in-entry is_marked here rest p
          (is_in (start_of spans r) r.start p (last_end (r.start + r.len) (take (more_count r rs) rs))
          (All-head (Before spans) r rs before) first t)))
          (group-answer form is_marked spans place lo hi p r (take (more_count r rs) rs) a
          (w.0, w.1, within-take (more_count r rs) (r.start + r.len) rs hi w.2) (All-head (Before spans) r rs before)
          (group-continues r rs) among first)
      one false t =
          let later = sym (at-behind (suc (more_count r rs)) lo (r ∷ rs) hi p w
          (ltb-false p (last_end (r.start + r.len) (take (more_count r rs) rs)) t)) ∙ e in
          subst (Agree (IsCarriedFrame spans) (Some a)) (sym (past-entry is_marked here rest p
          (is_out (start_of spans r) p (last_end (r.start + r.len) (take (more_count r rs) rs)) t)))
          (further later)

pub some-made : (form : Form) (is_marked : Fde → Bool) (spans : List Span) (n place lo hi : ℕ) (rs : Runs) (p : ℕ) (a : FrameAnswer)
    → length rs ≤ n → IsWithin lo rs hi → All (Before spans) rs → run_at rs p ≡ Some a
    → Agree (IsCarriedFrame spans) (Some a) (answer_at is_marked (made form spans n place rs) p)
unfolding made
some-made form is_marked spans n place lo hi [] p a l w before e = absurd (cc)
some-made form is_marked spans zero place lo hi (r ∷ rs) p a l w before e = absurd (omega arith)
some-made form is_marked spans (suc n) place lo hi (r ∷ rs) p a l w before e =
    split-made form is_marked spans n place lo hi r rs p a w before e
    (some-made form is_marked spans n (place + 8 + length (fde_body form place spans r (take (more_count r rs) rs)))
    (last_end (r.start + r.len) (take (more_count r rs) rs)) hi (drop (more_count r rs) rs) p a
    (shorter (more_count r rs) rs n l) (within-drop (more_count r rs) (r.start + r.len) rs hi w.2)
    (All-drop (Before spans) (more_count r rs) rs (All-tail (Before spans) r rs before)))

pub reached-before : (spans : List Span) (all : Runs) (rs : Runs) → All (IsReached spans all) rs → All (Before spans) rs
reached-before spans all [] f = All-nil (Before spans)
reached-before spans all (r ∷ rs) f = All-cons (Before spans) r rs (All-head (IsReached spans all) r rs f).before
    (reached-before spans all rs (All-tail (IsReached spans all) r rs f))
