-- A group of runs, whose answers go on in one entry, and the runs before and after it, whose answers don't.
use Rattle.std.proofs.Common.{ℕ, zero, suc, ◌+◌, ◌≤◌, ◌<◌, ◌≡◌, ◌==◌, ◌&&◌, List, [], ◌∷◌, Some, None, cond, leb, ltb, Bool, true, false}
use Rattle.std.proofs.Common.{refl, sym, ◌∙◌, ap, subst, arith, length, take, drop, ⊎_elim}
use Rattle.std.specs.Prelude.{All, Contains}
use Rattle.std.specs.Option.{option_or}
use Rattle.std.proofs.lemmas.Bool.{cases_lt}
use Rattle.std.proofs.lemmas.Bool.Decides.{nat_tests}
use Rattle.std.proofs.lemmas.List.Elements.{All-nil, All-cons, All-head, All-tail, All-drop}
use Rattle.std.proofs.lemmas.Option.{same_Some}
use Rattle.rb_bytes.proofs.Options.{not_found}
use Rattle.rb_bytes.proofs.Tests.{clash}
use Rattle.addr_map.specs.declared.span.Span.{Span}
use Rattle.answer_runs.specs.declared.run.Run.{Run}
use Rattle.answer_runs.specs.AnswerRuns.{IsWithin, run_at}
use Rattle.cfi_rows.specs.Entries.{Fde}
use Rattle.frame_rewrite.specs.declared.form.Form.{Form}
use Rattle.frame_rewrite.specs.FrameAnswers.{FrameAnswer}
use Rattle.frame_rewrite.specs.SpelledFrames.{is_alike, more_count, start_of, last_end, fde_body}
use Rattle.frame_rewrite.proofs.AnswersBack.{Continues, Touch, group-so, from-first}
use Rattle.frame_rewrite.proofs.ApartEntries.{Behind, both, joined, numbers, so-continues, stops}
use Rattle.frame_rewrite.proofs.Reached.{run-has}
use Rattle.frame_rewrite.proofs.RunGroups.{within-take, within-drop, le-last, at-before, at-behind, at-among}
use Rattle.frame_rewrite.proofs.TableBack.{made}

abbrev Runs : Type 0
Runs = List (Run FrameAnswer)

-- the facts about a group, which ends at an address
pub record IsGroup (all : Runs) (h : Run FrameAnswer) (end : ℕ) : Type 0 where
  pub some : h.start < end
  pub bytes : (p : ℕ) → h.start ≤ p → p < end → (q : Run FrameAnswer) × (run_at all p ≡ Some q.answer) × Continues h q
  pub before : (q : Run FrameAnswer) (p : ℕ) → p + 1 ≡ h.start → run_at all p ≡ Some q.answer → Continues q h → ⊥
  pub behind : (q : Run FrameAnswer) → run_at all end ≡ Some q.answer → Continues h q → ⊥

goes-itself : (h : Run FrameAnswer) → Continues h h
goes-itself h = record {
  marked = refl;
  start = refl;
  table = refl;
  ra = refl;
  handler = refl;
  indirect = refl;
  signal = refl;
}

-- it goes by answers

from-same : (q s r : Run FrameAnswer) → q.answer ≡ s.answer → Continues q r → Continues s r
from-same q s r e c = record {
  marked = sym (ap (λ (a : FrameAnswer). a.marked) e) ∙ c.marked;
  start = sym (ap (λ (a : FrameAnswer). a.start) e) ∙ c.start;
  table = sym (ap (λ (a : FrameAnswer). a.table) e) ∙ c.table;
  ra = sym (ap (λ (a : FrameAnswer). a.ra) e) ∙ c.ra;
  handler = sym (ap (λ (a : FrameAnswer). a.handler) e) ∙ c.handler;
  indirect = sym (ap (λ (a : FrameAnswer). a.indirect) e) ∙ c.indirect;
  signal = sym (ap (λ (a : FrameAnswer). a.signal) e) ∙ c.signal;
}

to-same : (h q r : Run FrameAnswer) → q.answer ≡ r.answer → Continues h q → Continues h r
to-same h q r e c = record {
  marked = c.marked ∙ ap (λ (a : FrameAnswer). a.marked) e;
  start = c.start ∙ ap (λ (a : FrameAnswer). a.start) e;
  table = c.table ∙ ap (λ (a : FrameAnswer). a.table) e;
  ra = c.ra ∙ ap (λ (a : FrameAnswer). a.ra) e;
  handler = c.handler ∙ ap (λ (a : FrameAnswer). a.handler) e;
  indirect = c.indirect ∙ ap (λ (a : FrameAnswer). a.indirect) e;
  signal = c.signal ∙ ap (λ (a : FrameAnswer). a.signal) e;
}

-- a byte of the first of some runs, and one that comes later

run-inside : (q : Run FrameAnswer) (more : Runs) (p : ℕ) → q.start ≤ p → p < q.start + q.len → run_at (q ∷ more) p ≡ Some q.answer
run-inside q more p a x =
    ap (λ (b : Bool). option_or (cond b (Some q.answer) None) (run_at more p)) (inside q.start q.len a x) where
      inside : (s n : ℕ) → s ≤ p → p < s + n → (leb s p && ltb p (s + n)) ≡ true
      inside s n x y = grind (arith, nat_tests)

run-past : (q : Run FrameAnswer) (more : Runs) (p : ℕ) → q.start + q.len ≤ p → run_at (q ∷ more) p ≡ run_at more p
run-past q more p x =
    ap (λ (b : Bool). option_or (cond b (Some q.answer) None) (run_at more p)) (past q.start q.len x) where
      past : (s n : ℕ) → s + n ≤ p → (leb s p && ltb p (s + n)) ≡ false
      past s n x = grind (arith, nat_tests)

-- each byte of runs that touch is of one of them
touched : (h q : Run FrameAnswer) (more : Runs) (p : ℕ) → Continues h q → All (Continues h) more
    → Touch (q.start + q.len) more → q.start ≤ p → p < last_end (q.start + q.len) more
    → (r : Run FrameAnswer) × (run_at (q ∷ more) p ≡ Some r.answer) × Continues h r
touched h q [] p c f t a b = (q, run-inside q [] p a b, c)
touched h q (r ∷ rs) p c f t a b = ⊎_elim (λ (x : p < q.start + q.len). (q, run-inside q (r ∷ rs) p a x, c))
    (λ (x : q.start + q.len ≤ p). let z = touched h r rs p (All-head (Continues h) r rs f) (All-tail (Continues h) r rs f) t.1
    (subst (λ (n : ℕ). n ≤ p) (sym t.0) x) b in
    (z.0, run-past q (r ∷ rs) p x ∙ z.1, z.2))
    (cases_lt p (q.start + q.len))

-- an answer before the first of some runs doesn't go on in its entry
abbrev Cut : Runs → Runs → Type 0
Cut all [] = Unit {0}
Cut all (r ∷ rs) = (q : Run FrameAnswer) (p : ℕ) → p + 1 ≡ r.start → run_at all p ≡ Some q.answer → Continues q r → ⊥

module _ (all : Runs) (lo hi : ℕ) (h : Run FrameAnswer) (rs : Runs) (w : IsWithin lo (h ∷ rs) hi) (same : Behind all lo (h ∷ rs)) where
  abbrev end : ℕ
  end = last_end (h.start + h.len) (take (more_count h rs) rs)

  long : h.start + h.len ≤ end
  long = le-last (h.start + h.len) (take (more_count h rs) rs) hi (within-take (more_count h rs) (h.start + h.len) rs hi w.2)

  filled : h.start < end
  filled = more h.start h.len end w.1 long where
    more : (s n e : ℕ) → 0 < n → s + n ≤ e → s < e
    more s n e x y = omega arith

  behind-at : (p : ℕ) → end ≤ p → run_at all p ≡ run_at (drop (more_count h rs) rs) p
  behind-at p le =
      same p (low lo h.start h.len end w.0 long le) ∙ at-behind (suc (more_count h rs)) lo (h ∷ rs) hi p w le where
        low : (l s n e : ℕ) → l ≤ s → s + n ≤ e → e ≤ p → l ≤ p
        low l s n e x y z = omega arith

  group-bytes : (p : ℕ) → h.start ≤ p → p < end → (q : Run FrameAnswer) × (run_at all p ≡ Some q.answer) × Continues h q
  group-bytes p a b =
      let so = group-so (h.start + h.len) h rs in
      let z = touched h h (take (more_count h rs) rs) p (goes-itself h) so.0 so.1 a b in
      (z.0, same p (least lo h.start w.0 a) ∙ at-among (suc (more_count h rs)) lo (h ∷ rs) hi p w b ∙ z.1, z.2) where
        least : (l s : ℕ) → l ≤ s → s ≤ p → l ≤ p
        least l s x y = omega arith

  -- the next run either touches the group or goes on in its entry, but not both
  never : (r : Run FrameAnswer) (ds : Runs) → drop (more_count h rs) rs ≡ r ∷ ds → r.start ≡ end → Continues h r → ⊥
  never r ds e touch c =
      clash ((r.start == end) && is_alike h r)
      (both (r.start == end) (is_alike h r) (numbers r.start end touch) (so-continues h r c))
      (stops (h.start + h.len) h rs r ds e)

  rest-within : IsWithin end (drop (more_count h rs) rs) hi
  rest-within = within-drop (more_count h rs) (h.start + h.len) rs hi w.2

  group-behind : (ds : Runs) → drop (more_count h rs) rs ≡ ds → (q : Run FrameAnswer) → run_at all end ≡ Some q.answer
      → Continues h q → ⊥
  group-behind [] e q at c =
      not_found {A = FrameAnswer} None q.answer refl (sym (behind-at end (itself end) ∙ ap (λ (l : Runs). run_at l end) e) ∙ at) where
        itself : (n : ℕ) → n ≤ n
        itself n = omega arith
  group-behind (r ∷ ds) e q at c =
      let x : IsWithin end (r ∷ ds) hi = subst (λ (l : Runs). IsWithin end l hi) e rest-within in
      let here : run_at (r ∷ ds) end ≡ Some q.answer =
      sym (behind-at end (itself end) ∙ ap (λ (l : Runs). run_at l end) e) ∙ at in
      let touch : r.start ≡ end = equal r.start end (from-first end hi end r ds q.answer x here) x.0 in
      let is : run_at (r ∷ ds) end ≡ Some r.answer = (run-has end (r ∷ ds) hi r end x (0, first (length ds), refl)
      (subst (λ (n : ℕ). r.start ≤ n) touch (itself r.start)) (more r.start r.len end touch x.1)).1 in
      never r ds e touch (to-same h q r (same_Some q.answer r.answer (sym here ∙ is)) c) where
        itself : (n : ℕ) → n ≤ n
        itself n = omega arith

        equal : (a b : ℕ) → a ≤ b → b ≤ a → a ≡ b
        equal a b x y = omega arith

        first : (n : ℕ) → 0 < suc n
        first n = omega arith

        more : (s n e : ℕ) → s ≡ e → 0 < n → e < s + n
        more s n e x y = omega arith

  next-cut : (ds : Runs) → drop (more_count h rs) rs ≡ ds → Cut all ds
  next-cut [] e = tt
  next-cut (r ∷ ds) e = λ q p is at c. ⊎_elim
      (λ (x : end < r.start). not_found {A = FrameAnswer} None q.answer refl
      (sym (behind-at p (behind-end r.start p end is x) ∙ ap (λ (l : Runs). run_at l p) e
      ∙ at-before r.start (r ∷ ds) hi p (itself r.start, within.1, within.2) (less r.start p is)) ∙ at))
      (λ (x : r.start ≤ end). let touch : r.start ≡ end = equal r.start end x within.0 in
      let b = group-bytes p (first h.start end r.start p filled touch is) (last end r.start p touch is) in
      never r ds e touch (joined h b.0 r b.2 (from-same q b.0 r (same_Some q.answer b.0.answer (sym at ∙ b.1)) c)))
      (cases_lt end r.start) where
        within : IsWithin end (r ∷ ds) hi
        within = subst (λ (l : Runs). IsWithin end l hi) e rest-within

        itself : (n : ℕ) → n ≤ n
        itself n = omega arith

        equal : (a b : ℕ) → a ≤ b → b ≤ a → a ≡ b
        equal a b x y = omega arith

        behind-end : (s p e : ℕ) → p + 1 ≡ s → e < s → e ≤ p
        behind-end s p e x y = omega arith

        less : (s p : ℕ) → p + 1 ≡ s → p < s
        less s p x = omega arith

        first : (a e s p : ℕ) → a < e → s ≡ e → p + 1 ≡ s → a ≤ p
        first a e s p x y z = omega arith

        last : (e s p : ℕ) → s ≡ e → p + 1 ≡ s → p < e
        last e s p x y = omega arith

  group-is : Cut all (h ∷ rs) → IsGroup all h end
  group-is cut = record {
    some = filled;
    bytes = group-bytes;
    before = cut;
    behind = group-behind (drop (more_count h rs) rs) refl;
  }

-- the entries that are made of groups
pub groups-made : (E : ℕ → ℕ → Type 0) (spans : List Span) (all : Runs)
    → ((h : Run FrameAnswer) (end : ℕ) → Contains all h → IsGroup all h end → E (start_of spans h) end)
    → (form : Form) (n place lo hi : ℕ) (rs : Runs) → IsWithin lo rs hi → Behind all lo rs → All (Contains all) rs → Cut all rs
    → All (λ (f : Fde). E f.start f.end) (made form spans n place rs)
unfolding made
groups-made E spans all make form n place lo hi [] w same m cut = All-nil (λ (f : Fde). E f.start f.end)
groups-made E spans all make form zero place lo hi (h ∷ rs) w same m cut = All-nil (λ (f : Fde). E f.start f.end)
groups-made E spans all make form (suc n) place lo hi (h ∷ rs) w same m cut =
    All-cons (λ (f : Fde). E f.start f.end) _ _
    (make h (last_end (h.start + h.len) (take (more_count h rs) rs)) (All-head (Contains all) h rs m)
    (group-is all lo hi h rs w same cut))
    (groups-made E spans all make form n (place + 8 + length (fde_body form place spans h (take (more_count h rs) rs)))
    (last_end (h.start + h.len) (take (more_count h rs) rs)) hi (drop (more_count h rs) rs)
    (rest-within all lo hi h rs w same)
    (behind-at all lo hi h rs w same)
    (All-drop (Contains all) (more_count h rs) rs (All-tail (Contains all) h rs m))
    (next-cut all lo hi h rs w same (drop (more_count h rs) rs) refl))

-- before the first run there is no answer
pub first-cut : (rs : Runs) (hi : ℕ) → IsWithin 0 rs hi → Cut rs rs
first-cut [] hi w = tt
first-cut (r ∷ rs) hi w = λ q p is at c. not_found {A = FrameAnswer} None q.answer refl
    (sym (at-before r.start (r ∷ rs) hi p (itself r.start, w.1, w.2) (less r.start p is)) ∙ at) where
      itself : (n : ℕ) → n ≤ n
      itself n = omega arith

      less : (s p : ℕ) → p + 1 ≡ s → p < s
      less s p x = omega arith
