-- The entries of a table that is written share no address.
use Rattle.std.proofs.Common.{ℕ, zero, suc, ◌+◌, ◌-◌, ◌*◌, ◌^◌, ◌≤◌, ◌<◌, ◌≡◌, ◌==◌, ◌&&◌, List, [], ◌∷◌, leb, ltb, cond, Option, Some, None, Bool, true, false}
use Rattle.std.proofs.Common.{refl, sym, ◌∙◌, ap, subst, arith, length, take, drop, ⊎_elim}
use Rattle.std.specs.Bool.{beq}
use Rattle.std.specs.Prelude.{All, Contains, IsSome}
use Rattle.std.proofs.lemmas.Bool.{cases_lt}
use Rattle.std.proofs.lemmas.Bool.Decides.{nat_tests}
use Rattle.std.proofs.lemmas.List.Elements.{All-nil, All-cons, All-contains, All-head, All-tail, All-take, All-drop}
use Rattle.std.proofs.lemmas.List.Kept.{AllPairs-cons}
use Rattle.std.proofs.lemmas.Option.{same_Some}
use Rattle.rb_bytes.proofs.ListLemmas.{all_of}
use Rattle.rb_bytes.proofs.Tests.{clash}
use Rattle.addr_map.specs.declared.span.Span.{Span}
use Rattle.addr_map.specs.Spans.{new}
use Rattle.answer_runs.specs.declared.run.Run.{Run}
use Rattle.answer_runs.specs.AnswerRuns.{IsWithin, run_at, carried}
use Rattle.cfi_rows.specs.Entries.{Fde, Frames, frames, is_in_range}
use Rattle.frame_rewrite.specs.declared.cie_key.CieKey.{CieKey}
use Rattle.frame_rewrite.specs.declared.form.Form.{Form}
use Rattle.frame_rewrite.proofs.FdeBack.{IsAt}
use Rattle.frame_rewrite.specs.FrameAnswers.{FrameAnswer, answer_at}
use Rattle.frame_rewrite.specs.Index.{AreApart, AreFilled, ShareNoAddress}
use Rattle.frame_rewrite.specs.SpelledFits.{KeyFits, IsReached, IsSpelled}
use Rattle.frame_rewrite.specs.SpelledFrames.{is_debug, is_alike, count_on, more_count, start_of, last_end, fde_body, cie_size}
use Rattle.frame_rewrite.specs.Tables.{MovesWhole}
use Rattle.frame_rewrite.proofs.AnswersBack.{Continues, group-continues, ranged, reached-before}
use Rattle.frame_rewrite.proofs.Law.{reads-as}
use Rattle.frame_rewrite.proofs.Reached.{AreWhole, answered, answered-first}
use Rattle.frame_rewrite.proofs.RunGroups.{within-take, within-drop, le-last, at-before, at-behind}
use Rattle.frame_rewrite.proofs.TableBack.{Before, made}

abbrev Runs : Type 0
Runs = List (Run FrameAnswer)

-- A run with bytes between the start of another run's entry and that run is of the same entry.
abbrev pub Alike : List Span → Runs → Run FrameAnswer → Type 0
Alike spans all r = (q : Run FrameAnswer) (p : ℕ) → Contains all q → q.start ≤ p → p < q.start + q.len
    → start_of spans r ≤ p → p < r.start → Continues q r

-- An entry that is marked shares no instruction with another.
abbrev pub IsOnly : (Fde → Bool) → List Fde → List Span → Type 0
IsOnly marks list spans = (s : Span) (f g : Fde) → Contains spans s → Contains list f → Contains list g → marks f ≡ true
    → is_in_range f s.input ≡ true → is_in_range g s.input ≡ true → f ≡ g

module _ (marks : Fde → Bool) (list : List Fde) (spans : List Span) (runs : Runs) (hi : ℕ) (within : IsWithin 0 runs hi)
    (answers : (p : ℕ) → run_at runs p ≡ carried (answer_at marks list) spans p) (whole : AreWhole marks list spans)
    (only : IsOnly marks list spans) where
  -- both have the answers of one entry
  of-marked : (r : Run FrameAnswer) → Contains runs r → r.answer.marked ≡ true → Alike spans runs r
  of-marked r r_in m q p q_in a b low high =
      let is : start_of spans r ≡ new spans r.answer.start = rw m refl in
      let x = answered-first marks list spans runs hi within answers r r_in in
      let y = answered marks list spans runs hi within answers q q_in p a b in
      let z = (All-contains (λ f. marks f ≡ true → MovesWhole spans f) list x.fde whole x.in_list (sym x.marked ∙ m)).no_gap
      x.span p x.in_map x.in_range (subst (λ (n : ℕ). n ≤ p) (is ∙ ap (new spans) x.start) low)
      (held x.span.out x.span.len r.start high x.has) in
      let owners : z.0 ≡ y.span.input = same_Some z.0 y.span.input (sym z.1 ∙ y.owned) in
      let one : y.fde ≡ x.fde = sym (only y.span x.fde y.fde y.in_map x.in_list y.in_list (sym x.marked ∙ m)
      (subst (λ (n : ℕ). is_in_range x.fde n ≡ true) owners z.2) y.in_range) in
      record {
        marked = y.marked ∙ ap marks one ∙ sym x.marked;
        start = y.start ∙ ap (λ (f : Fde). f.start) one ∙ sym x.start;
        table = y.table ∙ ap (λ (f : Fde). f.table) one ∙ sym x.table;
        ra = y.ra ∙ ap (λ (f : Fde). f.cie.ra) one ∙ sym x.ra;
        handler = y.handler ∙ ap (λ (f : Fde). f.cie.augmentation.handler) one ∙ sym x.handler;
        indirect = y.indirect ∙ ap (λ (f : Fde). f.cie.augmentation.indirect) one ∙ sym x.indirect;
        signal = y.signal ∙ ap (λ (f : Fde). f.cie.augmentation.signal) one ∙ sym x.signal;
      } where
        held : (o n s : ℕ) → p < s → (leb o s && ltb s (o + n)) ≡ true → p < o + n
        held o n s h t = let e = (ranged o s (o + n) t).1 in omega arith

  of-plain : (r : Run FrameAnswer) → r.answer.marked ≡ false → Alike spans runs r
  of-plain r m q p q_in a b low high =
      let is : start_of spans r ≡ r.start = rw m refl in absurd (none (subst (λ (n : ℕ). n ≤ p) is low)) where
        none : r.start ≤ p → ⊥
        none h = omega arith

  pub all-alike : All (Alike spans runs) runs
  all-alike = all_of (Alike spans runs) runs (λ r c. one r c r.answer.marked refl) where
    one : (r : Run FrameAnswer) → Contains runs r → (b : Bool) → r.answer.marked ≡ b → Alike spans runs r
    one r c true m = of-marked r c m
    one r c false m = of-plain r m

-- Groups

every : (a b c d e f g : Bool) → a ≡ true → b ≡ true → c ≡ true → d ≡ true → e ≡ true → f ≡ true → g ≡ true
    → (a && b && c && d && e && f && g) ≡ true
every a b c d e f g ta tb tc td te tf tg = rw (ta, tb, tc, td, te, tf, tg) refl

pub numbers : (a b : ℕ) → a ≡ b → (a == b) ≡ true
numbers a b e = grind (arith, nat_tests)

bools : (a b : Bool) → a ≡ b → beq a b ≡ true
bools true true e = refl
bools true false e = absurd (cc)
bools false true e = absurd (cc)
bools false false e = refl

pub so-continues : (h r : Run FrameAnswer) → Continues h r → is_alike h r ≡ true
so-continues h r c =
    every (beq h.answer.marked r.answer.marked) (h.answer.start == r.answer.start) (h.answer.table == r.answer.table)
    (h.answer.ra == r.answer.ra) (h.answer.handler == r.answer.handler) (beq h.answer.indirect r.answer.indirect)
    (beq h.answer.signal r.answer.signal) (bools h.answer.marked r.answer.marked c.marked)
    (numbers h.answer.start r.answer.start c.start) (numbers h.answer.table r.answer.table c.table)
    (numbers h.answer.ra r.answer.ra c.ra) (numbers h.answer.handler r.answer.handler c.handler)
    (bools h.answer.indirect r.answer.indirect c.indirect) (bools h.answer.signal r.answer.signal c.signal)

pub joined : (h q r : Run FrameAnswer) → Continues h q → Continues q r → Continues h r
joined h q r c d =
    record {
      marked = c.marked ∙ d.marked;
      start = c.start ∙ d.start;
      table = c.table ∙ d.table;
      ra = c.ra ∙ d.ra;
      handler = c.handler ∙ d.handler;
      indirect = c.indirect ∙ d.indirect;
      signal = c.signal ∙ d.signal;
    }

pub both : (a b : Bool) → a ≡ true → b ≡ true → (a && b) ≡ true
both a b e f = rw (e, f) refl

same-head : (q r : Run FrameAnswer) (qs rs : Runs) → q ∷ qs ≡ r ∷ rs → q ≡ r
same-head q r qs rs e = cc

-- a group ends before a run that doesn't touch it or doesn't go on in it
pub stops : (end : ℕ) (h : Run FrameAnswer) (rs : Runs) (r : Run FrameAnswer) (ds : Runs) → drop (count_on end h rs) rs ≡ r ∷ ds
    → ((r.start == last_end end (take (count_on end h rs) rs)) && is_alike h r) ≡ false
stops end h [] r ds e = absurd (cc)
stops end h (q ∷ qs) r ds e = one ((q.start == end) && is_alike h q) refl (stops (q.start + q.len) h qs r ds) e where
  one : (b : Bool) → ((q.start == end) && is_alike h q) ≡ b
      → (drop (count_on (q.start + q.len) h qs) qs ≡ r ∷ ds
      → ((r.start == last_end (q.start + q.len) (take (count_on (q.start + q.len) h qs) qs)) && is_alike h r) ≡ false)
      → drop (cond b (suc (count_on (q.start + q.len) h qs)) 0) (q ∷ qs) ≡ r ∷ ds
      → ((r.start == last_end end (take (cond b (suc (count_on (q.start + q.len) h qs)) 0) (q ∷ qs))) && is_alike h r) ≡ false
  one true t more e = more e
  one false t more e = subst (λ (x : Run FrameAnswer). ((x.start == end) && is_alike h x) ≡ false) (same-head q r qs ds e) t

-- the last run of a group, which ends at an address
record Last (h : Run FrameAnswer) (all : Runs) (end : ℕ) : Type 0 where
  pub run : Run FrameAnswer
  pub in_all : Contains all run
  pub some : run.start < end
  pub ends : run.start + run.len ≡ end
  pub goes : (r : Run FrameAnswer) → Continues run r → Continues h r

pub some-bytes : (s n : ℕ) → 0 < n → s < s + n
some-bytes s n h = omega arith

last-of : (h : Run FrameAnswer) (all : Runs) (end hi : ℕ) (more : Runs) → Last h all end → All (Continues h) more
    → All (Contains all) more → IsWithin end more hi → Last h all (last_end end more)
last-of h all end hi [] x c m w = x
last-of h all end hi (q ∷ qs) x c m w =
    last-of h all (q.start + q.len) hi qs (record {
      run = q;
      in_all = All-head (Contains all) q qs m;
      some = some-bytes q.start q.len w.1;
      ends = refl;
      goes = λ r k. joined h q r (All-head (Continues h) q qs c) k;
    })
    (All-tail (Continues h) q qs c) (All-tail (Contains all) q qs m) w.2

-- the entry of the first of some runs begins at an address or after it
abbrev FirstFrom : List Span → ℕ → Runs → Type 0
FirstFrom spans end [] = Unit {0}
FirstFrom spans end (r ∷ rs) = end ≤ start_of spans r

-- from an address on, the bytes of all runs are the bytes of some of them
abbrev pub Behind : Runs → ℕ → Runs → Type 0
Behind all lo rs = (p : ℕ) → lo ≤ p → run_at all p ≡ run_at rs p

none-some : (o : Option FrameAnswer) → o ≡ None → IsSome o → ⊥
none-some None e s = cc
none-some (Some x) e s = cc

-- the entry of the next group begins behind that of a group: else the byte behind the group would be of a run, which
-- can only be the next one, and that would have gone on in it
next : (spans : List Span) (all : Runs) (lo hi : ℕ) (h : Run FrameAnswer) (rs : Runs) → IsWithin lo (h ∷ rs) hi
    → Behind all lo (h ∷ rs) → All (IsReached spans all) rs
    → All (Alike spans all) rs → All (Contains all) (h ∷ rs) → (ds : Runs) → drop (more_count h rs) rs ≡ ds
    → FirstFrom spans (last_end (h.start + h.len) (take (more_count h rs) rs)) ds
next spans all lo hi h rs w same reach alike m [] e = tt
next spans all lo hi h rs w same reach alike m (r ∷ ds) e =
    let behind : IsWithin (last_end (h.start + h.len) (take (more_count h rs) rs)) (r ∷ ds) hi =
    subst (λ (l : Runs). IsWithin (last_end (h.start + h.len) (take (more_count h rs) rs)) l hi) e
    (within-drop (more_count h rs) (h.start + h.len) rs hi w.2) in
    let alike_r : Alike spans all r = All-head (Alike spans all) r ds
    (subst (All (Alike spans all)) e (All-drop (Alike spans all) (more_count h rs) rs alike)) in
    let reach_r : IsReached spans all r = All-head (IsReached spans all) r ds
    (subst (All (IsReached spans all)) e (All-drop (IsReached spans all) (more_count h rs) rs reach)) in
    let last : Last h all (last_end (h.start + h.len) (take (more_count h rs) rs)) =
    last-of h all (h.start + h.len) hi (take (more_count h rs) rs) (record {
      run = h;
      in_all = All-head (Contains all) h rs m;
      some = some-bytes h.start h.len w.1;
      ends = refl;
      goes = λ x k. k;
    })
    (group-continues h rs) (All-take (Contains all) (more_count h rs) rs (All-tail (Contains all) h rs m))
    (within-take (more_count h rs) (h.start + h.len) rs hi w.2) in
    let long : h.start + h.len ≤ last_end (h.start + h.len) (take (more_count h rs) rs) =
    le-last (h.start + h.len) (take (more_count h rs) rs) hi (within-take (more_count h rs) (h.start + h.len) rs hi w.2) in
    let empty : (p : ℕ) → last_end (h.start + h.len) (take (more_count h rs) rs) ≤ p → p < r.start → run_at all p ≡ None =
    λ p le less. same p (low lo h.start h.len _ p w.0 long le)
    ∙ at-behind (suc (more_count h rs)) lo (h ∷ rs) hi p w le
    ∙ ap (λ (l : Runs). run_at l p) e
    ∙ at-before r.start (r ∷ ds) hi p (itself r.start, behind.1, behind.2) less in
    not-before (last_end (h.start + h.len) (take (more_count h rs) rs)) (start_of spans r) last.run.start last.run.len r.start
    r.len behind.0 last.some last.ends
    (λ p a b c d. none-some (run_at all p) (empty p a b) (reach_r.filled p c d))
    (λ touch p a b c d. clash ((r.start == last_end (h.start + h.len) (take (more_count h rs) rs)) && is_alike h r)
    (both (r.start == last_end (h.start + h.len) (take (more_count h rs) rs)) (is_alike h r)
    (numbers r.start (last_end (h.start + h.len) (take (more_count h rs) rs)) touch)
    (so-continues h r (last.goes r (alike_r last.run p last.in_all a b c d))))
    (stops (h.start + h.len) h rs r ds e)) where
      itself : (n : ℕ) → n ≤ n
      itself n = omega arith

      low : (lo a n e p : ℕ) → lo ≤ a → a + n ≤ e → e ≤ p → lo ≤ p
      low lo a n e p x y z = omega arith

      -- a start before the end of the group: the byte at the end would be filled, or the run touches
      not-before : (end s a n q m : ℕ) → end ≤ q → a < end → a + n ≡ end
          → ((p : ℕ) → end ≤ p → p < q → s ≤ p → p < q + m → ⊥)
          → (q ≡ end → (p : ℕ) → a ≤ p → p < a + n → s ≤ p → p < q → ⊥) → end ≤ s
      not-before end s a n q m le less is gap never = ⊎_elim
          (λ (x : s < end). ⊎_elim
          (λ (y : end < q). absurd (gap end (omega arith) y (omega arith) (omega arith)))
          (λ (y : q ≤ end). absurd (never (omega arith) (end - 1) (omega arith) (omega arith) (omega arith) (omega arith)))
          (cases_lt end q))
          (λ (x : end ≤ s). x)
          (cases_lt s end)

-- each entry begins at or after the end of the one before it, and isn't empty
abbrev Follows : ℕ → List Fde → Type 0
Follows end [] = Unit {0}
Follows end (f ∷ fs) = (end ≤ f.start) × (f.start < f.end) × Follows f.end fs

-- the entry of a group isn't empty
is-filled : (spans : List Span) (lo hi : ℕ) (h : Run FrameAnswer) (rs : Runs) → IsWithin lo (h ∷ rs) hi → Before spans h
    → start_of spans h < last_end (h.start + h.len) (take (more_count h rs) rs)
is-filled spans lo hi h rs w before = filled (start_of spans h) h.start h.len _ before w.1
    (le-last (h.start + h.len) (take (more_count h rs) rs) hi (within-take (more_count h rs) (h.start + h.len) rs hi w.2)) where
      filled : (s a n e : ℕ) → s ≤ a → 0 < n → a + n ≤ e → s < e
      filled s a n e h k l = omega arith

made-filled : (form : Form) (spans : List Span) (n place lo hi : ℕ) (rs : Runs) → IsWithin lo rs hi → All (Before spans) rs
    → AreFilled (made form spans n place rs)
unfolding made
made-filled form spans n place lo hi [] w before = All-nil (λ (f : Fde). f.start < f.end)
made-filled form spans zero place lo hi (h ∷ rs) w before = All-nil (λ (f : Fde). f.start < f.end)
made-filled form spans (suc n) place lo hi (h ∷ rs) w before =
    All-cons (λ (f : Fde). f.start < f.end) _ _ (is-filled spans lo hi h rs w (All-head (Before spans) h rs before))
    (made-filled form spans n (place + 8 + length (fde_body form place spans h (take (more_count h rs) rs)))
    (last_end (h.start + h.len) (take (more_count h rs) rs)) hi (drop (more_count h rs) rs)
    (within-drop (more_count h rs) (h.start + h.len) rs hi w.2)
    (All-drop (Before spans) (more_count h rs) rs (All-tail (Before spans) h rs before)))

made-follow : (form : Form) (spans : List Span) (all : Runs) (n place lo hi end : ℕ) (rs : Runs) → IsWithin lo rs hi
    → Behind all lo rs → All (IsReached spans all) rs → All (Alike spans all) rs → All (Contains all) rs
    → FirstFrom spans end rs → Follows end (made form spans n place rs)
unfolding made
made-follow form spans all n place lo hi end [] w same reach alike m first = tt
made-follow form spans all zero place lo hi end (h ∷ rs) w same reach alike m first = tt
made-follow form spans all (suc n) place lo hi end (h ∷ rs) w same reach alike m first =
    let long : h.start + h.len ≤ last_end (h.start + h.len) (take (more_count h rs) rs) =
    le-last (h.start + h.len) (take (more_count h rs) rs) hi (within-take (more_count h rs) (h.start + h.len) rs hi w.2) in (
      first,
      is-filled spans lo hi h rs w (All-head (IsReached spans all) h rs reach).before,
      made-follow form spans all n (place + 8 + length (fde_body form place spans h (take (more_count h rs) rs)))
          (last_end (h.start + h.len) (take (more_count h rs) rs)) hi
          (last_end (h.start + h.len) (take (more_count h rs) rs)) (drop (more_count h rs) rs)
          (within-drop (more_count h rs) (h.start + h.len) rs hi w.2)
          (λ p le. same p (low lo h.start h.len _ p w.0 long le) ∙ at-behind (suc (more_count h rs)) lo (h ∷ rs) hi p w le)
          (All-drop (IsReached spans all) (more_count h rs) rs (All-tail (IsReached spans all) h rs reach))
          (All-drop (Alike spans all) (more_count h rs) rs (All-tail (Alike spans all) h rs alike))
          (All-drop (Contains all) (more_count h rs) rs (All-tail (Contains all) h rs m))
          (next spans all lo hi h rs w same (All-tail (IsReached spans all) h rs reach) (All-tail (Alike spans all) h rs alike) m
          (drop (more_count h rs) rs) refl),
    ) where
      low : (lo a n e p : ℕ) → lo ≤ a → a + n ≤ e → e ≤ p → lo ≤ p
      low lo a n e p x y z = omega arith

-- such entries share no address

share-none : (f g : Fde) → f.end ≤ g.start → ShareNoAddress f g
share-none f g le a x y = none (ranged f.start a f.end x).1 (ranged g.start a g.end y).0 where
  none : a < f.end → g.start ≤ a → ⊥
  none h k = omega arith

none-behind : (f : Fde) (end : ℕ) (list : List Fde) → f.end ≤ end → Follows end list → All (ShareNoAddress f) list
none-behind f end [] le x = All-nil (ShareNoAddress f)
none-behind f end (g ∷ gs) le x =
    All-cons (ShareNoAddress f) g gs (share-none f g (later f.end end g.start le x.0))
    (none-behind f g.end gs (further f.end end g.start g.end le x.0 x.1) x.2) where
      later : (a b c : ℕ) → a ≤ b → b ≤ c → a ≤ c
      later a b c h k = omega arith

      further : (a b c d : ℕ) → a ≤ b → b ≤ c → c < d → a ≤ d
      further a b c d h k l = omega arith

apart-of : (end : ℕ) (list : List Fde) → Follows end list → AreApart list
apart-of end [] x = λ i j d less inside. absurd (omega arith)
apart-of end (f ∷ fs) x = AllPairs-cons ShareNoAddress f fs (none-behind f f.end fs (same f.end) x.2) (apart-of f.end fs x.2) where
  same : (n : ℕ) → n ≤ n
  same n = omega arith

-- the entries that are read in a written table
pub written-filled : (form : Form) (spans : List Span) (keys : List CieKey) (runs : Runs) (bytes : List ℕ) (address : ℕ)
    → All KeyFits keys → IsAt form address → IsWithin 0 runs (2 ^ 64 - 1) → All (IsReached spans runs) runs
    → IsSpelled form spans keys runs bytes → AreFilled (frames (is_debug form) address bytes).list
written-filled form spans keys runs bytes address f here w r s =
    let read = ap (λ (t : Frames). t.list) (reads-as form spans keys runs bytes address f here w r s) in
    subst AreFilled (sym read)
    (made-filled form spans (length runs) (cie_size * length keys) 0 (2 ^ 64 - 1) runs w (reached-before spans runs runs r))

pub written-apart : (form : Form) (spans : List Span) (keys : List CieKey) (runs : Runs) (bytes : List ℕ) (address : ℕ)
    → All KeyFits keys → IsAt form address → IsWithin 0 runs (2 ^ 64 - 1) → All (IsReached spans runs) runs → All (Alike spans runs) runs
    → IsSpelled form spans keys runs bytes → AreApart (frames (is_debug form) address bytes).list
written-apart form spans keys runs bytes address f here w r alike s =
    let read = ap (λ (t : Frames). t.list) (reads-as form spans keys runs bytes address f here w r s) in
    subst AreApart (sym read) (apart-of 0 (made form spans (length runs) (cie_size * length keys) runs)
    (made-follow form spans runs (length runs) (cie_size * length keys) 0 (2 ^ 64 - 1) 0 runs w (λ p l. refl) r
    alike (all_of (Contains runs) runs (λ q c. c)) (from-none runs))) where
      from-none : (rs : Runs) → FirstFrom spans 0 rs
      from-none [] = tt
      from-none (q ∷ qs) = omega arith
