-- Runs that are cut have the bytes and answers of the whole ones, and weigh little more.
use Rattle.std.proofs.Common.{◌≡◌, ◌∙◌, ◌≤◌, ◌<◌, ◌-◌, ◌+◌, ◌*◌, ◌&&◌, ◌||◌, ◌++◌, ℕ, Bool, true, false, cond, List, [], ◌∷◌, Option}
use Rattle.std.proofs.Common.{Some, None, refl, sym, ap, subst, arith, length, length-take, length-drop, drop, take, get_or, nat_le, nat_lt}
use Rattle.std.specs.Prelude.{sum_by}
use Rattle.std.specs.Option.{option_or}
use Rattle.std.proofs.lemmas.Bool.Decides.{nat_tests}
use Rattle.std.proofs.lemmas.List.{at_drop_more}
use Rattle.std.proofs.lemmas.List.Sums.{sum_by-cons}
use Rattle.addr_map.specs.declared.span.Span.{Span}
use Rattle.answer_runs.specs.declared.run.Run.{Run}
use Rattle.answer_runs.specs.AnswerRuns.{IsWithin, answer_in, run_at}
use Rattle.line_rewrite.specs.declared.unit.Unit as kept
use Rattle.line_rewrite.specs.LineAnswers.{LineSaid}
use Rattle.line_rewrite.specs.WrittenPrograms.{Begun}
use Rattle.line_rewrite.specs.WrittenRuns.{AllRowsFit, RowsFit, count_below, cut_run, cut_runs, cuts_for, most_rows, placed, run_over}
use Rattle.line_rewrite.specs.WrittenRuns.{with_placed, with_runs}
use Rattle.line_rewrite.proofs.TableReads.{weight_in}
use Rattle.line_rewrite.proofs.UnitSizes.{placed_count}

-- The bytes

cut_within : (lo hi : ℕ) (cs : List ℕ) (r : Run LineSaid) (rest : List (Run LineSaid)) → IsWithin lo (r ∷ rest) hi
    → IsWithin lo (cut_run cs r ++ rest) hi
unfolding cut_run
cut_within lo hi [] r rest w = w
cut_within lo hi (c ∷ cs) r rest w =
    by (λ low b. cut_within low hi cs (run_over c (r.start + r.len - c) r.answer) rest b) (cut_within lo hi cs r rest w)
    (nat_lt r.start c && nat_lt c (r.start + r.len)) refl
  where
    by : ((low : ℕ) → IsWithin low (run_over c (r.start + r.len - c) r.answer ∷ rest) hi
        → IsWithin low (cut_run cs (run_over c (r.start + r.len - c) r.answer) ++ rest) hi)
        → IsWithin lo (cut_run cs r ++ rest) hi
        → (b : Bool) → (nat_lt r.start c && nat_lt c (r.start + r.len)) ≡ b
        → IsWithin lo (cond b (run_over r.start (c - r.start) r.answer ∷ cut_run cs (run_over c (r.start + r.len - c) r.answer))
        (cut_run cs r) ++ rest) hi
    by behind whole true t =
        let above : r.start < c = grind (arith, nat_tests) in
        let below : c < r.start + r.len = grind (arith, nat_tests) in
        let some : 0 < c - r.start = omega arith in
        let end : r.start + (c - r.start) ≤ c = omega arith in
        let more : 0 < r.start + r.len - c = omega arith in
        let same : r.start + r.len ≡ c + (r.start + r.len - c) = omega arith in
        (w.0, some, behind (r.start + (c - r.start)) (end, more, subst (λ (n : ℕ). IsWithin n rest hi) same w.2))
    by behind whole false t = whole

pub all_within : (lo hi : ℕ) (cs : List ℕ) (rs : List (Run LineSaid)) → IsWithin lo rs hi → IsWithin lo (cut_runs cs rs) hi
unfolding cut_runs
all_within lo hi cs [] w = w
all_within lo hi cs (r ∷ rs) w =
    let n = count_below (r.start + r.len) cs in
    cut_within lo hi (cuts_for r (take n cs)) r (cut_runs (drop n cs) rs)
    (w.0, w.1, all_within (r.start + r.len) hi (drop n cs) rs w.2)

-- The answers

two : {A : Type 0} (a b : Bool) (x : A) (o : Option A) → option_or (cond a (Some x) None) (option_or (cond b (Some x) None) o)
    ≡ option_or (cond (a || b) (Some x) None) o
two true b x o = refl
two false b x o = refl

-- The addresses of both parts are those of the whole.
joined : (a c e p : ℕ) → a < c → c < e
    → ((nat_le a p && nat_lt p c) || (nat_le c p && nat_lt p e)) ≡ (nat_le a p && nat_lt p e)
joined a c e p low high = by (nat_le c p) refl
  where
    alone : (b : Bool) → (b || false) ≡ b
    alone true = refl
    alone false = refl

    by : (b : Bool) → nat_le c p ≡ b → ((nat_le a p && nat_lt p c) || (nat_le c p && nat_lt p e)) ≡ (nat_le a p && nat_lt p e)
    by true t =
        let behind : nat_lt p c ≡ false = grind (arith, nat_tests) in
        let from : nat_le a p ≡ true = grind (arith, nat_tests) in
        rw (t, behind, from) refl
    by false t =
        let before : nat_lt p c ≡ true = grind (arith, nat_tests) in
        let under : nat_lt p e ≡ true = grind (arith, nat_tests) in
        rw (t, before, under) (alone (nat_le a p && true))

-- A part that ends where the other one begins, and that one: together they answer as the whole.
parts : {A : Type 0} (a c e m n p : ℕ) (x : A) (o : Option A) → a < c → c < e → m ≡ c → n ≡ e
    → option_or (cond (nat_le a p && nat_lt p m) (Some x) None) (option_or (cond (nat_le c p && nat_lt p n) (Some x) None) o)
    ≡ option_or (cond (nat_le a p && nat_lt p e) (Some x) None) o
parts a c e m n p x o low high f g =
    ap (λ (k : ℕ). option_or (cond (nat_le a p && nat_lt p k) (Some x) None)
    (option_or (cond (nat_le c p && nat_lt p n) (Some x) None) o)) f
    ∙ ap (λ (k : ℕ). option_or (cond (nat_le a p && nat_lt p c) (Some x) None)
    (option_or (cond (nat_le c p && nat_lt p k) (Some x) None) o)) g
    ∙ two (nat_le a p && nat_lt p c) (nat_le c p && nat_lt p e) x o
    ∙ ap (λ (b : Bool). option_or (cond b (Some x) None) o) (joined a c e p low high)

cut_at : (p : ℕ) (cs : List ℕ) (r : Run LineSaid) (rest : List (Run LineSaid)) → run_at (cut_run cs r ++ rest) p ≡ run_at (r ∷ rest) p
unfolding cut_run
cut_at p [] r rest = refl
cut_at p (c ∷ cs) r rest =
    by (cut_at p cs (run_over c (r.start + r.len - c) r.answer) rest) (cut_at p cs r rest)
    (nat_lt r.start c && nat_lt c (r.start + r.len)) refl
  where
    by : run_at (cut_run cs (run_over c (r.start + r.len - c) r.answer) ++ rest) p
        ≡ run_at (run_over c (r.start + r.len - c) r.answer ∷ rest) p
        → run_at (cut_run cs r ++ rest) p ≡ run_at (r ∷ rest) p
        → (b : Bool) → (nat_lt r.start c && nat_lt c (r.start + r.len)) ≡ b
        → run_at (cond b (run_over r.start (c - r.start) r.answer ∷ cut_run cs (run_over c (r.start + r.len - c) r.answer))
        (cut_run cs r) ++ rest) p ≡ run_at (r ∷ rest) p
    by behind whole true t =
        let above : r.start < c = grind (arith, nat_tests) in
        let below : c < r.start + r.len = grind (arith, nat_tests) in
        let m : r.start + (c - r.start) ≡ c = omega arith in
        let n : c + (r.start + r.len - c) ≡ r.start + r.len = omega arith in
        ap (option_or (answer_in (run_over r.start (c - r.start) r.answer) p)) behind
        ∙ parts r.start c (r.start + r.len) (r.start + (c - r.start)) (c + (r.start + r.len - c)) p r.answer (run_at rest p) above below
        m n
    by behind whole false t = whole

pub all_at_cuts : (p : ℕ) (cs : List ℕ) (rs : List (Run LineSaid)) → run_at (cut_runs cs rs) p ≡ run_at rs p
unfolding cut_runs
all_at_cuts p cs [] = refl
all_at_cuts p cs (r ∷ rs) =
    let n = count_below (r.start + r.len) cs in
    cut_at p (cuts_for r (take n cs)) r (cut_runs (drop n cs) rs)
    ∙ ap (option_or (answer_in r p)) (all_at_cuts p (drop n cs) rs)

-- The weight

cut_weight : (cs : List ℕ) (r : Run LineSaid) (rest : List (Run LineSaid)) → length r.answer.rows ≤ most_rows
    → sum_by weight_in (cut_run cs r ++ rest) ≤ weight_in r + sum_by weight_in rest + 800 * length cs
unfolding cut_run
cut_weight [] r rest few = omega (arith, sum_by-cons weight_in r rest)
cut_weight (c ∷ cs) r rest few =
    by (cut_weight cs (run_over c (r.start + r.len - c) r.answer) rest few) (cut_weight cs r rest few)
    (nat_lt r.start c && nat_lt c (r.start + r.len))
  where
    by : sum_by weight_in (cut_run cs (run_over c (r.start + r.len - c) r.answer) ++ rest)
        ≤ weight_in r + sum_by weight_in rest + 800 * length cs
        → sum_by weight_in (cut_run cs r ++ rest) ≤ weight_in r + sum_by weight_in rest + 800 * length cs
        → (b : Bool)
        → sum_by weight_in (cond b (run_over r.start (c - r.start) r.answer ∷ cut_run cs (run_over c (r.start + r.len - c) r.answer))
        (cut_run cs r) ++ rest) ≤ weight_in r + sum_by weight_in rest + 800 * length (c ∷ cs)
    by behind whole true =
        omega (
          arith,
          few,
          behind,
          sum_by-cons weight_in (run_over r.start (c - r.start) r.answer)
              (cut_run cs (run_over c (r.start + r.len - c) r.answer) ++ rest),
        )
    by behind whole false = omega (arith, whole)

weight_more : (n : ℕ) (cs : List ℕ) (r : Run LineSaid) (rs rest : List (Run LineSaid))
    → sum_by weight_in rest ≤ sum_by weight_in rs + 800 * length (drop n cs)
    → sum_by weight_in (cut_run (cuts_for r (take n cs)) r ++ rest) ≤ sum_by weight_in (r ∷ rs) + 800 * length cs
unfolding cut_run
weight_more n cs r rs rest more = by (nat_le (length r.answer.rows) most_rows) refl
  where
    by : (b : Bool) → nat_le (length r.answer.rows) most_rows ≡ b
        → sum_by weight_in (cut_run (cond b (take n cs) []) r ++ rest) ≤ sum_by weight_in (r ∷ rs) + 800 * length cs
    by true t =
        let few : length r.answer.rows ≤ most_rows = grind (arith, nat_tests) in
        omega (arith, cut_weight (take n cs) r rest few, more, sum_by-cons weight_in r rs, length-take n cs, length-drop n cs)
    by false t = omega (arith, more, sum_by-cons weight_in r rest, sum_by-cons weight_in r rs, length-drop n cs)

pub all_weight : (cs : List ℕ) (rs : List (Run LineSaid))
    → sum_by weight_in (cut_runs cs rs) ≤ sum_by weight_in rs + 800 * length cs
unfolding cut_runs
all_weight cs [] = omega arith
all_weight cs (r ∷ rs) =
    let n : ℕ = count_below (r.start + r.len) cs in
    weight_more n cs r rs (cut_runs (drop n cs) rs) (all_weight (drop n cs) rs)

-- The count of addresses below a bound

few_below : (bound : ℕ) (cs : List ℕ) → count_below bound cs ≤ length cs
unfolding count_below
few_below bound [] = omega arith
few_below bound (c ∷ cs) = by (few_below bound cs) (nat_lt c bound)
  where
    by : count_below bound cs ≤ length cs → (b : Bool) → cond b (1 + count_below bound cs) 0 ≤ length (c ∷ cs)
    by few true = omega (arith, few)
    by few false = omega arith

module _ (cs : List ℕ) (bound i : ℕ) where
  module _ (d : ℕ) (h : i < length cs) where
    next_below : count_below bound (drop i cs) ≡ cond (nat_lt (get_or cs i d) bound) (1 + count_below bound (drop (i + 1) cs)) 0
    unfolding count_below
    next_below = at_drop_more (count_below bound) cs i d h

    pub count_on : get_or cs i d < bound → (want : ℕ) → i + count_below bound (drop i cs) ≡ want
        → i + 1 + count_below bound (drop (i + 1) cs) ≡ want
    count_on less want inv =
        let t : nat_lt (get_or cs i d) bound ≡ true = grind (arith, nat_tests) in
        let e : count_below bound (drop i cs) ≡ 1 + count_below bound (drop (i + 1) cs) = next_below ∙ rw t refl in
        omega (arith, e, inv)

    pub count_here : bound ≤ get_or cs i d → (want : ℕ) → i + count_below bound (drop i cs) ≡ want → i ≡ want
    count_here from want inv =
        let t : nat_lt (get_or cs i d) bound ≡ false = grind (arith, nat_tests) in
        let e : count_below bound (drop i cs) ≡ 0 = next_below ∙ rw t refl in
        omega (arith, e, inv)

  pub count_end : length cs ≤ i → i + count_below bound (drop i cs) ≡ count_below bound cs → length cs ≡ count_below bound cs
  count_end h inv = omega (arith, h, inv, few_below bound cs)

-- Written runs in two parts

module _ (units : List kept.Unit) (spans : List Span) where
  pub written_both : (programs : List Begun) (xs ys : List (Run LineSaid))
      → with_runs units spans programs (xs ++ ys) ≡ with_runs units spans (with_runs units spans programs xs) ys
  unfolding with_runs
  written_both programs [] ys = refl
  written_both programs (x ∷ xs) ys = written_both (with_placed programs (placed units spans x)) xs ys

  pub runs_count : (programs : List Begun) (xs : List (Run LineSaid)) → length (with_runs units spans programs xs) ≡ length programs
  unfolding with_runs
  runs_count programs [] = refl
  runs_count programs (x ∷ xs) =
      runs_count (with_placed programs (placed units spans x)) xs ∙ placed_count programs (placed units spans x)

  pub both_fit : (xs ys : List (Run LineSaid)) → AllRowsFit units spans xs → AllRowsFit units spans ys → AllRowsFit units spans (xs ++ ys)
  both_fit [] ys f g = g
  both_fit (x ∷ xs) ys f g = (f.0, both_fit xs ys f.1 g)

-- The next address to cut a run at

module _ (units : List kept.Unit) (spans : List Span) (cs : List ℕ) (i d : ℕ) (h : i < length cs) (start end : ℕ) (said : LineSaid)
    (low : start ≤ end) where
  abbrev left : Run LineSaid
  left = run_over start (end - start) said

  abbrev cut : ℕ
  cut = get_or cs i d

  ends : start + (end - start) ≡ end
  ends = omega arith

  more : cut_run (drop i cs) left ≡ cut_run (cut ∷ drop (i + 1) cs) left
  more = at_drop_more (λ (l : List ℕ). cut_run l left) cs i d h

  module _ (t : (nat_lt start cut && nat_lt cut end) ≡ true) where
    pub cut_low : cut ≤ end
    cut_low = grind (arith, nat_tests)

    here_cut : cut_run (drop i cs) left ≡ run_over start (cut - start) said ∷ cut_run (drop (i + 1) cs) (run_over cut (end - cut) said)
    unfolding cut_run
    here_cut = more ∙ rw (ends, t) refl

    pub cut_written : (programs middle want : List Begun)
        → middle ≡ with_placed programs (placed units spans (run_over start (cut - start) said))
        → with_runs units spans programs (cut_run (drop i cs) left) ≡ want
        → with_runs units spans middle (cut_run (drop (i + 1) cs) (run_over cut (end - cut) said)) ≡ want
    unfolding with_runs
    cut_written programs middle want e inv =
        ap (λ (l : List Begun). with_runs units spans l (cut_run (drop (i + 1) cs) (run_over cut (end - cut) said))) e
        ∙ sym (ap (with_runs units spans programs) here_cut) ∙ inv

    pub cut_fits : (all : List (Run LineSaid)) → (AllRowsFit units spans (cut_run (drop i cs) left) → AllRowsFit units spans all)
        → RowsFit (placed units spans (run_over start (cut - start) said))
        → AllRowsFit units spans (cut_run (drop (i + 1) cs) (run_over cut (end - cut) said)) → AllRowsFit units spans all
    cut_fits all fits fit rest = fits (subst (AllRowsFit units spans) (sym here_cut) (fit, rest))

  module _ (t : (nat_lt start cut && nat_lt cut end) ≡ false) where
    not_cut : cut_run (drop i cs) left ≡ cut_run (drop (i + 1) cs) left
    unfolding cut_run
    not_cut = more ∙ rw (ends, t) refl

    pub pass_written : (programs want : List Begun) → with_runs units spans programs (cut_run (drop i cs) left) ≡ want
        → with_runs units spans programs (cut_run (drop (i + 1) cs) left) ≡ want
    pass_written programs want inv = sym (ap (with_runs units spans programs) not_cut) ∙ inv

    pub pass_fits : (all : List (Run LineSaid)) → (AllRowsFit units spans (cut_run (drop i cs) left) → AllRowsFit units spans all)
        → AllRowsFit units spans (cut_run (drop (i + 1) cs) left) → AllRowsFit units spans all
    pass_fits all fits rest = fits (subst (AllRowsFit units spans) (sym not_cut) rest)

-- The last piece of a run
module _ (units : List kept.Unit) (spans : List Span) (cs : List ℕ) (i : ℕ) (h : length cs ≤ i) (r : Run LineSaid) where
  no_cut : cut_run (drop i cs) r ≡ r ∷ []
  unfolding cut_run
  no_cut = by (drop i cs) (omega (arith, h, length-drop i cs))
    where
      by : (l : List ℕ) → length l ≡ 0 → cut_run l r ≡ r ∷ []
      by [] e = refl
      by (c ∷ l) e = absurd (omega (arith, e))

  pub last_written : (programs new want : List Begun) → new ≡ with_placed programs (placed units spans r)
      → with_runs units spans programs (cut_run (drop i cs) r) ≡ want → new ≡ want
  unfolding with_runs
  last_written programs new want e inv = e ∙ sym (ap (with_runs units spans programs) no_cut) ∙ inv

  pub last_fits : (all : List (Run LineSaid)) → (AllRowsFit units spans (cut_run (drop i cs) r) → AllRowsFit units spans all)
      → RowsFit (placed units spans r) → AllRowsFit units spans all
  last_fits all fits fit = fits (subst (AllRowsFit units spans) (sym no_cut) (fit, tt))

-- The next run

module _ (units : List kept.Unit) (spans : List Span) (cs : List ℕ) (runs : List (Run LineSaid)) (i : ℕ) (r d : Run LineSaid)
    (h : i < length runs) (is : r ≡ get_or runs i d) where
  abbrev count : ℕ
  count = count_below (r.start + r.len) cs

  abbrev here : List (Run LineSaid)
  here = cut_run (cuts_for r (take count cs)) r

  next_run : cut_runs cs (drop i runs) ≡ here ++ cut_runs (drop count cs) (drop (i + 1) runs)
  unfolding cut_runs
  next_run = at_drop_more (cut_runs cs) runs i d h
      ∙ ap (λ (x : Run LineSaid). let n = count_below (x.start + x.len) cs in
      cut_run (cuts_for x (take n cs)) x ++ cut_runs (drop n cs) (drop (i + 1) runs)) (sym is)

  pub runs_next : (programs new want : List Begun) → new ≡ with_runs units spans programs here
      → with_runs units spans programs (cut_runs cs (drop i runs)) ≡ want
      → with_runs units spans new (cut_runs (drop count cs) (drop (i + 1) runs)) ≡ want
  runs_next programs new want e inv =
      ap (λ (l : List Begun). with_runs units spans l (cut_runs (drop count cs) (drop (i + 1) runs))) e
      ∙ sym (written_both units spans programs here (cut_runs (drop count cs) (drop (i + 1) runs)))
      ∙ sym (ap (with_runs units spans programs) next_run) ∙ inv

  pub rows_next : (all : List (Run LineSaid)) → (AllRowsFit units spans (cut_runs cs (drop i runs)) → AllRowsFit units spans all)
      → AllRowsFit units spans here → AllRowsFit units spans (cut_runs (drop count cs) (drop (i + 1) runs)) → AllRowsFit units spans all
  rows_next all fits fit more =
      fits (subst (AllRowsFit units spans) (sym next_run)
      (both_fit units spans here (cut_runs (drop count cs) (drop (i + 1) runs)) fit more))

no_run : (cs : List ℕ) (runs : List (Run LineSaid)) (i : ℕ) → length runs ≤ i → cut_runs cs (drop i runs) ≡ []
unfolding cut_runs
no_run cs runs i h = by (drop i runs) (omega (arith, h, length-drop i runs))
  where
    by : (rs : List (Run LineSaid)) → length rs ≡ 0 → cut_runs cs rs ≡ []
    by [] e = refl
    by (r ∷ rs) e = absurd (omega (arith, e))

pub runs_end : (units : List kept.Unit) (spans : List Span) (programs want : List Begun) (cs : List ℕ) (runs : List (Run LineSaid)) (i : ℕ)
    → length runs ≤ i → with_runs units spans programs (cut_runs cs (drop i runs)) ≡ want → programs ≡ want
unfolding with_runs
runs_end units spans programs want cs runs i h inv = sym (ap (with_runs units spans programs) (no_run cs runs i h)) ∙ inv

pub rows_end : (units : List kept.Unit) (spans : List Span) (all : List (Run LineSaid)) (cs : List ℕ) (runs : List (Run LineSaid)) (i : ℕ)
    → length runs ≤ i → (AllRowsFit units spans (cut_runs cs (drop i runs)) → AllRowsFit units spans all) → AllRowsFit units spans all
rows_end units spans all cs runs i h fits = fits (subst (AllRowsFit units spans) (sym (no_run cs runs i h)) tt)
