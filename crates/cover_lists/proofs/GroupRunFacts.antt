-- Runs of groups, run by run.
use Rattle.std.proofs.Common.{◌≡◌, ◌≢◌, ◌∙◌, ◌+◌, ◌<◌, ◌≤◌, ◌==◌, ◌&&◌, ◌||◌, ◌++◌, ◌∷◌, [], ℕ, Bool, true, false, List, Option, Some}
use Rattle.std.proofs.Common.{refl, sym, ap, subst, arith, length, map, filter, ⊎_elim}
use Rattle.std.specs.Prelude.{if◌then◌else◌, option_and_then}
use Rattle.std.specs.Global.{Vec}
use Rattle.std.specs.List.{list_any}
use Rattle.std.specs.Option.{option_or}
use Rattle.std.proofs.lemmas.Bool.{cases_eq, eq-eqb, ne_eqb}
use Rattle.std.proofs.lemmas.Bool.Decides.{nat_tests}
use Rattle.std.proofs.lemmas.List.Folds.{list_any-append}
use Rattle.answer_runs.specs.declared.run.Run.{Run}
use Rattle.answer_runs.specs.AnswerRuns.{answer_over, run_at, IsWithin}
use Rattle.answer_runs.specs.LastRuns.{ends_at, lengthened}
use Rattle.answer_runs.proofs.Grown.{or_none, within-up, run_at-more, within-more, longest-more, answer-more, apart-end, run_at-longer}
use Rattle.answer_runs.proofs.Grown.{and_then-Some, within-longer, longest-longer, answer-longer}
use Rattle.cover_lists.specs.declared.cover_tree.Cover.{Cover}
use Rattle.cover_lists.specs.CoverTree.{holds}
use Rattle.cover_lists.specs.Groups.{is_in_group, group_holds}
use Rattle.cover_lists.specs.GroupRuns.{runs_in, AreHeld, IsStretched, IsStretchedIf, AreStretched, holders, if_held, held_by}
use Rattle.cover_lists.specs.GroupRuns.{runs_end, IsGroupRuns}
use Rattle.cover_lists.proofs.SmallSteps.{or_false, or_true}
use Rattle.cover_lists.proofs.StretchRuns.{runs_end_more, said_more}

-- One stretch more

ends_longer : (xs : List (Run Bool)) (t n : ℕ) → ends_at t xs ≡ true → ends_at (t + n) (lengthened n xs) ≡ true
ends_longer [] t n e = absurd (cc)
ends_longer (x ∷ []) t n e = grind (arith, nat_tests)
ends_longer (x ∷ y ∷ []) t n e = ends_longer (y ∷ []) t n e
ends_longer (x ∷ y ∷ z ∷ zs) t n e = ends_longer (y ∷ z ∷ zs) t n e

ends_more : (xs : List (Run Bool)) (r : Run Bool) → ends_at (r.start + r.len) (xs ++ r ∷ []) ≡ true
ends_more [] r = grind (arith, nat_tests)
ends_more (x ∷ []) r = grind (arith, nat_tests)
ends_more (x ∷ y ∷ zs) r = ends_more (y ∷ zs) r

not_ended : (lo : ℕ) (xs : List (Run Bool)) (t u : ℕ) → IsWithin lo xs t → t < u → ends_at u xs ≡ false
not_ended lo [] t u w h = refl
not_ended lo (x ∷ []) t u w h = let g = w.2 in ne_eqb (x.start + x.len) u (λ e. omega arith)
not_ended lo (x ∷ y ∷ zs) t u w h = not_ended (x.start + x.len) (y ∷ zs) t u w.2 h

pub lengthens : (xs new : List (Run Bool)) (start len : ℕ) → AreHeld start xs → ends_at start xs ≡ true → new ≡ lengthened len xs →
    IsStretched start len xs new
lengthens xs new start len h e is = subst (λ (l : List (Run Bool)). IsStretched start len xs l) (sym is) (record {
  held = record {
    within = within-longer 0 xs start len h.within;
    longest = longest-longer xs len h.longest;
    last = answer-longer (Some true) xs len h.last;
  };
  ends = ends_longer xs start len e;
  answers = λ p. run_at-longer xs start len p Some true e h.last
      ∙ ap (option_or (run_at xs p)) (and_then-Some (answer_over start len true p));
})

pub pushes : (xs new : List (Run Bool)) (start len : ℕ) → AreHeld start xs → 0 < len → ends_at start xs ≡ false →
    new ≡ xs ++ record { start = start; len = len; answer = true } ∷ [] → IsStretched start len xs new
pushes xs new start len h some e is = subst (λ (l : List (Run Bool)). IsStretched start len xs l) (sym is) (record {
  held = record {
    within = within-more 0 xs r (start + len) h.within some (omega arith);
    longest = longest-more xs r h.longest (apart-end xs r e);
    last = answer-more xs r;
  };
  ends = ends_more xs r;
  answers = λ p. run_at-more xs r p;
})
  where
    r : Run Bool
    r = record { start = start; len = len; answer = true }

-- For groups, one by one

module _ (start len : ℕ) (some : 0 < len) (old now : List (Run Bool)) (h : AreHeld start old) where
  pub still_within : (b : Bool) → IsStretchedIf b start len old now → IsWithin 0 now (start + len)
  still_within true s = s.held.within
  still_within false s = subst (λ (l : List (Run Bool)). IsWithin 0 l (start + len)) (sym s)
      (within-up 0 old start (start + len) h.within (omega arith))

  again : (b : Bool) (new : List (Run Bool)) → IsStretchedIf b start len old now → (ends_at (start + len) now ≡ true → new ≡ now) →
      (ends_at (start + len) now ≡ false → IsStretched start len now new) → IsStretched start len old new
  again true new s kept more = subst (λ (l : List (Run Bool)). IsStretched start len old l) (sym (kept s.ends)) s
  again false new s kept more =
      subst (λ (l : List (Run Bool)). IsStretched start len l new) s
      (more (ap (ends_at (start + len)) s ∙ not_ended 0 old start (start + len) h.within (omega arith)))

abbrev among : ℕ → List ℕ → Bool
among g gs = list_any (λ h. h == g) gs

module _ (gs : List ℕ) (h start len : ℕ) (old now new : List (Vec (Run Bool))) (some : 0 < len)
    (held : (g : ℕ) → g < length old → AreHeld start (runs_in old g)) (before : AreStretched gs start len old now) where
  among_here : (g : ℕ) → g ≡ h → among g (gs ++ h ∷ []) ≡ true
  among_here g e =
      list_any-append (λ k. k == g) gs (h ∷ []) ∙ ap (λ (b : Bool). among g gs || (b || false)) (eq-eqb h g (sym e)) ∙ or_true (among g gs)

  among_other : (g : ℕ) → g ≢ h → among g (gs ++ h ∷ []) ≡ among g gs
  among_other g ne =
      list_any-append (λ k. k == g) gs (h ∷ []) ∙ ap (λ (b : Bool). among g gs || (b || false)) (ne_eqb h g (λ e. ne (sym e)))
      ∙ or_false (among g gs)

  pub stretched_more : length new ≡ length now → ((g : ℕ) → g ≢ h → runs_in new g ≡ runs_in now g) →
      (ends_at (start + len) (runs_in now h) ≡ true → runs_in new h ≡ runs_in now h) →
      (ends_at (start + len) (runs_in now h) ≡ false → IsStretched start len (runs_in now h) (runs_in new h)) →
      AreStretched (gs ++ h ∷ []) start len old new
  stretched_more count others kept more = record {
    count = count ∙ before.count;
    each = λ g below. ⊎_elim
        (λ (e : g ≡ h).
        subst (λ (b : Bool). IsStretchedIf b start len (runs_in old g) (runs_in new g)) (sym (among_here g e))
        (again start len some (runs_in old g) (runs_in now g) (held g below) (among g gs) (runs_in new g) (before.each g below)
        (subst (λ (k : ℕ). ends_at (start + len) (runs_in now k) ≡ true → runs_in new k ≡ runs_in now k) (sym e) kept)
        (subst (λ (k : ℕ). ends_at (start + len) (runs_in now k) ≡ false → IsStretched start len (runs_in now k) (runs_in new k))
        (sym e) more)))
        (λ (ne : g ≢ h).
        subst (λ (b : Bool). IsStretchedIf b start len (runs_in old g) (runs_in new g)) (sym (among_other g ne))
        (subst (λ (l : List (Run Bool)). IsStretchedIf (among g gs) start len (runs_in old g) l) (sym (others g ne)) (before.each g below)))
        (cases_eq g h);
  }

  -- A group that isn't there.
  pub stretched_none : length now ≤ h → AreStretched (gs ++ h ∷ []) start len old now
  stretched_none past = record {
    count = before.count;
    each = λ g below.
        subst (λ (b : Bool). IsStretchedIf b start len (runs_in old g) (runs_in now g))
        (sym (among_other g (λ e. let c = before.count in omega (arith, e, past, below, c)))) (before.each g below);
  }

-- For all runs, one by one

find_group : (g a : ℕ) (cs : List Cover) → among g (map (λ (c : Cover). c.group) (filter (holds a) cs)) ≡ list_any (is_in_group g a) cs
find_group g a [] = refl
find_group g a (c ∷ cs) = step (holds a c) (find_group g a cs)
  where
    and_true : (b : Bool) → b ≡ (b && true)
    and_true true = refl
    and_true false = refl

    and_false : (b : Bool) → false ≡ (b && false)
    and_false true = refl
    and_false false = refl

    step : (b : Bool) → among g (map (λ (c : Cover). c.group) (filter (holds a) cs)) ≡ list_any (is_in_group g a) cs →
        among g (map (λ (c : Cover). c.group) (if b then c ∷ filter (holds a) cs else filter (holds a) cs))
        ≡ (((c.group == g) && b) || list_any (is_in_group g a) cs)
    step true e = λ i. and_true (c.group == g) i || e i
    step false e = e ∙ ap (λ (b : Bool). b || list_any (is_in_group g a) cs) (and_false (c.group == g))

holders_are : (covers : List Cover) (g a : ℕ) → among g (holders covers a) ≡ group_holds covers g a
holders_are covers g a = find_group g a covers

module _ (covers : List Cover) (g : ℕ) (ss : List (Run ℕ)) (r : Run ℕ) (old new : List (Run Bool)) (within : IsWithin 0 ss (runs_end 0 ss))
    (before : IsGroupRuns covers g ss old) (start : runs_end 0 ss ≤ r.start) where
  within_start : IsWithin 0 ss r.start
  within_start = within-up 0 ss (runs_end 0 ss) r.start within start

  by_holds : (b : Bool) → group_holds covers g r.answer ≡ b → IsStretchedIf b r.start r.len old new →
      IsGroupRuns covers g (ss ++ r ∷ []) new
  by_holds true e s = record {
    are = subst (λ (n : ℕ). AreHeld n new) (sym (runs_end_more 0 ss r)) s.held;
    answers = λ p.
        s.answers p ∙ ap (λ (o : Option Bool). option_or o (answer_over r.start r.len true p)) (before.answers p)
        ∙ ap (option_or (option_and_then (held_by covers g) (run_at ss p)))
        (sym (ap (λ (b : Bool). option_and_then (λ (x : Bool). answer_over r.start r.len x p) (if_held b)) e))
        ∙ said_more (held_by covers g) ss r p within_start;
  }
  by_holds false e s = subst (IsGroupRuns covers g (ss ++ r ∷ [])) (sym s) (record {
    are = record {
      within = subst (λ (n : ℕ). IsWithin 0 old n) (sym (runs_end_more 0 ss r))
          (within-up 0 old (runs_end 0 ss) (r.start + r.len) before.are.within (omega arith));
      longest = before.are.longest;
      last = before.are.last;
    };
    answers = λ p.
        before.answers p ∙ sym (or_none (option_and_then (held_by covers g) (run_at ss p)))
        ∙ ap (option_or (option_and_then (held_by covers g) (run_at ss p)))
        (sym (ap (λ (b : Bool). option_and_then (λ (x : Bool). answer_over r.start r.len x p) (if_held b)) e))
        ∙ said_more (held_by covers g) ss r p within_start;
  })

  pub group_more : (groups : List ℕ) → groups ≡ holders covers r.answer → IsStretchedIf (among g groups) r.start r.len old new →
      IsGroupRuns covers g (ss ++ r ∷ []) new
  group_more groups e s =
      by_holds (group_holds covers g r.answer) refl
      (subst (λ (b : Bool). IsStretchedIf b r.start r.len old new) (ap (among g) e ∙ holders_are covers g r.answer) s)

pub held_before : (covers : List Cover) (g : ℕ) (ss : List (Run ℕ)) (old : List (Run Bool)) (start : ℕ) →
    IsGroupRuns covers g ss old → runs_end 0 ss ≤ start → AreHeld start old
held_before covers g ss old start before h =
    record { within = within-up 0 old (runs_end 0 ss) start before.are.within h; longest = before.are.longest; last = before.are.last }
