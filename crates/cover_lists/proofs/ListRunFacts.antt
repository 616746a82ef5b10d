-- Runs of location lists, stretch by stretch.
use Rattle.std.proofs.Common.{◌≡◌, ◌≢◌, ◌∙◌, ◌+◌, ◌<◌, ◌≤◌, ◌==◌, ◌&&◌, ◌||◌, ◌++◌, ◌∷◌, [], ℕ, zero, suc, Bool, true, false}
use Rattle.std.proofs.Common.{List, Option, Some, None, refl, sym, ap, subst, arith, length, take, get_or, ⊎_elim}
use Rattle.std.specs.Prelude.{if◌then◌else◌, nat_le, nat_lt, option_and_then, slice_get}
use Rattle.std.specs.Global.{Vec}
use Rattle.std.specs.List.Sorted.{IsStrictlyIncreasing}
use Rattle.std.specs.Option.{option_or}
use Rattle.std.proofs.lemmas.Bool.{cases_eq, eq-eqb, ne_eqb}
use Rattle.std.proofs.lemmas.List.Folds.{list_any-append}
use Rattle.answer_runs.proofs.Ascending.{Ascends, ascends_from}
use Rattle.answer_runs.specs.declared.run.Run.{Run}
use Rattle.answer_runs.specs.AnswerRuns.{answer_over, run_at, IsWithin, AreLongest}
use Rattle.answer_runs.specs.Choices.{unless_empty}
use Rattle.answer_runs.proofs.Grown.{or_none, within-up}
use Rattle.cover_lists.specs.GroupRuns.{runs_end}
use Rattle.cover_lists.specs.declared.kept_list.KeptList.{KeptList}
use Rattle.cover_lists.specs.KeptLists.{items_in}
use Rattle.cover_lists.specs.ListRuns.{list_answer, said_in, is_among, IsExtended, IsExtendedIf, IsListRuns, AreCandidates, AreExtended}
use Rattle.cover_lists.proofs.SmallSteps.{or_false, or_true}
use Rattle.cover_lists.proofs.StretchRuns.{runs_end_more, said_more, taken_within}

abbrev Said : Type 0
Said = List (List ℕ)

pub none_extended : (start len : ℕ) (old : List (Run Said)) → IsWithin 0 old start → AreLongest old → IsExtended start len None old old
none_extended start len old within longest = record {
  within = within-up 0 old start (start + len) within (omega arith);
  longest = longest;
  answers = λ p. sym (or_none (run_at old p));
}

-- One answer at all bytes of a stretch.
pub at_all : (o : Option Said) (start len p : ℕ) →
    option_and_then (λ (z : ℕ). o) (answer_over start len 0 p) ≡ option_and_then (λ x. answer_over start len x p) o
at_all o start len p = by (nat_le start p && nat_lt p (start + len)) o
  where
    by : (b : Bool) (o : Option Said) →
        option_and_then (λ (z : ℕ). o) (if b then Some 0 else None) ≡ option_and_then (λ x. if b then Some x else None) o
    by true None = refl
    by true (Some x) = refl
    by false None = refl
    by false (Some x) = refl

pub some_said : (xs : List (Vec ℕ)) (x : Vec ℕ) → slice_get xs 0 ≡ Some x → unless_empty (items_in xs) ≡ Some (items_in xs)
some_said [] x e = absurd (cc)
some_said (y ∷ xs) x e = refl

pub none_said : (xs : List (Vec ℕ)) → slice_get xs 0 ≡ None → unless_empty (items_in xs) ≡ None
none_said [] e = refl
none_said (y ∷ xs) e = absurd (cc)

list_more : (lists : List KeptList) (n : ℕ) (ss : List (Run ℕ)) (r : Run ℕ) (old new : List (Run Said)) → IsWithin 0 ss r.start →
    IsListRuns lists n ss r.start old → IsExtended r.start r.len (list_answer lists n r.answer) old new →
    IsListRuns lists n (ss ++ r ∷ []) (r.start + r.len) new
list_more lists n ss r old new within was more = record {
  within = more.within;
  longest = more.longest;
  answers = λ p.
      more.answers p
      ∙ ap (λ (o : Option Said). option_or o (option_and_then (λ x. answer_over r.start r.len x p) (list_answer lists n r.answer)))
      (was.answers p)
      ∙ said_more (list_answer lists n) ss r p within;
}

-- For lists, one by one

below_first : (lo : ℕ) (ns : List ℕ) (i d : ℕ) → Ascends lo ns → i < length ns →
    (lo ≤ get_or ns i d) × (is_among (take i ns) (get_or ns i d) ≡ false)
below_first lo [] i d up h = absurd (omega arith)
below_first lo (n ∷ ns) zero d up h = (up.0, refl)
below_first lo (n ∷ ns) (suc i) d up h =
    let more = below_first (n + 1) ns i d up.1 (omega arith) in (
      let g = up.0 in let k = more.0 in omega arith,
      ap (λ (b : Bool). b || is_among (take i ns) (get_or ns i d)) (ne_eqb n (get_or ns i d) (λ e. let k = more.0 in absurd (omega arith)))
          ∙ more.1,
    )

pub not_before : (ns : List ℕ) (i d : ℕ) → IsStrictlyIncreasing ns → i < length ns → is_among (take i ns) (get_or ns i d) ≡ false
not_before ns i d rising h = (below_first 0 ns i d (ascends_from 0 ns rising (λ l. omega arith)) h).1

module _ (lists : List KeptList) (a : ℕ) (ns : List ℕ) (start len : ℕ) (old now : List (Vec (Run (Vec (Vec ℕ))))) where
  pub not_extended : (h : ℕ) → is_among ns h ≡ false → AreExtended lists a ns start len old now → said_in now h ≡ said_in old h
  not_extended h fresh before =
      subst (λ (b : Bool). IsExtendedIf b start len (list_answer lists h a) (said_in old h) (said_in now h)) fresh (before.each h)

  pub extended_more : (h : ℕ) (new : List (Vec (Run (Vec (Vec ℕ))))) → is_among ns h ≡ false → AreExtended lists a ns start len old now →
      length new ≡ length now → ((n : ℕ) → n ≢ h → said_in new n ≡ said_in now n) →
      IsExtended start len (list_answer lists h a) (said_in now h) (said_in new h) → AreExtended lists a (ns ++ h ∷ []) start len old new
  extended_more h new fresh before count others more = record {
    count = count ∙ before.count;
    each = λ n. ⊎_elim
        (λ (e : n ≡ h). subst (λ (k : ℕ). IsExtendedIf (is_among (ns ++ h ∷ []) k) start len (list_answer lists k a) (said_in old k)
        (said_in new k)) (sym e)
        (subst (λ (b : Bool). IsExtendedIf b start len (list_answer lists h a) (said_in old h) (said_in new h)) (sym here)
        (subst (λ (l : List (Run Said)). IsExtended start len (list_answer lists h a) l (said_in new h))
        (not_extended h fresh before) more)))
        (λ (ne : n ≢ h).
        subst (λ (b : Bool). IsExtendedIf b start len (list_answer lists n a) (said_in old n) (said_in new n)) (sym (other n ne))
        (subst (λ (l : List (Run Said)). IsExtendedIf (is_among ns n) start len (list_answer lists n a) (said_in old n) l)
        (sym (others n ne)) (before.each n)))
        (cases_eq n h);
  }
    where
      here : is_among (ns ++ h ∷ []) h ≡ true
      here = list_any-append (λ k. k == h) ns (h ∷ []) ∙ ap (λ (b : Bool). is_among ns h || (b || false)) (eq-eqb h h refl)
          ∙ or_true (is_among ns h)

      other : (n : ℕ) → n ≢ h → is_among (ns ++ h ∷ []) n ≡ is_among ns n
      other n ne =
          list_any-append (λ k. k == n) ns (h ∷ []) ∙ ap (λ (b : Bool). is_among ns n || (b || false)) (ne_eqb h n (λ e. ne (sym e)))
          ∙ or_false (is_among ns n)

  -- After the last of the candidates.
  pub extended_all : AreCandidates lists a ns → AreExtended lists a ns start len old now → (n : ℕ) → IsWithin 0 (said_in old n) start →
      AreLongest (said_in old n) → IsExtended start len (list_answer lists n a) (said_in old n) (said_in now n)
  extended_all all before n within longest = step (is_among ns n) refl (before.each n)
    where
      step : (b : Bool) → is_among ns n ≡ b → IsExtendedIf b start len (list_answer lists n a) (said_in old n) (said_in now n) →
          IsExtended start len (list_answer lists n a) (said_in old n) (said_in now n)
      step true e s = s
      step false e s =
          subst (λ (o : Option Said). IsExtended start len o (said_in old n) (said_in now n)) (sym (all.others n e))
          (subst (λ (l : List (Run Said)). IsExtended start len None (said_in old n) l) (sym s)
          (none_extended start len (said_in old n) within longest))

-- For all stretches, one by one

pub list_next : (lists : List KeptList) (n : ℕ) (ss : List (Run ℕ)) (hi i : ℕ) (r : Run ℕ) (old new : List (Run Said)) → IsWithin 0 ss hi →
    runs_end 0 (take i ss) ≤ r.start → IsListRuns lists n (take i ss) (runs_end 0 (take i ss)) old →
    IsExtended r.start r.len (list_answer lists n r.answer) old new →
    IsListRuns lists n (take i ss ++ r ∷ []) (runs_end 0 (take i ss ++ r ∷ [])) new
list_next lists n ss hi i r old new within h was more =
    subst (λ (e : ℕ). IsListRuns lists n (take i ss ++ r ∷ []) e new) (sym (runs_end_more 0 (take i ss) r))
    (list_more lists n (take i ss) r old new
    (within-up 0 (take i ss) (runs_end 0 (take i ss)) r.start (taken_within 0 ss hi i within) h)
    (record {
      within = within-up 0 old (runs_end 0 (take i ss)) r.start was.within h;
      longest = was.longest;
      answers = was.answers;
    }) more)
