-- The heaviest callers, by the first calls of a list that is sorted by callee and caller.
use Rattle.std.proofs.Common.{subst, set, ℕ, ◌≡◌, ◌≢◌, ◌⊎◌, ◌<◌, ◌≤◌, ◌+◌, ◌==◌, ◌&&◌, inl, inr, ⊎_elim, Bool, true, false, List, length}
use Rattle.std.proofs.Common.{take, get_or, Option, None, Some, arith, refl, sym, ◌∙◌, ap, length-set, get_or-set_same, get_or-set_other}
use Rattle.std.specs.Prelude.{if◌then◌else◌, slice_index, sum_by}
use Rattle.std.proofs.lemmas.Grind.{common_steps}
use Rattle.std.proofs.lemmas.Bool.{cases_eq, cases_lt, cases_Bool}
use Rattle.std.proofs.lemmas.List.{get_or-take, length-take-le}
use Rattle.std.proofs.lemmas.List.Sums.{sum_by_more, sum_by_more_le_part}
use Rattle.std.proofs.lemmas.Option.{same_Some}
use Rattle.func_place.specs.declared.calls.UnitCall.{UnitCall}
use Rattle.func_place.specs.Calls.{calls_between}
use Rattle.func_place.specs.internal.HeaviestCallers.{IsUpTo, AreByCallee, more_of}
use Rattle.func_place.proofs.Heaviest.{call_at, IsHeaviest, occurs, same_pair}

-- One more call.

abbrev added : UnitCall → ℕ → ℕ → ℕ
added call w u = if (call.from == w) && (call.to == u) then call.count else 0

sum_more : (calls : List UnitCall) (i w u : ℕ) → i < length calls →
    calls_between (take (i + 1) calls) w u ≡ calls_between (take i calls) w u + added (call_at calls i) w u
sum_more calls i w u lt = sum_by_more (λ (c : UnitCall). added c w u) calls i (record { from = 0; to = 0; count = 0 }) lt

none_added : (a b x y c : ℕ) → (a ≢ x) ⊎ (b ≢ y) → (if (a == x) && (b == y) then c else 0) ≡ 0
none_added a b x y c (inl ne) = grind (arith, common_steps)
none_added a b x y c (inr ne) = grind (arith, common_steps)

one_added : (a b c : ℕ) → (if (a == a) && (b == b) then c else 0) ≡ c
one_added a b c = grind (arith, common_steps)

at_most : (b : Bool) (c : ℕ) → (if b then c else 0) ≤ c
at_most true c = omega arith
at_most false c = omega arith

-- a sum with one more call is at most the sum of all calls
pub within_all : (calls : List UnitCall) (i w u : ℕ) → i < length calls →
    calls_between (take i calls) w u + (call_at calls i).count ≤ sum_by (λ c. c.count) calls
within_all calls i w u lt = sum_by_more_le_part (λ (c : UnitCall). added c w u) (λ (c : UnitCall). c.count) calls i
    (record { from = 0; to = 0; count = 0 }) lt (λ c. at_most ((c.from == w) && (c.to == u)) c.count)

-- a pair with a positive sum in the first calls occurs among them
pub occurs_before : (calls : List UnitCall) (i w u : ℕ) → i ≤ length calls → 0 < calls_between (take i calls) w u →
    (k : ℕ) × (k < i) × ((call_at calls k).from ≡ w) × ((call_at calls k).to ≡ u)
occurs_before calls i w u le some =
    let k = occurs (take i calls) w u some in
    let short = length-take-le i calls le in
    let lt : k.0 < i = omega (arith, k.1) in
    let same : call_at (take i calls) k.0 ≡ call_at calls k.0 =
    get_or-take i calls k.0 (record { from = 0; to = 0; count = 0 }) lt in
    (k.0, lt, ap (λ (c : UnitCall). c.from) (sym same) ∙ k.2, ap (λ (c : UnitCall). c.to) (sym same) ∙ k.3)

-- The current pair, with its sum so far.

pub record IsRun (calls : List UnitCall) (i : ℕ) (run : UnitCall) : Type 0 where
  pub count : run.count ≡ calls_between (take i calls) run.from run.to
  pub before : (k : ℕ) → k < i → IsUpTo (call_at calls k) run
  pub after : (k : ℕ) → i ≤ k → k < length calls → IsUpTo run (call_at calls k)

other_ends : (a b x y : ℕ) → ((a == x) && (b == y)) ≡ false → a ≡ x → b ≡ y → ⊥
other_ends a b x y h p q = grind (arith, common_steps)

-- the next pair has no count yet
nothing_yet : (calls : List UnitCall) (i : ℕ) (run : UnitCall) → i < length calls → IsRun calls i run →
    ((run.from == (call_at calls i).from) && (run.to == (call_at calls i).to)) ≡ false →
    calls_between (take i calls) (call_at calls i).from (call_at calls i).to ≡ 0
nothing_yet calls i run lt r other =
    let call = call_at calls i in
    ⊎_elim
    (λ (none : calls_between (take i calls) call.from call.to ≡ 0). none)
    (λ (some : calls_between (take i calls) call.from call.to ≢ 0).
    let k = occurs_before calls i call.from call.to (omega arith) (omega arith) in
    let low = r.before k.0 k.1 in
    let high = r.after i (omega arith) lt in
    let to_is = k.3 in
    let from_is = k.2 in
    let to_low = low.to in
    let to_high = high.to in
    let one_to : run.to ≡ call.to = omega arith in
    let from_low = low.from (omega arith) in
    let from_high = high.from one_to in
    let one_from : run.from ≡ call.from = omega arith in
    absurd (other_ends run.from run.to call.from call.to other one_from one_to))
    (cases_eq (calls_between (take i calls) call.from call.to) 0)

pub run_step : (calls : List UnitCall) (i : ℕ) (run : UnitCall) → AreByCallee calls → i < length calls → IsRun calls i run →
    IsRun calls (i + 1) (more_of run (call_at calls i))
run_step calls i run ordered lt r =
    let call = call_at calls i in
    let none : UnitCall = record { from = 0; to = 0; count = 0 } in
    record {
      count = ⊎_elim
          (λ (h : ((run.from == call.from) && (run.to == call.to)) ≡ true).
          let same = same_pair run.from run.to call.from call.to h in
          let is : run.count ≡ calls_between (take i calls) call.from call.to =
          r.count ∙ ap (λ (v : ℕ). calls_between (take i calls) v run.to) same.0
          ∙ ap (λ (u : ℕ). calls_between (take i calls) call.from u) same.1 in
          rw (h, sum_more calls i call.from call.to lt, one_added call.from call.to call.count)
          (ap (λ (n : ℕ). n + call.count) is))
          (λ (h : ((run.from == call.from) && (run.to == call.to)) ≡ false).
          let zero = nothing_yet calls i run lt r h in
          rw (h, sum_more calls i call.from call.to lt, one_added call.from call.to call.count) (omega arith))
          (cases_Bool ((run.from == call.from) && (run.to == call.to)));
      before = λ k k_lt. let o = ordered k i none (omega arith) lt in record { to = o.to; from = o.from };
      after = λ k le k_lt. let o = ordered i k none (omega arith) k_lt in record { to = o.to; from = o.from };
    }

-- The greatest sum of the other units, and the lowest unit with this sum. Other units are those that may be callers.

pub record IsTopOf (Other : ℕ → Type 0) (count : ℕ → ℕ) (best : Option ℕ) (most : ℕ) : Type 0 where
  pub bound : (w : ℕ) → Other w → count w ≤ most
  pub none : best ≡ None → most ≡ 0
  pub other : (v : ℕ) → best ≡ Some v → Other v
  pub some : (v : ℕ) → best ≡ Some v → 0 < most
  pub is : (v : ℕ) → best ≡ Some v → count v ≡ most
  pub first : (v w : ℕ) → best ≡ Some v → Other w → count w ≡ most → v ≤ w

some_none : (v : ℕ) → Some v ≡ None → ⊥
some_none v e = cc

take_top : (Other : ℕ → Type 0) (f g : ℕ → ℕ) (from most : ℕ) (best : Option ℕ) → IsTopOf Other f best most →
    ((w : ℕ) → w ≢ from → g w ≡ f w) → Other from → most < g from → IsTopOf Other g (Some from) (g from)
take_top Other f g from most best t same may more = record {
  bound = λ w o. ⊎_elim (λ (e : w ≡ from). rw e (omega arith)) (λ (ne : w ≢ from).
      let le = t.bound w o in
      let is = same w ne in
      omega arith) (cases_eq w from);
  none = λ e. absurd (some_none from e);
  other = λ v e. subst Other (same_Some from v e) may;
  some = λ v e. omega arith;
  is = λ v e. ap g (sym (same_Some from v e));
  first = λ v w e o h. ⊎_elim
      (λ (at : w ≡ from). let v_is = same_Some from v e in omega arith)
      (λ (ne : w ≢ from). let le = t.bound w o in let is = same w ne in absurd (omega arith))
      (cases_eq w from);
}

keep_top : (Other : ℕ → Type 0) (f g : ℕ → ℕ) (from most : ℕ) (best : Option ℕ) → IsTopOf Other f best most →
    ((w : ℕ) → w ≢ from → g w ≡ f w) → f from ≤ g from → (Other from → ⊥) ⊎ (g from ≤ most) → ((v : ℕ) → 0 < f v → v ≤ from) →
    IsTopOf Other g best most
keep_top Other f g from most best t same grows (inl never) earlier = record {
  bound = λ w o. let is = same w (λ e. never (subst Other e o)) in let le = t.bound w o in omega arith;
  none = t.none;
  other = t.other;
  some = t.some;
  is = λ v e. same v (λ h. never (subst Other h (t.other v e))) ∙ t.is v e;
  first = λ v w e o h. t.first v w e o (sym (same w (λ e. never (subst Other e o))) ∙ h);
}
keep_top Other f g from most best t same grows (inr low) earlier = record {
  bound = λ w o. ⊎_elim (λ (e : w ≡ from). rw e low) (λ (ne : w ≢ from).
      let le = t.bound w o in
      let is = same w ne in
      omega arith) (cases_eq w from);
  none = t.none;
  other = t.other;
  some = t.some;
  is = λ v e. ⊎_elim
      (λ (h : v ≡ from). let was : f from ≡ most = ap f (sym h) ∙ t.is v e in rw h (omega arith))
      (λ (ne : v ≢ from). same v ne ∙ t.is v e)
      (cases_eq v from);
  first = λ v w e o h. ⊎_elim
      (λ (at : w ≡ from). let is = t.is v e in let some = t.some v e in let low = earlier v (omega arith) in omega arith)
      (λ (ne : w ≢ from). t.first v w e o (sym (same w ne) ∙ h))
      (cases_eq w from);
}

same_top : (Other : ℕ → Type 0) (f g : ℕ → ℕ) (most : ℕ) (best : Option ℕ) → ((w : ℕ) → g w ≡ f w) → IsTopOf Other f best most →
    IsTopOf Other g best most
same_top Other f g most best same t = subst (λ (h : ℕ → ℕ). IsTopOf Other h best most) (λ i w. sym (same w) i) t

-- The units of all calls, by the first calls.

abbrev pub MayCall : List ℕ → ℕ → ℕ → Type 0
MayCall heats u w = (w ≢ u) × (0 < slice_index heats w)

pub record AreTops (heats : List ℕ) (calls : List UnitCall) (best : List (Option ℕ)) (most : List ℕ) : Type 0 where
  pub best_len : length best ≡ length heats
  pub most_len : length most ≡ length heats
  pub top : (u : ℕ) → u < length heats →
      IsTopOf (MayCall heats u) (λ w. calls_between calls w u) (get_or best u None) (slice_index most u)

pub tops_take : (heats : List ℕ) (calls : List UnitCall) (i : ℕ) (best : List (Option ℕ)) (most : List ℕ) (r : UnitCall) →
    i < length calls → r.from ≡ (call_at calls i).from → r.to ≡ (call_at calls i).to → IsRun calls (i + 1) r →
    AreTops heats (take i calls) best most → r.to < length heats → r.from ≢ r.to → 0 < slice_index heats r.from →
    slice_index most r.to < r.count → AreTops heats (take (i + 1) calls) (set best r.to (Some r.from)) (set most r.to r.count)
tops_take heats calls i best most r lt from_is to_is run t to_in ne hot more =
    let call = call_at calls i in
    record {
      best_len = length-set best r.to (Some r.from) ∙ t.best_len;
      most_len = length-set most r.to r.count ∙ t.most_len;
      top = λ u u_in.
          let old = t.top u u_in in
          ⊎_elim
          (λ (e : u ≡ r.to).
          let sums : (w : ℕ) → w ≢ r.from → calls_between (take (i + 1) calls) w u ≡ calls_between (take i calls) w u =
          λ w o. let none = none_added call.from call.to w u call.count (inl (λ h. o (sym h ∙ sym from_is))) in
          let more = sum_more calls i w u lt in omega arith in
          let now : r.count ≡ calls_between (take (i + 1) calls) r.from u =
          run.count ∙ ap (λ (v : ℕ). calls_between (take (i + 1) calls) r.from v) (sym e) in
          let was : slice_index most u < calls_between (take (i + 1) calls) r.from u = rw (e, ← run.count) more in
          let best_in : u < length best = omega (arith, t.best_len) in
          let most_in : u < length most = omega (arith, t.most_len) in
          rw (← e, get_or-set_same best u (Some r.from) None best_in, get_or-set_same most u r.count 0 most_in, now)
          (take_top (MayCall heats u) (λ w. calls_between (take i calls) w u) (λ w. calls_between (take (i + 1) calls) w u) r.from
          (slice_index most u) (get_or best u None) old sums ((λ h. ne (h ∙ e)), hot) was))
          (λ (o : u ≢ r.to).
          let sums : (w : ℕ) → calls_between (take (i + 1) calls) w u ≡ calls_between (take i calls) w u =
          λ w. let none = none_added call.from call.to w u call.count (inr (λ h. o (sym h ∙ sym to_is))) in
          let more = sum_more calls i w u lt in omega arith in
          rw (get_or-set_other best r.to u (Some r.from) None o, get_or-set_other most r.to u r.count 0 o)
          (same_top (MayCall heats u) (λ w. calls_between (take i calls) w u) (λ w. calls_between (take (i + 1) calls) w u)
          (slice_index most u) (get_or best u None) sums old))
          (cases_eq u r.to);
    }

pub tops_keep : (heats : List ℕ) (calls : List UnitCall) (i : ℕ) (best : List (Option ℕ)) (most : List ℕ) (r : UnitCall) →
    AreByCallee calls → i < length calls → r.from ≡ (call_at calls i).from → r.to ≡ (call_at calls i).to → IsRun calls (i + 1) r →
    AreTops heats (take i calls) best most → (MayCall heats r.to r.from → ⊥) ⊎ (r.count ≤ slice_index most r.to) →
    AreTops heats (take (i + 1) calls) best most
tops_keep heats calls i best most r ordered lt from_is to_is run t stays =
    let call = call_at calls i in
    record {
      best_len = t.best_len;
      most_len = t.most_len;
      top = λ u u_in.
          let old = t.top u u_in in
          ⊎_elim
          (λ (e : u ≡ r.to).
          let sums : (w : ℕ) → w ≢ r.from → calls_between (take (i + 1) calls) w u ≡ calls_between (take i calls) w u =
          λ w o. let none = none_added call.from call.to w u call.count (inl (λ h. o (sym h ∙ sym from_is))) in
          let more = sum_more calls i w u lt in omega arith in
          let grows : calls_between (take i calls) r.from u ≤ calls_between (take (i + 1) calls) r.from u = let more =
          sum_more calls i r.from u lt in omega arith in
          let now : r.count ≡ calls_between (take (i + 1) calls) r.from u =
          run.count ∙ ap (λ (v : ℕ). calls_between (take (i + 1) calls) r.from v) (sym e) in
          let low : (MayCall heats u r.from → ⊥) ⊎ (calls_between (take (i + 1) calls) r.from u ≤ slice_index most u) =
          ⊎_elim (λ (h : MayCall heats r.to r.from → ⊥). inl (λ may. h ((λ s. may.0 (s ∙ sym e)), may.1)))
          (λ (h : r.count ≤ slice_index most r.to). inr (rw (← now, e) h)) stays in
          let earlier : (v : ℕ) → 0 < calls_between (take i calls) v u → v ≤ r.from =
          λ v some.
          let k = occurs_before calls i v u (omega arith) some in
          let o = ordered k.0 i (record { from = 0; to = 0; count = 0 }) (omega (arith, k.1)) lt in
          let low = o.from (k.3 ∙ e ∙ to_is) in
          let is = k.2 in
          omega arith in
          keep_top (MayCall heats u) (λ w. calls_between (take i calls) w u) (λ w. calls_between (take (i + 1) calls) w u) r.from
          (slice_index most u) (get_or best u None) old sums grows low earlier)
          (λ (o : u ≢ r.to).
          let sums : (w : ℕ) → calls_between (take (i + 1) calls) w u ≡ calls_between (take i calls) w u =
          λ w. let none = none_added call.from call.to w u call.count (inr (λ h. o (sym h ∙ sym to_is))) in
          let more = sum_more calls i w u lt in omega arith in
          same_top (MayCall heats u) (λ w. calls_between (take i calls) w u) (λ w. calls_between (take (i + 1) calls) w u)
          (slice_index most u) (get_or best u None) sums old)
          (cases_eq u r.to);
    }

top_heaviest : (heats : List ℕ) (calls : List UnitCall) (u most : ℕ) (best : Option ℕ) →
    IsTopOf (MayCall heats u) (λ w. calls_between calls w u) best most → IsHeaviest heats calls u best
top_heaviest heats calls u most None t = λ w c. let le = t.bound w (c.other, c.hot) in
    let zero = t.none refl in
    let some = c.some in omega arith
top_heaviest heats calls u most (Some v) t =
    let is = t.is v refl in
    let some = t.some v refl in
    let other = t.other v refl in (
      record { other = other.0; hot = other.1; some = omega arith },
      λ w c. let le = t.bound w (c.other, c.hot) in ⊎_elim
          (λ (lt : calls_between calls w u < calls_between calls v u). inl lt)
          (λ (ge : calls_between calls v u ≤ calls_between calls w u). inr
          (omega arith, t.first v w refl (c.other, c.hot) (omega arith)))
          (cases_lt (calls_between calls w u) (calls_between calls v u)),
    )

pub heaviest_by_tops : (heats : List ℕ) (calls : List UnitCall) (best : List (Option ℕ)) (most : List ℕ) →
    AreTops heats calls best most → (u : ℕ) → u < length heats → IsHeaviest heats calls u (get_or best u None)
heaviest_by_tops heats calls best most t u u_in =
    top_heaviest heats calls u (slice_index most u) (get_or best u None) (t.top u u_in)
