-- The walk over a sequence, of which states are kept.
use Rattle.std.proofs.Common.{◌≡◌, ◌<◌, ◌≤◌, ◌-◌, ◌+◌, ◌||◌, ◌++◌, nat_le, get_or, ℕ, List, [], ◌∷◌, refl, arith, sym, ◌∙◌, ap, subst, Ok}
use Rattle.std.proofs.Common.{map, append_assoc, length, drop, length-drop, length-append, Option, Some, None, Bool, true, false}
use Rattle.std.proofs.Common.{cond, ◌&&◌, take, zero, suc, ⊎_elim}
use Rattle.std.proofs.lemmas.Bool.Decides.{nat_tests}
use Rattle.std.proofs.lemmas.List.{drop-drop, get_or_push, append-nil, map-append}
use Rattle.std.proofs.Math.ListN.{get_or-append}
use Rattle.std.proofs.lemmas.Bool.{and_parts, cases_lt, leb-true, ltb-true}
use Rattle.std.proofs.lemmas.Grind.{common_steps}
use Rattle.line_rewrite.specs.declared.coding.Coding.{Coding}
use Rattle.line_rewrite.specs.declared.registers.Registers.{Registers}
use Rattle.line_rewrite.specs.declared.kept.Kept.{Kept}
use Rattle.line_rewrite.specs.declared.operation.LineOp.{LineOp}
use Rattle.line_rewrite.specs.declared.effect.Effect.{Effect}
use Rattle.line_rewrite.specs.declared.effect.Effect.TheVariants.{Appends, Ends, Sets}
use Rattle.line_rewrite.specs.Operations.{op_at, operations}
use Rattle.line_rewrite.specs.LineMachine.{rows_from, rows_behind, after_op, after_row, effect_of, start, sequences, sequences_from}
use Rattle.line_rewrite.specs.LineMachine.{sequences_behind, follows, Sequence}
use Rattle.line_rewrite.specs.declared.kept.Due.{Due}
use Rattle.line_rewrite.specs.Keeping.{rows_at_place, IsBefore, AreKept, Begins, is_due, kept_more, low_of}
use Rattle.line_rewrite.specs.declared.kept.KeptSequence.{KeptSequence}
use Rattle.line_rewrite.specs.KeptSequences.{IsKept, told_sequence}
use Rattle.line_rewrite.specs.LineAnswers.{first_address}
use Rattle.line_rewrite.specs.Walks.{is_above}
use Rattle.line_rewrite.proofs.InForce.{AllBelow, below_all}
use Rattle.line_rewrite.proofs.Shortens.{op_shortens, twice}
use Rattle.line_rewrite.proofs.Steps.{rows_step, operations_step, operations_end}

pub sequences_step : (coding : Coding) (rows : List Registers) (r : Registers) (lengths bytes rest : List ℕ) (op : LineOp)
    → op_at coding.opcode_base lengths bytes ≡ Ok (op, rest)
    → sequences_from coding rows r (operations coding.opcode_base lengths bytes)
    ≡ sequences_behind (λ r. sequences_from coding rows r (operations coding.opcode_base lengths rest))
    (sequences coding (operations coding.opcode_base lengths rest)) rows (effect_of op) (after_op coding op r)
unfolding sequences_from
sequences_step coding rows r lengths bytes rest op e =
    ap (sequences_from coding rows r) (operations_step coding.opcode_base lengths bytes rest op e)

pub sequences_none : (coding : Coding) (rows : List Registers) (r : Registers) (ops : List LineOp) → ops ≡ []
    → sequences_from coding rows r ops ≡ []
unfolding sequences_from
sequences_none coding rows r ops e = ap (sequences_from coding rows r) e

-- While no state is kept, there was no row, and a state is due.
abbrev pub FirstDue : Option ℕ → Due → List Kept → Type 0
FirstDue last due [] = (last ≡ None) × (due.row ≡ 0)
FirstDue last due (k ∷ kept) = Unit {0}

-- None of the rows so far is above the last one.
abbrev pub AreUpTo : Option ℕ → ℕ → List Registers → Type 0
AreUpTo None count whole = count ≡ 0
AreUpTo (Some last) count whole = AllBelow (last + 1) (take count whole)

below_nothing : (m : ℕ) (rows : List Registers) → AllBelow m (take zero rows)
below_nothing m [] = tt
below_nothing m (x ∷ rows) = tt

below_more : (m n : ℕ) (rows : List Registers) → m ≤ n → AllBelow m rows → AllBelow n rows
below_more m n [] le b = tt
below_more m n (r ∷ rows) le b = let i : r.address < m = b.0 in (omega arith, below_more m n rows le b.1)

up_to_below : (last : Option ℕ) (count m : ℕ) (whole : List Registers) → AreUpTo last count whole →
    ((n : ℕ) → last ≡ Some n → n < m) → AllBelow m (take count whole)
up_to_below None count m whole up h = subst (λ (n : ℕ). AllBelow m (take n whole)) (sym up) (below_nothing m whole)
up_to_below (Some n) count m whole up h = let i : n < m = h n refl in below_more (n + 1) m (take count whole) (omega arith) up

below_next : (n m : ℕ) (whole : List Registers) (next : Registers) (more : List Registers) → drop n whole ≡ next ∷ more →
    AllBelow m (take n whole) → next.address < m → AllBelow m (take (suc n) whole)
below_next n m [] next more e b h = tt
below_next zero m (x ∷ whole) next more e b h =
    let same : next ≡ x = cc in
    (subst (λ (r : Registers). r.address < m) same h, below_nothing m whole)
below_next (suc n) m (x ∷ whole) next more e b h = (b.0, below_next n m whole next more e b.1 h)

above_last : (last : Option ℕ) (m n : ℕ) → is_above last m ≡ true → last ≡ Some n → n < m
above_last None m n t e = absurd (cc)
above_last (Some last) m n t e = let same : last ≡ n = cc in let h : last < m = ltb-true last m t in omega arith

follows_last : (last : Option ℕ) (m n : ℕ) → follows last m ≡ true → last ≡ Some n → n < m + 1
follows_last None m n t e = absurd (cc)
follows_last (Some last) m n t e = let same : last ≡ n = cc in let h : last ≤ m = leb-true last m t in omega arith

-- The invariant of the walk over the sequence that begins at `place`.
pub record OnWay (coding : Coding) (lengths bytes : List ℕ) (place : ℕ) (whole : List Registers) (left : List ℕ) (r : Registers) (count : ℕ)
    (last : Option ℕ) (due : Due) (kept : List Kept) : Type 0 where
  pub on : length left + place ≤ length bytes
  pub behind : left ≡ drop (length bytes - length left) bytes
  pub others : sequences_from coding whole r (operations coding.opcode_base lengths left) ≡ sequences coding
      (operations coding.opcode_base lengths (drop place bytes))
  pub rows : rows_from coding r (operations coding.opcode_base lengths left) ≡ drop count whole
  pub counted : count + length left ≤ length bytes
  pub reached : count ≤ length whole
  pub states : AreKept coding lengths bytes whole kept
  pub begins : Begins count kept
  pub low : (j : ℕ) (d : Kept) → j < length kept → (get_or kept j d).index < count
  pub first : FirstDue last due kept
  pub up_to : AreUpTo last count whole

pub way_sets : (coding : Coding) (lengths bytes : List ℕ) (place : ℕ) (whole : List Registers) (left : List ℕ) (r : Registers) (count : ℕ)
    (last : Option ℕ) (due : Due) (kept : List Kept) (rest : List ℕ) (op : LineOp) (next : Registers)
    → OnWay coding lengths bytes place whole left r count last due kept → op_at coding.opcode_base lengths left ≡ Ok (op, rest)
    → Sets ≡ effect_of op → Some next ≡ after_op coding op r
    → OnWay coding lengths bytes place whole rest next count last due kept
way_sets coding lengths bytes place whole left r count last due kept rest op next w read is after =
    let h : length rest + 1 ≤ length left = (op_shortens coding.opcode_base lengths left).shorter op rest read in
    let b : rest ≡ drop (length left - length rest) left = (op_shortens coding.opcode_base lengths left).behind op rest read in
    let others : List Sequence = sequences coding (operations coding.opcode_base lengths rest) in
    record {
      on = omega arith;
      behind = twice bytes left rest (omega arith) (omega arith) w.behind b;
      others = ap (λ (e : Effect). sequences_behind
          (λ r. sequences_from coding whole r (operations coding.opcode_base lengths rest)) others whole e (Some next)) is
          ∙ ap (λ (o : Option Registers). sequences_behind
          (λ r. sequences_from coding whole r (operations coding.opcode_base lengths rest)) others whole (effect_of op) o) after
          ∙ sym (sequences_step coding whole r lengths left rest op read) ∙ w.others;
      rows = ap (λ (e : Effect). rows_behind (λ r. rows_from coding r (operations coding.opcode_base lengths rest)) e (Some next)) is
          ∙ ap (λ (o : Option Registers). rows_behind (λ r. rows_from coding r (operations coding.opcode_base lengths rest))
          (effect_of op) o) after
          ∙ sym (rows_step coding r lengths left rest op read) ∙ w.rows;
      counted = omega arith;
      reached = w.reached;
      states = w.states;
      begins = w.begins;
      low = w.low;
      first = w.first;
      up_to = w.up_to;
    }

-- One more state, whose row isn't before another's.
kept_snoc : (coding : Coding) (lengths bytes : List ℕ) (rows : List Registers) (kept : List Kept) (k : Kept)
    → AreKept coding lengths bytes rows kept
    → IsBefore coding lengths bytes rows k.index k → ((j : ℕ) (d : Kept) → j < length kept → (get_or kept j d).index < k.index)
    → AreKept coding lengths bytes rows (kept ++ k ∷ [])
kept_snoc coding lengths bytes rows kept k a b low = record {
  each = λ j d h. ⊎_elim
      (λ (lt : j < length kept). subst (λ (x : Kept). IsBefore coding lengths bytes rows x.index x)
      (sym (get_or-append kept (k ∷ []) d j lt)) (a.each j d lt))
      (λ (ge : length kept ≤ j). subst (λ (x : Kept). IsBefore coding lengths bytes rows x.index x) (sym (last j d ge h)) b)
      (cases_lt j (length kept));
  rise = λ i j d le h. ⊎_elim
      (λ (lt : j < length kept).
      let same_i : get_or (kept ++ k ∷ []) i d ≡ get_or kept i d = get_or-append kept (k ∷ []) d i (omega arith) in
      let same_j : get_or (kept ++ k ∷ []) j d ≡ get_or kept j d = get_or-append kept (k ∷ []) d j lt in
      subst (λ (x : Kept). x.index ≤ (get_or (kept ++ k ∷ []) j d).index) (sym same_i)
      (subst (λ (x : Kept). (get_or kept i d).index ≤ x.index) (sym same_j) (a.rise i j d le lt)))
      (λ (ge : length kept ≤ j).
      subst (λ (x : Kept). (get_or (kept ++ k ∷ []) i d).index ≤ x.index) (sym (last j d ge h)) (up_to i d (omega arith)))
      (cases_lt j (length kept));
}
  where
    last : (j : ℕ) (d : Kept) → length kept ≤ j → j < length (kept ++ k ∷ []) → get_or (kept ++ k ∷ []) j d ≡ k
    last j d ge h = get_or_push kept k d j (omega (arith, length-append kept (k ∷ []), h, ge))

    up_to : (i : ℕ) (d : Kept) → i < length (kept ++ k ∷ []) → (get_or (kept ++ k ∷ []) i d).index ≤ k.index
    up_to i d h = ⊎_elim
        (λ (lt : i < length kept).
        let l : (get_or kept i d).index < k.index = low i d lt in
        subst (λ (x : Kept). x.index ≤ k.index) (sym (get_or-append kept (k ∷ []) d i lt)) (omega arith))
        (λ (ge : length kept ≤ i). subst (λ (x : Kept). x.index ≤ k.index) (sym (last i d ge h)) (omega arith))
        (cases_lt i (length kept))

next_of : (n : ℕ) (l : List Registers) (x : Registers) (xs : List Registers) → drop n l ≡ x ∷ xs → (n < length l) × (xs ≡ drop (n + 1) l)
next_of n l x xs e = grind (arith, common_steps, length-drop n l, drop-drop 1 n l)

-- One more state, if one is due.
pub record KeptMore (coding : Coding) (lengths bytes : List ℕ) (whole : List Registers) (count : ℕ) (last : Option ℕ) (due : Due)
    (new : List Kept) : Type 0 where
  pub states : AreKept coding lengths bytes whole new
  pub begins : Begins (count + 1) new
  pub low : (j : ℕ) (d : Kept) → j < length new → (get_or new j d).index < count + 1
  pub first : FirstDue last due new

begins_more : (count : ℕ) (due : Due) (kept : List Kept) (k : Kept) → k.index ≡ count → Begins count kept
    → Begins (count + 1) (kept ++ k ∷ [])
begins_more count due [] k e b = record { none = λ h. absurd (omega arith); first = λ d h. e ∙ b.none refl }
begins_more count due (x ∷ kept) k e b = record { none = λ h. absurd (omega arith); first = λ d h. b.first d (omega arith) }

some_due : (last : Option ℕ) (due : Due) (kept : List Kept) (k : Kept) → FirstDue last due (kept ++ k ∷ [])
some_due last due [] k = tt
some_due last due (x ∷ kept) k = tt

begins_on : (count : ℕ) (last then : Option ℕ) (due next : Due) (kept : List Kept) (k : Kept)
    → (is_due due k && is_above last k.address) ≡ false → FirstDue last due kept → Begins count kept
    → Begins (count + 1) kept × FirstDue then next kept
begins_on count last then due next [] k t first b =
    let now : nat_le due.row k.index ≡ true = grind (arith, nat_tests, first.1) in
    absurd (cc (sym (ap (λ (x : Bool). (x || nat_le due.place k.place) && is_above last k.address) now
    ∙ ap (λ (o : Option ℕ). is_above o k.address) first.0) ∙ t))
begins_on count last then due next (x ∷ kept) k t first b =
    (record { none = λ h. absurd (omega arith); first = λ d h. b.first d (omega arith) }, tt)

more_kept : (coding : Coding) (lengths bytes : List ℕ) (whole : List Registers) (count : ℕ) (kept new : List Kept)
    (last then : Option ℕ) (due next : Due) (k : Kept)
    → (test : Bool) → (is_due due k && is_above last k.address) ≡ test → new ≡ cond test (kept ++ k ∷ []) kept → k.index ≡ count
    → (is_above last k.address ≡ true → IsBefore coding lengths bytes whole count k)
    → AreKept coding lengths bytes whole kept → Begins count kept → ((j : ℕ) (d : Kept) → j < length kept → (get_or kept j d).index < count)
    → FirstDue last due kept → KeptMore coding lengths bytes whole count then next new
more_kept coding lengths bytes whole count kept new last then due next k true t e n b a begins low first =
    subst (KeptMore coding lengths bytes whole count then next) (sym e) (record {
      states = kept_snoc coding lengths bytes whole kept k a
          (subst (λ (m : ℕ). IsBefore coding lengths bytes whole m k) (sym n) (b (and_parts (is_due due k) (is_above last k.address) t).1))
          (λ j d h. subst (λ (m : ℕ). (get_or kept j d).index < m) (sym n) (low j d h));
      begins = begins_more count due kept k n begins;
      low = λ j d h. ⊎_elim
          (λ (lt : j < length kept).
          let l : (get_or kept j d).index < count = low j d lt in
          subst (λ (x : Kept). x.index < count + 1) (sym (get_or-append kept (k ∷ []) d j lt)) (omega arith))
          (λ (ge : length kept ≤ j).
          subst (λ (x : Kept). x.index < count + 1) (sym (get_or_push kept k d j (omega (arith, length-append kept (k ∷ []), h, ge))))
          (omega (arith, n)))
          (cases_lt j (length kept));
      first = some_due then next kept k;
    })
more_kept coding lengths bytes whole count kept new last then due next k false t e n b a begins low first =
    let on = begins_on count last then due next kept k t first begins in
    subst (KeptMore coding lengths bytes whole count then next) (sym e) (record {
      states = a;
      begins = on.0;
      low = λ j d h. let l : (get_or kept j d).index < count = low j d h in omega arith;
      first = on.1;
    })

pub way_appends : (coding : Coding) (lengths bytes : List ℕ) (place : ℕ) (whole : List Registers) (left : List ℕ) (r : Registers)
    (count : ℕ) (last : Option ℕ) (due : Due) (kept : List Kept) (rest : List ℕ) (op : LineOp) (next present : Registers)
    (new : List Kept) (then : Due) (k : Kept)
    → OnWay coding lengths bytes place whole left r count last due kept → op_at coding.opcode_base lengths left ≡ Ok (op, rest)
    → Appends ≡ effect_of op → Some next ≡ after_op coding op r
    → present ≡ after_row next → k ≡ record { place = length bytes - length left; index = count; registers = r; address = next.address }
    → follows last next.address ≡ true → new ≡ kept_more due last k kept
    → OnWay coding lengths bytes place whole rest present (count + 1) (Some next.address) then new
way_appends coding lengths bytes place whole left r count last due kept rest op next present new then k w read is after p kis follow e =
    let h : length rest + 1 ≤ length left = (op_shortens coding.opcode_base lengths left).shorter op rest read in
    let b : rest ≡ drop (length left - length rest) left = (op_shortens coding.opcode_base lengths left).behind op rest read in
    let on : length left + place ≤ length bytes = w.on in
    let others : List Sequence = sequences coding (operations coding.opcode_base lengths rest) in
    let more : List Registers = rows_from coding (after_row next) (operations coding.opcode_base lengths rest) in
    let step : next ∷ more ≡ rows_from coding r (operations coding.opcode_base lengths left) =
    ap (λ (e : Effect). rows_behind (λ r. rows_from coding r (operations coding.opcode_base lengths rest)) e (Some next)) is
    ∙ ap (λ (o : Option Registers). rows_behind (λ r. rows_from coding r (operations coding.opcode_base lengths rest)) (effect_of op) o)
    after
    ∙ sym (rows_step coding r lengths left rest op read) in
    let here : drop count whole ≡ next ∷ more = sym (step ∙ w.rows) in
    let tail : (count < length whole) × (more ≡ drop (count + 1) whole) = next_of count whole next more here in
    let state : is_above last next.address ≡ true → IsBefore coding lengths bytes whole count
    (record { place = length bytes - length left; index = count; registers = r; address = next.address }) = λ above. record {
      within = omega arith;
      some = tail.0;
      follow = ap (λ (l : List ℕ). rows_from coding r (operations coding.opcode_base lengths l)) (sym w.behind) ∙ w.rows;
      address = ap (λ (l : List Registers). first_address l 0) here;
      above = below_all next.address (take count whole)
          (up_to_below last count next.address whole w.up_to (λ n. above_last last next.address n above));
    } in
    let kept_now : KeptMore coding lengths bytes whole count (Some next.address) then new =
    more_kept coding lengths bytes whole count kept new last (Some next.address) due then k (is_due due k && is_above last k.address) refl e
    (ap (λ (x : Kept). x.index) kis)
    (subst (λ (x : Kept). is_above last x.address ≡ true → IsBefore coding lengths bytes whole count x) (sym kis) state)
    w.states w.begins w.low w.first in
    let one : suc count ≡ count + 1 = omega arith in
    record {
      on = omega arith;
      behind = twice bytes left rest (omega arith) (omega arith) w.behind b;
      others = ap (λ (q : Registers). sequences_from coding whole q (operations coding.opcode_base lengths rest)) p
          ∙ ap (λ (e : Effect). sequences_behind
          (λ r. sequences_from coding whole r (operations coding.opcode_base lengths rest)) others whole e (Some next)) is
          ∙ ap (λ (o : Option Registers). sequences_behind
          (λ r. sequences_from coding whole r (operations coding.opcode_base lengths rest)) others whole (effect_of op) o) after
          ∙ sym (sequences_step coding whole r lengths left rest op read) ∙ w.others;
      rows = ap (λ (q : Registers). rows_from coding q (operations coding.opcode_base lengths rest)) p ∙ tail.1;
      counted = let c : count + length left ≤ length bytes = w.counted in omega arith;
      reached = let t : count < length whole = tail.0 in omega arith;
      states = kept_now.states;
      begins = kept_now.begins;
      low = kept_now.low;
      first = kept_now.first;
      up_to = subst (λ (n : ℕ). AllBelow (next.address + 1) (take n whole)) one
          (below_next count (next.address + 1) whole next more here
          (up_to_below last count (next.address + 1) whole w.up_to (λ n. follows_last last next.address n follow)) (omega arith));
    }

-- The sequence ends here.
pub record Ended (coding : Coding) (lengths bytes : List ℕ) (place : ℕ) (whole : List Registers) (end next count : ℕ)
    (kept : List Kept) (rest : List ℕ) : Type 0 where
  pub sequence : sequences coding
      (operations coding.opcode_base lengths (drop place bytes)) ≡ record { rows = whole; end = end } ∷ sequences coding
      (operations coding.opcode_base lengths (drop next bytes))
  pub states : AreKept coding lengths bytes whole kept
  pub begins : Begins (length whole) kept
  pub counted : count ≡ length whole
  pub on : (place < next) × (next ≤ length bytes)
  pub behind : rest ≡ drop next bytes

pub way_ends : (coding : Coding) (lengths bytes : List ℕ) (place : ℕ) (whole : List Registers) (left : List ℕ) (r : Registers) (count : ℕ)
    (last : Option ℕ) (due : Due) (kept : List Kept) (rest : List ℕ) (op : LineOp) (next : Registers)
    → OnWay coding lengths bytes place whole left r count last due kept → op_at coding.opcode_base lengths left ≡ Ok (op, rest)
    → Ends ≡ effect_of op → Some next ≡ after_op coding op r
    → Ended coding lengths bytes place whole next.address (length bytes - length rest) count kept rest
way_ends coding lengths bytes place whole left r count last due kept rest op next w read is after =
    let h : length rest + 1 ≤ length left = (op_shortens coding.opcode_base lengths left).shorter op rest read in
    let b : rest ≡ drop (length left - length rest) left = (op_shortens coding.opcode_base lengths left).behind op rest read in
    let on : length left + place ≤ length bytes = w.on in
    let behind : rest ≡ drop (length bytes - length rest) bytes = twice bytes left rest (omega arith) (omega arith) w.behind b in
    let none : [] ≡ drop count whole =
    ap (λ (e : Effect). rows_behind (λ r. rows_from coding r (operations coding.opcode_base lengths rest)) e (Some next)) is
    ∙ ap (λ (o : Option Registers). rows_behind (λ r. rows_from coding r (operations coding.opcode_base lengths rest)) (effect_of op) o)
    after
    ∙ sym (rows_step coding r lengths left rest op read) ∙ w.rows in
    let empty : 0 ≡ length whole - count = ap length none ∙ length-drop count whole in
    let reached : count ≤ length whole = w.reached in
    let all : count ≡ length whole = omega arith in
    let others : List Sequence = sequences coding (operations coding.opcode_base lengths rest) in
    record {
      sequence = sym w.others ∙ sequences_step coding whole r lengths left rest op read
          ∙ sym (ap (λ (o : Option Registers). sequences_behind
          (λ r. sequences_from coding whole r (operations coding.opcode_base lengths rest)) others whole (effect_of op) o) after)
          ∙ sym (ap (λ (e : Effect). sequences_behind
          (λ r. sequences_from coding whole r (operations coding.opcode_base lengths rest)) others whole e (Some next)) is)
          ∙ ap (λ (l : List ℕ). record { rows = whole; end = next.address } ∷ sequences coding (operations coding.opcode_base lengths l))
          behind;
      states = w.states;
      begins = subst (λ (n : ℕ). Begins n kept) all w.begins;
      counted = all;
      on = (omega arith, omega arith);
      behind = behind;
    }

pub way_out : (coding : Coding) (lengths bytes : List ℕ) (place : ℕ) (whole : List Registers) (left : List ℕ) (r : Registers) (count : ℕ)
    (last : Option ℕ) (due : Due) (kept : List Kept)
    → OnWay coding lengths bytes place whole left r count last due kept → length left ≡ 0
    → sequences coding (operations coding.opcode_base lengths (drop place bytes)) ≡ []
way_out coding lengths bytes place whole left r count last due kept w e =
    sym w.others ∙ sequences_none coding whole r _ (operations_end coding.opcode_base lengths left e)

-- The address of the first row, by the states.
pub low_is : (coding : Coding) (lengths bytes : List ℕ) (rows : List Registers) (kept : List Kept) (end : ℕ)
    → AreKept coding lengths bytes rows kept
    → Begins (length rows) kept → low_of kept end ≡ first_address rows end
low_is coding lengths bytes [] [] end a b = refl
low_is coding lengths bytes [] (k ∷ kept) end a b = let h : k.index < 0 = (a.each 0 k (omega arith)).some in absurd (omega arith)
low_is coding lengths bytes (r ∷ rows) [] end a b = let h : length (r ∷ rows) ≡ 0 = b.none refl in absurd (omega arith)
low_is coding lengths bytes (r ∷ rows) (k ∷ kept) end a b =
    sym (sym (ap (λ (n : ℕ). first_address (drop n (r ∷ rows)) 0) (b.first k (omega arith))) ∙ (a.each 0 k (omega arith)).address)

pub is_kept : (coding : Coding) (lengths bytes : List ℕ) (place end next low count : ℕ) (kept : List Kept) (rest : List ℕ)
    (k : KeptSequence)
    → Ended coding lengths bytes place (rows_at_place coding lengths bytes (start coding) place) end next count kept rest
    → k.place ≡ place → k.end ≡ end → k.low ≡ low → low ≡ low_of kept end → k.rows ≡ count → k.kept.items ≡ kept
    → IsKept coding lengths bytes k
is_kept coding lengths bytes place end next low count kept rest k w p e l m n s =
    let rows : ℕ → List Registers = λ p. rows_at_place coding lengths bytes (start coding) p in
    record {
      states = subst (λ (p : ℕ). AreKept coding lengths bytes (rows p) k.kept.items) (sym p)
          (subst (AreKept coding lengths bytes (rows place)) (sym s) w.states);
      begins = subst (λ (p : ℕ). Begins (length (rows p)) k.kept.items) (sym p) (subst (Begins (length (rows place))) (sym s) w.begins);
      count = n ∙ w.counted ∙ sym (ap (λ (p : ℕ). length (rows p)) p);
      low = l ∙ m ∙ low_is coding lengths bytes (rows place) kept end w.states w.begins
          ∙ sym (ap (λ (p : ℕ). first_address (rows p) end) p) ∙ sym (ap (first_address (rows k.place)) e);
    }

-- The sequences from an offset on, one at a time

module _ (coding : Coding) (lengths bytes : List ℕ) where
  abbrev from : ℕ → List Sequence
  from place = sequences coding (operations coding.opcode_base lengths (drop place bytes))

  abbrev told : List KeptSequence → List Sequence
  told ks = map (told_sequence coding lengths bytes) ks

  pub sequences_more : (ks new : List KeptSequence) (k : KeptSequence) (place next : ℕ) (all : List Sequence)
      → map (told_sequence coding lengths bytes) ks ++ sequences coding (operations coding.opcode_base lengths (drop place bytes)) ≡ all
      → sequences coding (operations coding.opcode_base lengths (drop place bytes))
      ≡ told_sequence coding lengths bytes k ∷ sequences coding (operations coding.opcode_base lengths (drop next bytes))
      → new ≡ ks ++ k ∷ []
      → map (told_sequence coding lengths bytes) new ++ sequences coding (operations coding.opcode_base lengths (drop next bytes)) ≡ all
  sequences_more ks new k place next all inv e n =
      ap (λ (l : List KeptSequence). told l ++ from next) n
      ∙ ap (λ (l : List Sequence). l ++ from next) (map-append (told_sequence coding lengths bytes) ks (k ∷ []))
      ∙ append_assoc (told ks) (told_sequence coding lengths bytes k ∷ []) (from next)
      ∙ sym (ap (λ (l : List Sequence). told ks ++ l) e) ∙ inv

  pub sequences_stop : (ks : List KeptSequence) (place : ℕ) (all : List Sequence)
      → map (told_sequence coding lengths bytes) ks ++ sequences coding (operations coding.opcode_base lengths (drop place bytes)) ≡ all
      → sequences coding (operations coding.opcode_base lengths (drop place bytes)) ≡ [] → all ≡ map (told_sequence coding lengths bytes) ks
  sequences_stop ks place all inv e = sym inv ∙ ap (λ (l : List Sequence). told ks ++ l) e ∙ append-nil (told ks)

  pub sequences_out : (place : ℕ) → length bytes ≤ place → sequences coding (operations coding.opcode_base lengths (drop place bytes)) ≡ []
  sequences_out place h =
      let none : length (drop place bytes) ≡ 0 = omega (arith, length-drop place bytes) in
      sequences_none coding (rows_from coding (start coding) (operations coding.opcode_base lengths (drop place bytes))) (start coding)
      (operations coding.opcode_base lengths (drop place bytes))
      (operations_end coding.opcode_base lengths (drop place bytes) none)
