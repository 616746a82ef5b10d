-- The first sequence of many units that covers an address.
use Rattle.std.proofs.Common.{◌≡◌, ◌∙◌, ◌≤◌, ◌+◌, ◌-◌, ℕ, zero, suc, Bool, true, false, cond, List, [], ◌∷◌, Option, Some, refl}
use Rattle.std.proofs.Common.{sym, ap, arith, map, drop, add-one, option_map, subst}
use Rattle.std.specs.Prelude.{All, find, slice_get}
use Rattle.std.specs.Option.{option_or}
use Rattle.std.proofs.lemmas.List.Elements.{All-nil, All-cons, All-head, All-tail, All-append, All-weaker}
use Rattle.std.proofs.lemmas.List.Folds.{find-append}
use Rattle.rb_bytes.proofs.Options.{mapped_or}
use Rattle.answer_runs.specs.AddressRanges.{holds_address}
use Rattle.line_rewrite.specs.declared.kept.KeptSequence.{KeptSequence}
use Rattle.line_rewrite.specs.declared.unit.Unit as kept
use Rattle.line_rewrite.specs.Entries.{Strings}
use Rattle.line_rewrite.specs.LineMachine.{Sequence}
use Rattle.line_rewrite.specs.LineAnswers.{LineSaid, range_of, rows_said, said_at}
use Rattle.line_rewrite.specs.KeptUnits.{told_unit}
use Rattle.line_rewrite.specs.KeptSequences.{IsKept}
use Rattle.line_rewrite.specs.SequenceIndex.{Numbered, numbered, unit_numbered, all_numbered, kept_range, unit_sequence}

abbrev pub IsUnitKept : kept.Unit → KeptSequence → Type 0
IsUnitKept u k = IsKept u.header.coding u.header.lengths.items u.program.items k

-- The answer of a sequence at an address.
abbrev pub numbered_said : Strings → ℕ → Numbered → LineSaid
numbered_said strings a x = record { unit = x.number; rows = rows_said (told_unit strings x.unit) a (unit_sequence x.unit x.sequence) }

pub map_cond : {X Y : Type 0} (f : X → Y) (b : Bool) (x : X) (o : Option X) →
    option_map f (cond b (Some x) o) ≡ cond b (Some (f x)) (option_map f o)
map_cond f true x o = refl
map_cond f false x o = refl

module _ (strings : Strings) (a n : ℕ) (u : kept.Unit) where
  say : Sequence → LineSaid
  say s = record { unit = n; rows = rows_said (told_unit strings u) a s }

  unit_found : (i : ℕ) (ks : List KeptSequence) → All (IsUnitKept u) ks
      → option_map say (find (λ s. holds_address a (range_of s)) (map (unit_sequence u) ks))
      ≡ option_map (numbered_said strings a) (find (λ x. holds_address a (kept_range x)) (numbered n u i ks))
  unfolding say numbered
  unit_found i [] are = refl
  unit_found i (k ∷ ks) are =
      let low : k.low ≡ (range_of (unit_sequence u k)).low = (All-head (IsUnitKept u) k ks are).low in
      let x : Numbered = record { number = n; index = i; unit = u; sequence = k } in
      let same : holds_address a (range_of (unit_sequence u k)) ≡ holds_address a (kept_range x) =
      ap (λ (l : ℕ). holds_address a (record { low = l; high = k.end })) (sym low) in
      map_cond say (holds_address a (range_of (unit_sequence u k))) (unit_sequence u k)
      (find (λ s. holds_address a (range_of s)) (map (unit_sequence u) ks))
      ∙ ap (λ (b : Bool). cond b (Some (say (unit_sequence u k)))
      (option_map say (find (λ s. holds_address a (range_of s)) (map (unit_sequence u) ks)))) same
      ∙ ap (cond (holds_address a (kept_range x)) (Some (say (unit_sequence u k))))
      (unit_found (i + 1) ks (All-tail (IsUnitKept u) k ks are))
      ∙ sym (map_cond (numbered_said strings a) (holds_address a (kept_range x)) x
      (find (λ x. holds_address a (kept_range x)) (numbered n u (i + 1) ks)))

  pub unit_said : option_map (λ s. record { unit = n; rows = rows_said (told_unit strings u) a s })
      (find (λ s. holds_address a (range_of s)) (told_unit strings u).sequences)
      ≡ option_map (numbered_said strings a) (find (λ x. holds_address a (kept_range x)) (unit_numbered n u))
  unfolding say
  unit_said =
      ap (λ (ss : List Sequence). option_map say (find (λ s. holds_address a (range_of s)) ss)) u.listed.are
      ∙ unit_found 0 u.sequences.items u.listed.kept

pub said_found : (strings : Strings) (a n : ℕ) (us : List kept.Unit)
    → said_at n (map (told_unit strings) us) a
    ≡ option_map (numbered_said strings a) (find (λ x. holds_address a (kept_range x)) (all_numbered n us))
unfolding all_numbered
said_found strings a n [] = refl
said_found strings a n (u ∷ us) =
    ap (λ (o : Option LineSaid). option_or o (said_at (n + 1) (map (told_unit strings) us) a)) (unit_said strings a n u)
    ∙ ap (option_or (option_map (numbered_said strings a) (find (λ x. holds_address a (kept_range x)) (unit_numbered n u))))
    (said_found strings a (n + 1) us)
    ∙ sym (mapped_or (numbered_said strings a) (find (λ x. holds_address a (kept_range x)) (unit_numbered n u))
    (find (λ x. holds_address a (kept_range x)) (all_numbered (n + 1) us)))
    ∙ sym (ap (option_map (numbered_said strings a)) (find-append (λ x. holds_address a (kept_range x)) (unit_numbered n u)
    (all_numbered (n + 1) us)))

-- The place of a numbered sequence

pub record Stands (us : List kept.Unit) (n : ℕ) (x : Numbered) : Type 0 where
  pub from : n ≤ x.number
  pub unit : slice_get us (x.number - n) ≡ Some x.unit
  pub sequence : slice_get x.unit.sequences.items x.index ≡ Some x.sequence

front_of : {X : Type 0} (xs : List X) (i : ℕ) (x : X) (rest : List X) → drop i xs ≡ x ∷ rest →
    (slice_get xs i ≡ Some x) × (drop (suc i) xs ≡ rest)
front_of [] zero x rest e = absurd (cc)
front_of [] (suc i) x rest e = absurd (cc)
front_of (y ∷ xs) zero x rest e = (cc, cc)
front_of (y ∷ xs) (suc i) x rest e = front_of xs i x rest e

unit_stands : (us : List kept.Unit) (n : ℕ) (u : kept.Unit) (i : ℕ) (ks : List KeptSequence) → drop i u.sequences.items ≡ ks
    → All (Stands (u ∷ us) n) (numbered n u i ks)
unfolding numbered
unit_stands us n u i [] e = All-nil (Stands (u ∷ us) n)
unit_stands us n u i (k ∷ ks) e =
    let f = front_of u.sequences.items i k ks e in
    let z : n - n ≡ 0 = omega arith in
    All-cons (Stands (u ∷ us) n) (record { number = n; index = i; unit = u; sequence = k }) (numbered n u (i + 1) ks)
    (record { from = omega arith; unit = ap (slice_get (u ∷ us)) z; sequence = f.0 })
    (unit_stands us n u (i + 1) ks (ap (λ (m : ℕ). drop m u.sequences.items) (add-one i) ∙ f.1))

further : (us : List kept.Unit) (u : kept.Unit) (n : ℕ) (x : Numbered) → Stands us (n + 1) x → Stands (u ∷ us) n x
further us u n x s =
    let from : n + 1 ≤ x.number = s.from in
    let one : x.number - n ≡ suc (x.number - (n + 1)) = omega arith in
    record { from = omega arith; unit = ap (slice_get (u ∷ us)) one ∙ s.unit; sequence = s.sequence }

all_stand : (n : ℕ) (us : List kept.Unit) → All (Stands us n) (all_numbered n us)
unfolding all_numbered
all_stand n [] = All-nil (Stands [] n)
all_stand n (u ∷ us) =
    All-append (Stands (u ∷ us) n) (unit_numbered n u) (all_numbered (n + 1) us) (unit_stands us n u 0 u.sequences.items refl)
    (All-weaker (Stands us (n + 1)) (Stands (u ∷ us) n) (further us u n) (all_numbered (n + 1) us) (all_stand (n + 1) us))

found_here : {X : Type 0} (P : X → Type 0) (y x : X) (b : Bool) (o : Option X) → P y → (o ≡ Some x → P x) → cond b (Some y) o ≡ Some x → P x
found_here P y x true o here more e = let same : y ≡ x = cc in subst P same here
found_here P y x false o here more e = more e

found_has : {X : Type 0} (P : X → Type 0) (p : X → Bool) (xs : List X) (x : X) → All P xs → find p xs ≡ Some x → P x
found_has P p [] x are e = absurd (cc)
found_has P p (y ∷ xs) x are e = found_here P y x (p y) (find p xs) (All-head P y xs are) (found_has P p xs x (All-tail P y xs are)) e

pub found_stands : (us : List kept.Unit) (a : ℕ) (x : Numbered) → find (λ x. holds_address a (kept_range x)) (all_numbered 0 us) ≡ Some x →
    Stands us 0 x
found_stands us a x e = found_has (Stands us 0) (λ x. holds_address a (kept_range x)) (all_numbered 0 us) x (all_stand 0 us) e
