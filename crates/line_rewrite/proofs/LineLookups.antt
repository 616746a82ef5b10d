-- The answers of a kept line table at an address, and the unit at an offset.
use Rattle.std.proofs.Common.{◌≡◌, ◌∙◌, ◌≤◌, ◌<◌, ◌-◌, ◌==◌, ℕ, zero, suc, Bool, true, List, [], ◌∷◌, Option, Some, None, refl, sym, ap}
use Rattle.std.proofs.Common.{arith, map, option_map, subst, length, get_or, ◌⊎◌, inl, inr}
use Rattle.std.specs.Prelude.{All, find, slice_get, option_and_then, filter_map, nat_lt}
use Rattle.std.proofs.lemmas.Option.{slice_get-map, slice_get_read, slice_get_past, same_Some}
use Rattle.std.proofs.lemmas.Bool.Decides.{nat_tests}
use Rattle.std.proofs.lemmas.List.Elements.{All-head, All-tail}
use Rattle.std.proofs.lemmas.Bool.{and_parts}
use Rattle.answer_runs.specs.declared.first_range.FirstRange.{FirstRange}
use Rattle.answer_runs.specs.AddressRanges.{holds_address}
use Rattle.answer_runs.specs.FirstRanges.{first_range}
use Rattle.answer_runs.proofs.FoundFirst.{found_first}
use Rattle.table_core.specs.DebugUnits.{Walked, walked}
use Rattle.line_rewrite.specs.declared.kept.Kept.{Kept}
use Rattle.line_rewrite.specs.declared.kept.KeptSequence.{KeptSequence}
use Rattle.line_rewrite.specs.declared.near.NearRows.{NearRows}
use Rattle.line_rewrite.specs.declared.registers.Registers.{Registers}
use Rattle.line_rewrite.specs.declared.sequence_index.Place.{Place}
use Rattle.line_rewrite.specs.declared.sequence_index.SequenceIndex.{SequenceIndex}
use Rattle.line_rewrite.specs.declared.unit.Unit as kept
use Rattle.line_rewrite.specs.LineMachine.{Sequence, start, sound_from, in_force}
use Rattle.line_rewrite.specs.Operations.{operations, is_whole}
use Rattle.line_rewrite.specs.LineAnswers.{LineSaid, line_units, row_said, said_at}
use Rattle.line_rewrite.specs.LineUnits.{LineUnit, unit_in}
use Rattle.line_rewrite.specs.FilePaths.{file_path, path_at}
use Rattle.line_rewrite.specs.KeptUnits.{told_unit}
use Rattle.line_rewrite.specs.Keeping.{AreKept, Begins}
use Rattle.line_rewrite.specs.SequenceIndex.{all_numbered, kept_range, place_of, IsIndexOf, numbered_at, unit_sequence, AreRowsAt}
use Rattle.line_rewrite.specs.SequenceViews.{kept_at}
use Rattle.line_rewrite.specs.Tables.{LineSections, line_at}
use Rattle.line_rewrite.specs.UnitLists.{place_range, AreLines}
use Rattle.line_rewrite.specs.NearRows.{AreNear, IsNear, Reaches, said_by}
use Rattle.line_rewrite.specs.Walks.{Ascends}
use Rattle.line_rewrite.proofs.Ascending.{Follow, AllFollow, sequences_follow, follow_ascends}
use Rattle.line_rewrite.proofs.FirstSequence.{IsUnitKept, numbered_said, said_found, Stands, found_stands}
use Rattle.line_rewrite.proofs.LineFaults.{units_are, there_at}

pub all_at : {X : Type 0} (P : X → Type 0) (xs : List X) (i : ℕ) (x : X) → All P xs → slice_get xs i ≡ Some x → P x
all_at P [] i x are e = absurd (cc)
all_at P (y ∷ xs) zero x are e = let same : y ≡ x = cc in subst P same (All-head P y xs are)
all_at P (y ∷ xs) (suc i) x are e = all_at P xs i x (All-tail P y xs are) e

-- a sequence of a unit

module _ (u : kept.Unit) (k : KeptSequence) (i : ℕ) (at : slice_get u.sequences.items i ≡ Some k) where
  pub sequence_kept : IsUnitKept u k
  sequence_kept = all_at (IsUnitKept u) u.sequences.items i k u.listed.kept at

  pub sequence_follows : Follow (length u.header.files.items) None (unit_sequence u k).rows
  sequence_follows =
      let base = u.header.coding.opcode_base in
      let files = length u.header.files.items in
      let ops = operations base u.header.lengths.items u.program.items in
      let sound : sound_from u.header.coding files None (start u.header.coding) ops ≡ true =
      (and_parts (is_whole base u.header.lengths.items u.program.items)
      (sound_from u.header.coding files None (start u.header.coding) ops) u.sound).1 in
      let all = sequences_follow u.header.coding files ops sound in
      let kept : AllFollow files (map (unit_sequence u) u.sequences.items) = subst (AllFollow files) u.listed.are all in
      all_at (λ (s : Sequence). Follow files None s.rows) (map (unit_sequence u) u.sequences.items) i (unit_sequence u k) kept
      (slice_get-map (unit_sequence u) u.sequences.items i ∙ ap (option_map (unit_sequence u)) at)

  pub sequence_ascends : Ascends 0 (unit_sequence u k).rows
  sequence_ascends = follow_ascends (length u.header.files.items) None (unit_sequence u k).rows sequence_follows

-- the answer at an address

then_map : {X Y : Type 0} (f : X → Y) (xs : List X) (o : Option ℕ)
    → option_and_then (slice_get (map f xs)) o ≡ option_map f (option_and_then (slice_get xs) o)
then_map f xs None = refl
then_map f xs (Some i) = slice_get-map f xs i

not_some : {X : Type 0} (x : X) → Some x ≡ None → ⊥
not_some x e = cc

none_of : {X Y : Type 0} (f : X → Y) (o : Option X) → option_map f o ≡ None → o ≡ None
none_of f None e = refl
none_of f (Some x) e = absurd (cc)

pub record Has {X Y : Type 0} (f : X → Y) (o : Option X) (y : Y) : Type 0 where
  pub x : X
  pub is : o ≡ Some x
  pub gives : f x ≡ y

some_of : {X Y : Type 0} (f : X → Y) (o : Option X) (y : Y) → option_map f o ≡ Some y → Has f o y
some_of f None y e = absurd (cc)
some_of f (Some x) y e = record { x = x; is = refl; gives = cc }

zero_off : (n : ℕ) → n - 0 ≡ n
zero_off n = omega arith

-- The sequence that the index finds

module _ (us : List kept.Unit) (index : SequenceIndex) (is : IsIndexOf us index) (a : ℕ) where
  abbrev pub place_at : Option Place
  place_at = option_and_then (slice_get index.places.items) (first_range index.first a)

  placed : place_at ≡ option_map place_of (numbered_at us a)
  placed =
      ap (λ (l : List Place). option_and_then (slice_get l) (first_range index.first a)) is.places
      ∙ then_map place_of (all_numbered 0 us) (first_range index.first a)
      ∙ ap (option_map place_of) (sym (found_first index.first kept_range (all_numbered 0 us) a (is.first a)))

  pub none_there : (o : Option Place) → o ≡ place_at → o ≡ None → numbered_at us a ≡ None
  none_there o e n = none_of place_of (numbered_at us a) (sym placed ∙ sym e ∙ n)

  module _ (o : Option Place) (p : Place) (e : o ≡ place_at) (some : o ≡ Some p) where
    pub here : Has place_of (numbered_at us a) p
    here = some_of place_of (numbered_at us a) p (sym placed ∙ sym e ∙ some)

    stands : Stands us 0 here.x
    stands = found_stands us a here.x here.is

    unit_here : slice_get us p.unit ≡ Some here.x.unit
    unit_here = ap (λ (q : Place). slice_get us q.unit) (sym here.gives) ∙ ap (slice_get us) (sym (zero_off here.x.number)) ∙ stands.unit

    sequence_here : slice_get here.x.unit.sequences.items p.sequence ≡ Some here.x.sequence
    sequence_here = ap (λ (q : Place). slice_get here.x.unit.sequences.items q.sequence) (sym here.gives) ∙ stands.sequence

    pub place_there : kept_at us p ≡ None → ⊥
    place_there n =
        let at : kept_at us p ≡ Some here.x.sequence =
        ap (option_and_then (λ (u : kept.Unit). slice_get u.sequences.items p.sequence)) unit_here ∙ sequence_here in
        not_some here.x.sequence (sym at ∙ n)

    module _ (u : kept.Unit) (at : slice_get us p.unit ≡ Some u) where
      same_unit : here.x.unit ≡ u
      same_unit = same_Some here.x.unit u (sym unit_here ∙ at)

      there : slice_get u.sequences.items p.sequence ≡ Some here.x.sequence
      there = ap (λ (v : kept.Unit). slice_get v.sequences.items p.sequence) (sym same_unit) ∙ sequence_here

      module _ (k : KeptSequence) (on : slice_get u.sequences.items p.sequence ≡ Some k) where
        same_sequence : here.x.sequence ≡ k
        same_sequence = same_Some here.x.sequence k (sym there ∙ on)

        pub found_there : (rows : List Registers) → rows ≡ in_force a (unit_sequence u k).rows → AreRowsAt us a p.unit rows
        found_there rows are = record {
          first = here.x;
          found = here.is;
          number = ap (λ (q : Place). q.unit) here.gives;
          unit = unit_here;
          rows = are ∙ λ i. in_force a (unit_sequence (sym same_unit i) (sym same_sequence i)).rows;
        }

-- items of lists, as they are looked up

below : (i n : ℕ) → true ≡ nat_lt i n → i < n
below i n t = grind (arith, nat_tests)

pub item_at : {X : Type 0} (xs kept : List X) (i : ℕ) (x : X) → true ≡ nat_lt i (length xs) → x ≡ get_or xs i x → xs ≡ kept
    → slice_get kept i ≡ Some x
item_at xs kept i x t e f = ap (λ ys. slice_get ys i) (sym f) ∙ slice_get_read xs (length xs) i x refl (below i (length xs) t) e

pub none_at : {X : Type 0} (xs kept : List X) (i : ℕ) → length xs ≤ i → xs ≡ kept → slice_get kept i ≡ None
none_at xs kept i h f = ap (λ ys. slice_get ys i) (sym f) ∙ slice_get_past xs i h

-- A kept sequence of a unit, and the view of it

module _ (u : kept.Unit) (k : KeptSequence) (i : ℕ) (at : slice_get u.sequences.items i ≡ Some k) (lengths program : List ℕ)
    (states : List Kept)
    (el : lengths ≡ u.header.lengths.items) (ep : program ≡ u.program.items) (es : states ≡ k.kept.items) where
  pub are_kept : AreKept u.header.coding lengths program (unit_sequence u k).rows states
  are_kept =
      subst (λ (l : List ℕ). AreKept u.header.coding l program (unit_sequence u k).rows states) (sym el)
      (subst (λ (p : List ℕ). AreKept u.header.coding u.header.lengths.items p (unit_sequence u k).rows states) (sym ep)
      (subst (AreKept u.header.coding u.header.lengths.items u.program.items (unit_sequence u k).rows) (sym es)
      (sequence_kept u k i at).states))

  pub begins_there : Begins (length (unit_sequence u k).rows) states
  begins_there = subst (Begins (length (unit_sequence u k).rows)) (sym es) (sequence_kept u k i at).begins

-- The same rows are in force at another address for which the remembered ones decide.
pub said_alike : (s : LineSections) (near : NearRows) (a x : ℕ) → IsNear s near → Reaches near a → a ≤ x → x ≤ near.high
    → in_force x near.rows.items ≡ in_force a near.rows.items → line_at s x ≡ line_at s a
said_alike s near a x is there from to same =
    is.said x (up_to near.low a x there.low from) to ∙ ap (said_by s near.unit) same ∙ sym (is.said a there.low there.high)
  where
    up_to : (low a x : ℕ) → low ≤ a → a ≤ x → low ≤ x
    up_to low a x h k = omega arith

-- the answer at an address

module _ (s : LineSections) (us : List kept.Unit) (index : SequenceIndex) (offsets : FirstRange) (are : AreLines s us index offsets) where
  pub says : (a : ℕ) → line_at s a ≡ option_map (numbered_said s.strings a) (numbered_at us a)
  says a =
      ap (λ (l : List LineUnit). said_at 0 l a) (units_are s.strings s.line us are.units)
      ∙ said_found s.strings a 0 us

  pub at_none : (a : ℕ) → numbered_at us a ≡ None → line_at s a ≡ None
  at_none a e = says a ∙ ap (option_map (numbered_said s.strings a)) e

  unit_told : (n : ℕ) → slice_get (line_units s.strings s.line) n ≡ option_map (told_unit s.strings) (slice_get us n)
  unit_told n =
      ap (λ (l : List LineUnit). slice_get l n) (units_are s.strings s.line us are.units) ∙ slice_get-map (told_unit s.strings) us n

  pub at_some : (a number : ℕ) (rows : List Registers) → AreRowsAt us a number rows → line_at s a ≡ said_by s number rows
  at_some a number rows found =
      let say : ℕ → List Registers → Option LineUnit → Option LineSaid =
      λ n l. option_map (λ u. record { unit = n; rows = filter_map (row_said u) l }) in
      says a ∙ ap (option_map (numbered_said s.strings a)) found.found
      ∙ (λ i. say (found.number i) (sym found.rows i) (Some (told_unit s.strings found.first.unit)))
      ∙ ap (say number rows) (sym (unit_told number ∙ ap (option_map (told_unit s.strings)) found.unit))

  -- remembered rows
  pub near_said : (old new : NearRows) → IsNear s old → (new ≡ old) ⊎ AreNear us new → IsNear s new
  near_said old new was (inl same) = subst (IsNear s) (sym same) was
  near_said old new was (inr found) = record {
    ascend = found.ascend;
    said = λ x low high. at_some x new.unit (in_force x new.rows.items) (found.found x low high);
  }

  pub said_there : (near : NearRows) (a : ℕ) (u : Option kept.Unit) (rows : List Registers) → IsNear s near → Reaches near a
      → slice_get us near.unit ≡ u → rows ≡ in_force a near.rows.items
      → option_map (λ v. record { unit = near.unit; rows = filter_map (row_said (told_unit s.strings v)) rows }) u ≡ line_at s a
  said_there near a None rows is reach at e =
      sym (is.said a reach.low reach.high
      ∙ ap (option_map (λ u. record { unit = near.unit; rows = filter_map (row_said u) (in_force a near.rows.items) }))
      (unit_told near.unit ∙ ap (option_map (told_unit s.strings)) at))
  said_there near a (Some u) rows is reach at e =
      ap (λ (l : List Registers). Some (record { unit = near.unit; rows = filter_map (row_said (told_unit s.strings u)) l })) e
      ∙ sym (is.said a reach.low reach.high
      ∙ ap (option_map (λ u. record { unit = near.unit; rows = filter_map (row_said u) (in_force a near.rows.items) }))
      (unit_told near.unit ∙ ap (option_map (told_unit s.strings)) at))

  -- the unit at an offset

  at_place : (w : Walked) (offset : ℕ) → (w.place == offset) ≡ holds_address offset (place_range w)
  at_place w offset = grind (arith, nat_tests)

  walked_at : (offset : ℕ)
      → find (λ (w : Walked). w.place == offset) (walked 5 s.line) ≡ option_and_then (slice_get (walked 5 s.line))
      (first_range offsets offset)
  walked_at offset =
      ap (λ (p : Walked → Bool). find p (walked 5 s.line)) (λ i w. at_place w offset i)
      ∙ found_first offsets place_range (walked 5 s.line) offset (are.placed offset)

  unit_at : (o : Option ℕ)
      → option_and_then (unit_in s.strings) (option_and_then (slice_get (walked 5 s.line)) o) ≡ option_map (told_unit s.strings)
      (option_and_then (slice_get us) o)
  unit_at None = refl
  unit_at (Some i) = there_at (unit_in s.strings) (told_unit s.strings) (walked 5 s.line) us i are.units.are

  path_is : (offset index : ℕ) → path_at s offset index
      ≡ option_and_then (λ (u : LineUnit). file_path u index)
      (option_map (told_unit s.strings) (option_and_then (slice_get us) (first_range offsets offset)))
  path_is offset index =
      ap (λ (o : Option Walked). option_and_then (λ (u : LineUnit). file_path u index) (option_and_then (unit_in s.strings) o))
      (walked_at offset)
      ∙ ap (option_and_then (λ (u : LineUnit). file_path u index)) (unit_at (first_range offsets offset))

  pub path_none : (offset index : ℕ) → None ≡ first_range offsets offset → path_at s offset index ≡ None
  path_none offset index e =
      path_is offset index
      ∙ sym (ap (λ (o : Option ℕ). option_and_then (λ (u : LineUnit). file_path u index)
      (option_map (told_unit s.strings) (option_and_then (slice_get us) o))) e)

  pub path_of_none : (offset index i : ℕ) → Some i ≡ first_range offsets offset → slice_get us i ≡ None → path_at s offset index ≡ None
  path_of_none offset index i e n =
      path_is offset index
      ∙ sym (ap (λ (o : Option ℕ). option_and_then (λ (u : LineUnit). file_path u index)
      (option_map (told_unit s.strings) (option_and_then (slice_get us) o))) e)
      ∙ ap (λ (o : Option kept.Unit). option_and_then (λ (u : LineUnit). file_path u index) (option_map (told_unit s.strings) o)) n

  pub path_of_some : (offset index i : ℕ) (u : kept.Unit) → Some i ≡ first_range offsets offset → slice_get us i ≡ Some u
      → path_at s offset index ≡ file_path (told_unit s.strings u) index
  path_of_some offset index i u e n =
      path_is offset index
      ∙ sym (ap (λ (o : Option ℕ). option_and_then (λ (u : LineUnit). file_path u index)
      (option_map (told_unit s.strings) (option_and_then (slice_get us) o))) e)
      ∙ ap (λ (o : Option kept.Unit). option_and_then (λ (u : LineUnit). file_path u index) (option_map (told_unit s.strings) o)) n
