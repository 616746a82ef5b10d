-- The answers of the sequences of written pieces at an address: the rows of the piece that contains it.
use Rattle.std.proofs.Common.{◌≡◌, ◌<◌, ◌≤◌, ◌==◌, ◌++◌, ◌&&◌, ℕ, List, [], ◌∷◌, refl, arith, sym, ◌∙◌, ap}
use Rattle.std.proofs.Common.{Bool, true, false, cond, nat_le, nat_lt, length, Option, Some, None, option_map, ◌⊎◌, inl, inr}
use Rattle.std.specs.Prelude.{find}
use Rattle.std.proofs.lemmas.Bool.Decides.{nat_tests}
use Rattle.std.proofs.lemmas.List.Elements.{filter-append}
use Rattle.answer_runs.specs.AddressRanges.{holds_address}
use Rattle.line_rewrite.specs.declared.registers.Registers.{Registers}
use Rattle.line_rewrite.specs.LineMachine.{Sequence, in_force, reached, greatest_address}
use Rattle.line_rewrite.specs.LineAnswers.{first_address, range_of}
use Rattle.line_rewrite.specs.WrittenPrograms.{Piece, piece_end}
use Rattle.line_rewrite.proofs.PieceSequences.{rows_on, end_on, strand_at, strand, others_on, strands}
use Rattle.line_rewrite.proofs.FirstSequence.{map_cond}
use Rattle.line_rewrite.proofs.InForce.{AllAt, AllBelow, at-below, front_drop, found_stay}
use Rattle.line_rewrite.proofs.Strands.{ArePieceRows, IsPiece, ArePieces}

abbrev pub has_address : ℕ → Piece → Bool
has_address p u = nat_le u.start p && nat_lt p (piece_end u)

abbrev pub holds : ℕ → Sequence → Bool
holds p s = holds_address p (range_of s)

all_at : (files a : ℕ) (rows : List Registers) → ArePieceRows files a rows → AllAt a rows
all_at files a [] are = tt
all_at files a (row ∷ rows) are = (are.1, all_at files a rows are.3)

first_is : (files a end : ℕ) (rows more : List Registers) → ArePieceRows files a rows → 0 < length rows
    → first_address (rows ++ more) end ≡ a
first_is files a end [] more are some = absurd (omega arith)
first_is files a end (row ∷ rows) more are some = are.1

-- A strand doesn't end before its first piece does.
pub ends_later : (files e : ℕ) (us : List Piece) → ArePieces files e us → e ≤ end_on e us
unfolding end_on
ends_later files e [] are = omega arith
ends_later files e (u ∷ us) are = by (e == u.start) (ends_later files (piece_end u) us are.2)
  where
    by : (b : Bool) → piece_end u ≤ end_on (piece_end u) us → e ≤ cond b (end_on (piece_end u) us) e
    by true more = let low : e ≤ u.start = are.1 in omega arith
    by false more = omega arith

-- Rows above an address aren't reached there.
above_reached : (files a p : ℕ) (rows more : List Registers) → ArePieceRows files a rows → p < a → reached p more ≡ []
    → reached p (rows ++ more) ≡ []
above_reached files a p [] more are h none = none
above_reached files a p (row ∷ rows) more are h none =
    let at : row.address ≡ a = are.1 in
    let t : nat_le row.address p ≡ false = grind (arith, nat_tests) in
    rw t (above_reached files a p rows more are.3 h none)

none_on : (files e p : ℕ) (us : List Piece) → ArePieces files e us → p < e → reached p (rows_on e us) ≡ []
unfolding rows_on
none_on files e p [] are h = refl
none_on files e p (u ∷ us) are h =
    let low : e ≤ u.start = are.1 in
    by (e == u.start) (none_on files (piece_end u) p us are.2 (omega arith))
  where
    by : (b : Bool) → reached p (rows_on (piece_end u) us) ≡ [] → reached p (cond b (u.rows ++ rows_on (piece_end u) us) []) ≡ []
    by true more =
        let low : e ≤ u.start = are.1 in
        above_reached files u.start p u.rows (rows_on (piece_end u) us) are.0.rows (omega arith) more
    by false more = refl

-- The first address of a strand.
strand_low : (files : ℕ) (u : Piece) (us : List Piece) → IsPiece files u → (range_of (strand_at u us)).low ≡ u.start
strand_low files u us piece = first_is files u.start (end_on (piece_end u) us) u.rows (rows_on (piece_end u) us) piece.rows piece.any

-- No strand after an address covers it.
pub not_above : (files p : ℕ) (u : Piece) (us : List Piece) → IsPiece files u → p < u.start → holds p (strand_at u us) ≡ false
not_above files p u us piece h =
    let low : (range_of (strand_at u us)).low ≡ u.start = strand_low files u us piece in
    let t : nat_le u.start p ≡ false = grind (arith, nat_tests) in
    rw (low, t) refl

none_others : (files e p : ℕ) (us : List Piece) → ArePieces files e us → p < e → find (holds p) (others_on e us) ≡ None
unfolding others_on
none_others files e p [] are h = refl
none_others files e p (u ∷ us) are h =
    let low : e ≤ u.start = are.1 in
    by (e == u.start) (none_others files (piece_end u) p us are.2 (omega arith))
  where
    passed_by : holds p (strand_at u us) ≡ false → find (holds p) (others_on (piece_end u) us) ≡ None
        → find (holds p) (strand_at u us ∷ others_on (piece_end u) us) ≡ None
    passed_by t rest = ap (λ (b : Bool). cond b (Some (strand_at u us)) (find (holds p) (others_on (piece_end u) us))) t ∙ rest

    by : (b : Bool) → find (holds p) (others_on (piece_end u) us) ≡ None
        → find (holds p) (cond b (others_on (piece_end u) us) (strand_at u us ∷ others_on (piece_end u) us)) ≡ None
    by true rest = rest
    by false rest =
        let low : e ≤ u.start = are.1 in
        passed_by (not_above files p u us are.0 (omega arith)) rest

pub none_pieces : (files lo p : ℕ) (us : List Piece) → ArePieces files lo us → p < lo → find (has_address p) us ≡ None
none_pieces files lo p [] are h = refl
none_pieces files lo p (u ∷ us) are h =
    let low : lo ≤ u.start = are.1 in
    let t : nat_le u.start p ≡ false = grind (arith, nat_tests) in
    rw t (none_pieces files (piece_end u) p us are.2 (omega arith))

abbrev pub strand_rows : ℕ → List Sequence → Option (List Registers)
strand_rows p ss = option_map (λ s. in_force p s.rows) (find (holds p) ss)

abbrev pub piece_rows : ℕ → List Piece → Option (List Registers)
piece_rows p us = option_map (λ u. u.rows) (find (has_address p) us)

-- A first strand that doesn't cover the address.
pub passed : (p : ℕ) (s : Sequence) (ss : List Sequence) → holds p s ≡ false → strand_rows p (s ∷ ss) ≡ strand_rows p ss
passed p s ss e = rw e refl

-- A first strand that covers it.
pub taken : (p : ℕ) (s : Sequence) (ss : List Sequence) → holds p s ≡ true → strand_rows p (s ∷ ss) ≡ Some (in_force p s.rows)
taken p s ss e = rw e refl

-- Two strands that agree in whether they cover it, and in their rows in force.
same_front : (p : ℕ) (s t : Sequence) (ss : List Sequence) → holds p s ≡ holds p t → in_force p s.rows ≡ in_force p t.rows
    → strand_rows p (s ∷ ss) ≡ strand_rows p (t ∷ ss)
same_front p s t ss h f =
    map_cond (λ s. in_force p s.rows) (holds p s) s (find (holds p) ss)
    ∙ ap (λ (b : Bool). cond b (Some (in_force p s.rows)) (strand_rows p ss)) h
    ∙ ap (λ (l : List Registers). cond (holds p t) (Some l) (strand_rows p ss)) f
    ∙ sym (map_cond (λ s. in_force p s.rows) (holds p t) t (find (holds p) ss))

where_is : (p a e : ℕ) → (p < a) ⊎ (((a ≤ p) × (p < e)) ⊎ ((a ≤ p) × (e ≤ p)))
where_is p a e = grind (arith, nat_tests)

same_addresses : (files a p : ℕ) (rows : List Registers) → ArePieceRows files a rows → 0 < length rows → a ≤ p
    → a ≤ greatest_address (reached p rows)
same_addresses files a p [] are some h = absurd (omega arith)
same_addresses files a p (row ∷ rows) are some h =
    let at : row.address ≡ a = are.1 in
    let t : nat_le row.address p ≡ true = grind (arith, nat_tests) in
    rw t (grind (arith, nat_tests))

greatest_more : (xs ys : List Registers) → greatest_address xs ≤ greatest_address (xs ++ ys)
greatest_more [] ys = omega arith
greatest_more (x ∷ xs) ys =
    let h : greatest_address xs ≤ greatest_address (xs ++ ys) = greatest_more xs ys in
    grind (arith, nat_tests)

and_none : (b : Bool) → (b && false) ≡ false
and_none true = refl
and_none false = refl

module _ (files p : ℕ) where
  -- The piece that opens a strand contains the address.
  first_has : (u : Piece) (us : List Piece) → IsPiece files u → ArePieces files (piece_end u) us → u.start ≤ p → p < piece_end u
      → strand_rows p (strand u us) ≡ Some u.rows
  first_has u us piece are low high =
      let start : (range_of (strand_at u us)).low ≡ u.start = strand_low files u us piece in
      let end : piece_end u ≤ end_on (piece_end u) us = ends_later files (piece_end u) us are in
      let t : nat_le u.start p ≡ true = grind (arith, nat_tests) in
      let s : nat_lt p (end_on (piece_end u) us) ≡ true = grind (arith, nat_tests) in
      let held : holds p (strand_at u us) ≡ true = rw (start, t, s) refl in
      taken p (strand_at u us) (others_on (piece_end u) us) held ∙ ap Some (force u.rows piece.rows piece.any)
    where
      force : (rows : List Registers) → ArePieceRows files u.start rows → 0 < length rows
          → in_force p (rows ++ rows_on (piece_end u) us) ≡ rows
      force [] at some = absurd (omega arith)
      force (row ∷ rows) at some =
          found_stay u.start p row rows (rows_on (piece_end u) us) (all_at files u.start (row ∷ rows) at) low
          (none_on files (piece_end u) p us are high)

  -- A piece before the address, in a strand that goes on.
  goes_on : (u v : Piece) (us : List Piece) → IsPiece files u → IsPiece files v → u.start ≤ p → piece_end u ≡ v.start → v.start ≤ p
      → strand_rows p (record { rows = u.rows ++ (v.rows ++ rows_on (piece_end v) us); end = end_on (piece_end v) us } ∷ others_on
      (piece_end v) us)
      ≡ strand_rows p (strand v us)
  goes_on u v us one two low touch high =
      same_front p (record { rows = u.rows ++ (v.rows ++ rows_on (piece_end v) us); end = end_on (piece_end v) us }) (strand_at v us)
      (others_on (piece_end v) us)
      hold (front_drop v.start p u.rows (v.rows ++ rows_on (piece_end v) us) below reach)
    where
      below : AllBelow v.start u.rows
      below =
          let some : 0 < u.len = one.some in
          at-below u.start v.start u.rows (all_at files u.start u.rows one.rows) (omega arith)

      reach : v.start ≤ greatest_address (reached p (v.rows ++ rows_on (piece_end v) us))
      reach =
          let split : reached p (v.rows ++ rows_on (piece_end v) us) ≡ reached p v.rows ++ reached p (rows_on (piece_end v) us) =
          filter-append (λ r. nat_le r.address p) v.rows (rows_on (piece_end v) us) in
          let h : v.start ≤ greatest_address (reached p v.rows) = same_addresses files v.start p v.rows two.rows two.any high in
          let k : greatest_address (reached p v.rows) ≤ greatest_address (reached p v.rows ++ reached p (rows_on (piece_end v) us)) =
          greatest_more (reached p v.rows) (reached p (rows_on (piece_end v) us)) in
          rw split (omega (arith, h, k))

      hold : holds p (record { rows = u.rows ++ (v.rows ++ rows_on (piece_end v) us); end = end_on (piece_end v) us }) ≡ holds p
          (strand_at v us)
      hold =
          let a : first_address (u.rows ++ (v.rows ++ rows_on (piece_end v) us)) (end_on (piece_end v) us) ≡ u.start =
          first_is files u.start (end_on (piece_end v) us) u.rows (v.rows ++ rows_on (piece_end v) us) one.rows one.any in
          let b : (range_of (strand_at v us)).low ≡ v.start = strand_low files v us two in
          let s : nat_le u.start p ≡ true = grind (arith, nat_tests) in
          let t : nat_le v.start p ≡ true = grind (arith, nat_tests) in
          ap (λ (n : ℕ). nat_le n p && nat_lt p (end_on (piece_end v) us)) a
          ∙ ap (λ (b : Bool). b && nat_lt p (end_on (piece_end v) us)) (s ∙ sym t)
          ∙ sym (ap (λ (n : ℕ). nat_le n p && nat_lt p (end_on (piece_end v) us)) b)

  -- A piece that ends before the address doesn't contain it.
  behind_piece : (u : Piece) (us : List Piece) → piece_end u ≤ p → piece_rows p (u ∷ us) ≡ piece_rows p us
  behind_piece u us h =
      let t : nat_lt p (piece_end u) ≡ false = grind (arith, nat_tests) in
      let both : has_address p u ≡ false = ap (λ (b : Bool). nat_le u.start p && b) t ∙ and_none (nat_le u.start p) in
      rw both refl

  touches : (e s : ℕ) → (e == s) ≡ true → e ≡ s
  touches e s t = grind (arith, nat_tests)

  before_first : (u : Piece) (us : List Piece) → IsPiece files u → ArePieces files (piece_end u) us → p < u.start
      → strand_rows p (strand u us) ≡ piece_rows p (u ∷ us)
  before_first u us piece are h =
      let low : nat_le u.start p ≡ false = grind (arith, nat_tests) in
      let none : find (has_address p) us ≡ None = none_pieces files (piece_end u) p us are (omega arith) in
      passed p (strand_at u us) (others_on (piece_end u) us) (not_above files p u us piece h)
      ∙ ap (option_map (λ (s : Sequence). in_force p s.rows)) (none_others files (piece_end u) p us are (omega arith))
      ∙ sym (rw (low, none) refl)

  at_first : (u : Piece) (us : List Piece) → IsPiece files u → ArePieces files (piece_end u) us → u.start ≤ p → p < piece_end u
      → strand_rows p (strand u us) ≡ piece_rows p (u ∷ us)
  at_first u us piece are from to =
      let low : nat_le u.start p ≡ true = grind (arith, nat_tests) in
      let high : nat_lt p (piece_end u) ≡ true = grind (arith, nat_tests) in
      first_has u us piece are from to ∙ sym (rw (low, high) refl)

  ended : (rows : List Registers) (e : ℕ) → e ≤ p → holds p (record { rows = rows; end = e }) ≡ false
  ended rows e h =
      let t : nat_lt p e ≡ false = grind (arith, nat_tests) in
      ap (λ (b : Bool). nat_le (first_address rows e) p && b) t ∙ and_none (nat_le (first_address rows e) p)

  past_first : (u v : Piece) (us : List Piece) → IsPiece files u → ArePieces files (piece_end u) (v ∷ us) → u.start ≤ p → piece_end u ≤ p
      → strand_rows p (strand v us) ≡ piece_rows p (v ∷ us) → strand_rows p (strand u (v ∷ us)) ≡ piece_rows p (v ∷ us)
  unfolding rows_on end_on others_on
  past_first u v us piece are from past more = by (piece_end u == v.start) refl
    where
      by : (b : Bool) → (piece_end u == v.start) ≡ b
          → strand_rows p (record
          { rows = u.rows ++ cond b (v.rows ++ rows_on (piece_end v) us) []; end = cond b (end_on (piece_end v) us) (piece_end u) }
          ∷ cond b (others_on (piece_end v) us) (strand v us)) ≡ piece_rows p (v ∷ us)
      by true e =
          let touch : piece_end u ≡ v.start = touches (piece_end u) v.start e in
          goes_on u v us piece are.0 from touch (omega arith) ∙ more
      by false e = passed p (record { rows = u.rows ++ []; end = piece_end u }) (strand v us) (ended (u.rows ++ []) (piece_end u) past)
          ∙ more

  pub strand_says : (u : Piece) (us : List Piece) → IsPiece files u → ArePieces files (piece_end u) us
      → strand_rows p (strand u us) ≡ piece_rows p (u ∷ us)
  unfolding rows_on end_on others_on
  strand_says u [] piece are = elim (where_is p u.start (piece_end u)) [
    | inl before ↦ before_first u [] piece are before
    | inr from ↦ elim from [
      | inl here ↦ at_first u [] piece are here.0 here.1
      | inr past ↦ passed p (record { rows = u.rows ++ []; end = piece_end u }) [] (ended (u.rows ++ []) (piece_end u) past.1)
          ∙ sym (behind_piece u [] past.1)
    ]
  ]
  strand_says u (v ∷ us) piece are = elim (where_is p u.start (piece_end u)) [
    | inl before ↦ before_first u (v ∷ us) piece are before
    | inr from ↦ elim from [
      | inl here ↦ at_first u (v ∷ us) piece are here.0 here.1
      | inr past ↦ past_first u v us piece are past.0 past.1 (strand_says v us are.0 are.2) ∙ sym (behind_piece u (v ∷ us) past.1)
    ]
  ]

  pub strands_say : (us : List Piece) (lo : ℕ) → ArePieces files lo us → strand_rows p (strands us) ≡ piece_rows p us
  strands_say [] lo are = refl
  strands_say (u ∷ us) lo are = strand_says u us are.0 are.2
