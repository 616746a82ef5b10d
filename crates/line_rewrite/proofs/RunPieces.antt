-- The pieces that runs give to the program of each unit, and the programs written from them.
use Rattle.std.proofs.Common.{◌≡◌, ◌≢◌, ◌<◌, ◌≤◌, ◌+◌, ◌==◌, ◌++◌, ◌&&◌, ◌^◌, ℕ, zero, suc, List, [], ◌∷◌, refl, arith, sym, ◌∙◌, ap}
use Rattle.std.proofs.Common.{append_assoc, Bool, true, false, cond, nat_le, nat_lt, length, Option, Some, None, option_map}
use Rattle.std.proofs.Common.{get_or, set, length-set, inl, inr}
use Rattle.std.specs.Prelude.{find, option_and_then, sum_by, ◌⊎◌}
use Rattle.std.proofs.lemmas.Bool.Decides.{nat_tests}
use Rattle.std.proofs.lemmas.List.{get_or-set_same, get_or-set_other}
use Rattle.std.proofs.lemmas.List.Sums.{sum_by-cons}
use Rattle.addr_map.specs.declared.span.Span.{Span}
use Rattle.answer_runs.specs.declared.run.Run.{Run}
use Rattle.addr_map.specs.Spans.{owner}
use Rattle.answer_runs.specs.AnswerRuns.{IsWithin}
use Rattle.line_rewrite.specs.declared.coding.Coding.{Coding}
use Rattle.line_rewrite.specs.declared.unit.Unit as kept
use Rattle.line_rewrite.specs.declared.operation.LineOp.{LineOp}
use Rattle.line_rewrite.specs.LineAnswers.{LineSaid}
use Rattle.line_rewrite.specs.Written.{written_coding, all_spelled}
use Rattle.line_rewrite.specs.WrittenPrograms.{Piece, piece_end, Begun, nothing_begun, with_piece, closed, piece_ops, going_after}
use Rattle.line_rewrite.proofs.PieceSequences.{program_ops}
use Rattle.line_rewrite.specs.SequenceIndex.{Numbered, numbered_at}
use Rattle.line_rewrite.specs.WrittenRuns.{Placed, placed_by, placed_at, placed, with_placed, with_runs}
use Rattle.line_rewrite.proofs.ProgramsBack.{piece_size}
use Rattle.line_rewrite.proofs.RowOps.{spelled_append}
use Rattle.line_rewrite.proofs.Strands.{ArePieceRows, ArePieces}
use Rattle.line_rewrite.proofs.StrandsFound.{has_address}

-- A program with more pieces

abbrev pub with_pieces : Coding → Begun → List Piece → Begun
with_pieces coding b [] = b
with_pieces coding b (u ∷ us) = with_pieces coding (with_piece coding b u) us

pub pieces_closed : (coding : Coding) (b : Begun) (us : List Piece)
    → closed (with_pieces coding b us) ≡ b.bytes ++ all_spelled (program_ops coding b.going us)
unfolding program_ops
pieces_closed coding b [] = refl
pieces_closed coding b (u ∷ us) =
    let ops : List LineOp = piece_ops coding b.going u in
    let more : List LineOp = program_ops coding (Some (going_after coding b.going u)) us in
    pieces_closed coding (with_piece coding b u) us
    ∙ append_assoc b.bytes (all_spelled ops) (all_spelled more)
    ∙ sym (ap (λ (l : List ℕ). b.bytes ++ l) (spelled_append ops more))

-- the pieces of a unit

abbrev pub with_piece_of : ℕ → Option Placed → List Piece → List Piece
with_piece_of k None us = us
with_piece_of k (Some q) us = cond (q.unit == k) (q.piece ∷ us) us

same_number : (a b : ℕ) → (a == b) ≡ true → a ≡ b
same_number a b t = grind (arith, nat_tests)

other_number : (a b : ℕ) → (a == b) ≡ false → a ≢ b
other_number a b t = grind (arith, nat_tests)

-- A run is written as a piece of the same bytes.
pub record IsAt (r : Run LineSaid) (q : Placed) : Type 0 where
  pub start : q.piece.start ≡ r.start
  pub len : q.piece.len ≡ r.len

placed_of : (r : Run LineSaid) (a : ℕ) (o : Option Numbered) (q : Placed) → option_map (placed_by r a) o ≡ Some q → IsAt r q
placed_of r a None q e = absurd (cc)
placed_of r a (Some x) q e = record { start = ap start_of (sym e); len = ap len_of (sym e) }
  where
    start_of : Option Placed → ℕ
    start_of None = 0
    start_of (Some q) = q.piece.start

    len_of : Option Placed → ℕ
    len_of None = 0
    len_of (Some q) = q.piece.len

owned_at : (units : List kept.Unit) (r : Run LineSaid) (o : Option ℕ) (q : Placed) → placed_at units r o ≡ Some q → IsAt r q
owned_at units r None q e = absurd (cc)
owned_at units r (Some a) q e = placed_of r a (numbered_at units a) q e

abbrev pub has_run : ℕ → Run LineSaid → Bool
has_run p r = nat_le r.start p && nat_lt p (r.start + r.len)

-- The piece that a run gives to a unit.
abbrev pub one_of : ℕ → Option Placed → Option Piece
one_of k None = None
one_of k (Some q) = cond (q.unit == k) (Some q.piece) None

abbrev pub placed_size : Option Placed → ℕ
placed_size None = 0
placed_size (Some q) = piece_size q.piece

module _ (units : List kept.Unit) (spans : List Span) where
  abbrev pub pieces : ℕ → List (Run LineSaid) → List Piece
  pieces k [] = []
  pieces k (r ∷ rs) = with_piece_of k (placed units spans r) (pieces k rs)

  -- The program of a unit. All its runs have the unit's flag.
  module _ (k : ℕ) (coding : Coding) where
    abbrev pub Codes : Option Placed → Type 0
    Codes None = Unit {0}
    Codes (Some q) = q.unit ≡ k → written_coding q.stmt ≡ coding

    abbrev pub AllCode : List (Run LineSaid) → Type 0
    AllCode [] = Unit {0}
    AllCode (r ∷ rs) = Codes (placed units spans r) × AllCode rs

    pub runs_begun : (programs : List Begun) (rs : List (Run LineSaid)) → k < length programs → AllCode rs
        → get_or (with_runs units spans programs rs) k nothing_begun ≡ with_pieces coding (get_or programs k nothing_begun) (pieces k rs)
    unfolding with_runs
    runs_begun programs [] h codes = refl
    runs_begun programs (r ∷ rs) h codes = by (placed units spans r) codes.0 (λ more l. runs_begun more rs l codes.1)
      where
        by : (o : Option Placed) → Codes o
            → ((more : List Begun) → k < length more
            → get_or (with_runs units spans more rs) k nothing_begun ≡ with_pieces coding (get_or more k nothing_begun) (pieces k rs))
            → get_or (with_runs units spans (with_placed programs o) rs) k nothing_begun
            ≡ with_pieces coding (get_or programs k nothing_begun) (with_piece_of k o (pieces k rs))
        by None code rest = rest programs h
        by (Some q) code rest =
            rest (with_placed programs (Some q)) (simp length-set h) ∙ on (q.unit == k) refl
          where
            new : Begun
            new = with_piece (written_coding q.stmt) (get_or programs q.unit nothing_begun) q.piece

            on : (b : Bool) → (q.unit == k) ≡ b
                → with_pieces coding (get_or (with_placed programs (Some q)) k nothing_begun) (pieces k rs)
                ≡ with_pieces coding (get_or programs k nothing_begun) (cond b (q.piece ∷ pieces k rs) (pieces k rs))
            on true t =
                let same : q.unit ≡ k = same_number q.unit k t in
                let at : get_or (with_placed programs (Some q)) k nothing_begun ≡ with_piece (written_coding q.stmt)
                (get_or programs q.unit nothing_begun) q.piece =
                ap (λ (n : ℕ). get_or
                (set programs n (with_piece (written_coding q.stmt) (get_or programs q.unit nothing_begun) q.piece)) k nothing_begun) same
                ∙ get_or-set_same programs k
                (with_piece (written_coding q.stmt) (get_or programs q.unit nothing_begun) q.piece) nothing_begun h in
                ap (λ (b : Begun). with_pieces coding b (pieces k rs))
                (at ∙ ap (λ (n : ℕ). with_piece (written_coding q.stmt) (get_or programs n nothing_begun) q.piece) same
                ∙ ap (λ (c : Coding). with_piece c (get_or programs k nothing_begun) q.piece) (code same))
            on false t =
                ap (λ (b : Begun). with_pieces coding b (pieces k rs))
                (get_or-set_other programs q.unit k
                (with_piece (written_coding q.stmt) (get_or programs q.unit nothing_begun) q.piece) nothing_begun
                (λ e. other_number q.unit k t (sym e)))

  -- The piece that contains an address

  is_at : (r : Run LineSaid) (q : Placed) → placed units spans r ≡ Some q → IsAt r q
  is_at r q e = owned_at units r (owner spans r.start) q e

  same_bytes : (p : ℕ) (r : Run LineSaid) (q : Placed) → IsAt r q → has_address p q.piece ≡ has_run p r
  same_bytes p r q at =
      ap (λ (n : ℕ). nat_le n p && nat_lt p (n + q.piece.len)) at.start
      ∙ ap (λ (n : ℕ). nat_le r.start p && nat_lt p (r.start + n)) at.len

  -- No run after an address has it.
  pub none_behind : (k p lo hi : ℕ) (rs : List (Run LineSaid)) → IsWithin lo rs hi → p < lo → find (has_address p) (pieces k rs) ≡ None
  none_behind k p lo hi [] w h = refl
  none_behind k p lo hi (r ∷ rs) w h =
      let f : lo ≤ r.start = w.0 in
      by (placed units spans r) refl (none_behind k p (r.start + r.len) hi rs w.2 (omega arith))
    where
      by : (o : Option Placed) → placed units spans r ≡ o → find (has_address p) (pieces k rs) ≡ None
          → find (has_address p) (with_piece_of k o (pieces k rs)) ≡ None
      by None e rest = rest
      by (Some q) e rest = on (q.unit == k)
        where
          apart : has_address p q.piece ≡ false
          apart =
              let f : lo ≤ r.start = w.0 in
              let t : nat_le r.start p ≡ false = grind (arith, nat_tests) in
              same_bytes p r q (is_at r q e) ∙ rw t refl

          on : (b : Bool) → find (has_address p) (cond b (q.piece ∷ pieces k rs) (pieces k rs)) ≡ None
          on true = rw apart rest
          on false = rest

  pub piece_found : (k p lo hi : ℕ) (rs : List (Run LineSaid)) → IsWithin lo rs hi
      → find (has_address p) (pieces k rs) ≡ one_of k (option_and_then (placed units spans) (find (has_run p) rs))
  piece_found k p lo hi [] w = refl
  piece_found k p lo hi (r ∷ rs) w = by (piece_found k p (r.start + r.len) hi rs w.2) (placed units spans r) refl (has_run p r) refl
    where
      below : has_run p r ≡ true → p < r.start + r.len
      below t = grind (arith, nat_tests)

      none : has_run p r ≡ true → find (has_address p) (pieces k rs) ≡ None
      none t = none_behind k p (r.start + r.len) hi rs w.2 (below t)

      by : find (has_address p) (pieces k rs) ≡ one_of k (option_and_then (placed units spans) (find (has_run p) rs))
          → (o : Option Placed) → placed units spans r ≡ o → (b : Bool) → has_run p r ≡ b
          → find (has_address p) (with_piece_of k o (pieces k rs)) ≡ one_of k
          (option_and_then (placed units spans) (cond b (Some r) (find (has_run p) rs)))
      by rest None e true t = none t ∙ sym (ap (one_of k) e)
      by rest None e false t = rest
      by rest (Some q) e true t = on (q.unit == k) ∙ sym (ap (one_of k) e)
        where
          here : has_address p q.piece ≡ true
          here = same_bytes p r q (is_at r q e) ∙ t

          on : (b : Bool) → find (has_address p) (cond b (q.piece ∷ pieces k rs) (pieces k rs)) ≡ cond b (Some q.piece) None
          on true = rw here refl
          on false = none t
      by rest (Some q) e false t = on (q.unit == k)
        where
          apart : has_address p q.piece ≡ false
          apart = same_bytes p r q (is_at r q e) ∙ t

          on : (b : Bool) → find (has_address p) (cond b (q.piece ∷ pieces k rs) (pieces k rs)) ≡ one_of k
              (option_and_then (placed units spans) (find (has_run p) rs))
          on true = rw apart rest
          on false = rest

  -- The conditions on pieces

  abbrev pub Fits : ℕ → ℕ → Option Placed → Type 0
  Fits k files None = Unit {0}
  Fits k files (Some q) = q.unit ≡ k → ArePieceRows files q.piece.start q.piece.rows × (0 < length q.piece.rows)

  abbrev pub AllFit : ℕ → ℕ → List (Run LineSaid) → Type 0
  AllFit k files [] = Unit {0}
  AllFit k files (r ∷ rs) = Fits k files (placed units spans r) × AllFit k files rs

  lower : (files lo from : ℕ) (us : List Piece) → lo ≤ from → ArePieces files from us → ArePieces files lo us
  lower files lo from [] h are = tt
  lower files lo from (u ∷ us) h are = let k : from ≤ u.start = are.1 in (are.0, omega arith, are.2)

  ends_low : (lo hi : ℕ) (rs : List (Run LineSaid)) → IsWithin lo rs hi → lo ≤ hi
  ends_low lo hi [] w = w
  ends_low lo hi (r ∷ rs) w =
      let a : lo ≤ r.start = w.0 in
      let b : r.start + r.len ≤ hi = ends_low (r.start + r.len) hi rs w.2 in
      omega arith

  pub pieces_are : (k files lo hi : ℕ) (rs : List (Run LineSaid)) → IsWithin lo rs hi → hi < 2 ^ 64 → AllFit k files rs
      → ArePieces files lo (pieces k rs)
  pieces_are k files lo hi [] w h fit = tt
  pieces_are k files lo hi (r ∷ rs) w h fit = by (pieces_are k files (r.start + r.len) hi rs w.2 h fit.1) (placed units spans r) refl fit.0
    where
      by : ArePieces files (r.start + r.len) (pieces k rs)
          → (o : Option Placed) → placed units spans r ≡ o → Fits k files o → ArePieces files lo (with_piece_of k o (pieces k rs))
      by rest None e f = let a : lo ≤ r.start = w.0 in lower files lo (r.start + r.len) (pieces k rs) (omega arith) rest
      by rest (Some q) e f = on (q.unit == k) refl
        where
          on : (b : Bool) → (q.unit == k) ≡ b → ArePieces files lo (cond b (q.piece ∷ pieces k rs) (pieces k rs))
          on true t =
              let at : IsAt r q = is_at r q e in
              let s : q.piece.start ≡ r.start = at.start in
              let l : q.piece.len ≡ r.len = at.len in
              let a : lo ≤ r.start = w.0 in
              let b : 0 < r.len = w.1 in
              let c : r.start + r.len ≤ hi = ends_low (r.start + r.len) hi rs w.2 in
              let rows = f (same_number q.unit k t) in (
                record { some = omega arith; end = omega arith; rows = rows.0; any = rows.1 },
                omega arith,
                lower files (piece_end q.piece) (r.start + r.len) (pieces k rs) (omega arith) rest,
              )
          on false t = let a : lo ≤ r.start = w.0 in lower files lo (r.start + r.len) (pieces k rs) (omega arith) rest

  -- The bytes of all units' pieces: each run gives at most one piece.

  unfoldable pub pieces_size : ℕ → ℕ → List (Run LineSaid) → ℕ
  pieces_size k zero rs = 0
  pieces_size k (suc n) rs = sum_by piece_size (pieces k rs) + pieces_size (k + 1) n rs

  unit_size : (k : ℕ) (r : Run LineSaid) (rs : List (Run LineSaid))
      → sum_by piece_size (pieces k (r ∷ rs)) ≤ placed_size (placed units spans r) + sum_by piece_size (pieces k rs)
  unit_size k r rs = by (placed units spans r)
    where
      by : (o : Option Placed) → sum_by piece_size (with_piece_of k o (pieces k rs)) ≤ placed_size o + sum_by piece_size (pieces k rs)
      by None = omega arith
      by (Some q) = on (q.unit == k)
        where
          on : (b : Bool) → sum_by piece_size (cond b (q.piece ∷ pieces k rs) (pieces k rs)) ≤ piece_size q.piece + sum_by piece_size
              (pieces k rs)
          on true = omega (arith, sum_by-cons piece_size q.piece (pieces k rs))
          on false = omega arith

  -- A run of a unit below these gives them nothing.
  abbrev Below : ℕ → Option Placed → Type 0
  Below k None = Unit {0}
  Below k (Some q) = q.unit < k

  below_more : (k : ℕ) (o : Option Placed) → Below k o → Below (k + 1) o
  below_more k None b = tt
  below_more k (Some q) b = omega (arith, b)

  none_below : (k : ℕ) (o : Option Placed) (us : List Piece) → Below k o → with_piece_of k o us ≡ us
  none_below k None us b = refl
  none_below k (Some q) us b =
      let t : (q.unit == k) ≡ false = grind (arith, nat_tests, b) in
      rw t refl

  below_size : (k n : ℕ) (r : Run LineSaid) (rs : List (Run LineSaid)) → Below k (placed units spans r)
      → pieces_size k n (r ∷ rs) ≡ pieces_size k n rs
  unfolding pieces_size
  below_size k zero r rs b = refl
  below_size k (suc n) r rs b =
      ap (λ (us : List Piece). sum_by piece_size us + pieces_size (k + 1) n (r ∷ rs)) (none_below k (placed units spans r) (pieces k rs) b)
      ∙ ap (λ (m : ℕ). sum_by piece_size (pieces k rs) + m) (below_size (k + 1) n r rs (below_more k (placed units spans r) b))

  here_or_not : (k : ℕ) (o : Option Placed) → Below (k + 1) o ⊎ ((us : List Piece) → with_piece_of k o us ≡ us)
  here_or_not k None = inl tt
  here_or_not k (Some q) = by (q.unit == k) refl
    where
      by : (b : Bool) → (q.unit == k) ≡ b → (q.unit < k + 1) ⊎ ((us : List Piece) → with_piece_of k (Some q) us ≡ us)
      by true t = let same : q.unit ≡ k = same_number q.unit k t in inl (omega arith)
      by false t = inr (λ us. rw t refl)

  one_size : (k n : ℕ) (r : Run LineSaid) (rs : List (Run LineSaid))
      → pieces_size k n (r ∷ rs) ≤ placed_size (placed units spans r) + pieces_size k n rs
  unfolding pieces_size
  one_size k zero r rs = omega arith
  one_size k (suc n) r rs = elim (here_or_not k (placed units spans r)) [
    | inl below ↦
        omega (arith, unit_size k r rs, below_size (k + 1) n r rs below)
    | inr none ↦
        let same : sum_by piece_size (pieces k (r ∷ rs)) ≡ sum_by piece_size (pieces k rs) = ap (sum_by piece_size) (none (pieces k rs)) in
        omega (arith, one_size (k + 1) n r rs, same)
  ]

  nothing : (k n : ℕ) → pieces_size k n [] ≤ 0
  unfolding pieces_size
  nothing k zero = omega arith
  nothing k (suc n) = omega (arith, nothing (k + 1) n)

  pub all_size : (k n : ℕ) (rs : List (Run LineSaid)) → pieces_size k n rs ≤ sum_by (λ r. placed_size (placed units spans r)) rs
  unfolding pieces_size
  all_size k n [] = nothing k n
  all_size k n (r ∷ rs) =
      omega (arith, one_size k n r rs, all_size k n rs, sum_by-cons (λ (r : Run LineSaid). placed_size (placed units spans r)) r rs)
