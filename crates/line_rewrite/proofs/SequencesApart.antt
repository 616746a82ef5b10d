-- No address is in two sequences of the written table: at most one covers it, that of the run with the address.
use Rattle.std.proofs.Common.{◌≡◌, ◌∙◌, ◌<◌, ◌≤◌, ◌+◌, ◌==◌, ◌++◌, ◌^◌, ℕ, suc, Bool, true, false, cond, List, [], ◌∷◌, Option, Some, None}
use Rattle.std.proofs.Common.{refl, sym, ap, arith, length, length-append, map, option_map}
use Rattle.std.specs.Prelude.{AllPairs, All, find, filter, flat_map, option_and_then, slice_get}
use Rattle.std.proofs.lemmas.Bool.Decides.{nat_tests}
use Rattle.std.proofs.lemmas.List.Elements.{filter-append}
use Rattle.std.proofs.lemmas.List.Kept.{AllPairs-cons}
use Rattle.rb_bytes.proofs.ListLemmas.{all_of, pairs_map}
use Rattle.rb_bytes.proofs.Searches.{Contains-filter}
use Rattle.addr_map.specs.declared.span.Span.{Span}
use Rattle.answer_runs.specs.AddressRanges.{AreApart, ShareNoAddress}
use Rattle.answer_runs.specs.AnswerRuns.{IsWithin}
use Rattle.answer_runs.specs.declared.run.Run.{Run}
use Rattle.line_rewrite.specs.declared.unit.Unit as kept
use Rattle.line_rewrite.specs.Entries.{Strings}
use Rattle.line_rewrite.specs.LineAnswers.{LineSaid, range_of}
use Rattle.line_rewrite.specs.LineMachine.{Sequence}
use Rattle.line_rewrite.specs.LineUnits.{LineUnit}
use Rattle.line_rewrite.specs.WrittenPrograms.{Piece, piece_end}
use Rattle.line_rewrite.specs.WrittenRuns.{Placed, placed, AllRowsFit}
use Rattle.line_rewrite.proofs.PieceSequences.{end_on, strand_at, strand, others_on, strands}
use Rattle.line_rewrite.proofs.RunPieces.{pieces, one_of, has_run, piece_found}
use Rattle.line_rewrite.proofs.Strands.{ArePieces}
use Rattle.line_rewrite.proofs.StrandsFound.{holds, ends_later, not_above, passed, taken, strand_rows, strands_say}
use Rattle.line_rewrite.proofs.TableBack.{unit_pieces, new_units, AreFrom, first_from, next_from}

module _ (p : ℕ) where
  -- The number of sequences that cover an address.
  abbrev holding : List Sequence → ℕ
  holding ss = length (filter (holds p) ss)

  skips : (s : Sequence) (ss : List Sequence) → holds p s ≡ false → holding (s ∷ ss) ≡ holding ss
  skips s ss e = rw e refl

  takes : (s : Sequence) (ss : List Sequence) → holds p s ≡ true → holding (s ∷ ss) ≡ suc (holding ss)
  takes s ss e = rw e refl

  both : (xs ys : List Sequence) → holding (xs ++ ys) ≡ holding xs + holding ys
  both xs ys = ap length (filter-append (holds p) xs ys) ∙ length-append (filter (holds p) xs) (filter (holds p) ys)

  before_end : (s : Sequence) → holds p s ≡ true → p < s.end
  before_end s e = grind (arith, nat_tests)

  fewer : (s : Sequence) (ss : List Sequence) → holding (s ∷ ss) ≤ 1 → holding ss ≤ 1
  fewer s ss h = by (holds p s) refl
    where
      by : (b : Bool) → holds p s ≡ b → holding ss ≤ 1
      by true e = let t = takes s ss e in omega (arith, t, h)
      by false e = let t = skips s ss e in omega (arith, t, h)

  -- If no rows are found, no sequence covers the address.
  none_holds : (ss : List Sequence) → strand_rows p ss ≡ None → holding ss ≡ 0
  none_holds [] e = refl
  none_holds (s ∷ ss) e = by (holds p s) refl (none_holds ss)
    where
      by : (b : Bool) → holds p s ≡ b → (strand_rows p ss ≡ None → holding ss ≡ 0) → holding (s ∷ ss) ≡ 0
      by true t more = let some = sym (taken p s ss t) ∙ e in absurd (cc)
      by false t more = skips s ss t ∙ more (sym (passed p s ss t) ∙ e)

  module _ (files : ℕ) where
    -- The sequences after one that goes on begin at its end or later.
    none_behind : (e : ℕ) (us : List Piece) → ArePieces files e us → p < end_on e us → holding (others_on e us) ≡ 0
    unfolding end_on others_on
    none_behind e [] are h = refl
    none_behind e (u ∷ us) are h = by (e == u.start) h (none_behind (piece_end u) us are.2)
      where
        by : (b : Bool) → p < cond b (end_on (piece_end u) us) e
            → (p < end_on (piece_end u) us → holding (others_on (piece_end u) us) ≡ 0)
            → holding (cond b (others_on (piece_end u) us) (strand u us)) ≡ 0
        by true h more = more h
        by false h more =
            let low : e ≤ u.start = are.1 in
            let before : p < e = h in
            let end : piece_end u ≤ end_on (piece_end u) us = ends_later files (piece_end u) us are.2 in
            skips (strand_at u us) (others_on (piece_end u) us) (not_above files p u us are.0 (omega arith)) ∙ more (omega arith)

    opened_once : (u : Piece) (us : List Piece) → ArePieces files (piece_end u) us → holding (others_on (piece_end u) us) ≤ 1
        → holding (strand u us) ≤ 1
    opened_once u us are more = by (holds p (strand_at u us)) refl
      where
        by : (b : Bool) → holds p (strand_at u us) ≡ b → holding (strand u us) ≤ 1
        by true e =
            let t = takes (strand_at u us) (others_on (piece_end u) us) e in
            let none = none_behind (piece_end u) us are (before_end (strand_at u us) e) in
            omega (arith, t, none)
        by false e =
            let t = skips (strand_at u us) (others_on (piece_end u) us) e in
            omega (arith, t, more)

    others_once : (e : ℕ) (us : List Piece) → ArePieces files e us → holding (others_on e us) ≤ 1
    unfolding others_on
    others_once e [] are = omega arith
    others_once e (u ∷ us) are = by (e == u.start) (others_once (piece_end u) us are.2)
      where
        by : (b : Bool) → holding (others_on (piece_end u) us) ≤ 1
            → holding (cond b (others_on (piece_end u) us) (strand u us)) ≤ 1
        by true more = more
        by false more = opened_once u us are.2 more

    strands_once : (lo : ℕ) (us : List Piece) → ArePieces files lo us → holding (strands us) ≤ 1
    strands_once lo [] are = omega arith
    strands_once lo (u ∷ us) are = opened_once u us are.2 (others_once (piece_end u) us are.2)

-- Sequences of which at most one covers each address share none

abbrev Apart : Sequence → Sequence → Type 0
Apart s t = ShareNoAddress (range_of s) (range_of t)

abbrev Once : List Sequence → Type 0
Once ss = (p : ℕ) → holding p ss ≤ 1

first_apart : (s : Sequence) (ss : List Sequence) → Once (s ∷ ss) → All (Apart s) ss
first_apart s ss once = all_of (Apart s) ss (λ t t_in p x y.
    let (k, inside, is) = Contains-filter (holds p) ss t t_in y in
    absurd (omega (arith, takes p s ss x, once p, inside)))

once_apart : (ss : List Sequence) → Once ss → AllPairs Apart ss
once_apart [] once = λ i j d less inside. absurd (omega arith)
once_apart (s ∷ ss) once = AllPairs-cons Apart s ss (first_apart s ss once) (once_apart ss (λ p. fewer p s ss (once p)))

-- The written units

module _ (strings : Strings) (us : List kept.Unit) (spans : List Span) (rs : List (Run LineSaid)) (hi : ℕ) (w : IsWithin 0 rs hi)
    (h : hi < 2 ^ 64)
    (fit : AllRowsFit us spans rs) where
  abbrev all_of_units : List LineUnit → List Sequence
  all_of_units units = flat_map (λ (u : LineUnit). u.sequences) units

  module _ (p : ℕ) where
    -- The place of the run with the address.
    abbrev place : Option Placed
    place = option_and_then (placed us spans) (find (has_run p) rs)

    here : (k : ℕ) (u : kept.Unit) → slice_get us k ≡ Some u → holding p (strands (pieces us spans k rs)) ≤ 1
    here k u at =
        strands_once p (length u.header.files.items) 0 (pieces us spans k rs) (unit_pieces us spans k u at 0 hi rs w h fit)

    elsewhere : (k : ℕ) (u : kept.Unit) → slice_get us k ≡ Some u → one_of k place ≡ None
        → holding p (strands (pieces us spans k rs)) ≡ 0
    elsewhere k u at e =
        none_holds p (strands (pieces us spans k rs))
        (strands_say (length u.header.files.items) p (pieces us spans k rs) 0 (unit_pieces us spans k u at 0 hi rs w h fit)
        ∙ ap (option_map (λ (v : Piece). v.rows)) (piece_found us spans k p 0 hi rs w ∙ e))

    from : ℕ → List kept.Unit → ℕ
    from k more = holding p (all_of_units (new_units strings us spans rs k more))

    first_of : (k : ℕ) (u : kept.Unit) (more : List kept.Unit)
        → from k (u ∷ more) ≡ holding p (strands (pieces us spans k rs)) + from (k + 1) more
    unfolding new_units from
    first_of k u more = both p (strands (pieces us spans k rs)) (all_of_units (new_units strings us spans rs (k + 1) more))

    -- No unit after the one in which the run is written.
    past_unit : (q : Placed) → place ≡ Some q → (k : ℕ) (more : List kept.Unit) → AreFrom strings us spans rs k more → q.unit < k
        → from k more ≡ 0
    unfolding new_units from
    past_unit q is k [] are less = refl
    past_unit q is k (u ∷ more) are less =
        let e : (q.unit == k) ≡ false = grind (arith, nat_tests) in
        let one = elsewhere k u (first_from strings us spans rs k u more are)
        (ap (one_of k) is ∙ ap (λ (b : Bool). cond b (Some q.piece) None) e) in
        let rest = past_unit q is (k + 1) more (next_from strings us spans rs k u more are) (omega arith) in
        first_of k u more ∙ omega (arith, one, rest)

    at_most_once : (k : ℕ) (more : List kept.Unit) → AreFrom strings us spans rs k more → from k more ≤ 1
    unfolding new_units from
    at_most_once k [] are = omega arith
    at_most_once k (u ∷ more) are = by place refl (at_most_once (k + 1) more next)
      where
        at : slice_get us k ≡ Some u
        at = first_from strings us spans rs k u more are

        next : AreFrom strings us spans rs (k + 1) more
        next = next_from strings us spans rs k u more are

        by : (o : Option Placed) → place ≡ o → from (k + 1) more ≤ 1 → from k (u ∷ more) ≤ 1
        by None is rest =
            let first = first_of k u more in
            let one = elsewhere k u at (ap (one_of k) is) in
            omega (arith, first, one, rest)
        by (Some q) is rest = on (q.unit == k) refl
          where
            on : (b : Bool) → (q.unit == k) ≡ b → from k (u ∷ more) ≤ 1
            on true e =
                let same : q.unit ≡ k = grind (arith, nat_tests) in
                let first = first_of k u more in
                let one = here k u at in
                let behind = past_unit q is (k + 1) more next (omega arith) in
                omega (arith, first, one, behind)
            on false e =
                let first = first_of k u more in
                let one = elsewhere k u at (ap (one_of k) is ∙ ap (λ (b : Bool). cond b (Some q.piece) None) e) in
                omega (arith, first, one, rest)

  pub sequences_apart : AreFrom strings us spans rs 0 us
      → AreApart (map range_of (flat_map (λ (u : LineUnit). u.sequences) (new_units strings us spans rs 0 us)))
  unfolding from
  sequences_apart are =
      pairs_map ShareNoAddress range_of (all_of_units (new_units strings us spans rs 0 us))
      (once_apart (all_of_units (new_units strings us spans rs 0 us)) (λ p. at_most_once p 0 us are))
