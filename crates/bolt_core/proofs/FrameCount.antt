-- The number of entries of a written frame table: its runs take at most the room that `need` has for them.
use Rattle.std.proofs.Common.{◌≡◌, ◌≢◌, ℕ, zero, ◌+◌, ◌-◌, ◌*◌, ◌<◌, ◌≤◌, ◌⊎◌, ◌∙◌, inl, inr, List, [], ◌∷◌, ◌++◌, length, refl, sym, ap}
use Rattle.std.proofs.Common.{subst, arith, Option, Some, None, Bool, true, false, cond, sum_by, map, filter, take, drop}
use Rattle.std.specs.Prelude.{Contains, AllPairs, nat_le, option_map, option_and_then, ◌||◌}
use Rattle.std.specs.Option.{option_map_or}
use Rattle.std.specs.List.{find, list_any}
use Rattle.std.proofs.lemmas.Nat.{mul-le}
use Rattle.std.proofs.lemmas.List.{length-map, length-append}
use Rattle.std.proofs.lemmas.List.Sums.{sum_by-le-sum_by}
use Rattle.std.proofs.lemmas.List.Elements.{Contains-append_left, Contains-append_right}
use Rattle.rb_bytes.proofs.ListLemmas.{in_map}
use Rattle.rb_bytes.proofs.Members.{Contains-there, Contains-nil, Contains-cons_cases}
use Rattle.rb_bytes.proofs.Searches.{find-found, Contains-filter}
use Rattle.rv_code.specs.declared.placed.Block.{Block}
use Rattle.rv_code.specs.declared.placed.Func.{Func}
use Rattle.rv_code.specs.declared.placed.Placed.{Placed}
use Rattle.rv_code.specs.layout.Blocks.{block_start}
use Rattle.addr_map.specs.declared.span.Span.{Span}
use Rattle.addr_map.specs.Spans.{ShareNoByte}
use Rattle.answer_runs.specs.declared.run.Run.{Run}
use Rattle.answer_runs.specs.AnswerRuns.{AreRunsOf, carried}
use Rattle.cfi_rows.specs.FrameRows.{PlacedRow, RowValue, row_at, begins, nothing_known}
use Rattle.cfi_rows.specs.Entries.{Fde, is_in_range, is_strictly_in}
use Rattle.cfi_rows.specs.EntryCounts.{instructions_of}
use Rattle.cfi_rows.specs.FrameNeed.{is_block_in, piece_count, piece_size}
use Rattle.frame_rewrite.specs.FrameAnswers.{FrameAnswer, answer_of, answer_at}
use Rattle.frame_rewrite.specs.Tables.{run_size}
use Rattle.branch_fixup.proofs.BlockSpans.{HasInst, IsLaidByBlocks}
use Rattle.cfi_rows.proofs.MadeEntries.{IsMade}
use Rattle.bolt_core.proofs.RunCounts.{Source, counted}
use Rattle.cfi_rows.proofs.AnswerChanges.{Between, Change, row_change, entry_change, FirstRow, first_row}
use Rattle.cfi_rows.proofs.AnswerChanges.Change.{Same, Starts, Ends}
use Rattle.cfi_rows.proofs.RowSizes.{RowFits, IsKnown, known_good, rows_good, row_bytes, registers_fit}

any_of : {X : Type 0} (test : X → Bool) (xs : List X) (x : X) → Contains xs x → test x ≡ true → list_any test xs ≡ true
any_of test [] x c e = absurd (Contains-nil x c)
any_of test (y ∷ ys) x c e = by (any_of test ys x) (Contains-cons_cases y ys x c) where
  or_true : (b : Bool) → b || true ≡ true
  or_true true = refl
  or_true false = refl

  by : (Contains ys x → test x ≡ true → list_any test ys ≡ true) → (y ≡ x) ⊎ Contains ys x → list_any test (y ∷ ys) ≡ true
  by more (inl d) = rw (ap test d ∙ e) refl
  by more (inr d) = rw (more d e) (or_true (test y))

-- the row at an address is one of the rows
row_among : (a : ℕ) (rs : List PlacedRow) (found : Option RowValue) (row : RowValue) → row_at a rs found ≡ Some row →
    (found ≡ Some row) ⊎ ((r : PlacedRow) × (Contains rs r) × (r.row ≡ row))
row_among a [] found row e = inl e
row_among a (r ∷ rs) found row e = by (nat_le r.start a) (row_among a rs (cond (nat_le r.start a) (Some r.row) found) row e) where
  by : (b : Bool) → (cond b (Some r.row) found ≡ Some row) ⊎ ((q : PlacedRow) × (Contains rs q) × (q.row ≡ row)) →
      (found ≡ Some row) ⊎ ((q : PlacedRow) × (Contains (r ∷ rs) q) × (q.row ≡ row))
  by true (inl f) = let same : r.row ≡ row = cc in inr (r, (zero, omega arith, refl), same)
  by false (inl f) = inl f
  by b (inr (q, c, f)) = inr (q, Contains-there r rs q c, f)

-- every row of an entry that the reader makes fits
made_fits : (f : Fde) → IsMade f → (r : PlacedRow) → Contains f.rows r → RowFits (instructions_of f) r.row
made_fits f made =
    let all = instructions_of f in
    let k : IsKnown all f.cie.known = known_good all f.cie.instructions
    (λ i c. Contains-append_left f.cie.instructions f.instructions i c) (begins 0 nothing_known)
    (record { known = record { cfa = tt; rules = tt }; saved = tt }) f.cie.known made.cie_known in
    rows_good all f.cie.known.rules k.rules f.instructions (λ i c. Contains-append_right f.cie.instructions f.instructions i c)
    (begins f.start f.cie.known) (record { known = k; saved = tt }) f.rows made.rows_are

module _ (is_marked : Fde → Bool) (list : List Fde) (made : (f : Fde) → Contains list f → IsMade f) (funcs : List Func)
    (blocks : List Block) where
  abbrev block_cuts : Fde → List ℕ
  block_cuts f = map (block_start funcs) (filter (is_block_in funcs f) blocks)

  abbrev row_cuts : Fde → List ℕ
  row_cuts f = map (λ (r : PlacedRow). r.start) f.rows

  abbrev end_cuts : Fde → List ℕ
  end_cuts f = map (λ (g : Fde). g.end) (filter (λ (g : Fde). is_strictly_in f g.end) list)

  abbrev cuts : Fde → List ℕ
  cuts f = block_cuts f ++ (row_cuts f ++ end_cuts f)

  in_rows : (f : Fde) (c : ℕ) → Contains (row_cuts f) c → Contains (cuts f) c
  in_rows f c d = Contains-append_right (block_cuts f) (row_cuts f ++ end_cuts f) c (Contains-append_left (row_cuts f) (end_cuts f) c d)

  in_ends : (f : Fde) (c : ℕ) → Contains (end_cuts f) c → Contains (cuts f) c
  in_ends f c d = Contains-append_right (block_cuts f) (row_cuts f ++ end_cuts f) c (Contains-append_right (row_cuts f) (end_cuts f) c d)

  row_cut : (f : Fde) (r : PlacedRow) → Contains f.rows r → Contains (cuts f) r.start
  row_cut f r c = in_rows f r.start (in_map (λ (r : PlacedRow). r.start) f.rows r c)

  end_cut : (f g : Fde) → Contains list g → is_strictly_in f g.end ≡ true → Contains (cuts f) g.end
  end_cut f g c e = in_ends f g.end (in_map (λ (g : Fde). g.end) (filter (λ (g : Fde). is_strictly_in f g.end) list) g
      (Contains-filter (λ (g : Fde). is_strictly_in f g.end) list g c e))

  block_cut : (f : Fde) (a : ℕ) → is_in_range f a ≡ true → (b : Block) → Contains blocks b → HasInst funcs b a →
      Contains (cuts f) (block_start funcs b)
  block_cut f a range b c h =
      let test : is_in_range f h.p.addr ≡ true = subst (λ (n : ℕ). is_in_range f n ≡ true) (sym h.addr) range in
      let any = any_of (λ (p : Placed). is_in_range f p.addr) (take (b.last + 1 - b.first) (drop b.first h.func.insts.items))
      h.p h.among test in
      let is : is_block_in funcs f b ≡ true = rw h.of any in
      Contains-append_left (block_cuts f) (row_cuts f ++ end_cuts f) (block_start funcs b)
      (in_map (block_start funcs) (filter (is_block_in funcs f) blocks) b (Contains-filter (is_block_in funcs f) blocks b c is))

  few_cuts : (f : Fde) → length (cuts f) ≤ piece_count funcs blocks list f
  few_cuts f =
      let a = length-append (block_cuts f) (row_cuts f ++ end_cuts f) in
      let b = length-append (row_cuts f) (end_cuts f) in
      let c = length-map (filter (is_block_in funcs f) blocks) (block_start funcs) in
      let d = length-map f.rows (λ (r : PlacedRow). r.start) in
      let e = length-map (filter (λ (g : Fde). is_strictly_in f g.end) list) (λ (g : Fde). g.end) in
      omega (arith, a, b, c, d, e)

  abbrev at : ℕ → Option FrameAnswer
  at = answer_at is_marked list

  -- an answer takes at most the room that is counted for its entry
  answer_fits : (f : Fde) → IsMade f → (a : ℕ) (x : FrameAnswer) → answer_of is_marked f a ≡ Some x → run_size x ≤ piece_size f
  answer_fits f m a x e = by (row_at a f.rows None) refl e where
    fits : (row : RowValue) → RowFits (instructions_of f) row → x.row ≡ row → run_size x ≤ piece_size f
    fits row h same =
        let r : RowFits (instructions_of f) x.row = subst (λ (u : RowValue). RowFits (instructions_of f) u) (sym same) h in
        let b = row_bytes (instructions_of f) x.row r in
        let c = registers_fit (instructions_of f) 0 x.row.rules r.rules in
        omega (arith, b, c)

    among : (row : RowValue) → x.row ≡ row → (None ≡ Some row) ⊎ ((r : PlacedRow) × (Contains f.rows r) × (r.row ≡ row)) →
        run_size x ≤ piece_size f
    among row same (inl no_row) = absurd (cc)
    among row same (inr (r, c, is)) = fits r.row (made_fits f m r c) (same ∙ sym is)

    by : (o : Option RowValue) → row_at a f.rows None ≡ o → option_map (λ row. record {
      row = row;
      ra = f.cie.ra;
      handler = f.cie.augmentation.handler;
      indirect = f.cie.augmentation.indirect;
      table = f.table;
      signal = f.cie.augmentation.signal;
      start = f.start;
      marked = is_marked f;
    }) o ≡ Some x → run_size x ≤ piece_size f
    by None g h = absurd (cc)
    by (Some row) g h =
        let same : x.row ≡ row = ap (λ (o : Option FrameAnswer). option_map_or (λ (y : FrameAnswer). y.row) o row) (sym h) in
        among row same (row_among a f.rows None row g)

  source : (a : ℕ) (x : FrameAnswer) → at a ≡ Some x → Source at run_size blocks (block_start funcs) (HasInst funcs) list cuts piece_size a
      x
  source a x e = by (find (λ g. is_in_range g a) list) refl e where
    from : (f : Fde) → find (λ g. is_in_range g a) list ≡ Some f → answer_of is_marked f a ≡ Some x →
        Source at run_size blocks (block_start funcs) (HasInst funcs) list cuts piece_size a x
    from f found is = record {
      f = f;
      among = has.1;
      enough = answer_fits f (made f has.1) a x is;
      head = λ b c h. block_cut f a has.0 b c h;
      change = λ z less differ. by_change z less differ (entry_change z a less list f found);
    } where
      has : (is_in_range f a ≡ true) × Contains list f
      has = find-found (λ g. is_in_range g a) list f found

      by_row : (z : ℕ) → at z ≢ Some x → find (λ g. is_in_range g z) list ≡ Some f →
          (row_at z f.rows None ≡ row_at a f.rows None) ⊎ ((r : PlacedRow) × (Contains f.rows r) × Between z a r.start) →
          (c : ℕ) × (Contains (cuts f) c) × (z < c) × (c ≤ a)
      by_row z differ here (inl same) = absurd (differ (rw (here, same) is))
      by_row z differ here (inr (r, c, b)) = (r.start, row_cut f r c, b.0, b.1)

      by_start : (z : ℕ) → Between z a f.start → FirstRow f.rows f.start → (c : ℕ) × (Contains (cuts f) c) × (z < c) × (c ≤ a)
      by_start z b r = (
        r.r.start,
        row_cut f r.r r.among,
        subst (λ (n : ℕ). z < n) (sym r.start) b.0,
        subst (λ (n : ℕ). n ≤ a) (sym r.start) b.1,
      )

      by_change : (z : ℕ) → z < a → at z ≢ Some x → Change list z a f → (c : ℕ) × (Contains (cuts f) c) × (z < c) × (c ≤ a)
      by_change z less differ (Same here) = by_row z differ here (row_change z a less f.rows None)
      by_change z less differ (Starts b) =
          by_start z b (first_row f.cie.known.rules f.instructions (begins f.start f.cie.known) f.rows (made f has.1).rows_are)
      by_change z less differ (Ends g c s b) = (g.end, end_cut f g c s, b.0, b.1)

    by : (o : Option Fde) → find (λ g. is_in_range g a) list ≡ o → option_and_then (λ f. answer_of is_marked f a) o ≡ Some x →
        Source at run_size blocks (block_start funcs) (HasInst funcs) list cuts piece_size a x
    by None f g = absurd (cc)
    by (Some f) g h = from f g h

  -- the sum over all runs
  pub frame_count : (spans : List Span) → AllPairs ShareNoByte spans → AllPairs (λ (s t : Span). s.input ≢ t.input) spans →
      IsLaidByBlocks blocks (block_start funcs) (HasInst funcs) spans → (runs : List (Run FrameAnswer)) →
      AreRunsOf (carried (answer_at is_marked list) spans) runs →
      sum_by (λ r. run_size r.answer) runs ≤ sum_by (λ f. piece_count funcs blocks list f * piece_size f) list
  frame_count spans disjoint once laid runs are =
      let all = counted at run_size blocks (block_start funcs) (HasInst funcs) list cuts piece_size source spans disjoint once laid runs are
      in
      let more = sum_by-le-sum_by (λ f. length (cuts f) * piece_size f) (λ f. piece_count funcs blocks list f * piece_size f) list
      (λ f. mul-le (length (cuts f)) (piece_size f) (piece_count funcs blocks list f) (piece_size f) (few_cuts f) (omega arith)) in
      omega (arith, all, more)
