-- Rows that decide which are in force at some addresses.
use Rattle.std.proofs.Common.{◌≡◌, ◌<◌, ◌≤◌, ◌+◌, ◌-◌, ◌++◌, ◌∙◌, ℕ, zero, suc, List, [], ◌∷◌, refl, sym, ap, subst, arith, length}
use Rattle.std.proofs.Common.{take, drop, get_or, append_assoc, nat_le, Bool, true, false, cond}
use Rattle.std.proofs.lemmas.Bool.Decides.{nat_tests}
use Rattle.std.proofs.lemmas.Grind.{common_steps}
use Rattle.std.proofs.lemmas.List.{append-nil, drop-drop, drop_more, take-append-drop}
use Rattle.std.proofs.lemmas.List.Elements.{filter-append}
use Rattle.line_rewrite.specs.declared.coding.Coding.{Coding}
use Rattle.line_rewrite.specs.declared.kept.Kept.{Kept}
use Rattle.line_rewrite.specs.declared.registers.Registers.{Registers}
use Rattle.line_rewrite.specs.Keeping.{AreKept, Begins, row_at, rows_at_place}
use Rattle.line_rewrite.specs.LineAnswers.{first_address}
use Rattle.line_rewrite.specs.LineMachine.{in_force, reached, greatest_address}
use Rattle.line_rewrite.specs.NearRows.{AreEnough, IsFront, IsPast}
use Rattle.line_rewrite.specs.Walks.{Ascends, joined, latest}
use Rattle.line_rewrite.proofs.InForce.{at_address, front_drop, none_reached}
use Rattle.line_rewrite.proofs.Lookups.{Before, kept_get, next_past, row_reached, row_rises}

-- rows of a slice, one by one

none_behind : (rows : List Registers) (i : ℕ) → length rows ≤ i → drop i rows ≡ []
none_behind rows i h = grind (arith, common_steps)

module _ (found : List Registers) (a i : ℕ) (rows whole : List Registers) (inv : latest found a (drop i rows) ≡ whole) where
  pub slice_done : length rows ≤ i → found ≡ whole
  unfolding latest
  slice_done h = sym (ap (latest found a) (none_behind rows i h)) ∙ inv

  module _ (d : Registers) (here : i < length rows) where
    pub slice_past : a < (get_or rows i d).address → found ≡ whole
    unfolding latest
    slice_past past =
        let t : nat_le (get_or rows i d).address a ≡ false = grind (arith, nat_tests) in
        ap (λ (b : Bool). cond b (latest (joined found (get_or rows i d)) a (drop (i + 1) rows)) found) (sym t)
        ∙ sym (ap (latest found a) (drop_more rows i d here)) ∙ inv

    pub slice_more : (new : List Registers) → (get_or rows i d).address ≤ a → new ≡ joined found (get_or rows i d) →
        latest new a (drop (i + 1) rows) ≡ whole
    unfolding latest
    slice_more new low e =
        let t : nat_le (get_or rows i d).address a ≡ true = grind (arith, nat_tests) in
        ap (λ (l : List Registers). latest l a (drop (i + 1) rows)) e
        ∙ ap (λ (b : Bool). cond b (latest (joined found (get_or rows i d)) a (drop (i + 1) rows)) found) (sym t)
        ∙ sym (ap (latest found a) (drop_more rows i d here)) ∙ inv

-- parts of rows that ascend

ascends_drop : (n from : ℕ) (rows : List Registers) → Ascends from rows → Ascends 0 (drop n rows)
ascends_drop zero from [] up = tt
ascends_drop (suc n) from [] up = tt
ascends_drop zero from (r ∷ rows) up = (omega arith, up.1)
ascends_drop (suc n) from (r ∷ rows) up = ascends_drop n r.address rows up.1

-- rows that aren't reached don't matter

unreached : (x : ℕ) (rows : List Registers) → Ascends 0 rows → x < first_address rows (x + 1) → reached x rows ≡ []
unreached x [] up past = refl
unreached x (r ∷ rows) up past = none_reached r.address x (r ∷ rows) (omega arith, up.1) past

front_force : (x : ℕ) (xs ys : List Registers) → reached x ys ≡ [] → in_force x (xs ++ ys) ≡ in_force x xs
unfolding in_force
front_force x xs ys none =
    let split : reached x (xs ++ ys) ≡ reached x xs =
    filter-append (λ r. nat_le r.address x) xs ys ∙ ap (λ (l : List Registers). reached x xs ++ l) none ∙ append-nil (reached x xs) in
    ap (λ (l : List Registers). at_address (greatest_address l) l) split

drop_zero : (rows : List Registers) → drop 0 rows ≡ rows
drop_zero [] = refl
drop_zero (r ∷ rows) = refl

-- The first rows, one by one: `front` are those that were read, and `left` the others.

module _ (front left all : List Registers) (inv : front ++ left ≡ all) where
  pub front_whole : (last : ℕ) → left ≡ [] → IsFront last front all
  front_whole last none = record {
    others = left;
    are = sym inv;
    past = subst (IsPast last) (sym none) (omega arith);
  }

  pub front_past : (last : ℕ) (next : Registers) (more : List Registers) → left ≡ next ∷ more → last < next.address →
      IsFront last front all
  front_past last next more are past = record {
    others = left;
    are = sym inv;
    past = subst (IsPast last) (sym are) past;
  }

  pub front_more : (next : Registers) (more new rest : List Registers) → left ≡ next ∷ more → new ≡ front ++ next ∷ [] → rest ≡ more →
      new ++ rest ≡ all
  front_more next more new rest are e same =
      ap (λ (l : List Registers). new ++ l) same ∙ ap (λ (l : List Registers). l ++ more) e ∙ append_assoc front (next ∷ []) more
      ∙ sym (ap (λ (l : List Registers). front ++ l) are) ∙ inv

  drop_front : (xs : List Registers) → drop (length xs) (xs ++ left) ≡ left
  drop_front [] = drop_zero left
  drop_front (x ∷ xs) = drop_front xs

  pub front_count : (count last : ℕ) → length front ≡ count → IsPast last (drop count all) → IsFront last front all
  front_count count last n past =
      let others : drop count all ≡ left =
      ap (λ (l : List Registers). drop count l) (sym inv) ∙ ap (λ (k : ℕ). drop k (front ++ left)) (sym n)
      ∙ drop_front front in
      record { others = left; are = sym inv; past = subst (IsPast last) others past }

past_down : (x last : ℕ) (rows : List Registers) → x ≤ last → IsPast last rows → IsPast x rows
past_down x last [] le past = omega arith
past_down x last (r ∷ rows) le past = let h : last < r.address = past in omega arith

ascends_front : (from : ℕ) (xs ys : List Registers) → Ascends from (xs ++ ys) → Ascends from xs
ascends_front from [] ys up = tt
ascends_front from (x ∷ xs) ys up = (up.0, ascends_front x.address xs ys up.1)

ascends_behind : (from : ℕ) (xs ys : List Registers) → Ascends from (xs ++ ys) → Ascends 0 ys
ascends_behind from [] [] up = tt
ascends_behind from [] (y ∷ ys) up = (omega arith, up.1)
ascends_behind from (x ∷ xs) ys up = ascends_behind x.address xs ys up.1

-- The rows from a state on that is reached, up to others that aren't, decide up to these.
pub enough : (coding : Coding) (lengths bytes : List ℕ) (rows : List Registers) (kept : List Kept) (count first next n a last high : ℕ)
    (d : Kept) (near : List Registers)
    → AreKept coding lengths bytes rows kept → Ascends 0 rows → count ≡ length rows → first < length kept → first ≤ next
    → (get_or kept first d).address ≤ a
    → ((k : Kept) → next < length kept → last < (get_or kept next k).address)
    → n ≡ row_at kept count next - (get_or kept first d).index
    → (IsPast last (drop n (rows_at_place coding lengths bytes (get_or kept first d).registers (get_or kept first d).place))
    → IsFront high near (rows_at_place coding lengths bytes (get_or kept first d).registers (get_or kept first d).place))
    → AreEnough a high near rows
enough coding lengths bytes rows kept count first next n a last high d near are up counted within le low past size front =
    let k : Kept = get_or kept first d in
    let i : ℕ = k.index in
    let s : Before coding lengths bytes rows i k = kept_get coding lengths bytes rows kept first d are within in
    let rises : i ≤ row_at kept count next = row_rises coding lengths bytes rows kept count first next d are counted le within in
    let follow : rows_at_place coding lengths bytes k.registers k.place ≡ drop i rows = (are.each first d within).follow in
    let sum : row_at kept count next ≡ i + n = omega (arith, rises, size) in
    let behind : drop (row_at kept count next) rows ≡ drop n (rows_at_place coding lengths bytes k.registers k.place) =
    ap (λ (m : ℕ). drop m rows) sum ∙ sym (drop-drop n i rows) ∙ ap (drop n) (sym follow) in
    let f : IsFront high near (drop i rows) =
    subst (IsFront high near) follow
    (front (subst (IsPast last) behind (next_past coding lengths bytes rows kept count next last d are counted past))) in
    let ascends : Ascends 0 (near ++ f.others) = subst (Ascends 0) f.are (ascends_drop i 0 rows up) in
    record {
      ascend = ascends_front 0 near f.others ascends;
      same = λ x from to.
          let none : reached x f.others ≡ [] =
          unreached x f.others (ascends_behind 0 near f.others ascends) (past_down x high f.others to f.past) in
          let first_low : s.first.address ≤ x = omega (arith, s.address, low, from) in
          let reach : k.address ≤ greatest_address (reached x (drop i rows)) =
          subst (λ (m : ℕ). m ≤ greatest_address (reached x (drop i rows))) s.address
          (row_reached 0 x (drop i rows) s.first s.others (drop_zero (drop i rows) ∙ s.are) first_low) in
          sym (front_force x near f.others none)
          ∙ ap (in_force x) (sym f.are)
          ∙ sym (front_drop k.address x (take i rows) (drop i rows) s.above reach)
          ∙ ap (in_force x) (take-append-drop i rows);
    }

first_past : (count : ℕ) (rows : List Registers) (kept : List Kept) → Begins (length rows) kept → count ≡ length rows
    → drop (row_at kept count 0) rows ≡ rows
first_past count rows [] b counted = ap (λ (n : ℕ). drop n rows) (counted ∙ b.none refl) ∙ drop_zero rows
first_past count rows (k ∷ kept) b counted = ap (λ (n : ℕ). drop n rows) (b.first k (omega arith)) ∙ drop_zero rows

-- No row is reached.
pub none_enough : (coding : Coding) (lengths bytes : List ℕ) (rows : List Registers) (kept : List Kept) (count a : ℕ) (d : Kept)
    (near : List Registers) → AreKept coding lengths bytes rows kept → Begins (length rows) kept → Ascends 0 rows → count ≡ length rows
    → ((k : Kept) → 0 < length kept → a < (get_or kept 0 k).address) → near ≡ [] → AreEnough a a near rows
none_enough coding lengths bytes rows kept count a d near are begins up counted past none =
    record {
      ascend = subst (Ascends 0) (sym none) tt;
      same = λ x from to.
          let past_first : IsPast x rows =
          subst (IsPast x) (first_past count rows kept begins counted)
          (next_past coding lengths bytes rows kept count 0 x d are counted
          (λ k h. let p : a < (get_or kept 0 k).address = past k h in omega (arith, p, to))) in
          ap (in_force x) none ∙ sym (front_force x [] rows (unreached x rows up past_first));
    }
