-- A row has no more registers, and no more bytes in its expressions, than its entry's instructions and its CIE's.
use Rattle.std.proofs.Common.{◌≡◌, ◌≢◌, ℕ, zero, suc, ◌+◌, ◌==◌, ◌<◌, ◌≤◌, ◌⊎◌, inl, inr, List, [], ◌∷◌, length, refl, sym, ap, subst}
use Rattle.std.proofs.Common.{arith, get_or, Option, Some, None, Bool, true, false, cond, sum_by, ◌||◌, ◌^◌}
use Rattle.std.specs.Prelude.{Contains, AllPairs, nat_le, nat_lt, option_map, if◌then◌else◌}
use Rattle.std.specs.List.{flat_map, list_any}
use Rattle.std.proofs.lemmas.Grind.{common_steps}
use Rattle.std.proofs.lemmas.List.Sums.{sum_by-cons}
use Rattle.std.proofs.lemmas.List.Kept.{AllPairs-cons}
use Rattle.std.proofs.lemmas.List.Elements.{Contains-append_left, Contains-append_right, Contains-get_or}
use Rattle.rb_bytes.proofs.Members.{Contains-there, Contains-nil, Contains-cons_cases}
use Rattle.answer_runs.specs.Weights.{distinct}
use Rattle.cfi_rows.specs.declared.instruction.Instruction.{Instruction}
use Rattle.cfi_rows.specs.declared.instruction.Instruction.TheVariants.{Advance, SetLoc, DefCfa, DefCfaRegister, DefCfaOffset}
use Rattle.cfi_rows.specs.declared.instruction.Instruction.TheVariants.{SetRule, Restore, RememberState, RestoreState, Nop}
use Rattle.cfi_rows.specs.declared.row.Cfa.{Cfa}
use Rattle.cfi_rows.specs.declared.row.Cfa.TheVariants.{Reg, Expr}
use Rattle.cfi_rows.specs.declared.row.Rule.{Rule}
use Rattle.cfi_rows.specs.FrameRows.{PlacedRow, RowValue, Rules, Known, State, rows, row_of, row_from, prepended, and_rows, then_rows, step}
use Rattle.cfi_rows.specs.FrameRows.{ends_row, with_cfa, with_register, with_offset, take_back, with_rule, without_rule, rule_of, restored}
use Rattle.cfi_rows.specs.FrameRows.{moved_to, known_after}
use Rattle.cfi_rows.specs.EntryCounts.{registers_set, cfa_bytes, rule_bytes, bytes_in}
use Rattle.answer_runs.proofs.Pigeonhole.{weighed}

abbrev pub cfa_part : Instruction → ℕ
cfa_part (DefCfa c) = cfa_bytes c
cfa_part _ = 0

abbrev pub rule_part : Instruction → ℕ
rule_part (SetRule r rule) = rule_bytes rule
rule_part _ = 0

two_parts : (i : Instruction) → bytes_in i ≡ cfa_part i + rule_part i
two_parts (Advance n) = refl
two_parts (SetLoc a) = refl
two_parts (DefCfa c) = omega arith
two_parts (DefCfaRegister r) = refl
two_parts (DefCfaOffset n) = refl
two_parts (SetRule r rule) = omega arith
two_parts (Restore r) = refl
two_parts RememberState = refl
two_parts RestoreState = refl
two_parts Nop = refl

sum_parts : (is : List Instruction) → sum_by bytes_in is ≡ sum_by cfa_part is + sum_by rule_part is
sum_parts [] = refl
sum_parts (i ∷ is) =
    let a = sum_by-cons bytes_in i is in
    let b = sum_by-cons cfa_part i is in
    let c = sum_by-cons rule_part i is in
    let d = two_parts i in
    let e = sum_parts is in
    omega (arith, a, b, c, d, e)

one_of : {X : Type 0} (f : X → ℕ) (xs : List X) (x : X) → Contains xs x → f x ≤ sum_by f xs
one_of f [] x c = absurd (Contains-nil x c)
one_of f (y ∷ ys) x c = by (one_of f ys x) (Contains-cons_cases y ys x c) where
  by : (Contains ys x → f x ≤ sum_by f ys) → (y ≡ x) ⊎ Contains ys x → f x ≤ sum_by f (y ∷ ys)
  by more (inl e) = let s = sum_by-cons f y ys in let g : f y ≡ f x = ap f e in omega (arith, s, g)
  by more (inr d) = let s = sum_by-cons f y ys in let g = more d in omega (arith, s, g)

same_number : (a b : ℕ) → a == b ≡ true → a ≡ b
same_number a b e = grind (arith, common_steps)

other_number : (a b : ℕ) → a == b ≡ false → a ≢ b
other_number a b e = grind (arith, common_steps)

is_less : (a b : ℕ) → nat_lt a b ≡ true → a < b
is_less a b e = grind (arith, common_steps)

not_less : (a b : ℕ) → nat_lt a b ≡ false → b ≤ a
not_less a b e = grind (arith, common_steps)

any_there : (ks : List ℕ) (m : ℕ) → list_any (λ k. k == m) ks ≡ true → Contains ks m
any_there [] m e = absurd (cc)
any_there (k ∷ ks) m e = by (any_there ks m) (k == m) refl e where
  by : (list_any (λ k. k == m) ks ≡ true → Contains ks m) → (b : Bool) → k == m ≡ b → (b || list_any (λ k. k == m) ks) ≡ true →
      Contains (k ∷ ks) m
  by more true h f = (zero, omega arith, same_number k m h)
  by more false h f = Contains-there k ks m (more f)

-- a list keeps its numbers when each is listed once
in_distinct : (ns : List ℕ) (n : ℕ) → Contains ns n → Contains (distinct ns) n
in_distinct [] n c = absurd (Contains-nil n c)
in_distinct (m ∷ ms) n c = by (in_distinct ms n) (Contains-cons_cases m ms n c) (list_any (λ k. k == m) ms) refl where
  is_there : (ks : List ℕ) → list_any (λ k. k == m) ks ≡ true → Contains ks m
  is_there ks e = any_there ks m e

  by : (Contains ms n → Contains (distinct ms) n) → (m ≡ n) ⊎ Contains ms n → (b : Bool) → list_any (λ k. k == m) ms ≡ b →
      Contains (if b then distinct ms else m ∷ distinct ms) n
  by more (inl e) true h = more (subst (λ (k : ℕ). Contains ms k) e (is_there ms h))
  by more (inl e) false h = (zero, omega arith, e)
  by more (inr d) true h = more d
  by more (inr d) false h = Contains-there m (distinct ms) n (more d)

in_registers : (is : List Instruction) (k : ℕ) (v : Rule) → Contains is (SetRule k v) → Contains (flat_map registers_set is) k
in_registers [] k v c = absurd (Contains-nil (SetRule k v) c)
in_registers (i ∷ is) k v c = by (in_registers is k v) (Contains-cons_cases i is (SetRule k v) c) where
  by : (Contains is (SetRule k v) → Contains (flat_map registers_set is) k) → (i ≡ SetRule k v) ⊎ Contains is (SetRule k v) →
      Contains (flat_map registers_set (i ∷ is)) k
  by more (inl e) = Contains-append_left (registers_set i) (flat_map registers_set is) k
      (subst (λ (j : Instruction). Contains (registers_set j) k) (sym e) (zero, omega arith, refl))
  by more (inr d) = Contains-append_right (registers_set i) (flat_map registers_set is) k (more d)

count_all : {X : Type 0} (xs : List X) → sum_by (λ x. 1) xs ≡ length xs
count_all [] = refl
count_all (x ∷ xs) = let a = sum_by-cons (λ x. 1) x xs in let b = count_all xs in omega (arith, a, b)

module _ (all : List Instruction) where
  -- Rules ascend by register, from a number on, and each was set by one of the instructions.
  abbrev pub Good : ℕ → Rules → Type 0
  Good n [] = Unit {0}
  Good n (x ∷ xs) = (n ≤ x.0) × (Contains all (SetRule x.0 x.1)) × Good (suc x.0) xs

  weaker : (m n : ℕ) (rs : Rules) → m ≤ n → Good n rs → Good m rs
  weaker m n [] le g = tt
  weaker m n (x ∷ xs) le g = (let a = g.0 in omega (arith, a, le), g.1, g.2)

  set_good : (n k : ℕ) (v : Rule) (rs : Rules) → n ≤ k → Contains all (SetRule k v) → Good n rs → Good n (with_rule k v rs)
  set_good n k v [] le c g = (le, c, tt)
  set_good n k v (x ∷ xs) le c g = by (λ l. set_good (suc x.0) k v xs l c g.2) (nat_lt x.0 k) refl (x.0 == k) refl where
    by : (suc x.0 ≤ k → Good (suc x.0) (with_rule k v xs)) → (b : Bool) → nat_lt x.0 k ≡ b → (d : Bool) → x.0 == k ≡ d →
        Good n (cond b (x ∷ with_rule k v xs) (cond d ((k, v) ∷ xs) ((k, v) ∷ x ∷ xs)))
    by more true e d f = (g.0, g.1, more (is_less x.0 k e))
    by more false e true f = (le, c, subst (λ (m : ℕ). Good (suc m) xs) (same_number x.0 k f) g.2)
    by more false e false f =
        let a = not_less x.0 k e in
        let b = other_number x.0 k f in
        let h : suc k ≤ x.0 = grind (arith, a, b) in
        (le, c, (h, g.1, g.2))

  removed_good : (n k : ℕ) (rs : Rules) → Good n rs → Good n (without_rule k rs)
  removed_good n k [] g = tt
  removed_good n k (x ∷ xs) g = by (removed_good (suc x.0) k xs g.2) (x.0 == k) where
    by : Good (suc x.0) (without_rule k xs) → (b : Bool) → Good n (cond b xs (x ∷ without_rule k xs))
    by more true = weaker n (suc x.0) xs (let a = g.0 in omega (arith, a)) g.2
    by more false = (g.0, g.1, more)

  found_good : (n k : ℕ) (rs : Rules) (v : Rule) → Good n rs → rule_of k rs ≡ Some v → Contains all (SetRule k v)
  found_good n k [] v g e = absurd (cc)
  found_good n k (x ∷ xs) v g e = by (found_good (suc x.0) k xs v g.2) (x.0 == k) refl e where
    by : (rule_of k xs ≡ Some v → Contains all (SetRule k v)) → (b : Bool) → x.0 == k ≡ b → cond b (Some x.1) (rule_of k xs) ≡ Some v →
        Contains all (SetRule k v)
    by more true h f =
        let same : x.1 ≡ v = cc in
        subst (λ (u : Rule). Contains all (SetRule k u)) same
        (subst (λ (m : ℕ). Contains all (SetRule m x.1)) (same_number x.0 k h) g.1)
    by more false h f = more f

  restored_good : (initial rs : Rules) (k : ℕ) → Good 0 initial → Good 0 rs → Good 0 (restored k (rule_of k initial) rs)
  restored_good initial rs k g h = by (rule_of k initial) refl where
    by : (o : Option Rule) → rule_of k initial ≡ o → Good 0 (restored k o rs)
    by None e = removed_good 0 k rs h
    by (Some v) e = set_good 0 k v rs (omega arith) (found_good 0 k initial v g e) h

  -- Their sizes.

  above : (n : ℕ) (rs : Rules) → Good n rs → (x : ℕ × Rule) → Contains rs x → n ≤ x.0
  above n [] g x c = absurd (Contains-nil x c)
  above n (y ∷ ys) g x c = by (above (suc y.0) ys g.2 x) (Contains-cons_cases y ys x c) where
    by : (Contains ys x → suc y.0 ≤ x.0) → (y ≡ x) ⊎ Contains ys x → n ≤ x.0
    by more (inl e) = subst (λ (u : ℕ × Rule). n ≤ u.0) e g.0
    by more (inr d) = let a = g.0 in let b = more d in omega (arith, a, b)

  set_by : (n : ℕ) (rs : Rules) → Good n rs → (x : ℕ × Rule) → Contains rs x → Contains all (SetRule x.0 x.1)
  set_by n [] g x c = absurd (Contains-nil x c)
  set_by n (y ∷ ys) g x c = by (set_by (suc y.0) ys g.2 x) (Contains-cons_cases y ys x c) where
    by : (Contains ys x → Contains all (SetRule x.0 x.1)) → (y ≡ x) ⊎ Contains ys x → Contains all (SetRule x.0 x.1)
    by more (inl e) = subst (λ (u : ℕ × Rule). Contains all (SetRule u.0 u.1)) e g.1
    by more (inr d) = more d

  ascend : (n : ℕ) (rs : Rules) → Good n rs → AllPairs (λ (x y : ℕ × Rule). x.0 < y.0) rs
  ascend n [] g = λ i j d less in_list. absurd (omega (arith, in_list))
  ascend n (x ∷ xs) g = AllPairs-cons (λ (x y : ℕ × Rule). x.0 < y.0) x xs
      (λ k d in_list. above (suc x.0) xs g.2 (get_or xs k d) (Contains-get_or xs k d in_list)) (ascend (suc x.0) xs g.2)

  abbrev register_in : Instruction → ℕ
  register_in (SetRule r rule) = r
  register_in _ = 0

  pub rules_fit : (n : ℕ) (rs : Rules) → Good n rs → sum_by (λ (x : ℕ × Rule). rule_bytes x.1) rs ≤ sum_by rule_part all
  rules_fit n rs g =
      weighed (λ (x : ℕ × Rule). rule_bytes x.1) rule_part (λ (x : ℕ × Rule) i. i ≡ SetRule x.0 x.1) rs all
      (λ i j d less within y e f. let up = ascend n rs g i j d less within in
      let a : register_in y ≡ (get_or rs i d).0 = ap (λ (u : Instruction). register_in u) e in
      let b : register_in y ≡ (get_or rs j d).0 = ap (λ (u : Instruction). register_in u) f in
      omega (arith, up, a, b))
      (λ x c. record { y = SetRule x.0 x.1; among = set_by n rs g x c; related = refl; enough = omega arith })

  pub registers_fit : (n : ℕ) (rs : Rules) → Good n rs → length rs ≤ length (distinct (flat_map registers_set all))
  registers_fit n rs g =
      let l = weighed (λ (x : ℕ × Rule). 1) (λ (n : ℕ). 1) (λ (x : ℕ × Rule) n. x.0 ≡ n) rs (distinct (flat_map registers_set all))
      (λ i j d less within y e f. let up = ascend n rs g i j d less within in omega (arith, up, e, f))
      (λ x c. record {
        y = x.0;
        among = in_distinct (flat_map registers_set all) x.0 (in_registers all x.0 x.1 (set_by n rs g x c));
        related = refl;
        enough = omega arith;
      }) in
      let a = count_all rs in
      let b = count_all (distinct (flat_map registers_set all)) in
      omega (arith, l, a, b)

  -- The state known at each point.

  abbrev CfaFits : Option Cfa → Type 0
  CfaFits None = Unit {0}
  CfaFits (Some c) = cfa_bytes c ≤ sum_by cfa_part all

  pub record IsKnown (k : Known) : Type 0 where
    pub cfa : CfaFits k.cfa
    pub rules : Good 0 k.rules

  abbrev AreKnown : List Known → Type 0
  AreKnown [] = Unit {0}
  AreKnown (k ∷ ks) = IsKnown k × AreKnown ks

  pub record IsState (s : State) : Type 0 where
    pub known : IsKnown s.known
    pub saved : AreKnown s.saved

  set_cfa : (s t : State) (c : Cfa) → IsState s → CfaFits (Some c) → with_cfa s c ≡ t → IsState t
  set_cfa s t c h fits e = subst (λ (u : State). IsState u) e
      (record { known = record { cfa = fits; rules = h.known.rules }; saved = h.saved })

  moved_state : (a : ℕ) (s t : State) → IsState s → moved_to a s ≡ Some t → IsState t
  moved_state a s t h e = by (nat_lt a (2 ^ 64)) e where
    by : (b : Bool) → cond b (Some (record { location = a; known = s.known; saved = s.saved })) None ≡ Some t → IsState t
    by true f =
        let same : record { location = a; known = s.known; saved = s.saved } ≡ t = cc in
        subst (λ (u : State). IsState u) same (record { known = h.known; saved = h.saved })
    by false f = absurd (cc)

  step_good : (initial : Rules) → Good 0 initial → (i : Instruction) → Contains all i → (s t : State) → IsState s →
      step initial i s ≡ Some t → IsState t
  step_good initial g (Advance n) c s t h e = moved_state (s.location + n) s t h e
  step_good initial g (SetLoc a) c s t h e = by (nat_le s.location a) e where
    by : (b : Bool) → cond b (moved_to a s) None ≡ Some t → IsState t
    by true f = moved_state a s t h f
    by false f = absurd (cc)
  step_good initial g (DefCfa x) c s t h e =
      set_cfa s t x h (one_of cfa_part all (DefCfa x) c) (let f : with_cfa s x ≡ t = cc in f)
  step_good initial g (DefCfaRegister r) c s t h e = by s.known.cfa e where
    by : (o : Option Cfa) → option_map (with_cfa s) (with_register r o) ≡ Some t → IsState t
    by None f = absurd (cc)
    by (Some (Expr b)) f = absurd (cc)
    by (Some (Reg q o)) f = set_cfa s t (Reg r o) h (omega arith) (let k : with_cfa s (Reg r o) ≡ t = cc in k)
  step_good initial g (DefCfaOffset n) c s t h e = by s.known.cfa e where
    by : (o : Option Cfa) → option_map (with_cfa s) (with_offset n o) ≡ Some t → IsState t
    by None f = absurd (cc)
    by (Some (Expr b)) f = absurd (cc)
    by (Some (Reg q o)) f = set_cfa s t (Reg q n) h (omega arith) (let k : with_cfa s (Reg q n) ≡ t = cc in k)
  step_good initial g (SetRule r rule) c s t h e =
      let same : record {
        location = s.location;
        known = record { cfa = s.known.cfa; rules = with_rule r rule s.known.rules };
        saved = s.saved;
      } ≡ t = cc in
      subst (λ (u : State). IsState u) same (record {
        known = record { cfa = h.known.cfa; rules = set_good 0 r rule s.known.rules (omega arith) c h.known.rules };
        saved = h.saved;
      })
  step_good initial g (Restore r) c s t h e =
      let same : record {
        location = s.location;
        known = record { cfa = s.known.cfa; rules = restored r (rule_of r initial) s.known.rules };
        saved = s.saved;
      } ≡ t = cc in
      subst (λ (u : State). IsState u) same (record {
        known = record { cfa = h.known.cfa; rules = restored_good initial s.known.rules r g h.known.rules };
        saved = h.saved;
      })
  step_good initial g RememberState c s t h e =
      let same : record { location = s.location; known = s.known; saved = s.known ∷ s.saved } ≡ t = cc in
      subst (λ (u : State). IsState u) same (record { known = h.known; saved = (h.known, h.saved) })
  step_good initial g RestoreState c s t h e = by s.saved h.saved e where
    by : (ks : List Known) → AreKnown ks → take_back s ks ≡ Some t → IsState t
    by [] k f = absurd (cc)
    by (k ∷ ks) m f =
        let same : record { location = s.location; known = k; saved = ks } ≡ t = cc in
        subst (λ (u : State). IsState u) same (record { known = m.0; saved = m.1 })
  step_good initial g Nop c s t h e = let same : s ≡ t = cc in subst (λ (u : State). IsState u) same h

  -- the state known after instructions
  pub known_good : (is : List Instruction) → ((i : Instruction) → Contains is i → Contains all i) → (s : State) → IsState s →
      (k : Known) →
      known_after is (Some s) ≡ Some k → IsKnown k
  known_good [] sub s h k e = let same : s.known ≡ k = cc in subst (λ (u : Known). IsKnown u) same h.known
  known_good (i ∷ is) sub s h k e =
      by (λ t. known_good is (λ j c. sub j (Contains-there i is j c)) t) (step [] i s) refl e
    where
      none : (is : List Instruction) → known_after is None ≡ None
      none [] = refl
      none (i ∷ is) = refl

      by : ((t : State) → IsState t → (k : Known) → known_after is (Some t) ≡ Some k → IsKnown k) → (o : Option State) →
          step [] i s ≡ o → known_after is o ≡ Some k → IsKnown k
      by more None f x = absurd (let n = none is in cc (n, x))
      by more (Some t) f x = more t (step_good [] tt i (sub i (zero, omega arith, refl)) s t h f) k x

  -- Rows.

  pub record RowFits (row : RowValue) : Type 0 where
    pub cfa : cfa_bytes row.cfa ≤ sum_by cfa_part all
    pub rules : Good 0 row.rules

  abbrev AllFit : List PlacedRow → Type 0
  AllFit rs = (r : PlacedRow) → Contains rs r → RowFits r.row

  row_good : (k : Known) → IsKnown k → (row : RowValue) → row_of k ≡ Some row → RowFits row
  row_good k h row e = by k.cfa h.cfa e where
    by : (o : Option Cfa) → CfaFits o → row_from o k.rules ≡ Some row → RowFits row
    by None fits f = absurd (cc)
    by (Some c) fits f =
        let same : record { cfa = c; rules = k.rules } ≡ row = cc in
        subst (λ (u : RowValue). RowFits u) same (record { cfa = fits; rules = h.rules })

  prepended_good : (a : ℕ) (k : Known) → IsKnown k → (more : Option (List PlacedRow)) (rs : List PlacedRow) →
      ((rest : List PlacedRow) → more ≡ Some rest → AllFit rest) → prepended a (row_of k) more ≡ Some rs → AllFit rs
  prepended_good a k h more rs fits e = by (row_of k) refl more refl e where
    front : (row : RowValue) → RowFits row → (rest : List PlacedRow) → AllFit rest → AllFit (record { start = a; row = row } ∷ rest)
    front row x rest y r c = pick (Contains-cons_cases (record { start = a; row = row }) rest r c) where
      pick : (record { start = a; row = row } ≡ r) ⊎ Contains rest r → RowFits r.row
      pick (inl z) = subst (λ (u : PlacedRow). RowFits u.row) z x
      pick (inr d) = y r d

    by : (o : Option RowValue) → row_of k ≡ o → (p : Option (List PlacedRow)) → more ≡ p → prepended a o p ≡ Some rs → AllFit rs
    by None f p g x = absurd (cc)
    by (Some row) f None g x = absurd (cc)
    by (Some row) f (Some rest) g x =
        let same : record { start = a; row = row } ∷ rest ≡ rs = cc in
        subst (λ (l : List PlacedRow). AllFit l) same (front row (row_good k h row f) rest (fits rest g))

  pub rows_good : (initial : Rules) → Good 0 initial → (is : List Instruction) → ((i : Instruction) → Contains is i → Contains all i) →
      (s : State) → IsState s → (rs : List PlacedRow) → rows initial is s ≡ Some rs → AllFit rs
  rows_good initial g [] sub s h rs e =
      prepended_good s.location s.known h.known (Some []) rs
      (λ rest f r c. absurd (let same : [] ≡ rest = cc in Contains-nil r (subst (λ (l : List PlacedRow). Contains l r) (sym same) c))) e
  rows_good initial g (i ∷ is) sub s h rs e =
      by (λ t. rows_good initial g is (λ j c. sub j (Contains-there i is j c)) t) (ends_row i) e
    where
      rest : ((t : State) → IsState t → (rs : List PlacedRow) → rows initial is t ≡ Some rs → AllFit rs) → (o : Option State) →
          step initial i s ≡ o → (rs : List PlacedRow) → then_rows o (rows initial is) ≡ Some rs → AllFit rs
      rest more None f rs x = absurd (cc)
      rest more (Some t) f rs x = more t (step_good initial g i (sub i (zero, omega arith, refl)) s t h f) rs x

      by : ((t : State) → IsState t → (rs : List PlacedRow) → rows initial is t ≡ Some rs → AllFit rs) → (b : Bool) →
          and_rows b s (then_rows (step initial i s) (rows initial is)) ≡ Some rs → AllFit rs
      by more true x = prepended_good s.location s.known h.known (then_rows (step initial i s) (rows initial is)) rs
          (λ l f. rest more (step initial i s) refl l f) x
      by more false x = rest more (step initial i s) refl rs x

  pub row_bytes : (row : RowValue) → RowFits row →
      cfa_bytes row.cfa + sum_by (λ (x : ℕ × Rule). rule_bytes x.1) row.rules ≤ sum_by bytes_in all
  row_bytes row h =
      let a = h.cfa in
      let b = rules_fit 0 row.rules h.rules in
      let c = sum_parts all in
      omega (arith, a, b, c)
