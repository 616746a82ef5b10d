-- Runs in the order of an entry's list have the same bytes, and the place at which the entry is entered comes first.
use Rattle.std.proofs.Common.{◌≡◌, ◌∙◌, ◌+◌, ◌-◌, ◌<◌, ◌≤◌, ◌==◌, ◌&&◌, ◌||◌, ◌++◌, ◌∷◌, [], ℕ, Bool, true, false, List, Option, Some}
use Rattle.std.proofs.Common.{None, refl, sym, ap, arith, nat_le, nat_lt}
use Rattle.std.specs.Prelude.{All, flat_map, find, if◌then◌else◌, is_some, option_and_then, option_map, unwrap_or}
use Rattle.std.specs.List.{list_any}
use Rattle.std.specs.Option.{option_map_or, option_or}
use Rattle.std.proofs.lemmas.Bool.{eqb-true}
use Rattle.std.proofs.lemmas.Bool.Decides.{nat_tests}
use Rattle.std.proofs.lemmas.List.Elements.{All-nil, All-cons, All-append, All-head, All-tail}
use Rattle.std.proofs.lemmas.List.Folds.{list_any-append}
use Rattle.addr_map.specs.declared.span.Span.{Span}
use Rattle.addr_map.specs.Spans.{moved, owner}
use Rattle.answer_runs.specs.declared.range.Range.{Range}
use Rattle.answer_runs.specs.declared.run.Run.{Run}
use Rattle.answer_runs.specs.AddressRanges.{holds_address}
use Rattle.answer_runs.specs.AnswerRuns.{run_at, IsWithin}
use Rattle.cover_lists.specs.declared.groups.RangedEntry.{RangedEntry}
use Rattle.cover_lists.specs.EntryAddresses.{entered, first_start, has_bytes}
use Rattle.cover_lists.specs.EntryOrders.{are_at, at_place, entry_first, entry_place, front, has_byte, is_owner, placed, rest}

-- The same bytes.

pub at_is : (rs : List (Run Bool)) (p : ℕ) → are_at rs p ≡ is_some (run_at rs p)
at_is [] p = refl
at_is (r ∷ rs) p = step (has_byte p r) (run_at rs p) (are_at rs p) (at_is rs p)
  where
    step : (b : Bool) (o : Option Bool) (c : Bool) → c ≡ is_some o → (b || c) ≡ is_some (option_or (if b then Some r.answer else None) o)
    step true o c e = refl
    step false o c e = e

abbrev tail_of : ℕ → Run Bool → Run Bool
tail_of at r = record { start = at; len = r.start + r.len - at; answer = r.answer }

abbrev head_of : ℕ → Run Bool → Run Bool
head_of at r = record { start = r.start; len = at - r.start; answer = r.answer }

whole : (start len at p : ℕ) → (nat_le start at && nat_lt at (start + len)) ≡ true → start ≡ at →
    (((nat_le at p && nat_lt p (at + (start + len - at))) || false) || false) ≡ (nat_le start p && nat_lt p (start + len))
whole start len at p e f = grind (arith, nat_tests)

parted : (start len at p : ℕ) → (nat_le start at && nat_lt at (start + len)) ≡ true →
    (((nat_le at p && nat_lt p (at + (start + len - at))) || false) || ((nat_le start p && nat_lt p (start + (at - start))) || false))
    ≡ (nat_le start p && nat_lt p (start + len))
parted start len at p e = grind (arith, nat_tests)

or_false : (b : Bool) → (b || false) ≡ b
or_false true = refl
or_false false = refl

one_parted : (at p : ℕ) (r : Run Bool) → (are_at (front at r) p || are_at (rest at r) p) ≡ has_byte p r
one_parted at p r = by (has_byte at r) (r.start == at) refl refl
  where
    by : (b c : Bool) → has_byte at r ≡ b → (r.start == at) ≡ c →
        (are_at (if b then tail_of at r ∷ [] else []) p || are_at (if b then (if c then [] else head_of at r ∷ []) else r ∷ []) p)
        ≡ has_byte p r
    by true true e f = whole r.start r.len at p e (eqb-true r.start at f)
    by true false e f = parted r.start r.len at p e
    by false c e f = or_false (has_byte p r)

swap : (a b c d : Bool) → ((a || b) || (c || d)) ≡ ((a || c) || (b || d))
swap true b c d = refl
swap false true true d = refl
swap false true false d = refl
swap false false c d = refl

all_parted : (at p : ℕ) (rs : List (Run Bool)) → (are_at (flat_map (front at) rs) p || are_at (flat_map (rest at) rs) p) ≡ are_at rs p
all_parted at p [] = refl
all_parted at p (r ∷ rs) =
    (λ i. list_any-append (has_byte p) (front at r) (flat_map (front at) rs) i
    || list_any-append (has_byte p) (rest at r) (flat_map (rest at) rs) i)
    ∙ swap (are_at (front at r) p) (are_at (flat_map (front at) rs) p) (are_at (rest at r) p) (are_at (flat_map (rest at) rs) p)
    ∙ (λ i. one_parted at p r i || all_parted at p rs i)

pub same_bytes : (at p : ℕ) (rs : List (Run Bool)) → are_at (entry_first at rs) p ≡ are_at rs p
same_bytes at p rs = list_any-append (has_byte p) (flat_map (front at) rs) (flat_map (rest at) rs) ∙ all_parted at p rs

pub order_has : (at : ℕ) (rs : List (Run Bool)) (p : ℕ) → is_some (run_at (entry_first at rs) p) ≡ is_some (run_at rs p)
order_has at rs p = sym (at_is (entry_first at rs) p) ∙ same_bytes at p rs ∙ at_is rs p

-- None ends behind the last.

abbrev pub EndsBy : ℕ → Run Bool → Type 0
EndsBy hi r = r.start + r.len ≤ hi

within_end : (lo : ℕ) (rs : List (Run Bool)) (hi : ℕ) → IsWithin lo rs hi → lo ≤ hi
within_end lo [] hi w = w
within_end lo (r ∷ rs) hi w = let h = within_end (r.start + r.len) rs hi w.2 in omega (arith, h, w.0)

pub all_end : (lo : ℕ) (rs : List (Run Bool)) (hi : ℕ) → IsWithin lo rs hi → All (EndsBy hi) rs
all_end lo [] hi w = All-nil (EndsBy hi)
all_end lo (r ∷ rs) hi w = All-cons (EndsBy hi) r rs (within_end (r.start + r.len) rs hi w.2) (all_end (r.start + r.len) rs hi w.2)

tail_ends : (start len at hi : ℕ) → (nat_le start at && nat_lt at (start + len)) ≡ true → start + len ≤ hi → at + (start + len - at) ≤ hi
tail_ends start len at hi e h = let below = inside start len at e in omega (arith, below, h)
  where
    inside : (start len at : ℕ) → (nat_le start at && nat_lt at (start + len)) ≡ true → at < start + len
    inside start len at e = grind (arith, nat_tests)

head_ends : (start len at hi : ℕ) → (nat_le start at && nat_lt at (start + len)) ≡ true → start + len ≤ hi → start + (at - start) ≤ hi
head_ends start len at hi e h = let p = inside start len at e in omega (arith, p.0, p.1, h)
  where
    inside : (start len at : ℕ) → (nat_le start at && nat_lt at (start + len)) ≡ true → (start ≤ at) × (at < start + len)
    inside start len at e = (grind (arith, nat_tests), grind (arith, nat_tests))

front_ends : (at hi : ℕ) (rs : List (Run Bool)) → All (EndsBy hi) rs → All (EndsBy hi) (flat_map (front at) rs)
front_ends at hi [] ends = All-nil (EndsBy hi)
front_ends at hi (r ∷ rs) ends =
    All-append (EndsBy hi) (front at r) (flat_map (front at) rs) (by (has_byte at r) refl)
    (front_ends at hi rs (All-tail (EndsBy hi) r rs ends))
  where
    by : (b : Bool) → has_byte at r ≡ b → All (EndsBy hi) (if b then tail_of at r ∷ [] else [])
    by true e =
        All-cons (EndsBy hi) (tail_of at r) [] (tail_ends r.start r.len at hi e (All-head (EndsBy hi) r rs ends)) (All-nil (EndsBy hi))
    by false e = All-nil (EndsBy hi)

rest_ends : (at hi : ℕ) (rs : List (Run Bool)) → All (EndsBy hi) rs → All (EndsBy hi) (flat_map (rest at) rs)
rest_ends at hi [] ends = All-nil (EndsBy hi)
rest_ends at hi (r ∷ rs) ends =
    All-append (EndsBy hi) (rest at r) (flat_map (rest at) rs) (by (has_byte at r) (r.start == at) refl)
    (rest_ends at hi rs (All-tail (EndsBy hi) r rs ends))
  where
    by : (b c : Bool) → has_byte at r ≡ b → All (EndsBy hi) (if b then (if c then [] else head_of at r ∷ []) else r ∷ [])
    by true true e = All-nil (EndsBy hi)
    by true false e =
        All-cons (EndsBy hi) (head_of at r) [] (head_ends r.start r.len at hi e (All-head (EndsBy hi) r rs ends)) (All-nil (EndsBy hi))
    by false c e = All-cons (EndsBy hi) r [] (All-head (EndsBy hi) r rs ends) (All-nil (EndsBy hi))

pub order_ends : (at hi : ℕ) (rs : List (Run Bool)) → IsWithin 0 rs hi → All (EndsBy hi) (entry_first at rs)
order_ends at hi rs w =
    let ends = all_end 0 rs hi w in
    All-append (EndsBy hi) (flat_map (front at) rs) (flat_map (rest at) rs) (front_ends at hi rs ends) (rest_ends at hi rs ends)

-- The first

pub record BeginsAt (at : ℕ) (rs : List (Run Bool)) : Type 0 where
  pub r : Run Bool
  pub more : List (Run Bool)
  pub is : rs ≡ r ∷ more
  pub start : r.start ≡ at

front_first : (at : ℕ) (rs : List (Run Bool)) → are_at rs at ≡ true → BeginsAt at (flat_map (front at) rs)
front_first at [] e = absurd (cc)
front_first at (r ∷ rs) e = by (has_byte at r) refl e (λ g. front_first at rs g)
  where
    by : (b : Bool) → has_byte at r ≡ b → (b || are_at rs at) ≡ true → (are_at rs at ≡ true → BeginsAt at (flat_map (front at) rs)) →
        BeginsAt at (front at r ++ flat_map (front at) rs)
    by true f g ih = record {
      r = tail_of at r;
      more = flat_map (front at) rs;
      is = ap (λ (b : Bool). (if b then tail_of at r ∷ [] else []) ++ flat_map (front at) rs) f;
      start = refl;
    }
    by false f g ih =
        let p = ih g in
        record {
          r = p.r;
          more = p.more;
          is = ap (λ (b : Bool). (if b then tail_of at r ∷ [] else []) ++ flat_map (front at) rs) f ∙ p.is;
          start = p.start;
        }

pub order_first : (at : ℕ) (rs : List (Run Bool)) → are_at rs at ≡ true → BeginsAt at (entry_first at rs)
order_first at rs e =
    let p = front_first at rs e in
    record {
      r = p.r;
      more = p.more ++ flat_map (rest at) rs;
      is = ap (λ (l : List (Run Bool)). l ++ flat_map (rest at) rs) p.is;
      start = p.start;
    }

-- Where an entry is entered.

module _ (spans : List Span) (runs : List (Run Bool)) where
  owner_is : (n a : ℕ) → owner spans n ≡ Some a → is_owner spans n a ≡ true
  owner_is n a e = ap (λ (o : Option ℕ). option_map_or (λ o. o == a) o false) e ∙ same a
    where
      same : (a : ℕ) → (a == a) ≡ true
      same a = grind (arith, nat_tests)

  owner_from : (n a : ℕ) → is_owner spans n a ≡ true → owner spans n ≡ Some a
  owner_from n a e = by (owner spans n) e
    where
      by : (o : Option ℕ) → option_map_or (λ o. o == a) o false ≡ true → o ≡ Some a
      by None f = absurd (cc)
      by (Some o) f = ap (λ (m : ℕ). Some m) (eqb-true o a f)

  is_placed : (a n : ℕ) → moved spans a ≡ Some n → owner spans n ≡ Some a → are_at runs n ≡ true → placed spans runs (Some a) ≡ Some n
  is_placed a n to own there =
      ap (option_and_then (at_place spans runs a)) to
      ∙ (λ i. if owner_is n a own i && there i then Some n else None)

  not_placed : (a : ℕ) → ((n : ℕ) → owner spans n ≡ Some a → are_at runs n ≡ false) → placed spans runs (Some a) ≡ None
  not_placed a nowhere = by (moved spans a)
    where
      at : (n : ℕ) (b : Bool) → is_owner spans n a ≡ b → (if b && are_at runs n then Some n else None) ≡ None
      at n true e = ap (λ (c : Bool). if c then Some n else None) (nowhere n (owner_from n a e))
      at n false e = refl

      by : (o : Option ℕ) → option_and_then (at_place spans runs a) o ≡ None
      by None = refl
      by (Some n) = at n (is_owner spans n a) refl

-- The start of the first range is held.
first_held : (ranges : List Range) (a : ℕ) → first_start ranges ≡ Some a → list_any (holds_address a) ranges ≡ true
first_held [] a e = absurd (cc)
first_held (r ∷ ranges) a e = by (has_bytes r) refl e (first_held ranges a)
  where
    same : (m n : ℕ) → Some m ≡ Some n → m ≡ n
    same m n e = cc

    low_held : (low high a : ℕ) (more b : Bool) → (nat_lt low high && b) ≡ true → low ≡ a → ((nat_le low a && nat_lt a high) || more) ≡ true
    low_held low high a more b f g = grind (arith, nat_tests)

    or_more : (b c : Bool) → c ≡ true → (b || c) ≡ true
    or_more true c e = refl
    or_more false c e = e

    by : (b : Bool) → has_bytes r ≡ b → option_map (λ (r : Range). r.low) (if b then Some r else find has_bytes ranges) ≡ Some a →
        (first_start ranges ≡ Some a → list_any (holds_address a) ranges ≡ true) →
        (holds_address a r || list_any (holds_address a) ranges) ≡ true
    by true f g ih = low_held r.low r.high a (list_any (holds_address a) ranges) _ f (same r.low a g)
    by false f g ih = or_more (holds_address a r) (list_any (holds_address a) ranges) (ih g)

-- The runs have the bytes whose owners some ranges hold.
abbrev pub AreRunsIn : List Span → List Range → List (Run Bool) → Type 0
AreRunsIn spans ranges runs = (p : ℕ) → are_at runs p ≡ option_map_or (λ o. list_any (holds_address o) ranges) (owner spans p) false

module _ (spans : List Span) (ranges : List Range) (runs : List (Run Bool)) (are : AreRunsIn spans ranges runs) where
  owned : (n a : ℕ) → owner spans n ≡ Some a → are_at runs n ≡ list_any (holds_address a) ranges
  owned n a own = are n ∙ ap (λ (o : Option ℕ). option_map_or (λ o. list_any (holds_address o) ranges) o false) own

  by_first : (e : RangedEntry) (a n : ℕ) → e.first ≡ first_start ranges → placed spans runs e.entry ≡ None →
      first_start ranges ≡ Some a → moved spans a ≡ Some n → owner spans n ≡ Some a → entry_place spans runs e ≡ n
  by_first e a n first none is to own =
      (λ i. unwrap_or (option_or (none i) (placed spans runs ((first ∙ is) i))) 0)
      ∙ ap (λ (o : Option ℕ). unwrap_or o 0) (is_placed spans runs a n to own (owned n a own ∙ first_held ranges a is))

  pub entered_at : (e : RangedEntry) (named : Option ℕ) (a n : ℕ) → e.entry ≡ named → e.first ≡ first_start ranges →
      entered named ranges ≡ Some a → moved spans a ≡ Some n → owner spans n ≡ Some a →
      (entry_place spans runs e ≡ n) × (are_at runs n ≡ true)
  entered_at e None a n entry first is to own = (
    by_first e a n first (ap (placed spans runs) entry) is to own,
    owned n a own ∙ first_held ranges a is,
  )
  entered_at e (Some b) a n entry first is to own = by (list_any (holds_address b) ranges) refl is
    where
      same : (m n : ℕ) → Some m ≡ Some n → m ≡ n
      same m n e = cc

      by : (h : Bool) → list_any (holds_address b) ranges ≡ h → option_or (if h then Some b else None) (first_start ranges) ≡ Some a →
          (entry_place spans runs e ≡ n) × (are_at runs n ≡ true)
      by true f g =
          let is_b : b ≡ a = same b a g in
          let there : are_at runs n ≡ true = owned n a own ∙ ap (λ (x : ℕ). list_any (holds_address x) ranges) (sym is_b) ∙ f in
          let here : placed spans runs e.entry ≡ Some n =
          ap (placed spans runs) (entry ∙ ap (λ (x : ℕ). Some x) is_b) ∙ is_placed spans runs a n to own there in
          (ap (λ (o : Option ℕ). unwrap_or (option_or o (placed spans runs e.first)) 0) here, there)
      by false f g = (
        by_first e a n first
            (ap (placed spans runs) entry ∙ not_placed spans runs b (λ m own_m. owned m b own_m ∙ f)) g to own,
        owned n a own ∙ first_held ranges a g,
      )
