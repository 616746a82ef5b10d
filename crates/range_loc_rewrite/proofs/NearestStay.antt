-- If the same entries cover two addresses, an entry's nearest ranges contain both or none.
use Rattle.std.proofs.Common.{◌≡◌, ◌∙◌, ◌+◌, ◌≤◌, ◌++◌, ◌∷◌, [], ℕ, Bool, true, false, List, Option, Some, None, refl, sym, subst, arith}
use Rattle.std.proofs.Common.{map, filter, length}
use Rattle.std.specs.Prelude.{if◌then◌else◌, is_some, nat_lt, filter_map}
use Rattle.std.specs.List.{AllZip, cons_option}
use Rattle.answer_runs.specs.declared.range.Range.{Range}
use Rattle.answer_runs.specs.Choices.{first_of}
use Rattle.dw_unit.specs.CompUnits.{Entry, enclosing}
use Rattle.answer_runs.proofs.Ascending.{Ascends}
use Rattle.dw_lists.specs.Ranges.{Ranged, ranged_from}
use Rattle.cover_lists.specs.Located.{hold}

abbrev pub place_in : Ranged → ℕ
place_in r = r.entry.place

-- The offsets of the entries that cover an address.
abbrev pub covered : List Ranged → ℕ → List ℕ
covered rs a = map place_in (filter (λ (r : Ranged). hold r.own a) rs)

same_head : (x y : ℕ) (xs ys : List ℕ) → x ∷ xs ≡ y ∷ ys → x ≡ y
same_head x y xs ys e = cc

same_rest : (x y : ℕ) (xs ys : List ℕ) → x ∷ xs ≡ y ∷ ys → xs ≡ ys
same_rest x y xs ys e = cc

no_head : (y : ℕ) (ys : List ℕ) → y ∷ ys ≡ [] → ⊥
no_head y ys e = cc

-- All that cover it are at or after an offset.
behind : (lo : ℕ) (rs : List Ranged) (a n : ℕ) (ns : List ℕ) → Ascends lo (map place_in rs) → covered rs a ≡ n ∷ ns → lo ≤ n
behind lo [] a n ns up e = absurd (no_head n ns (sym e))
behind lo (r ∷ rs) a n ns up e = step (hold r.own a) e (λ f. behind (r.entry.place + 1) rs a n ns up.1 f)
  where
    step : (b : Bool) → map place_in (if b then r ∷ filter (λ (r : Ranged). hold r.own a) rs else filter (λ (r : Ranged). hold r.own a) rs)
        ≡ n ∷ ns →
        (covered rs a ≡ n ∷ ns → r.entry.place + 1 ≤ n) → lo ≤ n
    step true f ih = let same : r.entry.place ≡ n = same_head r.entry.place n (covered rs a) ns f in omega (arith, up.0, same)
    step false f ih = let h = ih f in omega (arith, up.0, h)

pub record HoldAlike (a p : ℕ) (x y : Ranged) : Type 0 where
  pub place : y.entry.place ≡ x.entry.place
  pub held : hold y.own p ≡ hold x.own a

-- If entries at the same offsets cover the same, each pair agrees.
pub hold_alike : (lo a p : ℕ) (xs ys : List Ranged) → Ascends lo (map place_in xs) → map place_in ys ≡ map place_in xs →
    covered ys p ≡ covered xs a →
    AllZip (HoldAlike a p) xs ys
hold_alike lo a p [] [] up same e = tt
hold_alike lo a p [] (y ∷ ys) up same e = absurd (no_head _ _ same)
hold_alike lo a p (x ∷ xs) [] up same e = absurd (no_head _ _ (sym same))
hold_alike lo a p (x ∷ xs) (y ∷ ys) up same e =
    step (hold y.own p) (hold x.own a) refl refl e
    (λ f. hold_alike (x.entry.place + 1) a p xs ys up.1 (same_rest y.entry.place x.entry.place (map place_in ys) (map place_in xs) same) f)
  where
    here : y.entry.place ≡ x.entry.place
    here = same_head y.entry.place x.entry.place (map place_in ys) (map place_in xs) same

    rest : map place_in ys ≡ map place_in xs
    rest = same_rest y.entry.place x.entry.place (map place_in ys) (map place_in xs) same

    clash : (m n k : ℕ) → m + 1 ≤ n → n ≡ k → k ≡ m → ⊥
    clash m n k h e f = omega arith

    step : (b c : Bool) → hold y.own p ≡ b → hold x.own a ≡ c →
        map place_in (if b then y ∷ filter (λ (r : Ranged). hold r.own p) ys else filter (λ (r : Ranged). hold r.own p) ys)
        ≡ map place_in (if c then x ∷ filter (λ (r : Ranged). hold r.own a) xs else filter (λ (r : Ranged). hold r.own a) xs) →
        (covered ys p ≡ covered xs a → AllZip (HoldAlike a p) xs ys) → AllZip (HoldAlike a p) (x ∷ xs) (y ∷ ys)
    step true true f g e ih =
        (record { place = here; held = f ∙ sym g }, ih (same_rest y.entry.place x.entry.place (covered ys p) (covered xs a) e))
    step false false f g e ih = (record { place = here; held = f ∙ sym g }, ih e)
    step true false f g e ih =
        let h = behind (x.entry.place + 1) xs a y.entry.place (covered ys p) up.1 (sym e) in
        absurd (clash x.entry.place y.entry.place y.entry.place h refl here)
    step false true f g e ih =
        let h = behind (x.entry.place + 1) ys p x.entry.place (covered xs a) (subst (Ascends (x.entry.place + 1)) (sym rest) up.1) e in
        absurd (clash x.entry.place x.entry.place x.entry.place h refl refl)

-- The nearest ranges

module _ (own new : Entry → Option (List Range)) (a p : ℕ) where
  pub record AlikeRanges (d e : Entry) : Type 0 where
    pub depth : e.depth ≡ d.depth
    pub some : is_some (new e) ≡ is_some (own d)
    pub held : hold (new e) p ≡ hold (own d) a

  enclosing_alike : (m n : ℕ) → n ≡ m → (ds es : List Entry) → AllZip AlikeRanges ds es →
      AllZip AlikeRanges (enclosing m ds) (enclosing n es)
  enclosing_alike m n same [] [] z = tt
  enclosing_alike m n same [] (e ∷ es) z = absurd z
  enclosing_alike m n same (d ∷ ds) [] z = absurd z
  enclosing_alike m n same (d ∷ ds) (e ∷ es) z =
      by (nat_lt d.depth m) (nat_lt e.depth n) (λ i. nat_lt (z.0.depth i) (same i)) (enclosing_alike d.depth e.depth z.0.depth ds es z.1)
      (enclosing_alike m n same ds es z.1)
    where
      by : (b c : Bool) → c ≡ b → AllZip AlikeRanges (enclosing d.depth ds) (enclosing e.depth es) →
          AllZip AlikeRanges (enclosing m ds) (enclosing n es) →
          AllZip AlikeRanges (if b then d ∷ enclosing d.depth ds else enclosing m ds)
          (if c then e ∷ enclosing e.depth es else enclosing n es)
      by true true q inner outer = (z.0, inner)
      by false false q inner outer = outer
      by true false q inner outer = absurd (cc)
      by false true q inner outer = absurd (cc)

  pub nearest_alike : (ds es : List Entry) → AllZip AlikeRanges ds es →
      hold (first_of (filter_map new es)) p ≡ hold (first_of (filter_map own ds)) a
  nearest_alike [] [] z = refl
  nearest_alike [] (e ∷ es) z = absurd z
  nearest_alike (d ∷ ds) [] z = absurd z
  nearest_alike (d ∷ ds) (e ∷ es) z = by (new e) (own d) z.0.some z.0.held (nearest_alike ds es z.1)
    where
      by : (x y : Option (List Range)) → is_some x ≡ is_some y → hold x p ≡ hold y a →
          hold (first_of (filter_map new es)) p ≡ hold (first_of (filter_map own ds)) a →
          hold (first_of (cons_option x (filter_map new es))) p ≡ hold (first_of (cons_option y (filter_map own ds))) a
      by None None q h more = more
      by (Some xs) (Some ys) q h more = h
      by None (Some ys) q h more = absurd (cc)
      by (Some xs) None q h more = absurd (cc)

  -- Entry by entry.
  pub record IsRangedAlike (R : Entry → Entry → Type 0) (x y : Ranged) : Type 0 where
    pub entries : R x.entry y.entry
    pub held : hold y.nearest p ≡ hold x.nearest a

  pub ranged_alike : (R : Entry → Entry → Type 0) (before after ds es : List Entry) → AllZip AlikeRanges before after →
      AllZip AlikeRanges ds es → AllZip R ds es →
      AllZip (IsRangedAlike R) (ranged_from own before ds) (ranged_from new after es)
  ranged_alike R before after [] [] b z r = tt
  ranged_alike R before after [] (e ∷ es) b z r = absurd z
  ranged_alike R before after (d ∷ ds) [] b z r = absurd z
  ranged_alike R before after (d ∷ ds) (e ∷ es) b z r = (
    record {
      entries = r.0;
      held = nearest_alike (d ∷ enclosing d.depth before) (e ∷ enclosing e.depth after)
          (z.0, enclosing_alike d.depth e.depth z.0.depth before after b);
    },
    ranged_alike R (d ∷ before) (e ∷ after) ds es (z.0, b) z.1 r.1,
  )

-- Lists of several units

pub record Split {X Y : Type 0} (R : X → Y → Type 0) (xs : List X) (ys : List Y) (more : List X) (rest : List Y) : Type 0 where
  pub front : AllZip R xs ys
  pub back : AllZip R more rest

pub zip_split : {X Y : Type 0} (R : X → Y → Type 0) (xs : List X) (ys : List Y) (more : List X) (rest : List Y) → length ys ≡ length xs →
    AllZip R (xs ++ more) (ys ++ rest) → Split R xs ys more rest
zip_split R [] [] more rest e z = record { front = tt; back = z }
zip_split R [] (y ∷ ys) more rest e z = absurd (omega (arith, e))
zip_split R (x ∷ xs) [] more rest e z = absurd (omega (arith, e))
zip_split R (x ∷ xs) (y ∷ ys) more rest e z =
    let p = zip_split R xs ys more rest (omega (arith, e)) z.1 in record { front = (z.0, p.front); back = p.back }
