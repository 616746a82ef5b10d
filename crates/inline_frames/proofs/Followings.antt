-- Steps of following references.
use Rattle.std.proofs.Common.{◌≡◌, ◌∙◌, ◌<◌, ◌≤◌, ◌+◌, ◌==◌, ℕ, zero, suc, Bool, true, false, cond, List, [], ◌∷◌, Option, Some, None, refl}
use Rattle.std.proofs.Common.{sym, ap, subst, arith, drop, get_or, length, map}
use Rattle.std.specs.Prelude.{◌||◌, if◌then◌else◌, is_some, option_map}
use Rattle.std.specs.BTreeMap.{BTreeMap, get, is_at}
use Rattle.std.specs.BTreeSet.{BTreeSet, contains}
use Rattle.std.specs.List.{find, list_any}
use Rattle.std.specs.Option.{option_or}
use Rattle.std.specs.Ordering.{nat_cmp}
use Rattle.std.proofs.lemmas.Bool.Decides.{nat_tests}
use Rattle.std.proofs.lemmas.Grind.{common_steps}
use Rattle.std.proofs.lemmas.List.{drop_more}
use Rattle.dw_unit.specs.ListedEntries.{ListedEntry}
use Rattle.inline_frames.specs.Following.{file_naming, followed_by, followed_times, listed_naming, refers_to, target_of, unit_naming}
use Rattle.inline_frames.specs.Naming.{naming_or_none}
use Rattle.inline_frames.specs.declared.naming.Naming.{Naming}
use Rattle.inline_frames.specs.declared.naming.Naming.TheVariants.{Named, Refers}
use Rattle.range_loc_rewrite.proofs.NumberSets.{at_key}

-- The namings of a unit's entries

module _ (str_offsets : List ℕ) (es : List ListedEntry) (q : ℕ) where
  abbrev from : ℕ → Option Naming
  from i = option_map (listed_naming str_offsets es) (find (λ (e : ListedEntry). e.place == q) (drop i es))

  -- The namings found, with those of the entries from an index on.
  abbrev pub WithRest : Bool → ℕ → Option Naming → Option Naming → Type 0
  WithRest wanted i old found =
      option_or found (if wanted then option_map (listed_naming str_offsets es) (find (λ (e : ListedEntry). e.place == q) (drop i es)) else
      None)
      ≡ option_or old (if wanted then unit_naming str_offsets es q else None)

  opened : (i : ℕ) (d : ListedEntry) → i < length es →
      from i ≡ (if (get_or es i d).place == q then Some (listed_naming str_offsets es (get_or es i d)) else from (i + 1))
  opened i d h =
      ap (λ (l : List ListedEntry). option_map (listed_naming str_offsets es) (find (λ (e : ListedEntry). e.place == q) l))
      (drop_more es i d h)
      ∙ by ((get_or es i d).place == q) where
        by : (b : Bool) →
            option_map (listed_naming str_offsets es) (cond b (Some (get_or es i d))
            (find (λ (e : ListedEntry). e.place == q) (drop (i + 1) es)))
            ≡ (if b then Some (listed_naming str_offsets es (get_or es i d)) else from (i + 1))
        by true = refl
        by false = refl

  module _ (wanted : Bool) (i : ℕ) (d : ListedEntry) (old found : Option Naming) (h : i < length es)
      (inv : WithRest wanted i old found) where
    abbrev here : ListedEntry
    here = get_or es i d

    abbrev next : Option Naming
    next = from (i + 1)

    step : option_or found (if wanted then (if here.place == q then Some (listed_naming str_offsets es here) else next) else None)
        ≡ option_or old (if wanted then unit_naming str_offsets es q else None)
    step = sym (ap (λ (o : Option Naming). option_or found (if wanted then o else None)) (opened i d h)) ∙ inv

    -- Another entry.
    pub other_place : (here.place == q) ≡ false → WithRest wanted (i + 1) old found
    other_place e =
        sym (ap (λ (b : Bool). option_or found (if wanted then (if b then Some (listed_naming str_offsets es here) else next) else None)) e)
        ∙ step

    -- An entry that isn't wanted, or was found before.
    pub not_wanted : wanted ≡ false → WithRest wanted (i + 1) old found
    not_wanted e =
        ap (λ (b : Bool). option_or found (if b then next else None)) e
        ∙ sym (ap (λ (b : Bool). option_or found (if b then (if here.place == q then Some (listed_naming str_offsets es here) else next)
        else None)) e)
        ∙ step

    pub known : is_some found ≡ true → WithRest wanted (i + 1) old found
    known e = by found e step where
      by : (o : Option Naming) → is_some o ≡ true →
          option_or o (if wanted then (if here.place == q then Some (listed_naming str_offsets es here) else next) else None)
          ≡ option_or old (if wanted then unit_naming str_offsets es q else None) →
          option_or o (if wanted then next else None) ≡ option_or old (if wanted then unit_naming str_offsets es q else None)
      by None e f = absurd (cc)
      by (Some n) e f = f

    -- An entry that is found now.
    pub found_now : (here.place == q) ≡ true → wanted ≡ true → found ≡ None →
        WithRest wanted (i + 1) old (Some (listed_naming str_offsets es here))
    found_now e w none =
        sym (λ j. option_or (none j) (if w j then (if e j then Some (listed_naming str_offsets es here) else next) else None)) ∙ step

  pub rest_first : (wanted : Bool) (old : Option Naming) → WithRest wanted 0 old old
  rest_first wanted old = refl

  pub rest_end : (wanted : Bool) (i : ℕ) (old found : Option Naming) → length es ≤ i → WithRest wanted i old found →
      found ≡ option_or old (if wanted then unit_naming str_offsets es q else None)
  rest_end wanted i old found h inv =
      let none : drop i es ≡ [] = grind (arith, common_steps) in
      sym (nothing wanted found)
      ∙ sym (ap (λ (l : List ListedEntry). option_or found (if wanted
      then option_map (listed_naming str_offsets es) (find (λ (e : ListedEntry). e.place == q) l) else None)) none) ∙ inv
    where
      nothing : (b : Bool) (o : Option Naming) → option_or o (if b then None else None) ≡ o
      nothing true None = refl
      nothing true (Some n) = refl
      nothing false None = refl
      nothing false (Some n) = refl

-- All offsets, with one more entry

module _ (str_offsets : List ℕ) (es : List ListedEntry) (wanted : BTreeSet ℕ) (first : BTreeMap ℕ Naming) where
  abbrev pub AreWith : ℕ → BTreeMap ℕ Naming → Type 0
  AreWith i found = (q : ℕ) → WithRest str_offsets es q (contains nat_cmp wanted q) i (get nat_cmp first q) (get nat_cmp found q)

  pub with_first : AreWith 0 first
  with_first = λ q. rest_first str_offsets es q (contains nat_cmp wanted q) (get nat_cmp first q)

  pub with_end : (i : ℕ) (found : BTreeMap ℕ Naming) → length es ≤ i → AreWith i found → (q : ℕ) →
      get nat_cmp found q ≡ option_or (get nat_cmp first q) (if contains nat_cmp wanted q then unit_naming str_offsets es q else None)
  with_end i found h inv = λ q. rest_end str_offsets es q (contains nat_cmp wanted q) i (get nat_cmp first q) (get nat_cmp found q) h
      (inv q)

  module _ (i : ℕ) (e : ListedEntry) (found : BTreeMap ℕ Naming) (h : i < length es) (is : e ≡ get_or es i e) (inv : AreWith i found) where
    abbrev place : ℕ
    place = (get_or es i e).place

    same_place : (q : ℕ) → (place == q) ≡ true → e.place ≡ q
    same_place q t = let at : place ≡ q = grind (arith, nat_tests) in ap (λ (x : ListedEntry). x.place) is ∙ at

    pub with_not_wanted : contains nat_cmp wanted e.place ≡ false → AreWith (i + 1) found
    with_not_wanted not = λ q. by q (place == q) refl where
      by : (q : ℕ) (b : Bool) → (place == q) ≡ b →
          WithRest str_offsets es q (contains nat_cmp wanted q) (i + 1) (get nat_cmp first q) (get nat_cmp found q)
      by q true t = not_wanted str_offsets es q (contains nat_cmp wanted q) i e (get nat_cmp first q) (get nat_cmp found q) h (inv q)
          (sym (ap (contains nat_cmp wanted) (same_place q t)) ∙ not)
      by q false t = other_place str_offsets es q (contains nat_cmp wanted q) i e (get nat_cmp first q) (get nat_cmp found q) h (inv q) t

    pub with_known : is_some (get nat_cmp found e.place) ≡ true → AreWith (i + 1) found
    with_known has = λ q. by q (place == q) refl where
      by : (q : ℕ) (b : Bool) → (place == q) ≡ b →
          WithRest str_offsets es q (contains nat_cmp wanted q) (i + 1) (get nat_cmp first q) (get nat_cmp found q)
      by q true t = known str_offsets es q (contains nat_cmp wanted q) i e (get nat_cmp first q) (get nat_cmp found q) h (inv q)
          (sym (ap (λ (k : ℕ). is_some (get nat_cmp found k)) (same_place q t)) ∙ has)
      by q false t = other_place str_offsets es q (contains nat_cmp wanted q) i e (get nat_cmp first q) (get nat_cmp found q) h (inv q) t

    pub with_new : (new : BTreeMap ℕ Naming) → contains nat_cmp wanted e.place ≡ true → is_some (get nat_cmp found e.place) ≡ false →
        ((q : ℕ) → get nat_cmp new q ≡ cond (is_at (nat_cmp e.place) q) (Some (listed_naming str_offsets es e)) (get nat_cmp found q)) →
        AreWith (i + 1) new
    with_new new w none more = λ q. by q (place == q) refl where
      at : (q : ℕ) → get nat_cmp new q ≡ cond (place == q) (Some (listed_naming str_offsets es (get_or es i e))) (get nat_cmp found q)
      at q = more q ∙ ap (λ (b : Bool). cond b (Some (listed_naming str_offsets es e)) (get nat_cmp found q)) (at_key e.place q)
          ∙ ap (λ (x : ListedEntry). cond (x.place == q) (Some (listed_naming str_offsets es x)) (get nat_cmp found q)) is

      no_some : (o : Option Naming) → is_some o ≡ false → o ≡ None
      no_some None t = refl
      no_some (Some n) t = absurd (cc)

      by : (q : ℕ) (b : Bool) → (place == q) ≡ b →
          WithRest str_offsets es q (contains nat_cmp wanted q) (i + 1) (get nat_cmp first q) (get nat_cmp new q)
      by q true t = subst (WithRest str_offsets es q (contains nat_cmp wanted q) (i + 1) (get nat_cmp first q))
          (sym (at q ∙ ap (λ (b : Bool). cond b (Some (listed_naming str_offsets es (get_or es i e))) (get nat_cmp found q)) t))
          (found_now str_offsets es q (contains nat_cmp wanted q) i e (get nat_cmp first q) (get nat_cmp found q) h (inv q) t
          (sym (ap (contains nat_cmp wanted) (same_place q t)) ∙ w)
          (sym (ap (get nat_cmp found) (same_place q t)) ∙ no_some (get nat_cmp found e.place) none))
      by q false t = subst (WithRest str_offsets es q (contains nat_cmp wanted q) (i + 1) (get nat_cmp first q))
          (sym (at q ∙ ap (λ (b : Bool). cond b (Some (listed_naming str_offsets es (get_or es i e))) (get nat_cmp found q)) t))
          (other_place str_offsets es q (contains nat_cmp wanted q) i e (get nat_cmp first q) (get nat_cmp found q) h (inv q) t)

-- All references followed

no_more_by : (found : ℕ → Option Naming) (n : Naming) → is_some (target_of n) ≡ false → followed_by found n ≡ n
no_more_by found (Named t) e = refl
no_more_by found (Refers place) e = absurd (cc)

named_stays : (str_offsets : List ℕ) (units : List (List ListedEntry)) (k : ℕ) (n : Naming) → is_some (target_of n) ≡ false →
    followed_times str_offsets units k n ≡ n
named_stays str_offsets units zero n e = refl
named_stays str_offsets units (suc k) n e =
    ap (followed_times str_offsets units k) (no_more_by (file_naming str_offsets units) n e) ∙ named_stays str_offsets units k n e

-- No reference is left to follow.
pub all_stay : (str_offsets : List ℕ) (units : List (List ListedEntry)) (k : ℕ) (ns : List Naming) →
    list_any (λ (n : Naming). is_some (target_of n)) ns ≡ false → ns ≡ map (followed_times str_offsets units k) ns
all_stay str_offsets units k [] e = refl
all_stay str_offsets units k (n ∷ ns) e = by (is_some (target_of n)) refl e (all_stay str_offsets units k ns) where
  by : (b : Bool) → is_some (target_of n) ≡ b → (b || list_any (λ (n : Naming). is_some (target_of n)) ns) ≡ false →
      (list_any (λ (n : Naming). is_some (target_of n)) ns ≡ false → ns ≡ map (followed_times str_offsets units k) ns) →
      n ∷ ns ≡ followed_times str_offsets units k n ∷ map (followed_times str_offsets units k) ns
  by true t e more = absurd (cc)
  by false t e more = λ i. sym (named_stays str_offsets units k n t) i ∷ more e i

-- One reference of each, if its target was found.
followed_same : (f g : ℕ → Option Naming) (n : Naming) → ((q : ℕ) → refers_to q n ≡ true → f q ≡ g q) → followed_by f n ≡ followed_by g n
followed_same f g (Named t) same = refl
followed_same f g (Refers place) same =
    let t : (place == place) ≡ true = grind (arith, nat_tests) in
    ap naming_or_none (same place t)

pub all_same : (f g : ℕ → Option Naming) (ns : List Naming) → ((q : ℕ) → list_any (refers_to q) ns ≡ true → f q ≡ g q) →
    map (followed_by f) ns ≡ map (followed_by g) ns
all_same f g [] same = refl
all_same f g (n ∷ ns) same = λ i.
    followed_same f g n (λ q t. same q (left (refers_to q n) (list_any (refers_to q) ns) t)) i
    ∷ all_same f g ns (λ q t. same q (right (refers_to q n) (list_any (refers_to q) ns) t)) i
  where
    left : (b c : Bool) → b ≡ true → (b || c) ≡ true
    left true c e = refl
    left false c e = absurd (cc)

    right : (b c : Bool) → c ≡ true → (b || c) ≡ true
    right true c e = refl
    right false c e = e

map_twice : (f g h : Naming → Naming) → ((n : Naming) → f (g n) ≡ h n) → (ns : List Naming) → map f (map g ns) ≡ map h ns
map_twice f g h e [] = refl
map_twice f g h e (n ∷ ns) = λ i. e n i ∷ map_twice f g h e ns i

-- One more round.
pub round_more : (str_offsets : List ℕ) (units : List (List ListedEntry)) (k : ℕ) (now new : List Naming) (found : ℕ → Option Naming) →
    ((q : ℕ) → found q ≡ (if list_any (refers_to q) now then file_naming str_offsets units q else None)) →
    new ≡ map (followed_by found) now →
    map (followed_times str_offsets units k) new ≡ map (followed_times str_offsets units (suc k)) now
round_more str_offsets units k now new found are e =
    ap (map (followed_times str_offsets units k)) (e ∙ all_same found (file_naming str_offsets units) now
    (λ q t. are q ∙ ap (λ (b : Bool). if b then file_naming str_offsets units q else None) t))
    ∙ map_twice (followed_times str_offsets units k) (followed_by (file_naming str_offsets units))
    (followed_times str_offsets units (suc k))
    (λ n. refl) now

pub no_rounds : (str_offsets : List ℕ) (units : List (List ListedEntry)) (ns : List Naming) →
    map (followed_times str_offsets units 0) ns ≡ ns
no_rounds str_offsets units [] = refl
no_rounds str_offsets units (n ∷ ns) = ap (λ (l : List Naming). n ∷ l) (no_rounds str_offsets units ns)
