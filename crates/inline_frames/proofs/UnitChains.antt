-- The chain of a unit, found by the indexes of its entries.
use Rattle.std.proofs.Common.{◌≡◌, ◌∙◌, ◌<◌, ◌≤◌, ◌+◌, ◌-◌, ◌++◌, ℕ, Bool, true, false, List, [], ◌∷◌, Option, Some, None, refl, sym, ap}
use Rattle.std.proofs.Common.{subst, arith, append_assoc, drop, get_or, length, map, reverse, take}
use Rattle.std.specs.Prelude.{◌==◌, IfSome, nat_lt, if◌then◌else◌}
use Rattle.std.specs.BTreeSet.{BTreeSet}
use Rattle.std.proofs.lemmas.Bool.Decides.{nat_tests}
use Rattle.std.proofs.lemmas.Grind.{common_steps}
use Rattle.std.proofs.lemmas.List.{append-nil, drop_more, reverse-append, take_more}
use Rattle.dw_unit.specs.CompUnits.{Entry, enclosing}
use Rattle.dw_unit.specs.ListedEntries.{ListedEntry, listed}
use Rattle.dw_unit.specs.ListedUnits.{plain}
use Rattle.inline_frames.specs.Chains.{chain_in, outward}
use Rattle.inline_frames.specs.Links.{listed_link, own_says}
use Rattle.inline_frames.specs.UnitChains.{chain_from, function_test, is_function, link_in, unit_chain, with_enclosing}
use Rattle.inline_frames.specs.declared.link.Link.{Link}
use Rattle.inline_frames.specs.declared.tag.TheConstants.{DW_TAG_subprogram}

-- A default, for an index past the end.
pub no_entry : ListedEntry
no_entry = record { place = 0; unit = 0; depth = 0; tag = 0; attrs = [] }

pub within_more : (es : List ListedEntry) (i : ℕ) (counts : Bool) (found new : Option ℕ) → i < length es →
    IfSome found (λ n. n < length es) → new ≡ (if counts then Some i else found) → IfSome new (λ n. n < length es)
within_more es i counts found new h inv e = subst (λ (o : Option ℕ). IfSome o (λ n. n < length es)) (sym e) (by counts) where
  by : (b : Bool) → IfSome (if b then Some i else found) (λ n. n < length es)
  by true = h
  by false = inv

-- Entries in reverse order, with one more.
pub backward_more : (es : List Entry) (i : ℕ) (d : Entry) → i < length es → reverse (take (i + 1) es) ≡ get_or es i d ∷ reverse (take i es)
backward_more es i d h = ap reverse (take_more es i d h) ∙ reverse-append (take i es) (get_or es i d ∷ [])

pub mapped_at : (es : List ListedEntry) (i : ℕ) (d : ListedEntry) → i < length es →
    get_or (map plain es) i (plain d) ≡ plain (get_or es i d)
mapped_at es i d h = grind (arith, common_steps)

module _ (covering : BTreeSet ℕ) (es : List ListedEntry) where
  abbrev test : Entry → Bool
  test e = function_test covering e

  abbrev plains : List Entry
  plains = map plain es

  -- The last function

  abbrev pub IsInner : ℕ → Option ℕ → Type 0
  IsInner i found =
      chain_in (function_test covering) (chain_from covering es found) (reverse (take i (map plain es))) (drop i (map plain es))
      ≡ unit_chain covering es

  pub inner_first : IsInner 0 None
  inner_first = refl

  pub inner_more : (i : ℕ) (d : ListedEntry) (found : Option ℕ) → i < length es → IsInner i found →
      IsInner (i + 1) (if is_function covering (get_or es i d) then Some i else found)
  inner_more i d found h inv =
      let e : Entry = get_or plains i (plain d) in
      let count : length plains ≡ length es = grind (arith, common_steps) in
      let within : i < length plains = omega arith in
      let back : reverse (take (i + 1) plains) ≡ e ∷ reverse (take i plains) = backward_more plains i (plain d) within in
      let same : e ≡ plain (get_or es i d) = mapped_at es i d h in
      (λ j. chain_in test (chain_from covering es (if is_function covering (listed (sym same j)) then Some i else found)) (back j)
      (drop (i + 1) plains))
      ∙ ap (λ (f : List Entry). chain_in test f (e ∷ reverse (take i plains)) (drop (i + 1) plains))
      (by (test e) back)
      ∙ sym (ap (chain_in test (chain_from covering es found) (reverse (take i plains))) (drop_more plains i (plain d) within)) ∙ inv
    where
      by : (b : Bool) → reverse (take (i + 1) plains) ≡ get_or plains i (plain d) ∷ reverse (take i plains) →
          chain_from covering es (if b then Some i else found)
          ≡ (if b then outward test (get_or plains i (plain d) ∷ enclosing (get_or plains i (plain d)).depth (reverse (take i plains)))
          else chain_from covering es found)
      by true back = ap (λ (l : List Entry). outward test (with_enclosing l)) back
      by false back = refl

  pub inner_end : (i : ℕ) (found : Option ℕ) → length es ≤ i → IsInner i found → chain_from covering es found ≡ unit_chain covering es
  inner_end i found h inv =
      let none : drop i plains ≡ [] = grind (arith, common_steps) in
      sym (ap (chain_in test (chain_from covering es found) (reverse (take i plains))) none) ∙ inv

  -- Outward from it

  module _ (str_offsets : List ℕ) where
    abbrev link : Entry → Link
    link e = link_in str_offsets es e

    -- The links kept so far, and those of the entries that are left.
    abbrev pub AreLinks : ℕ → ℕ → List Link → Type 0
    AreLinks depth number links =
        links ++ map (link_in str_offsets es) (outward (function_test covering) (enclosing depth (reverse (take number (map plain es)))))
        ≡ map (link_in str_offsets es) (unit_chain covering es)

    pub no_links : unit_chain covering es ≡ [] → [] ≡ map link (unit_chain covering es)
    no_links e = sym (ap (map link) e)

    pub links_first : (n : ℕ) (d : ListedEntry) → n < length es → chain_from covering es (Some n) ≡ unit_chain covering es →
        AreLinks ((get_or es n d).depth + 1) (n + 1) []
    links_first n d h is =
        let e : Entry = get_or plains n (plain d) in
        let count : length plains ≡ length es = grind (arith, common_steps) in
        let within : n < length plains = omega arith in
        let back : reverse (take (n + 1) plains) ≡ e ∷ reverse (take n plains) = backward_more plains n (plain d) within in
        let same : e ≡ plain (get_or es n d) = mapped_at es n d h in
        let depth : e.depth ≡ (get_or es n d).depth = ap (λ (x : Entry). x.depth) same in
        let less : nat_lt e.depth ((get_or es n d).depth + 1) ≡ true = grind (arith, nat_tests) in
        ap (λ (l : List Entry). map link (outward test (enclosing ((get_or es n d).depth + 1) l))) back
        ∙ ap (λ (b : Bool). map link (outward test (if b then e ∷ enclosing e.depth (reverse (take n plains))
        else enclosing ((get_or es n d).depth + 1) (reverse (take n plains))))) less
        ∙ sym (ap (λ (l : List Entry). map link (outward test (with_enclosing l))) back) ∙ ap (map link) is

    module _ (depth n : ℕ) (d : ListedEntry) (links : List Link) (h : n < length es) (inv : AreLinks depth (n + 1) links) where
      abbrev here : ListedEntry
      here = get_or es n d

      abbrev before : List Entry
      before = reverse (take n plains)

      opened : links ++ map link (outward test (if nat_lt here.depth depth then plain here
          ∷ enclosing here.depth before else enclosing depth before))
          ≡ map link (unit_chain covering es)
      opened =
          let count : length plains ≡ length es = grind (arith, common_steps) in
          let within : n < length plains = omega arith in
          let back : reverse (take (n + 1) plains) ≡ plain here ∷ before =
          backward_more plains n (plain d) within ∙ ap (λ (x : Entry). x ∷ before) (mapped_at es n d h) in
          sym (ap (λ (l : List Entry). links ++ map link (outward test (enclosing depth l))) back) ∙ inv

      pub links_outside : depth ≤ here.depth → AreLinks depth n links
      links_outside le =
          let no_less : nat_lt here.depth depth ≡ false = grind (arith, nat_tests) in
          sym (ap (λ (b : Bool). links ++ map link (outward test
          (if b then plain here ∷ enclosing here.depth before else enclosing depth before))) no_less)
          ∙ opened

      inside : here.depth < depth → links ++ map link (outward test (plain here ∷ enclosing here.depth before)) ≡ map link
          (unit_chain covering es)
      inside lt =
          let less : nat_lt here.depth depth ≡ true = grind (arith, nat_tests) in
          sym (ap (λ (b : Bool). links ++ map link (outward test
          (if b then plain here ∷ enclosing here.depth before else enclosing depth before))) less)
          ∙ opened

      abbrev beyond : List Entry
      beyond = enclosing here.depth before

      by_test : here.depth < depth → (b : Bool) → is_function covering here ≡ b → (c : Bool) → (here.tag == DW_TAG_subprogram) ≡ c →
          links ++ map link (if b then (if c then plain here ∷ [] else plain here ∷ outward test beyond) else outward test beyond)
          ≡ map link (unit_chain covering es)
      by_test lt b e c f =
          sym (λ i. links ++ map link (if e i then (if f i then plain here ∷ [] else plain here ∷ outward test beyond) else outward test
          beyond))
          ∙ inside lt

      pub links_other : here.depth < depth → is_function covering here ≡ false → AreLinks here.depth n links
      links_other lt e = by_test lt false e (here.tag == DW_TAG_subprogram) refl

      module _ (lt : here.depth < depth) (e : is_function covering here ≡ true) (new : List Link)
          (is : new ≡ links ++ link (plain here) ∷ []) where
        pub links_last : (here.tag == DW_TAG_subprogram) ≡ true → new ≡ map link (unit_chain covering es)
        links_last f = is ∙ by_test lt true e true f

        pub links_more : (here.tag == DW_TAG_subprogram) ≡ false → AreLinks here.depth n new
        links_more f =
            ap (λ (l : List Link). l ++ map link (outward test beyond)) is
            ∙ append_assoc links (link (plain here) ∷ []) (map link (outward test beyond)) ∙ by_test lt true e false f

    pub links_end : (depth : ℕ) (links : List Link) → AreLinks depth 0 links → links ≡ map link (unit_chain covering es)
    links_end depth links inv = sym (append-nil links) ∙ inv

    -- For an entry before a number.
    module _ (depth number at : ℕ) (e : ListedEntry) (links : List Link) (some : 0 < number) (within : number ≤ length es)
        (is : e ≡ get_or es (number - 1) e) (here : at ≡ e.depth) (inv : AreLinks depth number links) where
      below : number - 1 < length es
      below = omega (arith, some, within)

      earlier : AreLinks depth (number - 1 + 1) links
      earlier = let same : number ≡ number - 1 + 1 = omega (arith, some) in subst (λ (k : ℕ). AreLinks depth k links) same inv

      depth_is : at ≡ (get_or es (number - 1) e).depth
      depth_is = here ∙ ap (λ (x : ListedEntry). x.depth) is

      pub pass_outside : depth ≤ at → AreLinks depth (number - 1) links
      pass_outside le = links_outside depth (number - 1) e links below earlier (subst (λ (k : ℕ). depth ≤ k) depth_is le)

      module _ (lt : at < depth) where
        less : (get_or es (number - 1) e).depth < depth
        less = subst (λ (k : ℕ). k < depth) depth_is lt

        pub pass_other : is_function covering e ≡ false → AreLinks at (number - 1) links
        pass_other other = subst (λ (k : ℕ). AreLinks k (number - 1) links) (sym depth_is)
            (links_other depth (number - 1) e links below earlier less (sym (ap (is_function covering) is) ∙ other))

        module _ (yes : is_function covering e ≡ true) (tag : ℕ) (tagged : tag ≡ e.tag) (new : List Link)
            (kept : new ≡ links ++ listed_link str_offsets (own_says es) e ∷ []) where
          function : is_function covering (get_or es (number - 1) e) ≡ true
          function = sym (ap (is_function covering) is) ∙ yes

          kept_here : new ≡ links ++ link (plain (get_or es (number - 1) e)) ∷ []
          kept_here = kept ∙ ap (λ (x : ListedEntry). links ++ listed_link str_offsets (own_says es) x ∷ []) is

          tag_is : tag ≡ (get_or es (number - 1) e).tag
          tag_is = tagged ∙ ap (λ (x : ListedEntry). x.tag) is

          pub pass_last : tag ≡ DW_TAG_subprogram → new ≡ map link (unit_chain covering es)
          pass_last f =
              let t : ((get_or es (number - 1) e).tag == DW_TAG_subprogram) ≡ true =
              ap (λ (k : ℕ). k == DW_TAG_subprogram) (sym tag_is ∙ f) in
              links_last depth (number - 1) e links below earlier less function new kept_here t

          pub pass_more : (tag == DW_TAG_subprogram) ≡ false → AreLinks at (number - 1) new
          pass_more f = subst (λ (k : ℕ). AreLinks k (number - 1) new) (sym depth_is)
              (links_more depth (number - 1) e links below earlier less function new kept_here
              (sym (ap (λ (k : ℕ). k == DW_TAG_subprogram) tag_is) ∙ f))
