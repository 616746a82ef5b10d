-- The values of names, with one more symbol at a time.
use Rattle.std.proofs.Common.{◌≡◌, ◌<◌, ◌+◌, ◌∙◌, ℕ, Bool, true, false, cond, List, [], ◌∷◌, Option, Some, None, ap, refl, sym, subst}
use Rattle.std.proofs.Common.{length, get_or, take, set, arith, replicate}
use Rattle.std.proofs.lemmas.List.{get_or-set_same, get_or-set_other, length-set, get_or-replicate, length-replicate}
use Rattle.std.proofs.lemmas.Option.{slice_get-get_or, get_or_from_slice_get}
use Rattle.std.specs.Cmp.Lexicographic.{bytes_decides}
use Rattle.std.specs.Prelude.{bytes_eq, slice_get, if◌then◌else◌}
use Rattle.std.specs.Option.{option_flatten}
use Rattle.elf_image.specs.declared.symbol.Symbol.{Symbol}
use Rattle.elf_image.specs.file.Cuts.{names_function}
use Rattle.edge_profile.specs.Names.{symbol_values, only_value, named_value}
use Rattle.edge_profile.specs.FunctionNames.{Values, AreValues, known_by, known_of, next_known}
use Rattle.edge_profile.specs.NameEnds.{Backward, index_of}
use Rattle.edge_profile.specs.SymbolValues.{AreKnown, noted_value}
use Rattle.edge_profile.proofs.NameIndices.{index_is, same_index}
use Rattle.edge_profile.proofs.NameTables.{known_values, values-other}

abbrev Known : Type 0
Known = List (Option (Option ℕ))

abbrev nothing : Option (Option ℕ)
nothing = None

-- No symbol was looked at.
pub nothing-known : (names : Backward) (known : Known) (n : ℕ) → n ≡ length names → known ≡ replicate n nothing →
    AreKnown names [] known
nothing-known names known n count none = record {
  count_is = ap length none ∙ length-replicate n nothing ∙ count;
  each = λ name k is.
      let within = (index_is names name k is).0 in
      let inside : k < n = omega (arith, count, within) in
      let bound : k < length (replicate n nothing) = (let size = length-replicate n nothing in
      omega (arith, size, inside)) in
      ap (λ (l : Known). slice_get l k) none ∙ slice_get-get_or (replicate n nothing) k nothing bound
      ∙ ap Some (get_or-replicate n k nothing nothing inside);
}

-- One more symbol is looked at.
module _ (names : Backward) (symbols : List Symbol) (i : ℕ) (d : Symbol) (within : i < length symbols) (known : Known)
    (was : AreKnown names (take i symbols) known) where
  abbrev own : List ℕ
  own = (get_or symbols i d).name.now

  -- a name gets one more value
  abbrev noted : ℕ → Option (Option ℕ)
  noted j = Some (next_known (get_or known j None) (get_or symbols i d).value)

  -- the symbol names no function
  pub known-other : names_function (get_or symbols i d) ≡ false → AreKnown names (take (i + 1) symbols) known
  known-other other = record {
    count_is = was.count_is;
    each = λ name k is.
        was.each name k is ∙ ap (λ (vs : List ℕ). Some (known_by vs)) (sym (values-other symbols i d within name other));
  }

  -- the symbol's name isn't among the names
  known-unnamed : names_function (get_or symbols i d) ≡ true → index_of names own ≡ None →
      AreKnown names (take (i + 1) symbols) known
  known-unnamed function unnamed = record {
    count_is = was.count_is;
    each = λ name k is. was.each name k is ∙ ap Some (sym (known_values symbols i d within name function ∙ at name k is));
  }
    where
      at : (name : List ℕ) (k : ℕ) → index_of names name ≡ Some k →
          cond (bytes_eq own name) (Some (next_known (known_by (symbol_values (take i symbols) name)) (get_or symbols i d).value))
          (known_by (symbol_values (take i symbols) name))
          ≡ known_by (symbol_values (take i symbols) name)
      at name k is = by (bytes_eq own name) refl
        where
          by : (b : Bool) → bytes_eq own name ≡ b →
              cond b (Some (next_known (known_by (symbol_values (take i symbols) name)) (get_or symbols i d).value))
              (known_by (symbol_values (take i symbols) name))
              ≡ known_by (symbol_values (take i symbols) name)
          by true same =
              let found : index_of names own ≡ Some k = ap (index_of names) ((bytes_decides own name).0 same) ∙ is in
              absurd (cc)
          by false other = refl

  -- the symbol's name is among the names
  known-named : names_function (get_or symbols i d) ≡ true → (j : ℕ) → index_of names own ≡ Some j →
      AreKnown names (take (i + 1) symbols)
      (set known j (noted j))
  known-named function j named = record {
    count_is = length-set known j _ ∙ was.count_is;
    each = λ name k is.
        let inside : k < length known = (let fits = (index_is names name k is).0 in let count = was.count_is in
        omega (arith, fits, count)) in
        let bound : k < length (set known j (noted j)) = subst (λ (n : ℕ). k < n) (sym (length-set known j (noted j))) inside in
        slice_get-get_or (set known j (noted j)) k None bound
        ∙ ap Some (at name k is inside (bytes_eq own name) refl ∙ sym (known_values symbols i d within name function));
  }
    where
      before : (name : List ℕ) (k : ℕ) → index_of names name ≡ Some k →
          get_or known k None ≡ known_by (symbol_values (take i symbols) name)
      before name k is = get_or_from_slice_get known k (known_by (symbol_values (take i symbols) name)) None (was.each name k is)

      at : (name : List ℕ) (k : ℕ) → index_of names name ≡ Some k → k < length known → (b : Bool) → bytes_eq own name ≡ b →
          get_or (set known j (noted j)) k None
          ≡ cond b (Some (next_known (known_by (symbol_values (take i symbols) name)) (get_or symbols i d).value))
          (known_by (symbol_values (take i symbols) name))
      at name k is inside true same =
          let alike : own ≡ name = (bytes_decides own name).0 same in
          let here : j ≡ k = one j k (sym named ∙ ap (index_of names) alike ∙ is) in
          let placed : get_or (set known j (noted j)) j None ≡ noted j = get_or-set_same known j (noted j) None
          (subst (λ (n : ℕ). n < length known) (sym here) inside) in
          ap (λ (n : ℕ). get_or (set known j (noted j)) n None) (sym here) ∙ placed
          ∙ ap (λ (n : ℕ). Some (next_known (get_or known n None) (get_or symbols i d).value)) here
          ∙ ap (λ (o : Option (Option ℕ)). Some (next_known o (get_or symbols i d).value)) (before name k is)
        where
          one : (m n : ℕ) → Some m ≡ Some n → m ≡ n
          one m n same = cc
      at name k is inside false other =
          get_or-set_other known j k (noted j) None
          (λ here. unlike name other (same_index names own name k (named ∙ ap Some (sym here)) is))
          ∙ before name k is
        where
          unlike : (name : List ℕ) → bytes_eq own name ≡ false → own ≡ name → ⊥
          unlike name other alike = let same : bytes_eq own name ≡ true = (bytes_decides own name).1 alike in absurd (cc)

  -- a function's symbol, whether its name is among the names or not
  pub known-more : names_function (get_or symbols i d) ≡ true → (o : Option ℕ) → index_of names own ≡ o →
      AreKnown names (take (i + 1) symbols) (noted_value known o (get_or symbols i d).value)
  known-more function None is = known-unnamed function is
  known-more function (Some j) is = known-named function j is

-- A name's value by the table's entry.
pub known-value : (vs : List ℕ) → option_flatten (known_by vs) ≡ only_value vs
known-value [] = refl
known-value (v ∷ vs) = refl

-- The table gets the value of one more name.
pub values-more : (symbols : List Symbol) (old new : Values) (name : List ℕ) (value : Option ℕ) →
    ((other : List ℕ) → known_of new other ≡ (if bytes_eq name other then Some value else known_of old other)) →
    value ≡ named_value symbols name → AreValues symbols old → AreValues symbols new
values-more symbols old new name value is right were other v found = by (bytes_eq name other) refl (sym (is other) ∙ found)
  where
    same : (a b : Option ℕ) → Some a ≡ Some b → a ≡ b
    same a b e = cc

    by : (b : Bool) → bytes_eq name other ≡ b → cond b (Some value) (known_of old other) ≡ Some v → v ≡ named_value symbols other
    by true alike e =
        sym (same value v e) ∙ right ∙ ap (named_value symbols) ((bytes_decides name other).0 alike)
    by false unlike e = were other v e

-- The value of a name that is in the table.
pub value-known : (names : Backward) (symbols : List Symbol) (known : Known) (name : List ℕ) (k : ℕ) (d : Option (Option ℕ)) →
    AreKnown names symbols known → index_of names name ≡ Some k → option_flatten (get_or known k d) ≡ named_value symbols name
value-known names symbols known name k d are is =
    ap option_flatten (get_or_from_slice_get known k (known_by (symbol_values symbols name)) d (are.each name k is))
    ∙ known-value (symbol_values symbols name)
