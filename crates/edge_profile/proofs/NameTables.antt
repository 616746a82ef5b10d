-- Values of names, with one more symbol at a time.
use Rattle.std.proofs.Common.{◌≡◌, ◌<◌, ◌+◌, ◌∙◌, ℕ, Bool, true, false, cond, List, [], ◌∷◌, ◌++◌, Some, None, ap, refl, sym, map}
use Rattle.std.proofs.Common.{filter, length, get_or, take}
use Rattle.std.proofs.lemmas.List.{take_more, append-nil, map-append}
use Rattle.std.proofs.lemmas.List.Elements.{filter-append}
use Rattle.std.specs.Prelude.{◌==◌, ◌&&◌, bytes_eq, if◌then◌else◌}
use Rattle.std.specs.List.{list_all}
use Rattle.elf_image.specs.declared.symbol.Symbol.{Symbol}
use Rattle.elf_image.specs.file.Cuts.{names_function}
use Rattle.edge_profile.specs.Names.{symbol_values}
use Rattle.edge_profile.specs.FunctionNames.{known_by, next_known}

list_all-push : (p : ℕ → Bool) (vs : List ℕ) (v : ℕ) → list_all p (vs ++ v ∷ []) ≡ (list_all p vs && p v)
list_all-push p [] v = &&_true (p v)
  where
    &&_true : (b : Bool) → (b && true) ≡ (true && b)
    &&_true true = refl
    &&_true false = refl
list_all-push p (w ∷ vs) v = ap (λ b. p w && b) (list_all-push p vs v) ∙ &&_assoc (p w) (list_all p vs) (p v)
  where
    &&_assoc : (a b c : Bool) → (a && (b && c)) ≡ ((a && b) && c)
    &&_assoc true b c = refl
    &&_assoc false b c = refl

pub known_by-push : (vs : List ℕ) (v : ℕ) → known_by (vs ++ v ∷ []) ≡ Some (next_known (known_by vs) v)
known_by-push [] v = refl
known_by-push (w ∷ vs) v =
    ap (λ b. Some (cond b (Some w) None)) (list_all-push (λ x. x == w) vs v) ∙ joined (list_all (λ x. x == w) vs) (v == w) refl
  where
    joined : (a b : Bool) → (v == w) ≡ b → Some (cond (a && b) (Some w) None) ≡ Some (next_known (Some (cond a (Some w) None)) v)
    joined true b e = ap (λ t. Some (cond t (Some w) None)) (sym e)
    joined false b e = refl

-- the values of a name after one more symbol
module _ (symbols : List Symbol) (i : ℕ) (d : Symbol) (within : i < length symbols) (name : List ℕ) where
  more : symbol_values (take (i + 1) symbols) name
      ≡ symbol_values (take i symbols) name
      ++ symbol_values (get_or symbols i d ∷ []) name
  more =
      ap (λ ss. symbol_values ss name) (take_more symbols i d within) ∙ values-append (take i symbols) (get_or symbols i d ∷ [])
    where
      values-append : (ss ts : List Symbol) → symbol_values (ss ++ ts) name ≡ symbol_values ss name ++ symbol_values ts name
      values-append ss ts =
          ap (map (λ s. s.value)) (filter-append (λ s. names_function s && bytes_eq s.name.now name) ss ts)
          ∙ map-append (λ s. s.value) (filter (λ s. names_function s && bytes_eq s.name.now name) ss)
          (filter (λ s. names_function s && bytes_eq s.name.now name) ts)

  -- a symbol that names no function adds none
  pub values-other : names_function (get_or symbols i d) ≡ false →
      symbol_values (take (i + 1) symbols) name ≡ symbol_values (take i symbols) name
  values-other other = more ∙ ap (λ b. symbol_values (take i symbols) name ++ map (λ s. s.value)
      (cond (b && bytes_eq (get_or symbols i d).name.now name) (get_or symbols i d ∷ []) [])) other ∙ append-nil _

  -- a function's symbol adds its value to its name's values
  pub known_values : names_function (get_or symbols i d) ≡ true
      → known_by (symbol_values (take (i + 1) symbols) name)
      ≡ (if bytes_eq (get_or symbols i d).name.now name
      then Some (next_known (known_by (symbol_values (take i symbols) name)) (get_or symbols i d).value)
      else known_by (symbol_values (take i symbols) name))
  known_values function =
      ap known_by (more ∙ ap (λ b. symbol_values (take i symbols) name
      ++ map (λ s. s.value) (cond (b && bytes_eq (get_or symbols i d).name.now name) (get_or symbols i d ∷ []) [])) function)
      ∙ at (bytes_eq (get_or symbols i d).name.now name)
    where
      at : (b : Bool) → known_by (symbol_values (take i symbols) name ++ map (λ s. s.value) (cond b (get_or symbols i d ∷ []) []))
          ≡ cond b (Some (next_known (known_by (symbol_values (take i symbols) name)) (get_or symbols i d).value))
          (known_by (symbol_values (take i symbols) name))
      at true = known_by-push (symbol_values (take i symbols) name) (get_or symbols i d).value
      at false = ap known_by (append-nil (symbol_values (take i symbols) name))
