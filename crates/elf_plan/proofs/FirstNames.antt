-- The first symbols of functions, symbol by symbol.
use Rattle.std.proofs.Common.{◌≡◌, ◌≢◌, sym, ap, subst, refl, cond, nat_cmp, ℕ, ◌+◌, ◌<◌, ◌&&◌, ⊎_elim, Bool, true, false, Option}
use Rattle.std.proofs.Common.{Some, None, List, [], ◌∷◌, length, get_or, take, arith, ◌∙◌, eqb}
use Rattle.std.specs.Prelude.{is_some}
use Rattle.std.specs.BTreeMap.{is_at}
use Rattle.std.specs.Option.{option_or}
use Rattle.std.proofs.lemmas.Grind.{common_steps}
use Rattle.std.proofs.lemmas.Bool.{cases_eq}
use Rattle.std.proofs.lemmas.List.{take_more}
use Rattle.std.proofs.lemmas.List.Folds.{find-append}
use Rattle.elf_image.specs.declared.symbol.Symbol.{Symbol}
use Rattle.elf_image.specs.file.Cuts.{names_function}
use Rattle.elf_plan.specs.ColdSymbols.{first_named}

-- The effect of the next symbol.
abbrev added : Bool → Bool → Symbol → Option Symbol
added names here x = cond (names && here) (Some x) None

first_more : (xs : List Symbol) (i : ℕ) (d : Symbol) (q : ℕ) → i < length xs →
    first_named (take (i + 1) xs) q ≡ option_or (first_named (take i xs) q) (added (names_function (get_or xs i d)) (eqb
    (get_or xs i d).value q) (get_or xs i d))
first_more xs i d q within =
    ap (λ (ys : List Symbol). first_named ys q) (take_more xs i d within)
    ∙ find-append (λ (s : Symbol). names_function s && (eqb s.value q)) (take i xs) (get_or xs i d ∷ [])

adds_none : (b c : Bool) (x : Symbol) (o : Option Symbol) → (b && c) ≡ false → option_or o (added b c x) ≡ o
adds_none true true x o e = absurd (cc)
adds_none true false x None e = refl
adds_none true false x (Some y) e = refl
adds_none false c x None e = refl
adds_none false c x (Some y) e = refl

-- A symbol that isn't for a function.
pub first-no_function : (xs : List Symbol) (i : ℕ) (d : Symbol) (q : ℕ) → i < length xs → names_function (get_or xs i d) ≡ false →
    first_named (take (i + 1) xs) q ≡ first_named (take i xs) q
first-no_function xs i d q within none =
    first_more xs i d q within
    ∙ adds_none (names_function (get_or xs i d)) (eqb (get_or xs i d).value q) (get_or xs i d) (first_named (take i xs) q)
    (grind (arith, common_steps))

-- A symbol of a function that already has a name.
pub first-named : (xs : List Symbol) (i : ℕ) (d : Symbol) (q : ℕ) → i < length xs →
    is_some (first_named (take i xs) (get_or xs i d).value) ≡ true →
    first_named (take (i + 1) xs) q ≡ first_named (take i xs) q
first-named xs i d q within there =
    first_more xs i d q within
    ∙ ⊎_elim
    (λ (e : (get_or xs i d).value ≡ q). kept (first_named (take i xs) q) _ (subst (λ (k : ℕ). is_some (first_named
    (take i xs) k) ≡ true) e there))
    (λ (ne : (get_or xs i d).value ≢ q). adds_none (names_function (get_or xs i d)) (eqb (get_or xs i d).value q)
    (get_or xs i d) (first_named (take i xs) q) (grind (arith, common_steps)))
    (cases_eq (get_or xs i d).value q)
  where
    kept : (o y : Option Symbol) → is_some o ≡ true → option_or o y ≡ o
    kept None y e = absurd (cc)
    kept (Some z) y e = refl

-- The first symbol of a function.
pub first-new : (xs : List Symbol) (i : ℕ) (d : Symbol) (q : ℕ) → i < length xs → names_function (get_or xs i d) ≡ true →
    is_some (first_named (take i xs) (get_or xs i d).value) ≡ false →
    first_named (take (i + 1) xs) q ≡ cond (is_at (nat_cmp (get_or xs i d).value) q) (Some (get_or xs i d)) (first_named
    (take i xs) q)
first-new xs i d q within names none =
    first_more xs i d q within
    ∙ ⊎_elim
    (λ (e : (get_or xs i d).value ≡ q). here (names_function (get_or xs i d)) (eqb (get_or xs i d).value q) (get_or xs i d)
    (first_named (take i xs) q) names (grind (arith, common_steps)) (subst (λ (k : ℕ). is_some (first_named
    (take i xs) k) ≡ false) e none))
    (λ (ne : (get_or xs i d).value ≢ q). other (names_function (get_or xs i d)) (eqb (get_or xs i d).value q)
    (get_or xs i d) (first_named (take i xs) q) (grind (arith, common_steps)))
    (cases_eq (get_or xs i d).value q)
    ∙ ap (λ (b : Bool). cond b (Some (get_or xs i d)) (first_named (take i xs) q)) (sym (at_key (get_or xs i d).value q))
  where
    at_key : (k q : ℕ) → is_at (nat_cmp k) q ≡ eqb k q
    at_key k q = ⊎_elim
        (λ (e : k ≡ q). grind (arith, common_steps))
        (λ (ne : k ≢ q). grind (arith, common_steps))
        (cases_eq k q)

    here : (b c : Bool) (x : Symbol) (o : Option Symbol) → b ≡ true → c ≡ true → is_some o ≡ false →
        option_or o (added b c x) ≡ cond c (Some x) o
    here false c x o e f g = absurd (cc)
    here true false x o e f g = absurd (cc)
    here true true x None e f g = refl
    here true true x (Some y) e f g = absurd (cc)

    other : (b c : Bool) (x : Symbol) (o : Option Symbol) → c ≡ false → option_or o (added b c x) ≡ cond c (Some x) o
    other b true x o e = absurd (cc)
    other true false x None e = refl
    other true false x (Some y) e = refl
    other false false x None e = refl
    other false false x (Some y) e = refl
