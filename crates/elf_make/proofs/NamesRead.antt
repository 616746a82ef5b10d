-- Names that are in a table with their zero bytes are read back; so are those of a table that others were added to.
use Rattle.std.proofs.Common.{◌≡◌, ◌∙◌, sym, ap, subst, refl, ℕ, zero, suc, ◌+◌, ◌-◌, ◌≤◌, ◌<◌, List, [], ◌∷◌, ◌++◌, Bool, true, false}
use Rattle.std.proofs.Common.{length, length-append, take, drop, get_or, arith}
use Rattle.std.specs.Prelude.{take_while, not, cond, ◌==◌, ◌≢◌, codes, if◌then◌else◌, nat_eq}
use Rattle.std.specs.List.{starts_with}
use Rattle.std.proofs.lemmas.Bool.{eqb-false, eqb-true}
use Rattle.std.proofs.lemmas.List.{get_or-append_right, take-append-drop}
use Rattle.std.proofs.lemmas.List.Sums.{take_while-cons}
use Rattle.elf_image.specs.file.Sections.{text_of}
use Rattle.elf_image.specs.file.StringTables.{IsUnended}
use Rattle.elf_parts.specs.Patches.{Stands}
use Rattle.elf_parts.proofs.MoreNames.{text_of-front}
use Rattle.elf_parts.proofs.Patches.{take-stands}
use Rattle.elf_plan.specs.ColdSymbols.{cold_name}
use Rattle.elf_plan.specs.OldNames.{old_name}
use Rattle.elf_plan.specs.NewNames.{ended}
use Rattle.elf_make.specs.SetHeaders.{Keeps}

abbrev goes_on : ℕ → Bool
goes_on b = not (b == 0)

-- A name has no zero byte.
abbrev pub IsClean : List ℕ → Type 0
IsClean name = take_while goes_on (ended name) ≡ name

clean-taken : (xs : List ℕ) → IsClean (take_while goes_on xs)
clean-taken [] = refl
clean-taken (x ∷ xs) = cases (clean-taken xs) (goes_on x) refl
  where
    cases : IsClean (take_while goes_on xs) → (b : Bool) → goes_on x ≡ b → IsClean (take_while goes_on (x ∷ xs))
    cases clean true e =
        let taken : take_while goes_on (x ∷ xs) ≡ x ∷ take_while goes_on xs =
        take_while-cons goes_on x xs ∙ ap (λ (b : Bool). cond b (x ∷ take_while goes_on xs) []) e in
        let more : IsClean (x ∷ take_while goes_on xs) =
        take_while-cons goes_on x (ended (take_while goes_on xs))
        ∙ ap (λ (b : Bool). cond b (x ∷ take_while goes_on (ended (take_while goes_on xs))) []) e
        ∙ ap (λ (ys : List ℕ). x ∷ ys) clean in
        subst IsClean (sym taken) more
    cases clean false e =
        let none : take_while goes_on (x ∷ xs) ≡ [] =
        take_while-cons goes_on x xs ∙ ap (λ (b : Bool). cond b (x ∷ take_while goes_on xs) []) e in
        subst IsClean (sym none) refl

pub clean-text : (table : List ℕ) (i : ℕ) → IsClean (text_of table i)
clean-text table i = clean-taken (drop i table)

-- one more byte that isn't zero
clean-more : (b : ℕ) (name : List ℕ) → goes_on b ≡ true → IsClean name → IsClean (b ∷ name)
clean-more b name e clean =
    take_while-cons goes_on b (ended name) ∙ ap (λ (c : Bool). cond c (b ∷ take_while goes_on (ended name)) []) e
    ∙ ap (λ (ys : List ℕ). b ∷ ys) clean

pub clean-old : (name : List ℕ) → IsClean name → IsClean (old_name name)
clean-old name clean = cases (starts_with nat_eq name (codes "."))
  where
    cases : (b : Bool) → IsClean (if b then codes ".old" ++ name else codes ".old." ++ name)
    cases true =
        clean-more 46 _ refl (clean-more 111 _ refl (clean-more 108 _ refl (clean-more 100 name refl clean)))
    cases false =
        clean-more 46 _ refl (clean-more 111 _ refl (clean-more 108 _ refl (clean-more 100 _ refl (clean-more 46 name refl clean))))

-- two names joined
clean-joined : (xs ys : List ℕ) → IsClean xs → IsClean ys → IsClean (xs ++ ys)
clean-joined [] ys first second = second
clean-joined (x ∷ xs) ys first second = cases (λ rest. clean-joined xs ys rest second) (goes_on x) refl
  where
    cases : (IsClean xs → IsClean (xs ++ ys)) → (b : Bool) → goes_on x ≡ b → IsClean (x ∷ (xs ++ ys))
    cases later true e =
        let taken : x ∷ take_while goes_on (ended xs) ≡ x ∷ xs =
        sym (take_while-cons goes_on x (ended xs) ∙ ap (λ (b : Bool). cond b (x ∷ take_while goes_on (ended xs)) []) e) ∙ first in
        clean-more x (xs ++ ys) e (later (ap (drop 1) taken))
    cases later false e =
        let none : [] ≡ x ∷ xs =
        sym (take_while-cons goes_on x (ended xs) ∙ ap (λ (b : Bool). cond b (x ∷ take_while goes_on (ended xs)) []) e) ∙ first in
        absurd (let size = ap length none in omega (arith, size))

-- the name of a cold part
pub clean-cold : (name : List ℕ) → IsClean name → IsClean (cold_name name)
clean-cold name clean = clean-joined name (codes ".cold") clean refl

-- such a name in a table
pub text-there : (table name : List ℕ) (at : ℕ) → IsClean name → Stands table at (ended name) → text_of table at ≡ name
text-there table name at clean stands =
    let rest : List ℕ = drop (length (ended name)) (drop at table) in
    let split : ended name ++ rest ≡ drop at table =
    ap (λ (xs : List ℕ). xs ++ rest) (sym (take-stands table at (ended name) stands))
    ∙ take-append-drop (length (ended name)) (drop at table) in
    let long : length (ended name) ≡ length name + 1 = length-append name (0 ∷ []) in
    let none : length name - length name ≡ 0 = omega arith in
    let last : get_or (ended name) (length name) 0 ≡ 0 =
    get_or-append_right name (0 ∷ []) (length name) (length name) 0 refl (omega arith)
    ∙ ap (λ (k : ℕ). get_or (0 ∷ []) k 0) none in
    ap (take_while goes_on) (sym split)
    ∙ text_of-front (ended name) rest 0 (length name) (omega arith) (omega (arith, long)) last
    ∙ clean

-- A zero byte at or after an index.
record Ends (table : List ℕ) (i : ℕ) : Type 0 where
  at : ℕ
  from : i ≤ at
  within : at < length table
  is : get_or table at 0 ≡ 0

ends-first : (x : ℕ) (xs : List ℕ) → Ends xs 0 → Ends (x ∷ xs) 0
ends-first x xs later = let low = later.within in record {
  at = suc later.at;
  from = omega arith;
  within = omega (arith, low);
  is = later.is;
}

ends-at : (table : List ℕ) (i : ℕ) → (IsUnended table i → ⊥) → Ends table i
ends-at [] i ended_somewhere = absurd (ended_somewhere (λ j from below. absurd (omega (arith, below))))
ends-at (x ∷ xs) zero ended_somewhere = cases (ends-at xs 0) (x == 0) refl
  where
    other : x ≢ 0 → IsUnended xs 0 → (j : ℕ) → j < length (x ∷ xs) → get_or (x ∷ xs) j 0 ≢ 0
    other first none zero below = first
    other first none (suc j) below = none j (omega arith) (omega (arith, below))

    cases : ((IsUnended xs 0 → ⊥) → Ends xs 0) → (b : Bool) → (x == 0) ≡ b → Ends (x ∷ xs) 0
    cases later true e = record { at = 0; from = omega arith; within = omega arith; is = eqb-true x 0 e }
    cases later false e =
        ends-first x xs (later (λ none. ended_somewhere (λ j from below. other (eqb-false x 0 e) none j below)))
ends-at (x ∷ xs) (suc i) ended_somewhere =
    let later = ends-at xs i (λ none. ended_somewhere (λ j from below. other none j from below)) in
    let low = later.from in
    let high = later.within in
    record { at = suc later.at; from = omega (arith, low); within = omega (arith, high); is = later.is }
  where
    other : IsUnended xs i → (j : ℕ) → suc i ≤ j → j < length (x ∷ xs) → get_or (x ∷ xs) j 0 ≢ 0
    other none zero from below = absurd (omega (arith, from))
    other none (suc j) from below = none j (omega (arith, from)) (omega (arith, below))

-- a name of the old table, in one that has all of its bytes
pub text-kept : (old table : List ℕ) (i : ℕ) → Keeps old table → (IsUnended old i → ⊥) → text_of table i ≡ text_of old i
text-kept old table i keeps ends =
    let whole : Stands old 0 old = record { within = omega arith; same = λ j below. ap (λ (k : ℕ). get_or old k 0) (here j) } in
    let front : take (length old) table ≡ old = take-stands table 0 old (keeps 0 old whole) in
    let split : old ++ drop (length old) table ≡ table =
    ap (λ (xs : List ℕ). xs ++ drop (length old) table) (sym front) ∙ take-append-drop (length old) table in
    let end = ends-at old i ends in
    ap (λ (xs : List ℕ). text_of xs i) (sym split)
    ∙ text_of-front old (drop (length old) table) i end.at end.from end.within end.is
  where
    here : (j : ℕ) → 0 + j ≡ j
    here j = omega arith
