-- The first line of a text, and the number of lines.
use Rattle.std.proofs.Common.{◌≡◌, ◌<◌, ◌≤◌, ◌∙◌, ℕ, suc, Bool, true, false, cond, List, [], ◌∷◌, ◌++◌, length, arith, refl, ap, All}
use Rattle.std.specs.Prelude.{◌==◌}
use Rattle.std.specs.List.{onto_first}
use Rattle.std.proofs.lemmas.List.Elements.{All-head, All-tail}
use Rattle.edge_profile.specs.Grammar.{lines}

lines-no : (c : ℕ) (text : List ℕ) → (c == 10) ≡ false → lines (c ∷ text) ≡ onto_first c (lines text)
lines-no c text ne = ap (λ b. cond b ([] ∷ lines text) (onto_first c (lines text))) ne

-- a text without a line feed is one line
pub lines_none : (text : List ℕ) → 0 < length text → All (λ c. (c == 10) ≡ false) text → lines text ≡ text ∷ []
lines_none [] some free = absurd (omega arith)
lines_none (c ∷ []) some free = lines-no c [] (All-head (λ d. (d == 10) ≡ false) c [] free)
lines_none (c ∷ d ∷ text) some free =
    lines-no c (d ∷ text) (All-head (λ e. (e == 10) ≡ false) c (d ∷ text) free)
    ∙ ap (onto_first c) (lines_none (d ∷ text) (omega arith) (All-tail (λ e. (e == 10) ≡ false) c (d ∷ text) free))

-- the line before the first line feed, and the lines after it
pub lines_at : (line rest : List ℕ) → All (λ c. (c == 10) ≡ false) line → lines (line ++ 10 ∷ rest) ≡ line ∷ lines rest
lines_at [] rest free = refl
lines_at (c ∷ line) rest free =
    lines-no c (line ++ 10 ∷ rest) (All-head (λ d. (d == 10) ≡ false) c line free)
    ∙ ap (onto_first c) (lines_at line rest (All-tail (λ d. (d == 10) ≡ false) c line free))

length-onto_first : (c : ℕ) (parts : List (List ℕ)) → length (onto_first c parts) ≤ suc (length parts)
length-onto_first c [] = omega arith
length-onto_first c (part ∷ parts) = omega arith

length-cond : (b : Bool) (c : ℕ) (parts : List (List ℕ)) → length (cond b ([] ∷ parts) (onto_first c parts)) ≤ suc (length parts)
length-cond true c parts = omega arith
length-cond false c parts = length-onto_first c parts

pub length-lines : (text : List ℕ) → length (lines text) ≤ length text
length-lines [] = omega arith
length-lines (c ∷ text) =
    let more = length-cond (c == 10) c (lines text) in
    let rest = length-lines text in
    omega (arith, more, rest)
