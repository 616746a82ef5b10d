-- The counts of a pair's lines add up to its count.
use Rattle.std.proofs.Common.{◌≡◌, ◌+◌, ◌*◌, ◌-◌, ◌/◌, ◌≤◌, ◌==◌, ◌&&◌, ℕ, zero, suc, Bool, true, false, List, [], ◌∷◌, refl, sym, ap}
use Rattle.std.proofs.Common.{◌∙◌, arith, map, replicate, sum_by, if◌then◌else◌, div-mul-le_self, suc-mul, zero-mul, add_comm}
use Rattle.std.proofs.lemmas.List.Sums.{sum_by-append, sum_by-cons}
use Rattle.edge_text.specs.LineCounts.{SplitLaw, line_counts, most_of_line, split_counts}

abbrev taken : ℕ → ℕ → ℕ × ℕ × ℕ → ℕ
taken x y p = if p.0 == x && p.1 == y then p.2 else 0

sum_replicate : (k m : ℕ) → sum_by (λ n. n) (replicate k m) ≡ k * m
sum_replicate zero m = sym (zero-mul m)
sum_replicate (suc k) m =
    sum_by-cons (λ n. n) m (replicate k m) ∙ ap (λ (j : ℕ). m + j) (sum_replicate k m) ∙ add_comm m (k * m) ∙ sym (suc-mul k m)

sum_lines : (count : ℕ) → sum_by (λ n. n) (line_counts count) ≡ count
sum_lines count =
    let k : ℕ = (count - 1) / most_of_line in
    let low : k * most_of_line ≤ count - 1 = div-mul-le_self (count - 1) most_of_line in
    let a : sum_by (λ n. n) (line_counts count)
    ≡ sum_by (λ n. n) (replicate k most_of_line) + sum_by (λ n. n) ((count - k * most_of_line) ∷ []) =
    sum_by-append (λ n. n) (replicate k most_of_line) ((count - k * most_of_line) ∷ []) in
    let b : sum_by (λ n. n) (replicate k most_of_line) ≡ k * most_of_line = sum_replicate k most_of_line in
    let c : sum_by (λ n. n) ((count - k * most_of_line) ∷ []) ≡ (count - k * most_of_line) + 0 =
    sum_by-cons (λ n. n) (count - k * most_of_line) [] in
    omega arith

sum_of_pair : (x y a b : ℕ) (t : Bool) (ns : List ℕ) → (a == x && b == y) ≡ t →
    sum_by (taken x y) (map (λ n. (a, b, n)) ns) ≡ (if t then sum_by (λ n. n) ns else 0)
sum_of_pair x y a b true [] is = refl
sum_of_pair x y a b false [] is = refl
sum_of_pair x y a b true (n ∷ ns) is =
    let here : taken x y (a, b, n) ≡ n = ap (λ (t : Bool). if t then n else 0) is in
    let rest = sum_of_pair x y a b true ns is in
    let more = sum_by-cons (taken x y) (a, b, n) (map (λ m. (a, b, m)) ns) in
    let all = sum_by-cons (λ m. m) n ns in
    omega arith
sum_of_pair x y a b false (n ∷ ns) is =
    let here : taken x y (a, b, n) ≡ 0 = ap (λ (t : Bool). if t then n else 0) is in
    let rest = sum_of_pair x y a b false ns is in
    let more = sum_by-cons (taken x y) (a, b, n) (map (λ m. (a, b, m)) ns) in
    omega arith

lines_of_pair : (x y : ℕ) (p : ℕ × ℕ × ℕ) → sum_by (taken x y) (map (λ n. (p.0, p.1, n)) (line_counts p.2)) ≡ taken x y p
lines_of_pair x y p =
    sum_of_pair x y p.0 p.1 (p.0 == x && p.1 == y) (line_counts p.2) refl
    ∙ ap (λ (j : ℕ). if p.0 == x && p.1 == y then j else 0) (sum_lines p.2)

pub split_law : SplitLaw
split_law [] x y = refl
split_law (p ∷ ps) x y =
    sum_by-append (taken x y) (map (λ n. (p.0, p.1, n)) (line_counts p.2)) (split_counts ps)
    ∙ ap (λ (j : ℕ). j + sum_by (taken x y) (split_counts ps)) (lines_of_pair x y p)
    ∙ ap (λ (j : ℕ). taken x y p + j) (split_law ps x y)
    ∙ sym (sum_by-cons (taken x y) p ps)
