-- The text of pairs in order has their counts.
use Rattle.std.proofs.Common.{◌≡◌, ◌∙◌, ◌+◌, ◌*◌, ◌-◌, ◌/◌, ◌<◌, ◌^◌, ℕ, suc, List, [], ◌∷◌, ◌++◌, Contains, All, AllPairs}
use Rattle.std.proofs.Common.{arith, ap, refl, subst, map, replicate, get_or, zero}
use Rattle.std.proofs.Math.Nat.{lt-div-mul-add}
use Rattle.std.proofs.lemmas.List.Elements.{All-append, All-replicate}
use Rattle.rv_code.specs.declared.placed.Func.{Func}
use Rattle.rv_code.specs.layout.FunctionLists.{AreLaidOut}
use Rattle.elf_image.specs.declared.elf.Elf.{Elf}
use Rattle.edge_profile.specs.PairCounts.{ArePairs, Counted, IsCountedBefore, count_among, counted_in, ignored_in}
use Rattle.edge_profile.proofs.AscendingPairs.{are_pairs, ascending_pairs}
use Rattle.edge_text.specs.EdgeText.{HasCodeEnds, IsEdgeText, text_of_pairs}
use Rattle.edge_text.specs.LineCounts.{line_counts, most_of_line, split_counts}
use Rattle.edge_text.proofs.LineSums.{split_law}
use Rattle.edge_text.proofs.ReadBack.{ArePairsOfCode, none_ignored, read_back}

counts_fit : (count : ℕ) → All (λ n. n < 2 ^ 64) (line_counts count)
counts_fit count =
    let k : ℕ = (count - 1) / most_of_line in
    let high : count - 1 < k * most_of_line + most_of_line = lt-div-mul-add (omega arith) in
    All-append (λ n. n < 2 ^ 64) (replicate k most_of_line) ((count - k * most_of_line) ∷ [])
    (All-replicate (λ n. n < 2 ^ 64) k most_of_line (omega arith))
    (λ i d within. last i d within (omega arith))
  where
    last : {n : ℕ} (i d : ℕ) → i < 1 → n < 2 ^ 64 → get_or (n ∷ []) i d < 2 ^ 64
    last zero d within fits = fits
    last (suc i) d within fits = absurd (omega arith)

module _ (funcs : List Func) where
  lines_of_pair : (p : Counted) → HasCodeEnds funcs p → (ns : List ℕ) → All (λ n. n < 2 ^ 64) ns →
      ArePairsOfCode funcs (map (λ n. (p.0, p.1, n)) ns)
  lines_of_pair p ends [] fit = tt
  lines_of_pair p ends (n ∷ ns) fit = (
    record { from = ends.from; to = ends.to; fits = fit 0 n (omega arith) },
    lines_of_pair p ends ns (λ i d within. fit (suc i) d (omega arith)),
  )

  appended : (xs ys : List Counted) → ArePairsOfCode funcs xs → ArePairsOfCode funcs ys → ArePairsOfCode funcs (xs ++ ys)
  appended [] ys all more = more
  appended (x ∷ xs) ys all more = (all.0, appended xs ys all.1 more)

  all_lines : (pairs : List Counted) → ((p : Counted) → Contains pairs p → HasCodeEnds funcs p) →
      ArePairsOfCode funcs (split_counts pairs)
  all_lines [] each = tt
  all_lines (p ∷ pairs) each =
      appended (map (λ n. (p.0, p.1, n)) (line_counts p.2)) (split_counts pairs)
      (lines_of_pair p (each p (0, omega arith, refl)) (line_counts p.2) (counts_fit p.2))
      (all_lines pairs (λ q (k, within, is). each q (suc k, omega arith, is)))

  -- Pairs in order with these counts, whose ends are instructions.
  pub says_pairs : (elf : Elf) → AreLaidOut funcs → (counts : ℕ → ℕ → ℕ) (pairs : List Counted) (text : List ℕ) →
      ((from to : ℕ) → count_among from to pairs ≡ counts from to) → All (λ p. 0 < p.2) pairs → AllPairs IsCountedBefore pairs →
      ((p : Counted) → Contains pairs p → HasCodeEnds funcs p) → text ≡ text_of_pairs funcs pairs →
      IsEdgeText elf funcs counts text
  says_pairs elf laid counts pairs text same positive ordered ends is =
      let all : ArePairs counts pairs
      = subst (λ (f : ℕ → ℕ → ℕ). ArePairs f pairs) (λ i from to. same from to i)
      (are_pairs pairs (ascending_pairs pairs ordered) positive) in
      let code = all_lines pairs ends in
      let counted : counted_in text elf funcs ≡ split_counts pairs
      = ap (λ t. counted_in t elf funcs) is ∙ read_back elf.symbols.items funcs laid (split_counts pairs) code in
      record {
        pairs = pairs;
        are_pairs = all;
        text_is = is;
        counts_are = λ from to. ap (count_among from to) counted ∙ split_law pairs from to ∙ same from to;
        none_ignored = ap (λ t. ignored_in t elf funcs) is ∙ none_ignored elf.symbols.items funcs laid (split_counts pairs) code;
      }
