-- No address is in two pairs of the written tables: each is a run's, and runs share none.
use Rattle.std.proofs.Common.{◌≡◌, ◌∙◌, ◌≤◌, ◌+◌, ◌++◌, ℕ, zero, suc, List, [], ◌∷◌, refl, sym, ap, arith}
use Rattle.std.proofs.Common.{length, map, take, drop}
use Rattle.std.specs.Prelude.{AllPairs, flat_map}
use Rattle.std.specs.List.Sorted.{IsPermutation}
use Rattle.std.proofs.lemmas.Bool.{both_ways}
use Rattle.std.proofs.lemmas.Grind.{common_steps}
use Rattle.std.proofs.lemmas.List.{map-append, take-append-drop}
use Rattle.std.proofs.lemmas.List.Kept.{AllPairs-cons}
use Rattle.rb_bytes.proofs.ListLemmas.{pairs_map}
use Rattle.rb_bytes.proofs.Permuted.{AllPairs-permutation}
use Rattle.answer_runs.specs.AddressRanges.{AreApart, ShareNoAddress}
use Rattle.answer_runs.specs.AnswerRuns.{IsWithin}
use Rattle.answer_runs.specs.declared.range.Range.{Range}
use Rattle.answer_runs.specs.declared.run.Run.{Run}
use Rattle.addr_rewrite.specs.Aranges.{AddressTable}
use Rattle.addr_rewrite.specs.WrittenAranges.{count_of, stretch_of}
use Rattle.addr_rewrite.specs.declared.stretch.Stretch.{Stretch}
use Rattle.addr_rewrite.proofs.RunUnits.{past, runs_say}
use Rattle.addr_rewrite.proofs.TablesBack.{range_of, told_tables}

abbrev pub ranges_in : List AddressTable → List Range
ranges_in tables = flat_map (λ (t : AddressTable). t.ranges) tables

-- The pairs of all tables are those of the stretches.
pub all_ranges : (n : ℕ) (ss : List Stretch) → length ss ≤ n → ranges_in (told_tables n ss) ≡ map range_of ss
unfolding told_tables
all_ranges zero [] h = refl
all_ranges (suc n) [] h = refl
all_ranges zero (s ∷ ss) h = absurd (omega arith)
all_ranges (suc n) (s ∷ ss) h =
    let k : ℕ = count_of s.unit ss in
    let less : length (drop k ss) ≤ n = grind (arith, common_steps) in
    ap (λ (l : List Range). range_of s ∷ (map range_of (take k ss) ++ l)) (all_ranges n (drop k ss) less)
    ∙ ap (λ (l : List Range). range_of s ∷ l)
    (sym (map-append range_of (take k ss) (drop k ss)) ∙ ap (map range_of) (take-append-drop k ss))

abbrev Apart : Stretch → Stretch → Type 0
Apart s t = ShareNoAddress (range_of s) (range_of t)

flip : (s t : Stretch) → Apart s t → Apart t s
flip s t apart a x y = apart a y x

runs_apart : (lo hi : ℕ) (rs : List (Run ℕ)) → IsWithin lo rs hi
    → AllPairs (λ (r q : Run ℕ). Apart (stretch_of r) (stretch_of q)) rs
runs_apart lo hi [] w = λ i j d less inside. absurd (omega arith)
runs_apart lo hi (r ∷ rs) w =
    AllPairs-cons (λ (r q : Run ℕ). Apart (stretch_of r) (stretch_of q)) r rs
    (λ k d inside a x y. both_ways _ (past r a (runs_say (r.start + r.len) hi a rs w.2 k d inside y).0) x)
    (runs_apart (r.start + r.len) hi rs w.2)

pub stretches_apart : (hi : ℕ) (rs : List (Run ℕ)) (ss : List Stretch) → IsWithin 0 rs hi → IsPermutation (map stretch_of rs) ss
    → AreApart (map range_of ss)
stretches_apart hi rs ss w p =
    pairs_map ShareNoAddress range_of ss
    (AllPairs-permutation Apart flip (map stretch_of rs) ss p (pairs_map Apart stretch_of rs (runs_apart 0 hi rs w)))
