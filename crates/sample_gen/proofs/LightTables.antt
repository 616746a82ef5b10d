-- No table of a file with few functions and entries weighs too much, for any valid map.
use Rattle.std.proofs.Common.{◌≡◌, ◌≤◌, ◌<◌, ◌+◌, ◌*◌, ℕ, List, [], length, Option, Some, IsTrue, IfSome, subst, arith}
use Rattle.std.specs.Prelude.{Contains}
use Rattle.std.proofs.lemmas.List.Concat.{length-flat_map}
use Rattle.std.proofs.lemmas.List.Elements.{All-contains}
use Rattle.std.proofs.lemmas.List.Sums.{sum_by-le}
use Rattle.rb_bytes.proofs.ListLemmas.{from_flat}
use Rattle.rb_bytes.proofs.Members.{Contains-nil}
use Rattle.rv_code.specs.declared.placed.Func.{Func}
use Rattle.rv_code.specs.declared.placed.Placed.{Placed}
use Rattle.rv_code.specs.layout.Flow.{insts_of}
use Rattle.rv_code.specs.layout.ProgramCode.{is_code_address}
use Rattle.elf_image.specs.declared.elf.Elf.{Elf}
use Rattle.addr_map.specs.declared.span.Span.{Span}
use Rattle.addr_map.specs.Spans.{IsMap}
use Rattle.answer_runs.specs.AnswerRuns.{carried}
use Rattle.answer_runs.specs.Weights.{IsWeightOf, run_weight, weight_limit}
use Rattle.dw_unit.specs.CompUnits.{Unit, units}
use Rattle.dw_unit.specs.ListedEntries.{listed_entries}
use Rattle.dw_unit.specs.Tables.{sections_of}
use Rattle.line_rewrite.specs.LineAnswers.{LineSaid}
use Rattle.line_rewrite.specs.Tables.{IsLineWeight, line_at, line_sections, row_weight}
use Rattle.range_loc_rewrite.specs.Lists.{locations_kind, ranges_kind}
use Rattle.range_loc_rewrite.specs.ListWeights.{IsSumOf}
use Rattle.range_loc_rewrite.specs.Ranges.{Ranged, ranged}
use Rattle.range_loc_rewrite.specs.Tables.{list_sections}
use Rattle.range_loc_rewrite.specs.Weights.{IsListWeight, IsPlacesWeight, IsRangesWeight, IsUnitWeight, covered_by, index_weights}
use Rattle.addr_rewrite.specs.Aranges.{unit_at}
use Rattle.addr_rewrite.specs.Tables.{IsArangesWeight, aranges_of}
use Rattle.table_set.specs.TableLimits.{IsTooHeavy, abbreviations, aranges, lines, places, ranges}
use Rattle.sample_gen.specs.internal.Light.{AreLightTables, HasOneRow, IsLightFunc}
use Rattle.sample_gen.proofs.Listless.{count_ranged, no_location_indexes, no_offsets, no_range_indexes, sum_within}
use Rattle.sample_gen.proofs.RunWeights.{few_spans, inst_at, weight_within}

module _ (elf : Elf) (funcs : List Func) (light : AreLightTables elf funcs) where
  few_insts : length (insts_of funcs) ≤ 12012
  few_insts =
      let each = sum_by-le (λ (f : Func). length f.insts.items) 12 funcs (λ k d within. (light.functions.light k d within).few) in
      let all = length-flat_map (λ (f : Func). f.insts.items) funcs in
      let few = light.functions.few in
      omega (arith, each, all, few)

  one_row : (p : Placed) → Contains (insts_of funcs) p → HasOneRow (line_sections elf) p.addr
  one_row p c =
      let (f, in_funcs, in_func) = from_flat (λ (f : Func). f.insts.items) funcs p c in
      All-contains (λ (p : Placed). HasOneRow (line_sections elf) p.addr) f.insts.items p
      (All-contains (IsLightFunc (line_sections elf)) funcs f light.functions.light in_funcs).rows in_func

  module _ (Named : ℕ → Type 0) (spans : List Span) (map : IsMap (λ a. IsTrue (is_code_address funcs a)) Named spans) where
    few : length spans ≤ 12012
    few = let a = few_spans funcs spans map.only map.once in let b = few_insts in omega (arith, a, b)

    row_weights : (s : Span) → Contains spans s → (said : LineSaid) → line_at (line_sections elf) s.input ≡ Some said →
        run_weight + row_weight * length said.rows ≤ 128
    row_weights s c said e =
        let (p, listed, is) = inst_at funcs s.input
        (All-contains (λ (s : Span). IsTrue (is_code_address funcs s.input)) spans s map.only c) in
        let one = subst (HasOneRow (line_sections elf)) is (one_row p listed) in
        let rows : length said.rows ≤ 1 = subst (λ (o : Option LineSaid). IfSome o (λ said. length said.rows ≤ 1)) e one in
        omega (arith, rows)

    light_lines : (n : ℕ) → IsLineWeight (line_sections elf) spans n → weight_limit < n → ⊥
    light_lines n is over =
        let w = weight_within (line_at (line_sections elf)) (λ (said : LineSaid). row_weight * length said.rows) 128 spans
        map.disjoint row_weights n is in
        let l = few in
        omega (arith, w, l, over)

    -- the weight without the part that depends on the answer
    plain : {A : Type 0} (at : ℕ → Option A) (n : ℕ) → IsWeightOf (λ _. 0) (carried at spans) n → n ≤ 384384
    plain {A = A} at n is =
        let w = weight_within at (λ (x : A). 0) 32 spans map.disjoint (λ s c x e. omega arith) n is in
        let l = few in
        omega (arith, w, l)

    light_aranges : (n : ℕ) → IsArangesWeight (aranges_of elf) spans n → weight_limit < n → ⊥
    light_aranges n is over = let w = plain (unit_at (aranges_of elf)) n is in omega (arith, w, over)

    light_ranges : (n : ℕ) → IsRangesWeight (list_sections elf) spans n → weight_limit < n → ⊥
    light_ranges n is over =
        let sum = sum_within (λ (r : Ranged). IsWeightOf (λ _. 0) (carried (covered_by r) spans)) 384384 (ranged (list_sections elf))
        (λ r c m w. plain (covered_by r) m w) is.runs is.of_runs in
        let none : index_weights ranges_kind.index_form (list_sections elf) ≡ 0 =
        no_range_indexes (sections_of elf) light.units.listless in
        let count : length (ranged (list_sections elf)) ≡ length (listed_entries (sections_of elf)) =
        count_ranged (list_sections elf) in
        let few = light.units.few in
        let total = is.sum in
        omega (arith, sum, none, count, few, total, over)

    light_places : (n : ℕ) → IsPlacesWeight (list_sections elf) spans n → weight_limit < n → ⊥
    light_places n is over =
        let sum = sum_within (IsUnitWeight (list_sections elf) spans) 0 (units (sections_of elf)) no_lists is.runs is.of_runs in
        let none : index_weights locations_kind.index_form (list_sections elf) ≡ 0 =
        no_location_indexes (sections_of elf) light.units.listless in
        let total = is.sum in
        omega (arith, sum, none, total, over)
      where
        no_lists : (u : Unit) → Contains (units (sections_of elf)) u → (n : ℕ) → IsUnitWeight (list_sections elf) spans u n → n ≤ 0
        no_lists u c n w =
            let e = no_offsets (sections_of elf) light.units.listless (list_sections elf).locations u c in
            let none = sum_within (IsListWeight (list_sections elf) spans u) 0 [] (λ x k m v. absurd (Contains-nil x k)) n
            (subst (λ (offsets : List ℕ). IsSumOf (IsListWeight (list_sections elf) spans u) offsets n) e w) in
            omega (arith, none)

    pub none_heavy : IsTooHeavy elf spans → ⊥
    none_heavy (lines n is over) = light_lines n is over
    none_heavy (ranges n is over) = light_ranges n is over
    none_heavy (places n is over) = light_places n is over
    none_heavy (aranges n is over) = light_aranges n is over
    none_heavy (abbreviations over) = let l = light.units.declarations in omega (arith, l, over)
