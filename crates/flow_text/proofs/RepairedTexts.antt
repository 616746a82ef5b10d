-- The text of a repaired profile.
use Rattle.std.proofs.Common.{◌≡◌, ◌∙◌, ◌<◌, ℕ, List, All, ap, sym, subst}
use Rattle.std.proofs.lemmas.List.Elements.{All-contains}
use Rattle.rv_code.specs.declared.placed.Block.{Block}
use Rattle.rv_code.specs.declared.placed.Func.{Func}
use Rattle.rv_code.specs.layout.FunctionLists.{AreLaidOut}
use Rattle.elf_image.specs.declared.elf.Elf.{Elf}
use Rattle.edge_profile.specs.PairCounts.{Counted}
use Rattle.edge_text.specs.EdgeText.{HasCodeEnds, IsEdgeText, text_of_pairs}
use Rattle.edge_text.proofs.SaidPairs.{says_pairs}
use Rattle.flow_infer.specs.declared.flow.Link.{Link}
use Rattle.flow_text.specs.LinkLists.{AreBlocksOf, AreCodePairs, AreLinksOf}
use Rattle.flow_text.specs.MergedFlows.{with_flows}
use Rattle.flow_text.specs.RepairedCounts.{edge_flows, repaired_count}
use Rattle.flow_text.proofs.FlowOrder.{flows_coded, flows_ordered}
use Rattle.flow_text.proofs.PlacedFlows.{all_with, counts_with, ordered_with}

-- `given` are the merged pairs, from the flows of edges that were passed
module _ (funcs : List Func) (blocks : List Block) (links : List Link) (pairs flows given : List Counted)
    (code : AreCodePairs funcs pairs) (flows_are : flows ≡ edge_flows funcs blocks links) (given_is : given ≡ with_flows flows pairs) where
  merged_is : given ≡ with_flows (edge_flows funcs blocks links) pairs
  merged_is = given_is ∙ ap (λ fs. with_flows fs pairs) flows_are

  pub merged_positive : All (λ p. 0 < p.2) given
  merged_positive =
      subst (All (λ (p : Counted). 0 < p.2)) (sym merged_is)
      (all_with (λ p. 0 < p.2) (edge_flows funcs blocks links) pairs (λ i d within some. some) code.positive)

  pub text_says : AreLaidOut funcs → AreBlocksOf funcs blocks → AreLinksOf blocks links → (text : List ℕ) →
      text ≡ text_of_pairs funcs given → (elf : Elf) → IsEdgeText elf funcs (repaired_count funcs blocks links pairs) text
  text_says laid are of text is elf =
      let es = edge_flows funcs blocks links in
      let up = flows_ordered funcs laid blocks are links of in
      let coded = all_with (HasCodeEnds funcs) es pairs
      (λ i d within some. flows_coded funcs laid blocks are links of i d within) code.coded in
      says_pairs funcs elf laid (repaired_count funcs blocks links pairs) (with_flows es pairs) text
      (λ x y. counts_with x y es pairs up)
      (all_with (λ p. 0 < p.2) es pairs (λ i d within some. some) code.positive)
      (ordered_with es pairs up code.ordered)
      (λ p p_in. All-contains (HasCodeEnds funcs) (with_flows es pairs) p coded p_in)
      (is ∙ ap (text_of_pairs funcs) merged_is)
