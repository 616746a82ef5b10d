use Rattle.std.proofs.Common.{◌≡◌, ◌≤◌, ℕ, None, List, AllPairs, length, get_or, subst, sym, arith}
use Rattle.std.proofs.lemmas.List.{get_or_past}
use Rattle.std.proofs.lemmas.Result.{IfOk-weaker}
use Rattle.std.proofs.lemmas.Grind.{common_steps}
use Rattle.edge_profile.specs.Profile.{profile_counts, pairs_of}
use Rattle.block_layout.specs.EdgeCounts.{edge_count}
use Rattle.block_layout.specs.EdgeLists.{AreCounted, HaveOtherEnds, IsKeyBefore}
use Rattle.block_layout.specs.HotAndCold.{AreSplitTo}
use Rattle.block_layout.specs.Parts.{IsFirstBlock}
use Rattle.block_layout.specs.Walks.{links_of}
use Rattle.block_layout.specs.declared.edge_counts.Edge.{Edge}
use Rattle.block_layout.proofs.Whole.{all_within, taken_within, links_between, links_inner, of_functions, weights_are, parts_of}
use Rattle.block_layout.proofs.Taking.{in_order, all_linked}
use Rattle.block_layout.proofs.layout.chains_by.Goals as goal

pub counted_edges-requires-clause-edges : goal.counted_edges-requires-clause-edges
counted_edges-requires-clause-edges c = all_within c.args.blocks.now c.args.edges.now c.requires.edges

pub link_edges-requires-clause-inside : goal.link_edges-requires-clause-inside
link_edges-requires-clause-inside c = grind (arith, common_steps, taken_within)

pub function_parts-requires-clause-of_functions : goal.function_parts-requires-clause-of_functions
function_parts-requires-clause-of_functions c = of_functions c.args.funcs.now c.args.blocks.now c.requires.stretches

pub function_parts-requires-clause-links : goal.function_parts-requires-clause-links
function_parts-requires-clause-links c = grind (arith, common_steps, links_between)

pub function_parts-requires-clause-inner : goal.function_parts-requires-clause-inner
function_parts-requires-clause-inner c =
    let count = edge_count (profile_counts c.args.profile.now) c.args.funcs.now c.args.blocks.now in
    let counted =
    subst (λ (es : List Edge). AreCounted count c.args.edges.now es) (sym c.deref.ensures.value) c.in_ok-taken.ensures.counted in
    links_inner count c.args.blocks.now c.args.edges.now c.deref.result.now c.requires.edges counted
    (links_of c.in_ok-links.links) c.in_ok-links.ensures.linked

pub returns-clause-all : goal.returns-clause-all
returns-clause-all c = grind (arith, common_steps)

pub returns-clause-chains : goal.returns-clause-chains
returns-clause-chains c =
    let funcs = c.args.funcs.now in
    let blocks = c.args.blocks.now in
    let taken = c.deref.result.now in
    let count = edge_count (profile_counts c.args.profile.now) funcs blocks in
    let counted =
    subst (λ (es : List Edge). AreCounted count c.args.edges.now es) (sym c.deref.ensures.value) c.in_ok-taken.ensures.counted in
    let sorted = subst (λ (es : List Edge). AllPairs IsKeyBefore es) (sym c.deref.ensures.value) c.in_ok-taken.ensures.sorted in
    let once = subst (λ (es : List Edge). AllPairs HaveOtherEnds es) (sym c.deref.ensures.value) c.in_ok-taken.ensures.once in
    let order = in_order count taken c.args.edges.now counted sorted once in
    let past : (x : ℕ) → length blocks ≤ x → get_or c.in_ok-links.links.prev.items x None ≡ None =
    λ x out. get_or_past c.in_ok-links.links.prev.items x None (let size = c.in_ok-links.ensures.sized.1 in omega arith) in
    let same = weights_are (pairs_of c.args.profile.now) funcs blocks c.args.weights.now
    c.requires.weights in
    IfOk-weaker c.function_parts.result _ _ (λ parts split. record {
      links = links_of c.in_ok-links.links;
      links_are = all_linked count taken c.args.edges.now (length blocks) (IsFirstBlock blocks)
          (links_of c.in_ok-links.links) counted order c.in_ok-links.ensures.linked past;
      parts_are = parts_of (pairs_of c.args.profile.now) funcs blocks (links_of c.in_ok-links.links) parts
          (subst (λ (weight : ℕ → ℕ). AreSplitTo blocks weight (links_of c.in_ok-links.links) (length funcs) parts)
          (λ i k. same k i) split);
    }) c.function_parts.ensures
