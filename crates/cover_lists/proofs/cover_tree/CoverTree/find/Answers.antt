use Rattle.std.proofs.Common.{arith, true, false, ◌∙◌, ap, sym, append-nil, ℕ, List}
use Rattle.std.specs.Global.{Vec}
use Rattle.cover_lists.specs.declared.cover_tree.Node.{Node}
use Rattle.cover_lists.specs.CoverTree.{covers_of}
use Rattle.cover_lists.proofs.CoverTreeFacts.{block_at, one_more, passed}
use Rattle.cover_lists.proofs.cover_tree.CoverTree.find.Goals as goal
use Rattle.cover_lists.proofs.cover_tree.CoverTree.find.Goals.{then-holds+in_ok-push, else-holds}

abbrev items : Vec ℕ → List ℕ
items v = v.items

pub loop-index-preserved-then-not-reaches : goal.loop-index-preserved-then-not-reaches
loop-index-preserved-then-not-reaches c =
    let nodes : List Node = c.self.inside.nodes.items in
    let n : Node = c.index-node.result.now in
    passed (covers_of nodes) c.loop-index.index c.saturating_add-index.result n.more n.low n.high c.args.a c.loop-index.groups.items
    (omega arith) (omega arith)
    (block_at nodes c.loop-index.index n (omega arith) c.index-node.ensures c.self.invariant)
    (sym c.reaches.ensures ∙ c.if-not-reaches.true)
    ∙ c.loop-index.invariant

pub loop-index-preserved : goal.loop-index-preserved
loop-index-preserved c =
    let nodes : List Node = c.self.inside.nodes.items in
    let n : Node = c.index-node.result.now in
    elim c.if-holds.branch [
      | then-holds+in_ok-push w ↦
          one_more nodes c.loop-index.index n c.args.a true c.loop-index.groups.items c.if-holds.groups.items (omega arith)
          c.index-node.ensures (sym c.holds.ensures ∙ w.if-holds.true)
          (ap items w.groups-is ∙ w.in_ok-push.ensures.items)
          ∙ c.loop-index.invariant
      | else-holds w ↦
          one_more nodes c.loop-index.index n c.args.a false c.loop-index.groups.items c.if-holds.groups.items (omega arith)
          c.index-node.ensures (sym c.holds.ensures ∙ w.if-holds.false)
          (ap items w.groups-is ∙ sym (append-nil c.loop-index.groups.items))
          ∙ c.loop-index.invariant
    ]
