use Rattle.std.proofs.Common.{◌≡◌, length, arith, refl}
use Rattle.block_layout.specs.FirstLinks.{IsEdgeNumber, ends_of_edge}
use Rattle.block_layout.proofs.Steps.{linked_none, ends_none, join_step, skip_step, first_why}
use Rattle.block_layout.proofs.links.link_edges.Goals as goal
use Rattle.block_layout.proofs.links.link_edges.Goals.{then-may_link, else-may_link}

pub loop-edge-init : goal.loop-edge-init
loop-edge-init c = let e = c.in_ok-links.ensures in record {
  linked = linked_none _ _ _ _ e.next e.prev;
  ends = ends_none _ _ _ _ _ e.next e.prev e.head e.tail;
  next_len = e.sized.0;
  prev_len = e.sized.1;
  head_len = e.sized.2;
  tail_len = e.sized.3;
}

pub loop-edge-preserved : goal.loop-edge-preserved
loop-edge-preserved c =
    let at : IsEdgeNumber c.args.edges.now c.loop-edge.edge-index (ends_of_edge c.args.edges.now c.loop-edge.edge-index).0
    (ends_of_edge c.args.edges.now c.loop-edge.edge-index).1 = (c.loop-edge-test.true, refl) in
    let inside = c.requires.inside c.loop-edge.edge-index c.loop-edge-test.true in
    elim c.if-may_link.branch [
      | then-may_link w ↦
          let f = w.if-may_link.ensures in
          let j = w.link.ensures in
          rw w.links-is
          (join_step at c.loop-edge.invariant (record { next = j.next; prev = j.prev; head = j.head; tail = j.tail })
          (record {
            s_in = inside.0;
            t_in = inside.1;
            no_next = f.0;
            no_prev = f.1;
            not_first = λ is. let yes' = c.is_first_block-is_first.ensures.1 is in let no' = f.2 in absurd (cc);
            apart = f.3;
          }))
      | else-may_link w ↦
          rw w.links-is
          (skip_step at inside.0 inside.1 c.loop-edge.invariant
          (first_why c.is_first_block-is_first.ensures.0 w.if-may_link.ensures))
    ]

pub returns-clause-linked : goal.returns-clause-linked
returns-clause-linked c =
    let e : c.loop-edge.edge-index ≡ length c.args.edges.now = omega arith in
    rw (← e) c.loop-edge.invariant.linked
