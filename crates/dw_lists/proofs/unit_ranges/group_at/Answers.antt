use Rattle.std.proofs.Common.{◌∙◌, sym}
use Rattle.dw_lists.specs.KnownLists.{range_list}
use Rattle.cover_lists.proofs.GroupFacts.{grow_none}
use Rattle.dw_lists.proofs.RangeLists.{known_more}
use Rattle.dw_lists.proofs.unit_ranges.group_at.Goals as goal

pub returns-in-Some : goal.returns-in-Some
returns-in-Some c = λ s u b r n k. record {
  grow = grow_none c.args.groups.now n;
  known_are = k;
  is = k c.args.at c.in-Some.group (sym c.known_number.ensures ∙ c.in-Some.is);
}

pub returns : goal.returns
returns c = λ s u b r n k. let p = c.in_ok-group.ensures s u b r n in record {
  grow = p.0;
  known_are = known_more (range_list s u) c.args.groups.now c.read_group.new.groups c.args.known.now c.insert.new.self c.args.at
      c.in_ok-group.group
      p.0 k p.1 (λ q. c.in_ok-insert.ensures.updates.0 q);
  is = p.1;
}
