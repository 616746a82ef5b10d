use Rattle.std.proofs.Common.{◌≡◌, ◌≤◌, ◌<◌, ◌-◌, subst, ℕ, List, length, get_or, true, false, rules, arith}
use Rattle.std.proofs.lemmas.Bool.{both_ways}
use Rattle.elf_image.specs.declared.segment.Segment.{Segment}
use Rattle.elf_image.specs.memory.Image.{is_load}
use Rattle.elf_plan.specs.NewSegments.{area_segment, inserted}
use Rattle.file_room.specs.Room.{greatest_align}
use Rattle.elf_plan.proofs.segments.Places.segments.Goals as goal

pub returns-then-not-self : goal.returns-then-not-self
returns-then-not-self c = record {
  headers = record {
    renewed = c.in_ok-segments.segments.items;
    are = c.in_ok-segments.ensures.renewed;
    kept = λ off. search rules;
    at = 0;
    within = omega arith;
    behind = λ on. absurd (both_ways c.args.self.now.area.tight c.if-not-self.true on);
    last = λ on. absurd (both_ways c.args.self.now.area.tight c.if-not-self.true on);
    more = λ on. absurd (both_ways c.args.self.now.area.tight c.if-not-self.true on);
  };
  each = c.in_ok-segments.ensures.each;
}

pub returns : goal.returns
returns c =
    let self = c.args.self.now in
    let ps : List Segment = self.elf.now.segments.items in
    let at : ℕ = c.loads_count-at.result in
    let same = c.deref.ensures.value in
    let own : Segment = area_segment self.area (greatest_align ps) in
    let items : c.insert.new.self.items ≡ inserted at own c.in_ok-segments.segments.items = search rules in
    record {
      headers = record {
        renewed = c.in_ok-segments.segments.items;
        are = c.in_ok-segments.ensures.renewed;
        kept = λ off. absurd (both_ways self.area.tight off c.if-not-self.false);
        at = at;
        within = subst (λ (xs : List Segment). at ≤ length xs) same c.loads_count-at.ensures.within;
        behind = λ _.
            subst (λ (xs : List Segment). (k : ℕ) (d : Segment) → at ≤ k → k < length xs → is_load (get_or xs k d) ≡ false)
            same c.loads_count-at.ensures.behind;
        last = λ _.
            subst (λ (xs : List Segment). 0 < at → (d : Segment) → is_load (get_or xs (at - 1) d) ≡ true)
            same c.loads_count-at.ensures.last;
        more = λ _. items;
      };
      each = c.in_ok-segments.ensures.each;
    }
