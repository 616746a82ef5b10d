use Rattle.std.proofs.Common.{ℕ, ◌≡◌, ◌<◌, Global, List, [], length, sym, ap, refl, ◌∙◌, inl, inr, arith}
use Rattle.std.proofs.lemmas.List.{with_items_is, length-map}
use Rattle.std.specs.declared.collections.VecDeque.{VecDeque}
use Rattle.func_place.specs.declared.groups.Groups.{Groups}
use Rattle.func_place.specs.internal.Groups.{grouping_of, list_at, numbered}
use Rattle.func_place.proofs.Moving.{list_from, list_from_other, lists-set}
use Rattle.func_place.proofs.groups.Groups.join.Goals as goal

inside : (g : Groups) (q : ℕ) → q < length (grouping_of g).lists → q < length g.lists.items
inside g q lt = let len = length-map g.lists.items (λ (d : VecDeque ℕ Global). d.items) in omega arith

pub put_in_front-requires : goal.put_in_front-requires
put_in_front-requires c =
    let few = list_from c.args.self.now.lists.items c.args.first c.index_mut.result.now
    (inside c.args.self.now c.args.first c.requires.first_in) c.index_mut.ensures.value in
    rw (c.replace-few.ensures.value, c.deref_mut.ensures.value, few, c.requires.grouped.numbers_len)
    (c.requires.grouped.members_in c.args.first c.requires.first_in)

pub put_at_end-requires : goal.put_at_end-requires
put_at_end-requires c =
    let few = list_from c.args.self.now.lists.items c.args.second c.index_mut-else-len.result.now
    (inside c.args.self.now c.args.second c.requires.second_in) c.index_mut-else-len.ensures.value in
    rw (c.replace-few-else-len.ensures.value, c.deref_mut-else-len.ensures.value, few, c.requires.grouped.numbers_len)
    (c.requires.grouped.members_in c.args.second c.requires.second_in)

pub returns-in_ok-put_in_front : goal.returns-in_ok-put_in_front
returns-in_ok-put_in_front c =
    let lists = c.args.self.now.lists.items in
    let first_in = inside c.args.self.now c.args.first c.requires.first_in in
    let second_in = inside c.args.self.now c.args.second c.requires.second_in in
    let few : c.replace-few.result.items ≡ list_at (grouping_of c.args.self.now).lists c.args.first =
    ap (λ (d : VecDeque ℕ Global). d.items) c.replace-few.ensures.value
    ∙ list_from lists c.args.first c.index_mut.result.now first_in c.index_mut.ensures.value in
    let many : c.index_mut-then-len.result.now.items ≡ list_at (grouping_of c.args.self.now).lists c.args.second =
    list_from_other lists c.args.second c.args.first c.index_mut-then-len.result.now c.replace-few.new.dest second_in
    (λ e. c.requires.apart (sym e)) c.index_mut-then-len.ensures.value in
    let none : c.replace-few.new.dest.items ≡ [] =
    ap (λ (d : VecDeque ℕ Global). d.items) c.replace-few.ensures.after ∙ c.new.ensures.items in
    let same =
    with_items_is c.args.self.now.numbers c.put_in_front.new.numbers (c.put_in_front.auto.numbers ∙ c.deref_mut.ensures.len) in
    record {
      joins = inl (
        refl,
        record {
          numbers_len = ap length same ∙ c.put_in_front.auto.numbers ∙ ap length c.deref_mut.ensures.value;
          numbers = λ u lt. rw same (c.in_ok-put_in_front.ensures.numbers u (rw c.deref_mut.ensures.value lt)
              ∙ ap (λ (ns : List ℕ). numbered c.replace-few.result.items c.args.second ns u) c.deref_mut.ensures.value
              ∙ ap (λ (us : List ℕ). numbered us c.args.second c.args.self.now.numbers.items u) few);
          lists = lists-set lists c.args.first c.args.second c.replace-few.new.dest c.put_in_front.new.many _ none
              (c.in_ok-put_in_front.ensures.members ∙ rw (few, many) refl);
        },
      );
    }

pub returns-in_ok-put_at_end : goal.returns-in_ok-put_at_end
returns-in_ok-put_at_end c =
    let lists = c.args.self.now.lists.items in
    let first_in = inside c.args.self.now c.args.first c.requires.first_in in
    let second_in = inside c.args.self.now c.args.second c.requires.second_in in
    let few : c.replace-few-else-len.result.items ≡ list_at (grouping_of c.args.self.now).lists c.args.second =
    ap (λ (d : VecDeque ℕ Global). d.items) c.replace-few-else-len.ensures.value
    ∙ list_from lists c.args.second c.index_mut-else-len.result.now second_in c.index_mut-else-len.ensures.value in
    let many : c.index_mut-else-len-2.result.now.items ≡ list_at (grouping_of c.args.self.now).lists c.args.first =
    list_from_other lists c.args.first c.args.second c.index_mut-else-len-2.result.now c.replace-few-else-len.new.dest first_in
    (λ e. c.requires.apart e) c.index_mut-else-len-2.ensures.value in
    let none : c.replace-few-else-len.new.dest.items ≡ [] =
    ap (λ (d : VecDeque ℕ Global). d.items) c.replace-few-else-len.ensures.after ∙ c.new-else-len.ensures.items in
    let same = with_items_is c.args.self.now.numbers c.put_at_end.new.numbers
    (c.put_at_end.auto.numbers ∙ c.deref_mut-else-len.ensures.len) in
    record {
      joins = inr (
        refl,
        record {
          numbers_len = ap length same ∙ c.put_at_end.auto.numbers ∙ ap length c.deref_mut-else-len.ensures.value;
          numbers = λ u lt. rw same (c.in_ok-put_at_end.ensures.numbers u (rw c.deref_mut-else-len.ensures.value lt)
              ∙ ap
              (λ (ns : List ℕ). numbered c.replace-few-else-len.result.items c.args.first ns u) c.deref_mut-else-len.ensures.value
              ∙ ap (λ (us : List ℕ). numbered us c.args.first c.args.self.now.numbers.items u) few);
          lists = lists-set lists c.args.second c.args.first c.replace-few-else-len.new.dest c.put_at_end.new.many _ none
              (c.in_ok-put_at_end.ensures.members ∙ rw (few, many) refl);
        },
      );
    }
