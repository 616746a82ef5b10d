use Rattle.std.proofs.Common.{◌≡◌, rules, sym, subst, ℕ, ◌+◌, ◌*◌, ◌≤◌, true, false, length}
use Rattle.std.proofs.lemmas.Option.{same_Some}
use Rattle.rv_code.specs.layout.FunctionLists.{address_end}
use Rattle.cfi_rows.specs.Entries.{frames}
use Rattle.frame_rewrite.specs.Index.{IsIndexOf, has_index}
use Rattle.bolt_core.specs.internal.GivenIndex.{frames_at, index_at}
use Rattle.bolt_core.proofs.table_list.new_index.Goals as goal

pub header-requires-clause-index_low : goal.header-requires-clause-index_low
header-requires-clause-index_low c =
    let has : has_index c.args.elf.now ≡ true = search rules in
    let is : index_at c.args.start c.args.code c.args.frames.now ≡ c.in_ok-at.index_at =
    same_Some _ _ (c.in_ok-at.ensures.index 0) in
    subst (λ (b : ℕ). b ≤ address_end) is (c.requires has).low

pub returns-clause-index : goal.returns-clause-index
returns-clause-index c =
    let at : frames_at c.args.start c.args.code ≡ c.in_ok-at.at = same_Some _ _ c.in_ok-at.ensures.frames in
    let is : index_at c.args.start c.args.code c.args.frames.now ≡ c.in_ok-at.index_at =
    same_Some _ _ (c.in_ok-at.ensures.index 0) in
    record {
      is = subst (λ (a : ℕ). IsIndexOf a (index_at c.args.start c.args.code c.args.frames.now) (frames false a c.args.frames.now).list
          c.in_ok-index.index.items) (sym at)
          (subst (λ (b : ℕ). IsIndexOf c.in_ok-at.at b (frames false c.in_ok-at.at c.args.frames.now).list c.in_ok-index.index.items)
          (sym is) c.in_ok-index.ensures.index);
      size = subst (λ (a : ℕ). length c.in_ok-index.index.items ≡ 12 + 8 * length (frames false a c.args.frames.now).list) (sym at)
          c.in_ok-index.ensures.size;
    }
