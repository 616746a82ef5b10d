use Rattle.std.proofs.Common.{◌∙◌, ◌++◌, ℕ, List, ap, sym, arith, append-nil, append_assoc}
use Rattle.byteorder.specs.Endian.{little_bytes}
use Rattle.list_writer.specs.WrittenTables.{offset_of, list_offsets}
use Rattle.list_writer.proofs.UnitTables.{no_offsets, offsets_step, offset_low}
use Rattle.list_writer.proofs.list_tables.put_offsets.Goals as goal

pub loop-index-init : goal.loop-index-init
loop-index-init c = (
  sym (ap (λ (l : List ℕ). c.args.out.now.items ++ l) (no_offsets c.args.size c.args.indexes.now) ∙ append-nil c.args.out.now.items),
  λ i h. absurd (omega (arith, h)),
)

pub loop-index-preserved : goal.loop-index-preserved
loop-index-preserved c =
    let out : List ℕ = c.args.out.now.items in
    let n : ℕ = c.loop-index.index in
    let number : List ℕ = little_bytes 4 (offset_of c.args.size c.args.indexes.now n) in (
      c.in_ok-put_offset.ensures.written ∙ ap (λ (l : List ℕ). l ++ number) c.loop-index.invariant.0
          ∙ append_assoc out (list_offsets c.args.size c.args.indexes.now n) number
          ∙ ap (λ (l : List ℕ). out ++ l) (sym (offsets_step c.args.size c.args.indexes.now n)),
      offset_low c.args.size c.args.indexes.now n c.loop-index.invariant.1 c.in_ok-put_offset.ensures.low,
    )
