use Rattle.std.proofs.Common.{◌≡◌, ◌∙◌, ◌*◌, ◌+◌, ℕ, sym, ap, refl, Bool, true, false, arith, get_or}
use Rattle.std.specs.Prelude.{if◌then◌else◌, unwrap_or}
use Rattle.elf_image.specs.memory.Image.{image_byte}
use Rattle.rv_memory.specs.Memory.{is_zero_filled}
use Rattle.rv_memory.proofs.PageBytes.{zeros}
use Rattle.rv_memory.proofs.AddressRuns.{blank_byte}
use Rattle.std.proofs.Common.{length, length-append, [], ◌∷◌}
use Rattle.rv_memory.specs.Memory.{unwritten_byte}
use Rattle.rv_memory.proofs.AddressRuns.{pushed_more}
use Rattle.rv_memory.proofs.memory.Memory.unwritten_page.Goals as goal

zero_or : (t : Bool) (x : ℕ) → x ≡ 0 → (if t then 0 else x) ≡ 0
zero_or true x is = refl
zero_or false x is = is

pub returns-then-is_blank-clause-bytes : goal.returns-then-is_blank-clause-bytes
returns-then-is_blank-clause-bytes c = λ k within.
    let m = c.args.self.now in
    let q = c.args.number * 4096 + k in
    let blank = blank_byte m.elf.now.file.now m.elf.now.segments.items (c.args.number * 4096) q
    (rw c.deref.ensures.value at (sym c.is_blank.ensures ∙ c.if-is_blank.true)) (omega arith) (omega arith) in
    ap (λ xs. get_or xs k 0) (c.in_ok-from_elem.ensures.items_if_clones_equal (λ y same. same)) ∙ zeros 4096 k
    ∙ sym (zero_or (is_zero_filled m q) (unwrap_or (image_byte m.elf.now.file.now m.elf.now.segments.items q) 0) blank)

pub loop-k-preserved : goal.loop-k-preserved
loop-k-preserved c = record {
  size = ap length c.in_ok-push.ensures.items
      ∙ omega (arith, length-append c.loop-k.page.items (c.unwritten_byte.result ∷ []), c.loop-k.invariant.size);
  bytes = λ j within.
      ap (λ xs. get_or xs j 0) c.in_ok-push.ensures.items
      ∙ pushed_more
      (λ k. unwritten_byte c.args.self.now
      (c.args.number * 4096 + k)) c.loop-k.page.items c.unwritten_byte.result c.loop-k.k c.loop-k.invariant.size
      c.unwritten_byte.ensures c.loop-k.invariant.bytes j within;
}
