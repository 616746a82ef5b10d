use Rattle.std.proofs.Common.{◌≡◌, ◌-◌, ◌++◌, ◌∙◌, ap, List, ℕ, drop, take}
use Rattle.std.proofs.lemmas.List.{append-nil}
use Rattle.byteorder.specs.Endian.{little_bytes}
use Rattle.byteorder.specs.Numbers.{length-bytes_low_first}
use Rattle.dw_unit.proofs.Patched.{patch_put, lowest_bytes}
use Rattle.dw_unit.proofs.patch.put_number.Goals as goal

pub returns-clause-put : goal.returns-clause-put
returns-clause-put c =
    let len : ℕ = c.args.len in
    let value : ℕ = c.args.value in
    let kept : List ℕ = c.split_at-2.result.0.now in
    let low : List ℕ = c.split_at-3.result.0.now in
    let number : c.write_u64.new.buf ≡ little_bytes 8 value = c.write_u64.ensures ∙ append-nil (little_bytes 8 value) in
    let low_is : low ≡ little_bytes len value = c.split_at-3.ensures.front ∙ ap (λ (l : List ℕ). take len l) number
    ∙ lowest_bytes len value c.requires.len in
    let kept_is : kept ≡ take (c.args.place - c.args.from) (drop c.args.from c.args.bytes.now) =
    c.split_at-2.ensures.front ∙ ap (λ (l : List ℕ). take (c.args.place - c.args.from) l) c.split_at.ensures.back in
    let all_is : c.extend_from_slice-2.new.self.items ≡ (c.args.out.now.items ++ kept) ++ little_bytes len value =
    c.in_ok-extend_from_slice-2.ensures.items ∙ ap (λ (l : List ℕ). l ++ low) c.in_ok-extend_from_slice.ensures.items
    ∙ ap (λ (l : List ℕ). (c.args.out.now.items ++ kept) ++ l) low_is in
    λ ps. patch_put c.args.out.now.items c.extend_from_slice-2.new.self.items kept (little_bytes len value) c.args.bytes.now c.args.from
    c.args.place len ps
    all_is kept_is (length-bytes_low_first 0 len value) c.requires.ascends
