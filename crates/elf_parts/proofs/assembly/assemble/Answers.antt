use Rattle.std.proofs.Common.{◌≡◌, ◌∙◌, sym, ap, ℕ, List, ◌∷◌, ◌++◌, length, take, drop}
use Rattle.std.specs.Prelude.{map}
use Rattle.std.proofs.Math.Seq.{take-append_seam}
use Rattle.elf_parts.specs.Numbers.{patch_of}
use Rattle.elf_parts.specs.Patches.{put_all}
use Rattle.elf_parts.proofs.assembly.assemble.Goals as goal

pub returns : goal.returns
returns c =
    let file : List ℕ = c.put_patches.new.file in
    let before : c.deref_mut.result.now ≡ c.in_ok-out.out.items ++ c.args.tail.now =
    c.deref_mut.ensures.value ∙ c.in_ok-extend_from_slice.ensures.items in
    let same_length : c.extend_from_slice.new.self.len ≡ length file =
    sym c.deref_mut.ensures.len ∙ sym c.put_patches.auto.file in
    let whole : take c.extend_from_slice.new.self.len (file ++ drop (length file) c.extend_from_slice.new.self.items) ≡ file =
    ap (λ (n : ℕ). take n (file ++ drop (length file) c.extend_from_slice.new.self.items)) same_length
    ∙ take-append_seam file _ in
    record {
      base = c.in_ok-out.out.items;
      joined = c.in_ok-out.ensures;
      is = whole ∙ c.put_patches.ensures ∙ ap (λ (xs : List ℕ). put_all (put_all xs (map patch_of c.args.cells.now))
          (record { offset = c.args.table_at; bytes = c.args.table.now } ∷ map patch_of c.args.fields.now)) before;
    }
