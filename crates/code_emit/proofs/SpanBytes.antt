-- The bytes of a map's spans are bytes of the new code.
use Rattle.std.proofs.Common.{◌≡◌, ℕ, ◌+◌, ◌-◌, ◌<◌, ◌≤◌, List, length, subst, arith}
use Rattle.std.specs.Prelude.{All}
use Rattle.std.proofs.lemmas.List.Elements.{All-contains}
use Rattle.std.proofs.lemmas.List.Sorted.{Contains-permutation, IsPermutation-sym}
use Rattle.rv_code.specs.declared.layout.Form.{Form}
use Rattle.rv_code.specs.declared.placed.Func.{Func}
use Rattle.addr_map.specs.declared.span.Span.{Span}
use Rattle.move_law.specs.Rewrite.{Rewrite}
use Rattle.elf_image.specs.memory.Executables.{AreCodeBytes, IsCodeByte}
use Rattle.rb_bytes.proofs.ListLemmas.{all_of}
use Rattle.branch_fixup.specs.Forms.{new_code_end}
use Rattle.branch_fixup.specs.Strips.{Strip, pieces_of, spans_of}
use Rattle.branch_fixup.proofs.Laid.{inside, laid_above}
use Rattle.code_emit.specs.Inputs.{AreMapped}
use Rattle.code_emit.specs.Output.{Puts}

-- The bytes of spans may be executed and not written.
pub span_bytes : (ss : List Strip) (fs : List Form) (base : ℕ) (lines : List Span) → AreMapped ss fs base lines →
    (funcs : List Func) (bytes : List ℕ) → base + length bytes ≡ new_code_end ss base fs →
    (r : Rewrite) → Puts r funcs lines base bytes → All (λ s. AreCodeBytes r.output s.out s.len) lines
span_bytes ss fs base lines m funcs bytes len r puts =
    all_of (λ (s : Span). AreCodeBytes r.output s.out s.len) lines (λ s c.
    let there = Contains-permutation lines (spans_of ss base fs) s
    (IsPermutation-sym (spans_of ss base fs) lines m.map_is.same) c in
    bytes_of s
    (All-contains (λ (z : Span). base ≤ z.out) (spans_of ss base fs) s (laid_above base (pieces_of ss fs)) there)
    (All-contains (λ (z : Span). z.out + z.len ≤ new_code_end ss base fs) (spans_of ss base fs) s
    (inside base (pieces_of ss fs)) there))
  where
    sum : (b o i : ℕ) → b ≤ o → b + (o - b + i) ≡ o + i
    sum b o i h = omega (arith, h)

    within : (b o l n e i : ℕ) → b ≤ o → o + l ≤ e → b + n ≡ e → i < l → o - b + i < n
    within b o l n e i low high is less = omega (arith, low, high, is, less)

    bytes_of : (s : Span) → base ≤ s.out → s.out + s.len ≤ new_code_end ss base fs → AreCodeBytes r.output s.out s.len
    bytes_of s low high = λ i less.
        subst (IsCodeByte r.output) (sum base s.out i low)
        (puts.has_code.rights (s.out - base + i)
        (within base s.out s.len (length bytes) (new_code_end ss base fs) i low high len less))
