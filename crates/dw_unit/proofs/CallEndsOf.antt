-- The ends of calls that a map moved, computed from the file and the map.
use Rattle.std.proofs.Common.{◌≡◌, ◌∙◌, ◌+◌, ◌-◌, ◌%◌, ◌^◌, ℕ, Bool, true, false, List, Option, Some, None, refl, ap, sym, arith}
use Rattle.std.proofs.Common.{option_map}
use Rattle.std.specs.Prelude.{◌==◌, Contains}
use Rattle.std.specs.List.{find}
use Rattle.std.specs.Option.{option_map_or}
use Rattle.std.proofs.lemmas.Bool.{eqb-true, eq-eqb}
use Rattle.std.proofs.lemmas.Option.{same_Some}
use Rattle.rb_bytes.proofs.Searches.{find-finds, find-found}
use Rattle.elf_image.specs.declared.elf.Elf.{Elf}
use Rattle.elf_code.specs.Parts.{halfword_at}
use Rattle.addr_map.specs.declared.span.Span.{Span}
use Rattle.dw_unit.specs.Tables.{IsCallEnd}
use Rattle.dw_unit.proofs.CallBits.{IsCall, call_bytes, call_passes, passes_call}

abbrev call_at : Elf → ℕ → Option ℕ
call_at elf a = call_bytes (halfword_at elf a) (halfword_at elf (a + 2))

-- A span's instruction is a call that ends at an address.
abbrev ends_at : Elf → ℕ → Span → Bool
ends_at elf a s = option_map_or (λ n. s.input + n == a) (call_at elf s.input) false

abbrev moved_end : ℕ → Span → ℕ
moved_end a s = (s.out + (a - s.input)) % 2 ^ 64

-- The end of the moved call that ended at an address.
abbrev pub call_end_of : Elf → List Span → ℕ → Option ℕ
call_end_of elf spans a = option_map (moved_end a) (find (ends_at elf a) spans)

module _ (elf : Elf) (spans : List Span) where
  is_end : (from to : ℕ) (s : Span) → Contains spans s → ends_at elf from s ≡ true → moved_end from s ≡ to → IsCallEnd elf spans from to
  is_end from to s listed t moves = by (call_at elf s.input) refl t where
    by : (o : Option ℕ) → call_at elf s.input ≡ o → option_map_or (λ n. s.input + n == from) o false ≡ true → IsCallEnd elf spans from to
    by None is f = absurd (cc)
    by (Some n) is f =
        let call : IsCall (halfword_at elf s.input) (halfword_at elf (s.input + 2)) n =
        passes_call (halfword_at elf s.input) (halfword_at elf (s.input + 2)) n is in
        let ends = eqb-true (s.input + n) from f in
        record {
          span = s;
          listed = listed;
          inst = call.inst;
          bytes = n;
          there = call.is;
          calls = call.calls;
          from_is = sym ends;
          to_is = sym moves ∙ ap (λ (k : ℕ). (s.out + k) % 2 ^ 64) (omega (arith, ends));
        }

  pub call_end_is : (from to : ℕ) → call_end_of elf spans from ≡ Some to → IsCallEnd elf spans from to
  call_end_is from to e = by (find (ends_at elf from) spans) refl e where
    by : (o : Option Span) → find (ends_at elf from) spans ≡ o → option_map (moved_end from) o ≡ Some to → IsCallEnd elf spans from to
    by None is f = absurd (cc)
    by (Some s) is f =
        let found = find-found (ends_at elf from) spans s is in
        is_end from to s found.1 found.0 (same_Some (moved_end from s) to f)

  pub no_call_end : (from to : ℕ) → call_end_of elf spans from ≡ None → IsCallEnd elf spans from to → ⊥
  no_call_end from to e c =
      let is : call_at elf c.span.input ≡ Some c.bytes =
      call_passes (halfword_at elf c.span.input) (halfword_at elf (c.span.input + 2)) c.bytes
      (record { inst = c.inst; is = c.there; calls = c.calls }) in
      let passes : ends_at elf from c.span ≡ true =
      ap (λ (o : Option ℕ). option_map_or (λ n. c.span.input + n == from) o false) is ∙ eq-eqb (c.span.input + c.bytes) from (sym c.from_is) in
      let found = find-finds (ends_at elf from) spans c.span c.listed passes in
      let both : None ≡ Some (moved_end from found.0) = sym e ∙ ap (option_map (moved_end from)) found.1 in
      absurd (cc)
