-- The place at which a file exceeds the first of its limits.
use Rattle.std.proofs.Common.{◌≡◌, ◌∙◌, refl, ℕ, ◌<◌, ◌≤◌, List, arith, length, ap}
use Rattle.rb_bytes.specs.Fault.{fault_at}
use Rattle.rb_bytes.specs.declared.fault.Fault.{Fault}
use Rattle.rb_bytes.specs.declared.fault.FaultKind.TheVariants.{TooLarge}
use Rattle.rb_bytes.specs.declared.fault.Refusal.{Refusal}
use Rattle.rb_bytes.specs.declared.fault.Refusal.TheVariants as refusal
use Rattle.rv_code.specs.declared.placed.Func.{Func}
use Rattle.elf_image.specs.declared.elf.Elf.{Elf}
use Rattle.elf_image.specs.declared.segment.Segment.{Segment}
use Rattle.elf_image.specs.file.Header.{e_phnum, e_shnum}
use Rattle.elf_image.specs.file.ParsedFile.{IsElfOf}
use Rattle.elf_image.proofs.ReadLists.{length-segments_of}
use Rattle.answer_runs.specs.Weights.{weight_limit}
use Rattle.elf_write.specs.NameWeight.{name_weight}
use Rattle.program.specs.Limits.{IsCodeTooLarge, IsLimitFault, many_functions, much_code}
use Rattle.program.specs.Refusals.{IsRefusalFor}
use Rattle.bolt_core.specs.Limits.{IsTooLarge, header_limit, large_code, long_names, many_sections, many_segments}

pub segment_count : (elf : Elf) → IsElfOf elf.file.now elf → length elf.segments.items ≡ e_phnum elf.file.now
segment_count elf is = ap (λ (ps : List Segment). length ps) is.segments ∙ length-segments_of elf.file.now

code_place : (file : List ℕ) (funcs : List Func) (place : ℕ) → IsCodeTooLarge file funcs place → place ≤ 3
code_place file funcs place (much_code e much) = omega (arith, e)
code_place file funcs place (many_functions e many) = omega (arith, e)

module _ (elf : Elf) (funcs : List Func) (cold : List ℕ) where
  -- the limits on code come before the others
  module _ (low : ℕ) (present : IsCodeTooLarge elf.file.now funcs low)
      (least : (place : ℕ) → IsCodeTooLarge elf.file.now funcs place → low ≤ place) where
    from_code : (place : ℕ) → IsTooLarge elf funcs cold place → low ≤ place
    from_code place (large_code large) = least place large
    from_code place (many_sections e many) =
        let upto = code_place elf.file.now funcs low present in omega (arith, e, upto)
    from_code place (many_segments e many) =
        let upto = code_place elf.file.now funcs low present in omega (arith, e, upto)
    from_code place (long_names e long) =
        let upto = code_place elf.file.now funcs low present in omega (arith, e, upto)

  pub at_code : (r : Refusal) → IsRefusalFor (IsLimitFault (IsCodeTooLarge elf.file.now funcs)) r →
      IsRefusalFor (IsLimitFault (IsTooLarge elf funcs cold)) r
  at_code (refusal.Fault fault) is = record {
    place = is.place;
    first = record {
      present = large_code (is.first).present;
      least = from_code is.place (is.first).present (is.first).least;
    };
    fault_is = is.fault_is;
  }
  at_code refusal.Memory is = tt

  module _ (little : (place : ℕ) → IsCodeTooLarge elf.file.now funcs place → ⊥) where
    from_headers : (place : ℕ) → IsTooLarge elf funcs cold place → 5 ≤ place
    from_headers place (large_code large) = absurd (little place large)
    from_headers place (many_sections e many) = omega (arith, e)
    from_headers place (many_segments e many) = omega (arith, e)
    from_headers place (long_names e long) = omega (arith, e)

    pub at_sections : header_limit < e_shnum elf.file.now → (fault : Fault) → fault ≡ fault_at TooLarge 5 →
        IsLimitFault (IsTooLarge elf funcs cold) fault
    at_sections many fault is =
        record { place = 5; first = record { present = many_sections refl many; least = from_headers }; fault_is = is }

    pub at_segments : header_limit < e_phnum elf.file.now → (fault : Fault) → fault ≡ fault_at TooLarge 5 →
        IsLimitFault (IsTooLarge elf funcs cold) fault
    at_segments many fault is =
        record { place = 5; first = record { present = many_segments refl many; least = from_headers }; fault_is = is }

    module _ (sections : e_shnum elf.file.now ≤ header_limit) (segments : e_phnum elf.file.now ≤ header_limit) where
      from_names : (place : ℕ) → IsTooLarge elf funcs cold place → 6 ≤ place
      from_names place (large_code large) = absurd (little place large)
      from_names place (many_sections e many) = absurd (omega (arith, sections, many))
      from_names place (many_segments e many) = absurd (omega (arith, segments, many))
      from_names place (long_names e long) = omega (arith, e)

      pub at_names : weight_limit < name_weight elf funcs cold → (fault : Fault) → fault ≡ fault_at TooLarge 6 →
          IsLimitFault (IsTooLarge elf funcs cold) fault
      at_names long fault is =
          record { place = 6; first = record { present = long_names refl long; least = from_names }; fault_is = is }

      pub within : name_weight elf funcs cold ≤ weight_limit → (place : ℕ) → IsTooLarge elf funcs cold place → ⊥
      within short place (large_code large) = little place large
      within short place (many_sections e many) = absurd (omega (arith, sections, many))
      within short place (many_segments e many) = absurd (omega (arith, segments, many))
      within short place (long_names e long) = absurd (omega (arith, short, long))
