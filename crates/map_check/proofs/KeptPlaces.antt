-- Bytes that a rewrite keeps, by the segments that load them.
use Rattle.std.proofs.Common.{◌≡◌, ◌≢◌, ◌<◌, ◌≤◌, ◌+◌, ◌-◌, ◌∙◌, ℕ, Bool, true, false, List, refl, ap, sym, subst, cond, arith, ⊎_elim, ◌↔◌}
use Rattle.std.proofs.Common.{Option, Some, None, IsSome, IsTrue, IsFalse, unwrap_or, option_map, rules}
use Rattle.std.specs.Prelude.{◌||◌}
use Rattle.std.specs.List.{list_any, Contains}
use Rattle.std.proofs.Common.{length, get_or, max, ◌^◌}
use Rattle.rv_code.specs.declared.cell.CodeCell.{CodeCell}
use Rattle.elf_image.specs.memory.LoadedBytes.{is_in_range, address_of}
use Rattle.elf_image.specs.memory.HiddenFields.{e_entry_field, is_hidden_field}
use Rattle.sym_machine.specs.SymStart.{code_cell_range}
use Rattle.std.specs.List.{slice_index}
use Rattle.std.specs.Option.{option_map_or}
use Rattle.std.proofs.lemmas.Bool.{cases_lt, cases_Bool, le-ltb}
use Rattle.elf_image.specs.declared.elf.Elf.{Elf}
use Rattle.elf_image.specs.declared.segment.Segment.{Segment}
use Rattle.elf_image.specs.declared.segment.TheConstants.{PF_R, PF_W, PF_X}
use Rattle.elf_image.specs.memory.Image.{segment_of, byte_of, has_flag, has_memory, is_load, is_loaded_with, loads_address, end_of}
use Rattle.elf_image.specs.memory.LoadedBytes.{byte_at}
use Rattle.elf_image.proofs.LoadLemmas.{same_segment, loads-parts, loads-from_parts, loads_last, has_memory-from_loads}
use Rattle.rb_bytes.proofs.Searches.{find-found}
use Rattle.elf_image.specs.faults.LowestPlace.{IsLowest, SomeBelow}
use Rattle.elf_image.proofs.LowestPlaces.{IsLowest-same, IsLowest-none}
use Rattle.std.proofs.lemmas.List.{get_or_default}
use Rattle.code_starts.specs.LoadedMemory.{AreBytesFrom, IsLow}
use Rattle.map_check.proofs.LowFiles.{loaded_low}
use Rattle.move_law.specs.Rewrite.{Rewrite}
use Rattle.elf_image.specs.memory.Executables.{memory_of}
use Rattle.move_law.specs.FaithfulRewrite.{may_change}
use Rattle.map_check.specs.FirstFalse.{IsKept}
use Rattle.map_check.specs.internal.KeptBytes.{AreBytesOf, SameFlags, IsFirstIn, IsChangedIn, ChangedAt, in_entry}

module _ (r : Rewrite) (input output : Elf) (of : AreBytesOf r input output) where
  byte_in : (a : ℕ) → byte_at r.input a ≡ byte_at input a
  byte_in a = ap (λ (e : Elf). byte_at e a) of.input_is

  byte_out : (a : ℕ) → memory_of r.output a ≡ byte_at output a
  byte_out a = ap (λ x. memory_of x a) of.output_is

  right_in : (flag a : ℕ) → is_loaded_with flag r.input.segments.items a ≡ is_loaded_with flag input.segments.items a
  right_in flag a = ap (λ (e : Elf). is_loaded_with flag e.segments.items a) of.input_is

  right_out : (flag a : ℕ) → is_loaded_with flag r.output.segments a ≡ is_loaded_with flag output.segments.items a
  right_out flag a = ap (λ x. is_loaded_with flag x.segments a) of.output_is

  pub not_loaded : (a : ℕ) → segment_of input.segments.items a ≡ None → IsTrue true ↔ IsKept r a
  not_loaded a none = (
    (λ _ byte is. absurd (let never : None ≡ Some byte = sym (ap (option_map (byte_of input.file.now a)) none) ∙ sym (byte_in a) ∙ is in
        cc)),
    λ _. refl,
  )

  module _ (a : ℕ) (from : Segment) (here : segment_of input.segments.items a ≡ Some from) where
    loaded : byte_at r.input a ≡ Some (byte_of input.file.now a from)
    loaded = byte_in a ∙ ap (option_map (byte_of input.file.now a)) here

    pub not_there : segment_of output.segments.items a ≡ None → IsTrue false ↔ IsKept r a
    not_there none = (
      (λ is. absurd (let never : false ≡ true = is in cc)),
      λ kept. absurd (gone (memory_of r.output a) (byte_out a ∙ ap (option_map (byte_of output.file.now a)) none)
          (kept (byte_of input.file.now a from) loaded).is_loaded),
    )
      where
        gone : (o : Option ℕ) → o ≡ None → IsSome o → ⊥
        gone None none is = let never : false ≡ true = is in cc
        gone (Some b) none is = cc

    module _ (to : Segment) (there : segment_of output.segments.items a ≡ Some to) where
      flag_of : (flag : ℕ) → is_loaded_with flag r.input.segments.items a ≡ is_loaded_with flag r.output.segments a →
          has_flag flag from ≡ has_flag flag to
      flag_of flag e =
          sym (right_in flag a ∙ ap (λ o. option_map_or (has_flag flag) o false) here) ∙ e
          ∙ (right_out flag a ∙ ap (λ o. option_map_or (has_flag flag) o false) there)

      of_flag : (flag : ℕ) → has_flag flag from ≡ has_flag flag to →
          is_loaded_with flag r.input.segments.items a ≡ is_loaded_with flag r.output.segments a
      of_flag flag e =
          (right_in flag a ∙ ap (λ o. option_map_or (has_flag flag) o false) here) ∙ e
          ∙ sym (right_out flag a ∙ ap (λ o. option_map_or (has_flag flag) o false) there)

      pub flags_kept : IsKept r a → SameFlags from to
      flags_kept kept =
          let k = kept (byte_of input.file.now a from) loaded in
          (flag_of PF_R k.rights.reads, flag_of PF_W k.rights.writes, flag_of PF_X k.rights.executes)

      pub other_flags : (SameFlags from to → ⊥) → IsTrue false ↔ IsKept r a
      other_flags other = ((λ is. absurd (let never : false ≡ true = is in cc)), λ kept. absurd (other (flags_kept kept)))

      stored : memory_of r.output a ≡ Some (byte_of output.file.now a to)
      stored = byte_out a ∙ ap (option_map (byte_of output.file.now a)) there

      kept_where : SameFlags from to → (IsFalse (may_change r a) → byte_of output.file.now a to ≡ byte_of input.file.now a from) →
          IsKept r a
      kept_where flags equal byte is =
          let both : Some (byte_of input.file.now a from) ≡ Some byte = sym loaded ∙ is in let value : byte_of input.file.now a from ≡ byte
          = cc in record {
            is_loaded = subst (λ o. IsSome o) (sym stored) (search rules);
            rights = record { reads = of_flag PF_R flags.0; writes = of_flag PF_W flags.1; executes = of_flag PF_X flags.2 };
            same = λ fixed. stored ∙ ap Some (equal fixed ∙ value);
          }

      pub equal_bytes : (x y : ℕ) → SameFlags from to → x ≡ unwrap_or (byte_at input a) 0 → y ≡ unwrap_or (byte_at output a) 0 → x ≡ y →
          IsTrue true ↔ IsKept r a
      equal_bytes x y flags before after equal = (
        (λ _. kept_where flags (λ _. value_out ∙ sym after ∙ sym equal ∙ before ∙ value_in)),
        λ _. refl,
      )
        where
          value_in : unwrap_or (byte_at input a) 0 ≡ byte_of input.file.now a from
          value_in = ap (λ (o : Option ℕ). unwrap_or o 0) (ap (option_map (byte_of input.file.now a)) here)

          value_out : byte_of output.file.now a to ≡ unwrap_or (byte_at output a) 0
          value_out = sym (ap (λ (o : Option ℕ). unwrap_or o 0) (ap (option_map (byte_of output.file.now a)) there))

      pub other_bytes : (x y : ℕ) (b : Bool) → SameFlags from to → x ≡ unwrap_or (byte_at input a) 0 → y ≡ unwrap_or (byte_at output a) 0 →
          x ≢ y → b ≡ may_change r a → IsTrue b ↔ IsKept r a
      other_bytes x y b flags before after differ is = (
        (λ yes_it. kept_where flags (λ fixed. absurd (let never : true ≡ false = sym yes_it ∙ is ∙ fixed in cc))),
        λ kept. ⊎_elim (λ (t : b ≡ true). t)
            (λ (f : b ≡ false).
            let k = kept (byte_of input.file.now a from) loaded in
            let e : Some (byte_of output.file.now a to) ≡ Some (byte_of input.file.now a from) = sym stored ∙ k.same (sym is ∙ f) in
            let v : byte_of output.file.now a to ≡ byte_of input.file.now a from = cc in
            absurd (differ (before ∙ ap (λ (o : Option ℕ). unwrap_or o 0) (ap (option_map (byte_of input.file.now a)) here) ∙ sym v
            ∙ sym (ap (λ (o : Option ℕ). unwrap_or o 0) (ap (option_map (byte_of output.file.now a)) there)) ∙ sym after)))
            (cases_Bool b),
      )

  -- if the byte at one address is kept, so is an equal byte at another address of the same segments
  pub same_kept : (a : ℕ) (from to : Segment) → segment_of input.segments.items a ≡ Some from →
      segment_of output.segments.items a ≡ Some to → IsTrue (loads_address a from) → IsTrue (loads_address a to) → IsKept r a →
      (q : ℕ) → a ≤ q → q < end_of from → q < end_of to →
      unwrap_or (byte_at input q) 0 ≡ unwrap_or (byte_at output q) 0 → IsKept r q
  same_kept a from to here there loads_in loads_out kept q above below_in below_out same =
      let flags = flags_kept a from here to there kept in
      let in_parts = loads-parts a from loads_in in
      let out_parts = loads-parts a to loads_out in
      let low_in : from.vaddr ≤ q = omega (arith, in_parts.1) in
      let low_out : to.vaddr ≤ q = omega (arith, out_parts.1) in
      let here_q = same_segment input a q from here (loads-from_parts q from in_parts.0 low_in below_in) in
      let there_q = same_segment output a q to there (loads-from_parts q to out_parts.0 low_out below_out) in
      (equal_bytes q from here_q to there_q _ _ flags refl refl same).0 refl

  zero_past : (elf : Elf) (a q : ℕ) (p : Segment) → segment_of elf.segments.items a ≡ Some p → IsTrue (loads_address a p) →
      p.filesz ≤ a - p.vaddr → a ≤ q → q < end_of p → unwrap_or (byte_at elf q) 0 ≡ 0
  zero_past elf a q p here loads past above below =
      let parts = loads-parts a p loads in
      let low : p.vaddr ≤ q = omega (arith, parts.1) in
      let more : p.filesz ≤ q - p.vaddr = omega (arith, parts.1) in
      let here_q = same_segment elf a q p here (loads-from_parts q p parts.0 low below) in
      ap (λ (o : Option Segment). unwrap_or (option_map (byte_of elf.file.now q) o) 0) here_q
      ∙ ap (λ t. cond t (slice_index elf.file.now (p.offset + (q - p.vaddr))) 0) (le-ltb (q - p.vaddr) p.filesz more)

  pub zeros_kept : (a : ℕ) (from to : Segment) → segment_of input.segments.items a ≡ Some from →
      segment_of output.segments.items a ≡ Some to → IsTrue (loads_address a from) → IsTrue (loads_address a to) →
      from.filesz ≤ a - from.vaddr → to.filesz ≤ a - to.vaddr →
      IsKept r a → (q : ℕ) → a ≤ q → q < end_of from → q < end_of to → IsKept r q
  zeros_kept a from to here there loads_in loads_out past_in past_out kept q above below_in below_out =
      same_kept a from to here there loads_in loads_out kept q above below_in below_out
      (zero_past input a q from here loads_in past_in above below_in
      ∙ sym (zero_past output a q to there loads_out past_out above below_out))

  -- bytes that are equal in both files are kept
  pub bytes_kept : (a n : ℕ) (from to : Segment) (xs ys : List ℕ) → segment_of input.segments.items a ≡ Some from →
      segment_of output.segments.items a ≡ Some to → IsTrue (loads_address a from) → IsTrue (loads_address a to) →
      AreBytesFrom input a xs → AreBytesFrom output a ys → n ≤ length xs → n ≤ length ys →
      ((i : ℕ) → i < n → slice_index xs i ≡ slice_index ys i) →
      IsKept r a → (q : ℕ) → a ≤ q → q < a + max n 1 → q < end_of from → q < end_of to → IsKept r q
  bytes_kept a n from to xs ys here there loads_in loads_out left right in_left in_right same kept q above below below_in below_out =
      ⊎_elim
      (λ (inside : q < a + n).
      let at : a + (q - a) ≡ q = omega arith in
      let less : q - a < n = omega arith in
      same_kept a from to here there loads_in loads_out kept q above below_in below_out
      (ap (λ (o : Option ℕ). unwrap_or o 0) (sym (ap (byte_at input) at) ∙ left (q - a) (omega (arith, less, in_left)))
      ∙ same (q - a) less
      ∙ sym (ap (λ (o : Option ℕ). unwrap_or o 0) (sym (ap (byte_at output) at) ∙ right (q - a) (omega (arith, less, in_right))))))
      (λ (past : a + n ≤ q). let same_q : a ≡ q = omega arith in subst (IsKept r) same_q kept)
      (cases_lt q (a + n))

pub one_more : (Holds : ℕ → Type 0) (a q : ℕ) → Holds a → a ≤ q → q < a + 1 → Holds q
one_more Holds a q here above below = let same : a ≡ q = omega arith in subst Holds same here

pub change_is : (r : Rewrite) (input : Elf) (a : ℕ) (cells : List CodeCell) (entry : Option ℕ) (x y z b : Bool) →
    r.input ≡ input → r.code.cells ≡ cells → entry ≡ address_of r.input e_entry_field →
    x ≡ list_any (λ cell. is_in_range a (code_cell_range cell)) cells → y ≡ in_entry entry a →
    z ≡ is_hidden_field input r.tight a → b ≡ (x || y || z) → b ≡ may_change r a
change_is r input a cells entry x y z b of same field one two three is =
    is
    ∙ (λ i. (one ∙ ap (λ l. list_any (λ cell. is_in_range a (code_cell_range cell)) l) (sym same)) i
    || (two ∙ ap (λ (o : Option ℕ). in_entry o a) field) i
    || (three ∙ ap (λ (e : Elf). is_hidden_field e r.tight a) (sym of)) i)

-- All segments.

no_segment : Segment
no_segment = record { kind = 0; flags = 0; offset = 0; vaddr = 0; paddr = 0; filesz = 0; memsz = 0; align = 0 }

pub segment_low : (elf : Elf) (p : Segment) → IsLow elf → Contains elf.segments.items p → has_memory p ≡ true →
    end_of p ≤ 2 ^ 63
segment_low elf p low here has =
    let last = loaded_low elf (end_of p - 1) p low here (loads_last p has) in omega (arith, last)

pub no_memory : (r : Rewrite) (p : Segment) → has_memory p ≡ false → IsLowest (IsChangedIn r p) None
no_memory r p none = IsLowest-none (λ a changed.
    let never : false ≡ true = sym none ∙ has_memory-from_loads a p changed.0 in cc)

pub first_lowest : (r : Rewrite) (p : Segment) (start end : ℕ) (o : Option ℕ) → start ≡ p.vaddr → end ≡ end_of p → IsTrue (is_load p) →
    IsFirstIn (IsKept r) start end o → IsLowest (IsChangedIn r p) o
first_lowest r p start end None from to load all = IsLowest-none (λ a changed.
    let parts = loads-parts a p changed.0 in
    let above : start ≤ a = omega (arith, from, parts.1) in
    let below : a < end = omega (arith, to, parts.2) in
    changed.1 (all a above below))
first_lowest r p start end (Some l) from to load first =
    let above : start ≤ l = first.0 in
    let below : l < end = first.1 in record {
      present = (loads-from_parts l p load (omega (arith, above, from)) (omega (arith, below, to)), first.2);
      least = λ a changed.
          let parts = loads-parts a p changed.0 in
          let low : start ≤ a = omega (arith, from, parts.1) in
          ⊎_elim
          (λ (less : a < l). absurd (changed.1 (first.3 a low less)))
          (λ (le : l ≤ a). le)
          (cases_lt a l);
    }

module _ (r : Rewrite) (segments : List Segment) where
  pub changed_here : (k : ℕ) (d : Segment) (o : Option ℕ) → k < length segments → IsLowest (IsChangedIn r (get_or segments k d)) o →
      IsLowest (ChangedAt r segments k) o
  changed_here k d o within is = IsLowest-same o
      (λ a here e. subst (λ (p : Segment). IsChangedIn r p a) (get_or_default segments k d e within) here) (λ a here. here d) is

pub changed_all : (r : Rewrite) (input output : Elf) → AreBytesOf r input output → (n : ℕ) (o : Option ℕ) →
    n ≡ length input.segments.items →
    IsLowest (SomeBelow n (ChangedAt r input.segments.items)) o → IsLowest (λ a. IsKept r a → ⊥) o
changed_all r input output of n o all is = IsLowest-same o (λ a some. (some.2 no_segment).1) from is
  where
    from : (a : ℕ) → (IsKept r a → ⊥) → SomeBelow n (ChangedAt r input.segments.items) a
    from a changed = by (segment_of input.segments.items a) refl
      where
        by : (s : Option Segment) → segment_of input.segments.items a ≡ s → SomeBelow n (ChangedAt r input.segments.items) a
        by None none = absurd (changed ((not_loaded r input output of a none).0 refl))
        by (Some p) found =
            let f = find-found (loads_address a) input.segments.items p found in
            let within : (f.1).0 < length input.segments.items = (f.1).1 in (
              (f.1).0,
              omega (arith, within, all),
              λ d. subst (λ (q : Segment). IsChangedIn r q a)
                  (sym (get_or_default input.segments.items (f.1).0 d p within ∙ (f.1).2)) (f.0, changed),
            )
