-- In the identity rewrite each code cell holds its own value.
use Rattle.std.proofs.Common.{◌≡◌, ℕ, suc, ◌+◌, ◌*◌, ◌/◌, ◌%◌, ◌^◌, ◌<◌, ◌≤◌, List, [], ◌∷◌, length, Option, Some, None, rules}
use Rattle.std.proofs.Common.{true, refl, sym, ap, ◌∙◌, subst, arith, inl, inr, ◌⊎◌, ℤ, pos, ◌-ℤ◌, get_or, All}
use Rattle.std.specs.Prelude.{IsSomeAnd, option_map, Contains}
use Rattle.std.specs.Int.{int_rem_euclid}
use Rattle.std.proofs.lemmas.Int.{int_rem_euclid_is, ints}
use Rattle.std.proofs.lemmas.List.{get_or_default}
use Rattle.std.proofs.lemmas.List.Elements.{All-head, All-tail}
use Rattle.std.proofs.lemmas.Grind.{common_steps}
use Rattle.rv_code.specs.declared.cell.CodeCell.{CodeCell}
use Rattle.rv_code.specs.declared.cell.CellKind.{CellKind}
use Rattle.rv_code.specs.declared.cell.CellKind.TheVariants as kind
use Rattle.rv_code.specs.layout.ProgramCode.{ProgramCode}
use Rattle.rv_code.specs.machine.Machine.{little}
use Rattle.rv_code.specs.isa.TwosComplement.{unsigned64}
use Rattle.rb_bytes.specs.declared.fault.FaultKind.TheVariants.{RelocMismatch}
use Rattle.elf_image.specs.declared.elf.Elf.{Elf}
use Rattle.elf_code.specs.Cells.{IsField, pointer, slot, difference, IsCell, Counts, Content, Address, Difference}
use Rattle.elf_code.specs.Cells.{SameContent, IsDifference, of_labels, of_place}
use Rattle.elf_code.specs.Fields.{HoldsDifference, bytes_of_bits}
use Rattle.elf_code.specs.LoadedNumbers.{loaded_number}
use Rattle.rv_code.specs.machine.MemoryNumbers.{bytes_in, number_in}
use Rattle.rv_code.specs.layout.FunctionLists.{address_end}
use Rattle.elf_code.specs.Relocations.{Relocation, relocations, Width, Bits}
use Rattle.elf_code.specs.ReferenceFaults.{IsAddress}
use Rattle.elf_code.specs.ReferenceFaults as faults
use Rattle.sym_machine.specs.SymStart.{symbol_of}
use Rattle.move_law.specs.Rewrite.{Rewrite, out}
use Rattle.elf_image.specs.memory.Executables.{Executable, executable_read, memory_of}
use Rattle.move_law.specs.RelocatedValues.{distance, number_of_symbol}
use Rattle.move_law.specs.Laws.{IsAcceptedCode, IsSoundExecutable}
use Rattle.move_law.proofs.code.FittingRoles.{fits, bounded_of, same_pos}
use Rattle.move_law.proofs.code.CellWidths.{field_width, same_address}
use Rattle.elf_code.proofs.Differences.{difference_bits}
use Rattle.elf_code.proofs.Counts.{can_of}
use Rattle.move_law.proofs.files.Executables.{byte_small, accepted_executable}
use Rattle.move_law.proofs.files.Numbers.{bytes_at_is}
use Rattle.rb_bytes.proofs.Tests.{antisym}
use Rattle.rb_bytes.proofs.Stable.{stable_equal}

little_small : (bs : List ℕ) → All (λ b. b < 256) bs → little bs < 256 ^ length bs
unfolding little
little_small [] all = omega arith
little_small (b ∷ bs) all =
    let low = All-head (λ b. b < 256) b bs all in
    let rest = little_small bs (All-tail (λ b. b < 256) b bs all) in
    let p : 256 ^ suc (length bs) ≡ 256 * 256 ^ length bs = grind arith in
    omega (arith, low, rest, p)

pub number_small : (x : Executable) → IsSoundExecutable x → (a n v : ℕ) → number_in (memory_of x) a n ≡ Some v → v < 256 ^ n
number_small x sound a n v e = by (bytes_in (memory_of x) a n) refl e
  where
    by : (o : Option (List ℕ)) → bytes_in (memory_of x) a n ≡ o → option_map little o ≡ Some v → v < 256 ^ n
    by None k l = absurd (cc)
    by (Some bs) k l =
        let at = bytes_at_is (memory_of x) a n bs k in
        let len = at.length_is in
        let same : little bs ≡ v = cc in
        let small : All (λ b. b < 256) bs = λ j d within. let f = byte_small x sound (a + j) (get_or bs j 0)
        (at.each j (omega (arith, len, within))) in let g = get_or_default bs j d 0 within in omega (arith, f, g) in
        let s = little_small bs small in
        rw (sym same, sym len) s

small_mod : (v w : ℕ) → (w ≡ 4) ⊎ (w ≡ 8) → v < 256 ^ w → v ≡ v % 256 ^ w
small_mod v w (inl e) h = grind (arith, common_steps)
small_mod v w (inr e) h = grind (arith, common_steps)

-- a number that holds a difference is this difference, reduced to its width
of_32 : (x to from : ℕ) → x < 2 ^ 32 → to ≤ address_end → from ≤ address_end →
    int_rem_euclid (pos to -ℤ pos from) (pos (2 ^ 32)) ≡ pos (x % 2 ^ 32) → x ≡ unsigned64 (distance to from) % 256 ^ 4
of_32 x to from h k l e = grind (arith, common_steps, antisym, ints, int_rem_euclid_is, same_pos)

of_64 : (x to from : ℕ) → x < 2 ^ 64 → to ≤ address_end → from ≤ address_end →
    int_rem_euclid (pos to -ℤ pos from) (pos (2 ^ 64)) ≡ pos (x % 2 ^ 64) → x ≡ unsigned64 (distance to from) % 256 ^ 8
of_64 x to from h k l e = grind (arith, common_steps, antisym, ints, int_rem_euclid_is, same_pos)

first_same : (z w z' w' : ℤ) → Difference z w ≡ Difference z' w' → z ≡ z'
first_same z w z' w' e = cc

second_same : (z w z' w' : ℤ) → Difference z w ≡ Difference z' w' → w ≡ w'
second_same z w z' w' e = cc

module _ (elf : Elf) (code : ProgramCode) (accepted : IsAcceptedCode elf code) (r : Rewrite) (stays : (a : ℕ) → out r a ≡ a) where
  -- a field that holds an address
  address_holds : (cell : CodeCell) (to to' : ℕ) → (cell.width ≡ 4) ⊎ (cell.width ≡ 8) →
      loaded_number elf cell.addr cell.width ≡ Some to → to ≡ to' →
      loaded_number elf cell.addr cell.width ≡ Some (out r to' % 256 ^ cell.width)
  address_holds cell to to' wide number e =
      number ∙ ap Some
      (small_mod to cell.width wide (number_small (executable_read elf) (accepted_executable elf code accepted)
      cell.addr cell.width to number) ∙ ap (λ (x : ℕ). x % 256 ^ cell.width) (e ∙ sym (stays to')))

  -- a field that holds a difference
  difference_holds : (cell : CodeCell) (q : Relocation) (bits to from : ℕ) (x : ℕ) → (bits ≡ 32) ⊎ (bits ≡ 64) →
      cell.addr ≡ q.place → cell.width ≡ bits / 8 → loaded_number elf cell.addr cell.width ≡ Some x → to ≤ address_end →
      from ≤ address_end →
      ((HoldsDifference elf q (Bits bits) (pos to) (pos from) → ⊥) → ⊥) → x ≡ unsigned64 (distance to from) % 256 ^ cell.width
  difference_holds cell q bits to from x (inl b) at width number low_to low_from holds =
      let w : cell.width ≡ 4 = width ∙ ap (λ (n : ℕ). n / 8) b in
      let number4 : loaded_number elf q.place 4 ≡ Some x = rw (at, w) at number in
      let small : x < 2 ^ 32 = number_small (executable_read elf) (accepted_executable elf code accepted) q.place 4 x number4 in
      stable_equal x (unsigned64 (distance to from) % 256 ^ cell.width) (λ n. holds (λ h.
      let h' : HoldsDifference elf q (Bits 32) (pos to) (pos from) =
      subst (λ (b : ℕ). HoldsDifference elf q (Bits b) (pos to) (pos from)) b h in
      let e : int_rem_euclid (pos to -ℤ pos from) (pos (2 ^ 32)) ≡ pos (x % 2 ^ 32) =
      subst (λ (o : Option ℕ). IsSomeAnd o (λ x. int_rem_euclid (pos to -ℤ pos from) (pos (2 ^ 32)) ≡ pos (x % 2 ^ 32)))
      number4 h' in
      n (of_32 x to from small low_to low_from e ∙ ap (λ (w : ℕ). unsigned64 (distance to from) % 256 ^ w) (sym w))))
  difference_holds cell q bits to from x (inr b) at width number low_to low_from holds =
      let w : cell.width ≡ 8 = width ∙ ap (λ (n : ℕ). n / 8) b in
      let number8 : loaded_number elf q.place 8 ≡ Some x = rw (at, w) at number in
      let small : x < 2 ^ 64 = number_small (executable_read elf) (accepted_executable elf code accepted) q.place 8 x number8 in
      stable_equal x (unsigned64 (distance to from) % 256 ^ cell.width) (λ n. holds (λ h.
      let h' : HoldsDifference elf q (Bits 64) (pos to) (pos from) =
      subst (λ (b : ℕ). HoldsDifference elf q (Bits b) (pos to) (pos from)) b h in
      let e : int_rem_euclid (pos to -ℤ pos from) (pos (2 ^ 64)) ≡ pos (x % 2 ^ 64) =
      subst (λ (o : Option ℕ). IsSomeAnd o (λ x. int_rem_euclid (pos to -ℤ pos from) (pos (2 ^ 64)) ≡ pos (x % 2 ^ 64)))
      number8 h' in
      n (of_64 x to from small low_to low_from e ∙ ap (λ (w : ℕ). unsigned64 (distance to from) % 256 ^ w) (sym w))))

  some_number : (cell : CodeCell) (q : Relocation) (bits : ℕ) (z w : ℤ) → (bits ≡ 32) ⊎ (bits ≡ 64) → cell.addr ≡ q.place →
      cell.width ≡ bits / 8 → ((HoldsDifference elf q (Bits bits) z w → ⊥) → ⊥) →
      (x : ℕ) × (loaded_number elf cell.addr cell.width ≡ Some x)
  some_number cell q bits z w is at width holds = by (loaded_number elf cell.addr cell.width) refl
    where
      size : (bits ≡ 32) ⊎ (bits ≡ 64) → bytes_of_bits bits ≡ cell.width
      size (inl b) = rw (width, b) refl
      size (inr b) = rw (width, b) refl

      by : (o : Option ℕ) → loaded_number elf cell.addr cell.width ≡ o →
          (x : ℕ) × (loaded_number elf cell.addr cell.width ≡ Some x)
      by (Some x) e = (x, e)
      by None e = search rules

  pub cell_holds : (cell : CodeCell) → IsCell elf accepted.tabled cell →
      loaded_number elf cell.addr cell.width ≡ Some (number_of_symbol r (symbol_of cell.kind) % 256 ^ cell.width)
  cell_holds cell c =
      by cell.kind refl c.content refl (can_of c.counted).is_field (subst (λ (k : CellKind). SameContent c.content k) refl
      c.same)
    where
      counted_of : {q : Relocation} {width : Width} {z w : ℤ} → IsDifference elf q width z w → Contains (relocations elf) q
      counted_of (of_labels only minus other to_is from_is) = only.listed
      counted_of (of_place counted is_pc width_is to_is from_is) = counted

      wide : (cell.width ≡ 4) ⊎ (cell.width ≡ 8)
      wide = field_width elf accepted.tabled (record { place = cell.addr; width = cell.width; content = c.content })
          (can_of c.counted).is_field

      at_kind : (k : CellKind) → cell.kind ≡ k →
          loaded_number elf cell.addr cell.width ≡ Some (number_of_symbol r (symbol_of k) % 256 ^ cell.width) →
          loaded_number elf cell.addr cell.width ≡ Some (number_of_symbol r (symbol_of cell.kind) % 256 ^ cell.width)
      at_kind k e h = search rules

      by : (k : CellKind) → cell.kind ≡ k → (content : Content) → c.content ≡ content →
          IsField elf accepted.tabled (record { place = cell.addr; width = cell.width; content = c.content }) →
          SameContent content k →
          loaded_number elf cell.addr cell.width ≡ Some (number_of_symbol r (symbol_of cell.kind) % 256 ^ cell.width)
      by (kind.Abs to') e (Address b) d (pointer q counted address place width to number start content) s =
          at_kind (kind.Abs to') e (address_holds cell to to' wide number (same_address to b (sym content ∙ d) ∙ s))
      by (kind.Abs to') e (Address b) d (slot q field_kind upper width to number label start content) s =
          at_kind (kind.Abs to') e (address_holds cell to to' wide (rw (sym width) at number)
          (same_address to b (sym content ∙ d) ∙ s))
      by (kind.Abs to') e (Address b) d (difference q bits z w is can code' whole place width content) s =
          absurd (let t : Difference z w ≡ Address b = sym content ∙ d in cc)
      by (kind.Abs to') e (Difference z w) d f s = absurd s
      by (kind.Diff to from) e (Address b) d f s = absurd s
      by (kind.Diff to from) e (Difference z w) d (pointer q counted address place width to2 number start content) s =
          absurd (let t : Address to2 ≡ Difference z w = sym content ∙ d in cc)
      by (kind.Diff to from) e (Difference z w) d (slot q field_kind upper width to2 number label start content) s =
          absurd (let t : Address to2 ≡ Difference z w = sym content ∙ d in cc)
      by (kind.Diff to from) e (Difference z w) d (difference q bits z' w' is can code' whole place width content) s =
          let t : Difference z' w' ≡ Difference z w = sym content ∙ d in
          let tz : z' ≡ pos to = first_same z' w' z w t ∙ s.0 in
          let tw : w' ≡ pos from = second_same z' w' z w t ∙ s.1 in
          let wrong : (HoldsDifference elf q (Bits bits) z' w' → ⊥) → ⊥ = λ n.
          fits elf accepted.tabled code accepted.code_is accepted.no_fault q (counted_of is)
          (faults.IsMisfit.difference (faults.IsBadDifference.number (Bits bits) z' w' is n)) in
          let holds : (HoldsDifference elf q (Bits bits) (pos to) (pos from) → ⊥) → ⊥ =
          subst (λ (w : ℤ). (HoldsDifference elf q (Bits bits) (pos to) w → ⊥) → ⊥) tw
          (subst (λ (z : ℤ). (HoldsDifference elf q (Bits bits) z w' → ⊥) → ⊥) tz wrong) in
          let counted : Counts elf accepted.tabled (record {
            place = cell.addr;
            width = cell.width;
            content = Difference z w;
          }) true =
          subst (λ (x : Content). Counts elf accepted.tabled
          (record { place = cell.addr; width = cell.width; content = x }) true) d c.counted in
          let labels : (IsAddress z × IsAddress w → ⊥) → ⊥ = λ n.
          accepted.no_fault RelocMismatch cell.addr
          (inl (inr (record { width = cell.width; to = z; from = w; counted = counted; unfit = n }))) in
          let b : (bits ≡ 32) ⊎ (bits ≡ 64) = difference_bits elf q bits z' w' is can in
          let x = some_number cell q bits (pos to) (pos from) b place width holds in
          at_kind (kind.Diff to from) e (x.1 ∙ ap Some (difference_holds cell q bits to from x.0 b place width x.1
          (bounded_of to (λ n. labels (λ a. n (subst IsAddress s.0 a.0))))
          (bounded_of from (λ n. labels (λ a. n (subst IsAddress s.1 a.1)))) holds
          ∙ ap (λ (v : ℕ). v % 256 ^ cell.width)
          (sym (ap unsigned64 (ap (λ (x : ℕ). distance x (out r from)) (stays to)
          ∙ ap (λ (x : ℕ). distance to x) (stays from))))))
