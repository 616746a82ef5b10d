-- Misfits of relocations don't depend on the reading.
use Rattle.std.proofs.Common.{◌≡◌, ◌∙◌, sym, ap, subst, refl, ℕ, ◌≤◌, inl, inr, List, Option, IsTrue, IsFalse, length, arith}
use Rattle.std.specs.Prelude.{ℤ, pos, IsSomeAnd}
use Rattle.std.proofs.lemmas.List.{length-map}
use Rattle.std.proofs.lemmas.Grind.{common_steps}
use Rattle.elf_image.specs.declared.elf.Elf.{Elf}
use Rattle.elf_image.specs.declared.section.Section.{Section}
use Rattle.elf_code.specs.LoadedNumbers.{loaded_number}
use Rattle.elf_code.specs.Relocations.{Relocation, relocations, symbol_value, label, is_pcrel_lo, is_pcrel_hi, is_call_pair}
use Rattle.elf_code.specs.Relocations.{is_supported, HasRelocation, Width}
use Rattle.elf_code.specs.Cells.{is_plus, is_minus, IsCodeLabel}
use Rattle.elf_code.specs.ReferenceFaults.{IsRelocType, IsCall, HasAuipc, IsNamedByLow, IsUpper, HasLower, HasAbsolute, IsPaired}
use Rattle.elf_code.specs.ReferenceFaults.{IsBadField, IsBadCall, IsBadUpper, IsBadPair, IsBadLower, IsBadAbsolute, IsBadDifference}
use Rattle.elf_code.specs.ReferenceFaults.{HasBadLabel, IsMisfit, IsRelocMismatch, IsLoMismatch, IsNarrow, IsNarrowDiff}
use Rattle.elf_readings.proofs.Alike.{bare_symbol, Alike, back, any_alike}
use Rattle.elf_readings.proofs.Relocations.{with_section, bare_relocation, relocations_alike, Twin, flip, twin, symbol_alike}
use Rattle.elf_readings.proofs.Roles.{label_alike, number_alike, field_of, holds_of, full_of, pair_of, call_of, low_of, hi_of, absolute_of}
use Rattle.elf_readings.proofs.Cells.{only_of, difference_of, code_label_of, has_code_label_of, one_whole_of, counts_of}

pub has_relocation_of : (e e' : Elf) → Alike e e' → (Is Is' : Relocation → Type 0) →
    ((r : Relocation) (s : Section) → Twin e e' r s → Is r → Is' (with_section r s)) →
    (place : ℕ) → HasRelocation e Is place → HasRelocation e' Is' place
has_relocation_of e e' a Is Is' carry place h =
    let (s, t) = twin e e' a h.relocation h.counts in
    record { relocation = with_section h.relocation s; counts = t.there; is = carry h.relocation s t h.is; place_is = h.place_is }

pub type_of : (e e' : Elf) → Alike e e' → (place : ℕ) → IsRelocType e place → IsRelocType e' place
type_of e e' a place h =
    has_relocation_of e e' a (λ r. IsFalse (is_supported r.kind)) (λ r. IsFalse (is_supported r.kind)) (λ r s t is. is) place h

is_call_of : (e e' : Elf) → Alike e e' → (r : Relocation) (s : Section) → Twin e e' r s → IsCall e r →
    IsCall e' (with_section r s)
is_call_of e e' a r s t (pair, rest) = (pair_of e e' a r s t pair, rest)

auipc_of : (e e' : Elf) → Alike e e' → (at : ℕ) → HasAuipc e at → HasAuipc e' at
auipc_of e e' a at (rd, imm, full) = (rd, imm, full_of e e' a at _ full)

abbrev names_low : Elf → ℕ → Relocation → Type 0
names_low e hi r = IsTrue (is_pcrel_lo r.kind) × (symbol_value e r ≡ hi)

named_of : (e e' : Elf) → Alike e e' → (hi : ℕ) → IsNamedByLow e hi → IsNamedByLow e' hi
named_of e e' a hi is =
    let (k, x, within, at, (low, value)) = any_alike bare_relocation (names_low e hi)
    (λ x y same p. subst (names_low e hi) same p) (relocations e) (relocations e') (relocations_alike e e' a) is in
    (k, x, within, at, (low, sym (symbol_alike e e' a x) ∙ value))

abbrev is_hi : Relocation → Type 0
is_hi r = IsTrue (is_pcrel_hi r.kind)

abbrev is_pair : Relocation → Type 0
is_pair r = IsTrue (is_call_pair r.kind)

upper_of : (e e' : Elf) → Alike e e' → (at : ℕ) → IsUpper e at → IsUpper e' at
upper_of e e' a at u = record {
  auipc = auipc_of e e' a at u.auipc;
  upper = has_relocation_of e e' a is_hi is_hi (λ r s t is. is) at u.upper;
  no_call = λ has. u.no_call (has_relocation_of e' e (back e e' a) is_pair is_pair (λ r s t is. is) at has);
}

lower_of : (e e' : Elf) → Alike e e' → (r : Relocation) (s : Section) → Twin e e' r s → HasLower e r →
    HasLower e' (with_section r s)
lower_of e e' a r s t (inst, full, some) = (inst, full_of e e' a r.place inst full, some)

has_absolute_of : (e e' : Elf) → Alike e e' → (r : Relocation) (s : Section) → Twin e e' r s → (target : ℕ) →
    HasAbsolute e r target → HasAbsolute e' (with_section r s) target
has_absolute_of e e' a r s t target (HasAbsolute.upper kind rd full) = HasAbsolute.upper kind rd (full_of e e' a r.place _ full)
has_absolute_of e e' a r s t target (HasAbsolute.lower kind inst full is) =
    HasAbsolute.lower kind inst (full_of e e' a r.place inst full) is

paired_of : (e e' : Elf) → Alike e e' → (place : ℕ) (w : Width) → IsPaired e place w → IsPaired e' place w
paired_of e e' a place w (plus, minus, only_plus, only_minus) =
    let (s, t) = twin e e' a plus only_plus.listed in
    let (q, u) = twin e e' a minus only_minus.listed in (
      with_section plus s,
      with_section minus q,
      only_of e e' a (is_plus place w) (λ x y. refl) plus s t only_plus,
      only_of e e' a (is_minus place w) (λ x y. refl) minus q u only_minus,
    )

bad_field_of : (e e' : Elf) → Alike e e' → (r : Relocation) (s : Section) → Twin e e' r s → IsBadField e r →
    IsBadField e' (with_section r s)
bad_field_of e e' a r s t (IsBadField.symbol some past) =
    let count : length e.symbols.items ≡ length e'.symbols.items =
    sym (length-map e.symbols.items bare_symbol) ∙ ap length a.symbols ∙ length-map e'.symbols.items bare_symbol in
    IsBadField.symbol some (subst (λ (n : ℕ). n ≤ r.symbol) count past)
bad_field_of e e' a r s t (IsBadField.field out) =
    IsBadField.field (λ has. out (field_of e' e (back e e' a) (with_section r s) r.section (flip e e' r s t) has))

bad_call_of : (e e' : Elf) → Alike e e' → (r : Relocation) (s : Section) → Twin e e' r s → IsBadCall e r →
    IsBadCall e' (with_section r s)
bad_call_of e e' a r s t (IsBadCall.pair kind out) =
    IsBadCall.pair kind (λ has. out (is_call_of e' e (back e e' a) (with_section r s) r.section (flip e e' r s t) has))
bad_call_of e e' a r s t (IsBadCall.address target c out) = IsBadCall.address target (call_of e e' a r s t target c) out

bad_upper_of : (e e' : Elf) → Alike e e' → (r : Relocation) (s : Section) → Twin e e' r s → IsBadUpper e r →
    IsBadUpper e' (with_section r s)
bad_upper_of e e' a r s t (IsBadUpper.no_auipc kind out) =
    IsBadUpper.no_auipc kind (λ has. out (auipc_of e' e (back e e' a) r.place has))
bad_upper_of e e' a r s t (IsBadUpper.alone kind out) =
    IsBadUpper.alone kind (λ has. out (named_of e' e (back e e' a) r.place has))

abbrev holds_label : Relocation → ℤ → Option ℕ → Type 0
holds_label r z o = IsSomeAnd o (λ v. z ≡ pos v)

bad_pair_of : (e e' : Elf) → Alike e e' → (r : Relocation) (s : Section) → Twin e e' r s → IsBadPair e r →
    IsBadPair e' (with_section r s)
bad_pair_of e e' a r s t (IsBadPair.address target h out) = IsBadPair.address target (hi_of e e' a r s t target h) out
bad_pair_of e e' a r s t (IsBadPair.slot kind at h out) =
    IsBadPair.slot kind at (hi_of e e' a r s t _ h)
    (λ has. out (subst (λ (z : ℤ). holds_label r z (loaded_number e at 8)) (sym (label_alike e e' a r))
    (subst (λ (o : Option ℕ). holds_label r (label e' r) o) (sym (number_alike e e' a at 8)) has)))

bad_lower_of : (e e' : Elf) → Alike e e' → (r : Relocation) (s : Section) → Twin e e' r s → IsBadLower e r →
    IsBadLower e' (with_section r s)
bad_lower_of e e' a r s t (IsBadLower.no_lower kind out) =
    IsBadLower.no_lower kind (λ has. out (lower_of e' e (back e e' a) (with_section r s) r.section (flip e e' r s t) has))
bad_lower_of e e' a r s t (IsBadLower.no_upper kind out) =
    IsBadLower.no_upper kind
    (λ has. out (subst (IsUpper e) (sym (symbol_alike e e' a r)) (upper_of e' e (back e e' a) (symbol_value e' r) has)))

bad_absolute_of : (e e' : Elf) → Alike e e' → (r : Relocation) (s : Section) → Twin e e' r s → IsBadAbsolute e r →
    IsBadAbsolute e' (with_section r s)
bad_absolute_of e e' a r s t b = record {
  target = b.target;
  part = absolute_of e e' a r s t b.target b.part;
  absolute = b.absolute;
  unfit = λ has. b.unfit (has_absolute_of e' e (back e e' a) (with_section r s) r.section (flip e e' r s t) b.target has);
}

bad_difference_of : (e e' : Elf) → Alike e e' → (r : Relocation) (s : Section) → Twin e e' r s → IsBadDifference e r →
    IsBadDifference e' (with_section r s)
bad_difference_of e e' a r s t (IsBadDifference.number w to from d out) =
    IsBadDifference.number w to from (difference_of e e' a r s t w to from d)
    (λ has. out (holds_of e' e (back e e' a) (with_section r s) r.section (flip e e' r s t) w to from has))
bad_difference_of e e' a r s t (IsBadDifference.unpaired w kind code out) =
    IsBadDifference.unpaired w kind (subst (IsCodeLabel e') (label_alike e e' a r) (code_label_of e e' a (label e r) code))
    (λ has. out (paired_of e' e (back e e' a) r.place w has))

bad_label_of : (e e' : Elf) → Alike e e' → (tabled : List (ℕ × ℕ)) (place : ℕ) → HasBadLabel e tabled place →
    HasBadLabel e' tabled place
bad_label_of e e' a tabled place b = grind (arith, common_steps, counts_of)

misfit_of : (e e' : Elf) → Alike e e' → (r : Relocation) (s : Section) → Twin e e' r s → IsMisfit e r →
    IsMisfit e' (with_section r s)
misfit_of e e' a r s t (IsMisfit.field b) = IsMisfit.field (bad_field_of e e' a r s t b)
misfit_of e e' a r s t (IsMisfit.call b) = IsMisfit.call (bad_call_of e e' a r s t b)
misfit_of e e' a r s t (IsMisfit.upper b) = IsMisfit.upper (bad_upper_of e e' a r s t b)
misfit_of e e' a r s t (IsMisfit.pair b) = IsMisfit.pair (bad_pair_of e e' a r s t b)
misfit_of e e' a r s t (IsMisfit.lower b) = IsMisfit.lower (bad_lower_of e e' a r s t b)
misfit_of e e' a r s t (IsMisfit.absolute b) = IsMisfit.absolute (bad_absolute_of e e' a r s t b)
misfit_of e e' a r s t (IsMisfit.difference b) = IsMisfit.difference (bad_difference_of e e' a r s t b)

pub mismatch_of : (e e' : Elf) → Alike e e' → (tabled : List (ℕ × ℕ)) (place : ℕ) → IsRelocMismatch e tabled place →
    IsRelocMismatch e' tabled place
mismatch_of e e' a tabled place (inl h) = inl (has_relocation_of e e' a (IsMisfit e) (IsMisfit e') (misfit_of e e' a) place h)
mismatch_of e e' a tabled place (inr b) = inr (bad_label_of e e' a tabled place b)

pub lo_mismatch_of : (e e' : Elf) → Alike e e' → (place : ℕ) → IsLoMismatch e place → IsLoMismatch e' place
lo_mismatch_of e e' a place m =
    let (s, t) = twin e e' a m.low m.part.counts in
    let (q, u) = twin e e' a m.low' m.part'.counts in
    record {
      low = with_section m.low s;
      imm = m.imm;
      part = low_of e e' a m.low s t place m.imm m.part;
      low' = with_section m.low' q;
      imm' = m.imm';
      part' = low_of e e' a m.low' q u place m.imm' m.part';
      differ = m.differ;
    }

narrow_of : (e e' : Elf) → Alike e e' → (tabled : List (ℕ × ℕ)) (r : Relocation) (s : Section) → Twin e e' r s →
    IsNarrow e tabled r → IsNarrow e' tabled (with_section r s)
narrow_of e e' a tabled r s t n = record {
  width = n.width;
  to = n.to;
  from = n.from;
  difference = difference_of e e' a r s t n.width n.to n.from n.difference;
  no_cell = n.no_cell;
  has_code = has_code_label_of e e' a n.to n.from n.has_code;
  across = λ whole. n.across (one_whole_of e' e (back e e' a) tabled n.to n.from whole);
}

pub narrow_diff_of : (e e' : Elf) → Alike e e' → (tabled : List (ℕ × ℕ)) (place : ℕ) → IsNarrowDiff e tabled place →
    IsNarrowDiff e' tabled place
narrow_diff_of e e' a tabled place h =
    has_relocation_of e e' a (IsNarrow e tabled) (IsNarrow e' tabled) (narrow_of e e' a tabled) place h
