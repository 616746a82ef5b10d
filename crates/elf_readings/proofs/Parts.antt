-- Parts of code, and the instructions in them, don't depend on the reading.
use Rattle.std.proofs.Common.{◌≡◌, ◌∙◌, sym, ap, subst, ℕ, ◌+◌, ◌<◌, ◌≤◌, inl, inr, List, IsTrue}
use Rattle.rv_code.specs.declared.inst.Inst.{Inst}
use Rattle.elf_image.specs.declared.elf.Elf.{Elf}
use Rattle.elf_image.specs.declared.section.Section.{Section}
use Rattle.elf_image.specs.declared.symbol.Symbol.{Symbol}
use Rattle.elf_image.specs.file.Cuts.{names_function, IsBound}
use Rattle.elf_image.specs.file.Sections.{holds_code}
use Rattle.elf_code.specs.Parts.{IsCut, IsInCode, IsPart, IsCovered, IsZeroPart, IsCodePart, length_at, length_in, halfword_at, halfword_in}
use Rattle.elf_code.specs.Parts.{IsInstAt, IsInstIn, StartsIn, at_start, after, IsStartIn, IsStart, HasInst, HasValidInst, IsWholePart}
use Rattle.elf_image.specs.memory.LoadedBytes.{byte_at}
use Rattle.elf_readings.proofs.Alike.{bare, bare_symbol, Alike, back, any_alike, memory}

abbrev bound_of_symbol : ℕ → Symbol → Type 0
bound_of_symbol a s = IsTrue (names_function s) × IsBound s.value s.size a

abbrev bound_of_section : ℕ → Section → Type 0
bound_of_section a s = IsTrue (holds_code s.flags) × IsBound s.addr s.size a

pub cut_of : (e e' : Elf) → Alike e e' → (a : ℕ) → IsCut e a → IsCut e' a
cut_of e e' alike a (inl is) = inl (any_alike bare_symbol (bound_of_symbol a)
    (λ x y same p. subst (bound_of_symbol a) same p) e.symbols.items e'.symbols.items alike.symbols is)
cut_of e e' alike a (inr is) = inr (any_alike bare (bound_of_section a)
    (λ x y same p. subst (bound_of_section a) same p) e.sections.items e'.sections.items alike.sections is)

abbrev has_code : ℕ → Section → Type 0
has_code a s = IsTrue (holds_code s.flags) × (s.addr ≤ a) × (a < s.addr + s.size)

pub in_code_of : (e e' : Elf) → Alike e e' → (a : ℕ) → IsInCode e a → IsInCode e' a
in_code_of e e' alike a is =
    any_alike bare (has_code a) (λ x y same p. subst (has_code a) same p) e.sections.items e'.sections.items alike.sections is

pub part_of : (e e' : Elf) → Alike e e' → (start end : ℕ) → IsPart e start end → IsPart e' start end
part_of e e' alike start end p = record {
  starts = cut_of e e' alike start p.starts;
  ends = cut_of e e' alike end p.ends;
  has_bytes = p.has_bytes;
  neighbours = λ a low high cut. p.neighbours a low high (cut_of e' e (back e e' alike) a cut);
  in_code = in_code_of e e' alike start p.in_code;
}

abbrev covers : ℕ → ℕ → Symbol → Type 0
covers start end s = IsTrue (names_function s) × (s.value ≤ start) × (end ≤ s.value + s.size)

pub covered_of : (e e' : Elf) → Alike e e' → (start end : ℕ) → IsCovered e start end → IsCovered e' start end
covered_of e e' alike start end is =
    any_alike bare_symbol (covers start end)
    (λ x y same p. subst (covers start end) same p) e.symbols.items e'.symbols.items alike.symbols is

pub byte_of : (e e' : Elf) → Alike e e' → (a : ℕ) → byte_at e a ≡ byte_at e' a
byte_of e e' alike a = ap (λ (m : ℕ → _). m a) (memory e e' alike)

pub zero_of : (e e' : Elf) → Alike e e' → (start end : ℕ) → IsZeroPart e start end → IsZeroPart e' start end
zero_of e e' alike start end z = record {
  part = part_of e e' alike start end z.part;
  uncovered = λ is. z.uncovered (covered_of e' e (back e e' alike) start end is);
  zeros = λ a low high. sym (byte_of e e' alike a) ∙ z.zeros a low high;
}

pub code_part_of : (e e' : Elf) → Alike e e' → (start end : ℕ) → IsCodePart e start end → IsCodePart e' start end
code_part_of e e' alike start end c = record {
  part = part_of e e' alike start end c.part;
  no_padding = λ is. c.no_padding (zero_of e' e (back e e' alike) start end is);
}

pub length_of : (e e' : Elf) → Alike e e' → (a : ℕ) → length_at e a ≡ length_at e' a
length_of e e' alike a = ap (λ m. length_in m a) (memory e e' alike)

pub halfword_of : (e e' : Elf) → Alike e e' → (a : ℕ) → halfword_at e a ≡ halfword_at e' a
halfword_of e e' alike a = ap (λ m. halfword_in m a) (memory e e' alike)

pub inst_of : (e e' : Elf) → Alike e e' → (a : ℕ) (i : Inst) (n : ℕ) → IsInstAt e a i n → IsInstAt e' a i n
inst_of e e' alike a i n is = subst (λ m. IsInstIn m a i n) (memory e e' alike) is

pub starts_of : (e e' : Elf) → Alike e e' → (start end a : ℕ) → StartsIn e start end a → StartsIn e' start end a
starts_of e e' alike start end a (at_start less) = at_start less
starts_of e e' alike start end b (after a first less) =
    let size : length_at e' a ≡ length_at e a = sym (length_of e e' alike a) in
    subst (λ (n : ℕ). StartsIn e' start end (a + n)) size
    (after a (starts_of e e' alike start end a first) (subst (λ (n : ℕ). a + n < end) (sym size) less))

pub start_in_of : (e e' : Elf) → Alike e e' → (start end a : ℕ) → IsStartIn e start end a → IsStartIn e' start end a
start_in_of e e' alike start end a s = record {
  part = code_part_of e e' alike start end s.part;
  starts = starts_of e e' alike start end a s.starts;
}

pub start_of : (e e' : Elf) → Alike e e' → (a : ℕ) → IsStart e a → IsStart e' a
start_of e e' alike a s = record { start = s.start; end = s.end; is_start = start_in_of e e' alike s.start s.end a s.is_start }

pub has_inst_of : (e e' : Elf) → Alike e e' → (start end a : ℕ) (i : Inst) (n : ℕ) → HasInst e start end a i n →
    HasInst e' start end a i n
has_inst_of e e' alike start end a i n h = record {
  starts = start_in_of e e' alike start end a h.starts;
  is_inst = inst_of e e' alike a i n h.is_inst;
  inside = h.inside;
}

pub valid_of : (e e' : Elf) → Alike e e' → (start end a : ℕ) (i : Inst) (n : ℕ) → HasValidInst e start end a i n →
    HasValidInst e' start end a i n
valid_of e e' alike start end a i n v = record {
  has = has_inst_of e e' alike start end a i n v.has;
  even = v.even;
  allowed = λ half none. v.allowed half (alike.flags ∙ none);
}

pub whole_of : (e e' : Elf) → Alike e e' → (tabled : List (ℕ × ℕ)) (start end : ℕ) → IsWholePart e tabled start end →
    IsWholePart e' tabled start end
whole_of e e' alike tabled start end w = record {
  place = w.place;
  starts = start_in_of e e' alike start end w.place w.starts;
  tabled_there = w.tabled_there;
}
