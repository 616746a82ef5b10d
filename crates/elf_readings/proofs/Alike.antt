-- Fields that two readings of a file share. Only the memory addresses of names and lists differ.
use Rattle.std.proofs.Common.{◌≡◌, ◌∙◌, sym, ap, ℕ, ◌<◌, List, Option, length, get_or, map, arith}
use Rattle.std.specs.Prelude.{Contains, Any}
use Rattle.std.proofs.lemmas.List.{get_or-map, length-map}
use Rattle.std.proofs.lemmas.List.Elements.{Contains-get_or}
use Rattle.std.proofs.lemmas.Grind.{common_steps}
use Rattle.elf_image.specs.declared.elf.Elf.{Elf}
use Rattle.elf_image.specs.declared.section.Section.{Section}
use Rattle.elf_image.specs.declared.symbol.Symbol.{Symbol}
use Rattle.elf_image.specs.memory.LoadedBytes.{byte_at}
use Rattle.elf_image.specs.memory.Image.{image_byte}

-- The section, with a name that has no address.
abbrev pub bare : Section → Section
bare s = record s { name = record s.name { ref_ptr = (0, 0) } }

abbrev pub bare_symbol : Symbol → Symbol
bare_symbol s = record s { name = record s.name { ref_ptr = (0, 0) } }

pub record Alike (e e' : Elf) : Type 0 where
  pub file : e.file.now ≡ e'.file.now
  pub flags : e.flags ≡ e'.flags
  pub entry : e.entry ≡ e'.entry
  pub phoff : e.phoff ≡ e'.phoff
  pub segments : e.segments.items ≡ e'.segments.items
  pub sections : map bare e.sections.items ≡ map bare e'.sections.items
  pub symbols : map bare_symbol e.symbols.items ≡ map bare_symbol e'.symbols.items

abbrev pub back : (e e' : Elf) → Alike e e' → Alike e' e
back e e' a = record {
  file = sym a.file;
  flags = sym a.flags;
  entry = sym a.entry;
  phoff = sym a.phoff;
  segments = sym a.segments;
  sections = sym a.sections;
  symbols = sym a.symbols;
}

-- Lists that agree.

pub contains_alike : {X Y : Type 0} (f : X → Y) (xs ys : List X) → map f xs ≡ map f ys → (x : X) → Contains xs x →
    (y : X) × Contains ys y × (f x ≡ f y)
contains_alike f xs ys e x (k, within, is) =
    let size : length xs ≡ length ys = sym (length-map xs f) ∙ ap length e ∙ length-map ys f in
    let inside : k < length ys = omega (arith, within, size) in (
      get_or ys k x,
      Contains-get_or ys k x inside,
      ap f (sym is) ∙ sym (get_or-map f xs k x (f x) within) ∙ ap (λ zs. get_or zs k (f x)) e ∙ get_or-map f ys k x (f x) inside,
    )

pub any_alike : {X Y : Type 0} (f : X → Y) (P : X → Type 0) → ((x y : X) → f x ≡ f y → P x → P y) → (xs ys : List X) →
    map f xs ≡ map f ys → Any P xs → Any P ys
any_alike f P carry xs ys e (k, x, within, is, p) =
    let (y, (j, inside, at), same) = contains_alike f xs ys e x (k, within, is) in
    (j, y, inside, at, carry x y same p)

-- The memory is the same.
pub memory : (e e' : Elf) → Alike e e' → byte_at e ≡ byte_at e'
memory e e' a = grind (arith, common_steps)
