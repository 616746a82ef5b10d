-- The frames of the links found are the frames of the chain.
use Rattle.std.proofs.Common.{◌≡◌, ◌∙◌, ℕ, zero, suc, not, false, List, [], ◌∷◌, Option, Some, None, refl, sym, ap, subst, map}
use Rattle.std.specs.Prelude.{option_map, unwrap_or}
use Rattle.std.specs.BTreeSet.{BTreeSet, contains}
use Rattle.std.specs.List.{AllZip}
use Rattle.std.specs.Ordering.{nat_cmp}
use Rattle.rb_bytes.specs.FirstFault.{IsFree}
use Rattle.elf_image.specs.declared.elf.Elf.{Elf}
use Rattle.table_core.specs.DebugUnits.{Walked, walked}
use Rattle.dw_unit.specs.declared.attribute.TheConstants.{DW_AT_call_column, DW_AT_call_line}
use Rattle.dw_unit.specs.CompUnits.{Entry, Unit, unit_of, units}
use Rattle.dw_unit.specs.Faults.{HasDwarfFault, fails, is_sound_unit, unit_fault_places}
use Rattle.dw_unit.specs.ReaderSections.{ReaderSections}
use Rattle.dw_unit.specs.Tables.{sections_of}
use Rattle.dw_unit.proofs.NewSections.{sound_units}
use Rattle.dw_unit.proofs.UnitsRead.{IsGoodUnit}
use Rattle.line_rewrite.specs.LineAnswers.{RowSaid}
use Rattle.line_rewrite.specs.Tables.{LineSections, line_sections}
use Rattle.range_loc_rewrite.specs.Ranges.{covers}
use Rattle.range_loc_rewrite.specs.Tables.{list_sections}
use Rattle.inline_frames.specs.Chains.{chain}
use Rattle.inline_frames.specs.FileChains.{AreReadable, file_links, listed_units}
use Rattle.inline_frames.specs.Following as following
use Rattle.inline_frames.specs.Frames.{Frame, call_path, callers, frames, frames_of, or_unknown, row_of, unsigned_of}
use Rattle.inline_frames.specs.Links.{link_of}
use Rattle.inline_frames.specs.Names.{NameSections, name_of, name_sections}
use Rattle.inline_frames.specs.Naming.{naming_of, text_named}
use Rattle.inline_frames.specs.Positions.{call_position, link_frames, position_or_none, row_position}
use Rattle.inline_frames.specs.declared.link.Link.{Link}
use Rattle.inline_frames.specs.declared.naming.Naming.{Naming}
use Rattle.inline_frames.proofs.FileLinks.{chain_links, times_are}
use Rattle.inline_frames.proofs.FollowedNames.{name_followed}

-- Units without a fault can be read.

readable : (abbrevs addr : List ℕ) (ws : List Walked) (us : List Unit) → AllZip (IsGoodUnit abbrevs (is_sound_unit addr)) ws us →
    AreReadable abbrevs addr ws
readable abbrevs addr [] us z n w e = absurd (cc)
readable abbrevs addr (v ∷ ws) [] z n w e = absurd z
readable abbrevs addr (v ∷ ws) (u ∷ us) z zero w e =
    let same : v ≡ w = cc in
    subst (λ (x : Walked). fails (is_sound_unit addr) (unit_of abbrevs x) ≡ false) same
    (ap (fails (is_sound_unit addr)) z.0.0 ∙ ap not z.0.1)
readable abbrevs addr (v ∷ ws) (u ∷ us) z (suc n) w e = readable abbrevs addr ws us z.1 n w e

row_path : (o : Option RowSaid) → (position_or_none o).path ≡ or_unknown (option_map (λ (r : RowSaid). r.path) o)
row_path None = refl
row_path (Some r) = refl

row_line : (o : Option RowSaid) → (position_or_none o).line ≡ unwrap_or (option_map (λ (r : RowSaid). r.line) o) 0
row_line None = refl
row_line (Some r) = refl

row_column : (o : Option RowSaid) → (position_or_none o).column ≡ unwrap_or (option_map (λ (r : RowSaid). r.column) o) 0
row_column None = refl
row_column (Some r) = refl

-- The reader of a file's units.
abbrev pub reader_of : Elf → ReaderSections
reader_of elf = record {
  units = walked 5 (sections_of elf).info;
  abbrevs = (sections_of elf).abbrevs;
  addr = (sections_of elf).addr;
}

module _ (elf : Elf) (free : IsFree (HasDwarfFault (unit_fault_places (sections_of elf)))) where
  abbrev s : NameSections
  s = name_sections elf

  abbrev lines : LineSections
  lines = line_sections elf

  pub can_read : AreReadable (sections_of elf).abbrevs (sections_of elf).addr (walked 5 (sections_of elf).info)
  can_read = readable (sections_of elf).abbrevs (sections_of elf).addr (walked 5 (sections_of elf).info) (units (sections_of elf))
      (sound_units (sections_of elf) free)

  abbrev resolved : Naming → Naming
  resolved n = following.followed_times s.str_offsets (listed_units (sections_of elf).abbrevs (walked 5 (sections_of elf).info)) 16 n

  abbrev namings : List Link → List Naming
  namings ls = map resolved (map (λ (l : Link). l.naming) ls)

  name_is : (e : Entry) → or_unknown (text_named s (resolved (naming_of s e))) ≡ or_unknown (name_of s e)
  name_is e = ap (λ (n : Naming). or_unknown (text_named s n)) (times_are s free 16 (naming_of s e))
      ∙ sym (ap or_unknown (name_followed s 16 e))

  callers_are : (e : Entry) (es : List Entry) →
      link_frames lines s (call_position lines (link_of s e)) (map (link_of s) es) (namings (map (link_of s) es)) ≡ callers elf e es
  callers_are e [] = refl
  callers_are e (x ∷ es) = λ i. record {
    name = name_is x i;
    path = or_unknown (call_path elf e);
    line = unwrap_or (unsigned_of DW_AT_call_line e) 0;
    column = unwrap_or (unsigned_of DW_AT_call_column e) 0;
  } ∷ callers_are x es i

  frames_are : (a : ℕ) (es : List Entry) →
      link_frames lines s (row_position lines a) (map (link_of s) es) (namings (map (link_of s) es)) ≡ frames_of elf a es
  frames_are a [] = refl
  frames_are a (e ∷ es) = λ i. record {
    name = name_is e i;
    path = row_path (row_of elf a) i;
    line = row_line (row_of elf a) i;
    column = row_column (row_of elf a) i;
  } ∷ callers_are e es i

  pub frames_found : (a : ℕ) (covering : BTreeSet ℕ) (ls : List Link) (ns : List Naming) (fs : List Frame) →
      ((d : ℕ) → contains nat_cmp covering d ≡ covers (list_sections elf) d a) →
      ls ≡ file_links s.str_offsets covering [] (listed_units (sections_of elf).abbrevs (walked 5 (sections_of elf).info)) →
      ns ≡ namings ls → fs ≡ link_frames lines s (row_position lines a) ls ns → fs ≡ frames elf a
  frames_found a covering ls ns fs has e f g =
      let links : ls ≡ map (link_of s) (chain (list_sections elf) a) = e ∙ chain_links s (list_sections elf) a covering refl free has in
      g ∙ (λ i. link_frames lines s (row_position lines a) (links i) ((f ∙ ap namings links) i))
      ∙ frames_are a (chain (list_sections elf) a)
