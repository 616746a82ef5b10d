use Rattle.std.proofs.Common.{◌≡◌, ◌∙◌, ℕ, [], ap, length, map, subst, sym}
use Rattle.std.specs.Prelude.{◌==◌}
use Rattle.std.specs.List.{list_any}
use Rattle.std.proofs.lemmas.List.{length-map}
use Rattle.std.proofs.lemmas.Result.{IfOk-weaker}
use Rattle.table_core.specs.DebugUnits.{walked}
use Rattle.dw_unit.specs.ReaderSections.{ReaderSections}
use Rattle.line_rewrite.specs.Tables.{LineSections, line_sections}
use Rattle.range_loc_rewrite.specs.Ranges.{ranged}
use Rattle.range_loc_rewrite.specs.Tables.{list_sections}
use Rattle.table_set.proofs.Carried.{covers_listed}
use Rattle.table_set.proofs.ElfReading.{units_free}
use Rattle.inline_frames.specs.FileChains.{AreReadable, file_links, listed_units}
use Rattle.inline_frames.specs.Following.{followed_times}
use Rattle.inline_frames.specs.Names.{name_sections}
use Rattle.inline_frames.specs.Positions.{link_frames, row_position}
use Rattle.inline_frames.specs.declared.link.Link.{Link}
use Rattle.inline_frames.specs.declared.naming.Naming.{Naming}
use Rattle.inline_frames.proofs.ChainFrames.{can_read, frames_found, reader_of}
use Rattle.inline_frames.proofs.chain.frames_in.Goals as goal

pub file_links-requires : goal.file_links-requires
file_links-requires c =
    let elf = c.args.elf.now in
    let reader : c.in_ok-reader.reader ≡ reader_of elf = c.in_ok-reader.ensures
    ∙ (λ i. record {
      units = walked 5 (c.contents_of-info.ensures i);
      abbrevs = c.contents_of-abbrevs.ensures i;
      addr = c.contents_of-addr.ensures i;
    }) in
    subst (λ (r : ReaderSections). AreReadable r.abbrevs r.addr r.units) (sym reader) (can_read elf (units_free elf c.requires.free))

pub resolved-requires : goal.resolved-requires
resolved-requires c =
    let elf = c.args.elf.now in
    let reader : c.in_ok-reader.reader ≡ reader_of elf = c.in_ok-reader.ensures
    ∙ (λ i. record {
      units = walked 5 (c.contents_of-info.ensures i);
      abbrevs = c.contents_of-abbrevs.ensures i;
      addr = c.contents_of-addr.ensures i;
    }) in
    subst (λ (r : ReaderSections). AreReadable r.abbrevs r.addr r.units) (sym reader) (can_read elf (units_free elf c.requires.free))

pub frames_from-requires : goal.frames_from-requires
frames_from-requires c =
    let namings = c.in_ok-namings.namings.items in
    let own = c.in_ok-own.own.items in
    let same : length namings ≡ length own = ap length c.in_ok-namings.ensures ∙ length-map own _ in
    let also : length own ≡ length c.deref-2.result.now = ap length c.in_ok-own.ensures ∙ length-map c.deref-2.result.now _ in
    ap length c.deref-4.ensures.value ∙ same ∙ also ∙ ap length c.deref-2.ensures.value ∙ sym (ap length c.deref-3.ensures.value)

pub returns : goal.returns
returns c =
    let elf = c.args.elf.now in
    let a = c.args.a in
    let s = name_sections elf in
    let covering = c.in_ok-covering.covering in
    let texts = c.contents_of-str_offsets.ensures in
    let reader : c.in_ok-reader.reader ≡ reader_of elf = c.in_ok-reader.ensures
    ∙ (λ i. record {
      units = walked 5 (c.contents_of-info.ensures i);
      abbrevs = c.contents_of-abbrevs.ensures i;
      addr = c.contents_of-addr.ensures i;
    }) in
    let own : c.in_ok-own.own.items ≡ map (λ (l : Link). l.naming) c.in_ok-links.links.items =
    c.in_ok-own.ensures ∙ ap (map (λ (l : Link). l.naming)) c.deref-2.ensures.value in
    let first : c.in_ok-first.first ≡ row_position (line_sections elf) a =
    c.in_ok-first.ensures ∙ ap (λ (t : LineSections). row_position t a) c.requires.read.lines in
    IfOk-weaker c.frames_from.result _ _ (λ frames are.
    frames_found elf (units_free elf c.requires.free) a covering c.in_ok-links.links.items c.in_ok-namings.namings.items frames.items
    (λ q. c.in_ok-covering.ensures q ∙ ap (list_any (λ (m : ℕ). m == q)) (c.deref.ensures.value ∙ c.requires.read.covers)
    ∙ sym (covers_listed (ranged (list_sections elf)) q a))
    (c.in_ok-links.ensures ∙ (λ i. file_links (texts i) covering [] (listed_units (reader i).abbrevs (reader i).units)))
    (c.in_ok-namings.ensures
    ∙ (λ i. map (λ (n : Naming). followed_times (texts i) (listed_units (reader i).abbrevs (reader i).units) 16 n) (own i)))
    (are s (sym c.contents_of-info.ensures) (sym c.contents_of.ensures) (sym c.contents_of-2.ensures)
    ∙ (λ i. link_frames (c.requires.read.lines i) s (first i) (c.deref-3.ensures.value i) (c.deref-4.ensures.value i))))
    c.frames_from.ensures
