-- The law of written locations, for a file with the written table.
use Rattle.std.proofs.Common.{◌≡◌, ◌∙◌, ◌<◌, ℕ, zero, suc, [], ◌∷◌, List, Option, refl, sym, ap, subst, arith, map, All, length}
use Rattle.std.specs.Prelude.{Contains, slice_get}
use Rattle.std.specs.Global.{Vec}
use Rattle.std.specs.Option.{option_map_or}
use Rattle.std.proofs.lemmas.List.Elements.{All-head, All-tail}
use Rattle.rb_bytes.specs.FirstFault.{IsFree}
use Rattle.elf_image.specs.declared.elf.Elf.{Elf}
use Rattle.addr_map.specs.declared.span.Span.{Span}
use Rattle.answer_runs.specs.declared.run.Run.{Run}
use Rattle.answer_runs.specs.AnswerRuns.{carried, AreRunsOf}
use Rattle.answer_runs.specs.CarriedAnswers.{IsCarriedFrom}
use Rattle.table_core.specs.declared.written.Written.{Written}
use Rattle.dw_unit.specs.Faults.{HasDwarfFault}
use Rattle.dw_lists.specs.declared.indexed_unit.IndexedUnit.{IndexedUnit}
use Rattle.dw_lists.specs.declared.list_kind.ListKind.TheVariants.{Locations}
use Rattle.cover_lists.specs.declared.kept_list.KeptList.{KeptList}
use Rattle.dw_lists.specs.declared.named_list.NamedList.{NamedList}
use Rattle.dw_lists.specs.Faults.{ListSections, location_places}
use Rattle.cover_lists.specs.KeptLists.{items_in}
use Rattle.list_writer.specs.ListBytes.{IsWritable, list_bytes}
use Rattle.list_units.specs.Listing.{AreNamesOf, IsNameOf, all_items}
use Rattle.cover_lists.specs.ListRuns.{said_in, list_answer}
use Rattle.dw_lists.specs.ListTables.{place_says, PlacesMade}
use Rattle.dw_lists.specs.Locations.{places_said, PlaceSaid}
use Rattle.dw_lists.specs.Tables.{list_sections, place_answers, StandsPlaces}
use Rattle.list_writer.specs.WrittenLocations.{bounded, runs_bytes, CanBeWritten}
use Rattle.list_writer.specs.WrittenTables.{AreWritten}
use Rattle.range_loc_rewrite.proofs.FreeRanges.{answers_free}
use Rattle.range_loc_rewrite.proofs.ItemOrder.{no_names}
use Rattle.range_loc_rewrite.proofs.PlacesLaw.{new_places, new_free}
use Rattle.range_loc_rewrite.proofs.RangesLaw.{is_carried}
use Rattle.range_loc_rewrite.proofs.PlacesStay.{AreSpelled}
use Rattle.list_writer.proofs.WrittenLists.{bytes_at}
use Rattle.list_units.proofs.Zips.{zip_left}

abbrev AllRuns : Type 0
AllRuns = List (Vec (Run (Vec (Vec ℕ))))

-- The runs with a number.
bytes_there : (rs : AllRuns) (n : ℕ) → n < length rs → option_map_or runs_bytes (slice_get rs n) [] ≡ list_bytes Locations
    (bounded (said_in rs n))
bytes_there [] n h = absurd (omega arith)
bytes_there (r ∷ rs) zero h = refl
bytes_there (r ∷ rs) (suc n) h = bytes_there rs n (omega (arith, h))

fits_there : (rs : AllRuns) (n : ℕ) → n < length rs → All CanBeWritten rs → All (IsWritable Locations) (bounded (said_in rs n))
fits_there [] n h all = absurd (omega arith)
fits_there (r ∷ rs) zero h all = All-head CanBeWritten r rs all
fits_there (r ∷ rs) (suc n) h all = fits_there rs n (omega (arith, h)) (All-tail CanBeWritten r rs all)

module _ (s : ListSections) (kept : List KeptList) (named : List NamedList) (names : AreNamesOf kept named (all_items s)) where
  pub made_of : (bs : List (Vec ℕ)) (us : List IndexedUnit) (w : Written) → AreWritten Locations bs named us w.bytes.items w.lists.items →
      (s.locations ≡ [] → length named ≡ 0 → w.bytes.items ≡ []) → PlacesMade s w
  made_of bs us w written none = record {
    lists = record { attrs = written.names_are.attrs; once = written.names_are.once; low = written.names_are.low };
    nothing = λ empty. none empty (ap length (no_names s empty kept named names));
  }

  module _ (spans : List Span) (rs : AllRuns) (count : length rs ≡ length kept) (each : (n : ℕ) →
      AreRunsOf (carried (list_answer kept n) spans) (said_in rs n))
      (bs : List (Vec ℕ)) (spelled : items_in bs ≡ map runs_bytes rs) (fits : All CanBeWritten rs) where
    below : (n : NamedList) → Contains named n → n.list < length rs
    below n c = subst (λ (k : ℕ). n.list < k) (sym count) (zip_left (IsNameOf kept) named (all_items s) n names c).2.within

    pub are_spelled : AreSpelled kept bs spans (said_in rs) named
    are_spelled = record {
      bytes = λ n c. bytes_at runs_bytes bs rs n.list spelled ∙ bytes_there rs n.list (below n c);
      writable = λ n c. fits_there rs n.list (below n c) fits;
      within = λ n. ((each n).end, (each n).within);
      says = λ n p. (each n).answered p;
    }

pub law_of : (i f : Elf) (spans : List Span) → IsFree (HasDwarfFault (location_places (list_sections i))) →
    (kept : List KeptList) (named : List NamedList) → AreNamesOf kept named (all_items (list_sections i)) →
    (rs : AllRuns) → length rs ≡ length kept → ((n : ℕ) → AreRunsOf (carried (list_answer kept n) spans) (said_in rs n)) →
    (bs : List (Vec ℕ)) → items_in bs ≡ map runs_bytes rs → All CanBeWritten rs → (us : List IndexedUnit) (w : Written) →
    AreWritten Locations bs named us w.bytes.items w.lists.items → StandsPlaces i spans w f →
    IsCarriedFrom (λ x y. x ≡ y) spans (place_says (list_sections i)) (place_answers f)
    × IsFree (HasDwarfFault (location_places (list_sections f)))
law_of i f spans free kept named names rs count each bs spelled fits us w written stands =
    let s : ListSections = list_sections i in
    let t : ListSections = list_sections f in
    let c = stands.changed in
    let sp = are_spelled s kept named names spans rs count each bs spelled fits in
    let free_new : IsFree (HasDwarfFault (location_places t)) =
    new_free s t spans c.moves kept bs named w.bytes.items w.lists.items free names us written stands.table stands.ranges stands.covered
    c.units_are c.named
    (said_in rs) sp in (
      subst (λ (x : Option (ℕ → Option (List PlaceSaid))). IsCarriedFrom (λ x y. x ≡ y) spans (place_says s) x)
          (sym (answers_free (location_places t) (place_says t) free_new))
          (is_carried (places_said s) (places_said t) spans (carried (place_says s) spans) (λ p. refl)
          (new_places s t spans c.moves kept bs named w.bytes.items w.lists.items free names us written stands.table stands.ranges
          stands.covered c.units_are c.named
          (said_in rs) sp)),
      free_new,
    )
