use Rattle.std.proofs.Common.{◌≡◌, ◌∙◌, ap, subst, sym, Bool, List, ℕ, String, Vec}
use Rattle.elf_image.specs.faults.FileFaults.{IsSound}
use Rattle.elf_image.specs.declared.elf.Elf.{Elf}
use Rattle.elf_plan.specs.declared.area.Area.{Area}
use Rattle.elf_plan.specs.declared.area.Shift.{Shift}
use Rattle.elf_plan.specs.Area.{shift_of}
use Rattle.elf_plan.specs.FileLayout.{HasFileLayout}
use Rattle.elf_plan.specs.HeaderPlaces.{HasNewHeaders}
use Rattle.elf_plan.specs.declared.fragments.Fragment.{Fragment}
use Rattle.elf_plan.specs.declared.plan.Plan.{Plan}
use Rattle.elf_image.specs.declared.symbol.Symbol.{Symbol}
use Rattle.elf_plan.specs.FirstNames.{AreFirstNames}
use Rattle.elf_plan.specs.FragmentLists.{AreFragments}
use Rattle.elf_plan.specs.AreaStands.{AreaStands}
use Rattle.elf_plan.specs.NewNames.{HaveNewNames}
use Rattle.elf_plan.specs.NewSections.{AreNewSections}
use Rattle.elf_make.specs.CellNumbers.{in_pieces}
use Rattle.elf_plan.specs.Plans.{IsPlanOf}
use Rattle.elf_make.specs.NewTables.{HasNewTables, area_for}
use Rattle.elf_make.specs.Source.{HasPlace, Source, source_of}
use Rattle.elf_make.proofs.AllWritten.{all-written, placed-there}
use Rattle.elf_make.proofs.CellPieces.{pieces_apart, pieces_can}
use Rattle.elf_make.proofs.CodeWritten.{area-written}
use Rattle.elf_make.proofs.HeadersRead.{headers-read}
use Rattle.elf_make.proofs.LayoutRead.{layout-read}
use Rattle.elf_make.proofs.NamesMade.{names-read}
use Rattle.elf_make.proofs.PiecesWritten.{placed_in_pieces, written_in_pieces}
use Rattle.elf_make.proofs.SoundFiles.{readable}
use Rattle.elf_make.proofs.SectionsMade.{sections-read}
use Rattle.elf_make.proofs.SymbolsWritten.{symbols-read}
use Rattle.elf_write.specs.WriterInputs.{IsRead}
use Rattle.elf_write.proofs.writer.written.Goals as goal

pub made-requires-clause-readable : goal.made-requires-clause-readable
made-requires-clause-readable c = readable c.args.elf.now.file.now c.requires.sound

-- a plan is one for the place of its own area
above_tight : {Y Z : Type 0} (elf : Elf) (tables : List (String Y × Vec ℕ Z)) (code : List ℕ) (tight : Bool) (plan : Plan) →
    IsPlanOf elf tables code tight plan → IsPlanOf elf tables code plan.area.tight plan
above_tight elf tables code tight plan is =
    subst (λ (t : Bool). IsPlanOf elf tables code t plan) (sym (ap (λ (a : Area). a.tight) is.area)) is

pub made-requires-clause-plan : goal.made-requires-clause-plan
made-requires-clause-plan c =
    above_tight c.args.elf.now c.args.tables.now c.args.emitted.now.code.items c.in_ok-tight.tight c.in_ok-plan.plan
    (subst (λ (bs : List ℕ). IsPlanOf c.args.elf.now c.args.tables.now bs c.in_ok-tight.tight c.in_ok-plan.plan)
    c.deref-3.ensures.value c.in_ok-plan.ensures)

pub made-requires-clause-fragments : goal.made-requires-clause-fragments
made-requires-clause-fragments c =
    subst (λ (fragments : List Fragment). AreFragments c.args.funcs.now c.args.map.now fragments)
    (sym c.deref-2.ensures.value) c.in_ok-fragments.ensures

pub made-requires-clause-firsts : goal.made-requires-clause-firsts
made-requires-clause-firsts c =
    subst (λ (symbols : List Symbol). AreFirstNames symbols c.in_ok-names.names) c.deref.ensures.value c.in_ok-names.ensures

pub returns-clause-written : goal.returns-clause-written
returns-clause-written c = λ tight placed.
    let elf = c.args.elf.now in
    let s : Source = source_of elf c.args.emitted.now c.args.map.now c.args.tables.now in
    let w = c.in_ok-file.file.items in
    written_in_pieces s tight w c.requires.cells
    (all-written (in_pieces s) c.in_ok-plan.plan.area.tight w c.requires.read c.requires.sound c.requires.bytes
    (pieces_can elf s.cells c.requires.cells) (pieces_apart elf.segments.items s.cells c.requires.apart) c.in_ok-file.ensures.made
    (subst IsSound c.deref-4.ensures.value c.in_ok-check_read.ensures.sound)
    (ap (λ (a : Area). a.tight) c.in_ok-plan.ensures.area ∙ c.in_ok-tight.ensures)
    tight (placed_in_pieces s tight placed))

pub returns-clause-tables : goal.returns-clause-tables
returns-clause-tables c = λ tight placed.
    let elf = c.args.elf.now in
    let tables = c.args.tables.now in
    let code = c.args.emitted.now.code.items in
    let funcs = c.args.funcs.now in
    let cold = c.args.cold.now in
    let spans = c.args.map.now in
    let w = c.in_ok-file.file.items in
    let above = c.in_ok-plan.plan.area.tight in
    let s : Source = in_pieces (source_of elf c.args.emitted.now spans tables) in
    let can = pieces_can elf c.args.emitted.now.cells.items c.requires.cells in
    let apart = pieces_apart elf.segments.items c.args.emitted.now.cells.items c.requires.apart in
    let in_place = placed_in_pieces (source_of elf c.args.emitted.now spans tables) tight placed in
    let made = c.in_ok-file.ensures in
    let taken : IsRead w = subst IsRead c.deref-4.ensures.value c.in_ok-check_read.ensures in
    let there : above ≡ tight = placed-there s above w c.requires.read c.requires.sound c.requires.bytes can apart made.made
    taken.sound (ap (λ (a : Area). a.tight) c.in_ok-plan.ensures.area ∙ c.in_ok-tight.ensures) tight in_place in
    let stands =
    area-written s above w c.requires.read c.requires.sound made.made (subst (λ (t : Bool). HasPlace s t) (sym there) in_place)
    (λ i cell below. (can i cell below).some) tables made.has_tables in
    let area : Area = area_for elf tables code above in
    let made_area : made.made.layout.area ≡ area = made.made.laid_out.area in
    let made_shift : made.made.layout.shift ≡ shift_of elf.segments.items area =
    made.made.laid_out.shift ∙ ap (shift_of elf.segments.items) made_area in
    let settled : (P : Area → Shift → Type 0) → P made.made.layout.area made.made.layout.shift →
    P area (shift_of elf.segments.items area) =
    λ P holds. subst (P area) made_shift (subst (λ (a : Area). P a made.made.layout.shift) made_area holds) in
    let new : Elf = taken.new in
    let sections : AreNewSections elf new tables made.made.layout.area made.made.layout.shift code =
    sections-read s above w c.requires.read c.requires.sound made.made can tables made.sections new taken.is
    (subst (λ (a : Area). AreaStands a tables code w) (sym made.made.laid_out.area) stands) in
    let names : HaveNewNames elf new tables made.made.layout.area funcs cold =
    names-read s above w c.requires.read c.requires.sound made.made can tables made.sections new taken.is funcs cold made.names in
    subst (λ (t : Bool). HasNewTables elf tables code funcs cold spans t w) there (record {
      new = new;
      read = taken.is;
      sections = settled (λ a h. AreNewSections elf new tables a h code) sections;
      headers = settled (HasNewHeaders elf new tables)
          (headers-read s above w c.requires.read c.requires.sound made.made can tables made.sections new taken.is);
      names = settled (λ a h. HaveNewNames elf new tables a funcs cold) names;
      symbols = symbols-read s above w c.requires.read c.requires.sound made.made can tables made.sections new taken.is funcs cold
          made.symbols made.names sections names;
      layout = settled (HasFileLayout elf new tables)
          (layout-read s above w c.requires.read c.requires.sound made.made can tables made.sections new taken.is);
    })
