-- The reports of some answers.
use Rattle.std.proofs.Common.{◌≡◌, pos, negsuc, [], ◌∷◌, ◌++◌, Some, None, true, false, refl}
use Rattle.std.specs.Prelude.{codes}
use Rattle.std.specs.Fmt.{digits}
use Rattle.cfi_rows.specs.declared.row.Cfa.TheVariants.{Reg}
use Rattle.cfi_rows.specs.declared.row.Rule.TheVariants.{Offset}
use Rattle.frame_rewrite.specs.FrameAnswers.{FrameAnswer}
use Rattle.line_rewrite.specs.LineAnswers.{LineSaid}
use Rattle.range_loc_rewrite.specs.Locations.{PlaceSaid}
use Rattle.lookup_core.specs.Report.{report_of}

abbrev said : LineSaid
said = record {
  unit = 0;
  rows =
      record {
        path = codes "/s/a.c";
        line = 2;
        column = 0;
        stmt = true;
        block = false;
        prologue = false;
        epilogue = false;
        isa = 0;
        disc = 3;
      } ∷ [];
}

abbrev place : PlaceSaid
place = record { entry = 38; attr = 2; expressions = (0x50 ∷ []) ∷ [] ∷ [] }

abbrev frame : FrameAnswer
frame = record {
  row = record { cfa = Reg 2 (pos 16); rules = (1, Offset (negsuc 7)) ∷ [] };
  ra = 1;
  handler = 0x10100;
  indirect = true;
  table = 0;
  signal = false;
  start = 0x10078;
  marked = false;
}

nothing : report_of None [] [] None ≡ codes "none\n"
nothing = refl

lines : report_of (Some said) (12 ∷ 25 ∷ []) (place ∷ []) (Some frame)
    ≡ codes "line /s/a.c:2:0 stmt disc 3\n" ++ codes "covers c\n" ++ codes "covers 19\n" ++ codes "places 26 2 50\n"
    ++ codes "places 26 2 -\n"
    ++ codes "unwind cfa r2+16 ra r1 r1=[cfa-8] handler *10100\n"
unfolding digits
lines = refl
