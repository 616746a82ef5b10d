-- What follows if none of the places of faults is present.
use Rattle.std.proofs.Common.{◌≡◌, ◌∙◌, ℕ, List, [], ◌∷◌, Option, Some, None}
use Rattle.std.specs.Option.{option_or}
use Rattle.rb_bytes.specs.FirstFault.{IsFree}
use Rattle.answer_runs.specs.Choices.{unless_any}
use Rattle.table_core.specs.DebugUnits.{other_version}
use Rattle.dw_unit.specs.Faults.{FaultPlaces, HasDwarfFault}
use Rattle.dw_unit.specs.Tables.{answers_if_free}
use Rattle.dw_unit.proofs.NoFaults.{absent, free_of}
use Rattle.addr_rewrite.specs.Aranges.{bad_table}
use Rattle.addr_rewrite.specs.Tables.{places_by}

pub answers_free : (p : FaultPlaces) (x : ℕ → Option ℕ) → IsFree (HasDwarfFault p) → answers_if_free p x ≡ Some x
answers_free p x free = let a = absent p free in λ i. unless_any (a.version i ∷ a.form i ∷ a.high i ∷ a.bad i ∷ []) x

pub places_free : (p : FaultPlaces) (section : List ℕ) → IsFree (HasDwarfFault p) → other_version 2 section ≡ None →
    bad_table section ≡ None →
    IsFree (HasDwarfFault (places_by p section))
places_free p section free version bad =
    let a = absent p free in
    free_of (places_by p section) (record {
      version = λ i. option_or (a.version i) (version i);
      form = a.form;
      high = a.high;
      bad = λ i. option_or (a.bad i) (bad i);
    })

-- The places of faults of units, joined with those of the section.
pub places_joined : (units read : FaultPlaces) (section : List ℕ) (version bad other bad_read : Option ℕ) → read ≡ units →
    version ≡ option_or read.version other → other ≡ other_version 2 section →
    bad ≡ option_or read.bad bad_read → bad_read ≡ bad_table section →
    record { version = version; form = read.form; high = read.high; bad = bad } ≡ places_by units section
places_joined units read section version bad other bad_read same joined is_other bad_joined is_bad =
    let first : version ≡ option_or units.version (other_version 2 section) =
    joined ∙ (λ i. option_or (same i).version (is_other i)) in
    let worst : bad ≡ option_or units.bad (bad_table section) = bad_joined ∙ (λ i. option_or (same i).bad (is_bad i)) in
    λ i. record { version = first i; form = (same i).form; high = (same i).high; bad = worst i }
