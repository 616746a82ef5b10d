-- Ranges that are written from runs contain just the bytes of these.
use Rattle.std.proofs.Common.{ℕ, ◌+◌, ◌-◌, ◌^◌, ◌≡◌, ◌∙◌, ◌&&◌, ◌||◌, List, [], ◌∷◌, Option, Some, None, Bool, true, false, refl, arith}
use Rattle.std.proofs.Common.{map, All, nat_le, nat_lt}
use Rattle.std.specs.Prelude.{is_some, if◌then◌else◌}
use Rattle.std.specs.Option.{option_or}
use Rattle.std.proofs.lemmas.List.Elements.{All-cons, All-head, All-nil, All-tail}
use Rattle.answer_runs.specs.declared.run.Run.{Run}
use Rattle.answer_runs.specs.AnswerRuns.{run_at, IsWithin}
use Rattle.cover_lists.specs.EntryOrders.{entry_first}
use Rattle.cover_lists.proofs.EntryOrderFacts.{EndsBy, order_ends, order_has}
use Rattle.dw_lists.specs.declared.list_kind.ListKind.TheVariants.{Ranges}
use Rattle.cover_lists.specs.Located.{ranges_in, hold}
use Rattle.list_writer.specs.ListBytes.{IsWritable, located_at}
use Rattle.list_writer.specs.WrittenRanges.{bounded}

pub ranges_hold : (rs : List (Run Bool)) (p : ℕ) → hold (Some (ranges_in (map located_at (map bounded rs)))) p ≡ is_some (run_at rs p)
ranges_hold [] p = refl
ranges_hold (r ∷ rs) p = step (nat_le r.start p && nat_lt p (r.start + r.len)) (run_at rs p) _ (ranges_hold rs p)
  where
    step : (b : Bool) (o : Option Bool) (c : Bool) → c ≡ is_some o → (b || c) ≡ is_some (option_or (if b then Some r.answer else None) o)
    step true o c e = refl
    step false o c e = e

-- That doesn't depend on the order of an entry's list.
pub order_holds : (at : ℕ) (rs : List (Run Bool)) (p : ℕ) →
    hold (Some (ranges_in (map located_at (map bounded (entry_first at rs))))) p ≡ is_some (run_at rs p)
order_holds at rs p = ranges_hold (entry_first at rs) p ∙ order_has at rs p

ends_writable : (rs : List (Run Bool)) → All (EndsBy (2 ^ 64 - 1)) rs → All (IsWritable Ranges) (map bounded rs)
ends_writable [] ends = All-nil (IsWritable Ranges)
ends_writable (r ∷ rs) ends =
    let h = All-head (EndsBy (2 ^ 64 - 1)) r rs ends in
    All-cons (IsWritable Ranges) (bounded r) (map bounded rs) (record
    { start = omega (arith, h); len = omega (arith, h); expression = refl })
    (ends_writable rs (All-tail (EndsBy (2 ^ 64 - 1)) r rs ends))

pub order_writable : (at : ℕ) (rs : List (Run Bool)) → IsWithin 0 rs (2 ^ 64 - 1) →
    All (IsWritable Ranges) (map bounded (entry_first at rs))
order_writable at rs w = ends_writable (entry_first at rs) (order_ends at (2 ^ 64 - 1) rs w)
