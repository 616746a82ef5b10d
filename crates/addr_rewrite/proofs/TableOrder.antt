-- Tables that a walk finds follow one another.
use Rattle.std.proofs.Common.{◌≡◌, ◌≤◌, ◌+◌, ℕ, zero, suc, Bool, true, false, List, [], ◌∷◌, Option, Some, None, refl, arith}
use Rattle.std.proofs.Common.{length, drop, take, nat_le}
use Rattle.std.specs.Prelude.{◌&&◌, if◌then◌else◌}
use Rattle.std.specs.Option.{option_map_or}
use Rattle.rb_bytes.proofs.ListLemmas.{taken_less}
use Rattle.table_core.specs.DebugUnits.{Walked, is_whole_unit, unit_length, units_from, walked}
use Rattle.table_core.proofs.UnitsWalk.{whole_fits}
use Rattle.dw_unit.proofs.UnitEnds.{rest_size}
use Rattle.addr_rewrite.specs.TableOrder.{AreInOrder}

pub order_less : (from less to : ℕ) (ws : List Walked) → less ≤ from → AreInOrder from to ws → AreInOrder less to ws
order_less from less to [] h o = omega arith
order_less from less to (w ∷ ws) h o = let g = o.0 in (omega arith, o.1, o.2)

pub order_within : (from to : ℕ) (ws : List Walked) → AreInOrder from to ws → from ≤ to
order_within from to [] o = o
order_within from to (w ∷ ws) o = by_bytes w.bytes o.1 where
  by_bytes : (b : Option (List ℕ)) → option_map_or (λ (bytes : List ℕ). w.place + 4 + length bytes) b w.place ≤ to → from ≤ to
  by_bytes None h = let g = o.0 in omega arith
  by_bytes (Some bytes) h = let g = o.0 in omega arith

-- For one table: no bytes, or those of a whole one.
end_by : (n place : ℕ) (left : List ℕ) (b : Bool) →
    option_map_or (λ (bytes : List ℕ). place + 4 + length bytes) (if b then Some (take n left) else None) place ≤ place + (n + 4)
end_by n place left true = let t = taken_less n left in omega arith
end_by n place left false = omega arith

in_order : (n version place size : ℕ) (left : List ℕ) → place + length left ≤ size → AreInOrder place size (units_from n version place left)
unfolding units_from
in_order zero version place size left h = omega arith
in_order (suc n) version place size [] h = omega arith
in_order (suc n) version place size (b ∷ rest) h =
    by_whole (is_whole_unit (b ∷ rest)) refl (λ p l k. in_order n version p size l k) where
      by_whole : (whole : Bool) → is_whole_unit (b ∷ rest) ≡ whole →
          ((p : ℕ) (l : List ℕ) → p + length l ≤ size → AreInOrder p size (units_from n version p l)) →
          (place ≤ place)
          × (option_map_or (λ (bytes : List ℕ). place + 4 + length bytes)
          (if whole && nat_le 2 (unit_length (b ∷ rest)) then Some (take (unit_length (b ∷ rest)) (drop 4 (b ∷ rest))) else None) place ≤
          size)
          × AreInOrder (option_map_or (λ (bytes : List ℕ). place + 4 + length bytes)
          (if whole && nat_le 2 (unit_length (b ∷ rest)) then Some (take (unit_length (b ∷ rest)) (drop 4 (b ∷ rest))) else None) place)
          size
          (if whole then units_from n version (place + (unit_length (b ∷ rest) + 4)) (drop (unit_length (b ∷ rest) + 4) (b ∷ rest)) else [])
      by_whole true e ih =
          let w = whole_fits (b ∷ rest) e in
          let more = end_by (unit_length (b ∷ rest)) place (drop 4 (b ∷ rest)) (nat_le 2 (unit_length (b ∷ rest))) in (
            omega arith,
            omega arith,
            order_less (place + (unit_length (b ∷ rest) + 4)) _ size _ more
                (ih (place + (unit_length (b ∷ rest) + 4)) (drop (unit_length (b ∷ rest) + 4) (b ∷ rest))
                (rest_size (unit_length (b ∷ rest) + 4) place size (b ∷ rest) w h)),
          )
      by_whole false e ih = (omega arith, omega arith, omega arith)

pub walked_order : (version : ℕ) (section : List ℕ) → AreInOrder 0 (length section) (walked version section)
walked_order version section = in_order (length section) version 0 (length section) section (omega arith)
