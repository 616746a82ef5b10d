-- The parts are in the written file.
use Rattle.std.proofs.Common.{◌≡◌, ◌∙◌, ap, subst, ℕ, ◌+◌, ◌-◌, ◌≤◌, ◌<◌, List, ◌++◌, take, drop, length, get_or}
use Rattle.std.proofs.Common.{arith, length-append, replicate}
use Rattle.std.proofs.lemmas.Grind.{common_steps}
use Rattle.std.proofs.lemmas.List.{get_or-drop, get_or-take}
use Rattle.elf_parts.specs.Patches.{Stands}
use Rattle.elf_parts.specs.declared.parts.Parts.{Parts}
use Rattle.elf_parts.specs.Parts.{PartsFit, HasParts}
use Rattle.elf_parts.proofs.Patches.{stands-front, stands-behind}

stands-at : (file : List ℕ) (o p : ℕ) (bytes : List ℕ) → o ≡ p → Stands file o bytes → Stands file p bytes
stands-at file o p bytes e stands = subst (λ (k : ℕ). Stands file k bytes) e stands

stands-whole : (bytes : List ℕ) → Stands bytes 0 bytes
stands-whole bytes = record { within = omega arith; same = λ j below. ap (λ (k : ℕ). get_or bytes k 0) (zero j) }
  where
    zero : (j : ℕ) → 0 + j ≡ j
    zero j = omega arith

pub has_parts : (parts : Parts) (input area zeros more : List ℕ) → PartsFit parts (length input) (length area) →
    parts.keep + length zeros ≡ parts.area_at → parts.area_at + length area + length more ≡ parts.behind_at → HasParts parts input
    area ((((take parts.keep input ++ zeros) ++ area) ++ more) ++ take (parts.high - parts.low) (drop parts.low input))
has_parts parts input area zeros more can first second =
    let keep : parts.keep ≤ length input = can.front in
    let front : List ℕ = take parts.keep input in
    let rest : List ℕ = take (parts.high - parts.low) (drop parts.low input) in
    let front_size : length front ≡ parts.keep = grind (arith, common_steps) in
    let high : parts.high ≤ length input = can.from_input in
    let rest_size : length rest ≡ parts.high - parts.low = grind (arith, common_steps) in
    let one : length (front ++ zeros) ≡ parts.area_at =
    length-append front zeros ∙ ap (λ (n : ℕ). n + length zeros) front_size ∙ first in
    let two : length ((front ++ zeros) ++ area) ≡ parts.area_at + length area =
    length-append (front ++ zeros) area ∙ ap (λ (n : ℕ). n + length area) one in
    let three : length (((front ++ zeros) ++ area) ++ more) ≡ parts.behind_at =
    length-append ((front ++ zeros) ++ area) more ∙ ap (λ (n : ℕ). n + length more) two ∙ second in
    record {
      front = stands-front _ rest 0 front
          (stands-front _ more 0 front (stands-front _ area 0 front (stands-front front zeros 0 front (stands-whole front))));
      middle = stands-front _ rest parts.area_at area
          (stands-front _ more parts.area_at area (stands-at _ _ _ area one (stands-behind (front ++ zeros) area)));
      behind = stands-at _ _ _ rest three (stands-behind (((front ++ zeros) ++ area) ++ more) rest);
      size = length-append (((front ++ zeros) ++ area) ++ more) rest ∙ ap (λ (n : ℕ). n + length rest) three
          ∙ ap (λ (n : ℕ). parts.behind_at + n) rest_size;
    }

-- bytes of the front, and after the area
pub front-byte : (parts : Parts) (input area base : List ℕ) (k : ℕ) → HasParts parts input area base → parts.keep ≤ length input →
    k < parts.keep → get_or base k 0 ≡ get_or input k 0
front-byte parts input area base k has keep below =
    let size : length (take parts.keep input) ≡ parts.keep = grind (arith, common_steps) in
    ap (λ (o : ℕ). get_or base o 0) zero ∙ has.front.same k (omega arith) ∙ get_or-take parts.keep input k 0 below
  where
    zero : k ≡ 0 + k
    zero = omega arith

pub behind-byte : (parts : Parts) (input area base : List ℕ) (delta k : ℕ) → HasParts parts input area base →
    parts.high ≤ length input → parts.low + delta ≡ parts.behind_at → parts.low ≤ k → k < parts.high →
    get_or base (k + delta) 0 ≡ get_or input k 0
behind-byte parts input area base delta k has high at from below =
    let size : length (take (parts.high - parts.low) (drop parts.low input)) ≡ parts.high - parts.low =
    grind (arith, common_steps) in
    let place : k + delta ≡ parts.behind_at + (k - parts.low) = omega arith in
    let back : parts.low + (k - parts.low) ≡ k = omega arith in
    ap (λ (o : ℕ). get_or base o 0) place
    ∙ has.behind.same (k - parts.low) (omega arith)
    ∙ get_or-take (parts.high - parts.low) (drop parts.low input) (k - parts.low) 0 (omega arith)
    ∙ get_or-drop parts.low input (k - parts.low) 0
    ∙ ap (λ (o : ℕ). get_or input o 0) back

-- as they are joined
abbrev filled : List ℕ → ℕ → List ℕ
filled xs size = xs ++ replicate (size - length xs) 0

filled-length : (xs : List ℕ) (size : ℕ) → length xs ≤ size → length (filled xs size) ≡ size
filled-length xs size below =
    let zeros : length (replicate (size - length xs) 0) ≡ size - length xs = grind (arith, common_steps) in
    length-append xs (replicate (size - length xs) 0) ∙ ap (λ (n : ℕ). length xs + n) zeros ∙ add_back (length xs) size below
  where
    add_back : (a b : ℕ) → a ≤ b → a + (b - a) ≡ b
    add_back a b below = omega arith

pub parts-joined : (parts : Parts) (input area : List ℕ) → PartsFit parts (length input) (length area) →
    HasParts parts input area (filled (filled (take parts.keep input) parts.area_at ++ area) parts.behind_at
    ++ take (parts.high - parts.low) (drop parts.low input))
parts-joined parts input area can =
    let keep : parts.keep ≤ length input = can.front in
    let apart : parts.keep ≤ parts.area_at = can.apart in
    let behind : parts.area_at + length area ≤ parts.behind_at = can.behind in
    let front : length (take parts.keep input) ≡ parts.keep = grind (arith, common_steps) in
    let one : length (filled (take parts.keep input) parts.area_at) ≡ parts.area_at =
    filled-length (take parts.keep input) parts.area_at (omega arith) in
    let two : length (filled (take parts.keep input) parts.area_at ++ area) ≡ parts.area_at + length area =
    length-append (filled (take parts.keep input) parts.area_at) area ∙ ap (λ (n : ℕ). n + length area) one in
    let first : List ℕ = replicate (parts.area_at - length (take parts.keep input)) 0 in
    let second : List ℕ = replicate (parts.behind_at - length (filled (take parts.keep input) parts.area_at ++ area)) 0 in
    let zeros : length first ≡ parts.area_at - length (take parts.keep input) = grind (arith, common_steps) in
    let more : length second ≡ parts.behind_at - length (filled (take parts.keep input) parts.area_at ++ area) =
    grind (arith, common_steps) in
    has_parts parts input area first second can (omega arith) (omega arith)
