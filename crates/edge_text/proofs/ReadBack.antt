-- The text of pairs is read as these pairs.
use Rattle.std.proofs.Common.{◌≡◌, ◌∙◌, ◌+◌, ◌-◌, ◌<◌, ◌^◌, ℕ, true, List, [], ◌∷◌, ◌++◌, Option, Some, None, refl, ap, arith}
use Rattle.std.proofs.Common.{cond, append_assoc, flat_map, filter_map}
use Rattle.std.specs.Prelude.{◌==◌, count_by, is_none, option_and_then, codes, decimal}
use Rattle.std.specs.List.{list_any, cons_option}
use Rattle.std.proofs.lemmas.List.Sums.{sum_by-cons}
use Rattle.rv_code.specs.declared.placed.Func.{Func}
use Rattle.rv_code.specs.layout.FunctionLists.{AreLaidOut}
use Rattle.rv_code.specs.layout.ProgramCode.{is_code_address}
use Rattle.rb_bytes.specs.Text.{hexadecimal, hex_number, decimal_number}
use Rattle.rb_bytes.proofs.NumberTexts.{decimal_lower, decimal_read, hex_lower, hex_read}
use Rattle.elf_image.specs.declared.symbol.Symbol.{Symbol}
use Rattle.edge_profile.specs.PairCounts.{Counted, both_ends, counted_by}
use Rattle.edge_profile.specs.Grammar.{all_three, branch_line, lines, named_place}
use Rattle.edge_profile.specs.Names.{address_at, function_start}
use Rattle.edge_text.specs.EdgeText.{edge_line, start_at}
use Rattle.edge_text.proofs.LineTexts.{first_line, line_fields, line_with, line_written}
use Rattle.edge_text.proofs.NumberTexts.{short_hex_read}
use Rattle.edge_text.proofs.Starts.{in_code}

-- a pair of instructions, with a count that fits
pub record IsPairOfCode (funcs : List Func) (p : Counted) : Type 0 where
  pub from : is_code_address funcs p.0 ≡ true
  pub to : is_code_address funcs p.1 ≡ true
  pub fits : p.2 < 2 ^ 64

-- all of a list are such pairs
abbrev pub ArePairsOfCode : List Func → List Counted → Type 0
ArePairsOfCode funcs [] = Unit {0}
ArePairsOfCode funcs (p ∷ pairs) = IsPairOfCode funcs p × ArePairsOfCode funcs pairs

-- a line with its texts as bytes
line_spelled : (a b c d e : List ℕ)
    → codes "1 @" ++ (a ++ codes " " ++ b) ++ codes " 1 @" ++ (c ++ codes " " ++ d) ++ codes " 0 " ++ e ++ codes "\n"
    ≡ 49 ∷ 32 ∷ 64 ∷ ((a ++ 32 ∷ b) ++ 32 ∷ 49 ∷ 32 ∷ 64 ∷ ((c ++ 32 ∷ d) ++ 32 ∷ 48 ∷ 32 ∷ (e ++ 10 ∷ [])))
line_spelled a b c d e =
    let p = a ++ codes " " ++ b in
    let q = c ++ codes " " ++ d in
    append_assoc (codes "1 @" ++ p ++ codes " 1 @" ++ q ++ codes " 0 ") e (codes "\n")
    ∙ append_assoc (codes "1 @" ++ p ++ codes " 1 @" ++ q) (codes " 0 ") (e ++ codes "\n")
    ∙ append_assoc (codes "1 @" ++ p ++ codes " 1 @") q (codes " 0 " ++ (e ++ codes "\n"))
    ∙ append_assoc (codes "1 @" ++ p) (codes " 1 @") (q ++ (codes " 0 " ++ (e ++ codes "\n")))
    ∙ append_assoc (codes "1 @") p (codes " 1 @" ++ (q ++ (codes " 0 " ++ (e ++ codes "\n"))))
    ∙ (λ i. codes "1 @" ++ (append_assoc a (codes " ") b i
    ++ (codes " 1 @" ++ (append_assoc c (codes " ") d i ++ (codes " 0 " ++ (e ++ codes "\n"))))))

-- the pair and count that fields mean
abbrev said : List Symbol → List Func → List (List ℕ) → Option Counted
said symbols funcs fs =
    option_and_then (λ l. both_ends (address_at symbols funcs l.from) (address_at symbols funcs l.to) l.count) (branch_line fs)

said_is : (symbols : List Symbol) (funcs : List Func) (name offset name' offset' count : List ℕ) (o o' n : ℕ)
    → hex_number offset ≡ Some o → hex_number offset' ≡ Some o' → decimal_number count ≡ Some n
    → said symbols funcs ((49 ∷ []) ∷ name ∷ offset ∷ (49 ∷ []) ∷ name' ∷ offset' ∷ (48 ∷ []) ∷ count ∷ [])
    ≡ both_ends (address_at symbols funcs (record { name = name; offset = o }))
    (address_at symbols funcs (record { name = name'; offset = o' })) n
said_is symbols funcs name offset name' offset' count o o' n first second third =
    (λ i. option_and_then (λ l. both_ends (address_at symbols funcs l.from) (address_at symbols funcs l.to) l.count)
    (all_three (named_place name (first i)) (named_place name' (second i)) (third i)))

module _ (symbols : List Symbol) (funcs : List Func) (laid : AreLaidOut funcs) where
  -- the line of a pair, without its line feed
  abbrev body_of : Counted → List ℕ
  body_of p =
      line_with (hexadecimal (start_at funcs p.0)) (hexadecimal (p.0 - start_at funcs p.0))
      (hexadecimal (start_at funcs p.1)) (hexadecimal (p.1 - start_at funcs p.1)) (decimal p.2) []

  address_read : (a : ℕ) → is_code_address funcs a ≡ true
      → address_at symbols funcs (record { name = 64 ∷ hexadecimal (start_at funcs a); offset = a - start_at funcs a }) ≡ Some a
  address_read a code =
      let is = in_code funcs laid a code in
      let s = start_at funcs a in
      let o = a - start_at funcs a in
      let named : function_start funcs (hexadecimal s) ≡ Some s
      = ap (λ (n : Option ℕ). option_and_then (λ b. cond (list_any (λ f. f.start == b) funcs) (Some b) None) n)
      (short_hex_read s (omega (arith, is.from, is.low)))
      ∙ ap (λ b. cond b (Some s) None) is.starts in
      let whole : s + o ≡ a = omega (arith, is.from) in
      ap (λ (n : Option ℕ). option_and_then (λ start. cond (is_code_address funcs (start + o)) (Some (start + o)) None) n) named
      ∙ ap (λ b. cond (is_code_address funcs b) (Some b) None) whole
      ∙ ap (λ b. cond b (Some a) None) code

  module _ (p : Counted) (is : IsPairOfCode funcs p) where
    fits_start : (a : ℕ) → is_code_address funcs a ≡ true → start_at funcs a < 2 ^ 64
    fits_start a code = let at = in_code funcs laid a code in omega (arith, at.from, at.low)

    fits_offset : (a : ℕ) → is_code_address funcs a ≡ true → a - start_at funcs a < 2 ^ 64
    fits_offset a code = let at = in_code funcs laid a code in omega (arith, at.from, at.low)

    line_read : counted_by symbols funcs (body_of p) ≡ Some p
    line_read =
        let s = start_at funcs p.0 in
        let o = p.0 - start_at funcs p.0 in
        let s' = start_at funcs p.1 in
        let o' = p.1 - start_at funcs p.1 in
        ap (said symbols funcs)
        (line_fields (hexadecimal s) (hexadecimal o) (hexadecimal s') (hexadecimal o') (decimal p.2)
        (hex_lower s (fits_start p.0 is.from)) (hex_lower o (fits_offset p.0 is.from)) (hex_lower s' (fits_start p.1 is.to))
        (hex_lower o' (fits_offset p.1 is.to))
        (decimal_lower p.2 is.fits))
        ∙ said_is symbols funcs (64 ∷ hexadecimal s) (hexadecimal o) (64 ∷ hexadecimal s') (hexadecimal o') (decimal p.2) o o' p.2
        (hex_read o (fits_offset p.0 is.from)) (hex_read o' (fits_offset p.1 is.to)) (decimal_read p.2 is.fits)
        ∙ (λ i. both_ends (address_read p.0 is.from i) (address_read p.1 is.to i) p.2)

    line_first : (rest : List ℕ) → lines (edge_line funcs p ++ rest) ≡ body_of p ∷ lines rest
    line_first rest =
        let s = start_at funcs p.0 in
        let o = p.0 - start_at funcs p.0 in
        let s' = start_at funcs p.1 in
        let o' = p.1 - start_at funcs p.1 in
        ap (λ l. lines (l ++ rest)) (line_spelled (hexadecimal s) (hexadecimal o) (hexadecimal s') (hexadecimal o') (decimal p.2))
        ∙ ap lines (line_written (hexadecimal s) (hexadecimal o) (hexadecimal s') (hexadecimal o') (decimal p.2) rest)
        ∙ first_line (hexadecimal s) (hexadecimal o) (hexadecimal s') (hexadecimal o') (decimal p.2)
        (hex_lower s (fits_start p.0 is.from)) (hex_lower o (fits_offset p.0 is.from)) (hex_lower s' (fits_start p.1 is.to))
        (hex_lower o' (fits_offset p.1 is.to))
        (decimal_lower p.2 is.fits) rest

  pub read_back : (pairs : List Counted) → ArePairsOfCode funcs pairs →
      filter_map (counted_by symbols funcs) (lines (flat_map (edge_line funcs) pairs)) ≡ pairs
  read_back [] all = refl
  read_back (p ∷ pairs) all =
      ap (filter_map (counted_by symbols funcs)) (line_first p all.0 (flat_map (edge_line funcs) pairs))
      ∙ ap (λ (o : Option Counted). cons_option o
      (filter_map (counted_by symbols funcs) (lines (flat_map (edge_line funcs) pairs)))) (line_read p all.0)
      ∙ ap (λ rest. p ∷ rest) (read_back pairs all.1)

  pub none_ignored : (pairs : List Counted) → ArePairsOfCode funcs pairs →
      count_by (λ line. is_none (counted_by symbols funcs line)) (lines (flat_map (edge_line funcs) pairs)) ≡ 0
  none_ignored [] all = refl
  none_ignored (p ∷ pairs) all =
      ap (count_by (λ line. is_none (counted_by symbols funcs line))) (line_first p all.0 (flat_map (edge_line funcs) pairs))
      ∙ sum_by-cons (λ line. cond (is_none (counted_by symbols funcs line)) 1 0) (body_of p)
      (lines (flat_map (edge_line funcs) pairs))
      ∙ ap (λ (o : Option Counted). cond (is_none o) 1 0 + count_by (λ line. is_none (counted_by symbols funcs line))
      (lines (flat_map (edge_line funcs) pairs))) (line_read p all.0)
      ∙ let rest = none_ignored pairs all.1 in omega (arith, rest)
