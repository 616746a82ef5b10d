-- The pairs and counts of a text's lines, one more line at a time.
use Rattle.std.proofs.Common.{◌≡◌, ◌≤◌, ◌+◌, ◌∙◌, ℕ, cond, List, [], ◌∷◌, ◌++◌, Some, None, length, arith, ap, sym, filter_map}
use Rattle.std.proofs.Common.{append_assoc, length-append}
use Rattle.std.proofs.lemmas.List.{append-nil}
use Rattle.edge_profile.specs.declared.reading.ProfileLines.{ProfileLines}
use Rattle.edge_profile.specs.ReadLines.{SaysAll}
use Rattle.std.specs.List.{cons_option}
use Rattle.std.proofs.lemmas.List.Sums.{sum_by-cons}
use Rattle.edge_profile.proofs.LineLists.{length-lines}
use Rattle.std.specs.Prelude.{count_by, is_none}
use Rattle.rv_code.specs.declared.placed.Func.{Func}
use Rattle.elf_image.specs.declared.symbol.Symbol.{Symbol}
use Rattle.edge_profile.specs.Grammar.{lines}
use Rattle.edge_profile.specs.PairCounts.{Counted, counted_by}
use Rattle.edge_profile.specs.FunctionNames.{AreNamesOf}
use Rattle.edge_profile.specs.declared.function_names.FunctionNames.{FunctionNames}

-- the lines read so far, and the text after them
pub record SaysTo (names : FunctionNames) (funcs : List Func) (text left : List ℕ) (counted : List Counted)
    (ignored : ℕ) : Type 0 where
  pub counted_is : (symbols : List Symbol) → AreNamesOf symbols names
      → counted ++ filter_map (counted_by symbols funcs) (lines left) ≡ filter_map (counted_by symbols funcs) (lines text)
  pub ignored_is : (symbols : List Symbol) → AreNamesOf symbols names
      → ignored + count_by (λ line. is_none (counted_by symbols funcs line)) (lines left)
      ≡ count_by (λ line. is_none (counted_by symbols funcs line)) (lines text)
  pub few : length counted + ignored + length (lines left) ≤ length text

pub says_none : (names : FunctionNames) (funcs : List Func) (text left : List ℕ) (counted : List Counted)
    → left ≡ text → counted ≡ [] → SaysTo names funcs text left counted 0
says_none names funcs text left counted is none = record {
  counted_is = λ symbols are. (λ i. none i ++ filter_map (counted_by symbols funcs) (lines (is i)));
  ignored_is = λ symbols are. ap (λ l. 0 + count_by (λ line. is_none (counted_by symbols funcs line)) (lines l)) is ∙ omega arith;
  few =
      let bound = length-lines text in
      let nothing = ap length none in
      let same = ap (λ l. length (lines l)) is in
      omega (arith, bound, nothing, same);
}

module _ (names : FunctionNames) (funcs : List Func) (text left rest line : List ℕ) (counted : List Counted) (ignored : ℕ)
    (next : lines left ≡ line ∷ lines rest) (was : SaysTo names funcs text left counted ignored) where
  -- a line with a pair
  pub says_more : (p : Counted) → ((symbols : List Symbol) → AreNamesOf symbols names → Some p ≡ counted_by symbols funcs line)
      → SaysTo names funcs text rest (counted ++ p ∷ []) ignored
  says_more p is = record {
    counted_is = λ symbols are.
        let f = counted_by symbols funcs in
        append_assoc counted (p ∷ []) (filter_map f (lines rest))
        ∙ ap (λ o. counted ++ cons_option o (filter_map f (lines rest))) (is symbols are)
        ∙ ap (λ ls. counted ++ filter_map f ls) (sym next) ∙ was.counted_is symbols are;
    ignored_is = λ symbols are. ap (λ n. ignored + n) (sym (counted_one symbols are)) ∙ was.ignored_is symbols are;
    few =
        let more = length-append counted (p ∷ []) in
        let bound = was.few in
        let one = ap length next in
        omega (arith, more, bound, one);
  }
    where
      counted_one : (symbols : List Symbol) → AreNamesOf symbols names
          → count_by (λ l. is_none (counted_by symbols funcs l)) (lines left)
          ≡ count_by (λ l. is_none (counted_by symbols funcs l)) (lines rest)
      counted_one symbols are =
          ap (count_by (λ l. is_none (counted_by symbols funcs l))) next
          ∙ sum_by-cons (λ l. cond (is_none (counted_by symbols funcs l)) 1 0) line (lines rest)
          ∙ ap
          (λ o. cond (is_none o) 1 0 + count_by (λ l. is_none (counted_by symbols funcs l)) (lines rest)) (sym (is symbols are))
          ∙ omega arith

  -- a line without a pair
  pub says_nothing : ((symbols : List Symbol) → AreNamesOf symbols names → None ≡ counted_by symbols funcs line)
      → SaysTo names funcs text rest counted (ignored + 1)
  says_nothing is = record {
    counted_is = λ symbols are.
        let f = counted_by symbols funcs in
        ap (λ o. counted ++ cons_option o (filter_map f (lines rest))) (is symbols are)
        ∙ ap (λ ls. counted ++ filter_map f ls) (sym next) ∙ was.counted_is symbols are;
    ignored_is = λ symbols are. let one = ignored_one symbols are in
        let before = was.ignored_is symbols are in
        omega (arith, one, before);
    few = let bound = was.few in let one = ap length next in omega (arith, bound, one);
  }
    where
      ignored_one : (symbols : List Symbol) → AreNamesOf symbols names
          → count_by (λ l. is_none (counted_by symbols funcs l)) (lines left)
          ≡ 1 + count_by (λ l. is_none (counted_by symbols funcs l)) (lines rest)
      ignored_one symbols are =
          ap (count_by (λ l. is_none (counted_by symbols funcs l))) next
          ∙ sum_by-cons (λ l. cond (is_none (counted_by symbols funcs l)) 1 0) line (lines rest)
          ∙ ap
          (λ o. cond (is_none o) 1 0 + count_by (λ l. is_none (counted_by symbols funcs l)) (lines rest)) (sym (is symbols are))

-- no line is left
pub says_all : (names : FunctionNames) (funcs : List Func) (text left : List ℕ) (said : ProfileLines) → lines left ≡ []
    → SaysTo names funcs text left said.counted.items said.ignored
    → (symbols : List Symbol) → AreNamesOf symbols names → SaysAll symbols funcs text said
says_all names funcs text left said none is symbols are = record {
  counted =
      sym (append-nil said.counted.items) ∙ ap (λ ls. said.counted.items ++ filter_map (counted_by symbols funcs) ls) (sym none)
      ∙ is.counted_is symbols are;
  ignored =
      let nothing = ap (count_by (λ line. is_none (counted_by symbols funcs line))) none in
      let all = is.ignored_is symbols are in
      omega (arith, nothing, all);
}

pub says_few : (names : FunctionNames) (funcs : List Func) (text left : List ℕ) (counted : List Counted) (ignored : ℕ)
    → SaysTo names funcs text left counted ignored → length counted ≤ length text
says_few names funcs text left counted ignored is = let bound = is.few in omega (arith, bound)
