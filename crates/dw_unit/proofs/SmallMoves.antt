-- Moves between addresses of 64 bits, and lists at offsets of 32 bits.
use Rattle.std.proofs.Common.{◌≡◌, ◌<◌, ◌^◌, ℕ, List, Option, Some, None, All, refl, subst, option_map}
use Rattle.std.proofs.lemmas.Option.{same_Some}
use Rattle.std.proofs.lemmas.List.Elements.{All-contains}
use Rattle.std.specs.List.{find}
use Rattle.rb_bytes.proofs.Searches.{find-found}
use Rattle.addr_map.specs.declared.span.Span.{Span}
use Rattle.addr_map.specs.Spans.{is_of, moved}
use Rattle.table_core.specs.declared.written.ListAt.{ListAt}
use Rattle.dw_unit.specs.EntryMoves.{is_list_of, new_list_offset}

pub moved_small : (spans : List Span) (a b : ℕ) → All (λ s. s.out < 2 ^ 64) spans → moved spans a ≡ Some b → b < 2 ^ 64
moved_small spans a b all e = step (find (is_of a) spans) refl e where
  step : (o : Option Span) → find (is_of a) spans ≡ o → option_map (λ (s : Span). s.out) o ≡ Some b → b < 2 ^ 64
  step None is f = absurd (cc)
  step (Some s) is f = subst (λ (n : ℕ). n < 2 ^ 64) (same_Some s.out b f)
      (All-contains (λ (s : Span). s.out < 2 ^ 64) spans s all (find-found (is_of a) spans s is).1)

pub lists_small : (lists : List ListAt) (entry attr o : ℕ) → All (λ l. l.offset < 2 ^ 32) lists →
    new_list_offset lists entry attr ≡ Some o → o < 2 ^ 32
lists_small lists entry attr o all e = step (find (is_list_of entry attr) lists) refl e where
  step : (x : Option ListAt) → find (is_list_of entry attr) lists ≡ x → option_map (λ (l : ListAt). l.offset) x ≡ Some o → o < 2 ^ 32
  step None is f = absurd (cc)
  step (Some l) is f =
      subst (λ (n : ℕ). n < 2 ^ 32) (same_Some l.offset o f) (All-contains (λ (l : ListAt). l.offset < 2 ^ 32) lists l all
      (find-found (is_list_of entry attr) lists l is).1)
