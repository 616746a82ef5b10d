-- Looking up names by their suffixes: each name is written backwards, so that names with the same suffix have the same
-- beginning.
use Rattle.std.specs.Prelude.{◌≡◌, ◌<◌, ◌≤◌, ◌==◌, ℕ, zero, suc, false, List, [], ◌∷◌, ◌++◌, Option, Some, None}
use Rattle.std.specs.Prelude.{option_map, if◌then◌else◌, length, take, reverse, slice_index_or, bytes_eq, Vec}
use Rattle.std.specs.Ordering.{is_lt, nat_cmp}
use Rattle.std.specs.Cmp.Lexicographic.{slice_cmp}
use Rattle.std.specs.declared.alloc.Global.{Global}
use Rattle.elf_image.specs.file.Sections.{text_of}
use Rattle.edge_profile.specs.declared.name_ends.Ending.{Ending}

-- a name written backwards, and several
abbrev pub BackwardName : Type 0
BackwardName = Vec ℕ Global

abbrev pub Backward : Type 0
Backward = List BackwardName

-- the names are in lexicographic order
abbrev pub AreInOrder : Backward → Type 0
AreInOrder names = (i j : ℕ) (d : BackwardName) → i ≤ j → j < length names →
    is_lt (slice_cmp nat_cmp (slice_index_or names j d).items (slice_index_or names i d).items) ≡ false

-- a name, written backwards, has the suffix `end`
abbrev pub HasEnd : List ℕ → BackwardName → Type 0
HasEnd end name = take (length end) name.items ≡ reverse end

-- the names with the suffix `end` are those from e.start to before e.end
pub record IsEnding (names : Backward) (end : List ℕ) (e : Ending) : Type 0 where
  pub ordered : e.start ≤ e.end
  pub within : e.end ≤ length names
  pub depth_is : e.depth ≡ length end
  pub before : (k : ℕ) (d : BackwardName) → k < e.start → HasEnd end (slice_index_or names k d) → ⊥
  pub inside : (k : ℕ) (d : BackwardName) → e.start ≤ k → k < e.end → HasEnd end (slice_index_or names k d)
  pub behind : (k : ℕ) (d : BackwardName) → e.end ≤ k → k < length names → HasEnd end (slice_index_or names k d) → ⊥

-- the index of the first of `names` that is `name`
abbrev pub index_of : Backward → List ℕ → Option ℕ
index_of [] name = None
index_of (n ∷ names) name = if bytes_eq n.items (reverse name) then Some 0 else option_map suc (index_of names name)

-- the byte at an index plus 1, and 0 past the end
abbrev pub code_at : ℕ → List ℕ → ℕ
code_at index [] = 0
code_at zero (b ∷ bytes) = suc b
code_at (suc index) (b ∷ bytes) = code_at index bytes

-- the text that begins with a byte that is followed by `text`: empty if the byte is 0, which ends a text
abbrev pub text_before : ℕ → List ℕ → List ℕ
text_before byte text = if byte == 0 then [] else byte ∷ text

-- for each offset in a string table, from the last to the first, the index of the name that starts there
abbrev pub indices_in : Backward → List ℕ → List (Option ℕ)
indices_in names [] = []
indices_in names (b ∷ texts) = indices_in names texts ++ index_of names (text_of (b ∷ texts) 0) ∷ []
