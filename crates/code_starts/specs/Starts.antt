-- The starts of instructions as lists.
use Rattle.std.specs.Prelude.{ℕ, zero, suc, ◌+◌, ◌-◌, nat_lt, if◌then◌else◌, List, [], ◌∷◌, flat_map}
use Rattle.elf_image.specs.declared.elf.Elf.{Elf}
use Rattle.elf_code.specs.Parts.{length_at}
use Rattle.code_starts.specs.declared.parts.Part.{Part}

-- The starts of at most n instructions, by their lengths, from address `a` to before `end`.
unfoldable pub starts_within : Elf → ℕ → ℕ → ℕ → List ℕ
starts_within elf end a zero = []
starts_within elf end a (suc n) = if nat_lt a end then a ∷ starts_within elf end (a + length_at elf a) n else []

abbrev pub starts_from : Elf → ℕ → ℕ → List ℕ
starts_from elf end a = starts_within elf end a (end - a)

-- The starts of the instructions of all parts, part by part.
abbrev pub starts_of : Elf → List Part → List ℕ
starts_of elf parts = flat_map (λ p. starts_from elf p.end p.start) parts
