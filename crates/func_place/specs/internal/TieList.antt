-- Pairs of functions, in the terms of the code.
use Rattle.std.specs.Prelude.{◌≡◌, ◌≢◌, ◌⊎◌, ℕ, ◌<◌, ◌≤◌, List, Some, length, slice_get, slice_index, slice_index_or}
use Rattle.rv_code.specs.declared.placed.Placed.{Placed}
use Rattle.rv_code.specs.declared.placed.Func.{Func}
use Rattle.rv_code.specs.layout.Blocks.{inst_at}
use Rattle.rv_code.specs.layout.FunctionMembers.{function_at}
use Rattle.func_place.specs.Units.{LeadsNear}
use Rattle.func_place.specs.internal.Groups.{Grouping}

-- the pair of the function f and another one that contains an address
pub record TiesAt (funcs : List Func) (f to : ℕ) (t : ℕ × ℕ) : Type 0 where
  pub from : t.0 ≡ f
  pub into : function_at funcs to ≡ Some t.1
  pub other : t.1 ≢ f

-- an address to which the instruction with index i of a function leads
pub record TiesFrom (funcs : List Func) (f i : ℕ) (t : ℕ × ℕ) : Type 0 where
  pub func : Func
  pub is_func : slice_get funcs f ≡ Some func
  pub inst : Placed
  pub is_inst : inst_at func i ≡ Some inst
  pub to : ℕ
  pub leads : LeadsNear func i inst to
  pub ties : TiesAt funcs f to t

-- an address to which some instruction of a function leads
pub record TiesOf (funcs : List Func) (f : ℕ) (t : ℕ × ℕ) : Type 0 where
  pub at : ℕ
  pub ties : TiesFrom funcs f at t

-- an address to which some instruction of some function leads
pub record Ties (funcs : List Func) (t : ℕ × ℕ) : Type 0 where
  pub place : ℕ
  pub ties : TiesOf funcs place t

-- Classes of pairs in a list.

abbrev pub tie_at : List (ℕ × ℕ) → ℕ → ℕ × ℕ
tie_at ties k = slice_index_or ties k (0, 0)

-- f and g are one of the first n pairs
pub record IsTie (ties : List (ℕ × ℕ)) (n f g : ℕ) : Type 0 where
  pub by : ℕ
  pub within : by < n
  pub ends : ((tie_at ties by).0 ≡ f) × ((tie_at ties by).1 ≡ g)

abbrev pub Touch : List (ℕ × ℕ) → ℕ → ℕ → ℕ → Type 0
Touch ties n f g = IsTie ties n f g ⊎ IsTie ties n g f

-- f and g are in one class
pub data AreTogether (ties : List (ℕ × ℕ)) (n f : ℕ) : ℕ → Type 0 where
  same : AreTogether ties n f f
  more : {g h : ℕ} → AreTogether ties n f g → Touch ties n g h → AreTogether ties n f h

-- two members have the same number exactly if the first i pairs tie them together
pub record Agrees (ties : List (ℕ × ℕ)) (i : ℕ) (g : Grouping) : Type 0 where
  pub ends : (k : ℕ) → k < i → slice_index g.numbers (tie_at ties k).0 ≡ slice_index g.numbers (tie_at ties k).1
  pub together : (f h : ℕ) → f < length g.lists → h < length g.lists →
      slice_index g.numbers f ≡ slice_index g.numbers h → AreTogether ties i f h

-- the pair with index i is (a, b), and it and all earlier pairs are of numbers below n
pub record IsTied (ties : List (ℕ × ℕ)) (i a b n : ℕ) : Type 0 where
  pub is : tie_at ties i ≡ (a, b)
  pub inside : (k : ℕ) → k ≤ i → ((tie_at ties k).0 < n) × ((tie_at ties k).1 < n)
