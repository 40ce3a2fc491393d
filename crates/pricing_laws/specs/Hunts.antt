-- What a walk over the groups of some colours keeps.
use Rattle.std.specs.Prelude.{ℕ, ℤ, List, [], ◌∷◌, ◌++◌, slice_index_or}
use Rattle.mill_model.specs.Columns.{Column}
use Rattle.pricing_laws.specs.Bounds.{IsMost}
use Rattle.pricing_laws.specs.Choices.{AreChosen, IsChoice}
use Rattle.pricing_laws.specs.Parts.{left_of}
use Rattle.pricing_laws.specs.Searches.{IsQueue, Queue, Search}

-- a search, some colours, and the queue of their groups
pub record Hunt : Type 0 where
  pub search : Search
  pub colours : List ℕ
  pub queue : Queue
  pub queued : IsQueue search colours queue

-- the heads taken from the queue, where so many are left, with the weight and the gain of their groups
abbrev pub AreTakenIn : Hunt → ℕ → List ℕ → ℕ → ℤ → Type 0
AreTakenIn h left chosen weight gain = AreChosen h.search.frame.groups h.queue.heads left chosen weight gain

-- a bound on what those left gain beside a load
abbrev pub IsMostIn : Hunt → ℕ → ℕ → ℤ → Type 0
IsMostIn h left load most = IsMost h.search.problem.mill h.search.problem.prices h.search.frame.groups (left_of h.queue.heads left) load most

-- a column of the groups taken and of some of those left
abbrev pub IsChoiceIn : Hunt → List ℕ → ℕ → Column → Type 0
IsChoiceIn h chosen left c = IsChoice h.search.frame.groups.heads chosen (left_of h.queue.heads left) c

-- the same with the group at a place of the queue
abbrev pub AreTakenWith : Hunt → ℕ → List ℕ → ℕ → ℤ → Type 0
AreTakenWith h at chosen weight gain = AreTakenIn h at (chosen ++ slice_index_or h.queue.heads at 0 ∷ []) weight gain

abbrev pub IsChoiceWith : Hunt → List ℕ → ℕ → Column → Type 0
IsChoiceWith h chosen at c = IsChoiceIn h (chosen ++ slice_index_or h.queue.heads at 0 ∷ []) at c
