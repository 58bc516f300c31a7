-- The agents of a scope, and marks of them.
use Rattle.std.specs.Prelude.{◌≡◌, ◌↔◌, ℕ, Bool, true, List, Contains, Some, slice_get}

-- the agents of the list have a mark, and no others
abbrev pub Mark : List ℕ → List Bool → Type 0
Mark agents marks = (agent : ℕ) → slice_get marks agent ≡ Some true ↔ Contains agents agent
