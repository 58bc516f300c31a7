use Rattle.std.proofs.Common.{◌≡◌, ◌+◌, ◌-◌, ◌*◌, List, ◌++◌, length}
use Rattle.mapf_model.specs.declared.state.State.{State}
use Rattle.mapf_spacetime.proofs.SweepInvariants.{AreTaken}
use Rattle.mapf_spacetime.proofs.sweep.Sweep.reach.Given as goal

abbrev pub invariant-loop-cell : goal.invariant-loop-cell
invariant-loop-cell l = record {
  taken : (states : List State) × AreTaken l.tick l.initial.self-inside.next_cells l.self-inside.next_cells states × (l.self-inside.states.items ≡ l.initial.self-inside.states.items ++ states);
  room : length l.self-inside.next_cells ≡ length l.initial.self-inside.next_cells;
  bound : l.self-inside.bound ≡ l.initial.self-inside.bound;
  cut : l.self-inside.is_cut ≡ l.initial.self-inside.is_cut;
  first : l.self-inside.first ≡ l.initial.self-inside.first;
  now : l.self-inside.tick ≡ l.initial.self-inside.tick;
}

abbrev pub decreases-loop-cell : goal.decreases-loop-cell
decreases-loop-cell l = (64 * length l.self-inside.next_cells + length l.initial.self-inside.states.items) - length l.self-inside.states.items
