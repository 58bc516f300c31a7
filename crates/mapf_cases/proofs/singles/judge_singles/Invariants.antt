use Rattle.std.proofs.Common.{length, take}
use Rattle.mapf_cases.specs.Floors.{CoverAgents, AreFloors}
use Rattle.mapf_cases.specs.Places.{AreSingles, place_of}
use Rattle.mapf_cases.proofs.singles.judge_singles.Given as goal

abbrev pub invariant-loop-k : goal.invariant-loop-k
invariant-loop-k l = record {
  cover : CoverAgents (length l.leaf.start_distances.now) l.floors;
  floors : AreFloors l.leaf.known.now l.list.unit l.leaf.start_distances.now (take l.k l.singles) l.leaf.agents.now l.floors;
  singles : AreSingles (place_of l.leaf) l.list.list_number (take l.k l.singles);
}
