-- What a job may ask for.
use Rattle.std.specs.Prelude.{◌≤◌}
use Rattle.mapf_model.specs.Limits.{most_agents, most_splits}
use Rattle.mapf_bench.specs.declared.job.Job.{Job}

-- the numbers of agents and of splits that a run takes
pub record IsInRange (job : Job) : Type 0 where
  pub some : 1 ≤ job.agents
  pub few : job.agents ≤ most_agents
  pub limit : job.limit ≤ most_splits
