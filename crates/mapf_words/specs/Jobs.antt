-- What a command line asks for.
use Rattle.std.specs.Prelude.{◌≡◌, ◌≢◌, ◌⊎◌, ◌≤◌, ◌*◌, ⊤, ℕ, List, [], None, Some, unwrap_or, codes}
use Rattle.std.specs.String.{string_bytes}
use Rattle.std.specs.Str.Parse.{IsNumeral, digits_value, without_leading_plus}
use Rattle.clap.specs.Matches.{first_value, one_text}
use Rattle.clap.specs.declared.parser.matches.Found.{Found}
use Rattle.mapf_model.specs.Limits.{most_agents, most_splits}
use Rattle.mapf_words.specs.declared.job.Job.{Job}
use Rattle.mapf_words.specs.declared.job.Job.TheVariants.{Demo, Solve, SolveBy, SolveInJson, Check, CheckInJson}
use Rattle.mapf_words.specs.declared.job.Job.TheVariants.{Play, Dispatch, Follow, Explain}
use Rattle.mapf_words.specs.declared.job.Search.{Search}
use Rattle.mapf_words.specs.declared.job.Search.TheVariants.{Cbs, Cbsh}

-- the most improvements of a first plan that may be asked for
abbrev pub most_improvements : ℕ
most_improvements = 1000000

-- how many improvements are tried for each agent if no number is asked for
abbrev pub improvements_for_each : ℕ
improvements_for_each = 50

-- 1 to 200 agents, at most 100,000 splits, and at most 1,000,000 improvements
abbrev pub IsInRange : Job → Type 0
IsInRange Demo = ⊤
IsInRange (Solve map scen k limit plan cert) = (1 ≤ k) × (k ≤ most_agents) × (limit ≤ most_splits)
IsInRange (SolveBy search map scen k limit improvements plan cert) =
    (1 ≤ k) × (k ≤ most_agents) × (limit ≤ most_splits) × (improvements ≤ most_improvements)
IsInRange (SolveInJson search map scen k limit improvements plan cert) =
    (1 ≤ k) × (k ≤ most_agents) × (limit ≤ most_splits) × (improvements ≤ most_improvements)
IsInRange (Check map scen k plan cert) = (1 ≤ k) × (k ≤ most_agents)
IsInRange (CheckInJson map scen k plan cert) = (1 ≤ k) × (k ≤ most_agents)
IsInRange (Play map scen k plan) = (1 ≤ k) × (k ≤ most_agents)
IsInRange (Dispatch map scen k plan events) = (1 ≤ k) × (k ≤ most_agents)
IsInRange (Follow map scen k plan) = (1 ≤ k) × (k ≤ most_agents)
IsInRange (Explain line) = ⊤

-- two names of files differ, or both are the null device's, where what is written is discarded
abbrev pub AreDistinctNames : List ℕ → List ℕ → Type 0
AreDistinctNames name other = name ≡ other → name ≡ codes "/dev/null"

-- neither output has the name of an input or of the other output, except that of the null device
abbrev pub AreOwnOutputs : (map scen plan cert : List ℕ) → Type 0
AreOwnOutputs map scen plan cert =
    AreDistinctNames plan map × AreDistinctNames plan scen × AreDistinctNames cert map × AreDistinctNames cert scen
    × AreDistinctNames cert plan

-- no output has the name of an input or of another output, except that of the null device
abbrev pub HasOwnOutputs : Job → Type 0
HasOwnOutputs Demo = ⊤
HasOwnOutputs (Solve map scen k limit plan cert) =
    AreOwnOutputs (string_bytes map) (string_bytes scen) (string_bytes plan) (string_bytes cert)
HasOwnOutputs (SolveBy search map scen k limit improvements plan cert) =
    AreOwnOutputs (string_bytes map) (string_bytes scen) (string_bytes plan) (string_bytes cert)
HasOwnOutputs (SolveInJson search map scen k limit improvements plan cert) =
    AreOwnOutputs (string_bytes map) (string_bytes scen) (string_bytes plan) (string_bytes cert)
HasOwnOutputs (Check map scen k plan cert) = ⊤
HasOwnOutputs (CheckInJson map scen k plan cert) = ⊤
HasOwnOutputs (Play map scen k plan) = ⊤
HasOwnOutputs (Dispatch map scen k plan events) = ⊤
HasOwnOutputs (Follow map scen k plan) = ⊤
HasOwnOutputs (Explain line) = ⊤

-- the first value of the argument of that name, or the empty text if it has none
abbrev pub named : Found → List ℕ → List ℕ
named found name = unwrap_or (first_value found name) []

-- the argument of that name is a decimal numeral, with a plus sign or without, of this number
abbrev pub IsNumberOf : Found → List ℕ → ℕ → Type 0
IsNumberOf found name n = (text : List ℕ) × (one_text found name ≡ Some text)
    × IsNumeral 10 (without_leading_plus text) × (n ≡ digits_value 10 (without_leading_plus text))

-- the option `--search` names this search; plain search also if it isn't given
abbrev pub IsSearchOf : Found → Search → Type 0
IsSearchOf found Cbs =
    (first_value found (codes "search") ≡ None) ⊎ (first_value found (codes "search") ≡ Some (codes "cbs"))
IsSearchOf found Cbsh = first_value found (codes "search") ≡ Some (codes "cbsh")

-- the option `--improve` gives this number of improvements; without it there are 50 for each of the k agents
abbrev pub IsImprovementsOf : Found → ℕ → ℕ → Type 0
IsImprovementsOf found k n =
    ((first_value found (codes "improve") ≡ None) × (n ≡ improvements_for_each * k))
    ⊎ IsNumberOf found (codes "improve") n

-- the same by this search; plain search takes no `--improve`, and makes none
abbrev pub IsEffortOf : Found → Search → ℕ → ℕ → Type 0
IsEffortOf found Cbs k n = (first_value found (codes "improve") ≡ None) × (n ≡ 0)
IsEffortOf found Cbsh k n = IsImprovementsOf found k n

-- the option `--json` is given
abbrev pub AsksForJson : Found → Type 0
AsksForJson found = first_value found (codes "json") ≡ Some (codes "true")

-- the arguments of `solve` are these file names and numbers
pub record IsSolveOf (command : List ℕ) (found : Found) (map scen : List ℕ) (k limit : ℕ) (plan cert : List ℕ)
    : Type 0 where
  pub command_is : command ≡ codes "solve"
  pub map_is : map ≡ named found (codes "MAP")
  pub scen_is : scen ≡ named found (codes "SCEN")
  pub k_is : IsNumberOf found (codes "K") k
  pub limit_is : IsNumberOf found (codes "LIMIT") limit
  pub plan_is : plan ≡ named found (codes "PLAN")
  pub cert_is : cert ≡ named found (codes "CERT")

-- the arguments of `check` are these file names and this number
pub record IsCheckOf (command : List ℕ) (found : Found) (map scen : List ℕ) (k : ℕ) (plan cert : List ℕ)
    : Type 0 where
  pub command_is : command ≡ codes "check"
  pub map_is : map ≡ named found (codes "MAP")
  pub scen_is : scen ≡ named found (codes "SCEN")
  pub k_is : IsNumberOf found (codes "K") k
  pub plan_is : plan ≡ named found (codes "PLAN")
  pub cert_is : cert ≡ named found (codes "CERT")

-- a job of this command: its file names and its numbers are those of the arguments; plain search takes no `--improve`,
-- and an object of JSON is told if and only if it is asked for
abbrev pub IsJobOf : List ℕ → Found → Job → Type 0
IsJobOf command found Demo = ⊥
IsJobOf command found (Solve map scen k limit plan cert) =
    (AsksForJson found → ⊥) × IsSearchOf found Cbs × (first_value found (codes "improve") ≡ None)
    × IsSolveOf command found (string_bytes map) (string_bytes scen) k limit (string_bytes plan) (string_bytes cert)
IsJobOf command found (SolveBy search map scen k limit improvements plan cert) =
    (AsksForJson found → ⊥) × IsSearchOf found search × (search ≢ Cbs) × IsImprovementsOf found k improvements
    × IsSolveOf command found (string_bytes map) (string_bytes scen) k limit (string_bytes plan) (string_bytes cert)
IsJobOf command found (SolveInJson search map scen k limit improvements plan cert) =
    AsksForJson found × IsSearchOf found search × IsEffortOf found search k improvements
    × IsSolveOf command found (string_bytes map) (string_bytes scen) k limit (string_bytes plan) (string_bytes cert)
IsJobOf command found (Check map scen k plan cert) =
    (AsksForJson found → ⊥)
    × IsCheckOf command found (string_bytes map) (string_bytes scen) k (string_bytes plan) (string_bytes cert)
IsJobOf command found (CheckInJson map scen k plan cert) =
    AsksForJson found
    × IsCheckOf command found (string_bytes map) (string_bytes scen) k (string_bytes plan) (string_bytes cert)
IsJobOf command found (Play map scen k plan) =
    (command ≡ codes "play") × (string_bytes map ≡ named found (codes "MAP"))
    × (string_bytes scen ≡ named found (codes "SCEN")) × IsNumberOf found (codes "K") k
    × (string_bytes plan ≡ named found (codes "PLAN"))
IsJobOf command found (Dispatch map scen k plan events) =
    (command ≡ codes "dispatch") × (string_bytes map ≡ named found (codes "MAP"))
    × (string_bytes scen ≡ named found (codes "SCEN")) × IsNumberOf found (codes "K") k
    × (string_bytes plan ≡ named found (codes "PLAN")) × (string_bytes events ≡ named found (codes "EVENTS"))
IsJobOf command found (Follow map scen k plan) =
    (command ≡ codes "follow") × (string_bytes map ≡ named found (codes "MAP"))
    × (string_bytes scen ≡ named found (codes "SCEN")) × IsNumberOf found (codes "K") k
    × (string_bytes plan ≡ named found (codes "PLAN"))
IsJobOf command found (Explain line) =
    (command ≡ codes "explain") × (string_bytes line ≡ named found (codes "LINE"))
