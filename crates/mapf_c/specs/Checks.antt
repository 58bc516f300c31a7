-- What a call that checks texts in memory answers. (own)
use Rattle.std.specs.Prelude.{◌≡◌, ◌≤◌, ◌<◌, ⊤, ℕ, List, Some, Result, IfErr, IfOk, MatchResult, length}
use Rattle.mapf_app.specs.Faults.{HasNoInnerMemory, IsChecking, IsOfInput}
use Rattle.mapf_app.specs.Headline.{IsDueVerdict, JudgesTruly}
use Rattle.mapf_app.specs.declared.fault.Fault.{Fault}
use Rattle.mapf_app.specs.declared.fault.Fault.TheVariants.{F1, F2, F3, F4, F5, F6, Refused}
use Rattle.mapf_app.specs.declared.fault.Input.{Input}
use Rattle.mapf_app.specs.declared.fault.Input.TheVariants.{Map, Scen, Plan, Cert, Events}
use Rattle.mapf_c.specs.Answers.{check_answer}
use Rattle.mapf_c.specs.declared.numbers.Answer.{Answer}
use Rattle.mapf_checker.specs.declared.fault.Verdict.{Verdict}
use Rattle.mapf_model.specs.Limits.{most_agents, most_cert_bytes, most_text_bytes}

-- so many agents may count
abbrev pub IsCount : ℕ → Type 0
IsCount agents = (1 ≤ agents) × (agents ≤ most_agents)

-- this text is longer than it may be
abbrev pub IsLong : (map scen plan cert : List ℕ) → Input → Type 0
IsLong map scen plan cert Map = most_text_bytes < length map
IsLong map scen plan cert Scen = most_text_bytes < length scen
IsLong map scen plan cert Plan = most_text_bytes < length plan
IsLong map scen plan cert Cert = most_cert_bytes < length cert
IsLong map scen plan cert Events = ⊥

-- if a text can't be read, it is longer than it may be
abbrev pub IsReadable : (map scen plan cert : List ℕ) → Fault → Type 0
IsReadable map scen plan cert (F1 fault) = ⊤
IsReadable map scen plan cert (F2 fault) = ⊤
IsReadable map scen plan cert (F3 fault) = ⊤
IsReadable map scen plan cert (F4 input) = IsLong map scen plan cert input
IsReadable map scen plan cert (F5 output) = ⊤
IsReadable map scen plan cert F6 = ⊤
IsReadable map scen plan cert (Refused refusal) = ⊤

-- a check of these texts may end so: a verdict is true of the problem that the map and the scenario spell, and an error
-- is one that the texts have. What has to be accepted is accepted, unless a text is too long or memory runs out
pub record IsCheckOf (map scen plan cert : List ℕ) (agents : ℕ) (ended : Result Verdict Fault) : Type 0 where
  pub verdict : IfOk ended (JudgesTruly (Some map) (Some scen) (Some plan) (Some cert) agents)
  pub accepted : (verdict : Verdict) → IsDueVerdict (Some map) (Some scen) (Some plan) (Some cert) agents verdict
      → MatchResult ended (λ given. given ≡ verdict) IsOfInput
  pub fault : IfErr ended (IsChecking (Some map) (Some scen) (Some plan) (Some cert) agents)
  pub inner : IfErr ended HasNoInnerMemory
  pub readable : IfErr ended (IsReadable map scen plan cert)

-- an answer tells how such a check ended
pub record IsAnswerOfCheck (map scen plan cert : List ℕ) (agents : ℕ) (answer : Answer) : Type 0 where
  pub ended : Result Verdict Fault
  pub told : answer ≡ check_answer ended
  pub holds : IsCheckOf map scen plan cert agents ended
