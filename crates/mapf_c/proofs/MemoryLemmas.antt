-- What is known of a run whose devices are memory.
use Rattle.std.proofs.Common.{◌≡◌, ◌≢◌, ◌<◌, ◌⊎◌, ⊎_elim, inl, inr, ◌++◌, ℕ, false, List, [], Option, Some, Result, Ok, Err, Bool, IfSome, if◌then◌else◌, length, length-append, refl, sym, ap, ◌∙◌, subst, arith}
use Rattle.std.specs.Option.{IsSome}
use Rattle.std.specs.Result.{IsErrAnd}
use Rattle.mapf_app.specs.Answered.{IsLimitedBy, IsOfPlainSearch, answering}
use Rattle.mapf_app.specs.Checked.{HasNoCheckMemory}
use Rattle.mapf_app.specs.Faults.{IsOfDevices, IsOfInput, IsSolving}
use Rattle.mapf_app.specs.Headline.{PrintsTruly}
use Rattle.mapf_app.specs.Planned.{IsDuePlan}
use Rattle.mapf_app.specs.Policy.{PrintsByPolicy}
use Rattle.mapf_app.specs.Problems.{SpellsProblem}
use Rattle.mapf_app.specs.Runs.{IsUnreadable, ReportsSource, WritesTexts}
use Rattle.mapf_app.specs.declared.answer_writer.Answered.{Answered}
use Rattle.mapf_app.specs.declared.fault.Fault.{Fault}
use Rattle.mapf_app.specs.declared.fault.Fault.TheVariants.{F1, F2, F3, F4, F5, F6, Refused}
use Rattle.mapf_app.specs.declared.planned.Planned.{Planned}
use Rattle.mapf_app.specs.declared.fault.Input.TheVariants.{Map, Scen, Plan, Cert, Events}
use Rattle.mapf_c.specs.Answers.{kind_answer, refused_numbers}
use Rattle.mapf_c.specs.Checks.{IsReadable}
use Rattle.mapf_c.specs.Solves.{IsHindrance, IsPut, IsSolutionOf, IsTrueAnswer, fit, of_memory, search_of}
use Rattle.mapf_c.specs.declared.numbers.Answer.{Answer}
use Rattle.mapf_c.specs.declared.numbers.FaultNumbers.{FaultNumbers}
use Rattle.mapf_c.specs.declared.numbers.Question.{Question}
use Rattle.mapf_model.specs.Limits.{most_text_bytes}
use Rattle.mapf_model.specs.Plan.{Instance}
use Rattle.mapf_words.specs.declared.job.Search.{Search}
use Rattle.mapf_words.specs.declared.job.Search.TheVariants.{Cbs}

-- a source of memory can't be read only if it has more bytes than are allowed
too_long : (had left : List ℕ) (limit : ℕ) → IsUnreadable false (Some had) (Some left) limit → limit < length had
too_long had left limit (inl failed) = absurd cc
too_long had left limit (inr (came, all, more)) = omega (arith, ap length all, length-append came left, more)

-- an error of a run that solves texts in memory tells one that can't be read only if it is too long
problem_readable : {T : Type 0} (fault : Fault) (map scen m s : List ℕ) (agents : ℕ) → ReportsSource {T = T} (Err fault) Map most_text_bytes false (Some map) (Some m) → ReportsSource {T = T} (Err fault) Scen most_text_bytes false (Some scen) (Some s) → IsSolving (Some map) (Some scen) agents fault → IsReadable map scen [] [] fault
problem_readable (F1 fault) map scen m s agents of_map of_scen is = tt
problem_readable (F2 fault) map scen m s agents of_map of_scen is = tt
problem_readable (F3 fault) map scen m s agents of_map of_scen is = tt
problem_readable (F4 Map) map scen m s agents of_map of_scen is = too_long map m most_text_bytes (of_map.justified refl)
problem_readable (F4 Scen) map scen m s agents of_map of_scen is = too_long scen s most_text_bytes (of_scen.justified refl)
problem_readable (F4 Plan) map scen m s agents of_map of_scen is = absurd is
problem_readable (F4 Cert) map scen m s agents of_map of_scen is = absurd is
problem_readable (F4 Events) map scen m s agents of_map of_scen is = absurd is
problem_readable (F5 output) map scen m s agents of_map of_scen is = tt
problem_readable F6 map scen m s agents of_map of_scen is = tt
problem_readable (Refused refusal) map scen m s agents of_map of_scen is = tt

-- such an error hinders a call that solves, where a text that can't be written found no memory
hindrance : (map scen : List ℕ) (agents : ℕ) (fault : Fault) → IsSolving (Some map) (Some scen) agents fault → IsReadable map scen [] [] fault → ((problem : Instance) → SpellsProblem (Some map) (Some scen) agents problem → IsOfDevices fault) → IsHindrance map scen agents (of_memory fault)
hindrance map scen agents (F1 fault) is read due = record { reading = is; readable = tt; due = due }
hindrance map scen agents (F2 fault) is read due = record { reading = is; readable = tt; due = due }
hindrance map scen agents (F3 fault) is read due = absurd is
hindrance map scen agents (F4 input) is read due = record { reading = is; readable = read; due = λ problem reads. tt }
hindrance map scen agents (F5 output) is read due = record { reading = tt; readable = tt; due = λ problem reads. tt }
hindrance map scen agents F6 is read due = record { reading = tt; readable = tt; due = λ problem reads. tt }
hindrance map scen agents (Refused refusal) is read due = absurd is

-- what a run that solves promises of an error, and that the error hinders then
abbrev pub Hinders : (T : Type 0) (map scen m s : List ℕ) (agents : ℕ) (fault : Fault) (known_map known_scen : Option (List ℕ)) → Type 0
Hinders T map scen m s agents fault known_map known_scen =
    ReportsSource {T = T} (Err fault) Map most_text_bytes false known_map (Some m) →
    ReportsSource {T = T} (Err fault) Scen most_text_bytes false known_scen (Some s) →
    IsSolving known_map known_scen agents fault →
    ((problem : Instance) → IsSome known_map → IsSome known_scen → SpellsProblem known_map known_scen agents problem → IsOfDevices fault) →
    IsHindrance map scen agents (of_memory fault)

-- an error of a run over sources that report these texts hinders
pub hinders : (T : Type 0) (map scen m s : List ℕ) (agents : ℕ) (fault : Fault) (known_map known_scen : Option (List ℕ)) → known_map ≡ Some map → known_scen ≡ Some scen → Hinders T map scen m s agents fault known_map known_scen
hinders T map scen m s agents fault known_map known_scen map_is scen_is =
    subst (λ (x : Option (List ℕ)). Hinders T map scen m s agents fault x known_scen) (sym map_is)
    (subst (λ (y : Option (List ℕ)). Hinders T map scen m s agents fault (Some map) y) (sym scen_is)
    (λ of_map of_scen is due. hindrance map scen agents fault is (problem_readable {T = T} fault map scen m s agents of_map of_scen is) (λ problem reads. due problem refl refl reads)))

-- the texts of an answer that was written to empty sinks of memory are what these contain
written : (answer : Answered) (Are : Answered → List ℕ → List ℕ → Type 0) (none none_too plan cert : List ℕ) → none ≡ [] → none_too ≡ [] → WritesTexts (Ok answer) Are (Some none) (Some plan) (Some none_too) (Some cert) → Are answer plan cert
written answer Are none none_too plan cert is is_too w =
    let (p, c, are, wrote, wrote_too) = w.texts in
    subst (λ (x : List ℕ). Are answer x cert) (sym (wrote ∙ ap (λ n. n ++ p) is)) (subst (λ (y : List ℕ). Are answer p y) (sym (wrote_too ∙ ap (λ n. n ++ c) is_too)) are)

-- what a run that solves promises of an answer, and that the answer is true then
abbrev pub Answers : (map scen : List ℕ) (asked : Question) (answer : Answered) (none none_too plan cert : List ℕ) (known_map known_scen : Option (List ℕ)) (search : Search) → Type 0
Answers map scen asked answer none none_too plan cert known_map known_scen search =
    WritesTexts (Ok answer) (λ given. PrintsTruly known_map known_scen asked.agents (answering search given.refused) given.kind) (Some none) (Some plan) (Some none_too) (Some cert) →
    WritesTexts (Ok answer) (λ given p c. IsOfPlainSearch search given → PrintsByPolicy known_map known_scen asked.agents asked.limit given.kind p c) (Some none) (Some plan) (Some none_too) (Some cert) →
    IsLimitedBy asked.limit answer.kind →
    IfSome answer.refused (λ refusal. HasNoCheckMemory refusal × (search ≢ Cbs)) →
    IsTrueAnswer map scen asked answer plan cert

-- an answer of a run over sources that report these texts, to sinks that were empty, is true
pub answers : (map scen : List ℕ) (asked : Question) (answer : Answered) (none none_too plan cert : List ℕ) (known_map known_scen : Option (List ℕ)) (search : Search) → none ≡ [] → none_too ≡ [] → known_map ≡ Some map → known_scen ≡ Some scen → search ≡ search_of asked.search → Answers map scen asked answer none none_too plan cert known_map known_scen search
answers map scen asked answer none none_too plan cert known_map known_scen search none_is none_too_is map_is scen_is search_is =
    subst (λ (x : Option (List ℕ)). Answers map scen asked answer none none_too plan cert x known_scen search) (sym map_is)
    (subst (λ (y : Option (List ℕ)). Answers map scen asked answer none none_too plan cert (Some map) y search) (sym scen_is)
    (subst (λ (s : Search). Answers map scen asked answer none none_too plan cert (Some map) (Some scen) s) (sym search_is)
    (λ printed policy limited refused. record {
      printed = written answer (λ given. PrintsTruly (Some map) (Some scen) asked.agents (answering (search_of asked.search) given.refused) given.kind) none none_too plan cert none_is none_too_is printed;
      policy = written answer (λ given p c. IsOfPlainSearch (search_of asked.search) given → PrintsByPolicy (Some map) (Some scen) asked.agents asked.limit given.kind p c) none none_too plan cert none_is none_too_is policy;
      limited = limited;
      refused = refused;
    })))

-- an answer with its texts, told in these numbers, is a solution
pub solution : (map scen : List ℕ) (asked : Question) (answer : Answered) (plan cert plan_text cert_text plan_old plan_new cert_old cert_new : List ℕ) (kind : Answer) (refused : FaultNumbers) (flag : ℕ) (fits : Bool) → plan_text ≡ plan → cert_text ≡ cert → kind ≡ kind_answer answer.kind → refused ≡ refused_numbers answer.refused → flag ≡ (if fits then 1 else 0) → fits ≡ fit plan_text plan_old cert_text cert_old → IsPut fits plan_text plan_old plan_new → IsPut fits cert_text cert_old cert_new → IsTrueAnswer map scen asked answer plan cert → IsSolutionOf map scen asked (record { answer = kind; refused = refused; is_written = flag; plan_length = length plan_text; cert_length = length cert_text }) plan_old plan_new cert_old cert_new
solution map scen asked answer plan cert plan_text cert_text plan_old plan_new cert_old cert_new kind refused flag fits plan_is cert_is kind_is refused_is flag_is fits_is plan_put cert_put holds = record {
  ended = Ok answer;
  plan = plan_text;
  cert = cert_text;
  told = rw kind_is (rw refused_is (rw flag_is (rw fits_is refl)));
  holds = subst (λ (x : List ℕ). IsTrueAnswer map scen asked answer x cert_text) (sym plan_is) (subst (λ (y : List ℕ). IsTrueAnswer map scen asked answer plan y) (sym cert_is) holds);
  plan_put = subst (λ (b : Bool). IsPut b plan_text plan_old plan_new) fits_is plan_put;
  cert_put = subst (λ (b : Bool). IsPut b cert_text cert_old cert_new) fits_is cert_put;
}

-- an error that is returned in place of each valid plan that sources report is one of an input, if these texts spell one
pub unplanned : (map scen plan : List ℕ) (known_map known_scen known_plan : Option (List ℕ)) (agents : ℕ) (fault : Fault) → known_map ≡ Some map → known_scen ≡ Some scen → known_plan ≡ Some plan → ((planned : Planned) → IsDuePlan known_map known_scen known_plan agents planned.problem planned.plan → (◌≡◌ {A = Result Planned Fault} (Err fault) (Ok planned)) ⊎ IsErrAnd {T = Planned} (Err fault) IsOfInput) → (problem : Instance) (paths : List (List ℕ)) → IsDuePlan (Some map) (Some scen) (Some plan) agents problem paths → IsOfInput fault
unplanned map scen plan known_map known_scen known_plan agents fault map_is scen_is plan_is only problem paths due =
    ⊎_elim (λ e. absurd cc) (λ is. is) (only (record { problem = problem; plan = paths })
    (subst (λ (x : Option (List ℕ)). IsDuePlan x known_scen known_plan agents problem paths) (sym map_is)
    (subst (λ (y : Option (List ℕ)). IsDuePlan (Some map) y known_plan agents problem paths) (sym scen_is)
    (subst (λ (z : Option (List ℕ)). IsDuePlan (Some map) (Some scen) z agents problem paths) (sym plan_is) due))))
