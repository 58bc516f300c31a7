-- The command line of the program, as `clap` describes one.
use Rattle.std.specs.Prelude.{◌≡◌, ℕ, pos, List, [], Some, codes, true}
use Rattle.clap.specs.Words.{AddsSubcommand, App, Rule, Text, app_of, fault_of, new_app, new_rule, rows_of}
use Rattle.clap.specs.Words.{subcommand_of}
use Rattle.clap.specs.Words.{with_rule, with_subcommand}
use Rattle.clap.specs.declared.builder.action.ArgAction.TheVariants.{SetTrue}
use Rattle.clap.specs.declared.builder.command.Command.{Command}
use Rattle.clap.specs.declared.parser.matches.Found.{Found}
use Rattle.clap.specs.declared.builder.value_parser.ValueParser.TheVariants.{Signed}
use Rattle.mapf_model.specs.Limits.{most_agents, most_splits}
use Rattle.mapf_words.specs.declared.job.Job.{Job}
use Rattle.mapf_words.specs.Jobs.{IsJobOf, most_improvements}

-- a required positional argument, whose value is any text
abbrev pub file_argument : Text → Rule
file_argument name = record (new_rule name) { required = true }

-- a required positional argument, whose value is a number in this range
abbrev pub number_argument : Text → ℕ → ℕ → Rule
number_argument name low high =
    record (new_rule name) { required = true; parser = Some (Signed (pos low) (pos high)) }

-- `clap` describes the command by this, also once it is a subcommand
abbrev pub IsCommand : App → Command → Type 0
IsCommand app command = (app_of command ≡ app)
    × ((old new : Command) → AddsSubcommand old command new → app_of new ≡ with_subcommand (app_of old) app.top)

-- an option with this name and a value, which is any text; the help names the value
abbrev pub option_argument : Text → Rule
option_argument name = record (new_rule name) { long = Some name; value_names = 1 }

-- an option with this name and a value, which is a number in this range; the help names the value
abbrev pub number_option : Text → ℕ → ℕ → Rule
number_option name low high = record (option_argument name) { parser = Some (Signed (pos low) (pos high)) }

-- an option with this name and no value
abbrev pub flag_argument : Text → Rule
flag_argument name = record (new_rule name) { long = Some name; action = Some SetTrue }

-- a command whose first arguments are MAP, SCEN and K
abbrev pub command_on : Text → App
command_on name =
    with_rule (with_rule (with_rule (new_app name) (file_argument (codes "MAP"))) (file_argument (codes "SCEN")))
    (number_argument (codes "K") 1 most_agents)

-- `solve [--search NAME] [--improve N] [--json] MAP SCEN K LIMIT PLAN CERT`
abbrev pub solve_command : App
solve_command =
    with_rule (with_rule (with_rule (with_rule (with_rule (with_rule (command_on (codes "solve"))
    (number_argument (codes "LIMIT") 0 most_splits)) (file_argument (codes "PLAN"))) (file_argument (codes "CERT")))
    (option_argument (codes "search"))) (number_option (codes "improve") 0 most_improvements))
    (flag_argument (codes "json"))

-- `check [--json] MAP SCEN K PLAN CERT`
abbrev pub check_command : App
check_command =
    with_rule (with_rule (with_rule (command_on (codes "check")) (file_argument (codes "PLAN")))
    (file_argument (codes "CERT"))) (flag_argument (codes "json"))

-- `play MAP SCEN K PLAN`
abbrev pub play_command : App
play_command = with_rule (command_on (codes "play")) (file_argument (codes "PLAN"))

-- `dispatch MAP SCEN K PLAN EVENTS`
abbrev pub dispatch_command : App
dispatch_command =
    with_rule (with_rule (command_on (codes "dispatch")) (file_argument (codes "PLAN")))
    (file_argument (codes "EVENTS"))

-- `follow MAP SCEN K PLAN`
abbrev pub follow_command : App
follow_command = with_rule (command_on (codes "follow")) (file_argument (codes "PLAN"))

-- `explain LINE`
abbrev pub explain_command : App
explain_command = with_rule (new_app (codes "explain")) (file_argument (codes "LINE"))

-- the program without its commands: it has a version, and requires a command
abbrev pub program : App
program =
    let new = new_app (codes "mapf") in
    record new { top = record new.top { has_version = true; subcommand_required = true } }

-- the program with its six commands
abbrev pub mapf_command : App
mapf_command =
    with_subcommand (with_subcommand (with_subcommand (with_subcommand (with_subcommand (with_subcommand program
    solve_command.top) check_command.top) play_command.top) dispatch_command.top) follow_command.top)
    explain_command.top

-- `clap` accepts these words, of which the first is the program's name, and this is the job of the command and the
-- arguments that it finds
abbrev pub IsReadFrom : List Text → Job → Type 0
IsReadFrom words job = (fault_of mapf_command words ≡ []) × (command : Text) × (found : Found)
    × (subcommand_of mapf_command words ≡ Some (command, rows_of found)) × IsJobOf command found job
