use Rattle.std.proofs.Common.{ap, ◌∙◌}
use Rattle.std.proofs.lemmas.Result.{IfOk-weaker}
use Rattle.clap.specs.Words.{App, with_subcommand}
use Rattle.mapf_words.specs.CommandLine.{check_command, dispatch_command, explain_command, follow_command, play_command, solve_command}
use Rattle.mapf_words.proofs.command.mapf.Goals as goal

pub returns : goal.returns
returns c = IfOk-weaker c.subcommand-6.result _ _ (λ command adds. c.in_ok-explain.ensures.1 _ _ adds
    ∙ ap (λ (app : App). with_subcommand app explain_command.top) (c.in_ok-follow.ensures.1 _ _ c.in_ok-subcommand-5.ensures
    ∙ ap (λ (app : App). with_subcommand app follow_command.top) (c.in_ok-dispatch.ensures.1 _ _ c.in_ok-subcommand-4.ensures
    ∙ ap (λ (app : App). with_subcommand app dispatch_command.top) (c.in_ok-play.ensures.1 _ _ c.in_ok-subcommand-3.ensures
    ∙ ap (λ (app : App). with_subcommand app play_command.top) (c.in_ok-check.ensures.1 _ _ c.in_ok-subcommand-2.ensures
    ∙ ap (λ (app : App). with_subcommand app check_command.top) (c.in_ok-solve.ensures.1 _ _ c.in_ok-subcommand.ensures
    ∙ ap (λ (app : App). with_subcommand app solve_command.top) c.program.ensures)))))) c.subcommand-6.ensures
