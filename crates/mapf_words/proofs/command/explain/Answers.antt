use Rattle.std.proofs.Common.{rules, ap, ap₂, codes, ◌∙◌, ◌≡◌}
use Rattle.std.proofs.lemmas.Result.{IfOk-weaker}
use Rattle.clap.specs.Words.{App, app_of, new_app, with_rule, with_subcommand}
use Rattle.mapf_words.specs.CommandLine.{explain_command}
use Rattle.mapf_words.proofs.command.explain.Goals as goal

pub returns : goal.returns
returns c =
    let new : app_of c.after_help.result ≡ new_app (codes "explain") = search rules in
    IfOk-weaker c.arg.result _ _ (λ command adds.
    let is : app_of command ≡ explain_command = adds.shape c.file.ensures.local ∙ ap₂ with_rule new c.file.ensures.rule in
    (is, λ old after added. added.shape (search rules) ∙ ap (λ (app : App). with_subcommand (app_of old) app.top) is)) c.arg.ensures
