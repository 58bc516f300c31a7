use Rattle.std.proofs.Common.{rules, ap, ap₂, codes, ◌∙◌, ◌≡◌}
use Rattle.std.proofs.lemmas.Result.{IfOk-weaker}
use Rattle.clap.specs.Words.{App, app_of, new_app, with_rule, with_subcommand}
use Rattle.mapf_words.specs.CommandLine.{follow_command}
use Rattle.mapf_words.proofs.command.follow.Goals as goal

pub returns : goal.returns
returns c =
    let new : app_of c.after_help.result ≡ new_app (codes "follow") = search rules in
    IfOk-weaker c.arg-4.result _ _ (λ command adds.
    let is : app_of command ≡ follow_command = adds.shape c.file-3.ensures.local ∙ ap₂ with_rule (c.in_ok-arg-3.ensures.shape c.number.ensures.local ∙ ap₂ with_rule (c.in_ok-arg-2.ensures.shape c.file-2.ensures.local ∙ ap₂ with_rule (c.in_ok-arg.ensures.shape c.file.ensures.local ∙ ap₂ with_rule new c.file.ensures.rule) c.file-2.ensures.rule) c.number.ensures.rule) c.file-3.ensures.rule in
    (is, λ old after added. added.shape (search rules) ∙ ap (λ (app : App). with_subcommand (app_of old) app.top) is)) c.arg-4.ensures
