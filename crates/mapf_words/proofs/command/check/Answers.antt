use Rattle.std.proofs.Common.{ap, ap₂, refl, codes, ◌∙◌, ◌≡◌}
use Rattle.std.proofs.lemmas.Result.{IfOk-weaker}
use Rattle.clap.specs.Words.{App, app_of, new_app, with_rule, with_subcommand}
use Rattle.mapf_words.specs.CommandLine.{check_command}
use Rattle.mapf_words.proofs.command.check.Goals as goal

pub returns : goal.returns
returns c =
    let new : app_of c.after_help.result ≡ new_app (codes "check") = rw (c.after_help.ensures, c.about.ensures) c.new.ensures.app in
    IfOk-weaker c.arg-6.result _ _ (λ command adds.
    let is : app_of command ≡ check_command = adds.shape c.json.ensures.local ∙ ap₂ with_rule (c.in_ok-arg-5.ensures.shape c.file-4.ensures.local ∙ ap₂ with_rule (c.in_ok-arg-4.ensures.shape c.file-3.ensures.local ∙ ap₂ with_rule (c.in_ok-arg-3.ensures.shape c.number.ensures.local ∙ ap₂ with_rule (c.in_ok-arg-2.ensures.shape c.file-2.ensures.local ∙ ap₂ with_rule (c.in_ok-arg.ensures.shape c.file.ensures.local ∙ ap₂ with_rule new c.file.ensures.rule) c.file-2.ensures.rule) c.number.ensures.rule) c.file-3.ensures.rule) c.file-4.ensures.rule) c.json.ensures.rule in (
      is,
      λ old after added. added.shape (rw (
        adds.globals,
        c.in_ok-arg-5.ensures.globals,
        c.in_ok-arg-4.ensures.globals,
        c.in_ok-arg-3.ensures.globals,
        c.in_ok-arg-2.ensures.globals,
        c.in_ok-arg.ensures.globals,
        c.json.ensures.local,
        c.file-4.ensures.local,
        c.file-3.ensures.local,
        c.number.ensures.local,
        c.file-2.ensures.local,
        c.file.ensures.local,
        c.after_help.ensures,
        c.about.ensures,
        c.new.ensures.local,
      ) refl) ∙ ap (λ (app : App). with_subcommand (app_of old) app.top) is,
    )) c.arg-6.ensures
