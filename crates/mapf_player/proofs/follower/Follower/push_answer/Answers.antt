use Rattle.std.proofs.Common.{◌≡◌, ◌++◌, Ok, Err, ap, ◌∙◌, refl, sym, subst}
use Rattle.mapf_player.specs.Following.{IsGiven, error_line, only}
use Rattle.mapf_player.proofs.FollowLemmas.{gives_error}
use Rattle.mapf_player.proofs.follower.Follower.push_answer.Goals as goal

pub returns-in-Ok : goal.returns-in-Ok
returns-in-Ok c =
    let is : c.args.request ≡ Ok c.in-Ok.request = c.in-Ok.is in
    let (told, given, text, line, number) = c.push_granted.ensures in
    (told, subst (λ r. IsGiven c.args.grid.now.width c.args.self.now.progress r told c.push_granted.new.self.progress) (sym is) given, text, line, number)

pub returns-in-Err : goal.returns-in-Err
returns-in-Err c =
    let is : c.args.request ≡ Err c.in-Err.fault = cc in (
      only (error_line c.in-Err.fault),
      gives_error c.args.grid.now.width c.args.self.now.progress c.in-Err.fault c.args.request is,
      c.push_error.ensures ∙ ap (λ bs. bs ++ error_line c.in-Err.fault) c.requires.empty,
      refl,
      refl,
    )
