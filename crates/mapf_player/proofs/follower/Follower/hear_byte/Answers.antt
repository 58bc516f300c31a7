use Rattle.std.proofs.Common.{◌≡◌, ◌∷◌, [], ◌++◌, take, arith, sym, ap, subst, ◌∙◌}
use Rattle.std.proofs.KnownBytes.{Appends-nil}
use Rattle.mapf_player.specs.Following.{HasHeard, Hearing, start_room}
use Rattle.mapf_player.proofs.FollowLemmas.{hears_byte, hears_line, hears_title, line_few, line_works, title_few, title_works}
use Rattle.mapf_player.proofs.follower.Follower.hear_byte.Goals as goal

pub returns-then-byte-ne10-clause-heard : goal.returns-then-byte-ne10-clause-heard
returns-then-byte-ne10-clause-heard g c = λ before came written hearing.
    let new : Hearing = record { progress = c.self.inside.dispatch; line = c.push.new.self; number = c.self.inside.number } in (
      [],
      Appends-nil (g.K.Sink.contents c.args.sink.now),
      hears_byte c.args.grid.now.width before came written c.args.self.now new c.args.byte c.if-byte-ne10.true hearing (ap (λ (h : Hearing). h.progress) c.self.view_is)
          (c.push.ensures ∙ ap (λ (h : Hearing). take start_room (h.line ++ c.args.byte ∷ [])) c.self.view_is) (ap (λ (h : Hearing). h.number) c.self.view_is),
    )

pub returns-then-self-eq1-clause-heard : goal.returns-then-self-eq1-clause-heard
returns-then-self-eq1-clause-heard g c = λ before came written hearing.
    let width = c.args.grid.now.width in (
      [],
      Appends-nil (g.K.Sink.contents c.args.sink.now),
      subst (λ b. HasHeard width before (came ++ b ∷ []) (written ++ []) c.hear_title.new.self c.hear_title.result) (sym c.if-byte-ne10.false)
          (hears_title width before came written c.args.self.now c.hear_title.new.self c.hear_title.result hearing (sym (ap (λ (h : Hearing). h.number) c.self.view_is) ∙ c.if-self-eq1.true) c.hear_title.ensures),
    )

pub returns-then-self-eq1-clause-few : goal.returns-then-self-eq1-clause-few
returns-then-self-eq1-clause-few g c = λ is.
    let few = title_few c.args.self.now c.hear_title.new.self c.hear_title.result c.hear_title.ensures is in
    let one : c.args.self.now.number ≡ 1 = sym (ap (λ (h : Hearing). h.number) c.self.view_is) ∙ c.if-self-eq1.true in
    omega arith

pub returns-then-self-eq1-clause-failed : goal.returns-then-self-eq1-clause-failed
returns-then-self-eq1-clause-failed g c = title_works c.args.self.now c.hear_title.new.self c.hear_title.result _ c.hear_title.ensures c.requires.works

pub returns-else-self-eq1-clause-heard : goal.returns-else-self-eq1-clause-heard
returns-else-self-eq1-clause-heard g c = λ before came written hearing.
    let width = c.args.grid.now.width in
    let (request, read, told) = c.hear_line.ensures.heard in
    let (text, wrote, has) = hears_line width before came written c.args.self.now c.hear_line.new.self (g.K.Sink.contents c.args.sink.now) (g.K.Sink.contents c.hear_line.new.sink) request c.hear_line.result hearing
    (λ is. c.if-self-eq1.false (ap (λ (h : Hearing). h.number) c.self.view_is ∙ is)) c.hear_line.ensures.agents read told in (
      text,
      wrote,
      subst (λ b. HasHeard width before (came ++ b ∷ []) (written ++ text) c.hear_line.new.self c.hear_line.result) (sym c.if-byte-ne10.false) has,
    )

pub returns-else-self-eq1-clause-few : goal.returns-else-self-eq1-clause-few
returns-else-self-eq1-clause-few g c = λ is.
    let (request, read, told) = c.hear_line.ensures.heard in
    line_few c.args.grid.now.width c.args.self.now c.hear_line.new.self (g.K.Sink.contents c.args.sink.now) (g.K.Sink.contents c.hear_line.new.sink) request c.hear_line.result told is

pub returns-else-self-eq1-clause-failed : goal.returns-else-self-eq1-clause-failed
returns-else-self-eq1-clause-failed g c =
    let (request, read, told) = c.hear_line.ensures.heard in
    line_works c.args.grid.now.width c.args.self.now c.hear_line.new.self (g.K.Sink.contents c.args.sink.now) (g.K.Sink.contents c.hear_line.new.sink) request c.hear_line.result _ told c.hear_line.ensures.failed
