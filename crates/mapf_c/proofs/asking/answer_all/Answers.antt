use Rattle.std.proofs.Common.{◌≡◌, ◌<◌, length, take, get_or, refl, subst, ◌∙◌, arith}
use Rattle.std.proofs.lemmas.List.{drop-set-lt, take_all}
use Rattle.mapf_c.specs.Dispatchers.{AreAnswered}
use Rattle.mapf_c.proofs.AskingLemmas.{answered_more}
use Rattle.mapf_c.proofs.asking.answer_all.Goals as goal

pub loop-place-init : goal.loop-place-init
loop-place-init c = record { answered = refl; rest = λ n le. refl }

pub loop-place-preserved : goal.loop-place-preserved
loop-place-preserved c =
    let agents = c.args.agents.now in
    let replies = c.loop-place.replies in
    let place = c.loop-place.place in
    let within : place < length agents = c.loop-place-test.true in
    let long = c.requires in
    let same : length replies ≡ length c.args.replies.now = c.loop-place.auto.replies in
    record {
      answered = answered_more agents replies place (get_or agents place 0) c.args.dispatch.now c.loop-place.dispatch c.answer.new.dispatch c.answer.result within (omega arith) refl c.loop-place.invariant.answered c.answer.ensures;
      rest = λ n le. drop-set-lt n replies place c.answer.result (omega arith) ∙ c.loop-place.invariant.rest n (omega arith);
    }

pub returns : goal.returns
returns c =
    let agents = c.args.agents.now in
    let low = c.loop-place.auto.place-end in
    let high = c.loop-place-test.false in
    let end : c.loop-place.place ≡ length agents = omega arith in
    let so_far = subst (λ n. AreAnswered c.args.dispatch.now (take n agents) (take n c.loop-place.replies) c.loop-place.dispatch) end c.loop-place.invariant.answered in
    record {
      answered = subst (λ xs. AreAnswered c.args.dispatch.now xs (take (length agents) c.loop-place.replies) c.loop-place.dispatch) (take_all (length agents) agents (omega arith)) so_far;
      rest = c.loop-place.invariant.rest (length agents) low;
    }
