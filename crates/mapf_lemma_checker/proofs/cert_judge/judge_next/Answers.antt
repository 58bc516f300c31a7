use Rattle.std.proofs.Common.{refl}
use Rattle.mapf_lemma_checker.specs.CertJudging.{HasPartRefusal}
use Rattle.mapf_lemma_checker.specs.Faults.{of_lines}
use Rattle.mapf_lemma_checker.specs.States.{JudgeState, ShowsPart}
use Rattle.mapf_lemma_checker.specs.Judges.{state_of}
use Rattle.mapf_lemma_checker.proofs.JudgedLemmas.{between_after, came_to_end, came_with_part, has_place, is_next, is_part_of, judged_all, judged_more, none_awaited, not_judged_on, part_is_bad, part_refutes, stops_judging, stops_reading}
use Rattle.mapf_lemma_texts.specs.PartReading.{IsRestAt}
use Rattle.mapf_lemma_checker.proofs.cert_judge.judge_next.Goals as goal

pub returns-in_err-part-clause-judged : goal.returns-in_err-part-clause-judged
returns-in_err-part-clause-judged g c had start so_far =
    let between = c.requires.between in
    let problem = c.args.problem.now in
    let target = c.args.judge.now.target in
    let state = state_of c.args.judge.now in
    let mid = (g.S.Source).remaining c.args.source.now in
    let left = (g.S.Source).remaining c.next_part.new.source in
    let failed = (g.S.Source).has_failed c.next_part.new.source in
    let now = c.args.reader.now in
    let fault = c.in_err-part.field-0.0 in
    let said = c.in_err-part.ensures in
    let none = none_awaited problem target had mid start now state fault so_far (λ other rest there. said.only_part other rest between.no_fault between.going there) (λ there. said.only_end between.no_fault between.going there) in
    not_judged_on problem target had left failed start c.next_part.new.self state c.from_residual.result (of_lines fault) c.from_residual.ensures.1
    (stops_reading had left failed start.buffer (HasPartRefusal problem target had start) mid now.buffer so_far.taken (IsRestAt now) fault so_far.window (said.fails between.no_fault)
    (λ why other text. (other, (λ parts last awaits shown. text (none parts awaits)), λ parts awaits. text (none parts awaits))))

pub returns-in_default-clause-judged : goal.returns-in_default-clause-judged
returns-in_default-clause-judged g c had start so_far =
    let between = c.requires.between in
    let problem = c.args.problem.now in
    let target = c.args.judge.now.target in
    let state = state_of c.args.judge.now in
    let mid = (g.S.Source).remaining c.args.source.now in
    let left = (g.S.Source).remaining c.next_part.new.source in
    let ends = c.in_ok-part.ensures.end between.no_fault between.going c.in_default.is in
    record {
      read = judged_all problem target had mid left start c.args.reader.now c.next_part.new.self state so_far ends;
      came = came_to_end problem target had mid left start c.args.reader.now c.next_part.new.self state so_far ends;
      stops = tt;
    }

pub part-requires-clause-part : goal.part-requires-clause-part
part-requires-clause-part g c =
    let between = c.requires.between in
    let takes = rw c.in-Some.is at (c.in_ok-part.ensures.part between.no_fault between.going) in
    is_part_of c.args.problem.now c.args.judge.now.target ((g.S.Source).remaining c.args.source.now) ((g.S.Source).remaining c.next_part.new.source) c.args.reader.now c.next_part.new.self (state_of c.args.judge.now) between c.in-Some.part takes.read

pub part-requires-clause-place : goal.part-requires-clause-place
part-requires-clause-place g c =
    let between = c.requires.between in
    let takes = rw c.in-Some.is at (c.in_ok-part.ensures.part between.no_fault between.going) in
    has_place c.args.problem.now c.args.judge.now.target ((g.S.Source).remaining c.args.source.now) ((g.S.Source).remaining c.next_part.new.source) c.args.reader.now c.next_part.new.self (state_of c.args.judge.now) between c.in-Some.part takes.read

pub returns-in_err-part-2-clause-judged : goal.returns-in_err-part-2-clause-judged
returns-in_err-part-2-clause-judged g c had start so_far =
    let between = c.requires.between in
    let problem = c.args.problem.now in
    let target = c.args.judge.now.target in
    let state = state_of c.args.judge.now in
    let mid = (g.S.Source).remaining c.args.source.now in
    let left = (g.S.Source).remaining c.next_part.new.source in
    let failed = (g.S.Source).has_failed c.next_part.new.source in
    let now = c.args.reader.now in
    let new = c.next_part.new.self in
    let said = c.in_ok-part.ensures in
    let part = c.in-Some.part in
    let next = is_next mid left now new c.in_ok-part.field-0 part c.in-Some.is (said.part between.no_fault between.going) (λ other rest there. said.only_part other rest between.no_fault between.going there) (said.only_end between.no_fault between.going) in
    let fault = c.in_err-part-2.field-0.0 in
    not_judged_on problem target had left failed start new (state_of c.part.new.self) c.from_residual-in_err-part-2.result fault c.from_residual-in_err-part-2.ensures.1
    (stops_judging problem target had left failed start ((after : JudgeState) → ShowsPart problem target state part after → ⊥) fault said.works
    (came_with_part problem target had mid left start now new state so_far part next) c.in_err-part-2.ensures.refused
    (part_refutes problem target had mid left start now new state so_far part next) (part_is_bad problem target had mid left start now new state so_far part next))

pub returns-clause-judged : goal.returns-clause-judged
returns-clause-judged g c had start so_far =
    let between = c.requires.between in
    let problem = c.args.problem.now in
    let target = c.args.judge.now.target in
    let state = state_of c.args.judge.now in
    let mid = (g.S.Source).remaining c.args.source.now in
    let left = (g.S.Source).remaining c.next_part.new.source in
    let now = c.args.reader.now in
    let new = c.next_part.new.self in
    let said = c.in_ok-part.ensures in
    let part = c.in-Some.part in
    let next = is_next mid left now new c.in_ok-part.field-0 part c.in-Some.is (said.part between.no_fault between.going) (λ other rest there. said.only_part other rest between.no_fault between.going there) (said.only_end between.no_fault between.going) in
    record {
      read = judged_more problem target had mid left start now new state so_far part next c.lemmas_are_decided.ensures.statement (state_of c.part.new.self) c.in_ok-part-2.ensures.shown;
      came = came_with_part problem target had mid left start now new state so_far part next;
      stops = tt;
    }

pub returns-clause-between : goal.returns-clause-between
returns-clause-between g c came =
    let between = c.requires.between in
    let said = c.in_ok-part.ensures in
    let takes = rw c.in-Some.is at (said.part between.no_fault between.going) in
    let going = rw c.in-Some.is at said.whole in
    between_after c.args.problem.now c.args.judge.now.target ((g.S.Source).remaining c.args.source.now) ((g.S.Source).remaining c.next_part.new.source) c.args.reader.now c.next_part.new.self (state_of c.args.judge.now) between c.in-Some.part takes.read
    (state_of c.part.new.self) c.in_ok-part-2.ensures.shown said.unfaulted (going refl)
