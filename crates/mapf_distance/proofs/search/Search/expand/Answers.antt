use Rattle.std.proofs.Common.{◌+◌, ◌∙◌, None, slice_index_or, ap, arith}
use Rattle.mapf_distance.proofs.RelaxLemmas.{taking_first, taking_more, taking_self, taking_end, due_above, due_left, due_right, due_below}
use Rattle.mapf_distance.proofs.search.Search.expand.Goals as goal

pub relax-requires-clause-due : goal.relax-requires-clause-due
relax-requires-clause-due c =
    let began = taking_first c.args.grid.now c.args.cell c.args.self.now c.around_in.ensures c.requires.aim.wide c.requires.search c.requires.level c.requires.low (ap (λ n. n + 1) c.entry-distance.ensures) in
    due_above began c.args.aim.now c.requires.aim c.args.at.1 c.requires.row (slice_index_or c.around_in.result 0 c.index-around_in-0.result) (ap (λ list. slice_index_or list 0 c.index-around_in-0.result) began.beside)

pub relax-requires-2-clause-due : goal.relax-requires-2-clause-due
relax-requires-2-clause-due c =
    let began = taking_first c.args.grid.now c.args.cell c.args.self.now c.around_in.ensures c.requires.aim.wide c.requires.search c.requires.level c.requires.low (ap (λ n. n + 1) c.entry-distance.ensures) in
    let above = taking_more began c.index-around_in-0.result c.relax.new.self (omega arith) c.in_ok-relax.ensures in
    due_left above c.args.aim.now c.requires.aim c.args.at.0 c.requires.column (slice_index_or c.around_in.result 1 c.index-around_in-1.result) (ap (λ list. slice_index_or list 1 c.index-around_in-1.result) above.beside)

pub relax-requires-3-clause-due : goal.relax-requires-3-clause-due
relax-requires-3-clause-due c =
    let began = taking_first c.args.grid.now c.args.cell c.args.self.now c.around_in.ensures c.requires.aim.wide c.requires.search c.requires.level c.requires.low (ap (λ n. n + 1) c.entry-distance.ensures) in
    let above = taking_more began c.index-around_in-0.result c.relax.new.self (omega arith) c.in_ok-relax.ensures in
    let left = taking_more above c.index-around_in-1.result c.relax-2.new.self (omega arith) c.in_ok-relax-2.ensures in
    let here = taking_self left (ap (λ list. slice_index_or list 2 None) left.beside) in
    due_right here c.args.aim.now c.requires.aim c.args.at.0 c.requires.column (slice_index_or c.around_in.result 3 c.index-around_in-3.result) (ap (λ list. slice_index_or list 3 c.index-around_in-3.result) here.beside)

pub relax-requires-4 : goal.relax-requires-4
relax-requires-4 c =
    let began = taking_first c.args.grid.now c.args.cell c.args.self.now c.around_in.ensures c.requires.aim.wide c.requires.search c.requires.level c.requires.low (ap (λ n. n + 1) c.entry-distance.ensures) in
    let above = taking_more began c.index-around_in-0.result c.relax.new.self (omega arith) c.in_ok-relax.ensures in
    let left = taking_more above c.index-around_in-1.result c.relax-2.new.self (omega arith) c.in_ok-relax-2.ensures in
    let here = taking_self left (ap (λ list. slice_index_or list 2 None) left.beside) in
    let right = taking_more here c.index-around_in-3.result c.relax-3.new.self (omega arith) c.in_ok-relax-3.ensures in
    record {
      count = c.relax-3.new.self.table.ok.0 ∙ right.search.0.count;
      due = due_below right c.args.aim.now c.requires.aim c.args.at.1 c.requires.row (slice_index_or c.around_in.result 4 c.index-around_in-4.result) (ap (λ list. slice_index_or list 4 c.index-around_in-4.result) right.beside);
    }

pub returns : goal.returns
returns c =
    let began = taking_first c.args.grid.now c.args.cell c.args.self.now c.around_in.ensures c.requires.aim.wide c.requires.search c.requires.level c.requires.low (ap (λ n. n + 1) c.entry-distance.ensures) in
    let above = taking_more began c.index-around_in-0.result c.relax.new.self (omega arith) c.in_ok-relax.ensures in
    let left = taking_more above c.index-around_in-1.result c.relax-2.new.self (omega arith) c.in_ok-relax-2.ensures in
    let here = taking_self left (ap (λ list. slice_index_or list 2 None) left.beside) in
    let right = taking_more here c.index-around_in-3.result c.relax-3.new.self (omega arith) c.in_ok-relax-3.ensures in
    let below = taking_more right c.index-around_in-4.result c.relax-4.new.self (omega arith) c.in_ok-relax-4.ensures in
    record { search = taking_end below (omega arith); same = below.same; effort = below.effort }
