use Rattle.std.proofs.Common.{◌++◌, ap, sym, refl, ◌∙◌, []}
use Rattle.std.specs.Option.{option_to_list}
use Rattle.std.proofs.lemmas.List.{append_assoc, append-nil}
use Rattle.mapf_distance.proofs.SearchLemmas.{popped}
use Rattle.mapf_distance.specs.Search.{open_of}
use Rattle.mapf_distance.proofs.search.Search.newest.Goals as goal

pub returns-then-is_empty-clause-some : goal.returns-then-is_empty-clause-some
returns-then-is_empty-clause-some c = λ grid search.
    let self = c.args.self.now in
    let rest = c.pop.new.self.items in
    popped grid self.start self.goal self.level self.table.items (open_of self) (rest ++ self.next_row.items) rest self.next_row.items self.later.items c.pop.result search
    refl (ap (λ due. due ++ self.next_row.items) c.pop.ensures.items)

pub returns-else-is_empty-clause-some : goal.returns-else-is_empty-clause-some
returns-else-is_empty-clause-some c = λ grid search.
    let self = c.args.self.now in
    let due = self.due.items in
    let rest = c.pop-else-is_empty.new.self.items in
    popped grid self.start self.goal self.level self.table.items (open_of self) (due ++ rest) (due ++ rest) [] self.later.items c.pop-else-is_empty.result search
    (sym (append-nil (due ++ rest)))
    (ap (λ list. due ++ list) c.pop-else-is_empty.ensures.items ∙ sym (append_assoc due rest (option_to_list c.pop-else-is_empty.result)) ∙ sym (append-nil (due ++ rest ++ option_to_list c.pop-else-is_empty.result)))
