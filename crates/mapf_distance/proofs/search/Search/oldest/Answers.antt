use Rattle.std.proofs.Common.{◌≡◌, ◌++◌, [], ap, sym, refl, ◌∙◌, arith}
use Rattle.std.specs.Option.{option_to_list}
use Rattle.std.proofs.lemmas.Bool.{eqb-true}
use Rattle.std.proofs.lemmas.List.{append-nil, nil_from_length}
use Rattle.mapf_distance.specs.Search.{open_of}
use Rattle.mapf_distance.proofs.SearchLemmas.{popped}
use Rattle.mapf_distance.proofs.search.Search.oldest.Goals as goal

pub returns-then-not-is_empty-clause-some : goal.returns-then-not-is_empty-clause-some
returns-then-not-is_empty-clause-some c = λ grid search.
    let self = c.args.self.now in
    let rest = c.pop.new.self.items in
    popped grid self.start self.goal self.level self.table.items (open_of self) (rest ++ self.next_row.items) rest self.next_row.items self.later.items c.pop.result search
    refl (ap (λ due. due ++ self.next_row.items) c.pop.ensures.items)

pub returns-clause-some : goal.returns-clause-some
returns-clause-some c = λ grid search.
    let self = c.args.self.now in
    let row = self.next_row.items in
    let rest = c.pop-2.new.self.items in
    let no_due : self.due.items ≡ [] = nil_from_length self.due.items (let none = eqb-true self.due.len 0 (sym c.is_empty.ensures ∙ c.if-not-is_empty.false) in omega (arith, self.due.ok.0)) in
    let pops : row ≡ rest ++ option_to_list c.pop-2.result = rw c.swap.ensures.x_after at c.pop-2.ensures.items in
    let after : c.swap.new.y.items ≡ [] = rw c.swap.ensures.y_after no_due in
    popped grid self.start self.goal self.level self.table.items (open_of self) (rest ++ c.swap.new.y.items) rest [] self.later.items c.pop-2.result search
    (ap (λ list. rest ++ list) after)
    (ap (λ due. due ++ row) no_due ∙ pops ∙ sym (append-nil (rest ++ option_to_list c.pop-2.result)))
