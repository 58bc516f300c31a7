use Rattle.std.proofs.Common.{◌+◌, ◌++◌, List, ℕ, [], sym, ◌∙◌, subst, arith}
use Rattle.std.proofs.lemmas.Bool.{eqb-false}
use Rattle.std.proofs.lemmas.List.{append-nil}
use Rattle.mapf_distance.specs.Search.{IsSearch}
use Rattle.mapf_distance.proofs.SearchLemmas.{risen, both_empty, low_level}
use Rattle.mapf_distance.proofs.search.Search.rise.Goals as goal

pub returns-clause-search : goal.returns-clause-search
returns-clause-search c = λ grid search.
    let self = c.args.self.now in
    let none = both_empty self.due.items self.next_row.items c.requires.swept in
    let later = self.later.items in
    let at : List ℕ → List ℕ → Type 0 = λ due rest. IsSearch grid self.start self.goal (λ x. ⊥) (self.level + 2) self.table.items due rest in
    rw (c.swap.ensures.x_after, c.swap.ensures.y_after)
    (subst (λ fresh. at (later ++ fresh) self.due.items) (sym none.1)
    (subst (λ due. at (later ++ []) due) (sym none.0)
    (subst (λ due. at due []) (sym (append-nil later))
    (risen grid self.start self.goal self.level (λ x. ⊥) self.table.items (self.due.items ++ self.next_row.items) later search c.requires.swept))))

pub overflow_add-self : goal.overflow_add-self
overflow_add-self c =
    let self = c.args.self.now in
    let some = eqb-false self.later.len 0 (sym c.is_empty.ensures ∙ c.if-is_empty.false) in
    let low = low_level self.level self.later.items (λ none. some (omega (arith, self.later.ok.0))) c.requires.low in
    omega arith

pub returns-clause-low : goal.returns-clause-low
returns-clause-low c = λ up.
    let self = c.args.self.now in
    let some = eqb-false self.later.len 0 (sym c.is_empty.ensures ∙ c.if-is_empty.false) in
    let low = low_level self.level self.later.items (λ none. some (omega (arith, self.later.ok.0))) c.requires.low in
    omega arith
